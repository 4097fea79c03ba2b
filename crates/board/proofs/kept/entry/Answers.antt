use mathlib.Core.Path.{sym, ◌∙◌}
use native.Mathlib.Nat.{le_refl}
use lib.ListN.{get_or-eq_default}
use Rattle.board.proofs.Reading.{from_then, from_none}
use Rattle.board.proofs.kept.entry.Goals as goal

pub returns-in_err-m : goal.returns-in_err-m
returns-in_err-m c = c.from_residual.ensures ∙ from_none 64 _ (sym (get_or-eq_default c.args.manager.now 64 c.in_err-m.ensures.lookup.3)) (le_refl 64)

pub returns : goal.returns
returns c = c.then_some.ensures ∙ from_then _ _ (c.in_ok-m.ensures.lookup.3.1 64)
