use Rattle.std.proofs.Common.{sym, ◌∙◌}
use Rattle.std.proofs.lemmas.Bool.{eqb-false, eqb-true}
use Rattle.wording.proofs.Numbers.{read_turn, read_stop, read_end, role_none}
use Rattle.wording.proofs.names.role.Goals as goal

pub returns-then-is_empty : goal.returns-then-is_empty
returns-then-is_empty c = role_none _ (eqb-true _ _ (sym c.is_empty.ensures ∙ c.if-is_empty.true))

pub returns-in_err-number : goal.returns-in_err-number
returns-in_err-number c = rw c.from_residual.ensures (read_stop c.loop-b.invariant c.loop-b-test.true (sym c.in_err-number.was ∙ c.grown.ensures))

pub loop-b-preserved : goal.loop-b-preserved
loop-b-preserved c = read_turn c.loop-b.invariant c.loop-b-test.true (sym c.in_ok-number.was ∙ c.grown.ensures)

pub returns : goal.returns
returns c = read_end c.loop-b.invariant c.loop-b-test.false (eqb-false _ _ (sym c.is_empty.ensures ∙ c.if-is_empty.false))
