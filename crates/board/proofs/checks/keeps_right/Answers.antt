use mathlib.Core.Path.{sym, ◌∙◌}
use Rattle.board.proofs.Looking.{never, found_none, found_one, worked_sound, worked_unsound, worked_right, keeps_is}
use Rattle.board.proofs.checks.keeps_right.Goals as goal

pub returns-then-is_err : goal.returns-then-is_err
returns-then-is_err c = never (λ s. worked_unsound c.work_out.ensures (found_one _ (sym c.is_err.ensures.value ∙ c.if-is_err.true)) s.0)

pub returns : goal.returns
returns c =
    let w = c.work_out.ensures in
    let z = found_none _ (sym c.is_err.ensures.value ∙ c.if-is_err.false) in
    keeps_is (worked_sound w c.shaped.ensures c.requires.0 c.requires.1 z) (worked_right w z) c.same.ensures
