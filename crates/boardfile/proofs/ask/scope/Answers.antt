use Rattle.questions.specs.Scoped.{said, count, cause, way}
use Rattle.questions.proofs.Viewing.{scope_viewed}
use Rattle.boardfile.proofs.Asking.{handed_on, on_file}
use Rattle.boardfile.proofs.Readings.{sound, read_done}
use Rattle.boardfile.proofs.ask.scope.Goals as goal

pub returns-in_err-open : goal.returns-in_err-open
returns-in_err-open c = handed_on _ _ (λ r. (said r, count r, cause r, way r)) c.from_residual.ensures.1 c.in_err-open.ensures

pub returns : goal.returns
returns c = on_file (read_done c.in_ok-open.ensures) _ _ (scope_viewed (sound c.in_ok-open.ensures) _ _ c.scope_trusting.ensures)
