use Rattle.board.specs.Answers.{value_or}
use Rattle.questions.proofs.Viewing.{steps_viewed}
use Rattle.boardfile.proofs.Asking.{handed_on, on_file}
use Rattle.boardfile.proofs.Readings.{sound, read_done}
use Rattle.boardfile.proofs.ask.steps.Goals as goal

pub returns-in_err-open : goal.returns-in_err-open
returns-in_err-open c = handed_on _ _ (value_or 0) c.from_residual.ensures.1 c.in_err-open.ensures

pub returns : goal.returns
returns c = on_file (read_done c.in_ok-open.ensures) _ _ (steps_viewed (sound c.in_ok-open.ensures) _ c.steps_trusting.ensures)
