use Rattle.std.specs.Prelude.{None}
use Rattle.board.specs.Answers.{value_or}
use Rattle.questions.proofs.Viewing.{manager_viewed}
use Rattle.boardfile.proofs.Asking.{handed_on, on_file}
use Rattle.boardfile.proofs.Readings.{sound, read_done}
use Rattle.boardfile.proofs.ask.line_manager.Goals as goal

pub returns-in_err-open : goal.returns-in_err-open
returns-in_err-open c = handed_on _ _ (value_or None) c.from_residual.ensures.1 c.in_err-open.ensures

pub returns : goal.returns
returns c = on_file (read_done c.in_ok-open.ensures) _ _ (manager_viewed (sound c.in_ok-open.ensures) _ c.line_manager_trusting.ensures)
