use Rattle.board.specs.Answers.{value_or}
use Rattle.writer.specs.Parts.{nowhere}
use Rattle.boardfile.proofs.Asking.{handed_on, of_file}
use Rattle.boardfile.proofs.Readings.{read_done}
use Rattle.boardfile.proofs.stretches.bounds.Goals as goal

pub returns-in_err-open : goal.returns-in_err-open
returns-in_err-open c = handed_on _ _ (λ r. let span = value_or nowhere r in (span.start, span.len)) c.from_residual.ensures.1 c.in_err-open.ensures

pub returns : goal.returns
returns c = of_file (read_done c.in_ok-open.ensures) _ _ c.place.ensures
