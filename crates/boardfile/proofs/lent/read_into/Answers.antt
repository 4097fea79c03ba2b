use Rattle.std.proofs.lemmas.Result.{err_from_is_err_and}
use Rattle.board.proofs.Answering.{number_of_some}
use Rattle.boardfile.proofs.Readings.{into_refused}
use Rattle.boardfile.proofs.lent.read_into.Goals as goal

pub returns-in_err-open : goal.returns-in_err-open
returns-in_err-open c =
    let p = err_from_is_err_and c.from_residual.result c.from_residual.ensures.1 in
    rw (p.1, p.2) (into_refused c.in_err-open.ensures _ (number_of_some _))
