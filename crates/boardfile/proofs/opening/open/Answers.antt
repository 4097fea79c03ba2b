use borrow.Author.Rules.{rules}
use Rattle.std.proofs.lemmas.Result.{err_from_is_err_and}
use Rattle.boardfile.proofs.Readings.{opened_as, refused_frame, refused_record, opened_or_not}
use Rattle.boardfile.proofs.opening.open.Goals as goal

pub returns-in_err-layout : goal.returns-in_err-layout
returns-in_err-layout c =
    let p = err_from_is_err_and c.from_residual.result c.from_residual.ensures.1 in
    rw (p.1, p.2) (refused_frame _ c.in_err-layout.ensures)

pub returns-in_err-f : goal.returns-in_err-f
returns-in_err-f c =
    let p = err_from_is_err_and c.from_residual-in_err-f.result c.from_residual-in_err-f.ensures.1 in
    rw (p.1, p.2) (refused_record _ c.in_ok-layout.ensures.faultless c.in_err-f.ensures)

pub returns-in_err-edges : goal.returns-in_err-edges
returns-in_err-edges c =
    let p = err_from_is_err_and c.from_residual-in_err-edges.result c.from_residual-in_err-edges.ensures.1 in
    let f = c.in_ok-f.f in
    rw (p.1, p.2) (opened_as c.in_ok-f.ensures (refused_record _ f.framed.faultless c.in_err-edges.ensures))

pub returns-in_err-b : goal.returns-in_err-b
returns-in_err-b c =
    let p = err_from_is_err_and c.from_residual-in_err-b.result c.from_residual-in_err-b.ensures.1 in
    let f = c.in_ok-f.f in
    rw (p.1, p.2) (opened_as c.in_ok-f.ensures (refused_record _ f.framed.faultless c.in_err-b.ensures))

pub returns : goal.returns
returns c =
    let f = c.in_ok-f.f in
    opened_as c.in_ok-f.ensures (opened_or_not _ _ _ f.framed f.listed c.in_ok-edges.ensures c.in_ok-b.ensures c.work_out.ensures _ c.map_err.ensures.cases (λ e d h. search rules))
