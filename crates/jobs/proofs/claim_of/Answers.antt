use mathlib.Core.Path.{sym}
use Rattle.std.proofs.lemmas.Result.{err_from_is_err_and}
use Rattle.board.proofs.Answering.{number_of_some}
use Rattle.jobs.proofs.Deciding.{found, refused_first, claim_14, claim_15, claim_done}
use Rattle.jobs.proofs.claim_of.Goals as goal

pub returns-in_err-derived : goal.returns-in_err-derived
returns-in_err-derived c =
    let p = err_from_is_err_and c.from_residual.result c.from_residual.ensures.1 in
    rw (p.1, p.2) (refused_first _ _ _ _ c.role_of-listed.ensures _ c.in_err-derived.ensures.numbered _ (number_of_some _))

pub holder-requires : goal.holder-requires
holder-requires c = found _ _ _ _ c.role_of-listed.ensures c.in_ok-derived.ensures.numbered

pub returns-then-is_some : goal.returns-then-is_some
returns-then-is_some c = claim_14 _ _ _ _ c.role_of-listed.ensures _ c.in_ok-derived.ensures _ c.holder.ensures (sym c.if-is_some.ensures)

pub returns-then-not-derived : goal.returns-then-not-derived
returns-then-not-derived c = claim_15 _ _ _ _ c.role_of-listed.ensures _ c.in_ok-derived.ensures _ c.holder.ensures (sym c.if-is_some.ensures) c.if-not-derived.true

pub returns : goal.returns
returns c = claim_done _ _ _ _ c.role_of-listed.ensures _ c.in_ok-derived.ensures _ c.holder.ensures (sym c.if-is_some.ensures) c.if-not-derived.false c.take.ensures.0 c.take.ensures.1

pub take-requires : goal.take-requires
take-requires c = found _ _ _ _ c.role_of-listed.ensures c.in_ok-derived.ensures.numbered
