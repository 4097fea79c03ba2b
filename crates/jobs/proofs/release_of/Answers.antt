use mathlib.Core.Path.{sym}
use mathlib.Core.Logic.{inl, inr}
use Rattle.std.proofs.lemmas.Result.{err_from_is_err_and}
use Rattle.board.proofs.Answering.{number_of_some}
use Rattle.jobs.proofs.Deciding.{found, refused_first, release_14, release_15, release_done, barred, unbarred}
use Rattle.jobs.proofs.release_of.Goals as goal
use Rattle.jobs.proofs.release_of.Goals.{else-not-by_holder-via-then-not-by_holder+else-is_some, else-not-by_holder-via-else-not-by_holder}

pub returns-in_err-scoped : goal.returns-in_err-scoped
returns-in_err-scoped c =
    let p = err_from_is_err_and c.from_residual.result c.from_residual.ensures.1 in
    rw (p.1, p.2) (refused_first _ _ _ _ c.role_of-listed.ensures _ c.in_err-scoped.ensures.numbered _ (number_of_some _))

pub holder-requires : goal.holder-requires
holder-requires c = found _ _ _ _ c.role_of-listed.ensures c.in_ok-scoped.ensures.numbered

pub returns-in_default : goal.returns-in_default
returns-in_default c = release_14 _ _ _ _ c.role_of-listed.ensures _ c.in_ok-scoped.ensures c.in_default.ensures

pub returns-then-is_some : goal.returns-then-is_some
returns-then-is_some c = release_15 _ _ _ _ c.role_of-listed.ensures _ c.in_ok-scoped.ensures _ c.in-Some.ensures c.if-not-by_holder.true (barred _ (sym c.if-is_some.ensures))

pub returns : goal.returns
returns c = release_done _ _ _ _ c.role_of-listed.ensures _ c.in_ok-scoped.ensures _ c.in-Some.ensures
    (elim c.else-not-by_holder.branch [
      | else-not-by_holder-via-then-not-by_holder+else-is_some w ↦ inr (unbarred _ (sym w.if-is_some.ensures))
      | else-not-by_holder-via-else-not-by_holder w ↦ inl w.if-not-by_holder.false
    ]) c.free.ensures.0 c.free.ensures.1
