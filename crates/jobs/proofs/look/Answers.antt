use mathlib.Core.Path.{refl}
use native.Mathlib.Omega.{arith}
use Rattle.hierarchy.proofs.FirstLaws.{hit, pass, none}
use Rattle.board.proofs.Asking.{answer_refused, answer_done}
use Rattle.jobs.proofs.Deciding.{placed, unlisted, state_by}
use Rattle.jobs.proofs.look.Goals as goal

pub returns-then-not-is_listed : goal.returns-then-not-is_listed
returns-then-not-is_listed c = answer_refused (hit _ _ _ (unlisted _ _ c.is_listed.ensures c.if-not-is_listed.true)) (λ k. omega (arith, k))

pub holder-requires : goal.holder-requires
holder-requires c = placed _ _ (c.is_listed.ensures.0 c.if-not-is_listed.false)

pub returns : goal.returns
returns c =
    let l = c.is_listed.ensures.0 c.if-not-is_listed.false in
    answer_done (pass _ _ _ _ (λ g. omega (arith, g, l)) none) refl (state_by _ _ l _ c.holder.ensures)
