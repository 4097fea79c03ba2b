use mathlib.Core.Path.{refl, subst}
use Rattle.std.proofs.lemmas.Result.{err_from_is_err_and}
use Rattle.hierarchy.specs.First.{First}
use Rattle.hierarchy.specs.Views.{ScopeBy}
use Rattle.board.specs.Answers.{answer}
use Rattle.board.specs.declared.Command.{Command}
use Rattle.board.proofs.Looking.{holds, fails}
use Rattle.refusals.specs.Entitled.{Entitled}
use Rattle.refusals.specs.Refusals.{Names, by_scope}
use Rattle.refusals.specs.Trusting.{DerivesBy, BlamesBy}
use Rattle.refusals.proofs.Down.{down_refused, down_unentitled, down_scope}
use Rattle.refusals.proofs.refused_on_board.Goals as goal

pub returns-in_err-f : goal.returns-in_err-f
returns-in_err-f c =
    let p = err_from_is_err_and c.from_residual.result c.from_residual.ensures.1 in
    rw (p.1, p.2) (down_refused _ _ _ _ _ _ _ c.in_err-f.ensures.0)

pub returns-then-not-entitled : goal.returns-then-not-entitled
returns-then-not-entitled c =
    let b = c.args.b.now in
    down_unentitled _ _ _ _ _ _ 0 refl c.in_ok-f.ensures.0
    (subst (λ (k : Command). Entitled (DerivesBy b.kept.derives) b.rights k → ⊥) c.in_ok-f.ensures.1 (fails c.entitled.ensures c.if-not-entitled.true)) refl

pub returns : goal.returns
returns c =
    let b = c.args.b.now in
    let d = b.kept.derives in
    let u = b.kept.derivers in
    down_scope _ _ _ _ _ _ 0 refl c.in_ok-f.ensures.0
    (subst (Entitled (DerivesBy d) b.rights) c.in_ok-f.ensures.1 (holds c.entitled.ensures c.if-not-entitled.false))
    (subst (λ (k : Command). First (by_scope (ScopeBy d u) k) (answer c.refused_by_scope.result).number × Names (BlamesBy d u k) (answer c.refused_by_scope.result)) c.in_ok-f.ensures.1 c.refused_by_scope.ensures)
