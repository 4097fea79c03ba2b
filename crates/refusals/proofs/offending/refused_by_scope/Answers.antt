use Rattle.board.proofs.Looking.{holds, fails}
use Rattle.refusals.proofs.Trying.{in_scope_alike, scope_holds, scope_fails}
use Rattle.refusals.proofs.offending.refused_by_scope.Goals as goal

pub returns-then-within_scope : goal.returns-then-within_scope
returns-then-within_scope c = scope_holds ((in_scope_alike c.args.f.now.command c.scope-all.ensures).0 (holds c.within_scope.ensures c.if-within_scope.true))

pub blame-requires : goal.blame-requires
blame-requires c = (c.scope-all.ensures, fails c.within_scope.ensures c.if-within_scope.false)

pub returns : goal.returns
returns c = scope_fails (λ k. fails c.within_scope.ensures c.if-within_scope.false ((in_scope_alike c.args.f.now.command c.scope-all.ensures).1 k)) c.blame.ensures
