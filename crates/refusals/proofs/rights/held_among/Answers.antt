use borrow.Author.Rules.{rules}
use Rattle.refusals.proofs.Entitling.{gathered_start, gathered_turn}
use Rattle.refusals.proofs.rights.held_among.Goals as goal

pub loop-x-init : goal.loop-x-init
loop-x-init c = gathered_start (search rules)

pub loop-x-preserved : goal.loop-x-preserved
loop-x-preserved c = gathered_turn c.in-Some.ensures.steps (λ k. rw (← c.from.ensures) (c.union-all.ensures k)) c.loop-x.invariant
