use borrow.Author.Rules.{rules}
use Rattle.sets.proofs.Bools.{false_no}
use Rattle.sets.proofs.Digits.{bit_zero}
use Rattle.hierarchy.proofs.Managing.{past_row}
use Rattle.hierarchy.proofs.Sift.{sift_start, sift_in, sift_out}
use Rattle.scopes.proofs.scope.Goals as goal

pub returns-then-a-ge64 : goal.returns-then-a-ge64
returns-then-a-ge64 c = λ r. (λ e. absurd (false_no (bit_zero r) e), λ s. absurd (past_row _ _ _ (search rules) c.if-a-ge64.true s.derives))

pub loop-r-init : goal.loop-r-init
loop-r-init c = sift_start (search rules)

pub loop-r-preserved-then-in_scope : goal.loop-r-preserved-then-in_scope
loop-r-preserved-then-in_scope c = sift_in c.in-Some.ensures.steps c.loop-r.invariant c.with-found.result (c.in_scope.ensures.0 c.if-in_scope.true) c.with-found.ensures

pub loop-r-preserved : goal.loop-r-preserved
loop-r-preserved c = sift_out c.in-Some.ensures.steps c.loop-r.invariant (λ s. false_no c.if-in_scope.false (c.in_scope.ensures.1 s))
