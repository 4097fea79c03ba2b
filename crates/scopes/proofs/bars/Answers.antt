use borrow.Author.Rules.{rules}
use Rattle.sets.proofs.Bools.{false_no}
use Rattle.sets.proofs.Members.{picked}
use mathlib.Core.Logic.{inr, ⊎_elim}
use Rattle.hierarchy.specs.Views.{OutOfScopeBy.not_derived, OutOfScopeBy.in_the_way}
use Rattle.hierarchy.proofs.Managing.{bar_way, past_row}
use Rattle.scopes.proofs.bars.Goals as goal
use Rattle.scopes.proofs.bars.Goals.{then-not-has-via-then-not-has, then-not-has-via-else-not-has+then-not-has-2}

pub returns-then-a-ge64 : goal.returns-then-a-ge64
returns-then-a-ge64 c = let k = c.args.kept.now in inr (not_derived (λ p. ⊎_elim (λ w. past_row k.derives c.args.a c.args.r (search rules) w p.0) (λ w. past_row k.derivers c.args.r c.args.a (search rules) w.1 p.1) c.then-a-ge64.either))

pub returns-then-not-has : goal.returns-then-not-has
returns-then-not-has c = elim c.then-not-has.branch [
  | then-not-has-via-then-not-has w ↦ inr (not_derived (λ p. false_no w.if-not-has.true (search rules)))
  | then-not-has-via-else-not-has+then-not-has-2 w ↦ inr (not_derived (λ p. false_no w.if-not-has-2.true (search rules)))
]

pub returns : goal.returns
returns c = inr (in_the_way (search rules) (search rules) (bar_way c.related.result c.minus.result c.related.ensures (λ x. search rules) (picked c.in_ok-stranger.was c.lowest.ensures)))
