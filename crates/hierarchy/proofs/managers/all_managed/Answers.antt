use borrow.Author.Rules.{rules}
use mathlib.Core.Path.{sym, ◌∙◌}
use Rattle.hierarchy.proofs.Managing.{pass_start, pass_turn, at_role}
use Rattle.hierarchy.proofs.managers.all_managed.Goals as goal

pub loop-r-init : goal.loop-r-init
loop-r-init c = pass_start c.without.result c.without.ensures (search rules)

pub loop-r-preserved : goal.loop-r-preserved
loop-r-preserved c = let t = c.in-Some.ensures.steps in pass_turn t c.loop-r.invariant (λ q. c.if-kept-r-eq-NONE.false (sym (at_role c.args.kept.now.manager _ (search rules) t.lowest.role) ∙ q))
