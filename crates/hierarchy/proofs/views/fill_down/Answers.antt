use borrow.Author.Rules.{rules}
use mathlib.Core.Path.{refl, sym, ◌∙◌}
use Rattle.sets.proofs.Members.{nobody}
use Rattle.hierarchy.proofs.Walk.{at_first, order_end, order_stuck, order_less}
use Rattle.hierarchy.proofs.views.fill_down.Goals as goal

pub loop-root-init : goal.loop-root-init
loop-root-init c = at_first refl refl (search rules)

pub returns : goal.returns
returns c = order_end c.loop-root.invariant c.minus.result c.minus.ensures (nobody c.in_default.is c.lowest.ensures)

pub returns-then-not-has : goal.returns-then-not-has
returns-then-not-has c = order_stuck c.descend-done.ensures (sym c.has.ensures ∙ c.if-not-has.true)

pub loop-root-smaller : goal.loop-root-smaller
loop-root-smaller c = order_less c.descend-done.ensures (search rules) (sym c.has.ensures ∙ c.if-not-has.false)
