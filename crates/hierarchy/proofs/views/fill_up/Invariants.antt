use mathlib.Core.Path.{◌≡◌}
use Rattle.hierarchy.proofs.Rows.{Turning}
use Rattle.hierarchy.proofs.views.fill_up.Given as goal

abbrev pub invariant-loop-x : goal.invariant-loop-x
invariant-loop-x l = Turning l.live l.kept.derives l.kept.derivers l.x-iterator.left × (l.kept.derives ≡ l.initial.kept.derives)
