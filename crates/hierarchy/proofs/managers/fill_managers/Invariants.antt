use mathlib.Core.Path.{◌≡◌}
use Rattle.hierarchy.proofs.Managing.{Filling}
use Rattle.hierarchy.proofs.managers.fill_managers.Given as goal

abbrev pub invariant-loop-r : goal.invariant-loop-r
invariant-loop-r l =
    Filling l.live l.kept.derives l.kept.derivers l.kept.manager l.r-iterator.left
    × ((l.kept.derives ≡ l.initial.kept.derives) × (l.kept.derivers ≡ l.initial.kept.derivers))
