use mathlib.Core.Logic.{◌≢◌}
use Rattle.hierarchy.specs.Views.{manager_at}
use Rattle.hierarchy.proofs.Managing.{Passing}
use Rattle.hierarchy.proofs.managers.all_managed.Given as goal

abbrev pub invariant-loop-r : goal.invariant-loop-r
invariant-loop-r l = Passing (λ r. manager_at l.kept.manager r ≢ 64) l.live l.r-iterator.left
