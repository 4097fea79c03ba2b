use Rattle.hierarchy.specs.Tables.{row}
use Rattle.hierarchy.specs.Views.{ScopeBy}
use Rattle.hierarchy.proofs.Sift.{Sifted}
use Rattle.scopes.proofs.scope.Given as goal

abbrev pub invariant-loop-r : goal.invariant-loop-r
invariant-loop-r l = Sifted (ScopeBy l.kept.derives l.kept.derivers l.a) (row l.kept.derives l.a) l.found l.r-iterator.left
