use Rattle.std.specs.Iterator.Adapters.{zip_first, zip_second}
use Rattle.std.specs.Slice.Iter.{iter_rest}
use Rattle.boardfile.proofs.RightBytes.{SoFar}
use Rattle.boardfile.proofs.rights.held.Given as goal

abbrev pub invariant-loop-role : goal.invariant-loop-role
invariant-loop-role l = SoFar l.f.file.now l.start l.f.live (zip_first l.role-iterator).left (iter_rest (zip_second l.role-iterator)) l.rights
