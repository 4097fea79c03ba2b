use Rattle.boardfile.proofs.RoleBytes.{SoFar}
use Rattle.boardfile.proofs.reader.Listed.of.Given as goal

abbrev pub invariant-loop-byte : goal.invariant-loop-byte
invariant-loop-byte l = SoFar l.file l.layout.roles l.byte-index l.next l.live
