use mathlib.Core.Path.{◌≡◌}
use Rattle.std.specs.Slice.Iter.{chunks_exact_rest, chunks_exact_size}
use Rattle.boardfile.proofs.EdgeRecords.{Going}
use Rattle.boardfile.proofs.reader.edges.Given as goal

abbrev pub invariant-loop-bytes : goal.invariant-loop-bytes
invariant-loop-bytes l =
    (l.t.live ≡ l.f.live)
    × Going l.f.file.now l.start l.f.layout.edges l.t.live l.next l.t.i l.t.a (chunks_exact_size l.bytes-iterator) (chunks_exact_rest l.bytes-iterator)
