use Rattle.std.specs.Iterator.Adapters.{enumerate_source, enumerate_count}
use Rattle.writer.proofs.Writings.{EachPut}
use Rattle.writer.proofs.parts.put_each.Given as goal

abbrev pub invariant-loop-k : goal.invariant-loop-k
invariant-loop-k g l = EachPut (goal.F-post g l.byte) l.live l.initial.out l.out (enumerate_source l.k-iterator).left (enumerate_count l.k-iterator)
