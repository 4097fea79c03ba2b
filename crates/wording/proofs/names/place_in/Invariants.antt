use Rattle.std.specs.Iterator.Adapters.{enumerate_count, enumerate_source}
use Rattle.wording.proofs.Placing.{Counting}
use Rattle.wording.proofs.names.place_in.Given as goal

abbrev pub invariant-loop-k : goal.invariant-loop-k
invariant-loop-k l = Counting l.text l.names (enumerate_count l.k-iterator) (enumerate_source l.k-iterator)
