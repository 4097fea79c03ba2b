use Rattle.writer.proofs.Writings.{RowPut}
use Rattle.writer.proofs.parts.put_row.Given as goal

abbrev pub invariant-loop-junior : goal.invariant-loop-junior
invariant-loop-junior l = RowPut l.senior l.i l.a l.initial.out l.out l.junior-iterator.left l.at
