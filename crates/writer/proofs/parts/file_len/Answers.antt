use native.Mathlib.Omega.{arith}
use Rattle.writer.specs.Parts.{tail_length}
use Rattle.writer.proofs.parts.file_len.Goals as goal

pub returns-then-layout : goal.returns-then-layout
unfolding tail_length
returns-then-layout c = rw c.if-layout.true (omega arith)

pub returns : goal.returns
unfolding tail_length
returns c = rw c.if-layout.false
