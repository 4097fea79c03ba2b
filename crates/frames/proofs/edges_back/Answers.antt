use borrow.Author.Tests.{eq-eqb, ne_eqb}
use Rattle.frames.specs.Frames.{edges_back}
use Rattle.frames.proofs.edges_back.Goals as goal

pub returns-then-edges-eq0 : goal.returns-then-edges-eq0
unfolding edges_back
returns-then-edges-eq0 c = rw (eq-eqb _ 0 c.if-edges-eq0.true)

pub returns : goal.returns
unfolding edges_back
returns c = rw (ne_eqb _ 0 c.if-edges-eq0.false)
