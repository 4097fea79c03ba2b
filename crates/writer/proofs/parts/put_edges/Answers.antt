use native.Mathlib.Omega.{arith}
use Rattle.writer.proofs.Puts.{rest_long}
use Rattle.writer.proofs.Writings.{edges_put_start, edges_put_room, edges_put_turn}
use Rattle.writer.proofs.parts.put_edges.Goals as goal

pub loop-x-init : goal.loop-x-init
loop-x-init c = edges_put_start _ _

pub put_row-at-requires : goal.put_row-at-requires
put_row-at-requires c = (c.loop-x-test.true, omega (arith, edges_put_room c.requires c.loop-x.invariant c.loop-x-test.true, rest_long c.loop-x.at c.loop-x.out))

pub loop-x-preserved : goal.loop-x-preserved
loop-x-preserved c = edges_put_turn c.requires c.loop-x.invariant c.loop-x-test.true _ _ c.put_row-at.ensures.0 c.put_row-at.ensures.1
