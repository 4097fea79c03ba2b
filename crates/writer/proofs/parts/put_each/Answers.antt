use Rattle.writer.proofs.Writings.{each_put_start, each_put_room, each_put_turn, each_put_end}
use Rattle.writer.proofs.parts.put_each.Goals as goal

pub loop-k-init : goal.loop-k-init
loop-k-init g c = each_put_start _ _ _ _ _ (cc) (cc)

pub bounds-out-k : goal.bounds-out-k
bounds-out-k g c = let s = c.in-Some.ensures.steps in each_put_room c.requires.room c.loop-k.invariant s.0 _ s.1

pub loop-k-preserved : goal.loop-k-preserved
loop-k-preserved g c = let s = c.in-Some.ensures.steps in each_put_turn c.requires.room c.loop-k.invariant s.0 _ _ _ s.1 c.byte.ensures s.2

pub returns : goal.returns
returns g c = each_put_end c.requires.room c.loop-k.invariant c.in-None.ensures.steps.0.0
