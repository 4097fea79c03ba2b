use Rattle.boardchange.proofs.Giving.{start, next, finish}
use Rattle.boardchange.proofs.given.all_given.Goals as goal

pub loop-k-init : goal.loop-k-init
loop-k-init c =
    rw (c.into_iter-k-iterator.ensures.into_iter_gives, c.enumerate-k-items.ensures.source, c.enumerate-k-items.ensures.count)
    (start _ c.pieces_of.ensures.text c.pieces_of.ensures.from c.pieces_of.ensures.sep)

pub loop-k-preserved : goal.loop-k-preserved
loop-k-preserved c = let step = c.in-Some.ensures.steps in rw step.2 (next c.loop-k.invariant step.0 c.line_turn-done.ensures)

pub returns : goal.returns
returns c = finish c.loop-k.invariant c.in-None.ensures.steps.0.0
