use Rattle.std.proofs.Common.{sym, ◌∙◌}
use Rattle.wording.proofs.Placing.{alike_pointwise, count_start, count_over, count_here, count_next}
use Rattle.wording.proofs.names.place_in.Goals as goal

pub loop-k-init : goal.loop-k-init
loop-k-init c =
    rw (c.into_iter-k-iterator.ensures.into_iter_gives, c.enumerate-k-items.ensures.source, c.enumerate-k-items.ensures.count)
    (count_start _ c.pieces_of.ensures.text c.pieces_of.ensures.from c.pieces_of.ensures.sep)

pub returns-then-eq-clause-value : goal.returns-then-eq-clause-value
returns-then-eq-clause-value c =
    let step = c.in-Some.ensures.steps in
    rw step.1 (count_here c.loop-k.invariant step.0 (sym (alike_pointwise _ _) ∙ sym c.eq.ensures ∙ c.if-eq.true))

pub loop-k-preserved : goal.loop-k-preserved
loop-k-preserved c =
    let step = c.in-Some.ensures.steps in
    rw step.2 (count_next c.loop-k.invariant step.0 (sym (alike_pointwise _ _) ∙ sym c.eq.ensures ∙ c.if-eq.false))

pub returns-clause-value : goal.returns-clause-value
returns-clause-value c = count_over c.loop-k.invariant c.in-None.ensures.steps.0.0
