use Rattle.std.proofs.Common.{sym, ◌∙◌, arith}
use Rattle.wording.proofs.Lists.{list_start, list_over, list_wrong, list_next}
use Rattle.wording.proofs.names.members.Goals as goal

pub loop-piece-init : goal.loop-piece-init
loop-piece-init g c = rw c.into_iter-piece-iterator.ensures.into_iter_gives (list_start _ c.pieces_of-piece-items.ensures.text c.pieces_of-piece-items.ensures.from c.pieces_of-piece-items.ensures.sep)

pub returns-in_err-name : goal.returns-in_err-name
returns-in_err-name g c = rw c.from_residual.ensures (list_wrong c.loop-piece.invariant c.in-Some.ensures.steps (sym c.in_err-name.was ∙ c.requires.1.1 _ _ c.name.ensures))

pub loop-piece-preserved : goal.loop-piece-preserved
loop-piece-preserved g c = list_next c.loop-piece.invariant c.in-Some.ensures.steps (sym c.in_ok-name.was ∙ c.requires.1.1 _ _ c.name.ensures)
    c.with-set.result (omega (arith, c.with-set.type_inv)) c.with-set.ensures

pub returns : goal.returns
returns g c = list_over c.loop-piece.invariant c.in-None.ensures.steps.0
