use Rattle.std.proofs.Common.{arith, refl}
use Rattle.wording.proofs.Cutting.{Turn, turn, given}
use Rattle.wording.proofs.pieces.PiecesIterator.next.Goals as goal

pub overflow_add-self : goal.overflow_add-self
overflow_add-self c =
    let s = c.args.self.now in
    let cut : Turn s.sep s.text.now s.from c.piece_end-end.result = turn _ _ _ _ c.if-self-from.false c.piece_end-end.ensures in
    omega (arith, cut.high)

pub slice_bounds-result-end : goal.slice_bounds-result-end
slice_bounds-result-end c =
    let s = c.args.self.now in
    let cut : Turn s.sep s.text.now s.from c.piece_end-end.result = turn _ _ _ _ c.if-self-from.false c.piece_end-end.ensures in
    cut.high

pub returns-clause-steps : goal.returns-clause-steps
returns-clause-steps c = given c.piece_end-end.result c.if-self-from.false c.piece_end-end.ensures refl refl refl (omega arith)
