use mathlib.Core.Path.{◌∙◌}
use native.Mathlib.Omega.{arith}
use lib.ListN.{take, length, length-append}
use lib.Seq.{get_or-take, length-take-le}
use Rattle.std.proofs.lemmas.Slice.Zip.{zip_turn}
use Rattle.writer.proofs.Counts.{count_start, count_few, count_row}
use Rattle.writer.proofs.edges_below.Goals as goal

pub loop-i-init : goal.loop-i-init
loop-i-init c = count_start _

pub overflow_add-n : goal.overflow_add-n
overflow_add-n c = omega (arith, count_few c.loop-i.invariant, c.size.type_inv)

pub loop-i-preserved : goal.loop-i-preserved
loop-i-preserved c =
    let i = c.args.t.now.i in
    let a = c.args.t.now.a in
    let l = c.loop-i in
    let here = zip_turn (take c.args.senior i) a l.yielded c.into_iter-i-iterator.result l.i-iterator c.next.new.self c.next.result (cc) (cc) l.yielded_by _ c.in-Some.is c.next.ensures.steps in
    rw length-append
    (count_row l.invariant (omega arith) _ _ _ _ (here.2 0 ∙ get_or-take c.args.senior i (length l.yielded) 0 (omega (arith, length-take-le c.args.senior i))) (here.3 0) c.union.type_inv c.union.ensures c.size.ensures)
