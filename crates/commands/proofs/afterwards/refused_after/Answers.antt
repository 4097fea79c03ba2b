use mathlib.Core.Path.{refl, ap, ◌∙◌}
use Rattle.hierarchy.specs.Views.{fault_number}
use Rattle.std.proofs.lemmas.Result.{err_from_is_err_and}
use Rattle.board.proofs.Looking.{holds, fails}
use Rattle.commands.proofs.Late.{loops_seven, other_seven, fault_same, late_loops, late_outside, late_rest}
use Rattle.commands.proofs.afterwards.refused_after.Goals as goal

pub returns-then-eq : goal.returns-then-eq
returns-then-eq c = late_loops c.args.c c.work_out-worked.ensures c.requires (loops_seven _ _ c.work_out-worked.result refl c.if-eq.ensures) c.out_of_order.ensures

pub returns-then-outside : goal.returns-then-outside
returns-then-outside c =
    late_outside c.args.c c.work_out-worked.ensures (other_seven _ _ c.work_out-worked.result refl c.if-eq.ensures) (holds c.outside.ensures c.if-outside.true)

pub returns-in_err-worked : goal.returns-in_err-worked
returns-in_err-worked c =
    let p = err_from_is_err_and c.from_residual.result c.from_residual.ensures.1 in
    let h = late_rest c.args.c c.work_out-worked.ensures (other_seven _ _ c.work_out-worked.result refl c.if-eq.ensures) (fails c.outside.ensures c.if-outside.false) in
    let n = ap fault_number c.in_err-worked.was ∙ fault_same c.in_err-worked.field-0.0 in
    rw (p.1, p.2, ← n) h

pub returns : goal.returns
returns c =
    let h = late_rest c.args.c c.work_out-worked.ensures (other_seven _ _ c.work_out-worked.result refl c.if-eq.ensures) (fails c.outside.ensures c.if-outside.false) in
    rw c.in_ok-worked.was at h
