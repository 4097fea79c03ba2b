use mathlib.Core.Path.{refl, sym}
use native.Mathlib.Omega.{arith}
use Prim.Native.Nat.{◌≤◌}
use lib.ListN.{length}
use lib.Seq.{length-take-le}
use Rattle.frames.proofs.Frames.{announced}
use Rattle.boardfile.proofs.RoleBytes.{roles_start, roles_turn, roles_bad, roles_end}
use Rattle.boardfile.proofs.reader.Listed.of.Goals as goal

pub slice_bounds-byte-items-end : goal.slice_bounds-byte-items-end
slice_bounds-byte-items-end c = sym (length-take-le c.args.layout.roles c.args.file.now (omega (arith, (announced c.requires).room)))

pub loop-byte-init : goal.loop-byte-init
loop-byte-init c = roles_start _ _

pub returns-then-role-gt63 : goal.returns-then-role-gt63
returns-then-role-gt63 c =
    let g = announced c.requires in
    let room : c.args.layout.roles ≤ length c.args.file.now = omega (arith, g.room) in
    (roles_bad c.loop-byte.invariant room c.loop-byte-test.true g.roles c.then-role-gt63.either, refl)

pub loop-byte-preserved : goal.loop-byte-preserved
loop-byte-preserved c =
    let room : c.args.layout.roles ≤ length c.args.file.now = omega (arith, (announced c.requires).room) in
    roles_turn c.loop-byte.invariant room c.loop-byte-test.true c.with-live.result c.if-role-next.false c.if-role-gt63.false c.with-live.type_inv c.with-live.ensures

pub invariant_of-result : goal.invariant_of-result
invariant_of-result c =
    let g = announced c.requires in
    let room : c.args.layout.roles ≤ length c.args.file.now = omega (arith, g.room) in
    record { framed = c.requires; room = g.room; listed = roles_end c.loop-byte.invariant room c.loop-byte-test.false c.requires.some c.if-file-ne0.false }
