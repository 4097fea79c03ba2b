use mathlib.Core.Bool.{true≢false}
use Prim.Native.Nat.{◌-◌}
use native.Mathlib.Omega.{arith}
use lib.ListN.{length}
use lib.Seq.{length-take-le}
use Rattle.frames.proofs.Frames.{framed, high_byte}
use Rattle.frames.proofs.plain_frame.Goals as goal

pub returns : goal.returns
returns c =
    let f = c.args.file.now in
    let body = length-take-le (length f - 6) f (omega arith) in
    let left = rw c.in_ok-roles.ensures.ok_part at c.checked_sub.ensures in
    framed (record {
      fit = λ k. omega (arith, c.type_inv.file k);
      high = omega arith;
      long = omega arith;
      mark = c.requires;
      roles_far = omega (arith, high_byte f 3);
      edges_far = omega (arith, high_byte f 5);
      rights_far = λ q. absurd (true≢false q);
      triples = c.if-edges-ne0.false;
      some = omega arith;
      few = c.if-roles-gt-ROLES.false;
    })
