use Prim.Native.Nat.{◌-◌}
use native.Mathlib.Omega.{arith}
use lib.ListN.{length}
use lib.Seq.{length-take-le}
use Rattle.frames.proofs.Frames.{framed, high_byte}
use Rattle.frames.proofs.rights_frame.Goals as goal

pub returns : goal.returns
returns c =
    let f = c.args.file.now in
    let body = length-take-le (length f - 8) f (omega arith) in
    let left = rw c.in_ok-edges.ensures.ok_part at c.checked_sub.ensures in
    framed (record {
      fit = λ k. omega (arith, c.type_inv.file k);
      high = omega arith;
      long = omega arith;
      mark = c.requires;
      roles_far = omega (arith, high_byte f 3);
      edges_far = omega (arith, high_byte f 5, c.distance-else-edges-ne0.ensures, c.if-distance-edges_back.false, c.edges_back.ensures);
      rights_far = λ _. omega (arith, high_byte f 7);
      triples = c.if-edges-ne0.false;
      some = omega arith;
      few = omega arith;
    })
