use mathlib.Core.List.{◌++◌}
use Prim.Native.Nat.{◌*◌}
use borrow.Author.Rules.{rules}
use native.Mathlib.Omega.{arith}
use lib.ListN.{drop}
use lib.Seq.{length-take-le}
use Rattle.board.specs.Rights.{rights_of}
use Rattle.writer.proofs.Puts.{rest_long}
use Rattle.writer.proofs.Writings.{each_is, plain_fits, plain_put, rights_fit, back_few, rights_put}
use Rattle.writer.proofs.parts.put_tail.Goals as goal

pub put_trailer-requires : goal.put_trailer-requires
put_trailer-requires c = plain_fits c.requires c.if-not-layout.true

pub returns-then-not-layout : goal.returns-then-not-layout
returns-then-not-layout c = plain_put c.requires c.if-not-layout.true _ _ c.put_trailer.ensures

pub slice_bounds-put_each-end : goal.slice_bounds-put_each-end
slice_bounds-put_each-end c = omega (arith, rights_fit c.requires c.if-not-layout.false)

pub slice_bounds-put_each-end-2 : goal.slice_bounds-put_each-end-2
slice_bounds-put_each-end-2 c = omega (arith, rights_fit c.requires c.if-not-layout.false, length-take-le c.args.layout.roles c.args.out.now)

pub put_each-requires-clause-room : goal.put_each-requires-clause-room
put_each-requires-clause-room c = omega (arith, rights_fit c.requires c.if-not-layout.false, length-take-le c.args.layout.roles c.args.out.now)

pub slice_bounds-put_rights_trailer-count : goal.slice_bounds-put_rights_trailer-count
slice_bounds-put_rights_trailer-count c = omega (arith, rights_fit c.requires c.if-not-layout.false, length-take-le c.args.layout.roles c.args.out.now, c.put_each.auto.out)

pub slice_bounds-put_rights_trailer-start : goal.slice_bounds-put_rights_trailer-start
slice_bounds-put_rights_trailer-start c = omega (arith, rights_fit c.requires c.if-not-layout.false, length-take-le c.args.layout.roles c.args.out.now, c.put_each.auto.out)

pub put_rights_trailer-requires : goal.put_rights_trailer-requires
put_rights_trailer-requires c =
    let is = c.if-not-layout.false in
    let roles = c.args.layout.roles in
    let fit = rights_fit c.requires is in
    let few = c.requires.few in (
      omega arith,
      omega (arith, c.edges_back.ensures, back_few roles (3 * c.args.layout.edges)),
      omega arith,
      omega (arith, c.put_each.auto.out, rest_long roles (c.put_each.new.out ++ drop roles c.args.out.now)),
    )

pub returns : goal.returns
returns c =
    rights_put c.requires c.if-not-layout.false _ _ (each_is (rights_of c.args.rights.now) _ (λ x y h. search rules) c.put_each.ensures) _ c.edges_back.ensures _ c.put_rights_trailer.ensures
