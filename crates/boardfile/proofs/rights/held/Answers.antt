use mathlib.Core.Path.{refl, subst}
use mathlib.Core.Logic.{⊎_map}
use Rattle.frames.specs.Framing.{GoodFrame}
use Rattle.boardfile.proofs.RightBytes.{held_start, held_end, held_bad, held_turn, rights_room, rights_high}
use Rattle.boardfile.proofs.rights.held.Goals as goal

pub loop-role-init : goal.loop-role-init
loop-role-init c = rw (c.into_iter-role-iterator.ensures.into_iter_gives, c.zip-role-items.ensures.first, c.roles_of.ensures) (held_start _ _ _ c.zip-role-items.ensures.second.0)

pub returns-then-byte-gt-ALL_RIGHTS : goal.returns-then-byte-gt-ALL_RIGHTS
returns-then-byte-gt-ALL_RIGHTS c =
    let f = c.args.f.now in
    let frame = subst (GoodFrame _ _ _) c.requires f.framed in
    let turn = c.in-Some.ensures.steps in
    (rights_high frame f.listed (held_bad (rights_room frame f.listed) c.loop-role.invariant turn.0 turn.1 c.if-byte-gt-ALL_RIGHTS.true), refl)

pub loop-role-preserved : goal.loop-role-preserved
loop-role-preserved c =
    let f = c.args.f.now in
    let turn = c.in-Some.ensures.steps in
    held_turn (rights_room (subst (GoodFrame _ _ _) c.requires f.framed) f.listed) c.loop-role.invariant turn.0 turn.1 c.if-byte-gt-ALL_RIGHTS.false

pub returns : goal.returns
returns c =
    let f = c.args.f.now in
    held_end (rights_room (subst (GoodFrame _ _ _) c.requires f.framed) f.listed) c.loop-role.invariant (⊎_map (λ n. n.1.0) (λ z. z.1.0) c.in-None.ensures.steps)
