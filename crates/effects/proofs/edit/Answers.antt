use mathlib.Core.Path.{ap, ◌∙◌}
use mathlib.Core.Bool.{◌||◌}
use mathlib.Core.Logic.{inl, inr, ⊎_elim}
use native.Mathlib.Omega.{arith}
use Prim.Native.Nat.{ℕ}
use Rattle.sets.specs.Sets.{bit}
use Rattle.board.specs.Codes.{code_number}
use Rattle.effects.proofs.Edits.{adds, removes, links, not_linked, unlinks, not_unlinked, changes, past_keeps}
use Rattle.effects.proofs.edit.Goals as goal

pub returns-in_default : goal.returns-in_default
returns-in_default c =
    let a = c.args in past_keeps a.c a.seniors a.juniors a.part a.t.now (⊎_elim inl (λ g. inr (omega (arith, g))) c.in_default.ensures) (record { rows = c.told-t; fits = c.fits-t })

pub returns-in-AddRole : goal.returns-in-AddRole
returns-in-AddRole c =
    let a = c.args in
    adds a.c a.seniors a.juniors a.part a.t.now (c.in-Some.ensures ∙ ap code_number c.in-AddRole.is) _ _ c.union-grown.result c.enter.ensures
    (λ y. c.union-grown.ensures y ∙ ap (λ (k : ℕ). bit k y || bit a.juniors y) c.row_of.ensures) c.set_row.ensures

pub returns-in-RemoveRole : goal.returns-in-RemoveRole
returns-in-RemoveRole c =
    let a = c.args in
    removes a.c a.seniors a.juniors a.part a.t.now (c.in-Some.ensures ∙ ap code_number c.in-RemoveRole.is) _ _ c.leave.ensures c.set_row-in-RemoveRole.ensures

pub returns-then-part : goal.returns-then-part
returns-then-part c =
    let a = c.args in
    links a.c a.seniors a.juniors a.part a.t.now c.single-senior.result c.single-senior.ensures (c.in-Some.ensures ∙ ap code_number c.in-AddEdge.is)
    c.if-part.true _ c.enter-then-part.ensures

pub returns-else-part : goal.returns-else-part
returns-else-part c =
    let a = c.args in
    not_linked a.c a.seniors a.juniors a.part a.t.now (c.in-Some.ensures ∙ ap code_number c.in-AddEdge.is) c.if-part.false (record { rows = c.told-t; fits = c.fits-t })

pub returns-then-part-2 : goal.returns-then-part-2
returns-then-part-2 c =
    let a = c.args in
    unlinks a.c a.seniors a.juniors a.part a.t.now c.single-senior.result c.single-senior.ensures (c.in-Some.ensures ∙ ap code_number c.in-RemoveEdge.is)
    c.if-part-2.true _ c.enter-then-part-2.ensures

pub returns-else-part-2 : goal.returns-else-part-2
returns-else-part-2 c =
    let a = c.args in
    not_unlinked a.c a.seniors a.juniors a.part a.t.now (c.in-Some.ensures ∙ ap code_number c.in-RemoveEdge.is) c.if-part-2.false (record { rows = c.told-t; fits = c.fits-t })

pub returns-in-ChangeEdge : goal.returns-in-ChangeEdge
returns-in-ChangeEdge c =
    let a = c.args in
    changes a.c a.seniors a.juniors a.part a.t.now c.single-senior.result c.single-senior.ensures (c.in-Some.ensures ∙ ap code_number c.in-ChangeEdge.is) _ c.enter-in-ChangeEdge.ensures

pub returns-in-GiveRights : goal.returns-in-GiveRights
returns-in-GiveRights c =
    let a = c.args in
    past_keeps a.c a.seniors a.juniors a.part a.t.now
    (inr (⊎_elim (λ e. let h = c.in-Some.ensures ∙ ap code_number e in omega (arith, h)) (λ e. let h = c.in-Some.ensures ∙ ap code_number e in omega (arith, h)) c.in-GiveRights.is))
    (record { rows = c.told-t; fits = c.fits-t })
