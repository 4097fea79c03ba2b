use mathlib.Core.Path.{refl, ap, ◌∙◌}
use mathlib.Core.Logic.{⊎_elim}
use native.Mathlib.Omega.{arith}
use Rattle.board.specs.Codes.{code_number}
use Rattle.refusals.proofs.Trying.{on_edge}
use Rattle.commands.proofs.RightsLeft.{new_none, removed_none, given, taken, untouched}
use Rattle.commands.proofs.rights.held_after.Goals as goal

pub returns-in_default : goal.returns-in_default
returns-in_default c = let h = c.in_default.ensures in untouched _ _ _ (omega arith) (λ e. omega (arith, e, h)) (λ e. omega (arith, e, h)) (λ e. omega (arith, e, h)) (λ e. omega (arith, e, h)) refl

pub returns-in-AddRole : goal.returns-in-AddRole
returns-in-AddRole c = ⊎_elim (λ e. new_none _ _ _ (c.in-Some.ensures ∙ ap code_number e) refl) (λ e. removed_none _ _ _ (c.in-Some.ensures ∙ ap code_number e) refl) c.in-AddRole.is

pub returns-in-AddEdge : goal.returns-in-AddEdge
returns-in-AddEdge c =
    let edge = on_edge c.args.c c.in-Some.code c.in-Some.ensures c.in-AddEdge.is in
    untouched _ _ _ (omega arith) (λ e. omega (arith, e, edge.0)) (λ e. omega (arith, e, edge.0)) (λ e. omega (arith, e, edge.1)) (λ e. omega (arith, e, edge.1)) refl

pub returns-in-GiveRights : goal.returns-in-GiveRights
returns-in-GiveRights c = given _ _ _ (omega (arith, c.union.type_inv)) (c.in-Some.ensures ∙ ap code_number c.in-GiveRights.is) (λ k. rw (← c.from.ensures) (c.union.ensures k))

pub returns-in-TakeRights : goal.returns-in-TakeRights
returns-in-TakeRights c = taken _ _ _ (omega (arith, c.minus.type_inv)) (c.in-Some.ensures ∙ ap code_number c.in-TakeRights.is) (λ k. rw (← c.from-in-TakeRights.ensures) (c.minus.ensures k))
