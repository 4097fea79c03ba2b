use mathlib.Core.Path.{◌∙◌, ap}
use mathlib.Core.Bool.{Bool, ◌||◌}
use mathlib.Core.Logic.{⊎_elim}
use native.Mathlib.Omega.{arith}
use Rattle.sets.specs.Sets.{same?}
use Rattle.board.specs.Codes.{code_number}
use Rattle.refusals.proofs.Trying.{scoped_1, scoped_2, scoped_3, scoped_6, on_edge}
use Rattle.refusals.proofs.formed.Formed.in_scope.Goals as goal

pub returns-in-AddRole : goal.returns-in-AddRole
returns-in-AddRole c = let f = c.args.self.now in λ x. c.union.ensures x ∙ scoped_1 f.command f.in_range x (f.named ∙ ap code_number c.in-AddRole.is)

pub returns-in-RemoveRole : goal.returns-in-RemoveRole
returns-in-RemoveRole c = let f = c.args.self.now in λ x. scoped_2 f.command f.in_range x (f.named ∙ ap code_number c.in-RemoveRole.is)

pub returns-in-AddEdge : goal.returns-in-AddEdge
returns-in-AddEdge c = let f = c.args.self.now in
    λ x. c.with.ensures x ∙ ap (λ (p : Bool). p || same? f.command.junior x) (c.single-role.ensures x) ∙ scoped_3 f.command f.in_range x (on_edge f.command f.code f.named c.in-AddEdge.is)

pub returns-in-GiveRights : goal.returns-in-GiveRights
returns-in-GiveRights c = let f = c.args.self.now in
    λ x. c.single-role.ensures x ∙ scoped_6 f.command f.in_range x
    (⊎_elim (λ e. let h = f.named ∙ ap code_number e in omega (arith, h)) (λ e. let h = f.named ∙ ap code_number e in omega (arith, h)) c.in-GiveRights.is)
