use mathlib.Core.Path.{ap, ◌∙◌}
use mathlib.Core.Logic.{⊎_elim}
use native.Mathlib.Omega.{arith}
use Rattle.board.specs.Codes.{code_number}
use Rattle.refusals.proofs.Blaming.{looked_all, looked_1, looked_2, looked_3, looked_6}
use Rattle.refusals.proofs.Trying.{actor_lt, role_lt, junior_lt, on_edge}
use Rattle.refusals.proofs.offending.offending.Goals as goal

pub returns-in-AddRole : goal.returns-in-AddRole
returns-in-AddRole c = let f = c.args.f.now in
    let h = looked_1 c.args.all f.command (actor_lt f.command f.in_range) c.without-own.result c.without-own.ensures (f.named ∙ ap code_number c.in-AddRole.is)
    c.out_of.result c.out_of-in-AddRole.result c.out_of-in-AddRole-2.result c.out_of-in-AddRole-3.result c.out_of.ensures c.out_of-in-AddRole.ensures c.out_of-in-AddRole-2.ensures c.out_of-in-AddRole-3.ensures in
    looked_all c.args.all f.command _ (rw (c.or-in-AddRole-2.ensures, c.or-in-AddRole.ensures, c.or.ensures) h)

pub returns-in-RemoveRole : goal.returns-in-RemoveRole
returns-in-RemoveRole c = let f = c.args.f.now in
    looked_all c.args.all f.command _ (looked_2 c.args.all f.command (actor_lt f.command f.in_range) c.without-own.result c.without-own.ensures (f.named ∙ ap code_number c.in-RemoveRole.is)
    (role_lt f.command f.in_range) c.single-role.result _ c.single-role.ensures c.out_of-in-RemoveRole.ensures)

pub returns-in-AddEdge : goal.returns-in-AddEdge
returns-in-AddEdge c = let f = c.args.f.now in
    let edge = on_edge f.command f.code f.named c.in-AddEdge.is in
    let h = looked_3 c.args.all f.command edge (role_lt f.command f.in_range) (junior_lt f.command f.in_range edge) c.single-role.result c.single.result c.out_of-in-AddEdge.result c.out_of-in-AddEdge-2.result c.single-role.ensures c.single.ensures
    c.out_of-in-AddEdge.ensures c.out_of-in-AddEdge-2.ensures in
    looked_all c.args.all f.command _ (rw c.or-in-AddEdge.ensures h)

pub returns-in-GiveRights : goal.returns-in-GiveRights
returns-in-GiveRights c = let f = c.args.f.now in
    looked_all c.args.all f.command _ (looked_6 c.args.all f.command
    (⊎_elim (λ e. let h = f.named ∙ ap code_number e in omega (arith, h)) (λ e. let h = f.named ∙ ap code_number e in omega (arith, h)) c.in-GiveRights.is)
    (role_lt f.command f.in_range) c.single-role.result _ c.single-role.ensures c.out_of-in-GiveRights.ensures)
