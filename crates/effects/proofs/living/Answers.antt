use native.Mathlib.Omega.{arith}
use mathlib.Core.Path.{refl, sym, ap, ◌∙◌}
use Rattle.board.specs.Codes.{code_number}
use Rattle.board.proofs.Codes.{one_code}
use Rattle.effects.proofs.Edits.{born, gone, living}
use Rattle.effects.proofs.living.Goals as goal

pub returns-in_default : goal.returns-in_default
returns-in_default c = living c.args.c c.args.live c.args.live (omega (arith, c.ranges.live)) (λ e. omega (arith, e, c.in_default.ensures)) (λ e. omega (arith, e, c.in_default.ensures)) (λ x. refl)

pub returns-in-AddRole : goal.returns-in-AddRole
returns-in-AddRole c = let a = c.args in born a.c a.live c.with.result (omega (arith, c.with.type_inv)) (c.in-Some.ensures ∙ ap code_number c.in-AddRole.is) c.with.ensures

pub returns-in-RemoveRole : goal.returns-in-RemoveRole
returns-in-RemoveRole c = let a = c.args in gone a.c a.live c.without.result (omega (arith, c.without.type_inv)) (c.in-Some.ensures ∙ ap code_number c.in-RemoveRole.is) c.without.ensures

pub returns-in_default-code : goal.returns-in_default-code
returns-in_default-code c = living c.args.c c.args.live c.args.live (omega (arith, c.ranges.live))
    (λ e. c.in_default-code.not-AddRole (one_code (sym c.in-Some.ensures ∙ e))) (λ e. c.in_default-code.not-RemoveRole (one_code (sym c.in-Some.ensures ∙ e))) (λ x. refl)
