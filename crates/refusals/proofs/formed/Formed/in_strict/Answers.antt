use mathlib.Core.Path.{sym, ap, ◌∙◌}
use Rattle.board.specs.Codes.{code_number}
use Rattle.board.proofs.Codes.{one_code}
use Rattle.refusals.proofs.Trying.{strictly_1, strictly_2, strictly_3}
use Rattle.refusals.proofs.formed.Formed.in_strict.Goals as goal

pub returns-in-AddRole : goal.returns-in-AddRole
returns-in-AddRole c = let f = c.args.self.now in λ x. c.union.ensures x ∙ strictly_1 f.command f.in_range x (f.named ∙ ap code_number c.in-AddRole.is)

pub returns-in-RemoveRole : goal.returns-in-RemoveRole
returns-in-RemoveRole c = let f = c.args.self.now in λ x. c.single.ensures x ∙ strictly_2 f.command f.in_range x (f.named ∙ ap code_number c.in-RemoveRole.is)

pub returns-in_default : goal.returns-in_default
returns-in_default c = let f = c.args.self.now in λ x. strictly_3 f.command f.in_range x
    (λ e. c.in_default.not-AddRole (one_code (sym f.named ∙ e))) (λ e. c.in_default.not-RemoveRole (one_code (sym f.named ∙ e)))
