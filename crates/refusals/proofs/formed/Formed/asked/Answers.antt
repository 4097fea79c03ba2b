use mathlib.Core.Path.{sym, ap, ◌∙◌}
use mathlib.Core.Logic.{◌≢◌, ⊎_elim}
use native.Mathlib.Omega.{arith}
use Rattle.board.specs.Codes.{code_number}
use Rattle.board.proofs.Codes.{one_code}
use Rattle.refusals.proofs.Entitling.{asks_named, asks_own}
use Rattle.refusals.proofs.Trying.{code_low, code_high}
use Rattle.refusals.proofs.formed.Formed.asked.Goals as goal

pub returns-in-GiveRights : goal.returns-in-GiveRights
returns-in-GiveRights c =
    let f = c.args.self.now in
    λ k. rw c.from.ensures (asks_named f.command k (⊎_elim (λ e. let h = f.named ∙ ap code_number e in omega (arith, h)) (λ e. let h = f.named ∙ ap code_number e in omega (arith, h)) c.in-GiveRights.is))

pub returns-in_default : goal.returns-in_default
returns-in_default c =
    let f = c.args.self.now in
    let low = code_low f.command f.in_range in
    let high = code_high f.command f.in_range in
    let six : f.command.code ≢ 6 = λ e. c.in_default.not-GiveRights (one_code (sym f.named ∙ e)) in
    let seven : f.command.code ≢ 7 = λ e. c.in_default.not-TakeRights (one_code (sym f.named ∙ e)) in
    λ k. c.single.ensures k ∙ asks_own f.command k low (omega (arith, high, six, seven))
