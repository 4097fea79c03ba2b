use mathlib.Core.Path.{sym, ◌∙◌}
use mathlib.Core.Logic.{inl, inr, ⊎_elim}
use native.Mathlib.Omega.{arith}
use Rattle.board.proofs.Asking.{asked_0, asked_2, asked_3}
use Rattle.questions.proofs.both_live.Goals as goal
use Rattle.questions.proofs.both_live.Goals.{then-not-has-via-then-not-has, then-not-has-via-else-not-has+then-not-has-2}

pub returns-then-x-gt63 : goal.returns-then-x-gt63
returns-then-x-gt63 c = asked_2 _ _ _ (⊎_elim inl (λ g. inr g.1) c.then-x-gt63.either)

pub returns-then-not-has : goal.returns-then-not-has
returns-then-not-has c = asked_3 _ _ _ (omega arith) (omega arith) (elim c.then-not-has.branch [
  | then-not-has-via-then-not-has w ↦ inl (sym c.has.ensures ∙ w.if-not-has.true)
  | then-not-has-via-else-not-has+then-not-has-2 w ↦ inr (sym w.has-else-not-has.ensures ∙ w.if-not-has-2.true)
])

pub returns : goal.returns
returns c = asked_0 _ _ _ (omega arith) (omega arith) (sym c.has.ensures ∙ c.if-not-has.false) (sym c.has-else-not-has.ensures ∙ c.if-not-has-2.false)
