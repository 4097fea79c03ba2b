use mathlib.Core.Path.{sym, ◌∙◌, subst}
use mathlib.Core.Bool.{false≢true}
use Prim.Native.Nat.{ℕ}
use native.Mathlib.Omega.{arith}
use lib.Count.{count_trailing_zeros}
use borrow.Author.Tests.{eq-eqb}
use Rattle.sets.specs.Sets.{◌is_in◌}
use Rattle.sets.proofs.Bools.{false_no}
use Rattle.sets.proofs.Digits.{bit_zero}
use Rattle.sets.proofs.Laws.{bit_lowest}
use Rattle.board.proofs.entries.joins_live.Goals as goal

pub returns-then-juniors-eq0 : goal.returns-then-juniors-eq0
returns-then-juniors-eq0 c = (
  λ _ y m. absurd (false_no (bit_zero y) (subst (λ (s : ℕ). y is_in s) c.if-juniors-eq0.true m)),
  λ _. eq-eqb _ 0 c.if-juniors-eq0.true,
)

-- there is a junior, and its senior doesn't live
pub returns-else-has : goal.returns-else-has
returns-else-has c =
    let juniors = c.args.juniors in (
      λ e. absurd (false≢true (sym c.if-has.false ∙ e)),
      λ p. absurd (false_no (sym c.has.ensures ∙ c.if-has.false) (p (count_trailing_zeros 64 juniors) (bit_lowest 64 juniors (omega (arith, c.if-juniors-eq0.false)) (omega arith))).0),
    )
