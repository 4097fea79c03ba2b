use Rattle.sets.proofs.Laws.{bit_shift, same_out}
use Rattle.sets.proofs.Digits.{bit_zero}
use mathlib.Core.Path.{sym, ◌∙◌}
use Rattle.sets.proofs.single.Goals as goal

pub returns-then-r-lt64 : goal.returns-then-r-lt64
returns-then-r-lt64 c = λ x. bit_shift c.args.r x c.if-r-lt64.true

pub returns : goal.returns
returns c = λ x. bit_zero x ∙ sym (same_out c.args.r x c.if-r-lt64.false)
