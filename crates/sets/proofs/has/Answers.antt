use borrow.Author.Rules.{rules}
use Rattle.sets.proofs.Laws.{bit_test}
use Rattle.sets.proofs.Digits.{bit_out}
use mathlib.Core.Path.{sym, ◌∙◌}
use Rattle.sets.proofs.has.Goals as goal

pub returns-then-r-lt64 : goal.returns-then-r-lt64
returns-then-r-lt64 c = bit_test c.args.s c.args.r

pub returns-else-r-lt64 : goal.returns-else-r-lt64
returns-else-r-lt64 c = (search rules) ∙ sym (bit_out 64 _ _ c.ranges.s.fits c.if-r-lt64.false)
