use Rattle.sets.proofs.Digits.{bit_of_or}
use Rattle.sets.proofs.union.Goals as goal

pub returns : goal.returns
returns c = λ x. bit_of_or c.args.s c.args.t x
