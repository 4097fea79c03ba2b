use Rattle.sets.proofs.Digits.{bit_of_and}
use Rattle.sets.proofs.common.Goals as goal

pub returns : goal.returns
returns c = λ x. bit_of_and c.args.s c.args.t x
