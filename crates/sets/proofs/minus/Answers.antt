use Rattle.sets.proofs.Laws.{bit_minus}
use Rattle.sets.proofs.minus.Goals as goal

pub returns : goal.returns
returns c = λ x. bit_minus c.args.s c.args.t x c.ranges.s.fits c.ranges.t.fits
