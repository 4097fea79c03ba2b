use mathlib.Core.Path.{sym}
use Rattle.sets.proofs.Laws.{bit_lt}
use Rattle.boardfile.proofs.reader.Edge.spelt.Goals as goal

pub invariant_of-result : goal.invariant_of-result
invariant_of-result c = record { in_range = (bit_lt 64 c.ranges.live.fits (sym c.if-not-has.ensures), bit_lt 64 c.ranges.live.fits (sym c.if-not-has-2.ensures)) }
