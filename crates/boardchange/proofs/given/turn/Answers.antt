use Rattle.boardchange.proofs.Giving.{gave_one, gave_none, by_meaning}
use Rattle.boardchange.proofs.given.turn.Goals as goal

pub returns-after-aloud : goal.returns-after-aloud
returns-after-aloud c = by_meaning c.in-Ok.ensures (rw c.is_ok.ensures.value (gave_one c.decide-answer.result c.decide-answer.ensures))

pub returns-then-aloud-2 : goal.returns-then-aloud-2
returns-then-aloud-2 c = by_meaning c.in-Err.ensures gave_none

pub returns-else-aloud-2 : goal.returns-else-aloud-2
returns-else-aloud-2 c = by_meaning c.in-Err.ensures gave_none
