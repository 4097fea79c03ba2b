use Rattle.sets.proofs.Laws.{but_lowest_none, but_lowest_is}
use Rattle.sets.proofs.but_lowest.Goals as goal

pub returns-then-s-eq0 : goal.returns-then-s-eq0
returns-then-s-eq0 c = but_lowest_none c.args.s c.if-s-eq0.true

pub returns : goal.returns
returns c = but_lowest_is c.args.s
