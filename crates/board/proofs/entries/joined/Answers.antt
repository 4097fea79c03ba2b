use borrow.Author.Rules.{rules}
use Rattle.hierarchy.proofs.Rounds.{joined_no, joined_yes}
use Rattle.board.proofs.entries.joined.Goals as goal

pub returns-then-not-joins_live : goal.returns-then-not-joins_live
returns-then-not-joins_live c = joined_no _ c.loop-x.x _ _ c.union.result c.joins_live.result c.union.ensures c.joins_live.ensures c.if-not-joins_live.true

pub returns : goal.returns
returns c = joined_yes _ c.loop-x.x _ _ (search rules) (search rules) c.loop-x-test.false c.loop-x.invariant.1
