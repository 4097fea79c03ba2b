use mathlib.Core.Path.{sym, ◌∙◌}
use borrow.Author.Rules.{rules}
use Rattle.board.proofs.Reading.{climb_start, climb_arrived, climb_turn, climb_none, climb_stopped, some_of, none_of}
use Rattle.board.proofs.kept.steps.Goals as goal

pub loop-n-init : goal.loop-n-init
loop-n-init c = climb_start _ _

pub returns-then-x-eq0 : goal.returns-then-x-eq0
returns-then-x-eq0 c = climb_arrived c.loop-n.invariant c.loop-n-test.true c.if-x-eq0.true

pub returns-in_default : goal.returns-in_default
returns-in_default c = climb_none c.loop-n.invariant c.loop-n-test.true c.if-x-eq0.false (search rules) (none_of _ (sym c.entry.ensures ∙ c.in_default.is))

pub loop-n-preserved : goal.loop-n-preserved
loop-n-preserved c = climb_turn c.loop-n.invariant _ c.loop-n-test.true c.if-x-eq0.false (c.from-x.ensures ∙ some_of _ _ (sym c.entry.ensures ∙ c.in-Some.is))

pub returns : goal.returns
returns c = climb_stopped c.loop-n.invariant c.loop-n-test.false
