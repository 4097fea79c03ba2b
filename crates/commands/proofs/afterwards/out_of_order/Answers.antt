use mathlib.Core.Path.{refl}
use mathlib.Core.Logic.{inr}
use Rattle.commands.proofs.Late.{looked_turn, looked_out}
use Rattle.commands.proofs.afterwards.out_of_order.Goals as goal

pub returns-then-not-within : goal.returns-then-not-within
returns-then-not-within c = let t = c.args.t.now in
    inr (looked_out t.live t.i t.a c.in-Some.x c.union.result c.within.result c.union.ensures c.within.ensures c.in-Some.ensures.steps.lowest.member c.if-not-within.true c.loop-x.invariant, refl)

pub loop-x-preserved : goal.loop-x-preserved
loop-x-preserved c = let t = c.args.t.now in
    looked_turn t.live t.i t.a c.in-Some.x c.union.result c.within.result c.union.ensures c.within.ensures c.in-Some.ensures.steps c.if-not-within.false c.loop-x.invariant
