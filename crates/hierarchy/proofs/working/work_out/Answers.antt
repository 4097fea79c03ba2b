use mathlib.Core.Path.{refl}
use Rattle.sets.proofs.Bools.{false_no}
use Rattle.hierarchy.proofs.Outcome.{out_of_order, orderly, all_have_one, one_has_none}
use Rattle.hierarchy.proofs.working.work_out.Goals as goal

pub returns-then-not-fill_down : goal.returns-then-not-fill_down
returns-then-not-fill_down c = out_of_order c.fill_down.ensures c.if-not-fill_down.true refl refl refl

pub returns-then-not-all_managed : goal.returns-then-not-all_managed
returns-then-not-all_managed c =
    let m = c.fill_managers.ensures.filled c.args.t.now (rw c.fill_up.ensures.same (orderly c.fill_down.ensures c.if-not-fill_down.false c.fill_up.ensures.turned)) in
    rw (c.fill_managers.ensures.same.0, c.fill_managers.ensures.same.1, c.fill_up.ensures.same)
    (one_has_none c.fill_down.ensures c.if-not-fill_down.false c.fill_up.ensures.turned m (λ f. false_no c.if-not-all_managed.true (c.all_managed.ensures.1 f)))

pub returns : goal.returns
returns c =
    let m = c.fill_managers.ensures.filled c.args.t.now (rw c.fill_up.ensures.same (orderly c.fill_down.ensures c.if-not-fill_down.false c.fill_up.ensures.turned)) in
    rw (c.fill_managers.ensures.same.0, c.fill_managers.ensures.same.1, c.fill_up.ensures.same)
    (all_have_one c.fill_down.ensures c.if-not-fill_down.false c.fill_up.ensures.turned m (c.all_managed.ensures.0 c.if-not-all_managed.false))
