use mathlib.Core.Logic.Iff
use Rattle.refusals.proofs.Entitling.{held_use, held_all}
use Rattle.refusals.proofs.Trying.{actor_lt}
use Rattle.refusals.proofs.rights.entitled.Goals as goal

pub returns : goal.returns
returns c =
    let f = c.args.f.now in
    let b = c.args.b.now in
    Iff.trans c.within.ensures (held_all f.command _ _ c.asked.ensures
    (λ k. Iff.trans (c.held_among.ensures k) (held_use b.kept.derives b.rights f.command.actor _ k (actor_lt f.command f.in_range) c.with-those.ensures)))
