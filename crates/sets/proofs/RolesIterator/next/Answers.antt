use Rattle.sets.specs.Sets.{Taken}
use Rattle.sets.proofs.Members.{taken_by, picked, taken_less}
use Rattle.sets.proofs.RolesIterator.next.Goals as goal

pub returns-clause-goes : goal.returns-clause-goes
returns-clause-goes c =
    let t : Taken c.args.self.now.left c.in_ok-first.first c.but_lowest-self.result = taken_by (picked c.in_ok-first.was c.lowest.ensures) c.but_lowest-self.ensures in
    record { on = λ _. (tt, tt, taken_less t); keeps = tt; rests = λ _. tt }
