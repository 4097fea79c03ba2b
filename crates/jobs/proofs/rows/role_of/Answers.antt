use mathlib.Core.Path.{◌∙◌}
use native.Mathlib.Omega.{arith}
use Rattle.jobs.proofs.Deciding.{role_past, role_there}
use Rattle.jobs.proofs.rows.role_of.Goals as goal

pub returns-in-Some : goal.returns-in-Some
returns-in-Some c =
    let found = c.in-Some.ensures.lookup in
    c.from.ensures ∙ found.3.1 0 ∙ role_there _ _ (omega (arith, found.3.0))

pub returns-in-None : goal.returns-in-None
returns-in-None c = c.from-in-None.ensures ∙ role_past _ _ (omega (arith, c.in-None.ensures.lookup.3))
