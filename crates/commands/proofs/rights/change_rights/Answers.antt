use borrow.Author.Rules.{rules}
use Rattle.refusals.proofs.Trying.{role_lt}
use Rattle.commands.proofs.RightsLeft.{rights_set, rights_small}
use Rattle.commands.proofs.rights.change_rights.Goals as goal

pub bounds-rights-role : goal.bounds-rights-role
bounds-rights-role c = role_lt _ c.requires

pub overflow_cast-rights : goal.overflow_cast-rights
overflow_cast-rights c =
    record { fits = rights_small c.args.c c.requires _ c.held_after.result (c.fits-rights c.args.c.role) (rw c.from-held.ensures at c.held_after.ensures) }

pub bounds-rights-role-2 : goal.bounds-rights-role-2
bounds-rights-role-2 c = role_lt _ c.requires

pub returns : goal.returns
returns c = rights_set c.args.c c.args.rights.now (record { rows = search rules; fits = c.fits-rights }) (role_lt c.args.c c.requires) _ (rw c.from-held.ensures at c.held_after.ensures)
