use Rattle.wording.specs.Names.{role_of}
use Rattle.wording.proofs.names.roles.Given as goal

abbrev pub ghost-members : goal.ghost-members
ghost-members a = role_of
