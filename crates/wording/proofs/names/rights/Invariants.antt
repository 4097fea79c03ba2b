use Rattle.wording.specs.Names.{right_of}
use Rattle.wording.proofs.names.rights.Given as goal

abbrev pub ghost-members : goal.ghost-members
ghost-members a = right_of
