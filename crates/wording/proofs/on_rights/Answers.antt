use Rattle.std.proofs.Common.{sym, ◌∙◌, arith}
use Rattle.wording.proofs.Lists.{rights_few}
use Rattle.wording.proofs.NewRole.{some_of}
use Rattle.wording.proofs.on_rights.Goals as goal

pub overflow_cast-rights : goal.overflow_cast-rights
overflow_cast-rights c =
    let few = rw (sym (some_of _ _ c.in_ok-rights.ensures.value ∙ c.rights.ensures)) at (rights_few c.word.result.now) in omega (arith, few)
