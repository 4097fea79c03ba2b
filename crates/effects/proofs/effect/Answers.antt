use Rattle.effects.proofs.Edits.{tables_are}
use Rattle.effects.proofs.effect.Goals as goal

pub returns : goal.returns
returns c = tables_are c.args.t.now c.args.c _ _ _ _ _ c.living-t.ensures c.has_i.ensures c.edit.ensures c.has_a.ensures c.edit-2.ensures
