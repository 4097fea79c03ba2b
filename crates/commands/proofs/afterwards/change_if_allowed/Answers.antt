use mathlib.Core.Path.{sym, subst}
use Rattle.std.proofs.lemmas.Result.{err_from_is_err_and}
use Rattle.hierarchy.specs.Tables.{Tables, Shaped}
use Rattle.board.proofs.Answering.{number_of_some}
use Rattle.commands.proofs.Deciding.{remade_not, remade_done}
use Rattle.commands.proofs.SoundAfter.{shaped_after}
use Rattle.commands.proofs.afterwards.change_if_allowed.Goals as goal

pub refused_after-requires : goal.refused_after-requires
refused_after-requires c = subst (λ (t : Tables). Shaped t) (sym c.effect.ensures) (shaped_after c.args.t.now c.args.c)

pub returns-in_err-refused_after : goal.returns-in_err-refused_after
returns-in_err-refused_after c =
    let p = err_from_is_err_and c.from_residual.result c.from_residual.ensures.1 in
    rw (p.1, p.2) (remade_not c.args.t.now c.args.c c.effect.ensures c.args.kept.now (number_of_some _) c.in_err-refused_after.ensures)

pub returns : goal.returns
returns c = remade_done c.args.t.now c.args.c c.effect.ensures c.args.kept.now c.in_ok-refused_after.ensures
