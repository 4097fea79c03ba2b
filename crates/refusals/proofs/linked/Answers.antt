use mathlib.Core.Path.{◌∙◌}
use Rattle.refusals.proofs.Trying.{edge_row}
use Rattle.refusals.proofs.linked.Goals as goal

pub returns : goal.returns
returns c = let f = c.args.f.now in edge_row c.args.t.now f.command (c.has.ensures ∙ c.union.ensures f.command.junior)
