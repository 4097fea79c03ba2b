use mathlib.Core.Path.{refl}
use Rattle.hierarchy.proofs.Walk.{finished}
use Rattle.hierarchy.proofs.views.finish.Goals as goal

pub returns : goal.returns
returns c = finished c.single.result c.settle-row.result c.settle.result c.with.result c.requires c.single.ensures c.settle-row.ensures c.settle.ensures c.with.ensures refl
