use mathlib.Core.Path.{ap₂, ◌∙◌}
use native.Mathlib.Omega.{arith}
use Rattle.hierarchy.specs.Tables.{kind_of}
use Rattle.writer.proofs.Writings.{row_put_start, row_put_end, row_put_room, row_put_turn, kind_num}
use Rattle.writer.proofs.parts.put_row.Goals as goal

pub loop-junior-init : goal.loop-junior-init
loop-junior-init c = row_put_start _ _ _ _ _ _ (cc) c.union.ensures

pub slice_bounds-copy_from_slice-end : goal.slice_bounds-copy_from_slice-end
slice_bounds-copy_from_slice-end c = row_put_room c.requires.1 c.loop-junior.invariant c.in-Some.ensures.steps

pub loop-junior-preserved : goal.loop-junior-preserved
loop-junior-preserved c =
    row_put_turn c.requires.1 c.loop-junior.invariant c.in-Some.ensures.steps _ _ _ (omega arith) (kind_num _ _ _ _ c.from.ensures c.from-in-loop-junior.ensures ∙ ap₂ kind_of c.has.ensures c.has-in-loop-junior.ensures) c.copy_from_slice.ensures.after

pub returns : goal.returns
returns c = row_put_end c.requires.1 c.loop-junior.invariant c.in-None.ensures.steps.0
