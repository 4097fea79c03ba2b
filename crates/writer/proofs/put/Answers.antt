use mathlib.Core.Path.{subst, ◌∙◌}
use Prim.Native.Nat.{ℕ, ◌-◌, ◌<◌}
use native.Mathlib.Omega.{arith}
use lib.ListN.{length}
use Rattle.writer.specs.Writing.{NoRoom.past_end, NoRoom.too_few}
use Rattle.writer.proofs.Filed.{sizes_few, file_long, file_room, no_room, filed}
use Rattle.writer.proofs.put.Goals.{then-out-at-via-then-out-at, then-out-at-via-else-out-at+then-out-at-2}
use Rattle.writer.proofs.put.Goals as goal

pub file_len-len-requires : goal.file_len-len-requires
file_len-len-requires c = sizes_few _ _ c.layout_of-layout.ensures

pub returns-then-out-at : goal.returns-then-out-at
returns-then-out-at c =
    let long = c.file_len-len.ensures ∙ file_long _ _ c.layout_of-layout.ensures in
    no_room (elim c.then-out-at.branch [
      | then-out-at-via-then-out-at w ↦ past_end w.if-out-at.true
      | then-out-at-via-else-out-at+then-out-at-2 w ↦ too_few (subst (λ (n : ℕ). length c.args.out.now - c.args.at < n) long w.if-out-at-2.true)
    ])

pub put_file-requires : goal.put_file-requires
put_file-requires c = file_room _ _ c.layout_of-layout.ensures c.args.out.now c.args.at (omega (arith, c.file_len-len.ensures))

pub returns : goal.returns
returns c = filed _ (c.file_len-len.ensures ∙ file_long _ _ c.layout_of-layout.ensures) c.if-out-at.false c.if-out-at-2.false _ c.put_file.ensures
