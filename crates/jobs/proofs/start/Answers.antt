use mathlib.Core.Path.{ap, ◌∙◌}
use mathlib.Core.List.{List, ◌++◌}
use native.Mathlib.Omega.{arith}
use Prim.Native.Nat.{ℕ}
use lib.ListN.{length, drop, length-replicate}
use Rattle.sets.proofs.Bools.{false_no}
use Rattle.jobs.proofs.Deciding.{starts_empty, starts}
use Rattle.jobs.proofs.start.Goals as goal
use Rattle.jobs.proofs.start.Goals.{then-listed-gt1024-via-then-listed-gt1024, then-listed-gt1024-via-else-listed-gt1024+then-not-all_roles}

pub returns-then-listed-gt1024 : goal.returns-then-listed-gt1024
returns-then-listed-gt1024 c =
    let e = c.clear.ensures in
    starts_empty
    (λ f. elim c.then-listed-gt1024.branch [
      | then-listed-gt1024-via-then-listed-gt1024 w ↦ omega (arith, f.few, w.if-listed-gt1024.true)
      | then-listed-gt1024-via-else-listed-gt1024+then-not-all_roles w ↦ false_no w.if-not-all_roles.true (w.all_roles.ensures.1 f.roles)
    ]) e.0 e.1.0 e.1.1

pub copy-requires : goal.copy-requires
copy-requires c = (omega (arith, c.if-listed-gt1024.false), ap length c.clear.ensures.0 ∙ length-replicate {A = ℕ} 1024 64)

pub returns : goal.returns
returns c =
    let l : List ℕ = c.args.listed.now in
    let e = c.clear.ensures in
    starts (record { few = c.if-listed-gt1024.false; roles = c.all_roles.ensures.0 c.if-not-all_roles.false }) (c.copy.ensures ∙ ap (λ (row : List ℕ). l ++ drop (length l) row) e.0) e.1.0 e.1.1
