use mathlib.Core.Path.{◌≡◌, sym, ap, ◌∙◌}
use Prim.Native.Nat.{ℕ}
use native.Mathlib.Omega.{arith}
use borrow.Author.Rules.{rules}
use borrow.Author.Tests.{le-ltb}
use lib.ListN.{get_or-eq_default, length}
use Rattle.sets.specs.Sets.{bit}
use Rattle.sets.proofs.Digits.{bit_zero}
use Rattle.board.proofs.kept.derives_of.Goals as goal

pub returns-else-x-lt64 : goal.returns-else-x-lt64
returns-else-x-lt64 c =
    let a = c.args in
    let rows : length a.derives.now ≡ 64 = search rules in
    le-ltb a.x 64 c.if-x-lt64.false ∙ sym (ap (λ (s : ℕ). bit s a.y) (get_or-eq_default a.derives.now 0 {n = a.x} (omega (arith, rows))) ∙ bit_zero a.y)
