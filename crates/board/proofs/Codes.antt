-- A number names one command, and one kind of edge. Assumes nothing.
use mathlib.Core.Path.{◌≡◌, refl, sym, ap, ◌∙◌}
use mathlib.Core.Bool.{cond}
use mathlib.Core.Logic.{◌⊎◌, ⊎_elim}
use Prim.Native.Nat.{ℕ, ◌<◌}
use native.Mathlib.Omega.{arith}
use lib.Dec.{eqb}
use Rattle.std.specs.Prelude.{Option, Some, None}
use Rattle.board.specs.Codes.{code_number, IsCode, kind_number, IsKind}
use Rattle.board.specs.declared.Code.{Code}
use Rattle.board.specs.declared.Code.TheVariants.{AddRole, RemoveRole, AddEdge, RemoveEdge, ChangeEdge, GiveRights, TakeRights}
use Rattle.board.specs.declared.parts.Kind.{Kind}
use Rattle.board.specs.declared.parts.Kind.TheVariants.{I, A, IA}

code_at : ℕ → Code
code_at n =
    cond (eqb n 1) AddRole
    (cond (eqb n 2) RemoveRole
    (cond (eqb n 3) AddEdge
    (cond (eqb n 4) RemoveEdge
    (cond (eqb n 5) ChangeEdge
    (cond (eqb n 6) GiveRights TakeRights)))))

code_back : (k : Code) → code_at (code_number k) ≡ k
unfolding code_at
code_back AddRole = refl
code_back RemoveRole = refl
code_back AddEdge = refl
code_back RemoveEdge = refl
code_back ChangeEdge = refl
code_back GiveRights = refl
code_back TakeRights = refl

pub one_code : {j k : Code} → code_number j ≡ code_number k → j ≡ k
one_code {j} {k} e = sym (code_back j) ∙ ap code_at e ∙ code_back k

code_in : (k : Code) (n : ℕ) → n ≡ code_number k → (n < 1) ⊎ (7 < n) → ⊥
code_in AddRole n e = ⊎_elim (λ l. omega (arith, e, l)) (λ l. omega (arith, e, l))
code_in RemoveRole n e = ⊎_elim (λ l. omega (arith, e, l)) (λ l. omega (arith, e, l))
code_in AddEdge n e = ⊎_elim (λ l. omega (arith, e, l)) (λ l. omega (arith, e, l))
code_in RemoveEdge n e = ⊎_elim (λ l. omega (arith, e, l)) (λ l. omega (arith, e, l))
code_in ChangeEdge n e = ⊎_elim (λ l. omega (arith, e, l)) (λ l. omega (arith, e, l))
code_in GiveRights n e = ⊎_elim (λ l. omega (arith, e, l)) (λ l. omega (arith, e, l))
code_in TakeRights n e = ⊎_elim (λ l. omega (arith, e, l)) (λ l. omega (arith, e, l))

-- what `named` promises leaves one answer
pub code_unique : (n : ℕ) (j k : Option Code) → IsCode n j → IsCode n k → j ≡ k
code_unique n (Some j) (Some k) d e = ap Some (one_code (sym d ∙ e))
code_unique n (Some j) None d e = absurd (code_in j n d e)
code_unique n None (Some k) d e = absurd (code_in k n e d)
code_unique n None None d e = refl

kind_at : ℕ → Kind
kind_at n = cond (eqb n 1) I (cond (eqb n 2) A IA)

kind_back : (k : Kind) → kind_at (kind_number k) ≡ k
unfolding kind_at
kind_back I = refl
kind_back A = refl
kind_back IA = refl

kind_in : (k : Kind) (n : ℕ) → n ≡ kind_number k → (n < 1) ⊎ (3 < n) → ⊥
kind_in I n e = ⊎_elim (λ l. omega (arith, e, l)) (λ l. omega (arith, e, l))
kind_in A n e = ⊎_elim (λ l. omega (arith, e, l)) (λ l. omega (arith, e, l))
kind_in IA n e = ⊎_elim (λ l. omega (arith, e, l)) (λ l. omega (arith, e, l))

-- and so does what `Kind::of` promises
pub kind_unique : (n : ℕ) (j k : Option Kind) → IsKind n j → IsKind n k → j ≡ k
kind_unique n (Some j) (Some k) d e = ap Some (sym (kind_back j) ∙ ap kind_at (sym d ∙ e) ∙ kind_back k)
kind_unique n (Some j) None d e = absurd (kind_in j n d e)
kind_unique n None (Some k) d e = absurd (kind_in k n e d)
kind_unique n None None d e = refl
