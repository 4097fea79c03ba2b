-- Tables without a loop have at most 2,016 edges: of two roles at most one is the senior of the other, and none is its own. So the edges
-- and the edges turned round are together at most the 64 * 63 pairs of different roles. Assumes nothing.
use mathlib.Core.Path.{◌≡◌, refl, sym, ap, ap₂, ◌∙◌, subst}
use mathlib.Core.Bool.{Bool, true, false, not, cond}
use mathlib.Core.Logic.{◌≢◌}
use mathlib.Core.List.{[], ◌∷◌}
use Prim.Native.Nat.{ℕ, zero, suc, ◌+◌, ◌*◌, ◌≤◌, ◌<◌}
use native.Mathlib.Nat.{zero-add, add_comm, le_refl}
use native.Mathlib.Numerals.{add-one}
use native.Mathlib.Omega.{arith}
use lib.Dec.{eqb}
use lib.ListN.{length, length-append}
use borrow.Author.Tests.{eqb-true, eq-eqb}
use Rattle.sets.specs.Sets.{num}
use Rattle.hierarchy.specs.Tables.{Tables, kind}
use Rattle.hierarchy.specs.Words.{Loops}
use Rattle.hierarchy.specs.Words.{Way.edge, Way.then}
use Rattle.writer.specs.Files.{from, edge?, kind_at}
use Rattle.writer.proofs.Ascending.{from_split}
use Rattle.writer.proofs.EdgeBytes.{edge_there}
use Rattle.writer.proofs.OneFile.{at_place}

-- ---- sums

sum : ℕ → (ℕ → ℕ) → ℕ
sum zero f = 0
sum (suc n) f = f n + sum n f

sum_zero : (n : ℕ) → sum n (λ _. 0) ≡ 0
unfolding sum
sum_zero zero = refl
sum_zero (suc n) = omega (arith, sum_zero n)

sum_le : (n : ℕ) (f g : ℕ → ℕ) → ((x : ℕ) → x < n → f x ≤ g x) → sum n f ≤ sum n g
unfolding sum
sum_le zero f g h = le_refl 0
sum_le (suc n) f g h = omega (arith, h n (le_refl (suc n)), sum_le n f g (λ x l. h x (omega arith)))

sum_same : (n : ℕ) (f g : ℕ → ℕ) → ((x : ℕ) → x < n → f x ≡ g x) → sum n f ≡ sum n g
unfolding sum
sum_same zero f g h = refl
sum_same (suc n) f g h = ap₂ ◌+◌ (h n (le_refl (suc n))) (sum_same n f g (λ x l. h x (omega arith)))

sum_add : (n : ℕ) (f g : ℕ → ℕ) → sum n f + sum n g ≡ sum n (λ x. f x + g x)
unfolding sum
sum_add zero f g = refl
sum_add (suc n) f g = omega (arith, sum_add n f g)

sum_turned : (m n : ℕ) (f : ℕ → ℕ → ℕ) → sum m (λ x. sum n (λ y. f x y)) ≡ sum n (λ y. sum m (λ x. f x y))
unfolding sum
sum_turned zero n f = sym (sum_zero n)
sum_turned (suc m) n f = ap (λ (k : ℕ). sum n (λ y. f m y) + k) (sum_turned m n f) ∙ sum_add n (λ y. f m y) (λ y. sum m (λ x. f x y))

-- ---- a length is a sum

one_long : (k : ℕ) (g : ℕ → Bool) → length (from 1 k g) ≡ num (g k)
unfolding from
one_long k g = go (g k)
  where
    go : (p : Bool) → length (cond p (k ∷ []) []) ≡ num p
    go true = refl
    go false = refl

long_sum : (n k : ℕ) (g : ℕ → Bool) → length (from n k g) ≡ sum n (λ y. num (g (k + y)))
unfolding from sum
long_sum zero k g = refl
long_sum (suc n) k g =
    ap (λ (m : ℕ). length (from m k g)) (sym (add-one n))
    ∙ ap length (from_split n 1 k g)
    ∙ length-append (from n k g) (from 1 (k + n) g)
    ∙ omega (arith, long_sum n k g, one_long (k + n) g)

sum_more : (n : ℕ) (f : ℕ → ℕ) → sum (suc n) f ≡ f n + sum n f
unfolding sum
sum_more n f = refl

none_long : (k : ℕ) (g : ℕ → Bool) (f : ℕ → ℕ) → length (from 0 k g) ≡ sum 0 f
unfolding from sum
none_long k g f = refl

rows_sum : (n : ℕ) (g : ℕ → Bool) → length (from (n * 64) 0 g) ≡ sum n (λ x. sum 64 (λ y. num (g (x * 64 + y))))
rows_sum zero g = none_long 0 g (λ x. sum 64 (λ y. num (g (x * 64 + y))))
rows_sum (suc n) g =
    let w : suc n * 64 ≡ n * 64 + 64 = omega arith in
    ap (λ (m : ℕ). length (from m 0 g)) w
    ∙ ap length (from_split (n * 64) 64 0 g)
    ∙ length-append (from (n * 64) 0 g) (from 64 (0 + n * 64) g)
    ∙ ap₂ ◌+◌ (rows_sum n g) (ap (λ (k : ℕ). length (from 64 k g)) (zero-add (n * 64)) ∙ long_sum 64 (n * 64) g)
    ∙ add_comm (sum n (λ x. sum 64 (λ y. num (g (x * 64 + y))))) (sum 64 (λ y. num (g (n * 64 + y))))
    ∙ sym (sum_more n (λ x. sum 64 (λ y. num (g (x * 64 + y)))))

-- ---- pairs

at_most_one : (p q same : Bool) → (p ≡ true → q ≡ true → ⊥) → (same ≡ true → p ≡ true → ⊥) → (same ≡ true → q ≡ true → ⊥) → num p + num q ≤ num (not same)
at_most_one true true s f g h = absurd (f refl refl)
at_most_one true false true f g h = absurd (g refl refl)
at_most_one true false false f g h = omega arith
at_most_one false true true f g h = absurd (h refl refl)
at_most_one false true false f g h = omega arith
at_most_one false false s f g h = omega arith

all_pairs : sum 64 (λ x. sum 64 (λ y. num (not (eqb x y)))) ≡ 4032
unfolding sum
all_pairs = refl

module _ (t : Tables) (loopless : Loops t → ⊥) where
  abbrev has : ℕ → ℕ → Bool
  has x y = edge? (kind_at t) (x * 64 + y)

  stands : (x y : ℕ) → y < 64 → has x y ≡ true → kind t x y ≢ 0
  stands x y l e z = edge_there (kind_at t) (x * 64 + y) e (at_place t x y l ∙ z)

  no_both : (x y : ℕ) → x < 64 → y < 64 → has x y ≡ true → has y x ≡ true → ⊥
  no_both x y l m e f = loopless (x, (_, then (stands x y m e) (edge (stands y x l f))))

  no_self : (x y : ℕ) → y < 64 → eqb x y ≡ true → has x y ≡ true → ⊥
  no_self x y l s e = loopless (y, (_, edge (subst (λ (z : ℕ). kind t z y ≢ 0) (eqb-true x y s) (stands x y l e))))

  pair : (x y : ℕ) → x < 64 → y < 64 → num (has x y) + num (has y x) ≤ num (not (eqb x y))
  pair x y l m =
      at_most_one (has x y) (has y x) (eqb x y) (no_both x y l m) (no_self x y m)
      (λ s e. no_self y x l (eq-eqb y x (sym (eqb-true x y s))) e)

  total : ℕ
  total = sum 64 (λ x. sum 64 (λ y. num (has x y)))

  twice : total + total ≤ 4032
  unfolding total
  twice =
      let turned : sum 64 (λ x. sum 64 (λ y. num (has x y))) ≡ sum 64 (λ x. sum 64 (λ y. num (has y x))) = sum_turned 64 64 (λ x y. num (has x y)) in
      let added = sum_add 64 (λ x. sum 64 (λ y. num (has x y))) (λ x. sum 64 (λ y. num (has y x))) in
      let inner = sum_same 64 (λ x. sum 64 (λ y. num (has x y)) + sum 64 (λ y. num (has y x))) (λ x. sum 64 (λ y. num (has x y) + num (has y x))) (λ x l. sum_add 64 (λ y. num (has x y)) (λ y. num (has y x))) in
      let few = sum_le 64 (λ x. sum 64 (λ y. num (has x y) + num (has y x))) (λ x. sum 64 (λ y. num (not (eqb x y))))
      (λ x l. sum_le 64 (λ y. num (has x y) + num (has y x)) (λ y. num (not (eqb x y))) (λ y m. pair x y l m)) in
      omega (arith, turned, added, inner, few, all_pairs)

  pub edges_few : length (from 4096 0 (edge? (kind_at t))) ≤ 2016
  unfolding total
  edges_few = omega (arith, rows_sum 64 (edge? (kind_at t)), twice)
