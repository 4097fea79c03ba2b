-- How many numbers a list of them has: the members of a set, and the edges of a board, row by row. Assumes nothing.
use mathlib.Core.Path.{◌≡◌, refl, sym, ap, ap₂, ◌∙◌}
use mathlib.Core.Bool.{Bool, true, false, cond, ◌||◌}
use mathlib.Core.List.{List, ◌∷◌}
use Prim.Native.Nat.{ℕ, zero, suc, ◌+◌, ◌*◌, ◌/◌, ◌%◌, ◌^◌, ◌≤◌, ◌<◌}
use native.Mathlib.Nat.{add-zero, add-suc, zero-add, le_refl}
use native.Mathlib.Omega.{arith}
use lib.Count.{ones, ones_step}
use lib.ListN.{length, length-append}
use Rattle.sets.specs.Sets.{bit, num}
use Rattle.sets.proofs.Digits.{bit_high, low_num, half_lt}
use Rattle.hierarchy.specs.Tables.{Tables, row, kind}
use Rattle.writer.specs.Files.{from, edge?, kind_at}
use Rattle.writer.proofs.Ascending.{from_split, from_short}
use Rattle.writer.proofs.Writings.{kind_some}

-- ---- elsewhere there are as many

counted : (p : Bool) (x : ℕ) (l : List ℕ) → length (cond p (x ∷ l) l) ≡ num p + length l
counted true x l = omega arith
counted false x l = sym (zero-add (length l))

pub from_shifted : (n d k : ℕ) (f g : ℕ → Bool) → ((x : ℕ) → k ≤ x → x < k + n → f (d + x) ≡ g x) → length (from n (d + k) f) ≡ length (from n k g)
unfolding from
from_shifted zero d k f g h = refl
from_shifted (suc n) d k f g h =
    counted (f (d + k)) (d + k) (from n (suc (d + k)) f)
    ∙ ap₂ (λ (p : Bool) (m : ℕ). num p + m) (h k (le_refl k) (omega arith))
    (ap (λ (m : ℕ). length (from n m f)) (sym (add-suc d k)) ∙ from_shifted n d (suc k) f g (λ x a b. h x (omega arith) (omega arith)))
    ∙ sym (counted (g k) k (from n (suc k) g))

-- ---- a set has as many members as ones

pub ones_from : (k s : ℕ) → s < 2 ^ k → length (from k 0 (bit s)) ≡ ones s
unfolding from
ones_from zero s h = let z : s ≡ 0 = omega arith in rw z (unfold ones in refl)
ones_from (suc k) s h =
    counted (bit s 0) 0 (from k 1 (bit s))
    ∙ ap (λ (m : ℕ). num (bit s 0) + m) (from_shifted k 1 0 (bit s) (bit (s / 2)) (λ x a b. ap (bit s) (omega arith) ∙ bit_high s x) ∙ ones_from k (s / 2) (half_lt k s h))
    ∙ omega (arith, ones_step s, low_num s)

-- ---- the edges of one senior

pub row_count : (t : Tables) (x s : ℕ) → s < 2 ^ 64 → ((y : ℕ) → bit s y ≡ (bit (row t.i x) y || bit (row t.a x) y))
    → length (from 64 (x * 64) (edge? (kind_at t))) ≡ ones s
unfolding kind_at kind
row_count t x s h e =
    ap (λ (m : ℕ). length (from 64 m (edge? (kind_at t)))) (sym (add-zero (x * 64)))
    ∙ from_shifted 64 (x * 64) 0 (edge? (kind_at t)) (bit s) there
    ∙ ones_from 64 s h
  where
    there : (y : ℕ) → 0 ≤ y → y < 0 + 64 → edge? (kind_at t) (x * 64 + y) ≡ bit s y
    there y a b =
        let q : (x * 64 + y) / 64 ≡ x = omega arith in
        let r : (x * 64 + y) % 64 ≡ y = omega arith in
        rw (q, r) (kind_some (bit (row t.i x) y) (bit (row t.a x) y) ∙ sym (e y))

-- ---- the loop over the seniors

pub record Counted (t : Tables) (n x : ℕ) : Type 0 where
  pub count : n ≡ length (from (x * 64) 0 (edge? (kind_at t)))
  pub within : x ≤ 64

pub count_start : (t : Tables) → Counted t 0 0
unfolding from
count_start t = record { count = refl; within = omega arith }

pub count_few : {t : Tables} {n x : ℕ} → Counted t n x → n ≤ 4096
count_few {t} {n} {x} c = omega (arith, c.count, from_short (x * 64) 0 (edge? (kind_at t)), c.within)

pub count_turn : {t : Tables} {n x : ℕ} → Counted t n x → x < 64 → (m : ℕ) → length (from 64 (x * 64) (edge? (kind_at t))) ≡ m → Counted t (n + m) (x + 1)
count_turn {t} {n} {x} c l m e = record { count = more; within = omega arith }
  where
    more : n + m ≡ length (from ((x + 1) * 64) 0 (edge? (kind_at t)))
    more =
        let w : (x + 1) * 64 ≡ x * 64 + 64 = omega arith in
        ap₂ ◌+◌ c.count (sym e ∙ ap (λ (k : ℕ). length (from 64 k (edge? (kind_at t)))) (sym (zero-add (x * 64))))
        ∙ sym (length-append (from (x * 64) 0 (edge? (kind_at t))) (from 64 (0 + x * 64) (edge? (kind_at t))))
        ∙ ap length (sym (from_split (x * 64) 64 0 (edge? (kind_at t))) ∙ ap (λ (k : ℕ). from k 0 (edge? (kind_at t))) (sym w))

pub count_row : {t : Tables} {n x : ℕ} → Counted t n x → x < 64 → (i a s m : ℕ) → i ≡ row t.i x → a ≡ row t.a x → s < 2 ^ 64
    → ((y : ℕ) → bit s y ≡ (bit i y || bit a y)) → m ≡ ones s → Counted t (n + m) (x + 1)
count_row {t} {n} {x} c l i a s m ei ea fits e is = count_turn c l m (row_count t x s fits (λ y. e y ∙ ap₂ (λ (p q : ℕ). bit p y || bit q y) ei ea) ∙ sym is)
