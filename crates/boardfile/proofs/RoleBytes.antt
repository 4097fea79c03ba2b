-- The loop over role bytes: k of them are read, and live is the set that they list. Assumes nothing.
use mathlib.Core.Path.{◌≡◌, refl, sym, ap, ap₂, ◌∙◌, subst, subst₂}
use mathlib.Core.Bool.{Bool, false, ◌||◌, or-false}
use mathlib.Core.Logic.{◌⊎◌, inl, inr, ⊎_elim, ◌≢◌}
use mathlib.Core.List.{List, [], ◌∷◌, ◌++◌}
use Prim.Native.Nat.{ℕ, zero, suc, ◌+◌, ◌^◌, ◌≤◌, ◌<◌, zero-le}
use native.Mathlib.Nat.{zero-add, not-suc-le-zero, le_antisymm}
use native.Mathlib.Numerals.{add-one}
use native.Mathlib.Omega.{arith}
use lib.Dec.{lit<}
use lib.ListN.{length, take}
use lib.Seq.{take-suc, get_or-take, length-take-le}
use Rattle.sets.specs.Sets.{bit, ◌is_in◌, same?}
use Rattle.sets.proofs.Bools.{not_so, or_cases, or_right, false_no}
use Rattle.sets.proofs.Digits.{bit_zero}
use Rattle.sets.proofs.Laws.{same_eq, same_self}
use Rattle.frames.specs.Frames.{byte, role_count}
use Rattle.writer.specs.Files.{from}
use Rattle.writer.proofs.Ascending.{from_next, from_end, from_at}
use Rattle.boardfile.specs.Faults.{BadRecord}
use Rattle.boardfile.specs.Faults.{BadRecord.high_role, BadRecord.role_order}
use Rattle.boardfile.specs.Parts.{GoodRoles}

-- ---- for both orders: the least number that may follow k numbers

abbrev pub past : (ℕ → ℕ) → ℕ → ℕ
past p zero = 0
past p (suc k) = suc (p k)

-- a number below that is one that does not ascend
pub late : (p : ℕ → ℕ) (k : ℕ) → p k < past p k → (j : ℕ) × (k ≡ suc j) × (p (suc j) ≤ p j)
late p zero h = absurd (not-suc-le-zero h)
late p (suc j) h = (j, refl, omega arith)

-- ---- one role more in a set

pub other_kept : (s r x : ℕ) → x ≢ r → (bit s x || same? r x) ≡ bit s x
other_kept s r x n = ap (λ (p : Bool). bit s x || p) (not_so (same? r x) (λ e. n (same_eq r x e))) ∙ or-false (bit s x)

-- ---- role bytes that list a set

module _ (f : List ℕ) (n live : ℕ) (bytes : take n f ≡ from 64 0 (bit live)) (room : n ≤ length f) where
  pub listed_many : length (from 64 0 (bit live)) ≡ n
  listed_many = ap length (sym bytes) ∙ length-take-le n f room

  pub listed_at : (k : ℕ) → k < n → byte (from 64 0 (bit live)) k ≡ byte f k
  listed_at k l = ap (λ (l : List ℕ). byte l k) (sym bytes) ∙ get_or-take n f k 0 l

  pub listed_lives : (k : ℕ) → k < n → byte f k is_in live
  listed_lives k l = subst (λ (x : ℕ). x is_in live) (listed_at k l) (from_at 64 0 (bit live) k (omega (arith, listed_many))).holds

-- ---- the loop

pub record SoFar (f : List ℕ) (n k next live : ℕ) : Type 0 where
  pub bytes : take k f ≡ from next 0 (bit live)
  pub below : (x : ℕ) → x is_in live → x < next
  pub next_is : next ≡ past (byte f) k
  pub small : next ≤ 64
  pub fits : live < 2 ^ 64
  pub within : k ≤ n

pub roles_start : (f : List ℕ) (n : ℕ) → SoFar f n 0 0 0
unfolding from
roles_start f n = record { bytes = refl; below = λ x e. absurd (false_no (bit_zero x) e); next_is = refl; small = zero-le; fits = lit< tt; within = zero-le }

module _ {f : List ℕ} {n k next live : ℕ} (inv : SoFar f n k next live) (room : n ≤ length f) where
  module _ (more : k < length (take n f)) where
    -- the byte that is read
    abbrev r : ℕ
    r = byte (take n f) k

    inside : k < n
    inside = omega (arith, length-take-le n f room)

    is : r ≡ byte f k
    is = get_or-take n f k 0 inside

    pub roles_turn : (live' : ℕ) → next ≤ r → r ≤ 63 → live' < 2 ^ 64 → ((x : ℕ) → bit live' x ≡ (bit live x || same? r x)) → SoFar f n (k + 1) (r + 1) live'
    roles_turn live' le small fits grown = record {
      bytes = rw (add-one k, add-one r) (take-suc f k 0 (omega (arith, inside)) ∙ ap₂ (λ (l : List ℕ) (x : ℕ). l ++ (x ∷ [])) inv.bytes (sym is) ∙ sym listed);
      below = λ x e. ⊎_elim (λ o. omega (arith, inv.below x o)) (λ s. omega (arith, same_eq r x s)) (or_cases (bit live x) (same? r x) (sym (grown x) ∙ e));
      next_is = rw (add-one r, add-one k) (ap suc is);
      small = omega arith;
      fits = fits;
      within = omega (arith, inside);
    }
      where
        none : (x : ℕ) → 0 + next ≤ x → x < r → bit live' x ≡ false
        none x a b = grown x ∙ other_kept live r x (omega arith) ∙ not_so (bit live x) (λ e. absurd (omega (arith, inv.below x e)))

        listed : from (suc r) 0 (bit live') ≡ from next 0 (bit live) ++ (r ∷ [])
        listed =
            from_next 0 next r r (bit live) (bit live') (zero-add r) le
            (λ x a b. grown x ∙ other_kept live r x (omega arith))
            none
            (grown r ∙ or_right (bit live r) (same? r r) (same_self r (omega arith)))

    -- no role, or one that does not ascend
    pub roles_bad : role_count f ≡ n → (63 < r) ⊎ ((r ≤ 63) × (r < next)) → BadRecord f
    roles_bad e (inl high) = high_role k (omega (arith, inside)) (omega (arith, is))
    roles_bad e (inr low) =
        let w = late (byte f) k (subst₂ ◌<◌ is inv.next_is low.1) in
        role_order w.0 (omega (arith, inside, w.1)) w.2

  pub roles_end : length (take n f) ≤ k → 1 ≤ n → byte f 0 ≡ 0 → GoodRoles f n live
  roles_end h m first = record { bytes = all; root = root; fits = inv.fits }
    where
      all : take n f ≡ from 64 0 (bit live)
      all =
          ap (λ (j : ℕ). take j f) (le_antisymm (omega (arith, length-take-le n f room)) inv.within)
          ∙ inv.bytes
          ∙ sym (from_end 64 next 0 (bit live) inv.small (λ x a b. not_so (bit live x) (λ e. absurd (omega (arith, inv.below x e)))))

      root : 0 is_in live
      root = subst (λ (x : ℕ). x is_in live) first (listed_lives f n live all room 0 m)
