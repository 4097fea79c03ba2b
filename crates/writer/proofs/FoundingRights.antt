-- Which rights `founding?` holds of: the founding board's, byte for byte, and no others. Assumes nothing.
use mathlib.Core.Path.{◌≡◌, refl, sym, ap, ◌∙◌}
use mathlib.Core.Bool.{Bool, true, false, not}
use mathlib.Core.Logic.{◌≢◌, dite}
use mathlib.Core.List.{List}
use Prim.Native.Nat.{ℕ, zero, suc, ◌≤◌, ◌<◌, zero-le}
use native.Mathlib.Decide.{ℕ_discrete}
use native.Mathlib.Omega.{arith}
use lib.Dec.{eqb}
use lib.ListN.{length, drop, replicate, length-drop}
use lib.Seq.{ext_get_or, get_or-drop}
use borrow.Author.Tests.{eq-eqb, ne_eqb}
use Rattle.std.specs.Bool.{MatchBool}
use Rattle.std.specs.List.{AllWithin, HoldsAt}
use Rattle.sets.specs.Sets.{bit, ◌is_in◌}
use Rattle.sets.proofs.Bools.{false_no}
use Rattle.board.specs.Rights.{rights_of, founding_rights, RightsFit}
use Rattle.writer.specs.Files.{from, founding?}
use Rattle.writer.proofs.Ascending.{from_none, from_has}

pub blank_at : (n x : ℕ) → rights_of (replicate n 0) x ≡ 0
blank_at zero x = refl
blank_at (suc n) zero = refl
blank_at (suc n) (suc x) = blank_at n x

-- nobody but role 0 has any
pub founding_other : (x : ℕ) → 0 < x → rights_of founding_rights x ≡ 0
founding_other zero l = absurd (omega arith)
founding_other (suc x) l = blank_at 63 x

module _ (rights : List ℕ) where
  -- whether a role's rights are others than the founding board's
  abbrev other : ℕ → Bool
  other x = not (eqb (rights_of rights x) (rights_of founding_rights x))

  -- the test holds where all 64 agree, and fails where one differs
  pub founding_yes : ((x : ℕ) → x < 64 → rights_of rights x ≡ rights_of founding_rights x) → founding? rights ≡ true
  unfolding founding?
  founding_yes h = eq-eqb (length (from 64 0 other)) 0
      (ap length (from_none 64 0 other (λ x a b. ap not (eq-eqb (rights_of rights x) (rights_of founding_rights x) (h x (omega arith))))))

  pub founding_no : (x : ℕ) → x < 64 → rights_of rights x ≢ rights_of founding_rights x → founding? rights ≡ false
  unfolding founding?
  founding_no x l n =
      let w = from_has 64 0 other x (ap not (ne_eqb (rights_of rights x) (rights_of founding_rights x) n)) zero-le (omega arith) in
      ne_eqb (length (from 64 0 other)) 0 (λ z. omega (arith, w.inside))

  -- so it holds of one row of 64 alone
  pub founding_at : founding? rights ≡ true → (x : ℕ) → x < 64 → rights_of rights x ≡ rights_of founding_rights x
  founding_at e x l = dite (ℕ_discrete (rights_of rights x) (rights_of founding_rights x)) (λ q. q) (λ n. absurd (false_no (founding_no x l n) e))

  pub founding_only : length rights ≡ 64 → founding? rights ≡ true → rights ≡ founding_rights
  founding_only rows e = ext_get_or 0 rights founding_rights rows (λ x l. founding_at e x (omega arith))

-- the test by parts: role 0 has all rights, and of the rows behind its one all are 0, or some one isn't
pub founding_rest : (rights : List ℕ) → length rights ≡ 64 → rights_of rights 0 ≡ 31
    → (r : Bool) → MatchBool r (AllWithin (λ x. x ≡ 0) (drop 1 rights) 0 (length (drop 1 rights))) ((k : ℕ) × (k < length (drop 1 rights)) × HoldsAt (λ x. x ≢ 0) (drop 1 rights) k)
    → r ≡ founding? rights
founding_rest rights rows root true h = sym (founding_yes rights same)
  where
    same : (x : ℕ) → x < 64 → rights_of rights x ≡ rights_of founding_rights x
    same zero l = root
    same (suc x) l = sym (get_or-drop 1 rights x 0 ∙ ap (rights_of rights) (omega arith)) ∙ h x 0 zero-le (omega (arith, length-drop 1 rights)) ∙ sym (founding_other (suc x) (omega arith))
founding_rest rights rows root false h =
    sym (founding_no rights (suc h.0) (omega (arith, length-drop 1 rights, h.1))
    (λ e. h.2 0 (get_or-drop 1 rights h.0 0 ∙ ap (rights_of rights) (omega arith) ∙ e ∙ founding_other (suc h.0) (omega arith))))

pub founding_itself : founding? founding_rights ≡ true
founding_itself = founding_yes founding_rights (λ x l. refl)

-- and they fit every board where role 0 lives
pub founding_fit : (live : ℕ) → 0 is_in live → RightsFit live founding_rights
founding_fit live root = record { rows = refl; five = five; living = living }
  where
    five : (x : ℕ) → rights_of founding_rights x ≤ 31
    five zero = omega arith
    five (suc x) = omega (arith, blank_at 63 x)

    living : (x : ℕ) → bit live x ≡ false → rights_of founding_rights x ≡ 0
    living zero e = absurd (false_no e root)
    living (suc x) e = blank_at 63 x
