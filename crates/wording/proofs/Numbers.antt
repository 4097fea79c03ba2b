-- Decimal numbers, read digit by digit: past 63 a number is no role, whatever follows. Assumes nothing.
use mathlib.Core.Path.{◌≡◌, refl, sym, ◌∙◌}
use mathlib.Core.Bool.{Bool, true, false, cond, ◌&&◌, and-false}
use mathlib.Core.List.{List, [], ◌∷◌}
use Rattle.std.specs.Prelude.{Option, Some, None, option_and_then, IfSome}
use Prim.Native.Nat.{ℕ, ◌+◌, ◌*◌, ◌-◌, ◌≤◌, ◌<◌}
use native.Mathlib.Nat.{le_refl, le_trans}
use native.Mathlib.Numerals.{add-one}
use native.Mathlib.Omega.{arith}
use lib.Dec.{leb}
use lib.ListN.{length, get_or, drop, drop_of_length-le}
use lib.Seq.{drop-cons}
use borrow.Author.Tests.{le-leb, lt-leb, leb-true, leb-false}
use Rattle.wording.specs.Names.{digit?, digits?, some?, value_from, role_of}
use Rattle.wording.specs.Steps.{grown}

unfoldable pub grown_all : ℕ → List ℕ → Option ℕ
grown_all v [] = Some v
grown_all v (b ∷ rest) = option_and_then (λ n. grown_all n rest) (grown v b)

-- ---- one byte more

pub grown_no_digit : (v b : ℕ) → digit? b ≡ false → grown v b ≡ None
unfolding grown
grown_no_digit v b e = rw e

pub grown_high : (v b : ℕ) → 63 < v * 10 + (b - 48) → grown v b ≡ None
unfolding grown
grown_high v b h = rw (lt-leb (v * 10 + (b - 48)) 63 h, and-false (digit? b))

pub grown_low : (v b : ℕ) → digit? b ≡ true → v * 10 + (b - 48) ≤ 63 → grown v b ≡ Some (v * 10 + (b - 48))
unfolding grown
grown_low v b e h = rw (e, le-leb (v * 10 + (b - 48)) 63 h)

-- ---- all of them

value_grows : (v : ℕ) (w : List ℕ) → v ≤ value_from v w
unfolding value_from
value_grows v [] = le_refl v
value_grows v (b ∷ rest) = le_trans (omega arith) (value_grows (v * 10 + (b - 48)) rest)

grown_all_lem : (v : ℕ) (w : List ℕ) → v ≤ 63 → grown_all v w ≡ cond (digits? w && leb (value_from v w) 63) (Some (value_from v w)) None
unfolding grown_all digits? value_from
grown_all_lem v [] h = rw (le-leb v 63 h)
grown_all_lem v (b ∷ rest) h = go (digit? b) refl (leb (v * 10 + (b - 48)) 63) refl (grown_all_lem (v * 10 + (b - 48)) rest)
  where
    go : (p : Bool) → digit? b ≡ p → (q : Bool) → leb (v * 10 + (b - 48)) 63 ≡ q
        → (v * 10 + (b - 48) ≤ 63 → grown_all (v * 10 + (b - 48)) rest ≡ cond (digits? rest && leb (value_from (v * 10 + (b - 48)) rest) 63) (Some (value_from (v * 10 + (b - 48)) rest)) None)
        → option_and_then (λ n. grown_all n rest) (grown v b) ≡ cond (p && digits? rest && leb (value_from (v * 10 + (b - 48)) rest) 63) (Some (value_from (v * 10 + (b - 48)) rest)) None
    go false e q f ih = rw (grown_no_digit v b e)
    go true e true f ih = rw (grown_low v b e (leb-true _ _ f)) (ih (leb-true _ _ f))
    go true e false f ih =
        rw (grown_high v b (leb-false _ _ f), lt-leb (value_from (v * 10 + (b - 48)) rest) 63 (le_trans (leb-false _ _ f) (value_grows (v * 10 + (b - 48)) rest)), and-false (digits? rest))

-- ---- the loop: the number so far, and the bytes behind it

pub record Reading (text : List ℕ) (number k : ℕ) : Type 0 where
  pub same : grown_all number (drop k text) ≡ grown_all 0 text

pub read_start : (text : List ℕ) → Reading text 0 0
read_start text = record { same = refl }

module _ {text : List ℕ} {number k : ℕ} (r : Reading text number k) where
  turn : k < length text → option_and_then (λ n. grown_all n (drop (k + 1) text)) (grown number (get_or text k 0)) ≡ grown_all 0 text
  unfolding grown_all
  turn h = rw add-one (rw (drop-cons text k 0 h) at r.same)

  pub read_turn : {next : ℕ} → k < length text → Some next ≡ grown number (get_or text k 0) → Reading text next (k + 1)
  read_turn h e = record { same = rw (sym e) at (turn h) }

  pub read_stop : k < length text → None ≡ grown number (get_or text k 0) → None ≡ role_of text
  unfolding grown_all role_of
  read_stop h e = (rw (sym e) at (turn h)) ∙ whole text h
    where
      whole : (w : List ℕ) → k < length w → grown_all 0 w ≡ role_of w
      whole [] h = absurd (omega arith)
      whole (b ∷ rest) h = grown_all_lem 0 (b ∷ rest) (omega arith)

  pub read_end : length text ≤ k → (length text ≡ 0 → ⊥) → Some number ≡ role_of text
  unfolding grown_all role_of
  read_end h z = (rw (drop_of_length-le text h) at r.same) ∙ go text z
    where
      go : (w : List ℕ) → (length w ≡ 0 → ⊥) → grown_all 0 w ≡ role_of w
      go [] z = absurd (z refl)
      go (b ∷ rest) z = grown_all_lem 0 (b ∷ rest) (omega arith)

pub role_none : (text : List ℕ) → length text ≡ 0 → None ≡ role_of text
unfolding role_of
role_none [] z = refl
role_none (b ∷ rest) z = absurd (omega arith)

-- a role is below 64
pub role_low : (text : List ℕ) → IfSome (role_of text) (λ x. x ≤ 63)
unfolding role_of
role_low text = go (some? text && digits? text) (leb (value_from 0 text) 63) refl
  where
    go : (p q : Bool) → leb (value_from 0 text) 63 ≡ q → IfSome (cond (p && q) (Some (value_from 0 text)) None) (λ x. x ≤ 63)
    go true true e = leb-true _ _ e
    go true false e = tt
    go false q e = tt
