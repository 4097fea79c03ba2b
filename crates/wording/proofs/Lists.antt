-- The set that a list of roles, or of rights, names. Assumes nothing.
use mathlib.Core.Path.{◌≡◌, refl, sym, ap, ◌∙◌}
use mathlib.Core.Bool.{Bool, true, ◌||◌, or_assoc, or-false, false≢true}
use mathlib.Core.Logic.{⊎_elim}
use mathlib.Core.List.{List, [], ◌∷◌}
use Rattle.std.specs.Prelude.{Option, Some, None, IfSome}
use Rattle.std.specs.Borrow.{Bor}
use Prim.Native.Nat.{ℕ, ◌^◌, ◌≤◌, ◌<◌, zero-le}
use native.Mathlib.Nat.{le_trans}
use native.Mathlib.Omega.{arith}
use lib.Dec.{eqb, lit<, lit≤}
use lib.ListN.{length}
use lib.Pow.{pow_mono}
use borrow.Author.Tests.{eqb-true, eq-eqb, ne_eqb}
use Rattle.sets.specs.Sets.{bit, same?, digits, set_of}
use Rattle.sets.proofs.Bools.{or_cases, or_left, and_left, not_so, false_no, lt_or_ge, cond_elim}
use Rattle.sets.proofs.Digits.{bit_zero, bit_out, digits_fit, bit_digits}
use Rattle.sets.proofs.Laws.{ext, same_is, same_out, set_of_fits, bit_set_of, is_set_of}
use Rattle.wording.specs.Texts.{bytes, alike?, separates, longer, pieces, rest_of, Given}
use Rattle.wording.specs.Names.{role_of, right_of, one?, is?, all_named?, named?, members_of, rights_of}
use Rattle.wording.specs.declared.pieces.Pieces.{Pieces}
use Rattle.wording.proofs.Cutting.{end_of, rest_over, turn}
use Rattle.wording.proofs.Numbers.{role_low}
use Rattle.wording.proofs.Placing.{place_low}

same_of : (x y : ℕ) → y < 64 → same? x y ≡ eqb y x
same_of x y h = ⊎_elim
    (λ (l : x < 64). same_is x y l)
    (λ (g : 64 ≤ x). same_out x y g ∙ sym (ne_eqb y x (λ e. absurd (omega arith))))
    (lt_or_ge x 64)

-- ---- the loop: the set so far, and the pieces from a place on

pub record Listing (name : List ℕ → Option ℕ) (text : List ℕ) (set : ℕ) (s : Pieces) : Type 0 where
  pub whole : s.text.now ≡ text
  pub sep : s.sep ≡ 44
  pub fits : set < 2 ^ 64
  pub fine : all_named? name (rest_of 44 text s.from) ≡ all_named? name (pieces 44 text)
  pub so_far : (x : ℕ) → x < 64 → (bit set x || named? name (rest_of 44 text s.from) x) ≡ named? name (pieces 44 text) x

pub list_start : (name : List ℕ → Option ℕ) {text : Bor (List ℕ)} {s : Pieces} → s.text ≡ text → s.from ≡ 0 → s.sep ≡ 44 → Listing name text.now 0 s
unfolding rest_of
list_start name w z e = record { whole = ap (λ (b : Bor (List ℕ)). b.now) w; sep = e; fits = lit< tt; fine = rw z; so_far = λ x _. rw (z, bit_zero x) }

module _ {name : List ℕ → Option ℕ} {text : List ℕ} {set : ℕ} {s : Pieces} (l : Listing name text set s) where
  pub list_over : length s.text.now < s.from → Some set ≡ members_of name text
  unfolding members_of all_named? named?
  list_over h =
      let over : length text < s.from = rw l.whole at h in
      let none = rest_over 44 text s.from over in
      rw (← l.fine, none, is_set_of set (named? name (pieces 44 text)) l.fits (λ x h. sym (or-false (bit set x)) ∙ rw none at (l.so_far x h)))

  module _ {part : Bor (List ℕ)} {t : Pieces} (g : Given s part t) where
    cut : rest_of 44 text s.from ≡ part.now ∷ rest_of 44 text t.from
    cut = rw (l.whole, l.sep) at g.first

    pub list_wrong : None ≡ name part.now → None ≡ members_of name text
    unfolding members_of all_named?
    list_wrong e = rw (← l.fine, cut, ← e)

    pub list_next : {x : ℕ} → Some x ≡ name part.now → (next : ℕ) → next < 2 ^ 64 → ((y : ℕ) → bit next y ≡ (bit set y || same? x y)) → Listing name text next t
    unfolding all_named? named?
    list_next {x} e next f w = record {
      whole = ap (λ (b : Bor (List ℕ)). b.now) g.same_text ∙ l.whole;
      sep = g.same_sep ∙ l.sep;
      fits = f;
      fine = rw (cut, ← e) at l.fine;
      so_far = λ y h. rw (w y, same_of x y h, or_assoc) (rw (cut, ← e) at (l.so_far y h));
    }

-- ---- rights are five

is_low : (r : Option ℕ) (n x : ℕ) → IfSome r (λ k. k < n) → is? x r ≡ true → x < n
is_low None n x h e = absurd (false≢true e)
is_low (Some k) n x h e = rw (eqb-true x k e) h

right_low : (w : List ℕ) → IfSome (right_of w) (λ k. k < 5)
unfolding pieces longer separates
right_low w = place_low w (pieces 44 (bytes "add-role,remove-role,add-edge,remove-edge,change-edge"))

named_low : (ps : List (List ℕ)) (x : ℕ) → named? right_of ps x ≡ true → x < 5
unfolding named?
named_low [] x e = absurd (false≢true e)
named_low (p ∷ ps) x e = ⊎_elim
    (λ (m : is? x (right_of p) ≡ true). is_low (right_of p) 5 x (right_low p) m)
    (λ (m : named? right_of ps x ≡ true). named_low ps x m)
    (or_cases (is? x (right_of p)) (named? right_of ps x) e)

-- a set whose members are all below k
low_set : (k : ℕ) (f : ℕ → Bool) → k ≤ 64 → ((x : ℕ) → f x ≡ true → x < k) → set_of f < 2 ^ k
low_set k f h low = rw (ext 64 (set_of f) (digits k f) (set_of_fits f) (le_trans (digits_fit k f) (pow_mono h)) (λ x l. bit_set_of f x l ∙ there x)) (digits_fit k f)
  where
    there : (x : ℕ) → f x ≡ bit (digits k f) x
    there x = ⊎_elim
        (λ (l : x < k). sym (bit_digits k f x l))
        (λ (g : k ≤ x). not_so (f x) (λ e. absurd (omega (arith, low x e))) ∙ sym (bit_out k (digits k f) x (digits_fit k f) g))
        (lt_or_ge x k)

pub rights_few : (w : List ℕ) → IfSome (rights_of w) (λ s. s ≤ 31)
unfolding rights_of members_of
rights_few w = cond_elim Few (alike? w (bytes "all")) _ _
    (λ _. lit≤ tt)
    (λ _. cond_elim Few (all_named? right_of (pieces 44 w)) _ _
    (λ _. let h = low_set 5 (named? right_of (pieces 44 w)) (lit≤ tt) (λ x e. named_low (pieces 44 w) x e) in omega arith)
    (λ _. tt))
  where
    Few : Option ℕ → Type 0
    Few m = IfSome m (λ s. s ≤ 31)

-- ---- a list names somebody: so a set of a new role that was named has a role in it

somebody : (r : Option ℕ) (f : ℕ → Bool) → IfSome r (λ x. x ≤ 63) → one? r ≡ true → set_of (λ x. is? x r || f x) ≡ 0 → ⊥
somebody None f h a e = absurd (false≢true a)
somebody (Some y) f h a e =
    false_no (bit_zero y)
    (sym (ap (λ (s : ℕ). bit s y) e) ∙ bit_set_of (λ x. eqb x y || f x) y (omega arith) ∙ or_left (eqb y y) (f y) (eq-eqb y y refl))

pub set_some : (w : List ℕ) → IfSome (members_of role_of w) (λ s. s ≡ 0 → ⊥)
unfolding members_of rest_of all_named? named?
set_some w = cond_elim (λ (m : Option ℕ). IfSome m (λ s. s ≡ 0 → ⊥)) (all_named? role_of (pieces 44 w)) _ _
    (λ a e. let t = turn 44 w 0 (end_of 44 w 0) zero-le refl in
    somebody _ _ (role_low _) (and_left _ _ (rw t.cut at a)) (rw t.cut at e))
    (λ _. tt)
