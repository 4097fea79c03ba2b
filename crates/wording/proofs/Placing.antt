-- The place of a text among names. Assumes nothing.
use mathlib.Core.Path.{◌≡◌, refl, ap, ap₂, ◌∙◌}
use mathlib.Core.Bool.{Bool, true, false, ◌&&◌, false≢true}
use mathlib.Core.Logic.{◌↔◌}
use mathlib.Core.List.{List, [], ◌∷◌}
use Rattle.std.specs.Prelude.{Option, Some, None, option_map, cond, IfSome}
use Rattle.std.specs.Borrow.{Bor}
use Prim.Native.Nat.{ℕ, suc, ◌+◌, ◌≤◌, ◌<◌, zero-le, suc-le-suc}
use native.Mathlib.Omega.{arith}
use lib.Dec.{eqb}
use lib.Pointwise.{pointwise}
use lib.ListN.{length}
use borrow.Author.Tests.{eqb-true, eq-eqb}
use Rattle.sets.proofs.Bools.{and_left, and_right, and_both}
use Rattle.wording.specs.Texts.{alike?, pieces, rest_of, Given, bytes, separates, longer}
use Rattle.wording.specs.Names.{place_in}
use Rattle.wording.specs.declared.pieces.Pieces.{Pieces}
use Rattle.wording.proofs.Cutting.{rest_over}

pub alike_is : (a b : List ℕ) → (alike? a b ≡ true) ↔ (a ≡ b)
unfolding alike?
alike_is [] [] = (λ _. refl, λ _. refl)
alike_is [] (y ∷ ys) = (λ e. absurd (false≢true e), λ e. cc)
alike_is (x ∷ xs) [] = (λ e. absurd (false≢true e), λ e. cc)
alike_is (x ∷ xs) (y ∷ ys) = (
  λ e. ap₂ ◌∷◌ (eqb-true x y (and_left (eqb x y) (alike? xs ys) e)) ((alike_is xs ys).0 (and_right (eqb x y) (alike? xs ys) e)),
  λ e. and_both (eqb x y) (alike? xs ys) (eq-eqb x y (cc)) ((alike_is xs ys).1 (cc)),
)

-- what `==` of two texts gives
pub alike_pointwise : (a b : List ℕ) → pointwise eqb a b ≡ alike? a b
unfolding alike?
alike_pointwise [] [] = refl
alike_pointwise [] (y ∷ ys) = refl
alike_pointwise (x ∷ xs) [] = refl
alike_pointwise (x ∷ xs) (y ∷ ys) = ap (λ (q : Bool). eqb x y && q) (alike_pointwise xs ys)

-- k names were passed, and the text is none of them; those from s on are left
pub record Counting (text names : List ℕ) (k : ℕ) (s : Pieces) : Type 0 where
  pub all : s.text.now ≡ names
  pub sep : s.sep ≡ 44
  pub few : k ≤ s.from
  pub within : s.from ≤ length names + 1
  pub same : option_map (λ n. k + n) (place_in text (rest_of 44 names s.from)) ≡ place_in text (pieces 44 names)

none_added : (r : Option ℕ) → option_map (λ n. 0 + n) r ≡ r
none_added None = refl
none_added (Some n) = ap Some (omega arith)

pub count_start : (text : List ℕ) {names : Bor (List ℕ)} {s : Pieces} → s.text ≡ names → s.from ≡ 0 → s.sep ≡ 44 → Counting text names.now 0 s
unfolding rest_of
count_start text w z e = record { all = ap (λ (b : Bor (List ℕ)). b.now) w; sep = e; few = zero-le; within = rw z zero-le; same = rw z (none_added _) }

module _ {text names : List ℕ} {k : ℕ} {s : Pieces} (h : Counting text names k s) where
  pub count_over : length s.text.now < s.from → None ≡ place_in text (pieces 44 names)
  unfolding place_in
  count_over g = let over : length names < s.from = rw h.all at g in rw (rest_over 44 names s.from over) at h.same

  module _ {part : Bor (List ℕ)} {t : Pieces} (g : Given s part t) where
    cut : rest_of 44 names s.from ≡ part.now ∷ rest_of 44 names t.from
    cut = rw (h.all, h.sep) at g.first

    pub count_here : alike? text part.now ≡ true → Some k ≡ place_in text (pieces 44 names)
    unfolding place_in
    count_here e = ap Some (omega arith) ∙ rw (cut, e) at h.same

    one_more : (r : Option ℕ) → option_map (λ n. k + 1 + n) r ≡ option_map (λ n. k + n) (option_map suc r)
    one_more None = refl
    one_more (Some n) = ap Some (omega arith)

    pub count_next : alike? text part.now ≡ false → Counting text names (k + 1) t
    unfolding place_in
    count_next e = record {
      all = ap (λ (b : Bor (List ℕ)). b.now) g.same_text ∙ h.all;
      sep = g.same_sep ∙ h.sep;
      few = omega (arith, g.behind);
      within = rw h.all at g.within;
      same = one_more _ ∙ rw (cut, e) at h.same;
    }

-- the place is that of a name in the row
pub place_low : (w : List ℕ) (ps : List (List ℕ)) → IfSome (place_in w ps) (λ k. k < length ps)
unfolding place_in
place_low w [] = tt
place_low w (p ∷ ps) = go (alike? w p) (place_in w ps) (place_low w ps)
  where
    go : (q : Bool) (r : Option ℕ) → IfSome r (λ k. k < length ps) → IfSome (cond q (Some 0) (option_map suc r)) (λ k. k < suc (length ps))
    go true r h = suc-le-suc zero-le
    go false None h = tt
    go false (Some k) h = suc-le-suc h

-- there are seven commands
pub command_low : (w : List ℕ) → IfSome (place_in w (pieces 44 (bytes "add-role,remove-role,add-edge,remove-edge,change-edge,give-rights,take-rights"))) (λ k. k < 7)
unfolding pieces longer separates
command_low w = place_low w (pieces 44 (bytes "add-role,remove-role,add-edge,remove-edge,change-edge,give-rights,take-rights"))
