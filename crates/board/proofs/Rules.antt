-- Refusal tables: what done says, and two tables in a row. Assumes nothing.
use mathlib.Core.Path.{◌≡◌, refl, sym, ◌∙◌}
use mathlib.Core.Bool.{Bool, true, not, ◌&&◌}
use mathlib.Core.Logic.{◌⊎◌, inl, inr, ⊎_map, ◌≢◌, ◌↔◌}
use mathlib.Core.List.{List, [], ◌∷◌, ◌++◌}
use Prim.Native.Nat.{ℕ}
use native.Mathlib.Omega.{arith}
use lib.Dec.{eqb, ltb}
use borrow.Author.Tests.{eqb-false, ltb-true, not-true}
use Rattle.sets.proofs.Bools.{and_left, and_right}
use Rattle.hierarchy.specs.First.{First, Passed}

-- a row that says "not P" passes: P
pub stable : {P : Type 0} → Dec P → ((P → ⊥) → ⊥) → P
stable (yes p) h = p
stable (no n) h = absurd (h n)

-- no rule has the number 0, which is done
abbrev pub numbered : List (ℕ × Type 0) → Bool
numbered [] = true
numbered (rule ∷ rest) = ltb 0 rule.0 && numbered rest

pub first_done : (rules : List (ℕ × Type 0)) → numbered rules ≡ true → First rules 0 → Passed rules
unfolding First
first_done [] e f = tt
first_done (rule ∷ rest) e (inl p) = absurd (omega (arith, p.1, ltb-true 0 rule.0 (and_left (ltb 0 rule.0) (numbered rest) e)))
first_done (rule ∷ rest) e (inr p) = (p.0, first_done rest (and_right (ltb 0 rule.0) (numbered rest) e) p.1)

-- without a rule the answer is done
pub first_none : {n : ℕ} → First [] n → n ≡ 0
unfolding First
first_none f = f

-- of two tables in a row both are
pub done_both : (xs ys : List (ℕ × Type 0)) → numbered xs ≡ true → First (xs ++ ys) 0 → Passed xs × First ys 0
unfolding First
done_both [] ys e f = (tt, f)
done_both (rule ∷ rest) ys e (inl p) = absurd (omega (arith, p.1, ltb-true 0 rule.0 (and_left (ltb 0 rule.0) (numbered rest) e)))
done_both (rule ∷ rest) ys e (inr p) = let q = done_both rest ys (and_right (ltb 0 rule.0) (numbered rest) e) p.1 in ((p.0, q.0), q.1)

-- a number that no rule has, and that isn't done's
abbrev pub lacks : ℕ → List (ℕ × Type 0) → Bool
lacks k [] = not (eqb 0 k)
lacks k (rule ∷ rest) = not (eqb rule.0 k) && lacks k rest

pub first_other : (k : ℕ) (rules : List (ℕ × Type 0)) → lacks k rules ≡ true → (n : ℕ) → First rules n → n ≢ k
unfolding First
first_other k [] e n f q = eqb-false 0 k (not-true (eqb 0 k) e) (sym f ∙ q)
first_other k (rule ∷ rest) e n (inl p) q = eqb-false rule.0 k (not-true (eqb rule.0 k) (and_left (not (eqb rule.0 k)) (lacks k rest) e)) (sym p.1 ∙ q)
first_other k (rule ∷ rest) e n (inr p) q = first_other k rest (and_right (not (eqb rule.0 k)) (lacks k rest) e) n p.1 q

-- two tables with the same numbers, whose conditions agree row by row
abbrev pub Alike : List (ℕ × Type 0) → List (ℕ × Type 0) → Type 0
Alike [] [] = Unit {0}
Alike [] (y ∷ ys) = ⊥
Alike (x ∷ xs) [] = ⊥
Alike (x ∷ xs) (y ∷ ys) = (x.0 ≡ y.0) × (x.1 ↔ y.1) × Alike xs ys

-- have the same answer, and so do two in a row, where the second have it once the first are passed
pub first_alike : (xs ys us vs : List (ℕ × Type 0)) (n : ℕ) → Alike xs ys → (Passed xs → First us n → First vs n) → First (xs ++ us) n → First (ys ++ vs) n
unfolding First
first_alike [] [] us vs n a f h = f tt h
first_alike [] (y ∷ ys) us vs n a f h = absurd a
first_alike (x ∷ xs) [] us vs n a f h = absurd a
first_alike (x ∷ xs) (y ∷ ys) us vs n a f (inl p) = inl (a.1.0 p.0, p.1 ∙ a.0)
first_alike (x ∷ xs) (y ∷ ys) us vs n a f (inr p) = inr (λ k. p.0 (a.1.1 k), first_alike xs ys us vs n a.2 (λ q. f (p.0, q)) p.1)

-- a row that never holds says nothing
pub first_without : (k : ℕ) (X : Type 0) (rest : List (ℕ × Type 0)) (n : ℕ) → (X → ⊥) → First ((k, X) ∷ rest) n → First rest n
unfolding First
first_without k X rest n never (inl p) = absurd (never p.0)
first_without k X rest n never (inr p) = p.1

-- a refusal of the first table is one of both
pub first_refused : (xs ys : List (ℕ × Type 0)) (n : ℕ) → n ≢ 0 → First xs n → First (xs ++ ys) n
unfolding First
first_refused [] ys n h f = absurd (h f)
first_refused (x ∷ xs) ys n h (inl p) = inl p
first_refused (x ∷ xs) ys n h (inr p) = inr (p.0, first_refused xs ys n h p.1)

-- past the first table the second decides
pub first_next : (xs ys : List (ℕ × Type 0)) (n : ℕ) → Passed xs → First ys n → First (xs ++ ys) n
unfolding First
first_next [] ys n p f = f
first_next (x ∷ xs) ys n p f = inr (p.0, first_next xs ys n p.1 f)

-- an answer of two tables in a row is one of the first, or that is passed
pub first_either : (xs ys : List (ℕ × Type 0)) (n : ℕ) → First (xs ++ ys) n → First xs n ⊎ First xs 0
unfolding First
first_either [] ys n f = inr refl
first_either (x ∷ xs) ys n (inl p) = inl (inl p)
first_either (x ∷ xs) ys n (inr p) = ⊎_map (λ f. inr (p.0, f)) (λ f. inr (p.0, f)) (first_either xs ys n p.1)
