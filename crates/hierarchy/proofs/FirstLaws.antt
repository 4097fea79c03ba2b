-- A refusal table has one answer. Assumes nothing.
use mathlib.Core.Path.{◌≡◌, refl, sym, ◌∙◌}
use mathlib.Core.Logic.{◌≢◌, inl, inr}
use mathlib.Core.List.{List, [], ◌∷◌}
use Prim.Native.Nat.{ℕ}
use Rattle.hierarchy.specs.First.{First}

-- at most one
pub first_unique : (t : List (ℕ × Type 0)) (m n : ℕ) → First t m → First t n → m ≡ n
unfolding First
first_unique [] m n p q = p ∙ sym q
first_unique (r ∷ t) m n (inl p) (inl q) = p.1 ∙ sym q.1
first_unique (r ∷ t) m n (inl p) (inr q) = absurd (q.0 p.0)
first_unique (r ∷ t) m n (inr p) (inl q) = absurd (p.0 q.0)
first_unique (r ∷ t) m n (inr p) (inr q) = first_unique t m n p.1 q.1

-- how an answer is shown: past the conditions that fail, to the first that holds, or to the end
pub pass : (k : ℕ) (P : Type 0) (t : List (ℕ × Type 0)) (n : ℕ) → (P → ⊥) → First t n → First ((k, P) ∷ t) n
unfolding First
pass k P t n h f = inr (h, f)

pub hit : (k : ℕ) (P : Type 0) (t : List (ℕ × Type 0)) → P → First ((k, P) ∷ t) k
unfolding First
hit k P t h = inl (h, refl)

-- another number than a condition's shows that it failed
pub passed : (k : ℕ) (P : Type 0) (t : List (ℕ × Type 0)) (n : ℕ) → n ≢ k → First ((k, P) ∷ t) n → P → ⊥
unfolding First
passed k P t n q (inl f) h = q f.1
passed k P t n q (inr f) h = f.0 h

pub none : First [] 0
unfolding First
none = refl

-- each condition is decided
abbrev pub Decided : List (ℕ × Type 0) → Type 0
Decided [] = Unit {0}
Decided (r ∷ t) = Dec r.1 × Decided t

-- and at least one, where each condition is decided
pub first_exists : (t : List (ℕ × Type 0)) → Decided t → (n : ℕ) × First t n
first_exists [] d = (0, none)
first_exists (r ∷ t) d = go (first_exists t d.1) d.0
  where
    go : (n : ℕ) × First t n → Dec r.1 → (n : ℕ) × First (r ∷ t) n
    go f (yes p) = (r.0, hit r.0 r.1 t p)
    go f (no p) = (f.0, pass r.0 r.1 t f.0 p f.1)
