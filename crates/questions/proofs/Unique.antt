-- Two answers that a question's contract allows coincide. Assumes nothing.
use mathlib.Core.Path.{◌≡◌, refl, sym, ap, ap₂, ◌∙◌}
use mathlib.Core.Bool.{Bool}
use mathlib.Core.Logic.{⊎_elim, ◌↔◌}
use mathlib.Core.List.{List}
use Prim.Native.Nat.{ℕ}
use native.Mathlib.Nat.{le_antisymm}
use lib.Count.{ones}
use Rattle.std.specs.Prelude.{Option, Some, None}
use Rattle.sets.specs.Sets.{◌is_in◌}
use Rattle.sets.proofs.Bools.{true_or_false, test_unique}
use Rattle.sets.proofs.Laws.{ones_mono}
use Rattle.hierarchy.specs.Words.{OutOfScope, Sound}
use Rattle.hierarchy.specs.Views.{OutOfScopeBy}
use Rattle.hierarchy.specs.First.{First}
use Rattle.hierarchy.proofs.Admin.{sound_loopless, manager_unique}
use Rattle.hierarchy.proofs.ClimbLaws.{climb_unique}
use Rattle.hierarchy.proofs.Bars.{out_unique, out_by_unique}
use Rattle.board.specs.Boards.{tables_of}
use Rattle.board.specs.declared.Board.{Board}
use Rattle.board.proofs.Unique.{answered_unique}
use Rattle.questions.specs.Questions.{refusals, Says, Counts, Tells, DerivesAnswer, ScopeAnswer, Manages, ManagerAnswer, StepsAnswer}
use Rattle.questions.specs.Trusting.{DerivesTrusting, ScopeTrusting, ManagerTrusting, StepsTrusting}
use Rattle.questions.proofs.Unsound.{asked_sound}

-- sets with the same members are as large
same_size : {P : ℕ → Type 0} (s t : ℕ) → ((x : ℕ) → (x is_in s) ↔ P x) → ((x : ℕ) → (x is_in t) ↔ P x) → ones s ≡ ones t
same_size s t f g = le_antisymm (ones_mono s t (λ x m. (g x).1 ((f x).0 m))) (ones_mono t s (λ x m. (f x).1 ((g x).0 m)))

-- yes or no, and with a count: whatever it is about
pub says_unique : {P : Type 0} (v w : Bool) → Says P v → Says P w → v ≡ w
says_unique v w = test_unique

pub counts_unique : {In : ℕ → Type 0} {r : ℕ} (v w : Bool × ℕ) → Counts In r v → Counts In r w → v ≡ w
counts_unique v w f g = ap₂ (λ (p : Bool) (n : ℕ). (p, n)) (test_unique f.0 g.0) (f.1.2 ∙ same_size f.1.0 g.1.0 f.1.1 g.1.1 ∙ sym g.1.2)

-- and why not
pub tells_unique : {In : ℕ → Type 0} (Out : ℕ → ℕ → ℕ → Type 0) {r : ℕ} → ((c d v w : ℕ) → Out r c v → Out r d w → (c ≡ d) × (v ≡ w))
    → (v w : Bool × ℕ × ℕ × ℕ) → Tells In Out r v → Tells In Out r w → v ≡ w
tells_unique Out one v w f g =
    let e = counts_unique _ _ f.0 g.0 in
    let said : v.0 ≡ w.0 = ap (λ (p : Bool × ℕ). p.0) e in
    let why : (v.2 ≡ w.2) × (v.3 ≡ w.3) = ⊎_elim
    (λ y. let p = f.1.yes y in let q = g.1.yes (sym said ∙ y) in (p.0 ∙ sym q.0, p.1 ∙ sym q.1))
    (λ n. one _ _ _ _ (f.1.no n) (g.1.no (sym said ∙ n))) (true_or_false v.0) in
    λ k. (said k, (e k).1, why.0 k, why.1 k)

-- ---- the four questions on a board

module _ (b : Board) where
  sound_at : (x y : ℕ) → First (refusals b x y) 0 → Sound (tables_of b)
  sound_at x y f = asked_sound b x y 0 f refl

  pub derives_unique : (x y : ℕ) {m n : ℕ} {p q : Bool} → DerivesAnswer b x y m p → DerivesAnswer b x y n q → (m ≡ n) × (p ≡ q)
  derives_unique x y = answered_unique (λ _. says_unique)

  pub scope_unique : (a r : ℕ) {m n j k c d v w : ℕ} {p q : Bool} → ScopeAnswer b a r m p j c v → ScopeAnswer b a r n q k d w
      → (m ≡ n) × ◌≡◌ {A = Bool × ℕ × ℕ × ℕ} (p, j, c, v) (q, k, d, w)
  scope_unique a r = answered_unique (λ _. tells_unique (OutOfScope (tables_of b) a) (λ c d v w. out_unique))

  pub manages_unique : (r : ℕ) → Sound (tables_of b) → (x y : Option ℕ) → Manages b r x → Manages b r y → x ≡ y
  manages_unique r sound (Some m) (Some n) h g = ap Some (manager_unique (sound_loopless sound) h g)
  manages_unique r sound (Some m) None h g = absurd (g m h)
  manages_unique r sound None (Some n) h g = absurd (h n g)
  manages_unique r sound None None h g = refl

  pub manager_answer_unique : (r : ℕ) {m n : ℕ} {x y : Option ℕ} → ManagerAnswer b r m x → ManagerAnswer b r n y → (m ≡ n) × (x ≡ y)
  manager_answer_unique r = answered_unique (λ f. manages_unique r (sound_at r r f))

  pub steps_unique : (r : ℕ) {m n j k : ℕ} → StepsAnswer b r m j → StepsAnswer b r n k → (m ≡ n) × (j ≡ k)
  steps_unique r = answered_unique (λ f j k. climb_unique (sound_at r r f))

-- ---- and off what is kept

module _ (live : ℕ) where
  pub derives_trusting_unique : (down : List ℕ) (x y : ℕ) {m n : ℕ} {p q : Bool} → DerivesTrusting live down x y m p → DerivesTrusting live down x y n q → (m ≡ n) × (p ≡ q)
  derives_trusting_unique down x y = answered_unique (λ _. says_unique)

  pub scope_trusting_unique : (down up : List ℕ) (a r : ℕ) {m n j k c d v w : ℕ} {p q : Bool} → ScopeTrusting live down up a r m p j c v → ScopeTrusting live down up a r n q k d w
      → (m ≡ n) × ◌≡◌ {A = Bool × ℕ × ℕ × ℕ} (p, j, c, v) (q, k, d, w)
  scope_trusting_unique down up a r = answered_unique (λ _. tells_unique (OutOfScopeBy down up a) (λ c d v w. out_by_unique))

  pub manager_trusting_unique : (manager : List ℕ) (r : ℕ) {m n : ℕ} {x y : Option ℕ} → ManagerTrusting live manager r m x → ManagerTrusting live manager r n y → (m ≡ n) × (x ≡ y)
  manager_trusting_unique manager r = answered_unique (λ _ x y h g. h ∙ sym g)

  pub steps_trusting_unique : (manager : List ℕ) (r : ℕ) {m n j k : ℕ} → StepsTrusting live manager r m j → StepsTrusting live manager r n k → (m ≡ n) × (j ≡ k)
  steps_trusting_unique manager r = answered_unique (λ _ x y h g. h ∙ sym g)
