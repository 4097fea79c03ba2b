-- Who may use a right, by what deriving means. Assumes nothing.
use mathlib.Core.Path.{◌≡◌, refl, sym, ◌∙◌, subst}
use mathlib.Core.Bool.{true, false, ◌||◌}
use mathlib.Core.Logic.{◌⊎◌, inl, inr, ⊎_elim, ◌↔◌}
use mathlib.Core.List.{List}
use Prim.Native.Nat.{ℕ, suc, ◌-◌, ◌≤◌, ◌<◌}
use native.Mathlib.Omega.{arith}
use lib.Dec.{eqb}
use borrow.Author.Tests.{eqb-true, eqb-false, eq-eqb, ne_eqb, le-leb, lt-leb}
use Rattle.sets.specs.Sets.{bit, ◌is_in◌, ◌are_in◌, same?}
use Rattle.sets.proofs.Bools.{true_or_false, or_cases, or_left, or_right, false_no}
use Rattle.sets.proofs.Digits.{bit_zero}
use Rattle.sets.proofs.Laws.{same_is}
use Rattle.sets.proofs.Members.{Taken, taken_part, taken_kept}
use Rattle.hierarchy.specs.Tables.{row}
use Rattle.board.specs.Rights.{rights_of}
use Rattle.board.specs.declared.Command.{Command}
use Rattle.refusals.specs.Entitled.{MayUse, asks, Entitled, HeldAmong}
use Rattle.refusals.specs.Entitled.{MayUse.own, MayUse.derived}
use Rattle.refusals.specs.Trusting.{DerivesBy}

-- ---- who may use a right

-- who derives more may use more
pub may_use_more : {Derive Derive' : ℕ → ℕ → Type 0} {rights : List ℕ} {a k : ℕ} → ((x : ℕ) → Derive a x → Derive' a x) → MayUse Derive rights a k → MayUse Derive' rights a k
may_use_more h (own m) = own m
may_use_more h (derived d m) = derived (h _ d) m

pub entitled_alike : {Derive Derive' : ℕ → ℕ → Type 0} (rights : List ℕ) (c : Command) → ((x : ℕ) → Derive c.actor x ↔ Derive' c.actor x) → Entitled Derive rights c ↔ Entitled Derive' rights c
entitled_alike rights c h = (λ e k a. may_use_more (λ x. (h x).0) (e k a), λ e k a. may_use_more (λ x. (h x).1) (e k a))

-- a right that the roles of a set hold among them, where the set has the actor and what it derives
pub held_use : (down rights : List ℕ) (a those k : ℕ) → a < 64 → ((x : ℕ) → bit those x ≡ (bit (row down a) x || same? a x)) → HeldAmong rights those k ↔ MayUse (DerivesBy down) rights a k
held_use down rights a those k l is = (
  λ h. ⊎_elim (λ d. derived d h.2) (λ s. own (subst (λ (x : ℕ). k is_in rights_of rights x) (eqb-true h.0 a (sym (same_is a h.0 l) ∙ s)) h.2))
      (or_cases (bit (row down a) h.0) (same? a h.0) (sym (is h.0) ∙ h.1)),
  back,
)
  where
    back : MayUse (DerivesBy down) rights a k → HeldAmong rights those k
    back (own m) = (a, is a ∙ or_right (bit (row down a) a) (same? a a) (same_is a a l ∙ eq-eqb a a refl), m)
    back (derived {x} d m) = (x, is x ∙ or_left (bit (row down a) x) (same? a x) d, m)

-- and all that a command asks for
pub held_all : (c : Command) (want all : ℕ) {P : ℕ → Type 0} → ((k : ℕ) → bit want k ≡ asks c k) → ((k : ℕ) → (k is_in all) ↔ P k) → (want are_in all) ↔ ((k : ℕ) → asks c k ≡ true → P k)
held_all c want all w h = (λ s k e. (h k).0 (s k (w k ∙ e)), λ s k e. (h k).1 (s k (sym (w k) ∙ e)))

-- what a command asks for, by its code
pub asks_named : (c : Command) (k : ℕ) → 5 < c.code → bit c.rights k ≡ asks c k
unfolding asks
asks_named c k h = rw (le-leb 6 c.code h)

pub asks_own : (c : Command) (k : ℕ) → 1 ≤ c.code → c.code ≤ 5 → same? (c.code - 1) k ≡ asks c k
unfolding asks
asks_own c k l h = rw (lt-leb 6 c.code (omega (arith, h)), same_is (c.code - 1) k (omega (arith, h))) (same (true_or_false (eqb k (c.code - 1))))
  where
    same : (eqb k (c.code - 1) ≡ true) ⊎ (eqb k (c.code - 1) ≡ false) → eqb k (c.code - 1) ≡ eqb c.code (suc k)
    same (inl e) = e ∙ sym (eq-eqb c.code (suc k) (let q = eqb-true k (c.code - 1) e in omega (arith, q, l)))
    same (inr e) = e ∙ sym (ne_eqb c.code (suc k) (λ q. eqb-false k (c.code - 1) e (omega (arith, q))))

-- ---- the rights of roles that were drawn from a set: those in rest are still to come

pub record Gathered (rights : List ℕ) (roles all rest : ℕ) : Type 0 where
  pub few : rest are_in roles
  pub from : (k : ℕ) → k is_in all → HeldAmong rights roles k
  pub to : (x k : ℕ) → x is_in roles → k is_in rights_of rights x → (x is_in rest) ⊎ (k is_in all)

pub gathered_start : {rights : List ℕ} {roles left : ℕ} → left ≡ roles → Gathered rights roles 0 left
gathered_start {rights} {roles} q = subst (Gathered rights roles 0) (sym q) (record { few = λ x m. m; from = λ k m. absurd (false_no (bit_zero k) m); to = λ x k m h. inl m })

pub gathered_turn : {rights : List ℕ} {roles all rest x rest' all' : ℕ} → Taken rest x rest' → ((k : ℕ) → bit all' k ≡ (bit all k || bit (rights_of rights x) k))
    → Gathered rights roles all rest → Gathered rights roles all' rest'
gathered_turn {rights} {roles} {all} {rest} {x} turn more inv = record {
  few = λ y m. inv.few y (taken_part turn y m);
  from = λ k m. ⊎_elim (inv.from k) (λ h. (x, inv.few x turn.lowest.member, h)) (or_cases (bit all k) (bit (rights_of rights x) k) (sym (more k) ∙ m));
  to = λ y k m h. ⊎_elim
      (λ r. ⊎_elim inl (λ e. inr (more k ∙ or_right (bit all k) _ (subst (λ (z : ℕ). k is_in rights_of rights z) e h))) (taken_kept turn y r))
      (λ a. inr (more k ∙ or_left (bit all k) _ a)) (inv.to y k m h);
}
