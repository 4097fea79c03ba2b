-- What bars a role from a scope: one cause, and exactly where the role is outside. Assumes nothing.
use mathlib.Core.Path.{◌≡◌, refl, sym, ◌∙◌}
use mathlib.Core.Logic.Dec
use mathlib.Core.Logic.Iff
use mathlib.Core.Logic.{inl, inr, ⊎_elim, ◌↔◌, dite}
use mathlib.Core.List.{List}
use Prim.Native.Nat.{ℕ}
use native.Mathlib.Nat.{le_antisymm}
use Rattle.sets.specs.Sets.{◌is_in◌}
use Rattle.sets.proofs.Bools.{least_below}
use Rattle.sets.proofs.Laws.{bit_lt}
use Rattle.hierarchy.specs.Tables.{Tables, row, Shaped}
use Rattle.hierarchy.specs.Words.{Scope, InTheWay, OutOfScope}
use Rattle.hierarchy.specs.Words.{OutOfScope.not_derived, OutOfScope.in_the_way}
use Rattle.hierarchy.specs.Views.{AreViews, ScopeBy, InTheWayBy, OutOfScopeBy, BarBy}
use Rattle.hierarchy.specs.Views.{OutOfScopeBy.not_derived, OutOfScopeBy.in_the_way}
use Rattle.hierarchy.proofs.Decide.{Out, out_cases, derives_dec, related_dec}
use Rattle.hierarchy.proofs.ViewLaws.{related_by}

-- a cause and a role in the way are settled where one role at most is in the way
one_out : {D : Type 0} (W : ℕ → Type 0) {c d v w : ℕ} → (W v → W w → v ≡ w) → Out D W c v → Out D W d w → (c ≡ d) × (v ≡ w)
one_out W u (inl p) (inl q) = (p.0 ∙ sym q.0, p.1.0 ∙ sym q.1.0)
one_out W u (inl p) (inr q) = absurd (p.1.1 q.1.0)
one_out W u (inr p) (inl q) = absurd (q.1.1 p.1.0)
one_out W u (inr p) (inr q) = (p.0 ∙ sym q.0, u p.1.1 q.1.1)

-- ---- read off two tables

module _ {down up : List ℕ} {a r : ℕ} where
  out_by_cases : {c w : ℕ} → OutOfScopeBy down up a r c w → Out ((r is_in row down a) × (a is_in row up r)) (InTheWayBy down up a r) c w
  out_by_cases (not_derived n) = inl (refl, (refl, n))
  out_by_cases (in_the_way d u w) = inr (refl, ((d, u), w))

  -- One cause and one role at most,
  pub out_by_unique : {c d v w : ℕ} → OutOfScopeBy down up a r c v → OutOfScopeBy down up a r d w → (c ≡ d) × (v ≡ w)
  out_by_unique o q = one_out (InTheWayBy down up a r) (λ v w. le_antisymm (v.lowest _ w.derives w.unrelated) (w.lowest _ v.derives v.unrelated)) (out_by_cases o) (out_by_cases q)

  -- none in the scope,
  pub out_by_not : {c w : ℕ} → OutOfScopeBy down up a r c w → ScopeBy down up a r → ⊥
  out_by_not (not_derived n) s = n (s.derives, s.derived)
  out_by_not (in_the_way d u w) s = w.unrelated (s.rivals _ w.derives)

  -- so what bars r is settled.
  pub bar_unique : {c d v w : ℕ} → BarBy down up a r c v → BarBy down up a r d w → (c ≡ d) × (v ≡ w)
  bar_unique (inl p) (inl q) = (p.1.0 ∙ sym q.1.0, p.1.1 ∙ sym q.1.1)
  bar_unique (inl p) (inr q) = absurd (out_by_not q p.0)
  bar_unique (inr p) (inl q) = absurd (out_by_not p q.0)
  bar_unique (inr p) (inr q) = out_by_unique p q

-- Read off the views it is the word itself.
module _ {t : Tables} {down up : List ℕ} (views : AreViews t down up) where
  way_by : {a r x : ℕ} → InTheWayBy down up a r x ↔ InTheWay t a r x
  way_by {r = r} {x = x} = (
    λ w. record {
      derives = (views.up_is x r).0 w.derives;
      unrelated = (Iff.not (related_by views)).0 w.unrelated;
      lowest = λ y d n. w.lowest y ((views.up_is y r).1 d) ((Iff.not (related_by views)).1 n);
    },
    λ w. record {
      derives = (views.up_is x r).1 w.derives;
      unrelated = (Iff.not (related_by views)).1 w.unrelated;
      lowest = λ y m n. w.lowest y ((views.up_is y r).0 m) ((Iff.not (related_by views)).0 n);
    },
  )

  out_of_by : {a r c w : ℕ} → OutOfScopeBy down up a r c w → OutOfScope t a r c w
  out_of_by {a} {r} (not_derived n) = not_derived (λ d. n ((views.down_is a r).1 d, (views.up_is a r).1 d))
  out_of_by {a} {r} (in_the_way d _ w) = in_the_way ((views.down_is a r).0 d) (way_by.0 w)

  out_to_by : {a r c w : ℕ} → OutOfScope t a r c w → OutOfScopeBy down up a r c w
  out_to_by {a} {r} (not_derived n) = not_derived (λ p. n ((views.down_is a r).0 p.0))
  out_to_by {a} {r} (in_the_way d w) = in_the_way ((views.down_is a r).1 d) ((views.up_is a r).1 d) (way_by.1 w)

  pub out_by : {a r cause way : ℕ} → OutOfScopeBy down up a r cause way ↔ OutOfScope t a r cause way
  out_by = (out_of_by, out_to_by)

-- ---- in the words

module _ {t : Tables} {a r : ℕ} where
  -- One cause and one role at most,
  pub out_unique : {c d v w : ℕ} → OutOfScope t a r c v → OutOfScope t a r d w → (c ≡ d) × (v ≡ w)
  out_unique o q = one_out (InTheWay t a r) (λ v w. le_antisymm (v.lowest _ w.derives w.unrelated) (w.lowest _ v.derives v.unrelated)) (out_cases o) (out_cases q)

  -- none in the scope,
  pub out_not : {c w : ℕ} → OutOfScope t a r c w → Scope t a r → ⊥
  out_not (not_derived n) s = n s.derives
  out_not (in_the_way d w) s = w.unrelated (s.rivals _ w.derives)

-- and one outside it, on tables in their shape.
pub out_some : {t : Tables} → Shaped t → (a r : ℕ) → (Scope t a r → ⊥) → (cause : ℕ) × ((way : ℕ) × OutOfScope t a r cause way)
out_some shaped a r n = dite (derives_dec shaped a r)
    (λ d. ⊎_elim
    (λ m. (2, (m.0, in_the_way d (record { derives = m.1.0.0; unrelated = m.1.0.1; lowest = λ y e u. m.1.1 y (e, u) }))))
    (λ none. absurd (n (record {
      derives = d;
      rivals = λ x e. dite (related_dec shaped a x) (λ h. h) (λ u. absurd (none x (bit_lt 64 shaped.live_fits e.from) (e, u)));
    })))
    (least_below (λ x. Dec.and (derives_dec shaped x r) (Dec.not (related_dec shaped a x))) 64))
    (λ k. (1, (0, not_derived k)))
