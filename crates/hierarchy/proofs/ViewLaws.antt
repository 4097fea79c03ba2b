-- The words of scope read off the views of a table are the words themselves; and their answers are settled. Assumes nothing.
use mathlib.Core.Path.{◌≡◌, sym, ◌∙◌}
use mathlib.Core.Logic.Iff
use mathlib.Core.Logic.{⊎_map, ◌↔◌}
use mathlib.Core.List.{List}
use Prim.Native.Nat.{ℕ}
use lib.ListN.{length}
use lib.Seq.{ext_get_or}
use Rattle.sets.specs.Sets.{◌is_in◌}
use Rattle.sets.proofs.Laws.{same_members}
use Rattle.hierarchy.specs.Tables.{Tables, row}
use Rattle.hierarchy.specs.Words.{Derives, Related, Scope, Administrator}
use Rattle.hierarchy.specs.Views.{AreViews, Turned, RelatedBy, ScopeBy, AdminBy}

-- ---- read off views of t

module _ {t : Tables} {down up : List ℕ} (views : AreViews t down up) where
  -- Being related, scope and administrator are the same read off the views.
  pub related_by : {a x : ℕ} → RelatedBy down up a x ↔ Related t a x
  related_by {a} {x} = (⊎_map (views.up_is x a).0 (views.down_is a x).0, ⊎_map (views.up_is x a).1 (views.down_is a x).1)

  pub scope_by : {a r : ℕ} → ScopeBy down up a r ↔ Scope t a r
  scope_by {a} {r} = (
    λ s. record {
      derives = (views.down_is a r).0 s.derives;
      rivals = λ x d. related_by.0 (s.rivals x ((views.up_is x r).1 d));
    },
    λ s. record {
      derives = (views.down_is a r).1 s.derives;
      derived = (views.up_is a r).1 s.derives;
      rivals = λ x m. related_by.1 (s.rivals x ((views.up_is x r).0 m));
    },
  )

  pub admin_by : {a r : ℕ} → AdminBy down up a r ↔ Administrator t a r
  admin_by = (λ h. record { scope = scope_by.0 h.scope; strict = h.strict }, λ h. record { scope = scope_by.1 h.scope; strict = h.strict })

-- ---- views are settled

table_ext : {s t : List ℕ} → length s ≡ length t → ((x y : ℕ) → (y is_in row s x) ↔ (y is_in row t x)) → s ≡ t
table_ext {s} {t} l e = ext_get_or 0 s t l (λ x _. same_members (row s x) (row t x) (e x))

-- Tables have one pair of views.
pub views_unique : {t : Tables} {down up down' up' : List ℕ} → AreViews t down up → AreViews t down' up' → (down ≡ down') × (up ≡ up')
views_unique v w = (
  table_ext (v.down_rows ∙ sym w.down_rows) (λ x y. Iff.trans (v.down_is x y) (Iff.symm (w.down_is x y))),
  table_ext (v.up_rows ∙ sym w.up_rows) (λ y x. Iff.trans (v.up_is x y) (Iff.symm (w.up_is x y))),
)

-- What live roles derive, and that turned round, are the views.
pub turned_views : {t : Tables} {down up : List ℕ} → length down ≡ 64 → ((x y : ℕ) → (y is_in row down x) ↔ Derives t x y) → Turned t.live down up → AreViews t down up
turned_views rows is w = record {
  down_rows = rows;
  up_rows = w.up_rows;
  down_is = is;
  up_is = λ x y. (λ m. (is x y).0 ((w.up_is x y).0 m).1, λ d. (w.up_is x y).1 (d.from, (is x y).1 d));
}
