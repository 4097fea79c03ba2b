-- What a check of a board's soundness is made of. Assumes nothing.
use mathlib.Core.Path.{◌≡◌, refl, sym, subst, ◌∙◌}
use mathlib.Core.Bool.{Bool, true, false, true≢false, false≢true}
use mathlib.Core.Logic.{inl, inr, ◌≢◌, ◌↔◌}
use mathlib.Core.List.{List, [], ◌∷◌}
use Prim.Native.Nat.{ℕ}
use native.Mathlib.Omega.{arith}
use Rattle.std.specs.Prelude.{Result, Ok, Err, is_err}
use Rattle.hierarchy.specs.Tables.{Tables, Live, Shaped}
use Rattle.hierarchy.specs.First.{First}
use Rattle.hierarchy.specs.Words.{Joined, Loops, Managed, Sound}
use Rattle.hierarchy.specs.Views.{InOrder, RightValues, WorkedOut, fault_number}
use Rattle.hierarchy.specs.declared.working.Fault.{Fault}
use Rattle.hierarchy.specs.declared.working.Fault.TheVariants as fault
use Rattle.hierarchy.proofs.Admin.{sound_loopless}
use Rattle.hierarchy.proofs.Decide.{loops_dec, managed_dec}
use Rattle.hierarchy.proofs.FirstLaws.{pass, passed, none, first_unique}
use Rattle.hierarchy.proofs.Order.{order_loopless}
use Rattle.hierarchy.proofs.ManagerLaws.{values_unique}
use Rattle.board.specs.Rights.{RightsFit}
use Rattle.hierarchy.specs.declared.working.Kept.{Kept}
use Rattle.board.specs.Boards.{kept_values, SoundBoard}
use Rattle.board.specs.declared.Board.{Board}
use Rattle.board.proofs.Rules.{stable, first_done, first_without}

-- ---- a test that decides P, by its answer

pub holds : {P : Type 0} {p : Bool} → (p ≡ true) ↔ P → p ≡ true → P
holds f e = f.0 e

pub fails : {P : Type 0} {p : Bool} → (p ≡ true) ↔ P → p ≡ false → P → ⊥
fails f e x = false≢true (sym e ∙ f.1 x)

pub never : {P : Type 0} → (P → ⊥) → (false ≡ true) ↔ P
never n = (λ e. absurd (false≢true e), λ x. absurd (n x))

pub denied : {P : Type 0} {p : Bool} → p ≡ false → (P → ⊥) → (p ≡ true) ↔ P
denied z n = (λ e. absurd (false≢true (sym z ∙ e)), λ x. absurd (n x))

pub always : {P : Type 0} → P → (true ≡ true) ↔ P
always p = (λ e. p, λ q. refl)

-- ---- what was worked out, by its number

pub found_none : {A : Type 0} (r : Result A Fault) → is_err r ≡ false → fault_number r ≡ 0
found_none (Ok v) e = refl
found_none (Err f) e = absurd (true≢false e)

pub found_one : {A : Type 0} (r : Result A Fault) → is_err r ≡ true → fault_number r ≢ 0
found_one (Ok v) e = absurd (false≢true e)
found_one (Err fault.Loops) e = λ z. omega (arith, z)
found_one (Err fault.Unmanaged) e = λ z. omega (arith, z)

-- ---- order

-- where entries join live roles, what is out of order has a loop
pub disordered_loops : {t : Tables} → Shaped t → Joined t → (InOrder t → ⊥) ↔ Loops t
disordered_loops shaped joined =
    let order = order_loopless shaped.live_fits joined in
    (λ n. stable (loops_dec shaped) (λ m. n (order.1 m)), λ l o. order.0 o l)

-- ---- a look

module _ {t : Tables} {d u m : List ℕ} {n : ℕ} (w : WorkedOut t n d u m) where
  -- where all else is well, tables that were worked out with 0 are sound
  pub worked_sound : Shaped t → Live t 0 → Joined t → n ≡ 0 → Sound t
  worked_sound shaped root joined z =
      let rows = first_done _ refl (subst (First _) z w.numbered) in record {
        shaped = shaped;
        joined = joined;
        loopless = λ l. rows.0 (λ o. (order_loopless shaped.live_fits joined).0 o l);
        root = root;
        managed = stable (managed_dec shaped) rows.1.0;
      }

  -- and with another number they aren't
  pub worked_unsound : n ≢ 0 → Sound t → ⊥
  worked_unsound z s =
      z (first_unique _ n 0 w.numbered (pass _ _ _ _ (λ k. k ((order_loopless s.shaped.live_fits s.joined).1 s.loopless)) (pass _ _ _ _ (λ k. k s.managed) none)))

  -- with 7 there is no order, else there is, and only administrators are left to ask for
  pub worked_disordered : n ≡ 7 → InOrder t → ⊥
  unfolding First
  worked_disordered z o = go (first_without 7 _ ((9, (Managed t → ⊥)) ∷ []) n (λ k. k o) w.numbered)
    where
      go : First ((9, (Managed t → ⊥)) ∷ []) n → ⊥
      go (inl p) = absurd (omega (arith, z, p.1))
      go (inr p) = absurd (omega (arith, z, p.1))

  pub worked_order : n ≢ 7 → (InOrder t → ⊥) → ⊥
  worked_order q = passed 7 _ _ n q w.numbered

  pub worked_rest : n ≢ 7 → First ((9, (Managed t → ⊥)) ∷ []) n
  worked_rest q = first_without 7 _ _ n (worked_order q) w.numbered

  pub worked_right : n ≡ 0 → RightValues t d u m
  worked_right z = w.right (λ e. omega (arith, z, e))

-- a board keeps what was worked out for it, or it is not sound
pub kept_is : {b : Board} {k : Kept} {r : Bool} → Sound b.tables → RightsFit b.tables.live b.rights → RightValues b.tables k.derives k.derivers k.manager
    → (r ≡ true) ↔ (b.kept ≡ k) → (r ≡ true) ↔ SoundBoard b
kept_is {b} {k} sound fit worked same = (
  λ e. record { sound = sound; right = subst (λ (d : Kept). RightValues b.tables d.derives d.derivers d.manager) (sym (same.0 e)) worked; rightful = fit },
  λ s. same.1 (let q = values_unique (sound_loopless sound) s.right worked in λ n. kept_values (q.0 n) (q.1.0 n) (q.1.1 n)),
)

-- tables that are sound keep these values where they are those that were worked out
pub keeps_is : {t : Tables} {k : Kept} {d u m : List ℕ} {r : Bool} → Sound t → RightValues t k.derives k.derivers k.manager
    → (r ≡ true) ↔ ((d ≡ k.derives) × ((u ≡ k.derivers) × (m ≡ k.manager))) → (r ≡ true) ↔ (Sound t × RightValues t d u m)
keeps_is {t} {k} {d} {u} {m} sound worked same = (
  λ e.
      let q = same.0 e in
      let by_d : RightValues t d k.derivers k.manager = subst (λ (x : List ℕ). RightValues t x k.derivers k.manager) (sym q.0) worked in
      let by_u : RightValues t d u k.manager = subst (λ (x : List ℕ). RightValues t d x k.manager) (sym q.1.0) by_d in
      (sound, subst (λ (x : List ℕ). RightValues t d u x) (sym q.1.1) by_u),
  λ s. same.1 (values_unique (sound_loopless sound) s.1 worked),
)

-- a board whose rights fit is sound where its tables are and keep what is theirs
pub sound_is : {b : Board} {r : Bool} → RightsFit b.tables.live b.rights → (r ≡ true) ↔ (Sound b.tables × RightValues b.tables b.kept.derives b.kept.derivers b.kept.manager)
    → (r ≡ true) ↔ SoundBoard b
sound_is fit keeps = (λ e. let k = keeps.0 e in record { sound = k.0; right = k.1; rightful = fit }, λ s. keeps.1 (s.sound, s.right))
