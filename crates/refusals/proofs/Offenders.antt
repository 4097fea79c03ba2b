-- Where the scope condition fails, and only there, somebody offends, for a reason. Assumes nothing.
use mathlib.Core.Path.{◌≡◌, refl, sym, subst}
use mathlib.Core.Bool.{Bool, true, false, false≢true}
use mathlib.Core.Logic.Dec
use mathlib.Core.Logic.Iff
use mathlib.Core.Logic.{⊎_elim, ◌≢◌, ◌↔◌, dite}
use mathlib.Core.List.{[], ◌∷◌}
use Prim.Native.Nat.{ℕ, ◌<◌}
use native.Mathlib.Decide.{ℕ_discrete}
use Rattle.sets.proofs.Bools.{decided, least_below}
use Rattle.sets.proofs.Laws.{bit_lt}
use Rattle.hierarchy.specs.Tables.{Tables, Shaped}
use Rattle.hierarchy.specs.Words.{Scope, OutOfScope}
use Rattle.hierarchy.proofs.Bars.{out_some}
use Rattle.hierarchy.proofs.Decide.{scope_dec}
use Rattle.board.specs.Answers.{Answer}
use Rattle.board.specs.declared.Command.{Command}
use Rattle.board.proofs.Rules.{stable}
use Rattle.refusals.specs.Refusals.{Malformed, Fits, InScope, conditions, AsAsked, Breaks, Offends, Blames}
use Rattle.refusals.specs.Refusals.{Offends.here, Offends.later, Because.out, Because.itself}
use Rattle.refusals.proofs.Blaming.{Conditions, at_role, at_junior, at_set, Clear, clear_scope, offends_out, offender_out}
use Rattle.refusals.proofs.Trying.{role_lt, junior_lt}

-- no condition is of a number past 63
abbrev pub Small : Conditions → Type 0
Small [] = Unit {0}
Small (p ∷ ps) = ((y : ℕ) → p.0 y ≡ true → y < 64) × Small ps

pub all_small : (c : Command) → (Malformed c → ⊥) → Fits c → Small (conditions c)
all_small c formed fits = (
  λ y e. subst (λ (n : ℕ). n < 64) (sym ((at_role c y).0 e).1) (role_lt c formed),
  (
    λ y e. let k = (at_junior c y).0 e in subst (λ (n : ℕ). n < 64) (sym k.1) (junior_lt c formed k.0),
    (
      λ y e. bit_lt 64 fits.a_seniors ((at_set c y c.a_seniors).0 e).1,
      (
        λ y e. bit_lt 64 fits.i_seniors ((at_set c y c.i_seniors).0 e).1,
        (
          λ y e. bit_lt 64 fits.a_juniors ((at_set c y c.a_juniors).0 e).1,
          (λ y e. bit_lt 64 fits.i_juniors ((at_set c y c.i_juniors).0 e).1, tt),
        ),
      ),
    ),
  ),
)

-- who breaks a condition is decided where scope is, so one who does is found
module _ (In : ℕ → ℕ → Type 0) (a : ℕ) (scope : (x : ℕ) → Dec (In a x)) where
  asked_dec : (s : Bool) (x : ℕ) → Dec (AsAsked In a s x)
  asked_dec true x = dite (Dec.and (scope x) (Dec.not (ℕ_discrete a x))) (λ h. yes (h.0, λ _. h.1)) (λ n. no (λ h. n (h.0, h.1 refl)))
  asked_dec false x = dite (scope x) (λ h. yes (h, λ e. absurd (false≢true e))) (λ n. no (λ h. n h.0))

  breaks_dec : (those : ℕ → Bool) (s : Bool) (x : ℕ) → Dec (Breaks In a those s x)
  breaks_dec at s x = dite (Dec.and (decided (at x) Iff.rfl) (Dec.not (asked_dec s x)))
      (λ h. yes (record { among = h.0; wrong = h.1 })) (λ n. no (λ o. n (o.among, o.wrong)))

  offends_some : (ps : Conditions) → Small ps → (Clear In a ps → ⊥) → (x : ℕ) × ((s : Bool) × Offends In a ps x s)
  offends_some [] small n = absurd (n tt)
  offends_some (p ∷ ps) small n = ⊎_elim
      (λ m. (m.0, (p.1, here m.1.0 m.1.1)))
      (λ none. let rest = offends_some ps small.1 (λ k. n (λ y e. stable (asked_dec p.1 y) (λ w. none y (small.0 y e) (record { among = e; wrong = w })), k)) in
      (rest.0, (rest.1.0, later (λ y o. none y (small.0 y o.among) o) rest.1.1)))
      (least_below (breaks_dec p.0 p.1) 64)

-- On tables in their shape a command fails its scope condition exactly where there is a role to name, with its cause.
module _ {t : Tables} (shaped : Shaped t) (c : Command) (formed : Malformed c → ⊥) (fits : Fits c) where
  abbrev Blamed : Type 0
  Blamed = (m : Answer) × (m.number ≡ 6) × Blames (Scope t) (OutOfScope t) c m

  reasoned : (x : ℕ) (s : Bool) → Offends (Scope t) c.actor (conditions c) x s → (s ≡ true → c.actor ≢ x) → Blamed
  reasoned x s h n =
      let w = out_some shaped c.actor x (offender_out (Scope t) c.actor h n) in
      (record { number = 6; who = x; cause = w.0; way = w.1.0 }, refl, record { strict = s; offends = h; because = out n w.1.1 })

  blamed : (x : ℕ) (s : Bool) → Offends (Scope t) c.actor (conditions c) x s → Blamed
  blamed x true h = dite (ℕ_discrete c.actor x)
      (λ e. (record { number = 6; who = x; cause = 3; way = 0 }, refl, record { strict = true; offends = h; because = itself e }))
      (λ n. reasoned x true h (λ _. n))
  blamed x false h = reasoned x false h (λ e. absurd (false≢true e))

  pub blamed_where : (InScope (Scope t) c → ⊥) ↔ Blamed
  blamed_where = (
    λ n. let w = offends_some (Scope t) c.actor (scope_dec shaped c.actor) (conditions c) (all_small c formed fits) (λ k. n (clear_scope c k)) in blamed w.0 w.1.0 w.1.1,
    λ w. offends_out c w.2.offends,
  )
