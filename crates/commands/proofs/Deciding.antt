-- A command decided: the rows on the board handed in, the rows afterwards, and what is left. Assumes nothing.
use mathlib.Core.Path.{◌≡◌, refl, sym, subst}
use mathlib.Core.Logic.{◌≢◌}
use mathlib.Core.List.{List, [], ◌++◌}
use Prim.Native.Nat.{ℕ, ◌≤◌, ◌<◌}
use native.Mathlib.Omega.{arith}
use borrow.Author.Tests.{le-leb, lt-leb}
use Rattle.hierarchy.specs.Tables.{Tables, Shaped}
use Rattle.hierarchy.specs.First.{First}
use Rattle.hierarchy.specs.declared.working.Kept.{Kept}
use Rattle.hierarchy.proofs.FirstLaws.{hit, none}
use Rattle.board.specs.Boards.{tables_of, kept_values, SoundBoard}
use Rattle.std.specs.Prelude.{Err}
use Rattle.board.specs.Answers.{Answer, plain, number_of, answer}
use Rattle.board.specs.declared.answers.Refusal.{Refusal}
use Rattle.board.proofs.Answering.{number_of_some, names_nobody}
use Rattle.board.specs.declared.Board.{Board}
use Rattle.board.specs.declared.Command.{Command}
use Rattle.board.proofs.Rules.{first_done, first_other, first_refused, first_next}
use Rattle.effects.specs.Effects.{after}
use Rattle.effects.proofs.Edits.{tables_stay}
use Rattle.refusals.specs.Refusals.{Names}
use Rattle.refusals.specs.Trusting.{BlamesBy, before_trusting}
use Rattle.refusals.proofs.Blaming.{names_plain}
use Rattle.commands.specs.Commands.{Decided}
use Rattle.commands.specs.RightsAfter.{rights_after}
use Rattle.commands.specs.Trusting.{late, LateBy, late_of, KeptTrusting, Remade, DecidedTrusting}

-- ---- the two halves in a row

pub decided_unsound : (b : Board) (c : Command) → (SoundBoard b → ⊥) → Decided b c (plain 1) b
decided_unsound b c n = record { numbered = hit _ _ _ n; named = names_plain 1 (λ e. omega arith); done = λ z. absurd (omega (arith, z)); refused = λ _. refl }

-- tables made anew, or left
module _ (t : Tables) {next : Tables} (c : Command) (e : next ≡ after t c) (kept : Kept) where
  late_rows : (n : ℕ) → First (late next c) n → First (late (after t c) c) n
  late_rows n f = subst (λ (u : Tables). First (late u c) n) e f

  pub remade_not : {n : ℕ} {d u m : List ℕ} → n ≢ 0 → LateBy next c n d u m → Remade t kept c n t kept
  remade_not {n} h r = record { numbered = late_rows n r.numbered; done = λ z. absurd (h z); refused = λ _. (refl, refl) }

  pub remade_done : {d u m : List ℕ} → LateBy next c 0 d u m → Remade t kept c 0 next (kept_values d u m)
  remade_done r = record { numbered = late_rows 0 r.numbered; done = λ _. (e, r.right refl); refused = λ h. absurd (h refl) }

-- the rows afterwards, by the code
pub late_low : (t : Tables) (c : Command) → c.code ≤ 5 → late_of t c ≡ late t c
late_low t c l = rw (lt-leb 6 c.code (omega (arith, l)))

pub late_high : (t : Tables) (c : Command) → 5 < c.code → late_of t c ≡ []
late_high t c h = rw (le-leb 6 c.code h)

module _ (b : Board) (c : Command) where
  abbrev rows : List (ℕ × Type 0)
  rows = before_trusting b c

  abbrev ends : List (ℕ × Type 0)
  ends = late_of (after (tables_of b) c) c

  -- a refusal by the rows on the board handed in leaves the very board
  pub decided_down : {m : Answer} → m.number ≢ 0 → First rows m.number × Names (BlamesBy b.kept.derives b.kept.derivers c) m → DecidedTrusting b c m b
  decided_down {m} h f = record { numbered = first_refused rows ends m.number h f.0; named = f.1; done = λ z. absurd (h z); refused = λ _. refl }

  module _ (clear : First rows 0) where
    past_all : (n : ℕ) → First ends n → First (rows ++ ends) n
    past_all n f = first_next rows ends n (first_done rows refl clear) f

    made : First ends 0 → (x : Board) → tables_of x ≡ after (tables_of b) c → x.rights ≡ rights_after c b.rights → KeptTrusting b c x → DecidedTrusting b c (plain 0) x
    made f x e r kept = record {
      numbered = past_all 0 f;
      named = names_plain 0 (λ q. omega arith);
      done = λ _. record { tables_are = e; rights_are = r; fit = kept };
      refused = λ h. absurd (h refl);
    }

    -- commands 6 and 7 change the rights alone
    pub decided_rights : 5 < c.code → Shaped (tables_of b) → {rights : List ℕ} → rights ≡ rights_after c b.rights
        → DecidedTrusting b c (plain 0) (record { tables = b.tables; kept = b.kept; rights = rights })
    decided_rights h shaped r = made (subst (λ (l : List (ℕ × Type 0)). First l 0) (sym (late_high _ c h)) none) _ (sym (tables_stay (tables_of b) c shaped h)) r
        (record { worked_out = λ l. absurd (omega (arith, h, l)); left = λ _. refl })

    -- the others what is made anew besides
    module _ (low : c.code ≤ 5) {next : Tables} {worked : Kept} where
      late_at : (n : ℕ) → Remade b.tables b.kept c n next worked → First ends n
      late_at n remade = subst (λ (l : List (ℕ × Type 0)). First l n) (sym (late_low _ c low)) remade.numbered

      pub decided_late : (r : Refusal) → Remade b.tables b.kept c (number_of r) next worked
          → DecidedTrusting b c (answer {A = Unit {0}} (Err r)) (record { tables = next; kept = worked; rights = b.rights })
      decided_late r remade =
          let six = first_other 6 (late (after (tables_of b) c) c) refl (number_of r) remade.numbered in record {
            numbered = past_all (number_of r) (late_at (number_of r) remade);
            named = subst (Names (BlamesBy b.kept.derives b.kept.derivers c)) (sym (names_nobody r six)) (names_plain (number_of r) six);
            done = λ z. absurd (number_of_some r z);
            refused = λ h. let q = remade.refused h in λ k. record { tables = q.0 k; kept = q.1 k; rights = b.rights };
          }

      pub decided_done : Remade b.tables b.kept c 0 next worked → {rights : List ℕ} → rights ≡ rights_after c b.rights
          → DecidedTrusting b c (plain 0) (record { tables = next; kept = worked; rights = rights })
      decided_done remade r = let d = remade.done refl in
          made (late_at 0 remade) _ d.0 r (record { worked_out = λ _. d.1; left = λ h. absurd (omega (arith, h, low)) })
