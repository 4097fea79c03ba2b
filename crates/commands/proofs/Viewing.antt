-- On a sound board what a command decides by the values that the board keeps is document 01's answer. Assumes nothing.
use mathlib.Core.Path.{◌≡◌, refl, sym, ap, ◌∙◌, subst, subst₂}
use mathlib.Core.Logic.Iff
use mathlib.Core.Logic.{⊎_elim, ◌↔◌}
use mathlib.Core.List.{List, [], ◌∷◌}
use Prim.Native.Nat.{ℕ, ◌<◌}
use native.Mathlib.Omega.{arith}
use Rattle.sets.proofs.Bools.{lt_or_ge}
use Rattle.hierarchy.specs.Tables.{Tables}
use Rattle.hierarchy.specs.Words.{Derives, Scope, Managed, Sound}
use Rattle.hierarchy.specs.First.{First, Passed}
use Rattle.hierarchy.specs.declared.working.Kept.{Kept}
use Rattle.hierarchy.specs.Views.{LiveLoops, ScopeBy, RightValues}
use Rattle.hierarchy.proofs.FirstLaws.{pass}
use Rattle.hierarchy.proofs.Order.{joined_inward, joined_loops}
use Rattle.hierarchy.proofs.Bars.{out_by}
use Rattle.board.specs.Boards.{tables_of, KeepsRight, SoundBoard}
use Rattle.board.specs.Rights.{RightsFit}
use Rattle.board.specs.declared.Board.{Board}
use Rattle.board.specs.Answers.{Answer}
use Rattle.board.specs.declared.Command.{Command}
use Rattle.board.proofs.Rules.{first_done, first_none, first_alike, first_without}
use Rattle.board.proofs.Keeping.{derives_kept, scope_kept}
use Rattle.effects.specs.Effects.{after}
use Rattle.effects.proofs.Edits.{tables_stay}
use Rattle.refusals.specs.Entitled.{Entitled}
use Rattle.refusals.specs.Refusals.{InScope, before}
use Rattle.refusals.specs.Trusting.{DerivesBy, before_trusting}
use Rattle.refusals.proofs.Entitling.{entitled_alike}
use Rattle.refusals.proofs.Trying.{in_scope_alike}
use Rattle.refusals.proofs.Blaming.{blames_alike}
use Rattle.commands.specs.Commands.{Outside, afterwards, on_tables, Decided}
use Rattle.commands.specs.Trusting.{Torn, late, late_of, DecidedTrusting}
use Rattle.commands.proofs.RightsLeft.{rights_fit}
use Rattle.commands.proofs.Deciding.{late_low, late_high}
use Rattle.commands.proofs.TakingBack.{sound_passes}
use Rattle.commands.proofs.SoundAfter.{joined_after, sound_after}

module _ {b : Board} (s : SoundBoard b) where
  pub decided_viewed : {c : Command} {m : Answer} {board : Board} → DecidedTrusting b c m board → Decided b c m board
  decided_viewed {c} {m} {board} d = record {
    numbered = pass _ _ _ _ (λ k. k s) rows;
    named = record { six = λ e. blames_alike c (scope_kept s c.actor) (λ x k w. (out_by s.right.views).0) (d.named.six e); other = d.named.other };
    done = λ z. let m = d.done z in record {
      tables_are = m.tables_are;
      rights_are = m.rights_are;
      fit = record {
        sound = subst Sound (sym m.tables_are) (sound_after (tables_of b) b.rights c s.sound (passes z));
        right = ⊎_elim (λ high. stays m.tables_are (m.fit.left high) high) m.fit.worked_out (lt_or_ge 5 c.code);
        rightful = let p = first_done _ refl (passes z) in
            subst₂ RightsFit (ap (λ (t : Tables). t.live) (sym m.tables_are)) (sym m.rights_are) (rights_fit (tables_of b) b.rights c s.rightful p.0 p.1.0);
      };
    };
    refused = d.refused;
  }
    where
      scope_row : (InScope (ScopeBy b.kept.derives b.kept.derivers) c → ⊥) ↔ (InScope (Scope (tables_of b)) c → ⊥)
      scope_row =
          let e = in_scope_alike c (λ x. scope_kept s c.actor x) in
          (λ h k. h (e.1 k), λ h k. h (e.0 k))

      n : ℕ
      n = m.number

      right_row : (Entitled (DerivesBy b.kept.derives) b.rights c → ⊥) ↔ (Entitled (Derives (tables_of b)) b.rights c → ⊥)
      right_row =
          let e = entitled_alike b.rights c (λ x. derives_kept s c.actor x) in
          (λ h k. h (e.1 k), λ h k. h (e.0 k))

      -- what commands 6 and 7 leave was right before
      stays : tables_of board ≡ after (tables_of b) c → board.kept ≡ b.kept → 5 < c.code → KeepsRight board
      stays e q high =
          subst (λ (t : Tables). RightValues t board.kept.derives board.kept.derivers board.kept.manager) (sym (e ∙ tables_stay (tables_of b) c s.sound.shaped high))
          (subst (λ (k : Kept). RightValues (tables_of b) k.derives k.derivers k.manager) (sym q) s.right)

      -- a sound board's entries still join live roles once the rows before are passed
      whole : Passed (before_trusting b c) → First (late (after (tables_of b) c) c) n → First (afterwards (after (tables_of b) c) c) n
      whole p h =
          let t = after (tables_of b) c in
          let joined = joined_after (tables_of b) c s.sound.joined p.0 p.1.0 in
          let rows : List (ℕ × Type 0) = (7, LiveLoops t) ∷ (8, Outside t c) ∷ (9, (Managed t → ⊥)) ∷ [] in
          first_alike rows (afterwards t c) [] [] n (refl, joined_loops joined, (refl, Iff.rfl, (refl, Iff.rfl, tt))) (λ _ f. f)
          (first_without 1 _ rows n (λ (k : Torn t). k.outward (joined_inward _ joined)) h)

      -- and where a command leaves the tables, the rows afterwards say nothing new
      ends : Passed (before_trusting b c) → First (late_of (after (tables_of b) c) c) n → First (afterwards (after (tables_of b) c) c) n
      ends p h = ⊎_elim
          (λ high.
          let z = first_none (subst (λ (l : List (ℕ × Type 0)). First l n) (late_high _ c high) h) in
          subst₂ (λ (t : Tables) (k : ℕ). First (afterwards t c) k) (sym (tables_stay (tables_of b) c s.sound.shaped high)) (sym z)
          (sound_passes (tables_of b) c s.sound (λ e. omega (arith, high, e))))
          (λ low. whole p (subst (λ (l : List (ℕ × Type 0)). First l n) (late_low _ c low) h))
          (lt_or_ge 5 c.code)

      rows : First (on_tables (tables_of b) b.rights c) n
      rows =
          first_alike (before_trusting b c) (before (Derives (tables_of b)) (Scope (tables_of b)) (tables_of b) b.rights c)
          (late_of (after (tables_of b) c) c) (afterwards (after (tables_of b) c) c) n
          (refl, Iff.rfl, (refl, Iff.rfl, (refl, Iff.rfl, (refl, Iff.rfl, (refl, right_row, (refl, scope_row, tt)))))) ends d.numbered

      passes : n ≡ 0 → First (on_tables (tables_of b) b.rights c) 0
      passes z = subst (First (on_tables (tables_of b) b.rights c)) z rows
