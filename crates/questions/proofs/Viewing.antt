-- On a sound board what a question reads off the values that the board keeps is document 01's answer. Assumes nothing.
use mathlib.Core.Path.{◌≡◌, refl, sym, subst}
use mathlib.Core.Bool.{Bool, true, false, cond}
use mathlib.Core.Logic.Iff
use mathlib.Core.Logic.{⊎_elim}
use Prim.Native.Nat.{ℕ}
use native.Mathlib.Omega.{arith}
use lib.Dec.{ltb}
use borrow.Author.Tests.{ltb-true, ltb-false}
use Rattle.std.specs.Prelude.{Option, Some, None}
use Rattle.sets.proofs.Laws.{bit_lt}
use Rattle.hierarchy.specs.Words.{Climb}
use Rattle.hierarchy.specs.First.{First}
use Rattle.hierarchy.specs.Views.{manager_at}
use Rattle.hierarchy.proofs.FirstLaws.{pass}
use Rattle.hierarchy.proofs.Admin.{admin_live}
use Rattle.hierarchy.proofs.Bars.{out_by}
use Rattle.board.specs.Boards.{tables_of, SoundBoard}
use Rattle.board.specs.Asked.{misnamed}
use Rattle.board.specs.Kept.{manager_from}
use Rattle.board.specs.declared.Board.{Board}
use Rattle.board.proofs.Asking.{asked, answer_as}
use Rattle.board.proofs.Keeping.{derives_kept, scope_kept, manager_kept, steps_kept}
use Rattle.questions.specs.Questions.{Manages, DerivesAnswer, ScopeAnswer, ManagerAnswer, StepsAnswer, refusals as questionRefusals}
use Rattle.questions.specs.Trusting.{DerivesTrusting, ScopeTrusting, ManagerTrusting, StepsTrusting}

module _ {b : Board} (s : SoundBoard b) where
  past : (x y n : ℕ) → First (misnamed b.tables.live x y) n → First (questionRefusals b x y) n
  past x y n f = pass _ _ _ _ (λ k. k s) f

  pub derives_viewed : (x y : ℕ) {n : ℕ} {said : Bool} → DerivesTrusting b.tables.live b.kept.derives x y n said → DerivesAnswer b x y n said
  derives_viewed x y a = answer_as (past x y _) (λ _ h. Iff.trans h (derives_kept s x y)) a

  pub scope_viewed : (a r : ℕ) {n count cause way : ℕ} {said : Bool} → ScopeTrusting b.tables.live b.kept.derives b.kept.derivers a r n said count cause way → ScopeAnswer b a r n said count cause way
  scope_viewed a r h = answer_as (past a r _)
      (λ _ h. let k = h.0 in (
        (Iff.trans k.0 (scope_kept s a r), (k.1.0, λ x. Iff.trans (k.1.1 x) (scope_kept s a x), k.1.2)),
        record { yes = h.1.yes; no = λ e. (out_by s.right.views).0 (h.1.no e) },
      )) h

  -- a manager that is kept, as an answer
  manages : (r : ℕ) (p : Bool) → ltb (manager_at b.kept.manager r) 64 ≡ p → Manages b r (cond p (Some (manager_at b.kept.manager r)) None)
  manages r true e = ⊎_elim (λ l. l) (λ w. absurd (omega (arith, ltb-true (manager_at b.kept.manager r) 64 e, w.1))) (manager_kept s r)
  manages r false e = ⊎_elim
      (λ l. absurd (omega (arith, ltb-false (manager_at b.kept.manager r) 64 e, bit_lt 64 s.sound.shaped.live_fits (admin_live l.admin))))
      (λ w. w.0) (manager_kept s r)

  pub manager_viewed : (r : ℕ) {n : ℕ} {m : Option ℕ} → ManagerTrusting b.tables.live b.kept.manager r n m → ManagerAnswer b r n m
  unfolding manager_from
  manager_viewed r a = answer_as (past r r _) (λ _ e. subst (Manages b r) (sym e) (manages r _ refl)) a

  pub steps_viewed : (r : ℕ) {n steps : ℕ} → StepsTrusting b.tables.live b.kept.manager r n steps → StepsAnswer b r n steps
  steps_viewed r {n} a = answer_as (past r r _) (λ z e. subst (Climb (tables_of b) r) (sym e) (steps_kept s r (asked b.tables.live r r n a.numbered z).x_live)) a
