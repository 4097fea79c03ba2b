-- The founding board is sound. Assumes nothing.
use mathlib.Core.Path.{◌≡◌, refl, sym, ap, ◌∙◌, subst}
use mathlib.Core.Bool.{false}
use mathlib.Core.Logic.Iff
use mathlib.Core.Logic.{inr, ◌↔◌}
use mathlib.Core.List.{◌∷◌}
use Prim.Native.Nat.{ℕ, zero, suc, ◌≤◌}
use native.Mathlib.Omega.{arith}
use lib.Dec.{lit<, lit≤}
use lib.ListN.{replicate}
use Rattle.sets.specs.Sets.{bit, ◌is_in◌}
use Rattle.sets.proofs.Bools.{false_no}
use Rattle.sets.proofs.Digits.{bit_zero}
use Rattle.sets.proofs.Laws.{bit_lt}
use Rattle.hierarchy.specs.Tables.{row, kind}
use Rattle.hierarchy.specs.Words.{Derives, LineManager, Sound}
use Rattle.hierarchy.specs.Compute.{all, any, spread, grow, close, derived, derives?, scope?, admin?, unite, reaches?, loops?, joined?, managed?, shaped?, sound?}
use Rattle.hierarchy.proofs.Admin.{derives_refl}
use Rattle.hierarchy.proofs.Decide.{sound_is}
use Rattle.hierarchy.proofs.Rows.{one_entry}
use Rattle.board.specs.Rights.{rights_of, founding_rights}
use Rattle.board.specs.Boards.{tables_of, founding_board, KeepsRight, SoundBoard}

tables_sound : Sound (tables_of founding_board)
tables_sound = (sound_is (tables_of founding_board)).0 (unfold founding_board bit kind all any spread grow close derived derives? scope? admin? unite reaches? loops? joined? managed? shaped? sound? in refl)

-- ---- the values that it keeps

alone : {x : ℕ} → x is_in 1 → x ≡ 0
alone e = let l = bit_lt 1 (lit< tt) e in omega arith

root : 0 is_in 1
unfolding bit
root = refl

-- role 0 has itself in its row, and that is all
itself : (x y : ℕ) → (y is_in row (1 ∷ replicate 63 0) x) ↔ ((x ≡ 0) × (y ≡ 0))
itself zero y = (λ e. (refl, alone e), λ p. rw p.1 root)
itself (suc x) y = (λ e. absurd (false_no (ap (λ (s : ℕ). bit s y) (one_entry 63 x 0) ∙ bit_zero y) e), λ p. absurd (omega (arith, p.0)))

derives_itself : (x y : ℕ) → Derives (tables_of founding_board) x y ↔ ((x ≡ 0) × (y ≡ 0))
unfolding founding_board
derives_itself x y = (λ d. (alone d.from, alone d.to), λ p. rw (p.0, p.1) (derives_refl root))

no_manager : (m r : ℕ) → LineManager (tables_of founding_board) m r → ⊥
no_manager m r l = let p = (derives_itself m r).0 l.admin.scope.derives in l.admin.strict (p.0 ∙ sym p.1)

keeps_right : KeepsRight founding_board
unfolding founding_board
keeps_right = record {
  views = record {
    down_rows = refl;
    up_rows = refl;
    down_is = λ x y. Iff.trans (itself x y) (Iff.symm (derives_itself x y));
    up_is = λ x y. Iff.trans (itself y x) (Iff.symm (Iff.trans (derives_itself x y) (λ p. (p.1, p.0), λ p. (p.1, p.0))));
  };
  managers = record { manager_rows = refl; manager_is = λ r. inr (λ m. no_manager m r, one_entry 64 r 64) };
}

pub founding_sound : SoundBoard founding_board
unfolding founding_board
founding_sound = record { sound = tables_sound; right = keeps_right; rightful = record { rows = refl; five = five; living = living } }
  where
    five : (x : ℕ) → rights_of founding_rights x ≤ 31
    five zero = lit≤ tt
    five (suc x) = subst (λ (n : ℕ). n ≤ 31) (sym (one_entry 63 x 0)) (lit≤ tt)

    living : (x : ℕ) → bit 1 x ≡ false → rights_of founding_rights x ≡ 0
    living zero e = absurd (false_no e root)
    living (suc x) e = one_entry 63 x 0
