-- One board, and one answer by whatever table of refusals. Assumes nothing.
use mathlib.Core.Path.{◌≡◌, sym, ap, ◌∙◌, subst}
use mathlib.Core.Logic.{◌≢◌, dite}
use mathlib.Core.List.{List}
use Prim.Native.Nat.{ℕ}
use native.Mathlib.Decide.{ℕ_discrete}
use lib.ListN.{get_or, length}
use lib.Seq.{ext_get_or}
use Rattle.hierarchy.specs.Tables.{Tables}
use Rattle.hierarchy.specs.Views.{LiveLoops, RightValues}
use Rattle.hierarchy.specs.First.{First}
use Rattle.hierarchy.proofs.Admin.{sound_loopless}
use Rattle.hierarchy.proofs.FirstLaws.{first_unique}
use Rattle.hierarchy.proofs.ManagerLaws.{values_unique}
use Rattle.board.specs.Boards.{tables_of, board_of, KeepsRight, SoundBoard}
use Rattle.board.specs.Asked.{Answered}
use Rattle.board.specs.declared.Board.{Board}
use Rattle.board.proofs.Rules.{stable}

-- what holds of a number that is 0, and of one that is not
pub by_number : {P : Type 0} (n : ℕ) → (n ≡ 0 → P) → (n ≢ 0 → P) → P
by_number n f g = dite (ℕ_discrete n 0) f g

-- ---- a board

-- Tables without a loop, rights and right values leave one board,
pub right_board : {b d : Board} → (LiveLoops (tables_of b) → ⊥) → KeepsRight b → KeepsRight d → tables_of b ≡ tables_of d → b.rights ≡ d.rights → b ≡ d
right_board {b} {d} loopless v w e r =
    let q = values_unique loopless v (subst (λ (t : Tables). RightValues t d.kept.derives d.kept.derivers d.kept.manager) (sym e) w) in
    λ k. board_of (e k).live (e k).i (e k).a (q.0 k) (q.1.0 k) (q.1.1 k) (r k)

-- and so do tables, rights and soundness.
pub one_board : {b d : Board} → SoundBoard b → SoundBoard d → tables_of b ≡ tables_of d → b.rights ≡ d.rights → b ≡ d
one_board s r e h = right_board (sound_loopless s.sound) s.right r.right e h

-- Two boards that can't differ don't: they are made of numbers.
list_stable : (xs ys : List ℕ) → ((xs ≡ ys → ⊥) → ⊥) → xs ≡ ys
list_stable xs ys h = ext_get_or 0 xs ys
    (stable (ℕ_discrete (length xs) (length ys)) (λ k. h (λ e. k (ap length e))))
    (λ n _. stable (ℕ_discrete (get_or xs n 0) (get_or ys n 0)) (λ k. h (λ e. k (ap (λ (l : List ℕ). get_or l n 0) e))))

pub board_stable : (b d : Board) → ((b ≡ d → ⊥) → ⊥) → b ≡ d
board_stable b d h = λ k. board_of (live k) (part (λ x. x.tables.i) k) (part (λ x. x.tables.a) k) (part (λ x. x.kept.derives) k) (part (λ x. x.kept.derivers) k) (part (λ x. x.kept.manager) k) (part (λ x. x.rights) k)
  where
    live : b.tables.live ≡ d.tables.live
    live = stable (ℕ_discrete b.tables.live d.tables.live) (λ n. h (λ e. n (ap (λ (x : Board). x.tables.live) e)))

    part : (field : Board → List ℕ) → field b ≡ field d
    part field = list_stable (field b) (field d) (λ n. h (λ e. n (ap field e)))

-- ---- a question, by whatever table, where one value is right

pub answered_unique : {A : Type 0} {rules : List (ℕ × Type 0)} {Right : A → Type 0} {none : A} {m n : ℕ} {v w : A}
    → (First rules 0 → (v w : A) → Right v → Right w → v ≡ w) → Answered rules Right none m v → Answered rules Right none n w → (m ≡ n) × (v ≡ w)
answered_unique {rules = rules} {m = m} {n = n} {v = v} {w = w} one d e =
    let k = first_unique _ m n d.numbered e.numbered in (
      k,
      by_number m (λ z. one (subst (First rules) z d.numbered) v w (d.done z) (e.done (sym k ∙ z))) (λ z. d.refused z ∙ sym (e.refused (λ q. z (k ∙ q)))),
    )
