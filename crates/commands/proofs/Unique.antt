-- Two answers that a command's contract allows coincide. Assumes nothing.
use mathlib.Core.Path.{◌≡◌, refl, sym, ◌∙◌, subst}
use mathlib.Core.Logic.{⊎_elim}
use mathlib.Core.List.{List}
use Prim.Native.Nat.{ℕ}
use Rattle.sets.proofs.Bools.{lt_or_ge}
use Rattle.hierarchy.specs.Tables.{Tables}
use Rattle.hierarchy.specs.Views.{LiveLoops}
use Rattle.hierarchy.specs.First.{First}
use Rattle.hierarchy.proofs.FirstLaws.{first_unique}
use Rattle.hierarchy.proofs.Bars.{out_unique, out_by_unique}
use Rattle.board.specs.Boards.{tables_of}
use Rattle.board.specs.declared.Board.{Board}
use Rattle.board.specs.Answers.{Answer}
use Rattle.board.specs.declared.Command.{Command}
use Rattle.board.proofs.Rules.{first_done, done_both}
use Rattle.board.proofs.Unique.{by_number, right_board, one_board}
use Rattle.effects.specs.Effects.{after}
use Rattle.refusals.specs.Trusting.{before_trusting}
use Rattle.refusals.proofs.Blaming.{blames_one, names_one}
use Rattle.commands.specs.Commands.{DecidedBy, Decided}
use Rattle.commands.specs.Trusting.{late, late_of, DecidedTrusting}
use Rattle.commands.proofs.Deciding.{late_low}

-- ---- a command, by whatever table

decided_one : {rules : List (ℕ × Type 0)} {Blame : Answer → Type 0} {Fit : Board → Type 0} {b : Board} {c : Command} {m n : Answer} {x y : Board}
    → (m.number ≡ n.number → Blame m → Blame n → m ≡ n) → (m.number ≡ 0 → Fit x → Fit y → tables_of x ≡ tables_of y → x.rights ≡ y.rights → x ≡ y)
    → DecidedBy rules Blame Fit b c m x → DecidedBy rules Blame Fit b c n y → (m ≡ n) × (x ≡ y)
decided_one {m = m} {n = n} blamed one d e =
    let q = first_unique _ m.number n.number d.numbered e.numbered in (
      names_one (blamed q) q d.named e.named,
      by_number m.number
          (λ z. let f = d.done z in let g = e.done (sym q ∙ z) in one z f.fit g.fit (f.tables_are ∙ sym g.tables_are) (f.rights_are ∙ sym g.rights_are))
          (λ z. d.refused z ∙ sym (e.refused (λ w. z (q ∙ w)))),
    )

pub decided_unique : {b : Board} {c : Command} {m n : Answer} {x y : Board} → Decided b c m x → Decided b c n y → (m ≡ n) × (x ≡ y)
decided_unique = decided_one (blames_one (λ a x c d v w. out_unique)) (λ _ s r. one_board s r)

-- a command that is done leaves no loop where it may change the tables, whatever the board was
pub decided_trusting_unique : {b : Board} {c : Command} {m n : Answer} {x y : Board} → DecidedTrusting b c m x → DecidedTrusting b c n y → (m ≡ n) × (x ≡ y)
decided_trusting_unique {b} {c} d = decided_one (blames_one (λ a x c d v w. out_by_unique))
    (λ z f g e r. ⊎_elim
    (λ high. let q = f.left high ∙ sym (g.left high) in λ k. record { tables = e k; kept = q k; rights = r k })
    (λ low. right_board (λ l.
    let rows = (done_both (before_trusting b c) (late_of (after (tables_of b) c) c) refl (subst (First _) z d.numbered)).1 in
    (first_done (late (after (tables_of b) c) c) refl (subst (λ (t : List (ℕ × Type 0)). First t 0) (late_low _ c low) rows)).1.0 (subst (λ (t : Tables). LiveLoops t) (d.done z).tables_are l))
    (f.worked_out low) (g.worked_out low) e r)
    (lt_or_ge 5 c.code)) d
