-- Commands given one by one: what a line, and then the lines so far, leave.
use mathlib.Core.Path.{◌≡◌, refl, sym, ap, subst, ◌∙◌}
use mathlib.Core.Bool.{Bool, true, false, cond, ◌||◌, or-false, or_assoc}
use mathlib.Core.List.{List, [], ◌∷◌, ◌++◌, append_assoc, append-nil}
use Rattle.std.specs.Prelude.{Result, Ok, Err, is_ok}
use Rattle.std.specs.Borrow.{Bor}
use Prim.Native.Nat.{ℕ, ◌+◌, ◌≤◌, ◌<◌, zero-le}
use native.Mathlib.Omega.{arith}
use lib.Dec.{eqb}
use lib.ListN.{length, get_or}
use borrow.Author.Tests.{eq-eqb, ne_eqb}
use Rattle.board.specs.declared.Board.{Board}
use Rattle.board.specs.declared.Command.{Command}
use Rattle.board.specs.declared.answers.Refusal.{Refusal}
use Rattle.board.specs.Answers.{Answer, number_of, answer}
use Rattle.board.proofs.Answering.{number_of_some}
use Rattle.commands.specs.Commands.{Decided}
use Rattle.runs.specs.Runs.{over, given}
use Rattle.runs.proofs.Running.{ran_join}
use Rattle.wording.specs.Texts.{pieces, rest_of, word_at, Given}
use Rattle.wording.specs.Meanings.{Meaning, meaning_of}
use Rattle.wording.specs.declared.pieces.Pieces.{Pieces}
use Rattle.wording.proofs.Cutting.{rest_over}
use Rattle.boardchange.specs.Texts.{meant_by, passed?, line_commands, commands_of, some_done, Gave}

-- ---- a line

pub passed_here : (line : List ℕ) {w : List ℕ} → w ≡ word_at line 0 → length w ≡ 0 → true ≡ passed? line
unfolding passed?
passed_here line {w} e h = subst (λ (u : List ℕ). true ≡ (eqb (length u) 0 || eqb (get_or u 0 0) 35)) e (simp (eq-eqb (length w) 0 h))

pub passed_not : (line : List ℕ) {w : List ℕ} → w ≡ word_at line 0 → (length w ≡ 0 → ⊥) → eqb (get_or w 0 0) 35 ≡ passed? line
unfolding passed?
passed_not line {w} e h = subst (λ (u : List ℕ). eqb (get_or w 0 0) 35 ≡ (eqb (length u) 0 || eqb (get_or u 0 0) 35)) e (simp (ne_eqb (length w) 0 h))

-- what `is_ok` tells of an answer
told_ok : (a : Result (Unit {0}) Refusal) → is_ok a ≡ eqb (answer a).number 0
told_ok (Ok u) = refl
told_ok (Err r) = sym (ne_eqb (number_of r) 0 (number_of_some r))

pub gave_one : {b next : Board} {c : Command} (a : Result (Unit {0}) Refusal) → Decided b c (answer a) next → Gave b (c ∷ []) next (is_ok a)
unfolding some_done
gave_one a d = record { answers = answer a ∷ []; ran = given d over; told = told_ok a ∙ sym (or-false (eqb (answer a).number 0)) }

pub gave_none : {b : Board} → Gave b [] b false
unfolding some_done
gave_none = record { answers = []; ran = over; told = refl }

-- what a line means, by what it was found to mean
pub by_meaning : {b next : Board} {m n : Meaning} {done : Bool} → m ≡ n → Gave b (meant_by m) next done → Gave b (meant_by n) next done
by_meaning {b = b} {next = next} {done = done} e g = subst (λ (x : Meaning). Gave b (meant_by x) next done) e g

pub by_line : {b next : Board} (line : List ℕ) {p done : Bool} → p ≡ passed? line → Gave b (cond p [] (meant_by (meaning_of line))) next done → Gave b (line_commands line) next done
by_line {b = b} {next = next} line {done = done} e g = subst (λ (p : Bool). Gave b (cond p [] (meant_by (meaning_of line))) next done) e g

-- ---- the lines so far: k of them, those before s, have been given to b, and left this board

pub record SoFar (b : Board) (text : List ℕ) (k : ℕ) (s : Pieces) (board : Board) (done : Bool) : Type 0 where
  pub all : s.text.now ≡ text
  pub sep : s.sep ≡ 10
  pub few : k ≤ s.from
  pub within : s.from ≤ length text + 1
  pub before : List Command
  pub gave : Gave b before board done
  pub whole : before ++ commands_of (rest_of 10 text s.from) ≡ commands_of (pieces 10 text)

some_done_lem : (early late : List Answer) → some_done (early ++ late) ≡ (some_done early || some_done late)
unfolding some_done
some_done_lem [] late = refl
some_done_lem (a ∷ early) late = ap (λ (q : Bool). eqb a.number 0 || q) (some_done_lem early late) ∙ sym (or_assoc (eqb a.number 0) (some_done early) (some_done late))

gave_both : {b between last : Board} {first rest : List Command} {p q : Bool} → Gave b first between p → Gave between rest last q → Gave b (first ++ rest) last (p || q)
gave_both g h =
    record {
      answers = g.answers ++ h.answers;
      ran = ran_join g.ran h.ran;
      told = cc (some_done_lem g.answers h.answers);
    }

pub start : (b : Board) {text : Bor (List ℕ)} {s : Pieces} → s.text ≡ text → s.from ≡ 0 → s.sep ≡ 10 → SoFar b text.now 0 s b false
unfolding rest_of
start b w z e = record {
  all = ap (λ (t : Bor (List ℕ)). t.now) w;
  sep = e;
  few = zero-le;
  within = rw z zero-le;
  before = [];
  gave = gave_none;
  whole = rw z;
}

module _ {b board : Board} {text : List ℕ} {k : ℕ} {s : Pieces} {p : Bool} (h : SoFar b text k s board p) where
  pub next : {part : Bor (List ℕ)} {t : Pieces} {after : Board} {q : Bool} → Given s part t → Gave board (line_commands part.now) after q → SoFar b text (k + 1) t after (p || q)
  unfolding commands_of
  next {part} {t} g gave =
      let cut : rest_of 10 text s.from ≡ part.now ∷ rest_of 10 text t.from = rw (h.all, h.sep) at g.first in
      record {
        all = ap (λ (u : Bor (List ℕ)). u.now) g.same_text ∙ h.all;
        sep = g.same_sep ∙ h.sep;
        few = omega (arith, g.behind, h.few);
        within = rw h.all at g.within;
        before = h.before ++ line_commands part.now;
        gave = gave_both h.gave gave;
        whole = append_assoc h.before _ _ ∙ ap (λ (ls : List (List ℕ)). h.before ++ commands_of ls) (sym cut) ∙ h.whole;
      }

  pub finish : length s.text.now < s.from → Gave b (commands_of (pieces 10 text)) board p
  unfolding commands_of
  finish g =
      let past : length text < s.from = rw h.all at g in
      subst (λ (l : List Command). Gave b l board p)
      (sym (append-nil h.before) ∙ ap (λ (ls : List (List ℕ)). h.before ++ commands_of ls) (sym (rest_over 10 text s.from past)) ∙ h.whole)
      h.gave
