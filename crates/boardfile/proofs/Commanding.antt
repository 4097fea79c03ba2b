-- A command on a file, from what its parts answered. Assumes nothing.
use mathlib.Core.Path.{◌≡◌, refl, sym, ap, ◌∙◌, subst}
use mathlib.Core.Bool.{true≢false}
use mathlib.Core.Logic.{inl, inr, ◌≢◌}
use mathlib.Core.List.{List}
use Prim.Native.Nat.{ℕ, ◌≤◌}
use native.Mathlib.Omega.{arith}
use Rattle.hierarchy.specs.First.{First}
use Rattle.board.specs.Boards.{tables_of, SoundBoard}
use Rattle.std.specs.Prelude.{Result, Ok, Err, is_ok}
use Rattle.board.specs.Answers.{Answer, plain, number_of, number, answer}
use Rattle.board.specs.declared.answers.Refusal.{Refusal}
use Rattle.board.specs.declared.answers.Refusal.TheVariants.{Unsound, Malformed, Missing, Standing, Lacking, OutOfScope, Loops, Outside, Unmanaged, BadFrame, BadRecord, NoRoom, NotEntitled, WrongState, NotTheirs}
use Rattle.board.proofs.Answering.{number_of_some}
use Rattle.board.proofs.Rules.{first_other}
use Rattle.board.specs.declared.Board.{Board}
use Rattle.board.specs.declared.Command.{Command}
use Rattle.commands.specs.Commands.{Decided}
use Rattle.commands.specs.Trusting.{DecidedTrusting}
use Rattle.commands.proofs.Viewing.{decided_viewed}
use Rattle.writer.specs.Files.{file_of}
use Rattle.writer.specs.Writing.{write_refusals, WriteAnswer}
use Rattle.writer.specs.Parts.{PutAnswer}
use Rattle.boardfile.specs.Answers.{refusals, Place, Asked, File, Writing, CommandAnswer}
use Rattle.boardfile.specs.Answers.{CommandAnswer.unread, CommandAnswer.refused, CommandAnswer.no_room, CommandAnswer.done}
use Rattle.boardfile.specs.Parts.{Opening}
use Rattle.boardfile.proofs.Readings.{read_refused, read_done, sound}
use Rattle.writer.proofs.Filed.{put_writes}
use Rattle.boardfile.proofs.Theorems.{sound_length}

-- ---- a refusal that is given on as another error

pub done_before : {A D : Type 0} (r : Result A Refusal) (q : Result A D) {x : A} → is_ok q ≡ is_ok r → q ≡ Ok x → number r ≡ 0
done_before (Ok y) q e w = refl
done_before (Err d) q e w = absurd (true≢false (sym (ap is_ok w) ∙ e))

pub refused_before : {A D : Type 0} (r : Result A Refusal) (q : Result A D) {d : D} → is_ok q ≡ is_ok r → q ≡ Err d → (e : Refusal) × (r ≡ Err e)
refused_before (Ok y) q e w = absurd (true≢false (sym e ∙ ap is_ok w))
refused_before (Err d) q e w = (d, refl)

pub one_error : {A D : Type 0} {q : Result A D} {x y : D} → q ≡ Err x → q ≡ Err y → x ≡ y
one_error v w = cc

-- ---- a command on a file

-- a done command leaves a sound board
sound_next : {b next : Board} {c : Command} → Decided b c (plain 0) next → SoundBoard next
sound_next d = (d.done refl).fit

-- the answers of a result that is done, and of a refusal by its number: only 6 names anybody
pub plain_but_6 : (r : Refusal) → number_of r ≢ 6 → answer {A = ℕ} (Err r) ≡ plain (number_of r)
plain_but_6 Unsound n = refl
plain_but_6 Malformed n = refl
plain_but_6 Missing n = refl
plain_but_6 Standing n = refl
plain_but_6 Lacking n = refl
plain_but_6 (OutOfScope who cause) n = absurd (n refl)
plain_but_6 Loops n = refl
plain_but_6 Outside n = refl
plain_but_6 Unmanaged n = refl
plain_but_6 BadFrame n = refl
plain_but_6 BadRecord n = refl
plain_but_6 NoRoom n = refl
plain_but_6 NotEntitled n = refl
plain_but_6 WrongState n = refl
plain_but_6 NotTheirs n = refl

-- the file is refused, never with 6
pub unread_as : {f : List ℕ} {b : Board} {c : Command} {entry : List ℕ} (r : Refusal) → Opening f (number_of r) b → CommandAnswer f c entry entry File (answer {A = ℕ} (Err r)) 0
unread_as {f} {c = c} {entry} r o =
    let z = number_of_some r in
    subst (λ (k : Answer). CommandAnswer f c entry entry File k 0)
    (sym (plain_but_6 r (first_other 6 (refusals f) refl (number_of r) o.numbered)))
    (unread (read_refused o z) z refl)

module _ {f : List ℕ} {b next : Board} {c : Command} {entry : List ℕ} (o : Opening f 0 b) where
  pub asked_as : (r : Refusal) → DecidedTrusting b c (answer {A = ℕ} (Err r)) next → CommandAnswer f c entry entry Asked (answer {A = ℕ} (Err r)) 0
  asked_as r d = refused (read_done o) (decided_viewed (sound o) d) (number_of_some r) refl

module _ {f : List ℕ} {b next : Board} {c : Command} (o : Opening f 0 b) (d : DecidedTrusting b c (plain 0) next) where
  decided : Decided b c (plain 0) next
  decided = decided_viewed (sound o) d

module _ {f : List ℕ} {b next : Board} {c : Command} {entry exit : List ℕ} (o : Opening f 0 b) (d : DecidedTrusting b c (plain 0) next) where
  -- writing it is refused for want of room alone
  pub unwritten_as : (r : Refusal) → PutAnswer (file_of (tables_of next) next.rights) entry 0 exit (number_of r) 0 → CommandAnswer f c entry exit Writing (answer {A = ℕ} (Err r)) 0
  unfolding First
  unwritten_as r put =
      subst (λ (k : Answer). CommandAnswer f c entry exit Writing k 0)
      (ap plain (sym is_12) ∙ sym (plain_but_6 r (λ (q : number_of r ≡ 6). omega (arith, is_12, q))))
      (no_room (read_done o) (decided o d) (subst (λ (k : ℕ). WriteAnswer next entry 0 exit k 0) is_12 written))
    where
      written : WriteAnswer next entry 0 exit (number_of r) 0
      written = put_writes (sound_next (decided o d)) put

      only : First (write_refusals next entry 0) (number_of r) → number_of r ≡ 12
      only (inl p) = absurd (p.0 (sound_next (decided o d)))
      only (inr (_, inl p)) = p.1
      only (inr (_, inr p)) = absurd (number_of_some r p.1)

      is_12 : number_of r ≡ 12
      is_12 = only written.numbered

  pub written_as : (len : ℕ) → PutAnswer (file_of (tables_of next) next.rights) entry 0 exit 0 len → CommandAnswer f c entry exit Asked (plain 0) len
  written_as len put = done (read_done o) (decided o d) (put_writes (sound_next (decided o d)) put)

-- the new file is no longer than any other
pub command_short : {f : List ℕ} {c : Command} {entry exit : List ℕ} {p : Place} {m : Answer} {len : ℕ} → CommandAnswer f c entry exit p m len → len ≤ 6184
command_short (unread r z e) = omega arith
command_short (refused r d z e) = omega arith
command_short (no_room r d w) = omega arith
command_short (done {next = next} r d w) = omega (arith, (w.done refl).0, sound_length (tables_of next) (sound_next d).sound next.rights)
