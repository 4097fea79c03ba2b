-- What holds of board files, for a reader who starts here. A sound board has one file, of at most 6,118 bytes where it is an HH and 6,184
-- where it is an HR; it is read back as that board, and nothing else is accepted. Assumes nothing.
use mathlib.Core.Path.{◌≡◌, refl, sym, ap, ◌∙◌, subst}
use mathlib.Core.Bool.{Bool, true, false, cond}
use mathlib.Core.Logic.{⊎_elim, ◌↔◌, ◌≢◌}
use mathlib.Core.List.{List, [], ◌++◌, append_assoc}
use Prim.Native.Nat.{ℕ, ◌+◌, ◌-◌, ◌/◌, ◌%◌, ◌≤◌, ◌<◌}
use native.Mathlib.Omega.{arith}
use lib.Dec.{eqb}
use lib.ListN.{length, take, drop}
use lib.Seq.{take_at, drop_at, length-take-le}
use borrow.Author.Tests.{not-false}
use Rattle.sets.specs.Sets.{bit}
use Rattle.sets.proofs.Bools.{not_so}
use Rattle.hierarchy.specs.Tables.{Tables, Shaped, kind}
use Rattle.hierarchy.specs.Words.{Loops, Managed, Sound}
use Rattle.hierarchy.specs.Words.{Way.edge}
use Rattle.hierarchy.specs.First.{First, Passed}
use Rattle.hierarchy.proofs.FirstLaws.{first_unique, none}
use Rattle.board.specs.Boards.{tables_of, SoundBoard}
use Rattle.board.specs.Rights.{founding_rights, RightsFit}
use Rattle.board.specs.declared.Board.{Board}
use Rattle.board.proofs.Rules.{first_done, first_next}
use Rattle.frames.specs.Frames.{EndsHH, EndsHR, BadFrame}
use Rattle.frames.proofs.Frames.{said}
use Rattle.writer.specs.Files.{from, edge?, edge_bytes, kind_at, founding?, file_of, stretch_of, start_of}
use Rattle.writer.specs.Parts.{tail_length}
use Rattle.writer.specs.Writing.{write_refusals, WriteAnswer}
use Rattle.writer.specs.Writing.{NoRoom.past_end}
use Rattle.writer.proofs.Ascending.{from_short}
use Rattle.writer.proofs.EdgeBytes.{records_length}
use Rattle.writer.proofs.Filed.{file_length}
use Rattle.writer.proofs.FoundingRights.{founding_only, founding_itself}
use Rattle.writer.proofs.OneFile.{file_trailed, same_tables, same_rights}
use Rattle.writer.proofs.InThree.{stretch_is}
use Rattle.boardfile.specs.Faults.{BadRecord}
use Rattle.boardfile.specs.Answers.{IsFile, refusals, ReadAnswer}
use Rattle.boardfile.proofs.Faultless.{Tidy, good_frame, good_records}
use Rattle.boardfile.proofs.Fullest.{edges_few}
use Rattle.boardfile.proofs.OneBoard.{named_by, one_board}
use Rattle.boardfile.proofs.Readings.{kind_known}

-- ---- a file names the tables and the rights of its board

pub one_file : {t t' : Tables} {rights rights' : List ℕ} → Shaped t → Shaped t' → RightsFit t.live rights → RightsFit t'.live rights'
    → file_of t rights ≡ file_of t' rights' → (t ≡ t') × (rights ≡ rights')
one_file s s' r r' e = (same_tables s s' r r' e, same_rights s s' r r' e)

-- it ends in HH exactly where the rights are the founding board's, and else in HR
module _ (t : Tables) (rights : List ℕ) (rows : length rights ≡ 64) where
  ends : (plain : Bool) → founding? rights ≡ plain → cond plain (EndsHH (file_of t rights)) (EndsHR (file_of t rights))
  ends plain e = subst (λ (p : Bool). cond p (EndsHH (file_of t rights)) (EndsHR (file_of t rights))) e (said (founding? rights) (file_trailed t rights)).ends

  pub plain_where : EndsHH (file_of t rights) ↔ (rights ≡ founding_rights)
  plain_where = (
    λ h. founding_only rights rows (not-false (founding? rights) (sym (said (founding? rights) (file_trailed t rights)).which ∙ ap (λ (b : ℕ). eqb b 82) h.1)),
    λ e. ends true (ap founding? e ∙ founding_itself),
  )

  pub rights_where : EndsHR (file_of t rights) ↔ (rights ≢ founding_rights)
  rights_where = (
    λ h e. let p = plain_where.1 e in omega (arith, h.1, p.1),
    λ n. ends false (not_so (founding? rights) (λ e. n (founding_only rights rows e))),
  )

-- ---- a sound board's file

longest : (plain : Bool) (n e : ℕ) → n ≤ 64 → e ≤ 6048 → n + e + tail_length plain n ≤ cond plain 6118 6184
unfolding tail_length
longest true n e l m = omega arith
longest false n e l m = omega arith

longer : (plain : Bool) → cond plain 6118 6184 ≤ 6184
longer true = omega arith
longer false = omega arith

module _ (t : Tables) (sound : Sound t) where
  pub sound_edges : length (from 4096 0 (edge? (kind_at t))) ≤ 2016
  sound_edges = edges_few t sound.loopless

  -- HH's limit, and HR's
  pub sound_limit : (rights : List ℕ) → length (file_of t rights) ≤ cond (founding? rights) 6118 6184
  unfolding edge_bytes
  sound_limit rights =
      let few : length (edge_bytes (kind_at t) 4096 0) ≤ 6048 = omega (arith, records_length (kind_at t) (from 4096 0 (edge? (kind_at t))), sound_edges) in
      subst (λ (n : ℕ). n ≤ cond (founding? rights) 6118 6184) (sym (file_length t rights)) (longest (founding? rights) _ _ (from_short 64 0 (bit t.live)) few)

  pub sound_length : (rights : List ℕ) → length (file_of t rights) ≤ 6184
  sound_length rights = omega (arith, sound_limit rights, longer (founding? rights))

  tidy : Tidy (bit t.live) (kind_at t)
  unfolding kind_at
  tidy = record {
    root = sound.root;
    known = λ e. kind_known t (e / 64) (e % 64);
    fine = λ e h. let w = sound.joined (e / 64) (e % 64) h in record {
      senior_lives = w.0;
      junior_lives = w.1;
      apart = λ q. sound.loopless (e % 64, (_, edge (subst (λ (x : ℕ). kind t x (e % 64) ≢ 0) q h)));
    };
  }

  module _ (rights : List ℕ) (fit : RightsFit t.live rights) where
    pub sound_file : IsFile (file_of t rights) t rights
    sound_file = record { shaped = sound.shaped; rightful = fit; bytes = refl }

    -- it has nothing to refuse,
    passes : Passed (refusals (file_of t rights))
    passes = (
      good_frame t rights tidy (sound_limit rights),
      (good_records t rights tidy fit, (λ w. sound.loopless ((named_by sound_file Loops).1 w), (λ w. (named_by sound_file (λ s. Managed s → ⊥)).1 w sound.managed, tt))),
    )

    -- so whatever the reader may answer, it answers done
    pub reads : {number : ℕ} {board : Board} → ReadAnswer (file_of t rights) number board → number ≡ 0
    reads {number} r = first_unique (refusals (file_of t rights)) number 0 r.numbered (first_next (refusals (file_of t rights)) [] 0 passes none)

-- and this board
pub reads_back : (b : Board) → SoundBoard b → {number : ℕ} {board : Board} → ReadAnswer (file_of (tables_of b) b.rights) number board → (number ≡ 0) × (board ≡ b)
reads_back b sound r =
    let done = reads (tables_of b) sound.sound b.rights sound.rightful r in
    (done, one_board (r.done done) (sound_file (tables_of b) sound.sound b.rights sound.rightful, sound))

-- the reader may give it, and by `reads_back` nothing else
pub sound_reads : (b : Board) → SoundBoard b → ReadAnswer (file_of (tables_of b) b.rights) 0 b
sound_reads b sound =
    let t : Tables = tables_of b in
    let f : List ℕ = file_of t b.rights in record {
      numbered = first_next (refusals f) [] 0 (passes t sound.sound b.rights sound.rightful) none;
      done = λ _. (sound_file t sound.sound b.rights sound.rightful, sound);
      refused = λ n. absurd (n refl);
    }

-- ---- what is accepted

-- done: the bytes are the file of the board that is handed back, which is sound
pub read_file : {f : List ℕ} {board : Board} → ReadAnswer f 0 board → (f ≡ file_of (tables_of board) board.rights) × SoundBoard board
read_file r = let w = r.done refl in (w.0.bytes, w.1)

-- so the accepted bytes are the files of sound tables and rights that fit them, and no others
pub accepted : {f : List ℕ} {number : ℕ} {board : Board} → ReadAnswer f number board
    → (number ≡ 0) ↔ ((t : Tables) × ((rights : List ℕ) × (f ≡ file_of t rights) × Sound t × RightsFit t.live rights))
accepted {f} {number} {board} r = (
  λ e. let w = r.done e in (tables_of board, (board.rights, w.0.bytes, w.1.sound, w.1.rightful)),
  λ w. let p = w.1 in reads w.0 p.2 p.0 p.3 (subst (λ (g : List ℕ). ReadAnswer g number board) p.1 r),
)

-- bytes with neither fault are the file of some tables and rights
pub faultless_file : {f : List ℕ} {number : ℕ} {board : Board} → ReadAnswer f number board → (BadFrame f → ⊥) → (BadRecord f → ⊥)
    → (t : Tables) × ((rights : List ℕ) × IsFile f t rights)
unfolding First
faultless_file {board = board} r frame record' = ⊎_elim
    (λ p. absurd (frame p.0))
    (λ p. ⊎_elim
    (λ q. absurd (record' q.0))
    (λ q. ⊎_elim
    (λ l. (l.0.0, l.0.1))
    (λ l. ⊎_elim (λ m. (m.0.0, m.0.1)) (λ m. (tables_of board, (board.rights, (r.done m.1).0))) l.1)
    q.1)
    p.1)
    r.numbered

-- ---- what is written

-- the bytes at the place, so many as the writer says, are the file of the board; reading them gives the board back
pub written_file : {b : Board} {entry exit : List ℕ} {at len : ℕ} → WriteAnswer b entry at exit 0 len → take len (drop at exit) ≡ file_of (tables_of b) b.rights
written_file {b} {entry} {exit} {at} {len} w =
    let passed = first_done (write_refusals b entry at) refl w.numbered in
    let d = w.done refl in
    let within : length entry < at → ⊥ = λ h. passed.1.0 (past_end h) in
    let l : at ≤ length entry = omega (arith, within) in
    let f : List ℕ = file_of (tables_of b) b.rights in
    let rest : List ℕ = drop (at + length f) entry in
    ap (λ (o : List ℕ). take len (drop at o)) (d.1 ∙ append_assoc (take at entry) f rest)
    ∙ ap (take len) (drop_at (take at entry) (f ++ rest) at (length-take-le at entry l))
    ∙ take_at f rest len (sym d.0)

pub written_reads_back : {b : Board} {entry exit : List ℕ} {at len number : ℕ} {board : Board}
    → WriteAnswer b entry at exit 0 len → SoundBoard b → ReadAnswer (take len (drop at exit)) number board → (number ≡ 0) × (board ≡ b)
written_reads_back {b} {number = number} {board = board} w sound r = reads_back b sound (subst (λ (f : List ℕ). ReadAnswer f number board) (written_file w) r)

-- ---- the stretch of one senior

-- the part of the file from where the senior's records begin to where the next one's do is these records
pub stretch_part : (t : Tables) (rights : List ℕ) (s : ℕ) → s < 64 → take (start_of t (s + 1) - start_of t s) (drop (start_of t s) (file_of t rights)) ≡ stretch_of t s
stretch_part = stretch_is
