-- From the sizes and the bytes put to the writer's answer. Assumes nothing.
use mathlib.Core.Path.{◌≡◌, refl, sym, ap, ◌∙◌}
use mathlib.Core.Bool.{Bool, true, false, not}
use mathlib.Core.Logic.{inl, inr}
use mathlib.Core.List.{List, ◌++◌}
use Prim.Native.Nat.{ℕ, ◌+◌, ◌-◌, ◌*◌, ◌≤◌}
use native.Mathlib.Omega.{arith}
use lib.ListN.{length, take, drop, length-append, take-append-drop}
use lib.Seq.{length-take-le}
use borrow.Rule.Slice.PartMut.{mid_of, put_mid}
use Rattle.sets.specs.Sets.{bit}
use Rattle.hierarchy.specs.Tables.{Tables}
use Rattle.hierarchy.specs.First.{First}
use Rattle.board.specs.Boards.{tables_of, SoundBoard}
use Rattle.board.specs.declared.Board.{Board}
use Rattle.frames.specs.Frames.{trailer, rights_trailer}
use Rattle.frames.specs.declared.Layout.{Layout}
use Rattle.frames.specs.Framing.{body_length, trailer_of}
use Rattle.writer.specs.Files.{from, edge?, edge_bytes, kind_at, founding?, file_of}
use Rattle.writer.specs.Parts.{Laid, tail_length, Put, Room, PutAnswer}
use Rattle.writer.specs.Writing.{NoRoom, WriteAnswer}
use Rattle.writer.specs.Writing.{NoRoom.past_end, NoRoom.too_few}
use Rattle.writer.proofs.Ascending.{from_short}
use Rattle.writer.proofs.EdgeBytes.{records_length, roles_of, edges_of}
use Rattle.writer.proofs.OneFile.{file_trailed}
use Rattle.writer.proofs.Puts.{put_last, rest_long}

-- ---- the sizes

frame_long : (plain : Bool) (n e : ℕ) → body_length plain n e + length (trailer_of plain n e) ≡ n + e + tail_length plain n
unfolding body_length trailer_of trailer rights_trailer tail_length
frame_long true n e = refl
frame_long false n e = omega arith

-- a file is as long as its parts
pub file_length : (t : Tables) (rights : List ℕ) → length (file_of t rights) ≡ length (roles_of t rights) + length (edges_of t rights) + tail_length (founding? rights) (length (roles_of t rights))
file_length t rights = (file_trailed t rights).long ∙ frame_long (founding? rights) (length (roles_of t rights)) (length (edges_of t rights))

module _ (t : Tables) (rights : List ℕ) {l : Layout} (laid : Laid t rights l) where
  pub sizes_few : (l.roles ≤ 64) × (l.edges ≤ 4096)
  sizes_few = (omega (arith, laid.roles, from_short 64 0 (bit t.live)), omega (arith, laid.edges, from_short 4096 0 (edge? (kind_at t))))

  records_are : 3 * l.edges ≡ length (edge_bytes (kind_at t) 4096 0)
  unfolding edge_bytes
  records_are = ap (λ (m : ℕ). 3 * m) laid.edges ∙ sym (records_length (kind_at t) (from 4096 0 (edge? (kind_at t))))

  pub file_long : l.roles + 3 * l.edges + tail_length (not l.rights) l.roles ≡ length (file_of t rights)
  file_long = rw (laid.which, laid.roles, records_are) (sym (file_length t rights))

  pub file_room : (out : List ℕ) (at : ℕ) → l.roles + 3 * l.edges + tail_length (not l.rights) l.roles ≤ length out - at
      → Room t rights (not l.rights) l.roles (3 * l.edges) (mid_of at (length out - at) out)
  file_room out at h = record { which = laid.which; role_bytes = laid.roles; edge_bytes_lem = records_are; enough = omega (arith, rest_long at out) }

-- ---- the answers

pub unsound_file : {b : Board} {entry : List ℕ} {at : ℕ} → (SoundBoard b → ⊥) → WriteAnswer b entry at entry 1 0
unfolding First
unsound_file h = record { numbered = inl (h, refl); done = λ e. absurd (omega arith); refused = λ _. (refl, refl) }

module _ {file : List ℕ} {entry : List ℕ} {at : ℕ} where
  pub no_room : NoRoom file entry at → PutAnswer file entry at entry 12 0
  unfolding First
  no_room h = record { numbered = inl (h, refl); done = λ e. absurd (omega arith); refused = λ _. (refl, refl) }

  pub filed : (len : ℕ) → len ≡ length file → at ≤ length entry → len ≤ length entry - at
      → (part : List ℕ) → Put file (mid_of at (length entry - at) entry) part → PutAnswer file entry at (put_mid at (length entry - at) entry part) 0 len
  unfolding First
  filed len e l h part p = record { numbered = inr (room, refl); done = λ _. (e, bytes); refused = λ n. absurd (n refl) }
    where
      room : NoRoom file entry at → ⊥
      room (past_end g) = omega arith
      room (too_few g) = omega arith

      front : length (take at entry) ≡ at
      front = length-take-le at entry l

      bytes : put_mid at (length entry - at) entry part ≡ take at entry ++ file ++ drop (at + length file) entry
      bytes =
          put_last (take at entry) file entry entry part at
          (sym (take-append-drop at entry) ∙ ap (λ (n : ℕ). take at entry ++ drop n entry) (sym front)) (sym front) (omega arith) p
          ∙ ap (λ (n : ℕ). take at entry ++ file ++ drop n entry) (length-append (take at entry) file ∙ ap (λ (n : ℕ). n + length file) front)

-- of a sound board, what `put` answers `write` may answer
pub put_writes : {b : Board} {entry exit : List ℕ} {at number len : ℕ} → SoundBoard b → PutAnswer (file_of (tables_of b) b.rights) entry at exit number len → WriteAnswer b entry at exit number len
unfolding First
put_writes sound p = record { numbered = inr (λ n. n sound, p.numbered); done = p.done; refused = p.refused }
