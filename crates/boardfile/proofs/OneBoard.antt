-- No two boards have one file. Assumes nothing.
use mathlib.Core.Path.{◌≡◌, sym, ◌∙◌, subst}
use mathlib.Core.Logic.{◌↔◌}
use mathlib.Core.List.{List}
use Prim.Native.Nat.{ℕ}
use Rattle.hierarchy.specs.Tables.{Tables}
use Rattle.board.specs.Boards.{tables_of, SoundBoard}
use Rattle.board.specs.declared.Board.{Board}
use Rattle.board.proofs.Unique.{one_board as one-sound-board}
use Rattle.writer.proofs.OneFile.{same_tables, same_rights}
use Rattle.boardfile.specs.Answers.{IsFile, TablesIn}

-- a file is the file of one board's tables and rights
pub one_tables : {f : List ℕ} {t t' : Tables} {rights rights' : List ℕ} → IsFile f t rights → IsFile f t' rights' → t ≡ t'
one_tables h h' = same_tables h.shaped h'.shaped h.rightful h'.rightful (sym h.bytes ∙ h'.bytes)

pub one_rights : {f : List ℕ} {t t' : Tables} {rights rights' : List ℕ} → IsFile f t rights → IsFile f t' rights' → rights ≡ rights'
one_rights h h' = same_rights h.shaped h'.shaped h.rightful h'.rightful (sym h.bytes ∙ h'.bytes)

-- so what holds of the tables is what holds of any that have this file
pub named_by : {f : List ℕ} {t : Tables} {rights : List ℕ} → IsFile f t rights → (P : Tables → Type 0) → P t ↔ TablesIn f P
named_by {t = t} {rights = rights} is P = (λ h. (t, (rights, is), h), λ w. subst P (one_tables w.1.1 is) w.2)

-- and a sound board is the only one with its file
pub one_board : {f : List ℕ} {b c : Board} → IsFile f (tables_of b) b.rights × SoundBoard b → IsFile f (tables_of c) c.rights × SoundBoard c → b ≡ c
one_board p q = one-sound-board p.1 q.1 (one_tables p.0 q.0) (one_rights p.0 q.0)
