-- Document 01's examples and those of the requests in one table. An entry is a stage, which stands for the tables and the rights of a board,
-- and facts: what it says of that board, in the words of the definitions. Each has a test that can be run.
-- `Rattle.exampleboards.proofs.Theorem` has the theorem: every entry holds.
use Rattle.std.specs.Prelude.{◌≡◌, ◌↔◌, Bool, true, false, not, ◌&&◌, List, [], ◌∷◌, ℕ, zero, suc, eqb}
use Rattle.std.specs.Bool.{beq}
use Rattle.sets.specs.Sets.{◌is_in◌, set_of}
use Rattle.hierarchy.specs.Tables.{Tables, kind}
use Rattle.hierarchy.specs.Words.{Derives, Scope, OutOfScope, Administrator, LineManager, Loops, Sound, Climb}
use Rattle.hierarchy.specs.First.{First}
use Rattle.hierarchy.specs.Compute.{any, derives?, scope?, out_of_scope?, admin?, manager?, loops?, shaped?}
use Rattle.board.specs.Boards.{KeepsRight}
use Rattle.board.specs.Rights.{rights_of, RightsFit}
use Rattle.board.specs.declared.Board.{Board}
use Rattle.board.specs.declared.Command.{Command}
use Rattle.effects.specs.Effects.{after}
use Rattle.refusals.specs.Refusals.{Blames}
use Rattle.commands.specs.RightsAfter.{rights_after}
use Rattle.commands.specs.Commands.{refusals}
use Rattle.exampleboards.specs.Boards.{P, W, L, E, F, start_rights, Of, I, A, IA, command, add_between, add_role, remove_role, add_edge, remove_edge, change_edge, give_rights, take_rights}
use Rattle.exampleboards.specs.Answer.{left, rights_left, in_order?, malformed?, answer?, blames?, fits?}

-- ---- stages and facts, and what they mean

-- tables with the rights to begin with, or what a command would leave of a stage
infixl 5 ◌then◌
pub data Stage : Type 0 where
  on : Tables → Stage
  ◌then◌ : Stage → Command → Stage

abbrev pub tables_at : Stage → Tables
tables_at (on t) = t
tables_at (s then c) = after (tables_at s) c

abbrev pub rights_at : Stage → List ℕ
rights_at (on t) = start_rights
rights_at (s then c) = rights_after c (rights_at s)

pub data Fact : Type 0 where
  sound : Fact
  derives : (x y : ℕ) → Bool → Fact
  scope : (a set : ℕ) → Fact
  manager : (r m : ℕ) → Fact
  steps : (r n : ℕ) → Fact
  alone : (r : ℕ) → Fact
  loops : Fact
  edge : (x y k : ℕ) → Fact
  rights : (r set : ℕ) → Fact
  gives : Command → (n : ℕ) → Fact
  blames : Command → (who cause way : ℕ) → Fact
  bars : (a r cause way : ℕ) → Fact
  same : Tables → Fact

abbrev pub Holds : Tables → List ℕ → Fact → Type 0
Holds t held sound = Sound t × RightsFit t.live held
-- x derives y, or it does not
Holds t held (derives x y true) = Derives t x y
Holds t held (derives x y false) = Derives t x y → ⊥
-- the scope of a is just this set
Holds t held (scope a set) = (r : ℕ) → Scope t a r ↔ (r is_in set)
-- the line manager of r is m
Holds t held (manager r m) = LineManager t m r
-- from r up to role 0 by line managers it is n steps
Holds t held (steps r n) = Climb t r n
-- r has no administrator
Holds t held (alone r) = (a : ℕ) → Administrator t a r → ⊥
-- some role reaches itself
Holds t held loops = Loops t
-- the edge from x to y is of kind k
Holds t held (edge x y k) = kind t x y ≡ k
-- the rights of r are these
Holds t held (rights r set) = rights_of held r ≡ set
-- on every board of these tables and rights whose kept values are right the command gives the number n
Holds t held (gives c n) = (b : Board) → Of t held b → KeepsRight b → First (refusals b c) n
-- there it gives 6, and its answer names the role that offends, the cause and the role in the way
Holds t held (blames c who cause way) = (b : Board) → Of t held b → KeepsRight b
    → First (refusals b c) 6 × Blames (Scope t) (OutOfScope t) c (record { number = 6; who = who; cause = cause; way = way })
-- r is not in the scope of a, for this cause and with this role in the way
Holds t held (bars a r cause way) = OutOfScope t a r cause way
-- it is these tables, with the rights to begin with
Holds t held (same d) = (t ≡ d) × (held ≡ start_rights)

-- all of them
abbrev pub Hold : Tables → List ℕ → List Fact → Type 0
Hold t held [] = Unit {0}
Hold t held (f ∷ fs) = Holds t held f × Hold t held fs

-- ---- the tests

-- the tables and the rights of a stage, computed; and whether the tables that it begins with, and its commands, have their shape
unfoldable pub reached : Stage → Tables
reached (on t) = t
reached (s then c) = left (reached s) c

unfoldable pub rights_reached : Stage → List ℕ
rights_reached (on t) = start_rights
rights_reached (s then c) = rights_left c (rights_reached s)

unfoldable pub formed? : Stage → Bool
formed? (on t) = shaped? t
formed? (s then c) = formed? s && not (malformed? c)

unfoldable pub climbs? : Tables → ℕ → ℕ → Bool
climbs? t zero r = eqb r 0
climbs? t (suc n) r = any 64 (λ m. manager? t m r && climbs? t n m)

unfoldable pub rows? : List ℕ → List ℕ → Bool
rows? [] [] = true
rows? [] (y ∷ ys) = false
rows? (x ∷ xs) [] = false
rows? (x ∷ xs) (y ∷ ys) = eqb x y && rows? xs ys

-- `ok` is whether tables and rights are a sound board's: it is worked out once for a stage, and the numbers of commands stand on it
unfoldable pub holds? : Tables → List ℕ → (ok : Bool) → Fact → Bool
holds? t held ok sound = ok
holds? t held ok (derives x y so) = beq (derives? t x y) so
holds? t held ok (scope a set) = eqb (set_of (scope? t a)) set
holds? t held ok (manager r m) = manager? t m r
holds? t held ok (steps r n) = climbs? t n r
holds? t held ok (alone r) = not (any 64 (λ a. admin? t a r))
holds? t held ok loops = loops? t
holds? t held ok (edge x y k) = eqb (kind t x y) k
holds? t held ok (rights r set) = eqb (rights_of held r) set
holds? t held ok (gives c n) = ok && (fits? c && eqb (answer? t held c) n)
holds? t held ok (blames c who cause way) = ok && (fits? c && (eqb (answer? t held c) 6 && blames? t c who cause way))
holds? t held ok (bars a r cause way) = out_of_scope? t a r cause way
holds? t held ok (same d) = eqb t.live d.live && (rows? t.i d.i && (rows? t.a d.a && rows? held start_rights))

unfoldable pub hold? : Tables → List ℕ → Bool → List Fact → Bool
hold? t held ok [] = true
hold? t held ok (f ∷ fs) = holds? t held ok f && hold? t held ok fs

unfoldable pub right? : Stage → List Fact → Bool
right? s fs = let t = reached s in let held = rights_reached s in let ok = in_order? t held in formed? s && hold? t held ok fs

unfoldable pub every? : List (Stage × List Fact) → Bool
every? [] = true
every? (e ∷ rest) = right? e.0 e.1 && every? rest

-- ---- the table, its answers worked out by hand from the documents

unfoldable pub table : List (Stage × List Fact)
table =
    -- P: who derives, scopes, line managers, steps
    (
      on P,
      sound
          ∷ derives 0 2 true
          ∷ derives 0 3 false
          ∷ scope 0 0b0111
          ∷ scope 1 0b1110
          ∷ manager 1 0
          ∷ manager 2 1
          ∷ manager 3 1
          ∷ steps 3 2
          -- 1 to 3 into I, by role 0 and by role 1
          ∷ blames (change_edge 0 1 3 I) 3 1 0
          ∷ gives (change_edge 1 1 3 I) 0
          -- a role 4 with the A-senior 1, with the I-senior 1, with none
          ∷ gives (add_role 0 4 0b0010 0) 8
          ∷ gives (add_role 0 4 0 0b0010) 0
          ∷ gives (add_role 0 4 0 0) 8
          -- roles removed
          ∷ gives (remove_role 0 1) 9
          ∷ blames (remove_role 0 0) 0 3 0
          ∷ gives (remove_role 1 2) 0
          -- edges that would close a loop, the first of them out of scope besides
          ∷ blames (add_edge 0 3 0 I) 3 1 0
          ∷ gives (add_edge 0 2 1 I) 7
          ∷ gives (add_edge 0 1 1 I) 7
          -- roles 63 and 64; kinds 0 and 4
          ∷ gives (add_role 0 63 0 0b0010) 0
          ∷ gives (add_role 0 64 0 0b0010) 2
          ∷ gives (add_edge 0 0 2 0) 2
          ∷ gives (add_edge 0 0 2 4) 2
          -- request 2: an edge that is not there, and one more
          ∷ gives (remove_edge 0 0 2 I) 5
          ∷ gives (add_edge 0 0 2 I) 0
          -- request 3: who is out of scope; juniors in two sets
          ∷ bars 0 3 1 0
          ∷ blames (add_between 0 4 0b1000 0 0b0001 0) 3 1 0
          ∷ blames (add_between 0 4 0 0 0b1000 0b0001) 3 1 0
          ∷ blames (add_between 0 4 0 0 0b0001 0b1000) 0 3 0
          -- request 4: role 2 has no right to use or to hand on, and 13 goes before 6; the byte 0 anyone may hand on, within its scope
          ∷ gives (give_rights 1 2 0b00110) 0
          ∷ gives (give_rights 2 2 0b00001) 13
          ∷ gives (give_rights 2 3 0b00001) 13
          ∷ gives (remove_role 2 3) 13
          ∷ gives (give_rights 2 2 0) 0
          ∷ blames (give_rights 2 3 0) 3 1 0
          -- out of scope alone
          ∷ blames (give_rights 0 3 0b00001) 3 1 0
          ∷ blames (take_rights 0 3 0b00001) 3 1 0
          -- a byte above 31, and a code above 7
          ∷ gives (give_rights 1 2 31) 0
          ∷ gives (give_rights 1 2 32) 2
          ∷ gives (take_rights 1 2 32) 2
          ∷ gives (command 8 0 1 0 0 31) 2
          -- what stages below begin with
          ∷ gives (take_rights 0 1 0b10000) 0
          ∷ gives (give_rights 1 3 0b00001) 0
          ∷ gives (give_rights 1 2 0b00100) 0
          ∷ [],
    )
    -- what these would leave: role 3 derived; role 2 gone, and added again; a loop; an edge that goes with its last part
    ∷ (on P then change_edge 1 1 3 I, derives 0 3 true ∷ [])
    ∷ (on P then remove_role 1 2, gives (add_role 1 2 0 0b0010) 0 ∷ [])
    ∷ (on P then remove_role 1 2 then add_role 1 2 0 0b0010, same P ∷ [])
    ∷ (on P then add_edge 0 3 0 I, loops ∷ [])
    ∷ (on P then add_edge 0 0 2 I, gives (remove_edge 0 0 2 I) 0 ∷ [])
    ∷ (on P then add_edge 0 0 2 I then remove_edge 0 0 2 I, same P ∷ [])
    -- L: a loop that deriving does not show
    ∷ (on L, sound ∷ gives (add_edge 0 3 1 I) 7 ∷ derives 1 3 false ∷ [])
    -- W: the edge 2 to 3 by A leaves role 5 alone; by I it is fine and moves a line manager, and then it cannot turn into A or get that part
    ∷ (on W, sound ∷ manager 3 1 ∷ gives (add_edge 0 2 3 A) 9 ∷ gives (add_edge 0 2 3 I) 0 ∷ bars 4 5 2 3 ∷ gives (give_rights 1 4 0b10000) 0 ∷ [])
    ∷ (on W then add_edge 0 2 3 A, alone 5 ∷ [])
    ∷ (on W then add_edge 0 2 3 I, manager 3 0 ∷ gives (change_edge 0 2 3 A) 9 ∷ gives (add_edge 0 2 3 A) 9 ∷ [])
    -- request 2: the A part added to I gives both, the I part removed again leaves A, which lacks a part of IA and has all of A
    ∷ (on E, gives (add_edge 0 0 1 A) 0 ∷ gives (remove_edge 0 0 1 0) 2 ∷ gives (remove_edge 0 0 1 4) 2 ∷ [])
    ∷ (on E then add_edge 0 0 1 A, edge 0 1 IA ∷ gives (remove_edge 0 0 1 I) 0 ∷ [])
    ∷ (
      on E then add_edge 0 0 1 A then remove_edge 0 0 1 I,
      edge 0 1 A
          ∷ gives (remove_edge 0 0 1 IA) 5
          ∷ gives (add_edge 0 0 1 A) 4
          ∷ gives (add_edge 0 0 1 IA) 0
          ∷ gives (remove_edge 0 0 1 A) 9
          ∷ [],
    )
    ∷ (on E then add_edge 0 0 1 A then remove_edge 0 0 1 I then add_edge 0 0 1 IA, edge 0 1 IA ∷ [])
    -- request 3: a role in the way, which may be 0; a senior and a junior that offend. Each actor is given the right that it needs.
    ∷ (on W then give_rights 1 4 0b10000, blames (change_edge 4 4 5 I) 5 2 3 ∷ blames (give_rights 4 5 0b10000) 5 2 3 ∷ [])
    ∷ (on F, sound ∷ bars 3 4 2 0 ∷ gives (give_rights 1 3 0b00010) 0 ∷ [])
    ∷ (on F then give_rights 1 3 0b00010, blames (remove_role 3 4) 4 2 0 ∷ [])
    ∷ (on P then give_rights 1 2 0b00100, blames (add_edge 2 3 0 I) 3 1 0 ∷ [])
    -- request 4: rights given, more of them given, some taken; they go with the role, and a new one has none
    ∷ (on P then give_rights 2 2 0, same P ∷ [])
    ∷ (
      on P then give_rights 1 2 0b00110,
      sound
          ∷ rights 2 0b00110
          ∷ gives (give_rights 1 2 0b01010) 0
          ∷ gives (take_rights 1 2 0b00011) 0
          ∷ gives (remove_role 1 2) 0
          ∷ [],
    )
    ∷ (on P then give_rights 1 2 0b00110 then give_rights 1 2 0b01010, rights 2 0b01110 ∷ [])
    ∷ (on P then give_rights 1 2 0b00110 then take_rights 1 2 0b00011, rights 2 0b00100 ∷ [])
    ∷ (on P then give_rights 1 2 0b00110 then remove_role 1 2, sound ∷ rights 2 0 ∷ gives (add_role 1 2 0 0b0010) 0 ∷ [])
    ∷ (on P then give_rights 1 2 0b00110 then remove_role 1 2 then add_role 1 2 0 0b0010, same P ∷ [])
    ∷ (on P then add_role 0 4 0 0b0010, sound ∷ rights 4 0 ∷ rights 1 31 ∷ [])
    -- what role 1 lost it may not use or hand on, though its senior still may
    ∷ (
      on P then take_rights 0 1 0b10000,
      gives (change_edge 1 1 3 I) 13
          ∷ gives (give_rights 1 2 0b10001) 13
          ∷ gives (take_rights 1 1 0b10000) 13
          ∷ gives (give_rights 1 2 0b01111) 0
          ∷ gives (give_rights 0 1 0b10000) 0
          ∷ [],
    )
    -- role 1 has lost a right and derives role 3, which holds it; role 0 takes its own, and reaches role 3 but does not derive it
    ∷ (on P then give_rights 1 3 0b00001, gives (take_rights 0 1 0b00001) 0 ∷ [])
    ∷ (on P then give_rights 1 3 0b00001 then take_rights 0 1 0b00001, gives (add_role 1 4 0 0b0010) 0 ∷ gives (give_rights 1 2 0b00001) 0 ∷ gives (take_rights 0 0 0b00001) 0 ∷ [])
    ∷ (
      on P then give_rights 1 3 0b00001 then take_rights 0 1 0b00001 then take_rights 0 0 0b00001,
      rights 0 0b11110
          ∷ gives (add_role 0 4 0 0b0010) 13
          ∷ gives (give_rights 0 0 0b00001) 13
          ∷ gives (add_edge 0 0 2 I) 0
          ∷ gives (add_role 1 4 0 0b0010) 0
          ∷ [],
    )
    ∷ []
