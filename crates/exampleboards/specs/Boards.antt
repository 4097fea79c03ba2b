-- The boards of the examples by their tables, and commands as document 01's table of commands names their fields. P, W and L are document 01's.
use Rattle.std.specs.Prelude.{◌≡◌, List, ◌∷◌, ℕ, replicate}
use Rattle.hierarchy.specs.Tables.{Tables}
use Rattle.board.specs.Boards.{tables_of}
use Rattle.board.specs.declared.Board.{Board}
use Rattle.board.specs.declared.Command.{Command}

-- A set of roles is written in binary, role 0 at the right end. The rows of a table start with role 0's.

-- 0 I 1, 1 I 2, 1 A 3
unfoldable pub P : Tables
P = record { live = 0b1111; i = 0b0010 ∷ 0b0100 ∷ replicate 62 0; a = 0 ∷ 0b1000 ∷ replicate 62 0 }

-- 0 I 1, 0 I 2, 0 I 3, 1 A 3, 1 A 4, 3 A 5, 4 A 5
unfoldable pub W : Tables
W = record { live = 0b111111; i = 0b001110 ∷ replicate 63 0; a = 0 ∷ 0b011000 ∷ 0 ∷ 0b100000 ∷ 0b100000 ∷ replicate 59 0 }

-- 0 I 1, 1 I 2, 2 A 3, 0 A 3
unfoldable pub L : Tables
L = record { live = 0b1111; i = 0b0010 ∷ 0b0100 ∷ replicate 62 0; a = 0b1000 ∷ 0 ∷ 0b1000 ∷ replicate 61 0 }

-- 0 I 1, the board of request 2's examples
unfoldable pub E : Tables
E = record { live = 0b11; i = 0b10 ∷ replicate 63 0; a = replicate 64 0 }

-- 0 I 1, 1 A 3, 3 I 4, 0 I 4, a board of request 3's examples: role 0 is in the way of 3 at 4. Role 2 is not live.
unfoldable pub F : Tables
F = record { live = 0b11011; i = 0b10010 ∷ 0 ∷ 0 ∷ 0b10000 ∷ replicate 60 0; a = 0 ∷ 0b01000 ∷ replicate 62 0 }

-- Request 4: on each of these boards roles 0 and 1 hold all five rights to begin with.
abbrev pub start_rights : List ℕ
start_rights = 31 ∷ 31 ∷ replicate 62 0

-- b is a board of these tables and rights
pub record Of (t : Tables) (rights : List ℕ) (b : Board) : Type 0 where
  pub tables_are : tables_of b ≡ t
  pub rights_are : b.rights ≡ rights

-- the kinds by their letters
abbrev pub I : ℕ
I = 1

abbrev pub A : ℕ
A = 2

abbrev pub IA : ℕ
IA = 3

-- The commands of the examples. What a command does not use is 0.

-- a role added between seniors and juniors; under seniors alone
abbrev pub add_between : (actor role a_seniors i_seniors a_juniors i_juniors : ℕ) → Command
add_between actor role a_seniors i_seniors a_juniors i_juniors = record {
  code = 1;
  actor = actor;
  role = role;
  junior = 0;
  kind = 0;
  rights = 0;
  a_seniors = a_seniors;
  i_seniors = i_seniors;
  a_juniors = a_juniors;
  i_juniors = i_juniors;
}

abbrev pub add_role : (actor role a_seniors i_seniors : ℕ) → Command
add_role actor role a_seniors i_seniors = add_between actor role a_seniors i_seniors 0 0

-- the others, which name no sets; a code above 7 is no command's
abbrev pub command : (code actor role junior kind rights : ℕ) → Command
command code actor role junior kind rights = record {
  code = code;
  actor = actor;
  role = role;
  junior = junior;
  kind = kind;
  rights = rights;
  a_seniors = 0;
  i_seniors = 0;
  a_juniors = 0;
  i_juniors = 0;
}

abbrev pub remove_role : (actor role : ℕ) → Command
remove_role actor role = command 2 actor role 0 0 0

abbrev pub add_edge : (actor senior junior kind : ℕ) → Command
add_edge actor senior junior kind = command 3 actor senior junior kind 0

abbrev pub remove_edge : (actor senior junior kind : ℕ) → Command
remove_edge actor senior junior kind = command 4 actor senior junior kind 0

abbrev pub change_edge : (actor senior junior kind : ℕ) → Command
change_edge actor senior junior kind = command 5 actor senior junior kind 0

-- rights are written in binary too, that of command 1 at the right end
abbrev pub give_rights : (actor role rights : ℕ) → Command
give_rights actor role = command 6 actor role 0 0

abbrev pub take_rights : (actor role rights : ℕ) → Command
take_rights actor role = command 7 actor role 0 0
