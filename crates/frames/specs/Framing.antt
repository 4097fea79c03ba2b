-- What the reader of a frame promises: document 01's fault, or how many role bytes and edge records there are, and whether rights bytes.
use Rattle.std.specs.Prelude.{◌≡◌, Result, Ok, Err, Bool, cond, not, List, ℕ, ◌+◌, ◌*◌, ◌≤◌, length, drop}
use Rattle.frames.specs.Frames.{trailer, rights_trailer, edges_back, role_count, edge_count, BadFrame}
use Rattle.board.specs.declared.answers.Refusal.{Refusal}
use Rattle.board.specs.declared.answers.Refusal.TheVariants as refusal
use Rattle.frames.specs.declared.Layout.{Layout}

-- ---- the frame

-- what lies behind n role bytes and e bytes of edge records up to the trailer, and the trailer: HH's where `plain`, else HR's
unfoldable pub body_length : Bool → ℕ → ℕ → ℕ
body_length plain n e = cond plain (n + e) (n + e + n)

unfoldable pub trailer_of : Bool → ℕ → ℕ → List ℕ
trailer_of plain n e = cond plain (trailer e (n + e)) (rights_trailer n (edges_back n e) (n + e + n))

-- a file that has n role bytes and e bytes of edge records by its length and its trailer
pub record Trailed (plain : Bool) (f : List ℕ) (n e : ℕ) : Type 0 where
  pub long : length f ≡ body_length plain n e + length (trailer_of plain n e)
  pub tail : drop (body_length plain n e) f ≡ trailer_of plain n e

-- a frame without fault, with n role bytes and m edge records, and rights bytes or none
pub record GoodFrame (f : List ℕ) (n m : ℕ) (rights : Bool) : Type 0 where
  pub faultless : BadFrame f → ⊥
  pub some : 1 ≤ n
  pub few : n ≤ 64
  pub trailed : Trailed (not rights) f n (3 * m)

abbrev pub Framing : List ℕ → Result Layout Refusal → Type 0
Framing f (Ok r) = GoodFrame f r.roles r.edges r.rights
Framing f (Err e) = BadFrame f × (e ≡ refusal.BadFrame)

-- what the records' readers need of it
pub record Announced (f : List ℕ) (n m : ℕ) : Type 0 where
  pub roles : role_count f ≡ n
  pub edges : edge_count f ≡ m
  pub room : n + 3 * m ≤ length f
