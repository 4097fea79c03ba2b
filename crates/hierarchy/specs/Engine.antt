-- What the steps of the engine behind the views and the line managers promise each other. No promise of a public function speaks of these.
use Rattle.std.specs.Prelude.{◌≡◌, ◌⊎◌, ◌↔◌, ◌≢◌, Bool, true, false, ◌&&◌, ◌||◌, List, ℕ, ◌<◌, length}
use Rattle.sets.specs.Sets.{bit, ◌is_in◌, ◌are_in◌, same?}
use Rattle.hierarchy.specs.Tables.{Tables, row}
use Rattle.hierarchy.specs.declared.working.Kept.{Kept}
use Rattle.hierarchy.specs.Words.{Chain, Derives, Administrator, LineManager}
use Rattle.hierarchy.specs.Views.{AreViews, InOrder, LiveLoops, manager_at}

-- an entry of either table
abbrev pub Entry : List ℕ → List ℕ → ℕ → ℕ → Type 0
Entry i a x y = (y is_in row i x) ⊎ (y is_in row a x)

-- z is in the row of a role of s
pub record InRows (table : List ℕ) (s z : ℕ) : Type 0 where
  pub of : ℕ
  pub member : of is_in s
  pub on : z is_in row table of

-- through the table x leads to a role that has z as its own
pub record Spread (table : List ℕ) (Own : ℕ → ℕ → Type 0) (x z : ℕ) : Type 0 where
  pub at : ℕ
  pub chain : Chain table x at
  pub on : Own at z

-- by I alone, where every role has itself as its own; by A and from there by I a role has as its own what it leads to by I
abbrev pub ByI : List ℕ → ℕ → ℕ → Type 0
ByI i = Spread i (λ x z. x ≡ z)

-- r is now the row of x: what it has as its own, and the rows of its juniors; the others are as they were
pub record RowSettled (table old : List ℕ) (x own r : ℕ) (reach : List ℕ) : Type 0 where
  pub rows : length reach ≡ 64
  pub is : row reach x ≡ r
  pub here : (z : ℕ) → (z is_in r) ↔ ((z is_in own) ⊎ InRows old (row table x) z)
  pub others : (y : ℕ) → (y ≡ x → ⊥) → row reach y ≡ row old y

-- the rows of the roles that are done are right, the others blank
pub record RightRows (table : List ℕ) (Own : ℕ → ℕ → Type 0) (reach : List ℕ) (done : ℕ) : Type 0 where
  pub rows : length reach ≡ 64
  pub right : (x : ℕ) → x is_in done → (z : ℕ) → (z is_in row reach x) ↔ Spread table Own x z
  pub blank : (x : ℕ) → bit done x ≡ false → row reach x ≡ 0

-- no way down from x goes on for ever
pub data Founded (i a : List ℕ) : ℕ → Type 0 where
  founded : {x : ℕ} → ((y : ℕ) → Entry i a x y → Founded i a y) → Founded i a x

-- While the walk goes on, row x of `derivers` has what x leads to by I alone, row x of `derives` what it leads to at all, and `manager` is
-- room for a path. Both are right so far; juniors of roles that are done are done, and no way down from these goes on for ever.
pub record Right (t : Tables) (kept : Kept) (done : ℕ) : Type 0 where
  pub i_rows : RightRows t.i (λ x z. x ≡ z) kept.derivers done
  pub a_rows : RightRows t.a (ByI t.i) kept.derives done
  pub closed : (x y : ℕ) → x is_in done → Entry t.i t.a x y → y is_in done
  pub ends : (x : ℕ) → x is_in done → Founded t.i t.a x

-- x can be settled: its juniors are done
pub record Ready (t : Tables) (kept : Kept) (done x : ℕ) : Type 0 where
  pub right : Right t kept done
  pub role : x < 64
  pub below : (y : ℕ) → Entry t.i t.a x y → y is_in done

-- x is done too, and rightly; the path stands
pub record Finished (t : Tables) (before kept : Kept) (done x r : ℕ) : Type 0 where
  pub right : Right t kept r
  pub done_is : (y : ℕ) → bit r y ≡ (bit done y || same? x y)
  pub path_is : kept.manager ≡ before.manager

-- of the live roles these are done, and rightly; and there is room for a path
pub record SoFar (t : Tables) (kept : Kept) (done : ℕ) : Type 0 where
  pub right : Right t kept done
  pub part : done are_in t.live
  pub places : length kept.manager ≡ 64

-- a walk down from root can start
pub record Starts (t : Tables) (kept : Kept) (done root : ℕ) : Type 0 where
  pub so_far : SoFar t kept done
  pub alive : root is_in t.live
  pub fresh : bit done root ≡ false

-- more are done than were; the root is, unless there is no order
pub record Descended (t : Tables) (kept : Kept) (done root r : ℕ) : Type 0 where
  pub so_far : SoFar t kept r
  pub more : done are_in r
  pub stuck : bit r root ≡ false → InOrder t → ⊥

-- r is whether the live roles are in order; down is then what they derive
pub record FilledDown (t : Tables) (r : Bool) (down : List ℕ) : Type 0 where
  pub order : (r ≡ true) ↔ InOrder t
  pub down_rows : r ≡ true → length down ≡ 64
  pub down_is : r ≡ true → (x y : ℕ) → (y is_in row down x) ↔ Derives t x y

-- x has gone into the row of each role of s
pub record Marked (up : List ℕ) (s x : ℕ) (marked : List ℕ) : Type 0 where
  pub rows : length marked ≡ 64
  pub members : (y z : ℕ) → bit (row marked y) z ≡ (bit (row up y) z || (bit s y && same? x z))

-- ---- line managers

-- a is an administrator of r, asked of whatever derives r: a is above it or below it
pub record Above (down up : List ℕ) (a r : ℕ) : Type 0 where
  pub derives : a is_in row up r
  pub strict : a ≢ r
  pub rivals : (x : ℕ) → x is_in row up r → (a is_in row up x) ⊎ (a is_in row down x)

-- down is what the roles of t derive, without a loop, and s the set of the administrators of r
pub record AdminsOf (t : Tables) (down : List ℕ) (s r : ℕ) : Type 0 where
  pub loopless : LiveLoops t → ⊥
  pub down_is : (x y : ℕ) → (y is_in row down x) ↔ Derives t x y
  pub members : (a : ℕ) → (a is_in s) ↔ Administrator t a r

-- m is the line manager of r, or 64 where r has no administrator
abbrev pub NearestIs : Tables → ℕ → ℕ → Type 0
NearestIs t r m = LineManager t m r ⊎ (((a : ℕ) → Administrator t a r → ⊥) × (m ≡ 64))

-- the live roles of t are those of live, without a loop, and down and up its views
pub record Orderly (t : Tables) (live : ℕ) (down up : List ℕ) : Type 0 where
  pub live_is : t.live ≡ live
  pub loopless : LiveLoops t → ⊥
  pub views : AreViews t down up

-- manager has each role's nearest administrator
pub record Managers (t : Tables) (manager : List ℕ) : Type 0 where
  pub rows : length manager ≡ 64
  pub nearest : (r : ℕ) → NearestIs t r (manager_at manager r)
