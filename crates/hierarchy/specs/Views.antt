-- The values that are worked out once a board and kept with it: row x of `down` is the set of what x derives, row y of `up` the set of
-- what derives y, and the line managers. The words of scope again, read off the two tables; `ViewLaws` and `Bars` in
-- `Rattle.hierarchy.proofs` say that they are the same.
use Rattle.std.specs.Prelude.{Result, Ok, Err, ◌≡◌, cond, ◌≢◌, ◌⊎◌, ◌↔◌, List, [], ◌∷◌, ℕ, zero, suc, ◌≤◌, eqb, get_or, length, replicate}
use Rattle.sets.specs.Sets.{◌is_in◌}
use Rattle.hierarchy.specs.Tables.{Tables, row, Live, kind}
use Rattle.hierarchy.specs.Words.{Reaches, Derives, LineManager, Managed}
use Rattle.hierarchy.specs.First.{First}
use Rattle.hierarchy.specs.declared.working.Fault.{Fault}
use Rattle.hierarchy.specs.declared.working.Fault.TheVariants.{Loops, Unmanaged}

-- down and up are the views of t, a row for each role
pub record AreViews (t : Tables) (down up : List ℕ) : Type 0 where
  pub down_rows : length down ≡ 64
  pub up_rows : length up ≡ 64
  pub down_is : (x y : ℕ) → (y is_in row down x) ↔ Derives t x y
  pub up_is : (x y : ℕ) → (x is_in row up y) ↔ Derives t x y

-- A role settles when it lives and all its juniors settle: no way down from it meets a role that doesn't live, and none goes on for ever.
pub data Settles (t : Tables) : ℕ → Type 0 where
  settle : {x : ℕ} → Live t x → ((y : ℕ) → kind t x y ≢ 0 → Settles t y) → Settles t x

-- The live roles are in order: all of them settle. Where entries join live roles, this is that there is no loop
-- (`Rattle.hierarchy.proofs.Order`, `order_loopless`).
abbrev pub InOrder : Tables → Type 0
InOrder t = (x : ℕ) → Live t x → Settles t x

-- The juniors of live roles are live. This much is enough for order to be that no live role reaches itself (`inward_order`).
abbrev pub Inward : Tables → Type 0
Inward t = (x y : ℕ) → Live t x → kind t x y ≢ 0 → Live t y

-- some live role reaches itself
abbrev pub LiveLoops : Tables → Type 0
LiveLoops t = (x : ℕ) × (Live t x × Reaches t x x)

-- up is down turned round: whose row has y, of the roles of live
pub record Turned (live : ℕ) (down up : List ℕ) : Type 0 where
  pub up_is : (x y : ℕ) → (x is_in row up y) ↔ ((x is_in live) × (y is_in row down x))
  pub up_rows : length up ≡ 64

-- x is related to a
abbrev pub RelatedBy : List ℕ → List ℕ → ℕ → ℕ → Type 0
RelatedBy down up a x = (x is_in row up a) ⊎ (x is_in row down a)

-- r is in the scope of a
pub record ScopeBy (down up : List ℕ) (a r : ℕ) : Type 0 where
  pub derives : r is_in row down a
  pub derived : a is_in row up r
  pub rivals : (x : ℕ) → x is_in row up r → RelatedBy down up a x

-- x is in a's way to r
pub record InTheWayBy (down up : List ℕ) (a r x : ℕ) : Type 0 where
  pub derives : x is_in row up r
  pub unrelated : RelatedBy down up a x → ⊥
  pub lowest : (y : ℕ) → y is_in row up r → (RelatedBy down up a y → ⊥) → x ≤ y

-- why r is not in the scope of a
pub data OutOfScopeBy (down up : List ℕ) (a r : ℕ) : ℕ → ℕ → Type 0 where
  not_derived : ((r is_in row down a) × (a is_in row up r) → ⊥) → OutOfScopeBy down up a r 1 0
  in_the_way : {x : ℕ} → r is_in row down a → a is_in row up r → InTheWayBy down up a r x → OutOfScopeBy down up a r 2 x

-- what bars r from the scope of a, if anything does: where r is in it, cause and role are 0
abbrev pub BarBy : List ℕ → List ℕ → ℕ → ℕ → ℕ → ℕ → Type 0
BarBy down up a r cause way = (ScopeBy down up a r × ((cause ≡ 0) × (way ≡ 0))) ⊎ OutOfScopeBy down up a r cause way

-- a is an administrator of r
pub record AdminBy (down up : List ℕ) (a r : ℕ) : Type 0 where
  pub scope : ScopeBy down up a r
  pub strict : a ≢ r

-- ---- what a board keeps

-- the line manager of r as a number: the role that is it, or 64, which is no role, where r has none
abbrev pub ManagerIs : Tables → ℕ → ℕ → Type 0
ManagerIs t r m = LineManager t m r ⊎ (((n : ℕ) → LineManager t n r → ⊥) × (m ≡ 64))

-- the entry of r in a row of managers; past the row there is none
abbrev pub manager_at : List ℕ → ℕ → ℕ
manager_at manager r = get_or manager r 64

-- manager is the row of the line managers of t
pub record AreManagers (t : Tables) (manager : List ℕ) : Type 0 where
  pub manager_rows : length manager ≡ 64
  pub manager_is : (r : ℕ) → ManagerIs t r (manager_at manager r)

-- The values that a board keeps are right for its tables: what each role derives, what derives it, and its line manager. A role that
-- doesn't live derives nobody and is derived by nobody, so its sets are empty, and it has no line manager.
pub record RightValues (t : Tables) (derives derivers manager : List ℕ) : Type 0 where
  pub views : AreViews t derives derivers
  pub managers : AreManagers t manager

-- the number of what was found wrong, 0 where nothing was
abbrev pub fault_number : {A : Type 0} → Result A Fault → ℕ
fault_number (Ok _) = 0
fault_number (Err Loops) = 7
fault_number (Err Unmanaged) = 9

-- Worked out for tables: 7 where the live roles are not in order, 9 where one but 0 has no administrator. Unless it is 7 the three are
-- right. With 7 they are blank: nobody derives, is derived or has a line manager.
pub record WorkedOut (t : Tables) (number : ℕ) (derives derivers manager : List ℕ) : Type 0 where
  pub numbered : First ((7, (InOrder t → ⊥)) ∷ (9, (Managed t → ⊥)) ∷ []) number
  pub right : number ≢ 7 → RightValues t derives derivers manager
  pub disordered : number ≡ 7 → (derives ≡ replicate 64 0) × ((derivers ≡ replicate 64 0) × (manager ≡ replicate 64 64))

-- Going up from r by the managers of a row, with k steps behind: how many it takes to role 0, and 64 where n looks don't arrive.
unfoldable pub steps_up : List ℕ → ℕ → ℕ → ℕ → ℕ
steps_up manager zero k r = 64
steps_up manager (suc n) k r = cond (eqb r 0) k (steps_up manager n (suc k) (manager_at manager r))
