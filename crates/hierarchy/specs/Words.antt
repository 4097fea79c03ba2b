-- The words of document 01, parts "Roles, edges, paths" and "Scope and line manager", each as one definition, and the words of request 3.
use Rattle.std.specs.Prelude.{◌≡◌, ◌≢◌, ◌⊎◌, List, [], ◌∷◌, ℕ, suc, ◌≤◌}
use Rattle.sets.specs.Sets.{◌is_in◌}
use Rattle.hierarchy.specs.Tables.{Tables, row, Live, Shaped, kind, join}

-- ---- paths

-- `Way t x y k`: a path of one edge or more leads from x to y, and its kinds join to k
pub data Way (t : Tables) : ℕ → ℕ → ℕ → Type 0 where
  edge : {x y : ℕ} → kind t x y ≢ 0 → Way t x y (kind t x y)
  then : {x y z k : ℕ} → kind t x y ≢ 0 → Way t y z k → Way t x z (join (kind t x y) k)

-- Reaching: some path, whatever its kinds join to
abbrev pub Reaches : Tables → ℕ → ℕ → Type 0
Reaches t x y = (k : ℕ) × Way t x y k

-- Deriving: between live roles, from each to itself and wherever some path joins to a kind other than 0
pub record Derives (t : Tables) (x y : ℕ) : Type 0 where
  pub from : Live t x
  pub to : Live t y
  pub by : (x ≡ y) ⊎ ((k : ℕ) × Way t x y k × (k ≢ 0))

-- going down through one table only, by no step or more
pub data Chain (rows : List ℕ) : ℕ → ℕ → Type 0 where
  stop : {x : ℕ} → Chain rows x x
  step : {x y z : ℕ} → y is_in row rows x → Chain rows y z → Chain rows x z

-- The other wording of deriving: by A alone down to a live role, and from there by I alone
pub record Splits (t : Tables) (x y : ℕ) : Type 0 where
  pub mid : ℕ
  pub mid_live : Live t mid
  pub down_a : Chain t.a x mid
  pub down_i : Chain t.i mid y

-- ---- scopes

-- x is related to a: one of them derives the other, or they are one live role
abbrev pub Related : Tables → ℕ → ℕ → Type 0
Related t a x = Derives t x a ⊎ Derives t a x

-- Scope: a derives r, and whoever derives r is related to a (what derives anything is live)
pub record Scope (t : Tables) (a r : ℕ) : Type 0 where
  pub derives : Derives t a r
  pub rivals : (x : ℕ) → Derives t x r → Related t a x

-- Administrator: r is in the scope of a and is not a itself, which is strict scope
pub record Administrator (t : Tables) (a r : ℕ) : Type 0 where
  pub scope : Scope t a r
  pub strict : a ≢ r

-- request 3, the role in the way: the lowest that derives r and is unrelated to a (what derives anything is live)
pub record InTheWay (t : Tables) (a r x : ℕ) : Type 0 where
  pub derives : Derives t x r
  pub unrelated : Related t a x → ⊥
  pub lowest : (y : ℕ) → Derives t y r → (Related t a y → ⊥) → x ≤ y

-- request 3, why r is not in the scope of a, by its cause and the role in the way: 1, a doesn't derive r; 2, it does, and a role is in the
-- way, which may be role 0. Beside cause 1 there is none, and 0 stands for it.
pub data OutOfScope (t : Tables) (a r : ℕ) : ℕ → ℕ → Type 0 where
  not_derived : (Derives t a r → ⊥) → OutOfScope t a r 1 0
  in_the_way : {x : ℕ} → Derives t a r → InTheWay t a r x → OutOfScope t a r 2 x

-- Line manager: the administrator of r that all its other administrators derive
pub record LineManager (t : Tables) (m r : ℕ) : Type 0 where
  pub admin : Administrator t m r
  pub lowest : (a : ℕ) → Administrator t a r → a ≢ m → Derives t a m

-- ---- sound tables

-- the first demand on a sound board: an entry in either table is between live roles
abbrev pub Joined : Tables → Type 0
Joined t = (x y : ℕ) → kind t x y ≢ 0 → Live t x × Live t y

-- what the second demand forbids, and refusal 7 names: a role that reaches itself
abbrev pub Loops : Tables → Type 0
Loops t = (x : ℕ) × Reaches t x x

-- the fourth demand, and what refusal 9 finds missing: an administrator for each live role but 0
abbrev pub Managed : Tables → Type 0
Managed t = (r : ℕ) → Live t r → r ≢ 0 → (a : ℕ) × Administrator t a r

-- Sound: entries between live roles, no loop, role 0 live, all others administered
pub record Sound (t : Tables) : Type 0 where
  pub shaped : Shaped t
  pub joined : Joined t
  pub loopless : Loops t → ⊥
  pub root : Live t 0
  pub managed : Managed t

-- ---- going up

-- Steps: from a role to its line manager, and so on, until role 0; `Climb t r n` takes n of them
pub data Climb (t : Tables) : ℕ → ℕ → Type 0 where
  top : Climb t 0 0
  up : {r m n : ℕ} → LineManager t m r → Climb t m n → Climb t r (suc n)

-- the roles that a climb meets, from the first to role 0
unfoldable pub met : {t : Tables} {r n : ℕ} → Climb t r n → List ℕ
met top = 0 ∷ []
met (up {r = r} h c) = r ∷ met c

-- no role twice: no two elements are equal
abbrev pub Each : (ℕ → Type 0) → List ℕ → Type 0
Each P [] = Unit {0}
Each P (x ∷ l) = P x × Each P l

abbrev pub Distinct : List ℕ → Type 0
Distinct [] = Unit {0}
Distinct (x ∷ l) = Each (λ y. x ≢ y) l × Distinct l
