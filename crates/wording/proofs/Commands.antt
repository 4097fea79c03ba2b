-- What a line means is fit for the board: no command that a line means is refused with 2. Assumes nothing.
use mathlib.Core.Path.{◌≡◌, subst}
use mathlib.Core.List.{List}
use Rattle.std.specs.Prelude.{Option, Some, None, option_map, IfSome, Ok, Err}
use Prim.Native.Nat.{ℕ, zero, suc, ◌+◌, ◌≤◌, ◌<◌}
use native.Mathlib.Omega.{arith}
use lib.Dec.{eqb, leb}
use borrow.Author.Tests.{eqb-true, leb-true, leb-false}
use Rattle.sets.proofs.Bools.{cond_elim}
use Rattle.board.specs.declared.Command.{Command}
use Rattle.refusals.specs.Refusals.{Malformed}
use Rattle.refusals.proofs.Trying.{ranged}
use Rattle.wording.specs.Texts.{bytes, separates, longer, pieces, word_at}
use Rattle.wording.specs.Names.{code_of, kind_of, set_name_of, role_of, members_of, rights_of}
use Rattle.wording.specs.Meanings.{Meaning, wanting, bare, none?, set_at, with_set, sets_from, edge_from, rights_from, by_code, meaning_of}
use Rattle.wording.specs.declared.names.SetName.{SetName as NameOfSet}
use Rattle.wording.specs.declared.names.SetName.TheVariants.{ASeniors, ISeniors, AJuniors, IJuniors}
use Rattle.wording.specs.declared.Wanted.{Wanted}
use Rattle.wording.proofs.Numbers.{role_low}
use Rattle.wording.proofs.Placing.{place_low, command_low}
use Rattle.wording.proofs.Lists.{rights_few}

abbrev Fit : Meaning → Type 0
Fit (Ok c) = Malformed c → ⊥
Fit (Err w) = Unit

-- what is wanted has P, and with P the rest is fit
wanting_fit : {A : Type 0} (o : Option A) (P : A → Type 0) (k : ℕ) (what : Wanted) (rest : A → Meaning) → IfSome o P → ((x : A) → P x → Fit (rest x)) → Fit (wanting o k what rest)
wanting_fit None P k what rest p h = tt
wanting_fit (Some x) P k what rest p h = h x p

-- a number that counts from 1, by its place among n names
counted_low : (n : ℕ) (r : Option ℕ) → IfSome r (λ k. k < n) → IfSome (option_map (λ k. k + 1) r) (λ k. (1 ≤ k) × (k ≤ n))
counted_low n None h = tt
counted_low n (Some k) h = (omega arith, omega arith)

code_low : (w : List ℕ) → IfSome (code_of w) (λ k. (1 ≤ k) × (k ≤ 7))
code_low w = counted_low 7 _ (command_low w)

kind_low : (w : List ℕ) → IfSome (kind_of w) (λ k. (1 ≤ k) × (k ≤ 3))
unfolding pieces longer separates
kind_low w = counted_low 3 _ (place_low w (pieces 44 (bytes "I,A,IA")))

-- what each command names is in its range
record Ranged (c : Command) : Type 0 where
  low : 1 ≤ c.code
  high : c.code ≤ 7
  actor : c.actor ≤ 63
  role : c.role ≤ 63

new_fit : (c : Command) → Ranged c → c.code ≡ 1 → Malformed c → ⊥
new_fit c r one = ranged c r.low r.high r.actor r.role (omega arith) (omega arith) (omega arith)

with_fit : (name : NameOfSet) (set : ℕ) (c : Command) → Ranged c → c.code ≡ 1 → Ranged (with_set name set c) × ((with_set name set c).code ≡ 1)
with_fit ASeniors set c r e = (record { low = r.low; high = r.high; actor = r.actor; role = r.role }, e)
with_fit ISeniors set c r e = (record { low = r.low; high = r.high; actor = r.actor; role = r.role }, e)
with_fit AJuniors set c r e = (record { low = r.low; high = r.high; actor = r.actor; role = r.role }, e)
with_fit IJuniors set c r e = (record { low = r.low; high = r.high; actor = r.actor; role = r.role }, e)

anything : {A : Type 0} (o : Option A) → IfSome o (λ _. Unit {0})
anything None = tt
anything (Some x) = tt

sets_fit : (n : ℕ) (line : List ℕ) (k : ℕ) (c : Command) → Ranged c → c.code ≡ 1 → Fit (sets_from n line k c)
unfolding sets_from
sets_fit zero line k c r e = cond_elim Fit (none? line k) _ _ (λ _. new_fit c r e) (λ _. tt)
sets_fit (suc n) line k c r e = cond_elim Fit (none? line k) _ _
    (λ _. new_fit c r e)
    (λ _. wanting_fit (set_name_of (word_at line k)) _ _ _ _ (anything _) (λ name _. cond_elim Fit (eqb (set_at name c) 0) _ _
    (λ _. wanting_fit (members_of role_of (word_at line (k + 1))) _ _ _ _ (anything _) (λ set _.
    let next = with_fit name set c r e in sets_fit n line (k + 2) (with_set name set c) next.0 next.1))
    (λ _. tt)))

by_code_fit : (line : List ℕ) (c : Command) → Ranged c → Fit (by_code line c)
unfolding by_code edge_from rights_from
by_code_fit line c r = cond_elim Fit (eqb c.code 1) _ _
    (λ e. sets_fit 4 line 3 c r (eqb-true c.code 1 e))
    (λ _. cond_elim Fit (eqb c.code 2) _ _
    (λ e. let two = eqb-true c.code 2 e in
    cond_elim Fit (none? line 3) _ _ (λ _. ranged c r.low r.high r.actor r.role (omega arith) (omega arith) (omega arith)) (λ _. tt))
    (λ _. cond_elim Fit (leb c.code 5) _ _
    (λ e. let five = leb-true c.code 5 e in
    wanting_fit (role_of (word_at line 3)) _ _ _ _ (role_low _) (λ junior j.
    wanting_fit (kind_of (word_at line 4)) _ _ _ _ (kind_low _) (λ kind k.
    cond_elim Fit (none? line 5) _ _ (λ _. ranged (record c { junior = junior; kind = kind }) r.low r.high r.actor r.role (λ _. j) (λ _. k) (omega arith)) (λ _. tt))))
    (λ e. let six = leb-false c.code 5 e in
    wanting_fit (rights_of (word_at line 3)) _ _ _ _ (rights_few _) (λ rights f.
    cond_elim Fit (none? line 4) _ _ (λ _. ranged (record c { rights = rights }) r.low r.high r.actor r.role (omega arith) (omega arith) (λ _. f)) (λ _. tt)))))

meaning_fit : (line : List ℕ) → Fit (meaning_of line)
unfolding meaning_of
meaning_fit line =
    wanting_fit (role_of (word_at line 0)) _ _ _ _ (role_low _) (λ actor a.
    wanting_fit (code_of (word_at line 1)) _ _ _ _ (code_low _) (λ code c.
    wanting_fit (role_of (word_at line 2)) _ _ _ _ (role_low _) (λ role r.
    by_code_fit line (bare code actor role) (record { low = c.0; high = c.1; actor = a; role = r }))))

pub means_fit : (line : List ℕ) (c : Command) → meaning_of line ≡ Ok c → Malformed c → ⊥
means_fit line c e = subst Fit e (meaning_fit line)
