-- The rows on the board handed in, one after the other: what the first that holds makes of an answer. Assumes nothing.
use mathlib.Core.Path.{◌≡◌, refl, sym, subst}
use mathlib.Core.Logic.{◌≢◌}
use mathlib.Core.List.{List, ◌++◌}
use Prim.Native.Nat.{ℕ}
use native.Mathlib.Omega.{arith}
use Rattle.std.specs.Prelude.{Err}
use Rattle.hierarchy.specs.Tables.{Tables}
use Rattle.hierarchy.specs.First.{First}
use Rattle.hierarchy.proofs.FirstLaws.{hit, pass}
use Rattle.board.specs.Answers.{Answer, plain, number_of, answer}
use Rattle.board.specs.declared.answers.Refusal.{Refusal}
use Rattle.board.specs.declared.Command.{Command}
use Rattle.board.proofs.Answering.{number_of_some, names_nobody}
use Rattle.board.proofs.Rules.{first_other, first_refused, first_next, first_done}
use Rattle.refusals.specs.Refusals.{Names, unscoped, by_rights, by_scope, before}
use Rattle.refusals.specs.Entitled.{Entitled}
use Rattle.refusals.proofs.Blaming.{names_plain}

module _ (Derive In : ℕ → ℕ → Type 0) (Blame : Answer → Type 0) (t : Tables) (rights : List ℕ) (c : Command) where
  abbrev early : List (ℕ × Type 0)
  early = unscoped t c

  abbrev Down : Answer → Type 0
  Down m = First (before Derive In t rights c) m.number × Names Blame m

  plainly : (n : ℕ) → n ≢ 6 → First (before Derive In t rights c) n → {m : Answer} → m ≡ plain n → Down m
  plainly n d f is = subst (λ (m : Answer). Down m) (sym is) (f, names_plain n d)

  pub down_early : (n : ℕ) → n ≢ 0 → First early n → {m : Answer} → m ≡ plain n → Down m
  down_early n h f = plainly n (first_other 6 early refl n f) (first_refused early _ n h f)

  pub down_refused : (r : Refusal) → First early (number_of r) → Down (answer {A = Unit {0}} (Err r))
  down_refused r f = down_early (number_of r) (number_of_some r) f (names_nobody r (first_other 6 early refl (number_of r) f))

  module _ (k : ℕ) (short : k ≡ 0) (fine : First early k) where
    past_early : (n : ℕ) → First (by_rights Derive rights c ++ by_scope In c) n → First (before Derive In t rights c) n
    past_early n f = first_next early _ n (first_done early refl (subst (First early) short fine)) f

    pub down_unentitled : (Entitled Derive rights c → ⊥) → {m : Answer} → m ≡ plain 13 → Down m
    down_unentitled n = plainly 13 (λ e. omega arith) (past_early 13 (hit _ _ _ n))

    pub down_scope : Entitled Derive rights c → {m : Answer} → First (by_scope In c) m.number × Names Blame m → Down m
    down_scope right {m} f = (past_early m.number (pass _ _ _ _ (λ k. k right) f.0), f.1)
