-- The sets of a new role, name by name. Assumes nothing.
use mathlib.Core.Path.{◌≡◌, refl}
use mathlib.Core.List.{List}
use Rattle.std.specs.Prelude.{Option, Some, None, Ok, Err, ok_or}
use Prim.Native.Nat.{ℕ, suc, ◌+◌, ◌*◌, ◌-◌, ◌<◌, ◌≤◌}
use native.Mathlib.Omega.{arith}
use lib.ListN.{length}
use borrow.Author.Tests.{eq-eqb, ne_eqb}
use Rattle.board.specs.declared.Command.{Command}
use Rattle.wording.specs.Texts.{word_at}
use Rattle.wording.specs.Names.{set_name_of, role_of, members_of}
use Rattle.wording.specs.Meanings.{Meaning, wrong, set_at, with_set, sets_from, ends_at}
use Rattle.wording.specs.declared.names.SetName.{SetName as NameOfSet}
use Rattle.wording.specs.declared.Wanted.TheVariants.{Roles, SetName}

-- what was wanted, from what `ok_or` gave
pub some_of : {A E : Type 0} (o : Option A) (e : E) {x : A} → Ok x ≡ ok_or o e → Some x ≡ o
some_of None e h = cc
some_of (Some y) e h = cc

pub none_of : {A E : Type 0} (o : Option A) (e : E) {f : E} → Err f ≡ ok_or o e → (None ≡ o) × (f ≡ e)
none_of None e h = (refl, cc)
none_of (Some y) e h = absurd (cc)

-- after n sets that were named, the line means `all` if the others may be named from here on
pub record Naming (line : List ℕ) (all : Meaning) (c : Command) (n : ℕ) : Type 0 where
  pub same : sets_from (4 - n) line (3 + 2 * n) c ≡ all

pub name_start : (line : List ℕ) (c : Command) → Naming line (sets_from 4 line 3 c) c 0
name_start line c = record { same = refl }

module _ {line : List ℕ} {all : Meaning} {c : Command} {n : ℕ} (h : Naming line all c n) where
  pub name_over : 4 ≤ n → n ≤ 4 → ends_at line 11 c ≡ all
  unfolding sets_from
  name_over low high = rw four at h.same
    where
      four : n ≡ 4
      four = omega arith

  -- at a word w, before the last set: it ends the line, or names a set that has not been named, whose roles are the word behind it
  module _ (l : n < 4) {w : List ℕ} (q : w ≡ word_at line (3 + 2 * n)) where
    turn : sets_from (suc (3 - n)) line (3 + 2 * n) c ≡ all
    turn = rw some h.same
      where
        some : suc (3 - n) ≡ 4 - n
        some = omega arith

    pub name_none : length w ≡ 0 → Ok c ≡ all
    unfolding sets_from
    name_none z = rw (← q, eq-eqb (length w) 0 z) at turn

    module _ (s : length w ≡ 0 → ⊥) where
      pub name_unknown : None ≡ set_name_of w → wrong (3 + 2 * n) SetName ≡ all
      unfolding sets_from
      name_unknown e = rw (← q, ne_eqb (length w) 0 s, ← e) at turn

      module _ {o : NameOfSet} (e : Some o ≡ set_name_of w) where
        pub name_twice : (set_at o c ≡ 0 → ⊥) → wrong (3 + 2 * n) SetName ≡ all
        unfolding sets_from
        name_twice z = rw (← q, ne_eqb (length w) 0 s, ← e, ne_eqb (set_at o c) 0 z) at turn

        module _ (z : set_at o c ≡ 0) where
          pub name_bad : None ≡ members_of role_of (word_at line (3 + 2 * n + 1)) → wrong (3 + 2 * n + 1) Roles ≡ all
          unfolding sets_from
          name_bad f = rw (← q, ne_eqb (length w) 0 s, ← e, eq-eqb (set_at o c) 0 z, ← f) at turn

          pub name_next : {set : ℕ} → Some set ≡ members_of role_of (word_at line (3 + 2 * n + 1)) → Naming line all (with_set o set c) (n + 1)
          unfolding sets_from
          name_next f = record { same = rw (left, on) (rw (← q, ne_eqb (length w) 0 s, ← e, eq-eqb (set_at o c) 0 z, ← f) at turn) }
            where
              left : 4 - (n + 1) ≡ 3 - n
              left = omega arith

              on : 3 + 2 * (n + 1) ≡ 3 + 2 * n + 2
              on = omega arith
