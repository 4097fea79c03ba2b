-- The loop over rights bytes: those of the roles below next are read, and rest has the others. Assumes nothing.
use mathlib.Core.Path.{◌≡◌, sym, ap, ap₂, ◌∙◌, subst}
use mathlib.Core.Bool.{true, false}
use mathlib.Core.Logic.{◌⊎◌, inl, inr, ⊎_elim, ◌≢◌, dite}
use mathlib.Core.List.{List, [], ◌∷◌, ◌++◌, map, append-nil}
use Prim.Native.Nat.{ℕ, suc, ◌+◌, ◌-◌, ◌*◌, ◌≤◌, ◌<◌}
use native.Mathlib.Decide.{ℕ_discrete}
use native.Mathlib.Nat.{zero-add, add-zero}
use native.Mathlib.Omega.{arith}
use lib.ListN.{length, take, drop, set, replicate, length-append, length-drop, length-set, length-map, length-replicate, get_or-append}
use lib.Seq.{ext_get_or, take_all, drop-drop, get_or-take, get_or-drop, get_or-set_same, get_or-set_other, get_or_at, length-take-le}
use Rattle.sets.specs.Sets.{bit, ◌is_in◌, NoRole, Taken}
use Rattle.sets.proofs.Bools.{lt_or_ge, false_no}
use Rattle.board.specs.Rights.{rights_of, founding_rights, RightsFit}
use Rattle.frames.specs.Frames.{byte}
use Rattle.frames.specs.Framing.{body_length, GoodFrame, Announced}
use Rattle.frames.proofs.Bytes.{byte_part, map_at}
use Rattle.frames.proofs.Frames.{said, announced}
use Rattle.writer.specs.Files.{from, founding?}
use Rattle.writer.proofs.Ascending.{from_at, from_mono, from_split}
use Rattle.writer.proofs.FoundingRights.{blank_at, founding_at}
use Rattle.writer.proofs.Puts.{Taking, taking_start, taking_next, taking_there, taking_turn, taking_end}
use Rattle.boardfile.specs.Faults.{rights_byte, BadRecord}
use Rattle.boardfile.specs.Faults.{BadRecord.high_rights, BadRecord.founding_rights_lem}
use Rattle.boardfile.specs.Parts.{GoodRoles, GoodRights}
use Rattle.boardfile.proofs.RoleBytes.{listed_many, listed_at}

pub record SoFar (f : List ℕ) (at live rest : ℕ) (left rights : List ℕ) : Type 0 where
  pub next : ℕ
  pub taking : Taking (bit live) 0 rest next
  pub left_is : left ≡ drop (at + length (from next 0 (bit live))) f
  pub read : (j : ℕ) → j < length (from next 0 (bit live)) → byte f (at + j) ≡ rights_of rights (byte (from next 0 (bit live)) j)
  pub fit : RightsFit live rights

pub held_start : (f : List ℕ) (at live : ℕ) {left : List ℕ} → left ≡ take (length f - at) (drop at f) → SoFar f at live live left (replicate 64 0)
unfolding from
held_start f at live e = record {
  next = 0;
  taking = taking_start (bit live) 0 live (λ y l. ap (bit live) (sym (zero-add y)));
  left_is = e ∙ take_all (length f - at) (drop at f) (omega (arith, length-drop at f)) ∙ ap (λ (k : ℕ). drop k f) (sym (add-zero at));
  read = λ j l. absurd (omega arith);
  fit = record {
    rows = length-replicate {A = ℕ} 64 0;
    five = λ x. omega (arith, blank_at 64 x);
    living = λ x _. blank_at 64 x;
  };
}

none_more : (xs ys : List ℕ) → length (xs ++ ys) ≤ length xs → xs ++ ys ≡ xs
none_more xs [] h = append-nil xs
none_more xs (y ∷ ys) h = absurd (omega (arith, length-append xs (y ∷ ys)))

module _ {f : List ℕ} {at live rest : ℕ} {left rights : List ℕ} (room : at + length (from 64 0 (bit live)) ≤ length f) (inv : SoFar f at live rest left rights) where
  abbrev done : List ℕ
  done = from inv.next 0 (bit live)

  -- no role is left, or no byte: all are read
  all_done : NoRole rest ⊎ (length left ≡ 0) → from 64 0 (bit live) ≡ done
  all_done (inl n) = taking_end inv.taking n
  all_done (inr z) =
      let many : 64 ≡ inv.next + (64 - inv.next) = omega (arith, inv.taking.small) in
      let split : from 64 0 (bit live) ≡ done ++ from (64 - inv.next) (0 + inv.next) (bit live) = ap (λ (n : ℕ). from n 0 (bit live)) many ∙ from_split inv.next (64 - inv.next) 0 (bit live) in
      split ∙ none_more done _ (omega (arith, ap length split, room, ap length inv.left_is, length-drop (at + length done) f))

  pub held_end : NoRole rest ⊎ (length left ≡ 0) → GoodRights f at live rights
  held_end n = record { fit = inv.fit; bytes = ext_get_or 0 (take many (drop at f)) (map (rights_of rights) all) (long ∙ sym (length-map all (rights_of rights))) each }
    where
      all : List ℕ
      all = from 64 0 (bit live)

      many : ℕ
      many = length all

      long : length (take many (drop at f)) ≡ many
      long = length-take-le many (drop at f) (omega (arith, length-drop at f, room))

      each : (j : ℕ) → j < length (take many (drop at f)) → byte (take many (drop at f)) j ≡ byte (map (rights_of rights) all) j
      each j l =
          let h : j < many = omega (arith, long) in
          get_or-take many (drop at f) j 0 h
          ∙ get_or-drop at f j 0
          ∙ subst (λ (l : List ℕ). j < length l → byte f (at + j) ≡ rights_of rights (byte l j)) (sym (all_done n)) (inv.read j) h
          ∙ sym (map_at (rights_of rights) all j h)

  -- the lowest role is taken, and the next byte
  module _ {r rest' b : ℕ} {left' : List ℕ} (taken : Taken rest r rest') (cut : left ≡ b ∷ left') where
    grows : from (suc r) 0 (bit live) ≡ done ++ (r ∷ [])
    grows = taking_next inv.taking taken.lowest ∙ ap (λ (x : ℕ). done ++ (x ∷ [])) (zero-add r)

    many : length (from (suc r) 0 (bit live)) ≡ length done + 1
    many = ap length grows ∙ length-append done (r ∷ [])

    few : length done < length (from 64 0 (bit live))
    few = omega (arith, many, from_mono (suc r) 64 0 (bit live) taken.lowest.role)

    here : b ≡ byte f (at + length done)
    here = ap (λ (l : List ℕ). byte l 0) (sym cut ∙ inv.left_is) ∙ get_or-drop (at + length done) f 0 0 ∙ ap (byte f) (add-zero (at + length done))

    pub held_bad : 31 < b → (j : ℕ) × (j < length (from 64 0 (bit live))) × (31 < byte f (at + j))
    held_bad h = (length done, few, omega (arith, here))

    pub held_turn : b ≤ 31 → SoFar f at live rest' left' (set rights r b)
    held_turn small = record {
      next = suc r;
      taking = taking_turn inv.taking taken.lowest rest' taken.rest_is;
      left_is = ap (drop 1) (sym cut ∙ inv.left_is) ∙ drop-drop 1 (at + length done) f ∙ ap (λ (k : ℕ). drop k f) (omega (arith, many));
      read = subst (λ (l : List ℕ). (j : ℕ) → j < length l → byte f (at + j) ≡ rights_of rights' (byte l j)) (sym grows) more;
      fit = record {
        rows = length-set rights r b ∙ inv.fit.rows;
        five = λ x. dite (ℕ_discrete x r) (λ (e : x ≡ r). rw (e, its) small) (λ n. rw (there x n) (inv.fit.five x));
        living = λ x d. dite (ℕ_discrete x r) (λ (e : x ≡ r). absurd (false_no d (subst (λ (y : ℕ). y is_in live) (zero-add r ∙ sym e) (taking_there inv.taking taken.lowest)))) (λ n. there x n ∙ inv.fit.living x d);
      };
    }
      where
        rights' : List ℕ
        rights' = set rights r b

        its : rights_of rights' r ≡ b
        its = get_or-set_same rights r b 0 (omega (arith, taken.lowest.role, inv.fit.rows))

        there : (x : ℕ) → x ≢ r → rights_of rights' x ≡ rights_of rights x
        there x n = get_or-set_other rights r x b 0 n

        -- the roles so far are lower
        lower : (j : ℕ) → j < length done → byte done j ≢ r
        lower j l e = false_no (inv.taking.gone (byte done j) (omega (arith, from_at inv.next 0 (bit live) j l))) (subst (λ (x : ℕ). x is_in rest) (sym e) taken.lowest.member)

        more : (j : ℕ) → j < length (done ++ (r ∷ [])) → byte f (at + j) ≡ rights_of rights' (byte (done ++ (r ∷ [])) j)
        more j l = ⊎_elim
            (λ (h : j < length done). inv.read j h ∙ sym (ap (rights_of rights') (get_or-append done (r ∷ []) 0 j h) ∙ there (byte done j) (lower j h)))
            (λ (g : length done ≤ j). let e : length done ≡ j = omega (arith, length-append done (r ∷ [])) in
            ap (λ (k : ℕ). byte f (at + k)) (sym e) ∙ sym here ∙ sym (ap (rights_of rights') (get_or_at done r [] 0 j e) ∙ its))
            (lt_or_ge j (length done))

-- ---- what the rights bytes of a file come to

module _ {f : List ℕ} {n m live : ℕ} (frame : GoodFrame f n m true) (roles : GoodRoles f n live) where
  told : Announced f n m
  told = announced frame

  many_roles : length (from 64 0 (bit live)) ≡ n
  many_roles = listed_many f n live roles.bytes (omega (arith, told.room))

  pub rights_room : n + 3 * m + length (from 64 0 (bit live)) ≤ length f
  unfolding body_length
  rights_room = omega (arith, many_roles, (said false frame.trailed).long)

  right_at : (k : ℕ) → rights_byte f k ≡ byte f (n + 3 * m + k)
  unfolding rights_byte
  right_at k = ap₂ (λ (x y : ℕ). byte f (x + 3 * y + k)) told.roles told.edges

  -- a byte is too high, or they are the founding board's
  pub rights_high : (k : ℕ) × (k < length (from 64 0 (bit live))) × (31 < byte f (n + 3 * m + k)) → BadRecord f
  rights_high (k, l, h) = high_rights (said false frame.trailed).ends k (omega (arith, many_roles, told.roles)) (omega (arith, right_at k))

  pub rights_founding : {rights : List ℕ} → GoodRights f (n + 3 * m) live rights → founding? rights ≡ true → BadRecord f
  rights_founding {rights} good e = founding_rights_lem (said false frame.trailed).ends (λ k l. same k (omega (arith, many_roles, told.roles)))
    where
      all : List ℕ
      all = from 64 0 (bit live)

      same : (k : ℕ) → k < length all → rights_byte f k ≡ rights_of founding_rights (byte f k)
      same k l =
          right_at k
          ∙ byte_part f (map (rights_of rights) all) (n + 3 * m) k (ap (λ (j : ℕ). take j (drop (n + 3 * m) f)) (length-map all (rights_of rights)) ∙ good.bytes) (omega (arith, length-map all (rights_of rights)))
          ∙ map_at (rights_of rights) all k l
          ∙ founding_at rights e (byte all k) (omega (arith, from_at 64 0 (bit live) k l))
          ∙ ap (rights_of founding_rights) (listed_at f n live roles.bytes (omega (arith, told.room)) k (omega (arith, many_roles)))
