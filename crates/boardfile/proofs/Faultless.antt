-- The bytes of roles, edges and rights that belong together have neither fault. Assumes nothing.
use mathlib.Core.Path.{◌≡◌, refl, sym, ap, ◌∙◌, subst}
use mathlib.Core.Bool.{Bool, true, false, cond}
use mathlib.Core.Logic.{◌≢◌, ◌⊎◌, inl, inr, ⊎_elim, dite}
use mathlib.Core.List.{List, map}
use Prim.Native.Nat.{ℕ, suc, ◌+◌, ◌*◌, ◌/◌, ◌%◌, ◌≤◌, ◌<◌, zero-le}
use native.Mathlib.Decide.{ℕ_discrete}
use native.Mathlib.Nat.{add-zero}
use native.Mathlib.Omega.{arith}
use lib.Dec.{lit<}
use lib.ListN.{length, get_or, length-map}
use Rattle.sets.specs.Sets.{bit}
use Rattle.sets.proofs.Bools.{true_or_false, false_no}
use Rattle.hierarchy.specs.Tables.{Tables}
use Rattle.board.specs.Rights.{rights_of, founding_rights, RightsFit}
use Rattle.frames.specs.Frames.{byte, EndsHR, role_count, edge_count, BadFrame}
use Rattle.frames.specs.Framing.{Trailed}
use Rattle.frames.proofs.Bytes.{map_at, whole, whole_trailed, byte_role, byte_edge, byte_right}
use Rattle.frames.proofs.Frames.{said, trailed_roles, trailed_edges, no_bad_frame}
use Rattle.writer.specs.Files.{from, records, edge?, edge_bytes, kind_at, founding?, file_of}
use Rattle.writer.proofs.Ascending.{from_at, from_rises, from_first, from_has, from_short, Stands}
use Rattle.writer.proofs.EdgeBytes.{records_length, records_at, edge_there, file_whole}
use Rattle.writer.proofs.FoundingRights.{founding_other, founding_yes}
use Rattle.boardfile.specs.Faults.{senior, junior, kind_byte, place, rights_byte, Listed, BadRecord}
use Rattle.boardfile.specs.Faults.{BadRecord.first_role, BadRecord.high_role, BadRecord.role_order, BadRecord.no_senior, BadRecord.no_junior, BadRecord.itself, BadRecord.no_kind, BadRecord.edge_order, BadRecord.high_rights, BadRecord.founding_rights_lem}
use Rattle.boardfile.specs.Parts.{Fine}

pub record Tidy (lives : ℕ → Bool) (kinds : ℕ → ℕ) : Type 0 where
  pub root : lives 0 ≡ true
  pub known : (e : ℕ) → kinds e ≤ 3
  pub fine : (e : ℕ) → kinds e ≢ 0 → Fine lives e

-- a file of either kind with these role bytes and edge records, and with the rights bytes of these rights
module _ (plain : Bool) (lives : ℕ → Bool) (kinds : ℕ → ℕ) (rights : List ℕ) where
  abbrev pub roles : List ℕ
  roles = from 64 0 lives

  abbrev pub places : List ℕ
  places = from 4096 0 (edge? kinds)

  abbrev pub edges : List ℕ
  edges = records kinds places

  abbrev pub held : List ℕ
  held = map (rights_of rights) roles

  abbrev pub file : List ℕ
  file = whole plain roles edges held

  trailed : Trailed plain file (length roles) (length edges)
  trailed = whole_trailed roles edges held (length-map roles (rights_of rights)) plain

  role_count_lem : role_count file ≡ length roles
  role_count_lem = trailed_roles trailed

  edge_count_lem : edge_count file ≡ length places
  edge_count_lem = trailed_edges trailed ∙ omega (arith, records_length kinds places)

  rooted : lives 0 ≡ true → 1 ≤ length roles
  rooted h = let w = from_has 64 0 lives 0 h zero-le (lit< tt) in omega arith

  no_frame_fault : lives 0 ≡ true → length file ≤ cond plain 6118 6184 → BadFrame file → ⊥
  no_frame_fault r = no_bad_frame (rooted r) (from_short 64 0 lives) (omega (arith, records_length kinds places)) plain trailed

  -- edge record k of the file
  pub record Spelled (k : ℕ) : Type 0 where
    pub there : Stands 4096 0 (edge? kinds) (get_or places k 0)
    pub senior_is : senior file k ≡ get_or places k 0 / 64
    pub junior_is : junior file k ≡ get_or places k 0 % 64
    pub kind_is : kind_byte file k ≡ kinds (get_or places k 0)

  edge_at : (k j : ℕ) → k < length places → j < 3 → byte file (role_count file + 3 * k + j) ≡ byte edges (3 * k + j)
  edge_at k j h l =
      ap (byte file) (omega (arith, role_count_lem)) ∙ byte_edge plain roles edges held (3 * k + j) (omega (arith, records_length kinds places))

  inside : {k : ℕ} → k < edge_count file → k < length places
  inside h = omega (arith, edge_count_lem)

  pub spelled : (k : ℕ) → k < length places → Spelled k
  unfolding senior junior kind_byte
  spelled k h =
      let r = records_at kinds places k h in record {
        there = from_at 4096 0 (edge? kinds) k h;
        senior_is = ap (byte file) (sym (add-zero (role_count file + 3 * k))) ∙ edge_at k 0 h (lit< tt) ∙ ap (byte edges) (add-zero (3 * k)) ∙ r.senior_is;
        junior_is = edge_at k 1 h (lit< tt) ∙ r.junior_is;
        kind_is = edge_at k 2 h (lit< tt) ∙ r.kind_is;
      }

  place_is : (k : ℕ) → k < length places → place file k ≡ get_or places k 0
  place_is k h = let s = spelled k h in omega arith

  role_in : (k : ℕ) → k < role_count file → k < length roles
  role_in k h = omega (arith, role_count_lem)

  role_at_lem : (k : ℕ) → k < length roles → byte file k ≡ byte roles k
  role_at_lem = byte_role plain roles edges held

  listed : (r : ℕ) → lives r ≡ true → r < 64 → Listed file r
  listed r h l =
      let w = from_has 64 0 lives r h zero-le (omega arith) in
      record { at = w.at; in_roles = omega (arith, role_count_lem); is = role_at_lem w.at w.inside ∙ w.is }

  -- the two faults of rights bytes
  record RightsFault : Type 0 where
    ends : EndsHR file
    fault : ((k : ℕ) × (k < role_count file) × (31 < rights_byte file k)) ⊎ ((k : ℕ) → k < role_count file → rights_byte file k ≡ rights_of founding_rights (byte file k))

  module _ (t : Tidy lives kinds) where
    fine_at : (k : ℕ) → k < edge_count file → Fine lives (get_or places k 0)
    fine_at k h = t.fine (get_or places k 0) (edge_there kinds (get_or places k 0) (spelled k (inside h)).there.holds)

    no_bad_record : (RightsFault → ⊥) → BadRecord file → ⊥
    no_bad_record n (first_role h) = h (role_at_lem 0 (rooted t.root) ∙ from_first 63 0 lives t.root)
    no_bad_record n (high_role k l h) = omega (arith, role_at_lem k (role_in k l), from_at 64 0 lives k (role_in k l))
    no_bad_record n (role_order k l h) =
        omega (arith, role_at_lem k (omega (arith, role_in (suc k) l)), role_at_lem (suc k) (role_in (suc k) l), from_rises 64 0 lives k (role_in (suc k) l))
    no_bad_record n (no_senior k l h) =
        h (subst (Listed file) (sym (spelled k (inside l)).senior_is) (listed (get_or places k 0 / 64) (fine_at k l).senior_lives (omega (arith, (spelled k (inside l)).there))))
    no_bad_record n (no_junior k l h) =
        h (subst (Listed file) (sym (spelled k (inside l)).junior_is) (listed (get_or places k 0 % 64) (fine_at k l).junior_lives (omega arith)))
    no_bad_record n (itself k l h) = (fine_at k l).apart (sym (spelled k (inside l)).senior_is ∙ h ∙ (spelled k (inside l)).junior_is)
    no_bad_record n (no_kind k l h) = ⊎_elim
        (λ (z : kind_byte file k < 1). edge_there kinds (get_or places k 0) (spelled k (inside l)).there.holds (omega (arith, (spelled k (inside l)).kind_is)))
        (λ (z : 3 < kind_byte file k). omega (arith, (spelled k (inside l)).kind_is, t.known (get_or places k 0))) h
    no_bad_record n (edge_order k l h) =
        omega (arith, place_is k (omega (arith, inside l)), place_is (suc k) (inside l), from_rises 4096 0 (edge? kinds) k (inside l))
    no_bad_record n (high_rights e k l h) = n (record { ends = e; fault = inl (k, l, h) })
    no_bad_record n (founding_rights_lem e h) = n (record { ends = e; fault = inr h })

-- ---- the rights bytes have none of their own

module _ (lives : ℕ → Bool) (kinds : ℕ → ℕ) (rights : List ℕ) where
  -- HH has no rights bytes
  no_rights_hh : RightsFault true lives kinds rights → ⊥
  no_rights_hh w = let s = (said true (trailed true lives kinds rights)).ends in omega (arith, w.ends)

  -- HR's are those of the live roles
  right_at : (k : ℕ) → k < length (roles false lives kinds rights) → rights_byte (file false lives kinds rights) k ≡ rights_of rights (byte (roles false lives kinds rights) k)
  unfolding rights_byte
  right_at k l =
      let rs = roles false lives kinds rights in
      let es = edges false lives kinds rights in
      let hs = held false lives kinds rights in
      ap (byte (file false lives kinds rights)) (omega (arith, role_count_lem false lives kinds rights, edge_count_lem false lives kinds rights, records_length kinds (from 4096 0 (edge? kinds))))
      ∙ byte_right false rs es hs k (omega (arith, length-map rs (rights_of rights)))
      ∙ map_at (rights_of rights) rs k l

  no_rights_hr : lives 0 ≡ true → ((x : ℕ) → rights_of rights x ≤ 31) → ((x : ℕ) → lives x ≡ false → rights_of rights x ≡ 0) → founding? rights ≡ false
      → RightsFault false lives kinds rights → ⊥
  no_rights_hr root five living other w = ⊎_elim high founds w.fault
    where
      f : List ℕ
      f = file false lives kinds rights

      in_roles : (k : ℕ) → k < role_count f → k < length (roles false lives kinds rights)
      in_roles = role_in false lives kinds rights

      high : (k : ℕ) × (k < role_count f) × (31 < rights_byte f k) → ⊥
      high h = let l = in_roles h.0 h.1 in omega (arith, h.2, right_at h.0 l, five (byte (roles false lives kinds rights) h.0))

      founds : ((k : ℕ) → k < role_count f → rights_byte f k ≡ rights_of founding_rights (byte f k)) → ⊥
      founds h = false_no other (founding_yes rights (λ x l. ⊎_elim (alive x l) (dead x) (true_or_false (lives x))))
        where
          alive : (x : ℕ) → x < 64 → lives x ≡ true → rights_of rights x ≡ rights_of founding_rights x
          alive x l e =
              let w = listed false lives kinds rights x e l in
              ap (rights_of rights) (sym w.is ∙ role_at_lem false lives kinds rights w.at (in_roles w.at w.in_roles))
              ∙ sym (right_at w.at (in_roles w.at w.in_roles))
              ∙ h w.at w.in_roles
              ∙ ap (rights_of founding_rights) w.is

          dead : (x : ℕ) → lives x ≡ false → rights_of rights x ≡ rights_of founding_rights x
          dead x e = dite (ℕ_discrete x 0)
              (λ (z : x ≡ 0). absurd (false_no (subst (λ (y : ℕ). lives y ≡ false) z e) root))
              (λ n. living x e ∙ sym (founding_other x (omega (arith, n))))

-- the theorem
module _ (t : Tables) (rights : List ℕ) (tidy : Tidy (bit t.live) (kind_at t)) where
  pub good_frame : length (file_of t rights) ≤ cond (founding? rights) 6118 6184 → BadFrame (file_of t rights) → ⊥
  unfolding edge_bytes
  good_frame = rw (file_whole t rights) (no_frame_fault (founding? rights) (bit t.live) (kind_at t) rights tidy.root)

  pub good_records : RightsFit t.live rights → BadRecord (file_of t rights) → ⊥
  unfolding edge_bytes
  good_records fit = rw (file_whole t rights) (no_bad_record (founding? rights) (bit t.live) (kind_at t) rights tidy (rightful (founding? rights) refl))
    where
      rightful : (plain : Bool) → founding? rights ≡ plain → RightsFault plain (bit t.live) (kind_at t) rights → ⊥
      rightful true e = no_rights_hh (bit t.live) (kind_at t) rights
      rightful false e = no_rights_hr (bit t.live) (kind_at t) rights tidy.root fit.five fit.living e
