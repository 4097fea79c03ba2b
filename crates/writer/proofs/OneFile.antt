-- A file has one board's tables and rights. Assumes nothing.
use mathlib.Core.Path.{◌≡◌, refl, sym, ap, ap₂, ◌∙◌, subst}
use mathlib.Core.Bool.{Bool, true, false, cond, not, not-not}
use mathlib.Core.Logic.{⊎_elim}
use mathlib.Core.List.{List, []}
use Prim.Native.Nat.{ℕ, ◌+◌, ◌*◌, ◌/◌, ◌%◌, ◌^◌, ◌<◌, zero-le}
use native.Mathlib.Omega.{arith}
use lib.Dec.{eqb}
use lib.ListN.{length, get_or, take, drop, length-map}
use lib.Seq.{ext_get_or}
use borrow.Author.Tests.{eqb-true, not-false}
use Rattle.sets.specs.Sets.{bit}
use Rattle.sets.proofs.Bools.{true_or_false}
use Rattle.sets.proofs.Laws.{ext}
use Rattle.hierarchy.specs.Tables.{Tables, Shaped, row, kind, has_i, has_a}
use Rattle.hierarchy.proofs.Derive.{bit_i, bit_a}
use Rattle.board.specs.Rights.{rights_of, RightsFit}
use Rattle.frames.specs.Frames.{byte, with_rights}
use Rattle.frames.specs.Framing.{body_length, Trailed}
use Rattle.frames.proofs.Bytes.{whole, whole_roles, whole_edges, whole_rights, whole_trailed, map_at}
use Rattle.frames.proofs.Frames.{said, trailed_roles}
use Rattle.writer.specs.Files.{from, records, edge?, edge_bytes, kind_at, founding?, file_of}
use Rattle.writer.proofs.Ascending.{from_has, from_settles}
use Rattle.writer.proofs.EdgeBytes.{file_whole, roles_of, edges_of, held_of, records_length, records_at}
use Rattle.writer.proofs.FoundingRights.{founding_only}

-- ---- the trailer of a board's file

pub file_trailed : (t : Tables) (rights : List ℕ) → Trailed (founding? rights) (file_of t rights) (length (roles_of t rights)) (length (edges_of t rights))
file_trailed t rights =
    subst (λ (f : List ℕ). Trailed (founding? rights) f (length (roles_of t rights)) (length (edges_of t rights))) (sym (file_whole t rights))
    (whole_trailed (roles_of t rights) (edges_of t rights) (held_of t rights) (length-map (roles_of t rights) (rights_of rights)) (founding? rights))

-- ---- the parts of a file are read off it

edges_settled : (plain : Bool) (n e e' k : ℕ) → body_length plain n e + k ≡ body_length plain n e' + k → e ≡ e'
unfolding body_length
edges_settled true n e e' k q = omega arith
edges_settled false n e e' k q = omega arith

held_long : (plain : Bool) (hs hs' : List ℕ) → length hs ≡ length hs' → length (cond plain [] hs) ≡ length (cond plain [] hs')
held_long true hs hs' e = refl
held_long false hs hs' e = e

record SameParts (plain : Bool) (rs es hs rs' es' hs' : List ℕ) : Type 0 where
  roles : rs ≡ rs'
  edges : es ≡ es'
  held : cond plain [] hs ≡ cond plain [] hs'

module _ (plain : Bool) (rs es hs rs' es' hs' : List ℕ) (each : length hs ≡ length rs) (each' : length hs' ≡ length rs')
    (e : whole plain rs es hs ≡ whole plain rs' es' hs') where
  trailed : Trailed plain (whole plain rs es hs) (length rs) (length es)
  trailed = whole_trailed rs es hs each plain

  trailed' : Trailed plain (whole plain rs es hs) (length rs') (length es')
  trailed' = subst (λ (f : List ℕ). Trailed plain f (length rs') (length es')) (sym e) (whole_trailed rs' es' hs' each' plain)

  roles_long : length rs ≡ length rs'
  roles_long = sym (trailed_roles trailed) ∙ trailed_roles trailed'

  edges_long : length es ≡ length es'
  edges_long = edges_settled plain (length rs) (length es) (length es') (cond plain 6 8)
      (sym (said plain trailed).long ∙ (said plain trailed').long ∙ ap (λ (n : ℕ). body_length plain n (length es') + cond plain 6 8) (sym roles_long))

  same_parts : SameParts plain rs es hs rs' es' hs'
  same_parts = record {
    roles = sym (whole_roles plain rs es hs) ∙ ap₂ take roles_long e ∙ whole_roles plain rs' es' hs';
    edges = sym (whole_edges plain rs es hs) ∙ ap₂ take edges_long (ap₂ drop roles_long e) ∙ whole_edges plain rs' es' hs';
    held = sym (whole_rights plain rs es hs)
        ∙ ap₂ take (held_long plain hs hs' (each ∙ roles_long ∙ sym each')) (ap₂ drop (ap₂ ◌+◌ roles_long edges_long) e)
        ∙ whole_rights plain rs' es' hs';
  }

-- ---- so are places and kinds

module _ (kinds others : ℕ → ℕ) (ps qs : List ℕ) (e : records kinds ps ≡ records others qs) where
  same_many : length ps ≡ length qs
  same_many = omega (arith, records_length kinds ps, records_length others qs, ap length e)

  same_at : (i : ℕ) → i < length ps → (get_or ps i 0 ≡ get_or qs i 0) × (kinds (get_or ps i 0) ≡ others (get_or qs i 0))
  same_at i l =
      let r = records_at kinds ps i l in
      let s = records_at others qs i (omega (arith, same_many)) in
      let one : get_or ps i 0 / 64 ≡ get_or qs i 0 / 64 = sym r.senior_is ∙ ap (λ (l : List ℕ). get_or l (3 * i) 0) e ∙ s.senior_is in
      let two : get_or ps i 0 % 64 ≡ get_or qs i 0 % 64 = sym r.junior_is ∙ ap (λ (l : List ℕ). get_or l (3 * i + 1) 0) e ∙ s.junior_is in
      (omega arith, sym r.kind_is ∙ ap (λ (l : List ℕ). get_or l (3 * i + 2) 0) e ∙ s.kind_is)

  same_places : ps ≡ qs
  same_places = ext_get_or 0 ps qs same_many (λ i l. (same_at i l).0)

module _ (kinds others : ℕ → ℕ) (e : edge_bytes kinds 4096 0 ≡ edge_bytes others 4096 0) where
  records_agree : records kinds (from 4096 0 (edge? kinds)) ≡ records others (from 4096 0 (edge? others))
  unfolding edge_bytes
  records_agree = e

  same_kinds : (x : ℕ) → x < 4096 → kinds x ≡ others x
  same_kinds x l = ⊎_elim
      (λ h. let w = from_has 4096 0 (edge? kinds) x h zero-le (omega arith) in
      let same = same_at kinds others (from 4096 0 (edge? kinds)) (from 4096 0 (edge? others)) records_agree w.at w.inside in
      ap kinds (sym w.is) ∙ same.1 ∙ ap others (sym same.0 ∙ w.is))
      (λ h. let z : edge? others x ≡ false = sym (alike x l) ∙ h in eqb-true (kinds x) 0 (not-false (eqb (kinds x) 0) h) ∙ sym (eqb-true (others x) 0 (not-false (eqb (others x) 0) z)))
      (true_or_false (edge? kinds x))
    where
      alike : (x : ℕ) → x < 4096 → edge? kinds x ≡ edge? others x
      alike x l =
          from_settles 4096 0 (edge? kinds) (edge? others)
          (same_places kinds others (from 4096 0 (edge? kinds)) (from 4096 0 (edge? others)) records_agree) x zero-le (omega arith)

-- ---- and the rows of both tables

pub at_place : (t : Tables) (x y : ℕ) → y < 64 → kind_at t (x * 64 + y) ≡ kind t x y
unfolding kind_at
at_place t x y l = ap₂ (kind t) (omega arith) (omega arith)

-- a table is settled by its entries
rows_same : (t t' : List ℕ) → length t ≡ 64 → length t' ≡ 64 → ((x : ℕ) → row t x < 2 ^ 64) → ((x : ℕ) → row t' x < 2 ^ 64)
    → ((x y : ℕ) → x < 64 → y < 64 → bit (row t x) y ≡ bit (row t' x) y) → t ≡ t'
rows_same t t' n n' s s' h = ext_get_or 0 t t' (n ∙ sym n') (λ x l. ext 64 (row t x) (row t' x) (s x) (s' x) (λ y m. h x y (omega arith) m))

module _ {t t' : Tables} {rights rights' : List ℕ} (s : Shaped t) (s' : Shaped t') (fit : RightsFit t.live rights) (fit' : RightsFit t'.live rights')
    (e : file_of t rights ≡ file_of t' rights') where
  -- one kind of file,
  alike : founding? rights ≡ founding? rights'
  alike =
      let which : not (founding? rights) ≡ not (founding? rights') =
      sym (said (founding? rights) (file_trailed t rights)).which ∙ ap with_rights e ∙ (said (founding? rights') (file_trailed t' rights')).which in
      sym (not-not (founding? rights)) ∙ ap not which ∙ not-not (founding? rights')

  -- the same role bytes, edge records and rights bytes
  parts : SameParts (founding? rights) (roles_of t rights) (edges_of t rights) (held_of t rights) (roles_of t' rights') (edges_of t' rights') (held_of t' rights')
  parts =
      same_parts (founding? rights) (roles_of t rights) (edges_of t rights) (held_of t rights) (roles_of t' rights') (edges_of t' rights') (held_of t' rights')
      (length-map (roles_of t rights) (rights_of rights)) (length-map (roles_of t' rights') (rights_of rights'))
      (sym (file_whole t rights) ∙ e ∙ file_whole t' rights'
      ∙ ap (λ (p : Bool). whole p (roles_of t' rights') (edges_of t' rights') (held_of t' rights')) (sym alike))

  same_live : t.live ≡ t'.live
  same_live = ext 64 t.live t'.live s.live_fits s'.live_fits (λ x l. from_settles 64 0 (bit t.live) (bit t'.live) parts.roles x zero-le (omega arith))

  -- so these tables,
  pub same_tables : t ≡ t'
  same_tables = λ k. record { live = same_live k; i = i k; a = a k }
    where
      kinds : (x y : ℕ) → x < 64 → y < 64 → kind t x y ≡ kind t' x y
      kinds x y l m = sym (at_place t x y m) ∙ same_kinds (kind_at t) (kind_at t') parts.edges (x * 64 + y) (omega arith) ∙ at_place t' x y m

      i : t.i ≡ t'.i
      i = rows_same t.i t'.i s.i_rows s'.i_rows s.i_fits s'.i_fits
          (λ x y l m. bit_i t x y ∙ ap has_i (kinds x y l m) ∙ sym (bit_i t' x y))

      a : t.a ≡ t'.a
      a = rows_same t.a t'.a s.a_rows s'.a_rows s.a_fits s'.a_fits
          (λ x y l m. bit_a t x y ∙ ap has_a (kinds x y l m) ∙ sym (bit_a t' x y))

  -- and these rights: the founding board's, or as the rights bytes say, with none of who doesn't live
  pub same_rights : rights ≡ rights'
  same_rights = ⊎_elim
      (λ h. founding_only rights fit.rows h ∙ sym (founding_only rights' fit'.rows (sym alike ∙ h)))
      (λ h. ext_get_or 0 rights rights' (fit.rows ∙ sym fit'.rows) (λ x l. ⊎_elim
      (λ b. by_bytes (rw h at parts.held) x (omega (arith, fit.rows)) b)
      (λ b. fit.living x b ∙ sym (fit'.living x (ap (λ (s : ℕ). bit s x) (sym same_live) ∙ b)))
      (true_or_false (bit t.live x))))
      (true_or_false (founding? rights))
    where
      by_bytes : held_of t rights ≡ held_of t' rights' → (x : ℕ) → x < 64 → bit t.live x ≡ true → rights_of rights x ≡ rights_of rights' x
      by_bytes same x l b =
          let w = from_has 64 0 (bit t.live) x b zero-le (omega arith) in
          let here = map_at (rights_of rights) (roles_of t rights) w.at w.inside ∙ ap (rights_of rights) w.is in
          let there = map_at (rights_of rights') (roles_of t' rights') w.at (subst (λ (l : List ℕ). w.at < length l) parts.roles w.inside)
          ∙ ap (rights_of rights') (ap (λ (l : List ℕ). byte l w.at) (sym parts.roles) ∙ w.is) in
          sym here ∙ ap (λ (l : List ℕ). byte l w.at) same ∙ there
