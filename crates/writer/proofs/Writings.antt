-- The loops that put role bytes, rights bytes and edge records, and the parts of a file put one behind the other. Assumes nothing.
use mathlib.Core.Path.{◌≡◌, refl, sym, ap, ap₂, ◌∙◌, subst, subst₂}
use mathlib.Core.Bool.{Bool, true, false, cond, not, ◌||◌}
use mathlib.Core.List.{List, [], ◌∷◌, ◌++◌, map, append_assoc, map-id}
use Prim.Native.Nat.{ℕ, suc, ◌+◌, ◌-◌, ◌*◌, ◌/◌, ◌%◌, ◌≤◌, ◌<◌, zero-le}
use native.Mathlib.Nat.{zero-add, le_refl}
use native.Mathlib.Omega.{arith}
use lib.Dec.{eqb}
use lib.ListN.{length, take, drop, set, length-append, length-drop, length-map}
use lib.Seq.{take_all}
use borrow.Rule.Slice.PartMut.{mid_of, put_mid}
use Rattle.std.specs.Int.{from_bool, w16, to_le_bytes}
use Rattle.std.specs.List.{AllZip}
use Rattle.std.proofs.lemmas.Slice.Zip.{AllZip-long, AllZip-map, all_zipped_more}
use Rattle.sets.specs.Sets.{bit, Taken, NoRole}
use Rattle.hierarchy.specs.Tables.{Tables, row, kind_of, kind}
use Rattle.board.specs.Rights.{rights_of}
use Rattle.frames.specs.Frames.{byte, trailer, rights_trailer, edges_back}
use Rattle.frames.specs.Framing.{trailer_of}
use Rattle.frames.proofs.Bytes.{whole, bytes, take_bytes}
use Rattle.writer.specs.Files.{from, edge?, edge_bytes, records, kind_at, file_of}
use Rattle.writer.specs.Parts.{Put, PutEach, last_six, row_bytes, tail_of, tail_length, TailRoom, Room}
use Rattle.writer.proofs.Ascending.{from_mono, from_short}
use Rattle.writer.proofs.EdgeBytes.{records_append, edge_split, edge_same, edge_few, edge_mono, file_whole}
use Rattle.writer.proofs.Puts.{put_length, put_more, put_copied, low_high, put_part, put_first, put_last, rest_long, Taking, taking_start, taking_next, taking_turn, taking_end}

-- ---- a byte for each live role

pub record EachPut (Gives : ℕ → ℕ → Type 0) (live : ℕ) (d out : List ℕ) (rest k : ℕ) : Type 0 where
  pub next : ℕ
  pub taking : Taking (bit live) 0 rest next
  pub bytes : List ℕ
  pub each : AllZip Gives (from next 0 (bit live)) bytes
  pub put : Put bytes d out
  pub count : k ≡ length bytes

pub each_put_start : (Gives : ℕ → ℕ → Type 0) (live rest k : ℕ) (d : List ℕ) → rest ≡ live → k ≡ 0 → EachPut Gives live d d rest k
unfolding from
each_put_start Gives live rest k d e z = record {
  next = 0;
  taking = taking_start (bit live) 0 rest (λ y l. ap₂ bit e (sym (zero-add y)));
  bytes = [];
  each = tt;
  put = refl;
  count = z;
}

module _ {Gives : ℕ → ℕ → Type 0} {live rest k : ℕ} {d out : List ℕ} (room : length (from 64 0 (bit live)) ≤ length d) (inv : EachPut Gives live d out rest k) where
  as_many : length inv.bytes ≡ length (from inv.next 0 (bit live))
  as_many = AllZip-long Gives (from inv.next 0 (bit live)) inv.bytes inv.each

  pub each_put_same : length out ≡ length d
  each_put_same = put_length inv.bytes d out inv.put (omega (arith, as_many, from_mono inv.next 64 0 (bit live) inv.taking.small))

  pub each_put_end : NoRole rest → PutEach Gives (from 64 0 (bit live)) d out
  each_put_end n = (inv.bytes, subst (λ (l : List ℕ). AllZip Gives l inv.bytes) (sym (taking_end inv.taking n)) inv.each, inv.put)

  module _ {r rest' : ℕ} (t : Taken rest r rest') where
    grows : from (suc r) 0 (bit live) ≡ from inv.next 0 (bit live) ++ (r ∷ [])
    grows = taking_next inv.taking t.lowest ∙ ap (λ (x : ℕ). from inv.next 0 (bit live) ++ (x ∷ [])) (zero-add r)

    fits : length inv.bytes < length d
    fits = omega (arith, as_many, ap length grows, length-append (from inv.next 0 (bit live)) (r ∷ []), from_mono (suc r) 64 0 (bit live) t.lowest.role)

    pub each_put_room : (j : ℕ) → j ≡ k → j < length out
    each_put_room j e = omega (arith, each_put_same, inv.count, fits)

    pub each_put_turn : (j b k' : ℕ) → j ≡ k → Gives r b → k' ≡ k + 1 → EachPut Gives live d (set out j b) rest' k'
    each_put_turn j b k' e g more = record {
      next = suc r;
      taking = taking_turn inv.taking t.lowest rest' t.rest_is;
      bytes = inv.bytes ++ (b ∷ []);
      each = subst (λ (l : List ℕ). AllZip Gives l (inv.bytes ++ (b ∷ []))) (sym grows) (all_zipped_more Gives (from inv.next 0 (bit live)) inv.bytes r b inv.each g);
      put = put_more inv.bytes d out j b inv.put (e ∙ inv.count) fits;
      count = omega (arith, inv.count, length-append inv.bytes (b ∷ []));
    }

-- the bytes are what a function of the roles gives
pub each_is : (g : ℕ → ℕ) {Gives : ℕ → ℕ → Type 0} (xs : List ℕ) {d out : List ℕ} → ((x y : ℕ) → Gives x y → y ≡ g x) → PutEach Gives xs d out → Put (map g xs) d out
each_is g {Gives} xs {d} {out} h p = subst (λ (l : List ℕ). Put l d out) (AllZip-map g xs p.0 (weaker xs p.0 p.1)) p.2
  where
    weaker : (xs ys : List ℕ) → AllZip Gives xs ys → AllZip (λ x y. y ≡ g x) xs ys
    weaker [] [] z = tt
    weaker [] (y ∷ ys) z = z
    weaker (x ∷ xs) [] z = z
    weaker (x ∷ xs) (y ∷ ys) z = (h x y z.0, weaker xs ys z.1)

pub each_itself : {Gives : ℕ → ℕ → Type 0} (xs : List ℕ) {d out : List ℕ} → ((x y : ℕ) → Gives x y → y ≡ x) → PutEach Gives xs d out → Put xs d out
each_itself xs {d} {out} h p = subst (λ (l : List ℕ). Put l d out) (map-id xs) (each_is (λ x. x) xs h p)

-- ---- the edge records of senior x, by its rows

abbrev row_kinds : ℕ → ℕ → ℕ → ℕ
row_kinds i a e = kind_of (bit i (e % 64)) (bit a (e % 64))

pub kind_some : (p q : Bool) → not (eqb (kind_of p q) 0) ≡ (p || q)
kind_some true true = refl
kind_some true false = refl
kind_some false true = refl
kind_some false false = refl

pub kind_num : (p q : Bool) (x y : ℕ) → x ≡ from_bool p → y ≡ from_bool q → x + 2 * y ≡ kind_of p q
kind_num true true x y e d = omega arith
kind_num true false x y e d = omega arith
kind_num false true x y e d = omega arith
kind_num false false x y e d = omega arith

pub record RowPut (x i a : ℕ) (d out : List ℕ) (rest k : ℕ) : Type 0 where
  pub next : ℕ
  pub taking : Taking (edge? (row_kinds i a)) (x * 64) rest next
  pub put : Put (edge_bytes (row_kinds i a) next (x * 64)) d out
  pub count : k ≡ length (edge_bytes (row_kinds i a) next (x * 64))

pub row_put_start : (x i a s rest : ℕ) (d : List ℕ) → rest ≡ s → ((y : ℕ) → bit s y ≡ (bit i y || bit a y)) → RowPut x i a d d rest 0
unfolding from edge_bytes records
row_put_start x i a s rest d e h = record {
  next = 0;
  taking = taking_start (edge? (row_kinds i a)) (x * 64) rest (λ y l. let m : (x * 64 + y) % 64 ≡ y = omega arith in rw m (ap (λ (n : ℕ). bit n y) e ∙ h y ∙ sym (kind_some (bit i y) (bit a y))));
  put = refl;
  count = refl;
}

module _ {x i a rest k : ℕ} {d out : List ℕ} (room : length (row_bytes x i a) ≤ length d) (inv : RowPut x i a d out rest k) where
  pub row_put_same : length out ≡ length d
  unfolding row_bytes
  row_put_same =
      put_length (edge_bytes (row_kinds i a) inv.next (x * 64)) d out inv.put
      (omega (arith, edge_mono inv.next 64 (x * 64) (row_kinds i a) inv.taking.small))

  ended : NoRole rest → edge_bytes (row_kinds i a) inv.next (x * 64) ≡ row_bytes x i a
  unfolding row_bytes edge_bytes
  ended n = ap (records (row_kinds i a)) (sym (taking_end inv.taking n))

  pub row_put_end : NoRole rest → (k ≡ length (row_bytes x i a)) × Put (row_bytes x i a) d out
  row_put_end n = (inv.count ∙ ap length (ended n), subst (λ (l : List ℕ). Put l d out) (ended n) inv.put)

  module _ {r rest' : ℕ} (t : Taken rest r rest') where
    -- the three bytes of junior r
    more : edge_bytes (row_kinds i a) (suc r) (x * 64) ≡ edge_bytes (row_kinds i a) inv.next (x * 64) ++ (x ∷ r ∷ kind_of (bit i r) (bit a r) ∷ [])
    unfolding edge_bytes records
    more =
        let s : (x * 64 + r) / 64 ≡ x = omega (arith, t.lowest.role) in
        let j : (x * 64 + r) % 64 ≡ r = omega (arith, t.lowest.role) in
        ap (records (row_kinds i a)) (taking_next inv.taking t.lowest)
        ∙ records_append (row_kinds i a) (from inv.next (x * 64) (edge? (row_kinds i a))) ((x * 64 + r) ∷ [])
        ∙ rw (s, j)

    triple_fits : length (edge_bytes (row_kinds i a) inv.next (x * 64)) + 3 ≤ length d
    unfolding row_bytes
    triple_fits =
        omega (
          arith,
          ap length more,
          length-append (edge_bytes (row_kinds i a) inv.next (x * 64)) (x ∷ r ∷ kind_of (bit i r) (bit a r) ∷ []),
          edge_mono (suc r) 64 (x * 64) (row_kinds i a) t.lowest.role,
        )

    pub row_put_room : k + 3 ≤ length out
    row_put_room = omega (arith, row_put_same, inv.count, triple_fits)

    pub row_put_turn : (part : List ℕ) (n z : ℕ) → n ≡ 3 → z ≡ kind_of (bit i r) (bit a r) → part ≡ x ∷ r ∷ z ∷ [] → RowPut x i a d (put_mid k n out part) rest' (k + 3)
    row_put_turn part n z w g e = record {
      next = suc r;
      taking = taking_turn inv.taking t.lowest rest' t.rest_is;
      put = subst (λ (l : List ℕ). Put l d (put_mid k n out part)) (sym more)
          (put_copied (edge_bytes (row_kinds i a) inv.next (x * 64)) (x ∷ r ∷ kind_of (bit i r) (bit a r) ∷ []) d out part k n inv.put inv.count (sym w) (omega (arith, row_put_room))
          (e ∙ ap (λ (k : ℕ). x ∷ r ∷ k ∷ []) g));
      count = omega (arith, inv.count, ap length more, length-append (edge_bytes (row_kinds i a) inv.next (x * 64)) (x ∷ r ∷ kind_of (bit i r) (bit a r) ∷ []));
    }

-- ---- the edge records of all seniors: those below x are put

row_is : (t : Tables) (x : ℕ) → edge_bytes (kind_at t) 64 (x * 64) ≡ row_bytes x (row t.i x) (row t.a x)
unfolding row_bytes kind_at kind
row_is t x = edge_same 64 (x * 64) (kind_at t) (row_kinds (row t.i x) (row t.a x)) (λ e l h. let q : e / 64 ≡ x = omega arith in rw q)

pub record EdgesPut (t : Tables) (d out : List ℕ) (at x : ℕ) : Type 0 where
  pub put : Put (edge_bytes (kind_at t) (x * 64) 0) d out
  pub count : at ≡ length (edge_bytes (kind_at t) (x * 64) 0)
  pub within : x ≤ 64

pub edges_put_start : (t : Tables) (d : List ℕ) → EdgesPut t d d 0 0
unfolding from edge_bytes records
edges_put_start t d = record { put = refl; count = refl; within = omega arith }

module _ {t : Tables} {d out : List ℕ} {at x : ℕ} (room : length (edge_bytes (kind_at t) 4096 0) ≤ length d) (inv : EdgesPut t d out at x) where
  pub edges_put_same : length out ≡ length d
  edges_put_same = put_length (edge_bytes (kind_at t) (x * 64) 0) d out inv.put (omega (arith, edge_mono (x * 64) 4096 0 (kind_at t) (omega (arith, inv.within))))

  module _ (l : x < 64) where
    longer : edge_bytes (kind_at t) ((x + 1) * 64) 0 ≡ edge_bytes (kind_at t) (x * 64) 0 ++ row_bytes x (row t.i x) (row t.a x)
    longer =
        let w : (x + 1) * 64 ≡ x * 64 + 64 = omega arith in
        ap (λ (n : ℕ). edge_bytes (kind_at t) n 0) w
        ∙ edge_split (x * 64) 64 0 (kind_at t)
        ∙ ap (λ (r : List ℕ). edge_bytes (kind_at t) (x * 64) 0 ++ r) (ap (edge_bytes (kind_at t) 64) (zero-add (x * 64)) ∙ row_is t x)

    total : at + length (row_bytes x (row t.i x) (row t.a x)) ≡ length (edge_bytes (kind_at t) ((x + 1) * 64) 0)
    total = omega (arith, inv.count, ap length longer, length-append (edge_bytes (kind_at t) (x * 64) 0) (row_bytes x (row t.i x) (row t.a x)))

    pub edges_put_room : at + length (row_bytes x (row t.i x) (row t.a x)) ≤ length out
    edges_put_room = omega (arith, total, edges_put_same, edge_mono ((x + 1) * 64) 4096 0 (kind_at t) (omega arith))

    pub edges_put_turn : (part : List ℕ) (n : ℕ) → n ≡ length (row_bytes x (row t.i x) (row t.a x))
        → Put (row_bytes x (row t.i x) (row t.a x)) (mid_of at (length out - at) out) part → EdgesPut t d (put_mid at (length out - at) out part) (at + n) (x + 1)
    edges_put_turn part n e p = record {
      put = subst (λ (r : List ℕ). Put r d (put_mid at (length out - at) out part)) (sym longer)
          (put_last (edge_bytes (kind_at t) (x * 64) 0) (row_bytes x (row t.i x) (row t.a x)) d out part at inv.put inv.count
          (omega (arith, edges_put_room, edges_put_same)) p);
      count = ap (λ (m : ℕ). at + m) e ∙ total;
      within = omega arith;
    }

-- ---- what lies behind the edge records

pub last_six_put : (d : List ℕ) (e r : ℕ) (mark x y z : List ℕ) → e < 65536 → r < 65536 → length mark ≡ 2 → 6 ≤ length d
    → x ≡ to_le_bytes w16 e → y ≡ to_le_bytes w16 r → z ≡ mark
    → Put (last_six e r mark) d (put_mid 4 2 (put_mid 2 2 (x ++ drop 2 d) y) z)
unfolding last_six bytes
last_six_put d e r mark x y z le lr two l ex ey ez =
    let one = ap (λ (b : List ℕ). b ++ drop 2 d) (ex ∙ low_high e le) in
    let fits : length (x ++ drop 2 d) ≡ length d = ap length one ∙ omega (arith, length-drop 2 d) in
    let next = put_copied (e % 256 ∷ e / 256 ∷ []) (r % 256 ∷ r / 256 ∷ []) d (x ++ drop 2 d) y 2 2 one refl refl (omega arith) (ey ∙ low_high r lr) in
    let fit : length (put_mid 2 2 (x ++ drop 2 d) y) ≡ length d = put_length (e % 256 ∷ e / 256 ∷ r % 256 ∷ r / 256 ∷ []) d (put_mid 2 2 (x ++ drop 2 d) y) next (omega arith) in
    put_copied (e % 256 ∷ e / 256 ∷ r % 256 ∷ r / 256 ∷ []) (byte mark 0 ∷ byte mark 1 ∷ []) d (put_mid 2 2 (x ++ drop 2 d) y) z 4 2 next refl refl (omega arith) (ez ∙ both mark two)
  where
    both : (m : List ℕ) → length m ≡ 2 → m ≡ byte m 0 ∷ byte m 1 ∷ []
    both m e = sym (take_all 2 m (omega arith)) ∙ take_bytes 2 m 0 (omega arith)

pub rights_trailer_put : (d : List ℕ) (h e r : ℕ) (x part : List ℕ) → 8 ≤ length d → h < 65536 → x ≡ to_le_bytes w16 h → let two = x ++ drop 2 d in
    Put (last_six e r (72 ∷ 82 ∷ [])) (mid_of 2 (length two - 2) two) part → Put (rights_trailer h e r) d (put_mid 2 (length two - 2) two part)
unfolding rights_trailer last_six
rights_trailer_put d h e r x part l lh ex p =
    put_last (h % 256 ∷ h / 256 ∷ []) (last_six e r (72 ∷ 82 ∷ [])) d (x ++ drop 2 d) part 2 (ap (λ (b : List ℕ). b ++ drop 2 d) (ex ∙ low_high h lh)) refl l p

tail_long : (plain : Bool) (live : ℕ) (rights : List ℕ) (roles edges : ℕ) → roles ≡ length (from 64 0 (bit live)) → length (tail_of plain live rights roles edges) ≡ tail_length plain roles
unfolding tail_of tail_length trailer_of trailer rights_trailer
tail_long true live rights roles edges e = refl
tail_long false live rights roles edges e = simp (length-append, length-map) (omega arith)

pub back_few : (n e : ℕ) → edges_back n e ≤ n + e
unfolding edges_back
back_few n e = go (eqb e 0)
  where
    go : (p : Bool) → cond p 0 (n + e) ≤ n + e
    go true = zero-le
    go false = le_refl (n + e)

module _ {live roles edges : ℕ} {plain : Bool} {d : List ℕ} (room : TailRoom live plain roles edges d) where
  module _ (is : plain ≡ true) where
    pub plain_fits : (edges < 65536) × (roles + edges < 65536) × (6 ≤ length d)
    unfolding tail_length
    plain_fits = (omega (arith, room.few), omega (arith, room.few), rw is at room.enough)

    pub plain_put : (rights out : List ℕ) → Put (last_six edges (roles + edges) (72 ∷ 72 ∷ [])) d out → Put (tail_of plain live rights roles edges) d out
    unfolding last_six tail_of trailer_of trailer
    plain_put rights out p = rw is p

  module _ (is : plain ≡ false) where
    pub rights_fit : (roles ≤ 64) × (roles + 8 ≤ length d)
    unfolding tail_length
    rights_fit = (omega (arith, room.role_bytes, from_short 64 0 (bit live)), rw is at room.enough)

    module _ (rights p : List ℕ) (first : Put (map (rights_of rights) (from 64 0 (bit live))) (take roles d) p) where
      abbrev hs : List ℕ
      hs = map (rights_of rights) (from 64 0 (bit live))

      abbrev held : List ℕ
      held = p ++ drop roles d

      held_are : roles ≡ length hs
      held_are = room.role_bytes ∙ sym (length-map (from 64 0 (bit live)) (rights_of rights))

      held_put : Put hs d held
      held_put = put_first hs d p roles held_are (omega (arith, rights_fit)) first

      pub rights_put : (e : ℕ) → e ≡ edges_back roles edges → (q : List ℕ) → Put (rights_trailer roles e (2 * roles + edges)) (mid_of roles (length held - roles) held) q
          → Put (tail_of plain live rights roles edges) d (put_mid roles (length held - roles) held q)
      unfolding tail_of trailer_of rights_trailer
      rights_put e back q second =
          let two : 2 * roles + edges ≡ roles + edges + roles = omega arith in
          rw is
          (put_last hs (trailer_of false roles edges) d held q roles held_put held_are (omega (arith, rights_fit))
          (subst₂ (λ (b n : ℕ). Put (rights_trailer roles b n) (mid_of roles (length held - roles) held) q) back two second))

-- ---- the three parts

module _ {t : Tables} {rights : List ℕ} {plain : Bool} {roles edges : ℕ} {d : List ℕ} (room : Room t rights plain roles edges d) (p q : List ℕ)
    (first : Put (from 64 0 (bit t.live)) (take roles d) p)
    (second : Put (edge_bytes (kind_at t) 4096 0) (mid_of roles (roles + edges - roles) (p ++ drop roles d)) q)
  where
    abbrev rs : List ℕ
    rs = from 64 0 (bit t.live)

    abbrev es : List ℕ
    es = edge_bytes (kind_at t) 4096 0

    abbrev one : List ℕ
    one = p ++ drop roles d

    abbrev two : List ℕ
    two = put_mid roles (roles + edges - roles) one q

    abbrev last : List ℕ
    last = tail_of plain t.live rights roles edges

    one_put : Put rs d one
    one_put = put_first rs d p roles room.role_bytes (omega (arith, room.enough)) first

    one_long : length one ≡ length d
    one_long = put_length rs d one one_put (omega (arith, room.role_bytes, room.enough))

    two_put : Put (rs ++ es) d two
    two_put =
        put_part rs es d one q roles (roles + edges - roles) one_put room.role_bytes (omega (arith, room.edge_bytes_lem)) (omega (arith, one_long, room.enough)) second

    body : length (rs ++ es) ≡ roles + edges
    body = length-append rs es ∙ ap₂ ◌+◌ (sym room.role_bytes) (sym room.edge_bytes_lem)

    two_long : length two ≡ length d
    two_long = put_length (rs ++ es) d two two_put (omega (arith, body, room.enough))

    pub tail_room : TailRoom t.live plain roles edges (mid_of (roles + edges) (length two - (roles + edges)) two)
    tail_room = record {
      role_bytes = room.role_bytes;
      few = omega (arith, room.role_bytes, room.edge_bytes_lem, from_short 64 0 (bit t.live), edge_few 4096 0 (kind_at t));
      enough = omega (arith, rest_long (roles + edges) two, two_long, room.enough);
    }

    -- together they are the file
    together : rs ++ es ++ last ≡ file_of t rights
    unfolding tail_of
    together =
        sym (append_assoc (rs ++ es) (cond plain [] (map (rights_of rights) rs)) (trailer_of plain roles edges))
        ∙ ap₂ (λ (n e : ℕ). rs ++ es ++ cond plain [] (map (rights_of rights) rs) ++ trailer_of plain n e) room.role_bytes room.edge_bytes_lem
        ∙ ap (λ (p : Bool). whole p rs es (map (rights_of rights) rs)) room.which
        ∙ sym (file_whole t rights)

    pub file_put : (r : List ℕ) → Put (tail_of plain t.live rights roles edges) (mid_of (roles + edges) (length two - (roles + edges)) two) r
        → Put (file_of t rights) d (put_mid (roles + edges) (length two - (roles + edges)) two r)
    file_put r third =
        subst (λ (f : List ℕ). Put f d (put_mid (roles + edges) (length two - (roles + edges)) two r)) together
        (put_last (rs ++ es) last d two r (roles + edges) two_put (sym body)
        (omega (arith, tail_long plain t.live rights roles edges room.role_bytes, room.enough)) third)
