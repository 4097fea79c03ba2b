use mathlib.Core.Path.{◌≡◌, refl, sym, ap, ◌∙◌, subst}
use native.Mathlib.Omega.{arith}
use Prim.Native.Nat.{ℕ, ◌+◌, ◌*◌, ◌-◌}
use lib.ListN.{take, drop}
use Rattle.frames.proofs.Frames.{announced}
use Rattle.boardfile.specs.Parts.{GoodRoles}
use Rattle.boardfile.proofs.EdgeRecords.{edges_start, edges_late, edges_wrong, spelt_itself, edges_turn, edges_end}
use Rattle.boardfile.proofs.reader.edges.Goals as goal

pub loop-bytes-init : goal.loop-bytes-init
loop-bytes-init c =
    let f = c.args.f.now in
    let h = c.chunks_exact-bytes-items.ensures in
    let e : f.layout.roles + 3 * f.layout.edges - f.layout.roles ≡ 3 * f.layout.edges = omega arith in
    (refl, rw c.into_iter-bytes-iterator.ensures.into_iter_gives (edges_start _ _ _ _ refl refl h.size (h.rest ∙ ap (λ (k : ℕ). take k (drop f.layout.roles f.file.now)) e)))

pub returns-in_default : goal.returns-in_default
returns-in_default c =
    let f = c.args.f.now in
    let l = c.loop-bytes.invariant in
    (edges_wrong _ (announced f.framed) l.1 c.in-Some.ensures.steps.1 spelt_itself (subst (GoodRoles _ _) (sym l.0) f.listed) c.in_default.ensures, refl)

pub returns-then-place-next : goal.returns-then-place-next
returns-then-place-next c =
    let f = c.args.f.now in
    let l = c.loop-bytes.invariant in
    (edges_late _ (announced f.framed) l.1 c.in-Some.ensures.steps.1 c.in-Some-spelt.ensures.0 (omega (arith, c.place.ensures, c.if-place-next.true)), refl)

pub loop-bytes-preserved : goal.loop-bytes-preserved
loop-bytes-preserved c =
    let f = c.args.f.now in
    let l = c.loop-bytes.invariant in
    let steps = c.in-Some.ensures.steps in
    let read = c.in-Some-spelt.ensures in
    let e = c.enter.ensures in (
      e.live_stays ∙ l.0,
      rw (e.live_stays, c.place-next.ensures) (edges_turn _ (announced f.framed) l.1 steps.1 read.0
          (omega (arith, l.0, f.listed)) read.1 (omega (arith, c.place.ensures, c.if-place-next.false)) e.i_grown e.a_grown steps.0),
    )

pub returns : goal.returns
returns c = (c.loop-bytes.invariant.0, edges_end (announced c.args.f.now.framed) c.loop-bytes.invariant.1 c.in-None.ensures.steps.1.0)
