use native.Mathlib.Numerals.{unary_clauses}
use native.Mathlib.Omega.{arith}
use borrow.Author.Rules.{rules}
use Rattle.sets.proofs.Bools.{false_no}
use Rattle.sets.proofs.Laws.{bit_lt}
use Rattle.sets.proofs.Members.{drawn_less, drawn_by, picked, nobody}
use Rattle.hierarchy.proofs.Walk.{walk_start, walk_role, walk_stuck, walk_down, walk_ready, walk_end, walk_back}
use Rattle.hierarchy.proofs.views.descend.Goals as goal

pub overflow_cast-kept : goal.overflow_cast-kept
overflow_cast-kept c = let l = bit_lt 64 (search rules) c.requires.alive in omega arith

pub loop-y-init : goal.loop-y-init
loop-y-init c = walk_start c.minus.result c.without-fresh.result (search rules) (omega (arith, c.minus.type_inv)) c.requires c.minus.ensures c.without-fresh.ensures

pub bounds-t-x : goal.bounds-t-x
bounds-t-x c = walk_role c.loop-y.invariant

pub bounds-t-x-in-loop-y : goal.bounds-t-x-in-loop-y
bounds-t-x-in-loop-y c = walk_role c.loop-y.invariant

pub returns-then-not-within : goal.returns-then-not-within
returns-then-not-within c = walk_stuck c.loop-y.invariant c.union.result c.minus-waiting.result c.union.ensures c.minus-waiting.ensures (λ p. false_no c.if-not-within.true (c.within.ensures.1 p))

pub overflow_add-above : goal.overflow_add-above
overflow_add-above c = let d = drawn_by (picked c.in-Some.is c.lowest.ensures) (c.within.ensures.0 c.if-not-within.false) c.without-fresh-in-Some.ensures in record { fits = omega (arith, drawn_less d, c.loop-y.invariant.room) }

pub bounds-kept-above-in-Some : goal.bounds-kept-above-in-Some
bounds-kept-above-in-Some c = let d = drawn_by (picked c.in-Some.is c.lowest.ensures) (c.within.ensures.0 c.if-not-within.false) c.without-fresh-in-Some.ensures in omega (arith, drawn_less d, c.loop-y.invariant.room)

pub loop-y-smaller-in-Some : goal.loop-y-smaller-in-Some
loop-y-smaller-in-Some c = let d = drawn_by (picked c.in-Some.is c.lowest.ensures) (c.within.ensures.0 c.if-not-within.false) c.without-fresh-in-Some.ensures in omega (arith, drawn_less d)

pub loop-y-preserved-in-Some : goal.loop-y-preserved-in-Some
loop-y-preserved-in-Some c =
    let l = picked c.in-Some.is c.lowest.ensures in
    let d = drawn_by l (c.within.ensures.0 c.if-not-within.false) c.without-fresh-in-Some.ensures in
    simp unary_clauses (walk_down c.loop-y.invariant c.union.result c.minus-waiting.result c.union.ensures c.minus-waiting.ensures l.member d)

pub finish-done-requires : goal.finish-done-requires
finish-done-requires c = walk_ready c.loop-y.invariant c.union.result c.minus-waiting.result c.union.ensures c.minus-waiting.ensures (nobody c.in_default.is c.lowest.ensures)

pub returns-then-above-eq0 : goal.returns-then-above-eq0
returns-then-above-eq0 c = walk_end c.loop-y.invariant c.finish-done.result c.finish-done.ensures c.if-above-eq0.true

pub loop-y-preserved : goal.loop-y-preserved
loop-y-preserved c = walk_back c.loop-y.invariant c.finish-done.result c.finish-done.ensures c.if-above-eq0.false
