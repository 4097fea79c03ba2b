use mathlib.Core.Path.{refl, sym, ◌∙◌, subst}
use mathlib.Core.Logic.{⊎_elim}
use Prim.Native.Nat.{ℕ}
use Rattle.std.specs.Prelude.{◌≡◌, Err}
use Rattle.sets.specs.Sets.{◌is_in◌}
use Rattle.sets.proofs.Bools.{false_no}
use Rattle.hierarchy.specs.Views.{ScopeBy}
use Rattle.board.specs.Answers.{number_of, answer}
use Rattle.board.specs.declared.answers.Cause.{Cause}
use Rattle.board.specs.declared.answers.Refusal.TheVariants.{OutOfScope}
use Rattle.refusals.specs.Refusals.{conditions, Offends}
use Rattle.refusals.specs.Trusting.{BlamesBy}
use Rattle.refusals.proofs.Blaming.{offends_alike, offender_some, blames_itself, blames_barred, barred}
use Rattle.refusals.proofs.offending.blame.Goals as goal
use Rattle.refusals.proofs.offending.blame.Goals.{then-o+then-o-actor, else-o}

pub unwrap-o-requires : goal.unwrap-o-requires
unwrap-o-requires c = offender_some _ c.offending.result c.requires.1 c.offending.ensures

pub unwrap-requires : goal.unwrap-requires
unwrap-requires c =
    let k = c.args.kept.now in
    let f = c.args.f.now in
    let h = rw c.unwrap-o.ensures at c.offending.ensures in
    barred k.derives k.derivers f.command (offends_alike (λ (a x : ℕ). x is_in c.args.all) (ScopeBy k.derives k.derivers) f.command.actor c.requires.0 h.1)
    (λ t e. ⊎_elim (λ w. w.1 (sym e)) (λ w. false_no w t) c.else-o.either) c.bars.result c.bars.ensures

pub returns : goal.returns
returns c =
    let k = c.args.kept.now in
    let f = c.args.f.now in
    let o = c.unwrap-o.result in
    let h = rw c.unwrap-o.ensures at c.offending.ensures in
    let offender : Offends (ScopeBy k.derives k.derivers) f.command.actor (conditions f.command) o.role o.strict =
    offends_alike (λ (a x : ℕ). x is_in c.args.all) (ScopeBy k.derives k.derivers) f.command.actor c.requires.0 h.1 in
    let Says : Cause → Type 0 = λ (cause : Cause). (number_of (OutOfScope o.role cause) ≡ 6) × BlamesBy k.derives k.derivers f.command (answer {A = Unit {0}} (Err (OutOfScope o.role cause))) in
    elim c.if-o.branch [
      | then-o+then-o-actor w ↦ subst Says (sym w.cause-is) (refl, blames_itself f.command offender w.if-o.true (sym w.if-o-actor.true))
      | else-o w ↦
          subst Says (sym (w.cause-is ∙ w.from-cause.ensures)) (
            refl,
            blames_barred k.derives k.derivers f.command offender
                (λ t e. ⊎_elim (λ v. v.1 (sym e)) (λ v. false_no v t) w.else-o.either) w.unwrap.result (rw w.unwrap.ensures at w.bars.ensures),
          )
    ]
