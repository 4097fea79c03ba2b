use mathlib.Core.Path.{◌≡◌}
use borrow.Author.Rules.{rules}
use Rattle.std.proofs.lemmas.Result.{err_from_is_err_and}
use Rattle.boardfile.specs.declared.change.Rejected.TheVariants.{File, Asked}
use Rattle.boardfile.proofs.Commanding.{done_before, refused_before, one_error, unread_as, asked_as}
use Rattle.boardfile.proofs.change.command.Goals as goal

pub returns-in_err-map_err : goal.returns-in_err-map_err
returns-in_err-map_err c =
    let e = refused_before c.«open».result c.map_err.result c.map_err.ensures.variant c.in_err-map_err.was in
    let opened = rw e.1 at c.«open».ensures in
    let cases = rw e.1 at c.map_err.ensures.cases in
    let named = err_from_is_err_and c.map_err.result cases in
    let learnt = named.2 in
    let kind : named.0 ≡ File e.0 = search rules in
    let p = err_from_is_err_and c.from_residual.result c.from_residual.ensures.1 in
    rw (p.1, p.2, one_error c.in_err-map_err.was named.1, kind) (unread_as e.0 opened)

pub returns-in_err-map_err-2 : goal.returns-in_err-map_err-2
returns-in_err-map_err-2 c =
    let z = done_before c.«open».result c.map_err.result c.map_err.ensures.variant c.in_ok-map_err.was in
    let opened = rw z at c.«open».ensures in
    let e = refused_before c.decide_trusting.result c.map_err-2.result c.map_err-2.ensures.variant c.in_err-map_err-2.was in
    let decided = rw e.1 at c.decide_trusting.ensures in
    let cases = rw e.1 at c.map_err-2.ensures.cases in
    let named = err_from_is_err_and c.map_err-2.result cases in
    let learnt = named.2 in
    let kind : named.0 ≡ Asked e.0 = search rules in
    let p = err_from_is_err_and c.from_residual-in_err-map_err-2.result c.from_residual-in_err-map_err-2.ensures.1 in
    rw (p.1, p.2, one_error c.in_err-map_err-2.was named.1, kind) (asked_as opened e.0 decided)
