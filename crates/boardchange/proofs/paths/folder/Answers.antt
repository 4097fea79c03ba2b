use Rattle.std.proofs.Common.{Some, None, inl, inr, lit<, rules, arith}
use Rattle.std.proofs.lemmas.Grind.{common_steps}
use Rattle.std.proofs.lemmas.Str.Pattern.{rfind_char}
use Rattle.boardchange.proofs.paths.folder.Goals as goal

pub returns-in-Some : goal.returns-in-Some
returns-in-Some c =
    let last = rfind_char 47 c.args.name.now (Some c.in-Some.at) c.in-Some.ensures.cases (lit< tt) in
    inr (c.in-Some.at, last.0, last.1, λ k a l. last.2 k (omega arith) l, grind (arith, common_steps))

pub returns-in-None : goal.returns-in-None
returns-in-None c =
    let none = rfind_char 47 c.args.name.now None c.in-None.ensures.cases (lit< tt) in
    inl (λ k _ l. none k l, search rules)
