use Rattle.std.proofs.Common.{codes, false, refl}
use Rattle.std.proofs.lemmas.Str.Pattern.{ends_text}
use Rattle.lq_serve.proofs.NamingLemmas.{without_ending-cut}
use Rattle.lq_serve.proofs.naming.without_ending.Goals as goal

pub returns-in-Some : goal.returns-in-Some
returns-in-Some c =
    let cut = c.in-Some.ensures.cases in
    without_ending-cut c.args.name.now c.in-Some.front.now cut.0 cut.1.0 cut.1.1 cut.2

pub returns-in-None : goal.returns-in-None
returns-in-None c = rw (← ends_text false (codes ".csv") c.args.name.now c.in-None.ensures.cases) refl
