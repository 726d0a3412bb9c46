use Rattle.std.proofs.Common.{Result, subst}
use Rattle.lq_value.specs.declared.value.Fault.{Fault}
use Rattle.lq_value.specs.declared.value.Value.{Value}
use Rattle.lq_operators.specs.Answers.{IsAnswer}
use Rattle.lq_operators.proofs.ArgumentLemmas.{given_anywhere}
use Rattle.lq_operators.proofs.given_methods.given.Goals as goal

pub returns : goal.returns
returns g c world null =
    subst (λ (meant : Result (Value g.row.R.Denot) Fault). IsAnswer meant c.answer_of.result)
    (given_anywhere world null c.args.method c.args.argument (c.args.items, c.args.end)) c.answer_of.ensures
