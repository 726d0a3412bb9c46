use Rattle.std.proofs.Common.{◌∙◌, sym}
use Rattle.lq_load.proofs.NumberLemmas.{decimal_stops}
use Rattle.lq_load.proofs.number.natural.Goals as goal

pub returns-then-value-limit-clause-value : goal.returns-then-value-limit-clause-value
returns-then-value-limit-clause-value c =
    sym (decimal_stops c.args.limit c.loop-digit.value c.loop-digit.digit-index c.args.digits.now c.loop-digit-test.true c.if-value-limit.true) ∙ c.loop-digit.invariant.same
