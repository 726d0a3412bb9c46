use Rattle.std.proofs.Common.{◌≤◌, arith}
use Rattle.std.proofs.lemmas.Bool.Decides.{nat_tests}
use Rattle.lq_grammar.specs.Tokens.{decimal_value}
use Rattle.lq_lex.proofs.DigitLaws.{past_limit}
use Rattle.lq_lex.proofs.literals.int_value.Goals as goal

pub returns-then-value-from : goal.returns-then-value-from
returns-then-value-from c =
    let above : 2147483648 ≤ decimal_value c.args.digits.now = past_limit c.args.digits.now c.loop-digit.digit-index c.loop-digit.value 2147483648 0 (omega arith) c.loop-digit.invariant.0 (omega arith) in
    grind (arith, nat_tests)
