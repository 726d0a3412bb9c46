use Rattle.std.proofs.Common.{◌≤◌, arith}
use Rattle.std.proofs.lemmas.Bool.Decides.{nat_tests}
use Rattle.lq_grammar.specs.Tokens.{decimal_value}
use Rattle.lq_lex.proofs.DigitLaws.{past_limit}
use Rattle.lq_command.proofs.command.value_of.Goals as goal

pub returns-then-value-ge-NUMBER_LIMIT : goal.returns-then-value-ge-NUMBER_LIMIT
returns-then-value-ge-NUMBER_LIMIT c =
    let above : 1000000000000000000 ≤ decimal_value c.args.digits.now = past_limit c.args.digits.now c.loop-digit.digit-index c.loop-digit.value 1000000000000000000 0 (omega arith) c.loop-digit.invariant.0 (omega arith) in
    grind (arith, nat_tests)
