use Rattle.std.proofs.Common.{◌≡◌, ◌<◌, ◌+◌, ◌*◌, ◌-◌, drop}
use Rattle.std.specs.List.{fold}
use Rattle.lq_grammar.specs.Tokens.{decimal_value}
use Rattle.lq_command.proofs.command.value_of.Given as goal

abbrev pub invariant-loop-digit : goal.invariant-loop-digit
invariant-loop-digit l = (fold (λ value digit. value * 10 + (digit - 48)) l.value (drop l.digit-index l.digits) ≡ decimal_value l.digits) × (l.value < 1000000000000000000)
