use Rattle.std.proofs.Common.{◌≡◌, ◌≤◌, drop}
use Rattle.lq_load.specs.Cells.{bounded, natural_of}
use Rattle.lq_load.proofs.NumberLemmas.{decimal}
use Rattle.lq_load.proofs.number.natural.Given as goal

-- the digits so far spell the value
abbrev pub invariant-loop-digit : goal.invariant-loop-digit
invariant-loop-digit l = record {
  within : l.value ≤ l.limit;
  same : bounded l.limit (decimal l.value (drop l.digit-index l.digits)) ≡ bounded l.limit (natural_of l.digits);
}
