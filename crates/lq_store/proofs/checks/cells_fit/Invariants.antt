use Rattle.std.proofs.Common.{◌≡◌, take, true}
use Rattle.std.specs.List.{list_all}
use Rattle.lq_store.specs.Rules.{is_of_32_bits}
use Rattle.lq_store.proofs.checks.cells_fit.Given as goal

-- Those so far are of 32 bits.
abbrev pub invariant-loop-held : goal.invariant-loop-held
invariant-loop-held l = list_all is_of_32_bits (take l.held-index l.fn.cells) ≡ true
