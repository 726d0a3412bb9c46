use Rattle.std.proofs.Common.{◌≡◌}
use Rattle.std.specs.List.{list_all}
use Rattle.std.specs.Map.{keys_of}
use Rattle.lq_policyfile.proofs.ShapeLemmas.{is_one_of}
use Rattle.lq_policyfile.proofs.shape.value.has_only.Given as goal

-- the keys that are left decide
abbrev pub invariant-loop-key : goal.invariant-loop-key
invariant-loop-key l = list_all (is_one_of l.keys) l.key-iterator ≡ list_all (is_one_of l.keys) (keys_of l.table.entries)
