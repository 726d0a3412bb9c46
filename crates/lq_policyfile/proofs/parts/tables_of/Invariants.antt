use Rattle.std.proofs.Common.{◌≡◌, ◌++◌, drop, map}
use Rattle.lq_policyfile.specs.File.{table_part}
use Rattle.lq_policyfile.proofs.parts.tables_of.Given as goal

-- the tables from this number on follow
abbrev pub invariant-loop-number : goal.invariant-loop-number
invariant-loop-number l =
    l.parts ++ map (λ table. table_part l.entries table.schema) (drop l.number l.store) ≡ map (λ table. table_part l.entries table.schema) l.store
