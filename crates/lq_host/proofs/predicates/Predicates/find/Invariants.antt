use Rattle.std.proofs.Common.{◌≡◌, drop}
use Rattle.std.specs.Prelude.{map, nat_eq}
use Rattle.std.specs.List.{position_from}
use Rattle.std.specs.Cmp.Lexicographic.{pointwise}
use Rattle.lq_value.specs.Tables.{first_named}
use Rattle.lq_host.specs.Predicates.{predicate_of}
use Rattle.lq_host.specs.Hosts.{name_of}
use Rattle.lq_host.proofs.predicates.Predicates.find.Given as goal

-- no predicate so far has the name
abbrev pub invariant-loop-number : goal.invariant-loop-number
invariant-loop-number g l =
    position_from (λ p. pointwise nat_eq (name_of p) l.name) l.number (map predicate_of (drop l.number l.predicate-items))
    ≡ first_named name_of l.name (map predicate_of l.predicate-items)
