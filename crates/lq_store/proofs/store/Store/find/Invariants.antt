use Rattle.std.proofs.Common.{◌≡◌, drop}
use Rattle.std.specs.Prelude.{nat_eq}
use Rattle.std.specs.List.{position_from}
use Rattle.std.specs.Cmp.Lexicographic.{pointwise}
use Rattle.lq_value.specs.Tables.{first_named}
use Rattle.lq_store.specs.Rules.{name_of}
use Rattle.lq_store.proofs.store.Store.find.Given as goal

-- no table so far has the name
abbrev pub invariant-loop-number : goal.invariant-loop-number
invariant-loop-number l =
    position_from (λ t. pointwise nat_eq (name_of t) l.name) l.number (drop l.number l.table-items) ≡ first_named name_of l.name l.table-items
