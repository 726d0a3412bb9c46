use Rattle.std.proofs.Common.{◌≡◌, map, take}
use Rattle.lq_tree.specs.Binding.{type_of_field}
use Rattle.lq_bind.proofs.fields.types_of.Given as goal

-- the names and types of the members so far
abbrev pub invariant-loop-field : goal.invariant-loop-field
invariant-loop-field l = l.types ≡ map type_of_field (take l.field-index l.fields)
