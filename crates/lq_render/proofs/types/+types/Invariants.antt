use Rattle.std.proofs.Common.{◌≡◌, ◌++◌, true, drop, map, string_bytes}
use Rattle.lq_machine.specs.States.{schemas_of}
use Rattle.lq_render.specs.Types.{fields_text, type_part}
use Rattle.lq_render.proofs.types.+types.Given as goal

-- what is there and what is to come is the whole
abbrev pub invariant-push_fields-loop-name : goal.invariant-push_fields-loop-name
invariant-push_fields-loop-name l =
    string_bytes l.out ++ fields_text l.is_first (map (λ field. (field.0, type_part (schemas_of l.store) field.1)) (drop l.name-index l.fields))
    ≡ string_bytes l.initial.out ++ fields_text true (map (λ field. (field.0, type_part (schemas_of l.store) field.1)) l.fields)
