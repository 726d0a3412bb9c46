-- What each function goes down by: the size of the type, and at one size how far it is from `push_shown`; and what each loop keeps.
use Rattle.std.proofs.Common.{◌≡◌, ◌+◌, ◌*◌, ◌++◌, flat_map, map, string_bytes, take}
use Rattle.serde_json.specs.View.{view}
use Rattle.lq_value.specs.declared.ty.Ty.{size-Ty}
use Rattle.lq_machine.specs.States.{schemas_of}
use Rattle.lq_render.specs.Layouts.{items_by_type}
use Rattle.lq_render.specs.Parts.{group_text, sequence_text}
use Rattle.lq_render.proofs.nested.+nested.Given as goal

abbrev pub decreases-push_shown : goal.decreases-push_shown
decreases-push_shown l = 8 * size-Ty l.ty.now

abbrev pub decreases-push_first : goal.decreases-push_first
decreases-push_first l = 8 * size-Ty l.ty.now + 1

abbrev pub decreases-push_items : goal.decreases-push_items
decreases-push_items l = 8 * size-Ty l.ty.now + 2

abbrev pub decreases-push_below : goal.decreases-push_below
decreases-push_below l = 8 * size-Ty l.ty.now + 3

abbrev pub decreases-push_sequence : goal.decreases-push_sequence
decreases-push_sequence l = 8 * size-Ty l.ty.now + 4

abbrev pub decreases-push_group : goal.decreases-push_group
decreases-push_group l = 8 * size-Ty l.ty.now + 4

abbrev pub decreases-push_sequences : goal.decreases-push_sequences
decreases-push_sequences l = 8 * size-Ty l.ty.now + 5

abbrev pub decreases-push_groups : goal.decreases-push_groups
decreases-push_groups l = 8 * size-Ty l.ty.now + 5

-- the first ones are done
abbrev pub invariant-push_sequences-loop-sequence : goal.invariant-push_sequences-loop-sequence
invariant-push_sequences-loop-sequence l =
    string_bytes l.out ≡ string_bytes l.initial.out
    ++ flat_map (sequence_text (items_by_type (schemas_of l.layout.store.now) l.layout.most_rows l.ty) l.indent) (map view (take l.sequence-index l.sequences))

abbrev pub invariant-push_groups-loop-group : goal.invariant-push_groups-loop-group
invariant-push_groups-loop-group l =
    string_bytes l.out ≡ string_bytes l.initial.out
    ++ flat_map (group_text (items_by_type (schemas_of l.layout.store.now) l.layout.most_rows l.ty) l.indent) (map view (take l.group-index l.groups))
