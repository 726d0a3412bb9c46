-- What each function goes down by: the size of its forms, and at one size how far it is from `add_form`; and what each loop keeps.
use Rattle.std.proofs.Common.{◌≡◌, ◌+◌, ◌*◌, ◌++◌, max, drop, flat_map}
use Rattle.lq_tree.specs.declared.tree.Form.{size-Form}
use Rattle.lq_use.specs.FormRights.{form_rights}
use Rattle.lq_use.proofs.trees.+gathering.Given as goal

abbrev pub decreases-add_form : goal.decreases-add_form
decreases-add_form l = 8 * size-Form l.form.now

abbrev pub decreases-add_column : goal.decreases-add_column
decreases-add_column l = 8 * size-Form l.row.now + 1

abbrev pub decreases-add_host : goal.decreases-add_host
decreases-add_host l = 8 * size-Form l.asked.now + 1

abbrev pub decreases-add_two : goal.decreases-add_two
decreases-add_two l = 8 * max (size-Form l.first.now) (size-Form l.second.now) + 1

abbrev pub decreases-add_three : goal.decreases-add_three
decreases-add_three l = 8 * max (size-Form l.first.now) (max (size-Form l.second.now) (size-Form l.third.now)) + 2

abbrev pub decreases-add_fields : goal.decreases-add_fields
decreases-add_fields l = 8 * goal.size-add_fields l + 1

abbrev pub decreases-add_keys : goal.decreases-add_keys
decreases-add_keys l = 8 * goal.size-add_keys l + 1

abbrev pub decreases-add_four : goal.decreases-add_four
decreases-add_four l = 8 * max (size-Form l.first.now) (max (size-Form l.second.now) (max (size-Form l.third.now) (size-Form l.fourth.now))) + 3

abbrev pub decreases-add_joined : goal.decreases-add_joined
decreases-add_joined l = 8 * goal.size-add_joined l + 4

-- the members so far are used
abbrev pub invariant-add_fields-loop-field : goal.invariant-add_fields-loop-field
invariant-add_fields-loop-field l =
    l.uses.items ++ flat_map (λ field. form_rights field.value) (drop l.field-index l.fields) ≡ l.initial.uses.items ++ flat_map (λ field. form_rights field.value) l.fields

-- the keys so far are used
abbrev pub invariant-add_keys-loop-key : goal.invariant-add_keys-loop-key
invariant-add_keys-loop-key l =
    l.uses.items ++ flat_map (λ key. form_rights key.value) (drop l.key-index l.keys) ≡ l.initial.uses.items ++ flat_map (λ key. form_rights key.value) l.keys
