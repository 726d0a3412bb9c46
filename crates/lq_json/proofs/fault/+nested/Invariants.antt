use Rattle.std.proofs.Common.{◌≡◌, drop, map}
use Rattle.lq_machine.specs.Served.{first_member, first_of, nested_fault}
use Rattle.lq_json.proofs.fault.+nested.Given as goal

-- the first fault is one of the items to come
abbrev pub invariant-fault_in_items-loop-item : goal.invariant-fault_in_items-loop-item
invariant-fault_in_items-loop-item g l = first_of (map nested_fault (drop l.item-index l.items)) ≡ first_of (map nested_fault l.items)

-- the first fault is in one of the members to come
abbrev pub invariant-fault_in_members-loop-value : goal.invariant-fault_in_members-loop-value
invariant-fault_in_members-loop-value g l = first_member (map (λ m. (m.0, nested_fault m.1)) (drop l.value-index l.members)) ≡ first_member (map (λ m. (m.0, nested_fault m.1)) l.members)
