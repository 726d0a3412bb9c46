-- The first fault in a record is the first one in its members.
use Rattle.std.proofs.Common.{◌∙◌, ap, map, sym}
use Rattle.lq_machine.specs.Served.{first_member, nested_fault}
use Rattle.lq_json.proofs.Opens.{record_fault}
use Rattle.lq_json.proofs.fault.+nested.Goals as goal

pub nested_fault-returns-in-Rec : goal.nested_fault-returns-in-Rec
nested_fault-returns-in-Rec g t c =
    c.fault_in_members.ensures ∙ ap (λ ms. first_member (map (λ m. (m.0, nested_fault m.1)) ms)) c.as_slice.ensures ∙ sym (record_fault _ c.args.value.now c.in-Rec.members c.in-Rec.is)
