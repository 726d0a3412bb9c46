-- The line of a reply that ends in a fault is built from the text of the one that ends well.
use Rattle.std.proofs.Common.{◌≡◌, ◌++◌, ◌∷◌, ◌∙◌, [], List, ℕ, ap, drop, sym}
use Rattle.std.proofs.lemmas.Result.{IfOk-weaker}
use Rattle.serde_json.specs.Data.{Data, object}
use Rattle.lq_value.specs.declared.value.End.{End}
use Rattle.lq_machine.specs.Served.{line_of, stream_members}
use Rattle.lq_json.specs.Items.{Holds, fault_front}
use Rattle.lq_json.proofs.Written.{faulted_line}
use Rattle.lq_json.proofs.items.ItemsLine.finish.Goals as goal

pub returns-in_ok-faulted-in-Fault : goal.returns-in_ok-faulted-in-Fault
returns-in_ok-faulted-in-Fault c =
    IfOk-weaker c.line_of_text-in-Fault.result (λ line. line ≡ c.in_ok-faulted-in-Fault.field-0.items ++ 10 ∷ [])
    (λ line. (ds : List Data) → Holds c.args.self ds → line ≡ line_of (object (stream_members ds c.args.end)))
    (λ line is ds held. is
    ∙ ap (λ (t : List ℕ). t ++ 10 ∷ []) (c.in_ok-faulted-in-Fault.ensures ∙ ap (λ (t : List ℕ). fault_front c.in-Fault.fault ++ drop 1 t) (c.as_slice.ensures.value ∙ c.in_ok-text.ensures ds held))
    ∙ faulted_line c.in-Fault.fault ds ∙ ap (λ (e : End). line_of (object (stream_members ds e))) (sym c.in-Fault.is))
    c.line_of_text-in-Fault.ensures
