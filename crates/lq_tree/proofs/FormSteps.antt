-- A fold of a form is a step over its folded layer; so is what the form means. A sequence is enumerated as the stream that it consists of.
use Rattle.std.proofs.Common.{◌≡◌, Ok, ap, ◌∙◌}
use Rattle.lq_value.specs.declared.value.Value.{Value}
use Rattle.lq_value.specs.declared.value.Value.TheVariants.{outs-Seq}
use Rattle.lq_language.specs.OperandMeaning.{items_of, sequence, stream_of}
use Rattle.lq_language.specs.Stream.{Stream}
use Rattle.lq_language.specs.Worlds.{World}
use Rattle.lq_tree.specs.FormMeaning.{Means, Slots, form_meaning, form_step}
use Rattle.lq_tree.specs.declared.tree.Form.{Form, fold-Form, fold_out-Form, map-Form, out-Form}
use Rattle.lq_tree.specs.declared.tree.Form.TheOpen.{Form-F}

pub folded_at : {A : Type 0} (step : Form-F A → A) (f : Form) {layer : Form-F Form} → out-Form f ≡ layer
    → fold-Form A step f ≡ step (map-Form Form A (fold-Form A step) layer)
folded_at {A} step f is = fold_out-Form A step f ∙ ap (λ (l : Form-F Form). step (map-Form Form A (fold-Form A step) l)) is

-- what a form means in its slots, over the meanings of the forms in it
pub meaning_at : {R : Type 0} (world : World R) (slots : Slots R) (f : Form) {layer : Form-F Form} → out-Form f ≡ layer
    → form_meaning world f slots ≡ form_step world (map-Form Form (Means R) (form_meaning world) layer) slots
unfolding form_meaning
meaning_at {R} world slots f is = ap (λ (m : Means R). m slots) (folded_at (form_step world) f is)

pub stream_sequence : {R : Type 0} (world : World R) (s : Stream (Value R)) → stream_of world (Ok (sequence s)) ≡ s
stream_sequence world s = ap (items_of world) (outs-Seq s.0 s.1)
