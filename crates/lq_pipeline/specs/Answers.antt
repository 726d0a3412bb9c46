-- What a tree is read for: the items of a sequence, or one value. A form says which of them it means, where it is one of these.
use Rattle.std.specs.Prelude.{◌≡◌, ◌∷◌, List, [], Bool, true, false, Result, Ok, Err}
use Rattle.lq_value.specs.declared.value.End.TheVariants as end
use Rattle.lq_value.specs.declared.value.Fault.{Fault}
use Rattle.lq_value.specs.declared.value.Value.{Value}
use Rattle.lq_language.specs.OperandMeaning.{stream_of}
use Rattle.lq_language.specs.Stream.{Stream}
use Rattle.lq_language.specs.TableRows.{TableRow}
use Rattle.lq_language.specs.Worlds.{World}
use Rattle.lq_language.specs.declared.methods.Given.{Given}
use Rattle.lq_language.specs.declared.methods.Given.TheVariants as given
use Rattle.lq_language.specs.declared.methods.Simple.{Simple}
use Rattle.lq_language.specs.declared.methods.Simple.TheVariants as simple
use Rattle.lq_tree.specs.FormMeaning.{form_meaning}
use Rattle.lq_tree.specs.declared.tree.Form.{Form}
use Rattle.lq_tree.specs.declared.tree.Form.TheOpen.{Form-F}
use Rattle.lq_pipeline.specs.Chains.{items_of_result}

-- whatever it is read over, a form means a sequence or a fault: its items are those that it is enumerated as
abbrev pub IsEnumerated : Form → Type 0
IsEnumerated f = (world : World TableRow) → items_of_result (form_meaning world f []) ≡ stream_of world (form_meaning world f [])

-- one value as the only item, and a fault as the ending of none
abbrev pub one_of : {R : Type 0} → Result (Value R) Fault → Stream (Value R)
one_of (Ok v) = (v ∷ [], end.Done)
one_of (Err f) = ([], end.Fault f)

-- whatever it is read over, a form means one value or a fault
abbrev pub IsOne : Form → Type 0
IsOne f = (world : World TableRow) → items_of_result (form_meaning world f []) ≡ one_of (form_meaning world f [])

-- forms that mean sequences: tables, and what clauses and lambdas make of them
abbrev pub is_sequence_form : Form-F Form → Bool
is_sequence_form (Form-F.Table n) = true
is_sequence_form (Form-F.Sequence a) = true
is_sequence_form (Form-F.Where a f) = true
is_sequence_form (Form-F.Select a f) = true
is_sequence_form (Form-F.SelectMany a inner result) = true
is_sequence_form (Form-F.Join a j) = true
is_sequence_form (Form-F.OrderBy a ks) = true
is_sequence_form (Form-F.GroupBy a key element) = true
is_sequence_form layer = false

-- methods that give a number or a truth value
abbrev pub gives_scalar : Simple → Bool
gives_scalar simple.Any = true
gives_scalar simple.Count = true
gives_scalar simple.Sum = true
gives_scalar simple.Min = true
gives_scalar simple.Max = true
gives_scalar method = false

abbrev pub gives_truth : Given → Bool
gives_truth given.Contains = true
gives_truth method = false

-- forms that mean one value: such methods over a sequence
abbrev pub is_scalar_form : Form-F Form → Bool
is_scalar_form (Form-F.Simple method t a) = gives_scalar method
is_scalar_form (Form-F.Given method a b) = gives_truth method
is_scalar_form (Form-F.All a f) = true
is_scalar_form layer = false
