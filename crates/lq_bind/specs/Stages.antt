-- What calls make of a stage of a query, over the trees of what they take (ECMA-334, query expression translation; .NET, Enumerable).
use Rattle.std.specs.Prelude.{List, ℕ, ◌+◌, Bool, Option, Some, option_map}
use Rattle.lq_value.specs.declared.ty.Ty.{Ty}
use Rattle.lq_value.specs.declared.ty.Ty.TheVariants as ty
use Rattle.lq_language.specs.Operators.{Pattern, With, unnamed}
use Rattle.lq_language.specs.Types.{are_join_keys, when}
use Rattle.lq_tree.specs.Binding.{PipelineForm, condition_tree, items_of_tree, placed_tree, pipeline_of, tree_of}
use Rattle.lq_tree.specs.declared.tree.Form.{Form}
use Rattle.lq_tree.specs.declared.tree.Form.TheVariants as form
use Rattle.lq_tree.specs.declared.tree.Tree.{Tree}

-- the items of a source as a sequence: a fault met in making it is the ending of its stream
abbrev pub sequence_of : Tree → Option Tree
sequence_of source = option_map (λ items. tree_of items.ty (form.Sequence items.form)) (items_of_tree source)

-- what an item is, given by this tree, under no name
abbrev pub value_stage : Tree → Option PipelineForm
value_stage value = option_map (λ v. pipeline_of (unnamed v.ty) v.form) (placed_tree value)

-- `Where`
abbrev pub filtered_stage : PipelineForm → Tree → Option PipelineForm
filtered_stage stage condition =
    option_map (λ c. pipeline_of stage.pattern (form.Where stage.form c.form)) (condition_tree condition)

-- `Select`
abbrev pub selected_stage : Form → Tree → Option PipelineForm
selected_stage source value =
    option_map (λ v. pipeline_of (unnamed v.ty) (form.Select source v.form)) (placed_tree value)

-- `Select` of each item, which stands in this slot, beside the value of one more name
abbrev pub widened_stage : PipelineForm → ℕ → List ℕ → Tree → Option PipelineForm
widened_stage stage item name value =
    option_map (λ v. pipeline_of (With stage.pattern name v.ty) (form.Select stage.form (form.Pair (form.Slot item) v.form)))
    (placed_tree value)

-- a pair of the items in this slot and in the next one, of which the second has a name
abbrev pub slots_stage : Pattern → List ℕ → Ty → ℕ → PipelineForm
slots_stage p name t item =
    pipeline_of (With p name t) (form.Pair (form.Slot item) (form.Slot (item + 1)))

-- `SelectMany`, where this comes of each pair
abbrev pub expanded_stage : Form → Form → PipelineForm → PipelineForm
expanded_stage source inner item = pipeline_of item.pattern (form.SelectMany source inner item.form)

-- the keys of a join, where they can be compared
abbrev pub join_keys : Tree → Tree → Option (Form × Form)
join_keys outer inner =
    when (are_join_keys (Some outer.ty) (Some inner.ty)) (Some (outer.form, inner.form))

-- `Join` and `GroupJoin`, where this comes of each pair
abbrev pub join_form : Form → Form → Form × Form → Bool → Form → Form
join_form source inner keys is_grouped item = form.Join source (record {
  inner = inner;
  outer_key = keys.0;
  inner_key = keys.1;
  grouped = is_grouped;
  result = item;
})

-- `GroupBy`
abbrev pub groups_of : Form → Tree → Tree → PipelineForm
groups_of source key element =
    pipeline_of (unnamed (ty.Group key.ty element.ty)) (form.GroupBy source key.form element.form)

abbrev pub grouped_stage : Form → Tree → Tree → Option PipelineForm
grouped_stage source key element = option_map (groups_of source key) (placed_tree element)
