-- What a node and calls are bound to is a matter of what the expressions in them are bound to: these may be replaced before or after.
use Rattle.std.proofs.Common.{◌≡◌, ◌∷◌, if◌then◌else◌, List, [], map, ℕ, Option, Some, None, ap, ap₂, ◌∙◌, refl, option_and_then, option_map}
use Rattle.lq_value.specs.declared.table.Schema.{Schema}
use Rattle.lq_value.specs.declared.ty.Ty.{out-Ty}
use Rattle.lq_language.specs.EnumerableCalls.{EnumerableCall, By, Plain, With, enumerable_call}
use Rattle.lq_language.specs.Members.{search_named, sole_argument}
use Rattle.lq_language.specs.Operators.{One}
use Rattle.lq_language.specs.Types.{is_fresh, when}
use Rattle.lq_language.specs.OperandTypes.{is_text}
use Rattle.lq_language.specs.Typing.{are_distinct}
use Rattle.lq_language.specs.declared.calls.Call.{Call}
use Rattle.lq_language.specs.declared.calls.Operator.{Operator}
use Rattle.lq_language.specs.declared.calls.Operator.TheVariants as operator
use Rattle.lq_language.specs.declared.calls.Paired.TheVariants as paired
use Rattle.lq_language.specs.declared.calls.Part.{Part}
use Rattle.lq_language.specs.declared.calls.Term.{Term}
use Rattle.lq_language.specs.declared.calls.Term.TheVariants as term
use Rattle.lq_grammar.specs.declared.syntax.Argument.{Argument}
use Rattle.lq_grammar.specs.declared.syntax.Argument.TheVariants as argument
use Rattle.lq_grammar.specs.declared.syntax.Field.{Field}
use Rattle.lq_grammar.specs.declared.syntax.Node.{Node}
use Rattle.lq_grammar.specs.declared.syntax.Node.TheVariants as node
use Rattle.lq_grammar.specs.declared.syntax.SortKey.{SortKey}
use Rattle.lq_language.proofs.MethodPullLaws.{call_maps}
use Rattle.lq_translate.specs.Maps.{map_argument, map_call, map_enumerable, map_field, map_key, map_node, map_operator, map_part}
use Rattle.lq_translate.proofs.LayerLaws.{fold_call, fold_term_node}
use Rattle.lq_tree.specs.Binding.{Binds, PipelineForm, body_tree, call_items_tree, call_tree, called_tree, field_tree, fields_tree, gather_step, gathered, items_of_pipeline, key_tree, method_tree, node_tree, operator_stage, part_tree, query_tree, record_tree, search_form, sequence_tree, settled_tree, source_tree, pipeline_of, term_tree, tree_step, walked, within_tree}
use Rattle.lq_tree.specs.Places.{Places, names_of_places, with_item}
use Rattle.lq_tree.specs.declared.tree.Form.TheVariants as form
use Rattle.lq_tree.specs.declared.tree.Tree.{Tree}
use Rattle.lq_tree.proofs.WalkLaws.{walk_map}

pub names_kept : {X Y : Type 0} (f : X → Y) (fields : List (Field X))
    → map (λ (field : Field Y). field.name) (map (map_field f) fields) ≡ map (λ field. field.name) fields
names_kept f [] = refl
names_kept f (field ∷ fields) = ap (λ ns. field.name ∷ ns) (names_kept f fields)

module _ (schemas : List Schema) {X Y : Type 0} (f : X → Y) (tree : Y → Binds) where
  abbrev before : X → Binds
  before x = tree (f x)

  -- ---- nodes

  called_pull : (a : Tree) (places : Places) (o : Option (EnumerableCall X))
      → called_tree schemas tree (option_map (map_enumerable f) o) a places ≡ called_tree schemas before o a places
  called_pull a places None = refl
  called_pull a places (Some (Plain method)) = refl
  called_pull a places (Some (With method x)) = refl
  called_pull a places (Some (By method n x)) = refl

  argument_pull : (places : Places) (xs : List (Argument X))
      → option_and_then (λ x. tree x places) (sole_argument (map (map_argument f) xs)) ≡ option_and_then (λ x. before x places) (sole_argument xs)
  argument_pull places [] = refl
  argument_pull places (argument.Value x ∷ []) = refl
  argument_pull places (argument.Lambda n x ∷ []) = refl
  argument_pull places (argument.Value x ∷ y ∷ xs) = refl
  argument_pull places (argument.Lambda n x ∷ y ∷ xs) = refl

  method_pull : (m : List ℕ) (xs : List (Argument X)) (a : Tree) (places : Places)
      → method_tree schemas tree m (map (map_argument f) xs) a places ≡ method_tree schemas before m xs a places
  method_pull m xs a places =
      ap₂ (λ (searched called : Option Tree). if is_text (out-Ty a.ty) then searched else option_map settled_tree called)
      (ap (λ (q : Option Tree). option_and_then (λ o. option_and_then (search_form o a) q) (search_named m)) (argument_pull places xs))
      (ap (λ (o : Option (EnumerableCall Y)). called_tree schemas tree o a places) (call_maps f m xs) ∙ called_pull a places (enumerable_call m xs))

  record_pull : (fields : List (Field X)) (places : Places) → record_tree schemas tree (map (map_field f) fields) places
      ≡ record_tree schemas before fields places
  record_pull fields places =
      ap₂ (λ (ns : List (List ℕ)) (o : Option (List (Field Tree))). when (are_distinct ns) (option_and_then within_tree (option_map fields_tree o)))
      (names_kept f fields)
      (walk_map (map_field f) (gather_step (field_tree schemas tree places)) fields (Some []))

  pub node_pull : (n : Node X) (places : Places) → node_tree schemas tree (map_node f n) places ≡ node_tree schemas before n places
  node_pull (node.Integer n) places = refl
  node_pull (node.Text t) places = refl
  node_pull (node.Bool b) places = refl
  node_pull node.Null places = refl
  node_pull (node.Name x) places = refl
  node_pull (node.Member a m) places = refl
  node_pull (node.Unary sign a) places = refl
  node_pull (node.Binary sign a b) places = refl
  node_pull (node.And a b) places = refl
  node_pull (node.Or a b) places = refl
  node_pull (node.Coalesce a b) places = refl
  node_pull (node.Conditional c a b) places = refl
  node_pull (node.Host p row columns) places = refl
  node_pull (node.HostOther p xs) places = refl
  node_pull (node.New fields) places = record_pull fields places
  node_pull (node.Method a m xs) places = λ i. option_and_then (λ found. method_pull m xs found places i) (tree (f a) places)

  -- ---- calls

  keys_pull : (places : Places) (ks : List (SortKey X)) → gathered (key_tree schemas tree places) (map (map_key f) ks)
      ≡ gathered (key_tree schemas before places) ks
  keys_pull places ks = walk_map (map_key f) (gather_step (key_tree schemas tree places)) ks (Some [])

  operator_pull : (places : Places) (op : Operator X) (stage : PipelineForm) → operator_stage schemas tree places (map_operator f op) stage
      ≡ operator_stage schemas before places op stage
  operator_pull places (operator.Where c) stage = refl
  operator_pull places (operator.Select v) stage = refl
  operator_pull places (operator.Let n v) stage = refl
  operator_pull places (operator.SelectMany n v paired.Pair) stage = refl
  operator_pull places (operator.SelectMany n v (paired.Value w)) stage = refl
  operator_pull places (operator.Join j paired.Pair) stage = refl
  operator_pull places (operator.Join j (paired.Value w)) stage = refl
  operator_pull places (operator.OrderBy ks) stage =
      ap (option_map (λ keys. pipeline_of stage.pattern (form.OrderBy stage.form keys))) (keys_pull (with_item places stage.pattern) ks)
  operator_pull places (operator.GroupBy key None) stage = refl
  operator_pull places (operator.GroupBy key (Some v)) stage = refl

  operators_pull : (places : Places) (ops : List (Operator X)) (start : PipelineForm)
      → walked (operator_stage schemas tree places) start (map (map_operator f) ops) ≡ walked (operator_stage schemas before places) start ops
  operators_pull places ops start =
      walk_map (map_operator f) (operator_stage schemas tree places) ops (Some start)
      ∙ ap (λ (step : Operator X → PipelineForm → Option PipelineForm). walked step start ops) (λ i op stage. operator_pull places op stage i)

  body_pull : (places : Places) (n : List ℕ) (ops : List (Operator X)) (items : Tree)
      → body_tree schemas tree places n (map (map_operator f) ops) items ≡ body_tree schemas before places n ops items
  body_pull places n ops items =
      ap (λ (o : Option PipelineForm). when (is_fresh (names_of_places schemas places) n) (option_and_then items_of_pipeline o)) (operators_pull places ops
      (pipeline_of (One n items.ty) items.form))

  parts_pull : (places : Places) (rest : List (Part X)) (start : Tree)
      → walked (part_tree schemas tree places) start (map (map_part f) rest) ≡ walked (part_tree schemas before places) start rest
  parts_pull places rest start =
      walk_map (map_part f) (part_tree schemas tree places) rest (Some start)
      ∙ ap (λ (step : Part X → Tree → Option Tree). walked step start rest) (λ i part items. body_pull places part.name part.operators items i)

  items_pull : (c : Call X) (places : Places) → call_items_tree schemas tree (map_call f c) places ≡ call_items_tree schemas before c places
  items_pull c places =
      λ i. option_and_then (λ items. parts_pull places c.rest items i)
      (option_and_then (λ items. body_pull places c.name c.operators items i) (option_map (sequence_tree schemas tree) (source_tree schemas tree
      (f c.source) places)))

  pub call_pull : (c : Call X) (places : Places) → call_tree schemas tree (map_call f c) places ≡ call_tree schemas before c places
  unfolding call_tree
  call_pull c places = ap (option_map (query_tree schemas tree)) (items_pull c places)

-- ---- terms

module _ (schemas : List Schema) where
  -- what a term is bound to, layer by layer
  pub tree_of_node : (n : Node Term) → term_tree schemas (term.Node n) ≡ (λ places. node_tree schemas (term_tree schemas) n places)
  unfolding term_tree
  tree_of_node n = fold_term_node Binds (tree_step schemas) n ∙ (λ i places. node_pull schemas (term_tree schemas) (λ b. b) n places i)

  pub tree_of_call : (c : Call Term) → term_tree schemas (term.Call c) ≡ (λ places. call_tree schemas (term_tree schemas) c places)
  unfolding term_tree
  tree_of_call c = fold_call Binds (tree_step schemas) c ∙ (λ i places. call_pull schemas (term_tree schemas) (λ b. b) c places i)
