-- The typed tree of a term: each name is replaced by the form that reaches its value, each member by its number, and each operator by the
-- one that its operands' types choose. There is a tree exactly where there is a type (ECMA-334, expressions; .NET, Enumerable).
use Rattle.std.specs.Prelude.{◌∷◌, ◌++◌, ◌+◌, ◌&&◌, ◌||◌, if◌then◌else◌, List, [], map, ℕ, Bool, true, false, Option, Some, None, codes, slice_get, option_and_then, option_map, is_some}
use Rattle.std.specs.List.{fold, position_from}
use Rattle.std.specs.Str.{bytes_eq}
use Rattle.lq_value.specs.Tables.{first_named}
use Rattle.lq_value.specs.declared.scalar.Scalar.TheVariants as scalar
use Rattle.lq_value.specs.declared.table.Schema.{Schema}
use Rattle.lq_value.specs.declared.ty.Ty.{Ty, out-Ty}
use Rattle.lq_value.specs.declared.ty.Ty.TheOpen.{Ty-F}
use Rattle.lq_value.specs.declared.ty.Ty.TheVariants as ty
use Rattle.lq_host.specs.declared.call.Pick.{Pick}
use Rattle.lq_language.specs.ClauseTyping.{joined_name}
use Rattle.lq_language.specs.EnumerableCalls.{EnumerableCall, By, Plain, With, enumerable_call}
use Rattle.lq_language.specs.HostNames.{are_int_columns, column_numbers, predicate_number}
use Rattle.lq_language.specs.OperandMeaning.{equality_truth}
use Rattle.lq_language.specs.Members.{search_named, sole_argument}
use Rattle.lq_language.specs.Operations.{operation_of}
use Rattle.lq_language.specs.Operators.{Pattern, One, pattern_type, unnamed}
use Rattle.lq_language.specs.Operators as of
use Rattle.lq_language.specs.Types.{are_join_keys, element_type, has_place, is_fresh, is_key, is_sort_key, is_within, when}
use Rattle.lq_language.specs.Names.{table_number, type_of_column}
use Rattle.lq_language.specs.OperandTypes.{coalesced, is_bool, is_equality, is_number, is_text}
use Rattle.lq_language.specs.Meaning.{is_sequence_layer}
use Rattle.lq_language.specs.Typing.{are_distinct, given_type, simple_type, through_type, type_of_choice, type_of_operation}
use Rattle.lq_language.specs.declared.calls.Call.{Call}
use Rattle.lq_language.specs.declared.calls.Operator.{Operator}
use Rattle.lq_language.specs.declared.calls.Operator.TheVariants as operator
use Rattle.lq_language.specs.declared.calls.Paired.{Paired}
use Rattle.lq_language.specs.declared.calls.Paired.TheVariants as paired
use Rattle.lq_language.specs.declared.calls.Part.{Part}
use Rattle.lq_language.specs.declared.calls.Term.{Term, fold-Term}
use Rattle.lq_language.specs.declared.calls.Term.TheOpen.{Term-F}
use Rattle.lq_language.specs.declared.host_name.HostName.{HostName}
use Rattle.lq_language.specs.declared.methods.Through.{Through}
use Rattle.lq_language.specs.declared.methods.Through.TheVariants as through
use Rattle.lq_language.specs.declared.operation.Op.{Op}
use Rattle.lq_language.specs.declared.operation.Op.TheVariants as op
use Rattle.lq_grammar.specs.declared.syntax.Argument.{Argument}
use Rattle.lq_grammar.specs.declared.syntax.Binary.{Binary}
use Rattle.lq_grammar.specs.declared.syntax.Binary.TheVariants as binary
use Rattle.lq_grammar.specs.declared.syntax.Field.{Field}
use Rattle.lq_grammar.specs.declared.syntax.Join.{Join}
use Rattle.lq_grammar.specs.declared.syntax.Node.{Node}
use Rattle.lq_grammar.specs.declared.syntax.Node.TheVariants as node
use Rattle.lq_grammar.specs.declared.syntax.Picked.{Picked}
use Rattle.lq_grammar.specs.declared.syntax.SortKey.{SortKey}
use Rattle.lq_grammar.specs.declared.syntax.Unary.{Unary}
use Rattle.lq_grammar.specs.declared.syntax.Unary.TheVariants as unary
use Rattle.lq_tree.specs.Places.{Place, Places, names_of_places, place_of, session_place, with_item, with_name}
use Rattle.lq_tree.specs.declared.tree.Form.{Form, out-Form}
use Rattle.lq_tree.specs.declared.tree.Form.TheOpen.{Form-F}
use Rattle.lq_tree.specs.declared.tree.Form.TheVariants as form
use Rattle.lq_tree.specs.declared.tree.Tree.{Tree}

-- what an expression is bound to at a place: a tree, where it has a type there
abbrev pub Binds : Type 0
Binds = Places → Option Tree

abbrev pub tree_of : Ty → Form → Tree
tree_of t f = record { ty = t; form = f }

-- the tree of a form that has a type
abbrev pub typed_tree : Option Ty → Form → Option Tree
typed_tree found f = option_map (λ t. tree_of t f) found

-- ---- lists: what comes of each item in turn, where something comes of all of them

abbrev pub walk_step : {A S : Type 0} → (A → S → Option S) → Option S → A → Option S
walk_step step state x = option_and_then (step x) state

abbrev pub walked : {A S : Type 0} → (A → S → Option S) → S → List A → Option S
walked step start xs = fold (walk_step step) (Some start) xs

abbrev pub gather_step : {A B : Type 0} → (A → Option B) → A → List B → Option (List B)
gather_step made x ys = option_map (λ y. ys ++ y ∷ []) (made x)

abbrev pub gathered : {A B : Type 0} → (A → Option B) → List A → Option (List B)
gathered made xs = walked (gather_step made) [] xs

-- ---- operators

-- what has members or is grouped, and may be asked only whether it is null
abbrev pub is_object : Ty-F Ty → Bool
is_object (Ty-F.Row n) = true
is_object (Ty-F.Rec ms) = true
is_object (Ty-F.Group k t) = true
is_object layer = false

abbrev pub is_literal : Form-F Form → Bool
is_literal (Form-F.Literal s) = true
is_literal layer = false

-- The operand that is tested beside the other one, which is null. Both are evaluated, in order, if the other isn't a literal.
abbrev pub tested_first : Form → Form → Form
tested_first a b = if is_literal (out-Form b) then a else form.First (form.Pair a b)

abbrev pub tested_second : Form → Form → Form
tested_second a b = if is_literal (out-Form a) then b else form.Second (form.Pair a b)

-- `==` and `!=`
abbrev pub equality_form : Binary → Tree → Tree → Form
equality_form sign a b =
    if is_object (out-Ty a.ty) then form.IsNull (equality_truth sign true) (tested_first a.form b.form)
    else (if is_object (out-Ty b.ty) then form.IsNull (equality_truth sign true) (tested_second a.form b.form) else form.Binary (operation_of sign) a.form b.form)

-- `+` joins texts where the type of an operand is that of texts
abbrev pub operation_at : Binary → Ty-F Ty → Ty-F Ty → Op
operation_at binary.Add s t = if is_text s || is_text t then op.Concat else op.Add
operation_at sign s t = operation_of sign

abbrev pub binary_form : Binary → Tree → Tree → Form
binary_form sign a b =
    if is_equality sign then equality_form sign a b else form.Binary (operation_at sign (out-Ty a.ty) (out-Ty b.ty)) a.form b.form

abbrev pub binary_tree : Binary → Tree → Tree → Option Tree
binary_tree sign a b = typed_tree (type_of_operation sign (out-Ty a.ty) (out-Ty b.ty)) (binary_form sign a b)

abbrev pub unary_tree : Unary → Tree → Option Tree
unary_tree unary.Minus a = when (is_number (out-Ty a.ty)) (Some (tree_of a.ty (form.Unary op.Minus a.form)))
unary_tree unary.Not a = when (is_bool (out-Ty a.ty)) (Some (tree_of ty.Bool (form.Unary op.Not a.form)))

abbrev pub and_tree : Tree → Tree → Option Tree
and_tree a b = when (is_bool (out-Ty a.ty) && is_bool (out-Ty b.ty)) (Some (tree_of ty.Bool (form.And a.form b.form)))

abbrev pub or_tree : Tree → Tree → Option Tree
or_tree a b = when (is_bool (out-Ty a.ty) && is_bool (out-Ty b.ty)) (Some (tree_of ty.Bool (form.Or a.form b.form)))

abbrev pub coalesce_tree : Tree → Tree → Option Tree
coalesce_tree a b = typed_tree (coalesced (out-Ty a.ty) (out-Ty b.ty)) (form.Coalesce a.form b.form)

abbrev pub conditional_tree : Tree → Tree → Tree → Option Tree
conditional_tree c a b =
    when (is_bool (out-Ty c.ty)) (typed_tree (type_of_choice (out-Ty a.ty) (out-Ty b.ty)) (form.Conditional c.form a.form b.form))

-- what two operands that are bound give, and three
abbrev pub of_two_trees : (Tree → Tree → Option Tree) → Option Tree → Option Tree → Option Tree
of_two_trees given a b = option_and_then (λ x. option_and_then (given x) b) a

abbrev pub of_three_trees : (Tree → Tree → Tree → Option Tree) → Option Tree → Option Tree → Option Tree → Option Tree
of_three_trees given c a b = option_and_then (λ x. of_two_trees (given x) a b) c

-- ---- members

-- an expression of a sequence's type doesn't fault: a fault met in making it is the ending of its stream
abbrev pub settled_form : Ty → Form → Form
settled_form t f = if is_sequence_layer (out-Ty t) then form.Sequence f else f

abbrev pub settled_tree : Tree → Tree
settled_tree tree = tree_of tree.ty (settled_form tree.ty tree.form)

-- the cell of a row under the column of this name
abbrev pub column_tree : List ℕ → ℕ → Form → Schema → Option Tree
column_tree m table row schema =
    option_and_then (λ c. option_map (λ column. tree_of (type_of_column column.ty) (form.Column row table c)) (slice_get schema.columns c))
    (first_named (λ column. column.name) m schema.columns)

-- the member of a record of this name
abbrev pub record_member_tree : List ℕ → Form → List (List ℕ × Ty) → Option Tree
record_member_tree m a members =
    option_and_then (λ place. option_map (λ member. tree_of member.1 (form.Member a place)) (slice_get members place))
    (position_from (λ member. bytes_eq m member.0) 0 members)

-- a member of an int?, and of a text
abbrev pub nullable_tree : List ℕ → Form → Option Tree
nullable_tree m a =
    if bytes_eq m (codes "HasValue") then Some (tree_of ty.Bool (form.Unary op.HasValue a))
    else when (bytes_eq m (codes "Value")) (Some (tree_of ty.Int (form.Unary op.Value a)))

abbrev pub text_tree : List ℕ → Form → Option Tree
text_tree m a = when (bytes_eq m (codes "Length")) (Some (tree_of ty.Int (form.Unary op.Length a)))

abbrev pub group_key_tree : List ℕ → Ty → Form → Option Tree
group_key_tree m k a = when (bytes_eq m (codes "Key")) (Some (tree_of k (form.Key a)))

-- a search in a text
abbrev pub search_form : Op → Tree → Tree → Option Tree
search_form o a b = when (is_text (out-Ty b.ty)) (Some (tree_of ty.Bool (form.Binary o a.form b.form)))

-- ---- tests of a tree's type

-- a type that an expression may have
abbrev pub within_tree : Tree → Option Tree
within_tree found = when (is_within found.ty) (Some found)

-- any type but that of null
abbrev pub placed_tree : Tree → Option Tree
placed_tree found = when (has_place (out-Ty found.ty)) (Some found)

abbrev pub condition_tree : Tree → Option Tree
condition_tree found = when (is_bool (out-Ty found.ty)) (Some found)

abbrev pub sortable_tree : Tree → Option Tree
sortable_tree found = when (is_sort_key (Some found.ty)) (Some found)

-- a member of a record with this name and value
abbrev pub field_with : List ℕ → Option Tree → Option (Field Tree)
field_with name value = option_map (λ found. record { name = name; value = found }) (option_and_then placed_tree value)

-- a key of `orderby` with this value
abbrev pub key_with : Bool → Option Tree → Option (SortKey Form)
key_with is_descending value =
    option_map (λ (found : Tree). record { value = found.form; descending = is_descending }) (option_and_then sortable_tree value)

abbrev pub keyed_tree : Tree → Option Tree
keyed_tree found = when (is_key found.ty) (Some found)

-- the type of what is enumerated, with the form that gives it
abbrev pub items_of_tree : Tree → Option Tree
items_of_tree source = option_map (λ t. tree_of t source.form) (element_type (out-Ty source.ty))

-- ---- methods with a lambda

-- A method on items of the first type, whose lambda makes the second of each: `Where`, `Select` and `All` themselves, and any other as the
-- method without a lambda over one of these.
abbrev pub method_form : Through → Ty → Ty → Form → Form → Form
method_form through.Where t u source body = form.Where source body
method_form through.Select t u source body = form.Select source body
method_form through.All t u source body = form.All source body
method_form (through.Those method) t u source body = form.Simple method t (form.Where source body)
method_form (through.Values method) t u source body = form.Simple method u (form.Select source body)

-- ---- records

abbrev pub type_of_field : Field Tree → List ℕ × Ty
type_of_field field = (field.name, field.value.ty)

abbrev pub form_of_field : Field Tree → Field Form
form_of_field field = record { name = field.name; value = field.value.form }

abbrev pub fields_tree : List (Field Tree) → Tree
fields_tree fields = tree_of (ty.Rec (map type_of_field fields)) (form.Record (map form_of_field fields))

-- ---- host predicates

-- a host predicate of this number, which is asked of columns of a row
abbrev pub host_form : ℕ → Form → Pick → ℕ → Tree
host_form n row columns p = tree_of ty.Bool (form.Host p row n columns)

abbrev pub asked_tree : List HostName → List ℕ → Picked → ℕ → Form → Pick → Option Tree
asked_tree known p columns n row numbers = option_map (host_form n row numbers) (predicate_number known p columns)

-- ---- queries: what comes after a call

-- what its items represent, and the form that gives them
pub record PipelineForm : Type 0 where
  pub pattern : Pattern
  pub form : Form

abbrev pub pipeline_of : Pattern → Form → PipelineForm
pipeline_of p f = record { pattern = p; form = f }

-- the type of the items after all calls is any but that of null, and their sequence's one that an expression may have
abbrev pub items_of_pipeline : PipelineForm → Option Tree
items_of_pipeline stage =
    let t = pattern_type stage.pattern in
    when (has_place (out-Ty t)) (when (is_within (ty.Seq t)) (Some (tree_of t stage.form)))

module _ (schemas : List Schema) where
  abbrev pub member_layer : List ℕ → Form → Ty-F Ty → Option Tree
  member_layer m a (Ty-F.Row n) = option_and_then (column_tree m n a) (slice_get schemas n)
  member_layer m a (Ty-F.Rec members) = record_member_tree m a members
  member_layer m a (Ty-F.Group k t) = group_key_tree m k a
  member_layer m a Ty-F.IntN = nullable_tree m a
  member_layer m a Ty-F.Str = text_tree m a
  member_layer m a layer = None

  abbrev pub member_tree : List ℕ → Tree → Option Tree
  member_tree m a = option_map settled_tree (member_layer m a.form (out-Ty a.ty))

  -- a host predicate, which is asked of columns of a row: the columns are found by their names, and it by its own
  abbrev pub host_layer : List HostName → List ℕ → Picked → Form → Ty-F Ty → Option Tree
  host_layer known p columns row (Ty-F.Row n) =
      when (are_int_columns schemas n columns) (option_and_then (asked_tree known p columns n row) (column_numbers (slice_get schemas n) columns))
  host_layer known p columns row layer = None

  abbrev pub host_tree : List HostName → List ℕ → Picked → Tree → Option Tree
  host_tree known p columns row = host_layer known p columns row.form (out-Ty row.ty)

  -- a table's rows, else what a name of the session refers to
  abbrev pub global_tree : Places → List ℕ → Option ℕ → Option Tree
  global_tree places x (Some n) = Some (tree_of (ty.Seq (ty.Row n)) (form.Table n))
  global_tree places x None = option_map (λ place. tree_of place.known.ty (place.form places.depth)) (session_place x places.session)

  -- a local name's place, else what the name refers to outside
  abbrev pub name_tree : Places → List ℕ → Option Place → Option Tree
  name_tree places x (Some place) = Some (tree_of place.ty place.form)
  name_tree places x None = global_tree places x (table_number x schemas)

  -- ---- what expressions hold: `tree` says what each of them is bound to

  module _ {X : Type 0} (tree : X → Binds) where
    -- ---- methods

    -- the body of a lambda whose parameter repeats no local name in scope
    abbrev pub lambda_tree : Places → Ty → List ℕ → X → Option Tree
    lambda_tree places t n body = when (is_fresh (names_of_places schemas places) n) (tree body (with_name places n t))

    -- a method on items of this type, which the form before it gives
    abbrev pub enumerable_tree : Places → Form → Ty → EnumerableCall X → Option Tree
    enumerable_tree places source t (Plain method) = typed_tree (simple_type method t) (form.Simple method t source)
    enumerable_tree places source t (With method x) =
        option_and_then (λ b. typed_tree (given_type method t (Some b.ty)) (form.Given method source b.form)) (tree x places)
    enumerable_tree places source t (By method n body) =
        option_and_then (λ f. typed_tree (through_type method t (Some f.ty)) (method_form method t f.ty source f.form)) (lambda_tree places t n body)

    -- a method of what is enumerated
    abbrev pub called_tree : Option (EnumerableCall X) → Tree → Places → Option Tree
    called_tree call a places =
        option_and_then within_tree (option_and_then (λ t. option_and_then (enumerable_tree places a.form t) call) (element_type (out-Ty a.ty)))

    -- a search in a text
    abbrev pub search_tree : List ℕ → List (Argument X) → Tree → Places → Option Tree
    search_tree m arguments a places =
        option_and_then (λ o. option_and_then (search_form o a) (option_and_then (λ x. tree x places) (sole_argument arguments))) (search_named m)

    abbrev pub method_tree : List ℕ → List (Argument X) → Tree → Places → Option Tree
    method_tree m arguments a places =
        if is_text (out-Ty a.ty) then search_tree m arguments a places else option_map settled_tree (called_tree (enumerable_call m arguments) a places)

    -- ---- records

    abbrev pub field_tree : Places → Field X → Option (Field Tree)
    field_tree places field = field_with field.name (tree field.value places)

    abbrev pub record_tree : List (Field X) → Places → Option Tree
    record_tree fields places =
        when (are_distinct (map (λ field. field.name) fields))
        (option_and_then within_tree (option_map fields_tree (gathered (field_tree places) fields)))

    -- ---- expressions other than queries

    abbrev pub node_tree : Node X → Binds
    node_tree (node.Integer n) places = Some (tree_of ty.Int (form.Literal (scalar.Int n)))
    node_tree (node.Text t) places = Some (tree_of ty.Str (form.Literal (scalar.Text t)))
    node_tree (node.Bool b) places = Some (tree_of ty.Bool (form.Literal (scalar.Bool b)))
    node_tree node.Null places = Some (tree_of ty.Null (form.Literal scalar.Null))
    node_tree (node.Name x) places = name_tree places x (place_of x places.locals)
    node_tree (node.Member a m) places = option_and_then (member_tree m) (tree a places)
    node_tree (node.Unary sign a) places = option_and_then (unary_tree sign) (tree a places)
    node_tree (node.Binary sign a b) places = of_two_trees (binary_tree sign) (tree a places) (tree b places)
    node_tree (node.And a b) places = of_two_trees and_tree (tree a places) (tree b places)
    node_tree (node.Or a b) places = of_two_trees or_tree (tree a places) (tree b places)
    node_tree (node.Coalesce a b) places = of_two_trees coalesce_tree (tree a places) (tree b places)
    node_tree (node.Conditional c a b) places = of_three_trees conditional_tree (tree c places) (tree a places) (tree b places)
    node_tree (node.Host p row columns) places = option_and_then (host_tree places.predicates p columns) (tree row places)
    node_tree (node.New fields) places = record_tree fields places
    node_tree (node.Method a m arguments) places = option_and_then (λ found. method_tree m arguments found places) (tree a places)
    node_tree other places = None

    -- ---- queries

    -- the items of a source, with the form that gives them
    abbrev pub source_tree : X → Binds
    source_tree source places = option_and_then items_of_tree (tree source places)

    -- a name that is brought in beside an item's, and repeats none of them
    abbrev pub if_fresh : Places → Pattern → List ℕ → Option Tree → Option Tree
    if_fresh places p n found = when (is_fresh (names_of_places schemas (with_item places p)) n) found

    -- what a call that pairs items makes of a pair, whose parts are in two slots
    abbrev pub paired_stage : Places → Pattern → List ℕ → Ty → Paired X → Option PipelineForm
    paired_stage places p n t paired.Pair = Some (pipeline_of (of.With p n t) (form.Pair (form.Slot places.depth) (form.Slot (places.depth + 1))))
    paired_stage places p n t (paired.Value v) =
        option_map (λ found. pipeline_of (unnamed found.ty) found.form) (option_and_then placed_tree (tree v (with_name (with_item places p) n t)))

    -- `Where`
    abbrev pub where_stage : Places → X → PipelineForm → Option PipelineForm
    where_stage places c stage =
        option_map (λ found. pipeline_of stage.pattern (form.Where stage.form found.form))
        (option_and_then condition_tree (tree c (with_item places stage.pattern)))

    -- `Select`
    abbrev pub select_stage : Places → X → PipelineForm → Option PipelineForm
    select_stage places v stage =
        option_map (λ found. pipeline_of (unnamed found.ty) (form.Select stage.form found.form))
        (option_and_then placed_tree (tree v (with_item places stage.pattern)))

    -- `Select` of each item beside one more name's value
    abbrev pub let_stage : Places → List ℕ → X → PipelineForm → Option PipelineForm
    let_stage places n f stage =
        option_map
        (λ found. pipeline_of (of.With stage.pattern n found.ty)
        (form.Select stage.form (form.Pair (form.Slot places.depth) found.form)))
        (if_fresh places stage.pattern n (option_and_then placed_tree (tree f (with_item places stage.pattern))))

    -- `SelectMany`
    abbrev pub expanded_stage : Places → List ℕ → Paired X → PipelineForm → Tree → Option PipelineForm
    expanded_stage places n result stage inner =
        option_map (λ made. pipeline_of made.pattern (form.SelectMany stage.form inner.form made.form)) (paired_stage places stage.pattern n inner.ty result)

    abbrev pub select_many_stage : Places → List ℕ → X → Paired X → PipelineForm → Option PipelineForm
    select_many_stage places n f result stage =
        option_and_then (expanded_stage places n result stage) (if_fresh places stage.pattern n (source_tree f (with_item places stage.pattern)))

    -- `Join` and `GroupJoin`: the two keys
    abbrev pub keys_of : Tree → Tree → Option (Form × Form)
    keys_of a b = when (are_join_keys (Some a.ty) (Some b.ty)) (Some (a.form, b.form))

    abbrev pub join_keys : Places → Pattern → Join X → Ty → Option (Form × Form)
    join_keys places p j t =
        option_and_then (λ a. option_and_then (keys_of a) (tree j.inner_key (with_name places j.name t))) (tree j.outer_key (with_item places p))

    -- the type of the name that a join leaves behind
    abbrev pub matched_type : Places → Pattern → Option (List ℕ) → Ty → Option Ty
    matched_type places p None t = Some t
    matched_type places p (Some g) t = when (is_fresh (names_of_places schemas (with_item places p)) g) (Some (ty.Seq t))

    abbrev pub joined_form : Form → Form → Form × Form → Bool → Form → Form
    joined_form source inner keys grouped result =
        form.Join source (record { inner = inner; outer_key = keys.0; inner_key = keys.1; grouped = grouped; result = result })

    abbrev pub joined_stage : Places → Join X → Paired X → PipelineForm → Form → Form × Form → Ty → Option PipelineForm
    joined_stage places j result stage inner keys t =
        option_map (λ made. pipeline_of made.pattern (joined_form stage.form inner keys (is_some j.into) made.form))
        (paired_stage places stage.pattern (joined_name j) t result)

    abbrev pub matched_stage : Places → Join X → Paired X → PipelineForm → Tree → Form × Form → Option PipelineForm
    matched_stage places j result stage inner keys =
        option_and_then (joined_stage places j result stage inner.form keys) (matched_type places stage.pattern j.into inner.ty)

    abbrev pub inner_stage : Places → Join X → Paired X → PipelineForm → Tree → Option PipelineForm
    inner_stage places j result stage inner = option_and_then (matched_stage places j result stage inner) (join_keys places stage.pattern j inner.ty)

    abbrev pub join_stage : Places → Join X → Paired X → PipelineForm → Option PipelineForm
    join_stage places j result stage = option_and_then (inner_stage places j result stage) (if_fresh places stage.pattern j.name (source_tree j.source places))

    -- `OrderBy`
    abbrev pub key_tree : Places → SortKey X → Option (SortKey Form)
    key_tree places k = key_with k.descending (tree k.value places)

    abbrev pub order_stage : Places → List (SortKey X) → PipelineForm → Option PipelineForm
    order_stage places ks stage =
        option_map (λ keys. pipeline_of stage.pattern (form.OrderBy stage.form keys)) (gathered (key_tree (with_item places stage.pattern)) ks)

    -- `GroupBy`, whose elements are the items where there is no other
    abbrev pub element_tree : Places → Pattern → Option X → Option Tree
    element_tree places p None = Some (tree_of (pattern_type p) (form.Slot places.depth))
    element_tree places p (Some v) = tree v (with_item places p)

    abbrev pub grouped_stage : Places → Option X → PipelineForm → Tree → Option PipelineForm
    grouped_stage places element stage key =
        option_map (λ found. pipeline_of (unnamed (ty.Group key.ty found.ty)) (form.GroupBy stage.form key.form found.form))
        (option_and_then placed_tree (element_tree places stage.pattern element))

    abbrev pub group_stage : Places → X → Option X → PipelineForm → Option PipelineForm
    group_stage places key element stage =
        option_and_then (grouped_stage places element stage) (option_and_then keyed_tree (tree key (with_item places stage.pattern)))

    -- what comes after a call
    abbrev pub operator_stage : Places → Operator X → PipelineForm → Option PipelineForm
    operator_stage places (operator.Where c) stage = where_stage places c stage
    operator_stage places (operator.Select v) stage = select_stage places v stage
    operator_stage places (operator.Let n f) stage = let_stage places n f stage
    operator_stage places (operator.SelectMany n f result) stage = select_many_stage places n f result stage
    operator_stage places (operator.Join j result) stage = join_stage places j result stage
    operator_stage places (operator.OrderBy ks) stage = order_stage places ks stage
    operator_stage places (operator.GroupBy key element) stage = group_stage places key element stage

    -- the calls of a body over its range variable: their items, of this type, with the form that gives them
    abbrev pub body_tree : Places → List ℕ → List (Operator X) → Tree → Option Tree
    body_tree places n ops items =
        when (is_fresh (names_of_places schemas places) n)
        (option_and_then items_of_pipeline (walked (operator_stage places) (pipeline_of (One n items.ty) items.form) ops))

    abbrev pub part_tree : Places → Part X → Tree → Option Tree
    part_tree places part items = body_tree places part.name part.operators items

    -- the source as a sequence: a fault met in making it is the ending of its stream
    abbrev pub sequence_tree : Tree → Tree
    sequence_tree source = tree_of source.ty (form.Sequence source.form)

    -- the items of a query, with the form that gives them
    abbrev pub call_items_tree : Call X → Binds
    call_items_tree c places =
        option_and_then (λ items. walked (part_tree places) items c.rest)
        (option_and_then (body_tree places c.name c.operators) (option_map sequence_tree (source_tree c.source places)))

    abbrev pub query_tree : Tree → Tree
    query_tree items = tree_of (ty.Seq items.ty) items.form

    -- the tree of the calls of a query
    unfoldable pub call_tree : Call X → Binds
    call_tree c places = option_map query_tree (call_items_tree c places)

  abbrev pub tree_step : Term-F Binds → Binds
  tree_step (Term-F.Node n) places = node_tree (λ x. x) n places
  tree_step (Term-F.Call c) places = call_tree (λ x. x) c places

  -- the typed tree of a term
  unfoldable pub term_tree : Term → Binds
  term_tree = fold-Term Binds tree_step
