-- What terms and their parts are bound to, over the tables of a store and the names of a session that a binder knows, and the local names of
-- a frame.
use Rattle.std.specs.Prelude.{List, ℕ, Option, Some, None, take, slice_get, option_and_then, option_map}
use Rattle.lq_value.specs.Tables.{first_named}
use Rattle.lq_value.specs.declared.scalar.Scalar.{Scalar}
use Rattle.lq_value.specs.declared.table.Schema.{Schema}
use Rattle.lq_value.specs.declared.ty.Ty.{Ty}
use Rattle.lq_value.specs.declared.ty.Ty.TheVariants as ty
use Rattle.lq_machine.specs.States.{schemas_of}
use Rattle.lq_machine.specs.declared.session.Defined.{Defined}
use Rattle.lq_machine.specs.declared.session.Defined.TheVariants as of
use Rattle.lq_machine.specs.declared.session.Definition.{Definition}
use Rattle.lq_language.specs.EnumerableCalls.{EnumerableCall}
use Rattle.lq_language.specs.Operators.{Pattern}
use Rattle.lq_language.specs.Types.{when}
use Rattle.lq_language.specs.declared.host_name.HostName.{HostName}
use Rattle.lq_language.specs.declared.calls.Call.{Call}
use Rattle.lq_language.specs.declared.calls.Operator.{Operator}
use Rattle.lq_language.specs.declared.calls.Paired.{Paired}
use Rattle.lq_language.specs.declared.calls.Part.{Part}
use Rattle.lq_language.specs.declared.calls.Term.{Term}
use Rattle.lq_grammar.specs.declared.syntax.Argument.{Argument}
use Rattle.lq_grammar.specs.declared.syntax.Expr.{Expr}
use Rattle.lq_grammar.specs.declared.syntax.Field.{Field}
use Rattle.lq_grammar.specs.declared.syntax.Join.{Join}
use Rattle.lq_grammar.specs.declared.syntax.Node.{Node}
use Rattle.lq_grammar.specs.declared.syntax.SortKey.{SortKey}
use Rattle.lq_translate.specs.Translated.{translated}
use Rattle.lq_tree.specs.Binding.{Binds, PipelineForm, tree_of}
use Rattle.lq_tree.specs.Binding as binding
use Rattle.lq_tree.specs.Places.{Places, SessionPlace, session_place, with_item}
use Rattle.lq_tree.specs.SessionPlaces.{places_outside, session_places, tree_or_null}
use Rattle.lq_tree.specs.declared.tree.Form.{Form}
use Rattle.lq_tree.specs.declared.tree.Form.TheVariants as form
use Rattle.lq_tree.specs.declared.tree.Tree.{Tree}
use Rattle.lq_bind.specs.Frames.{is_fresh_in, places_in, within}
use Rattle.lq_bind.specs.declared.binder.Binder.{Binder}
use Rattle.lq_bind.specs.declared.frames.Frame.{Frame}
use Rattle.lq_bind.specs.declared.pairs.InnerSide.{InnerSide}

-- a literal
abbrev pub literal_tree : Ty → Scalar → Tree
literal_tree t s = tree_of t (form.Literal s)

-- the rows of a table
abbrev pub rows_tree : ℕ → Tree
rows_tree n = tree_of (ty.Seq (ty.Row n)) (form.Table n)

-- ---- names of the session

-- what a name of the session stands for where so many slots are in use
abbrev pub session_tree : List SessionPlace → List ℕ → ℕ → Option Tree
session_tree session name depth =
    option_map (λ place. tree_of place.known.ty (place.form depth)) (session_place name session)

-- the definition of a name, and those before it
abbrev pub defined_before : List ℕ → List Definition → Option (List Definition × Definition)
defined_before name definitions =
    option_and_then (λ i. option_map (λ d. (take i definitions, d)) (slice_get definitions i))
    (first_named (λ d. d.name) name definitions)

-- the tree of a named query's expression, which sees these names of the session and no local name
abbrev pub query_tree : List Schema → List HostName → List SessionPlace → Expr → ℕ → Tree
query_tree schemas predicates earlier e depth =
    tree_or_null (binding.term_tree schemas (translated e) (places_outside predicates earlier depth))

-- what stands for a name that was defined where these were known: a variable's value, or a named query's tree
abbrev pub defined_tree : List Schema → List HostName → List SessionPlace → Defined → ℕ → Tree
defined_tree schemas predicates earlier (of.Variable t s) depth = literal_tree t s
defined_tree schemas predicates earlier (of.Query e opened) depth = query_tree schemas predicates earlier e depth

-- ---- joins

-- the type of the name that a join leaves behind, at the places of an outer item
abbrev pub joined_type : Places → Option (List ℕ) → Ty → Option Ty
joined_type places None t = Some t
joined_type places (Some g) t = when (is_fresh_in places g) (Some (ty.Seq t))

-- the inner side of a join: its sequence, its keys and the type of the name that it leaves behind
abbrev pub inner_side : Tree → Form × Form → Ty → InnerSide
inner_side inner keys t = record { items = inner.form; keys = keys; ty = t }

abbrev pub side_by_keys : (Ty → Option (Form × Form)) → (Ty → Option Ty) → Tree → Option InnerSide
side_by_keys keys type inner =
    option_and_then (λ ks. option_map (inner_side inner ks) (type inner.ty)) (keys inner.ty)

module _ (schemas : List Schema) (tree : Term → Binds) where
  abbrev pub side_in : Places → Pattern → Join Term → Option InnerSide
  side_in places p j =
      option_and_then
      (side_by_keys (binding.join_keys schemas tree places p j) (joined_type (with_item places p) j.into))
      (binding.if_fresh schemas tree places p j.name (binding.source_tree schemas tree j.source places))

-- ---- what a binder knows

abbrev pub schemas_in : Binder → List Schema
schemas_in binder = schemas_of binder.store.now

abbrev pub session_in : Binder → List SessionPlace
session_in binder = session_places (schemas_in binder) binder.hosts.now binder.definitions.now

-- all names in scope
abbrev pub places_at : Binder → Frame → Places
places_at binder frame = within binder.hosts.now (session_in binder) (places_in frame)

module _ (binder : Binder) (frame : Frame) where
  abbrev schemas : List Schema
  schemas = schemas_in binder

  abbrev tree : Term → Binds
  tree = binding.term_tree schemas

  abbrev places : Places
  places = places_at binder frame

  -- ---- terms

  abbrev pub tree_at : Term → Option Tree
  tree_at term = tree term places

  abbrev pub node_at : Node Term → Option Tree
  node_at node = binding.node_tree schemas tree node places

  abbrev pub call_at : Call Term → Option Tree
  call_at call = binding.call_tree schemas tree call places

  -- ---- names

  -- a name that is no local name and none of a table
  abbrev pub session_at : List ℕ → Option Tree
  session_at name = session_tree (session_in binder) name (places_in frame).depth

  abbrev pub defined_at : Defined → Tree
  defined_at defined = defined_tree schemas binder.hosts.now (session_in binder) defined (places_in frame).depth

  -- ---- methods and records

  abbrev pub method_at : List ℕ → List (Argument Term) → Tree → Option Tree
  method_at name arguments source = binding.method_tree schemas tree name arguments source places

  abbrev pub search_at : List ℕ → List (Argument Term) → Tree → Option Tree
  search_at name arguments text = binding.search_tree schemas tree name arguments text places

  abbrev pub enumerable_at : Tree → EnumerableCall Term → Option Tree
  enumerable_at items call = binding.enumerable_tree schemas tree places items.form items.ty call

  abbrev pub field_at : Field Term → Option (Field Tree)
  field_at field = binding.field_tree schemas tree places field

  abbrev pub sort_key_at : SortKey Term → Option (SortKey Form)
  sort_key_at key = binding.key_tree schemas tree places key

  -- ---- queries

  abbrev pub part_at : Part Term → Tree → Option Tree
  part_at part items = binding.part_tree schemas tree places part items

  abbrev pub body_at : List ℕ → List (Operator Term) → Tree → Option Tree
  body_at name operators items = binding.body_tree schemas tree places name operators items

  abbrev pub operator_at : Operator Term → PipelineForm → Option PipelineForm
  operator_at operator stage = binding.operator_stage schemas tree places operator stage

  abbrev pub element_at : Pattern → Option Term → Option Tree
  element_at p element = binding.element_tree schemas tree places p element

  -- ---- pairs

  abbrev pub pair_at : Pattern → List ℕ → Ty → Paired Term → Option PipelineForm
  pair_at p name t pair = binding.paired_stage schemas tree places p name t pair

  abbrev pub expanded_at : List ℕ → Paired Term → PipelineForm → Tree → Option PipelineForm
  expanded_at name pair stage inner = binding.expanded_stage schemas tree places name pair stage inner

  abbrev pub join_keys_at : Pattern → Join Term → Ty → Option (Form × Form)
  join_keys_at p join t = binding.join_keys schemas tree places p join t

  abbrev pub inner_side_at : Pattern → Join Term → Option InnerSide
  inner_side_at p join = side_in schemas tree places p join

  abbrev pub joined_at : Join Term → Paired Term → PipelineForm → InnerSide → Option PipelineForm
  joined_at join pair stage side =
      binding.joined_stage schemas tree places join pair stage side.items side.keys side.ty
