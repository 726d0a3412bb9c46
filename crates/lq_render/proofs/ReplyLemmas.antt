-- The data of each reply is sorted, and so its line is shown as the data is.
use Rattle.std.proofs.Common.{◌≡◌, ◌∷◌, ◌==◌, ◌^◌, List, [], ℕ, pos, length, Bool, true, false, cond, Option, Some, None, IfSome, Result, Ok, Err, codes, map, refl, sym, ap, ◌∙◌, subst, slice_get}
use Rattle.std.specs.Cmp.Lexicographic.{slice_cmp}
use Rattle.std.specs.Ordering.{nat_cmp, match_ordering}
use Rattle.std.specs.declared.cmp.Ordering.{Ordering}
use Rattle.std.specs.declared.cmp.Ordering.TheVariants.{Less, Equal, Greater}
use Rattle.serde_json.specs.Data.{Data, Items, Members, array, boolean, item, member, no_items, no_members, null, number, object, put, string}
use Rattle.serde_json.specs.Find.{of_integer}
use Rattle.serde_json.specs.View.{items_of}
use Rattle.serde_json.proofs.OnLiterals.{serde_json_on_literals}
use Rattle.lq_value.specs.Tables.{Table, first_named}
use Rattle.lq_value.specs.declared.scalar.Scalar.{Scalar}
use Rattle.lq_value.specs.declared.scalar.Scalar.TheVariants as scalar
use Rattle.lq_value.specs.declared.table.Schema.{Schema}
use Rattle.lq_value.specs.declared.ty.Ty.{Ty, ind-Ty, map-Ty, out-Ty, roll-Ty}
use Rattle.lq_value.specs.declared.ty.Ty.TheOpen.{Ty-F}
use Rattle.lq_value.specs.declared.ty.Ty.TheVariants as ty
use Rattle.lq_value.specs.declared.ty.Ty.TheViews.{out-roll-Ty}
use Rattle.lq_value.specs.declared.value.End.{End}
use Rattle.lq_value.specs.declared.value.End.TheVariants as end
use Rattle.lq_value.specs.declared.value.Fault.{Fault}
use Rattle.lq_value.specs.declared.value.Value.{Value, out-Value}
use Rattle.lq_value.specs.declared.value.Value.TheOpen.{Value-F}
use Rattle.lq_grammar.specs.Reading.{Reading, Nothing, Says, IsNoSyntax, IsTooDeep, reading_of}
use Rattle.lq_grammar.specs.declared.syntax.Expr.{Expr}
use Rattle.lq_grammar.specs.declared.syntax.Statement.{Statement}
use Rattle.lq_grammar.specs.declared.syntax.Statement.TheVariants as statement
use Rattle.lq_language.specs.ClauseTyping.{expression_type}
use Rattle.lq_language.specs.Meaning.{expression_meaning}
use Rattle.lq_language.specs.Names.{Names, table_number, with_local}
use Rattle.lq_language.specs.OperandMeaning.{stream_of}
use Rattle.lq_language.specs.OperandTypes.{is_bool_type}
use Rattle.lq_language.specs.Mentions.{uses_of}
use Rattle.lq_language.specs.Uses.{expression_uses}
use Rattle.lq_language.specs.Stream.{Stream, each, one, then_stream}
use Rattle.lq_language.specs.TableRows.{TableRow}
use Rattle.lq_language.specs.Typing.{converts}
use Rattle.lq_language.specs.Worlds.{World}
use Rattle.lq_language.specs.declared.host_name.HostName.{HostName}
use Rattle.lq_language.specs.declared.rights.Use.{Use}
use Rattle.lq_language.specs.declared.rights.Use.TheVariants as used
use Rattle.lq_security.specs.Rights.{Denied, denial}
use Rattle.lq_security.specs.Visible.{refuser_of}
use Rattle.lq_machine.specs.Definitions.{definition_of}
use Rattle.lq_machine.specs.Machine.{perform, perform_opened, step, step_by}
use Rattle.lq_machine.specs.Opening.{is_past_opening, opening_of}
use Rattle.lq_machine.specs.Served.{assigned_data, columns_in, defined_data, denied_data, error_data, fault_name, group_data, inserted_data, item_data, layer_data, line_of, nested_fault, record_members, row_members, scalar_data, served_item, served_stream, stream_data, stream_members, unless_fault, use_name, value_data, value_members}
use Rattle.lq_machine.specs.Serving.{run_denial, run_reply, served, served_as, served_type, unless_denied}
use Rattle.lq_machine.specs.Statements.{Outcome, allowed_by, are_of_columns, are_within_ranges, assigned, assigned_as, assigned_by, assigned_to, assigning, defined, defined_as, defined_by, defining_also, deleted, evaluated, faulted, if_allowed, inserted, is_taken, refused, removed_items, row_checked, row_for, row_for_named, row_within, rows_of, rows_of_named, rows_removed, taking_role, under_role, with_row, with_scalar, with_table, with_value}
use Rattle.lq_machine.specs.States.{State, cells_of, host_names, names_in, schemas_of, world_in}
use Rattle.lq_machine.specs.declared.session.Defined.{Defined}
use Rattle.lq_machine.specs.declared.session.Defined.TheVariants as of
use Rattle.lq_machine.specs.declared.session.Definition.{Definition}
use Rattle.lq_machine.specs.declared.session.Opened.{Opened}
use Rattle.lq_machine.proofs.ServedLaws.{item_out}
use Rattle.lq_render.specs.Readings.{IsSorted, ItemsAreOrdered, ItemsAreSorted, ItemsHaveIntegers, MembersAreOrdered, MembersAreSorted, MembersHaveIntegers, ShowsMemoryLine, ShowsReplies, ShowsReply, SortedIsOrdered}
use Rattle.lq_render.proofs.ReadingLemmas.{before_others, before_put, less_of_greater, shows_data}

-- ---- sorted data with integers alone is ordered

mutual
  pub sorted_is_ordered : SortedIsOrdered
  sorted_is_ordered null h k = tt
  sorted_is_ordered (boolean b) h k = tt
  sorted_is_ordered (number n) h k = k
  sorted_is_ordered (string s) h k = tt
  sorted_is_ordered (array ds) h k = items_ordered ds h k
  sorted_is_ordered (object ms) h k = members_ordered ms h k

  items_ordered : (ds : Items) → ItemsAreSorted ds → ItemsHaveIntegers ds → ItemsAreOrdered ds
  items_ordered no_items h k = tt
  items_ordered (item d ds) h k = (sorted_is_ordered d h.0 k.0, items_ordered ds h.1 k.1)

  members_ordered : (ms : Members) → MembersAreSorted ms → MembersHaveIntegers ms → MembersAreOrdered ms
  members_ordered no_members h k = tt
  members_ordered (member name d ms) h k = (sorted_is_ordered d h.0 k.0, (h.1.0, members_ordered ms h.1.1 k.1))

-- ---- `put` keeps members sorted

sorted_cases : (o : Ordering) (name next : List ℕ) (d e : Data) (ms : Members) → o ≡ slice_cmp nat_cmp name next
    → IsSorted d → MembersAreSorted (member next e ms) → MembersAreSorted (put name d ms)
    → MembersAreSorted (match_ordering o (member name d (member next e ms)) (member next d ms) (member next e (put name d ms)))
sorted_cases Less name next d e ms is d_is h more = (d_is, ((sym is, before_others name next ms (sym is) h.1.0), h))
sorted_cases Equal name next d e ms is d_is h more = (d_is, h.1)
sorted_cases Greater name next d e ms is d_is h more = (h.0, (before_put next name d ms (less_of_greater name next (sym is)) h.1.0, more))

put_sorted : (name : List ℕ) (d : Data) (ms : Members) → IsSorted d → MembersAreSorted ms → MembersAreSorted (put name d ms)
put_sorted name d no_members d_is h = (d_is, (tt, tt))
put_sorted name d (member next e ms) d_is h =
    sorted_cases (slice_cmp nat_cmp name next) name next d e ms refl d_is h (put_sorted name d ms d_is h.1.1)

-- ---- values

scalar_sorted : (s : Scalar) → IsSorted (scalar_data s)
scalar_sorted scalar.Null = tt
scalar_sorted (scalar.Int n) = tt
scalar_sorted (scalar.Bool b) = tt
scalar_sorted (scalar.Text s) = tt

row_sorted : (names : List (List ℕ)) (cells : List Scalar) → MembersAreSorted (row_members names cells)
row_sorted [] cells = tt
row_sorted (name ∷ names) [] = put_sorted name null (row_members names []) tt (row_sorted names [])
row_sorted (name ∷ names) (cell ∷ cells) = put_sorted name (scalar_data cell) (row_members names cells) (scalar_sorted cell) (row_sorted names cells)

module _ {R : Type 0} where
  -- what makes sorted data of each value
  abbrev Sorts : (Value R → Data) → Type 0
  Sorts f = (v : Value R) → IsSorted (f v)

  items_sorted : (f : Value R → Data) → Sorts f → (vs : List (Value R)) → ItemsAreSorted (items_of (map f vs))
  items_sorted f h [] = tt
  items_sorted f h (v ∷ vs) = (h v, items_sorted f h vs)

  group_sorted : (key items : Value R → Data) → Sorts key → Sorts items → (k : Value R) (vs : List (Value R)) → IsSorted (group_data k vs (Ty-F.Group key items))
  group_sorted key items h i k vs =
      put_sorted (codes "Key") (key k) (put (codes "items") (array (items_of (map items vs))) no_members) (h k)
      (put_sorted (codes "items") (array (items_of (map items vs))) no_members (items_sorted items i vs) tt)

module _ {R : Type 0} (schemas : List Schema) (cells_of : R → List Scalar) where
  abbrev by_type : Ty → Value R → Data
  by_type t = item_data schemas cells_of t

  abbrev TypeSorts : Ty → Type 0
  TypeSorts t = Sorts (by_type t)

  abbrev Sorting : Type 0
  Sorting = (t : Ty) × TypeSorts t

  abbrev types_of : List (List ℕ × Sorting) → List (List ℕ × Ty)
  types_of ps = map (λ p. (p.0, p.1.0)) ps

  abbrev makers_of : List (List ℕ × Sorting) → List (List ℕ × (Value R → Data))
  makers_of ps = map (λ m. (m.0, by_type m.1)) (types_of ps)

  record_sorted : (ps : List (List ℕ × Sorting)) (ms : List (List ℕ × Value R)) → MembersAreSorted (record_members (makers_of ps) ms)
  record_sorted [] ms = tt
  record_sorted (p ∷ ps) [] = put_sorted p.0 null (record_members (makers_of ps) []) tt (record_sorted ps [])
  record_sorted (p ∷ ps) (m ∷ ms) = put_sorted p.0 (by_type p.1.0 m.1) (record_members (makers_of ps) ms) (p.1.1 m.1) (record_sorted ps ms)

  -- what a layer makes of the layers of values
  abbrev LayerSorts : Ty-F Ty → Type 0
  LayerSorts layer = (w : Value-F R (Value R)) → IsSorted (layer_data schemas cells_of (map-Ty Ty (Value R → Data) by_type layer) w)

  of_layer : (layer : Ty-F Ty) → LayerSorts layer → TypeSorts (roll-Ty layer)
  of_layer layer h v =
      subst IsSorted
      (sym (item_out schemas cells_of (roll-Ty layer) v ∙ ap (λ l. layer_data schemas cells_of (map-Ty Ty (Value R → Data) by_type l) (out-Value R v)) (out-roll-Ty layer)))
      (h (out-Value R v))

  layer_sorts : (y : Ty-F Sorting) → LayerSorts (map-Ty Sorting Ty (λ p. p.0) y)
  layer_sorts y (Value-F.Scalar s) = scalar_sorted s
  layer_sorts Ty-F.Int (Value-F.Row r) = tt
  layer_sorts Ty-F.IntN (Value-F.Row r) = tt
  layer_sorts Ty-F.Bool (Value-F.Row r) = tt
  layer_sorts Ty-F.Str (Value-F.Row r) = tt
  layer_sorts Ty-F.Null (Value-F.Row r) = tt
  layer_sorts (Ty-F.Row n) (Value-F.Row r) = row_sorted (columns_in (slice_get schemas n)) (cells_of r)
  layer_sorts (Ty-F.Rec ps) (Value-F.Row r) = tt
  layer_sorts (Ty-F.Group k e) (Value-F.Row r) = tt
  layer_sorts (Ty-F.Seq t) (Value-F.Row r) = tt
  layer_sorts Ty-F.Int (Value-F.Rec ms) = tt
  layer_sorts Ty-F.IntN (Value-F.Rec ms) = tt
  layer_sorts Ty-F.Bool (Value-F.Rec ms) = tt
  layer_sorts Ty-F.Str (Value-F.Rec ms) = tt
  layer_sorts Ty-F.Null (Value-F.Rec ms) = tt
  layer_sorts (Ty-F.Row n) (Value-F.Rec ms) = tt
  layer_sorts (Ty-F.Rec ps) (Value-F.Rec ms) = record_sorted ps ms
  layer_sorts (Ty-F.Group k e) (Value-F.Rec ms) = tt
  layer_sorts (Ty-F.Seq t) (Value-F.Rec ms) = tt
  layer_sorts Ty-F.Int (Value-F.Group k vs) = tt
  layer_sorts Ty-F.IntN (Value-F.Group k vs) = tt
  layer_sorts Ty-F.Bool (Value-F.Group k vs) = tt
  layer_sorts Ty-F.Str (Value-F.Group k vs) = tt
  layer_sorts Ty-F.Null (Value-F.Group k vs) = tt
  layer_sorts (Ty-F.Row n) (Value-F.Group k vs) = tt
  layer_sorts (Ty-F.Rec ps) (Value-F.Group k vs) = tt
  layer_sorts (Ty-F.Group key e) (Value-F.Group k vs) = group_sorted (by_type key.0) (by_type e.0) key.1 e.1 k vs
  layer_sorts (Ty-F.Seq t) (Value-F.Group k vs) = tt
  layer_sorts Ty-F.Int (Value-F.Seq vs e) = tt
  layer_sorts Ty-F.IntN (Value-F.Seq vs e) = tt
  layer_sorts Ty-F.Bool (Value-F.Seq vs e) = tt
  layer_sorts Ty-F.Str (Value-F.Seq vs e) = tt
  layer_sorts Ty-F.Null (Value-F.Seq vs e) = tt
  layer_sorts (Ty-F.Row n) (Value-F.Seq vs e) = tt
  layer_sorts (Ty-F.Rec ps) (Value-F.Seq vs e) = tt
  layer_sorts (Ty-F.Group k g) (Value-F.Seq vs e) = tt
  layer_sorts (Ty-F.Seq t) (Value-F.Seq vs e) = items_sorted (by_type t.0) t.1 vs

  item_sorted : (t : Ty) → TypeSorts t
  item_sorted t =
      ind-Ty TypeSorts (λ x y h. subst (λ l. TypeSorts (roll-Ty l)) h (of_layer (map-Ty Sorting Ty (λ p. p.0) y) (layer_sorts y))) t

  -- ---- what `run` serves

  abbrev SortedIfOk : Result Data Fault → Type 0
  SortedIfOk (Ok d) = IsSorted d
  SortedIfOk (Err f) = Unit {0}

  unless_sorted : (found : Option Fault) (d : Data) → IsSorted d → SortedIfOk (unless_fault found d)
  unless_sorted None d h = h
  unless_sorted (Some f) d h = tt

  abbrev one_served : Ty → Value R → Result Data Fault
  one_served t v = served_item schemas cells_of t v

  served_sorted : (t : Ty) (v : Value R) → SortedIfOk (one_served t v)
  served_sorted t v = unless_sorted (nested_fault v) (by_type t v) (item_sorted t v)

  value_sorted : (found : Result Data Fault) → SortedIfOk found → IsSorted (object (value_members found))
  value_sorted (Ok d) h = put_sorted (codes "value") d no_members h tt
  value_sorted (Err f) h = put_sorted (codes "fault") (string (fault_name f)) no_members tt tt

  then_sorted : (found : Result Data Fault) (rest : Stream Data) → SortedIfOk found → ItemsAreSorted (items_of rest.0)
      → ItemsAreSorted (items_of (then_stream (one found) rest).0)
  then_sorted (Ok d) rest h more = (h, more)
  then_sorted (Err f) rest h more = tt

  stream_sorted : (t : Ty) (vs : List (Value R)) (e : End) → ItemsAreSorted (items_of (each (λ v. one (one_served t v)) vs e).0)
  stream_sorted t [] e = tt
  stream_sorted t (v ∷ vs) e = then_sorted (one_served t v) (each (λ v. one (one_served t v)) vs e) (served_sorted t v) (stream_sorted t vs e)

  ended_sorted : (items : List Data) (e : End) → ItemsAreSorted (items_of items) → IsSorted (object (stream_members items e))
  ended_sorted items end.Done h = put_sorted (codes "items") (array (items_of items)) no_members h tt
  ended_sorted items (end.Fault f) h =
      put_sorted (codes "items") (array (items_of items)) (put (codes "fault") (string (fault_name f)) no_members) h
      (put_sorted (codes "fault") (string (fault_name f)) no_members tt tt)

  stream_data_sorted : (t : Ty) (s : Stream (Value R)) → IsSorted (stream_data schemas cells_of t s)
  stream_data_sorted t s =
      let found = served_stream schemas cells_of t s in ended_sorted found.0 found.1 (stream_sorted t s.0 s.1)

  value_data_sorted : (t : Ty) (found : Result (Value R) Fault) → IsSorted (value_data schemas cells_of t found)
  value_data_sorted t (Ok v) = value_sorted (one_served t v) (served_sorted t v)
  value_data_sorted t (Err f) = put_sorted (codes "fault") (string (fault_name f)) no_members tt tt

-- ---- statements

-- a reply of one member
sole_sorted : (name : List ℕ) (d : Data) → IsSorted d → IsSorted (object (put name d no_members))
sole_sorted name d h = put_sorted name d no_members h tt

denied_sorted : (schemas : List Schema) (predicates : List HostName) (rule : List ℕ) (use_of : Use) → IsSorted (denied_data schemas predicates rule use_of)
denied_sorted schemas predicates rule use_of =
    put_sorted (codes "denied") (string rule) (put (codes "use") (string (use_name schemas predicates use_of)) no_members) tt
    (sole_sorted (codes "use") (string (use_name schemas predicates use_of)) tt)

served_as_sorted : (world : World TableRow) (t : Ty) (layer : Ty-F Ty) (found : Result (Value TableRow) Fault) → IsSorted (served_as world t layer found)
served_as_sorted world t (Ty-F.Seq part) found = stream_data_sorted world.schemas cells_of part (stream_of world found)
served_as_sorted world t Ty-F.Int found = value_data_sorted world.schemas cells_of t found
served_as_sorted world t Ty-F.IntN found = value_data_sorted world.schemas cells_of t found
served_as_sorted world t Ty-F.Bool found = value_data_sorted world.schemas cells_of t found
served_as_sorted world t Ty-F.Str found = value_data_sorted world.schemas cells_of t found
served_as_sorted world t Ty-F.Null found = value_data_sorted world.schemas cells_of t found
served_as_sorted world t (Ty-F.Row n) found = value_data_sorted world.schemas cells_of t found
served_as_sorted world t (Ty-F.Rec ts) found = value_data_sorted world.schemas cells_of t found
served_as_sorted world t (Ty-F.Group k e) found = value_data_sorted world.schemas cells_of t found

run_sorted : (world : World TableRow) (served_by : Option Ty) (found : Result (Value TableRow) Fault) → IsSorted (served world served_by found)
run_sorted world None found = sole_sorted (codes "error") (string (codes "type")) tt
run_sorted world (Some t) found = served_as_sorted world t (out-Ty t) found

reply_sorted : (names : Names) (world : World TableRow) (e : Expr) → IsSorted (run_reply names world e)
unfolding run_reply
reply_sorted names world e = run_sorted world (served_type names e) (expression_meaning world e [])

unless_denied_sorted : (schemas : List Schema) (predicates : List HostName) (found : Option Denied) (reply : Data) → IsSorted reply
    → IsSorted (unless_denied schemas predicates found reply)
unless_denied_sorted schemas predicates None reply h = h
unless_denied_sorted schemas predicates (Some denied) reply h = denied_sorted schemas predicates denied.rule denied.used

-- an outcome whose reply is sorted
abbrev IsSortedOutcome : Outcome → Type 0
IsSortedOutcome x = IsSorted x.0

either : (b : Bool) (x y : Outcome) → IsSortedOutcome x → IsSortedOutcome y → IsSortedOutcome (cond b x y)
either true x y h k = h
either false x y h k = k

module _ (old : State) where
  refused_sorted : (word : List ℕ) → IsSortedOutcome (refused old word)
  refused_sorted word = sole_sorted (codes "error") (string word) tt

  faulted_sorted : (f : Fault) → IsSortedOutcome (faulted old f)
  faulted_sorted f = sole_sorted (codes "fault") (string (fault_name f)) tt

  allowed_sorted : (found : Option Denied) (next : Outcome) → IsSortedOutcome next → IsSortedOutcome (allowed_by old found next)
  allowed_sorted None next h = h
  allowed_sorted (Some denied) next h = denied_sorted (schemas_of old.tables) (host_names old) denied.rule denied.used

  if_allowed_sorted : (uses : List Use) (next : Outcome) → IsSortedOutcome next → IsSortedOutcome (if_allowed old uses next)
  if_allowed_sorted uses next h = allowed_sorted (denial old.policies old.role uses) next h

  -- ---- `var`, and assignments

  with_scalar_sorted : (next : Scalar → Outcome) (layer : Value-F TableRow (Value TableRow)) → ((s : Scalar) → IsSortedOutcome (next s))
      → IsSortedOutcome (with_scalar old next layer)
  with_scalar_sorted next (Value-F.Scalar s) h = h s
  with_scalar_sorted next (Value-F.Row r) h = refused_sorted (codes "type")
  with_scalar_sorted next (Value-F.Rec ms) h = refused_sorted (codes "type")
  with_scalar_sorted next (Value-F.Group k vs) h = refused_sorted (codes "type")
  with_scalar_sorted next (Value-F.Seq vs e) h = refused_sorted (codes "type")

  with_value_sorted : (next : Scalar → Outcome) (found : Result (Value TableRow) Fault) → ((s : Scalar) → IsSortedOutcome (next s))
      → IsSortedOutcome (with_value old next found)
  with_value_sorted next (Ok v) h = with_scalar_sorted next (out-Value TableRow v) h
  with_value_sorted next (Err f) h = faulted_sorted f

  evaluated_sorted : (e : Expr) (next : Scalar → Outcome) → ((s : Scalar) → IsSortedOutcome (next s)) → IsSortedOutcome (evaluated old e next)
  evaluated_sorted e next h =
      if_allowed_sorted (uses_of (expression_uses e (names_in old))) (with_value old next (expression_meaning (world_in old) e []))
      (with_value_sorted next (expression_meaning (world_in old) e []) h)

  scalar_defined : (name : List ℕ) (e : Expr) (t : Ty) (b : Bool)
      → IsSortedOutcome (cond b (evaluated old e (λ s. (defined_data name, defining_also old name (of.Variable t s)))) (refused old (codes "type")))
  scalar_defined name e t b =
      either b (evaluated old e (λ s. (defined_data name, defining_also old name (of.Variable t s)))) (refused old (codes "type"))
      (evaluated_sorted e (λ s. (defined_data name, defining_also old name (of.Variable t s))) (λ s. sole_sorted (codes "defined") (string name) tt)) (refused_sorted (codes "type"))

  defined_as_sorted : (name : List ℕ) (opened : Opened) (e : Expr) (t : Ty) (layer : Ty-F Ty) → IsSortedOutcome (defined_as old name opened e t layer)
  defined_as_sorted name opened e t (Ty-F.Seq part) = sole_sorted (codes "defined") (string name) tt
  defined_as_sorted name opened e t Ty-F.Int = scalar_defined name e t true
  defined_as_sorted name opened e t Ty-F.IntN = scalar_defined name e t true
  defined_as_sorted name opened e t Ty-F.Bool = scalar_defined name e t true
  defined_as_sorted name opened e t Ty-F.Str = scalar_defined name e t true
  defined_as_sorted name opened e t Ty-F.Null = scalar_defined name e t false
  defined_as_sorted name opened e t (Ty-F.Row n) = scalar_defined name e t false
  defined_as_sorted name opened e t (Ty-F.Rec ts) = scalar_defined name e t false
  defined_as_sorted name opened e t (Ty-F.Group k g) = scalar_defined name e t false

  defined_by_sorted : (name : List ℕ) (opened : Opened) (e : Expr) (found : Option Ty) → IsSortedOutcome (defined_by old name opened e found)
  defined_by_sorted name opened e None = refused_sorted (codes "type")
  defined_by_sorted name opened e (Some t) = defined_as_sorted name opened e t (out-Ty t)

  defined_sorted : (name : List ℕ) (opened : Opened) (e : Expr) → IsSortedOutcome (defined old name opened e)
  unfolding defined
  defined_sorted name opened e =
      either (is_taken old name) (refused old (codes "type")) (defined_by old name opened e (expression_type e (names_in old)))
      (refused_sorted (codes "type")) (defined_by_sorted name opened e (expression_type e (names_in old)))

  assigned_as_sorted : (name : List ℕ) (e : Expr) (t : Ty) (found : Option Ty) → IsSortedOutcome (assigned_as old name e t found)
  assigned_as_sorted name e t None = refused_sorted (codes "type")
  assigned_as_sorted name e t (Some u) =
      either (converts u t) (evaluated old e (λ s. (assigned_data name, assigning old name t s))) (refused old (codes "type"))
      (evaluated_sorted e (λ s. (assigned_data name, assigning old name t s)) (λ s. sole_sorted (codes "assigned") (string name) tt)) (refused_sorted (codes "type"))

  assigned_to_sorted : (name : List ℕ) (e : Expr) (d : Defined) → IsSortedOutcome (assigned_to old name e d)
  assigned_to_sorted name e (of.Variable t s) = assigned_as_sorted name e t (expression_type e (names_in old))
  assigned_to_sorted name e (of.Query query opened) = refused_sorted (codes "type")

  assigned_by_sorted : (name : List ℕ) (e : Expr) (found : Option Definition) → IsSortedOutcome (assigned_by old name e found)
  assigned_by_sorted name e None = refused_sorted (codes "type")
  assigned_by_sorted name e (Some d) = assigned_to_sorted name e d.defined

  assigned_sorted : (name : List ℕ) (e : Expr) → IsSortedOutcome (assigned old name e)
  unfolding assigned
  assigned_sorted name e = assigned_by_sorted name e (definition_of name old.definitions)

  -- ---- `as`

  role_sorted : (name : List ℕ) (found : Option ℕ) → IsSortedOutcome (under_role old name found)
  role_sorted name None = refused_sorted (codes "role")
  role_sorted name (Some role) = sole_sorted (codes "role") (string name) tt

  taking_sorted : (name : List ℕ) → IsSortedOutcome (taking_role old name)
  unfolding taking_role
  taking_sorted name = role_sorted name (first_named (λ role. role.name) name old.policies.roles)

  -- ---- `insert`

  put_in_sorted : (n : ℕ) (table : Table) (cells : List Scalar) (b : Bool)
      → IsSortedOutcome (cond b (refused old (codes "full")) (inserted_data, with_table old n (with_row old table cells)))
  put_in_sorted n table cells b =
      either b (refused old (codes "full")) (inserted_data, with_table old n (with_row old table cells)) (refused_sorted (codes "full"))
      (sole_sorted (codes "inserted") (number (of_integer (pos 1))) tt)

  row_checked_sorted : (n : ℕ) (table : Table) (cells : List Scalar) (found : Option (List ℕ)) → IsSortedOutcome (row_checked old n table cells found)
  row_checked_sorted n table cells None = put_in_sorted n table cells (table.next == 2 ^ 64)
  row_checked_sorted n table cells (Some rule) = denied_sorted (schemas_of old.tables) (host_names old) rule (used.Insert n)

  row_within_sorted : (n : ℕ) (table : Table) (cells : List Scalar) → IsSortedOutcome (row_within old n table cells)
  row_within_sorted n table cells =
      let checked = row_checked old n table cells (refuser_of old.policies old.role n cells) in
      either (are_within_ranges old table.schema.columns cells) checked (refused old (codes "cell"))
      (row_checked_sorted n table cells (refuser_of old.policies old.role n cells)) (refused_sorted (codes "cell"))

  row_for_sorted : (cells : List Scalar) (n : ℕ) (found : Option Table) → IsSortedOutcome (row_for old cells n found)
  row_for_sorted cells n None = refused_sorted (codes "type")
  row_for_sorted cells n (Some table) =
      either (are_of_columns old table.schema.columns cells) (if_allowed old (used.Insert n ∷ []) (row_within old n table cells)) (refused old (codes "type"))
      (if_allowed_sorted (used.Insert n ∷ []) (row_within old n table cells) (row_within_sorted n table cells)) (refused_sorted (codes "type"))

  row_for_named_sorted : (cells : List Scalar) (found : Option ℕ) → IsSortedOutcome (row_for_named old cells found)
  row_for_named_sorted cells None = refused_sorted (codes "type")
  row_for_named_sorted cells (Some n) = row_for_sorted cells n (slice_get old.tables n)

  inserted_sorted : (name : List ℕ) (cells : List Scalar) → IsSortedOutcome (inserted old name cells)
  unfolding inserted
  inserted_sorted name cells = row_for_named_sorted cells (table_number name (schemas_of old.tables))

  -- ---- `delete`

  removed_sorted : (n : ℕ) (table : Table) (gone : List TableRow) (e : End) → IsSortedOutcome (rows_removed old n table gone e)
  removed_sorted n table gone end.Done = sole_sorted (codes "deleted") (number (of_integer (pos (length gone)))) tt
  removed_sorted n table gone (end.Fault f) = faulted_sorted f

  rows_sorted : (x : List ℕ) (condition : Expr) (n : ℕ) (found : Option Table) → IsSortedOutcome (rows_of old x condition n found)
  rows_sorted x condition n None = refused_sorted (codes "type")
  rows_sorted x condition n (Some table) =
      let names = with_local (names_in old) x (ty.Row n) in
      let gone = removed_items old x condition n table.rows in
      let uses = used.Delete n ∷ uses_of (expression_uses condition names) in
      let removed = rows_removed old n table gone.0 gone.1 in
      either (is_bool_type (expression_type condition names)) (if_allowed old uses removed) (refused old (codes "type"))
      (if_allowed_sorted uses removed (removed_sorted n table gone.0 gone.1)) (refused_sorted (codes "type"))

  rows_named_sorted : (x : List ℕ) (condition : Expr) (found : Option ℕ) → IsSortedOutcome (rows_of_named old x condition found)
  rows_named_sorted x condition None = refused_sorted (codes "type")
  rows_named_sorted x condition (Some n) = rows_sorted x condition n (slice_get old.tables n)

  deleted_sorted : (name x : List ℕ) (condition : Expr) → IsSortedOutcome (deleted old name x condition)
  unfolding deleted
  deleted_sorted name x condition = rows_named_sorted x condition (table_number name (schemas_of old.tables))

  -- ---- lines

  performed_sorted : (opened : Opened) (said : Statement) → IsSortedOutcome (perform old opened said)
  performed_sorted opened (statement.Run e) =
      unless_denied_sorted (schemas_of old.tables) (host_names old) (run_denial old.policies old.role (names_in old) e) (run_reply (names_in old) (world_in old) e)
      (reply_sorted (names_in old) (world_in old) e)
  performed_sorted opened (statement.Define name e) = defined_sorted name opened e
  performed_sorted opened (statement.Assign name e) = assigned_sorted name e
  performed_sorted opened (statement.As name) = taking_sorted name
  performed_sorted opened (statement.Insert table cells) = inserted_sorted table cells
  performed_sorted opened (statement.Delete table row e) = deleted_sorted table row e

  opened_sorted : (opened : Opened) (said : Statement) → IsSortedOutcome (perform_opened old opened said)
  opened_sorted opened said =
      either (is_past_opening opened) (refused old (codes "too-deep")) (perform old opened said) (refused_sorted (codes "too-deep")) (performed_sorted opened said)

shows_line : (d : Data) → IsSorted d → ShowsReply (line_of d)
shows_line d h = record {
  data_of_line = d;
  is_line = refl;
  is_sorted = h;
  is_shown = λ shape integers shallow. shows_data shape d (sorted_is_ordered d h integers) shallow;
}

read_shown : (old : State) (opened : Opened) (said : Reading Statement) → IfSome (step_by old opened said).0 ShowsReply
read_shown old opened Nothing = tt
read_shown old opened (Says said) = shows_line (perform_opened old opened said).0 (opened_sorted old opened said)
read_shown old opened IsNoSyntax = shows_line (error_data (codes "syntax")) (refused_sorted old (codes "syntax"))
read_shown old opened IsTooDeep = shows_line (error_data (codes "too-deep")) (refused_sorted old (codes "too-deep"))

pub shows_replies : ShowsReplies
unfolding step
shows_replies old line = read_shown old (opening_of old.definitions line) (reading_of line)

pub shows_memory_line : ShowsMemoryLine
unfolding serde_json_on_literals
shows_memory_line = shows_line (error_data (codes "memory")) (sole_sorted (codes "error") (string (codes "memory")) tt)
