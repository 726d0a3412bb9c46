-- What the forms of a typed tree mean in its slots (ECMA-334, expressions; .NET, Enumerable): its value, or its first fault.
use Rattle.std.specs.Prelude.{◌==◌, ◌∷◌, ◌++◌, if◌then◌else◌, not, List, [], ℕ, Bool, true, false, Option, Some, None, Result, Ok, Err, slice_get, option_and_then, option_map}
use Rattle.lq_value.specs.SameAndOrder.{same_values as same_keys}
use Rattle.lq_value.specs.declared.scalar.Scalar.{Scalar}
use Rattle.lq_value.specs.declared.scalar.Scalar.TheVariants as scalar
use Rattle.lq_value.specs.declared.table.Schema.{Schema}
use Rattle.lq_value.specs.declared.value.End.TheVariants as end
use Rattle.lq_value.specs.declared.value.Fault.{Fault}
use Rattle.lq_value.specs.declared.value.Fault.TheVariants as fault
use Rattle.lq_value.specs.declared.value.Value.{Value, out-Value}
use Rattle.lq_value.specs.declared.value.Value.TheOpen.{Value-F}
use Rattle.lq_value.specs.declared.value.Value.TheVariants as value
use Rattle.lq_host.specs.declared.call.Pick.{Pick}
use Rattle.lq_host.specs.declared.call.Pick.TheVariants as numbers
use Rattle.lq_host.specs.declared.call.Pick2.{Pick2}
use Rattle.lq_language.specs.Arrangement.{order_by}
use Rattle.lq_language.specs.Worlds.{World}
use Rattle.lq_language.specs.OperandMeaning.{as_value, answer_about, cell_value, is_null, on_scalar, on_truth, one_argument, sequence, stream_of, table_value, truth_value, two_arguments}
use Rattle.lq_language.specs.ClauseMeaning.{as_group, matches}
use Rattle.lq_language.specs.Enumerable.{all}
use Rattle.lq_language.specs.Operations.{of_one, of_two, on_ok, truth_of}
use Rattle.lq_language.specs.Operators.{first, pair, second}
use Rattle.lq_language.specs.Stream.{Stream, expand_by, group_by, join_by, select_by, where_by, with_keys}
use Rattle.lq_language.specs.Meaning.{as_sequence, as_truth, given_meaning, simple_meaning}
use Rattle.lq_grammar.specs.declared.syntax.Field.{Field}
use Rattle.lq_grammar.specs.declared.syntax.SortKey.{SortKey}
use Rattle.lq_tree.specs.declared.tree.Joined.{Joined}
use Rattle.lq_tree.specs.declared.tree.Form.{Form, fold-Form}
use Rattle.lq_tree.specs.declared.tree.Form.TheOpen.{Form-F}

-- the values in the slots, that of the outermost lambda first
abbrev pub Slots : Type 0 → Type 0
Slots R = List (Value R)

-- what a tree means in its slots
abbrev pub Means : Type 0 → Type 0
Means R = Slots R → Result (Value R) Fault

-- the name of a table's column, by its number
abbrev pub column_name : ℕ → Schema → Option (List ℕ)
column_name c schema = option_map (λ column. column.name) (slice_get schema.columns c)

abbrev pub name_of_column : List Schema → ℕ → ℕ → Option (List ℕ)
name_of_column schemas table c = option_and_then (column_name c) (slice_get schemas table)

module _ {R : Type 0} (world : World R) where
  -- the slots with one more, and with two
  abbrev pub with_item : Slots R → Value R → Slots R
  with_item slots v = slots ++ v ∷ []

  abbrev pub with_items : Slots R → Value R → Value R → Slots R
  with_items slots v w = slots ++ v ∷ w ∷ []

  -- the value that is there
  abbrev pub if_there : Option (Value R) → Result (Value R) Fault
  if_there (Some v) = Ok v
  if_there None = Err world.unknown

  -- a null row or record has no members
  abbrev pub cell_in : ℕ → ℕ → Value-F R (Value R) → Result (Value R) Fault
  cell_in table c (Value-F.Row r) = cell_value world (option_and_then (world.cell r) (name_of_column world.schemas table c))
  cell_in table c (Value-F.Scalar scalar.Null) = Err fault.NullReference
  cell_in table c layer = Err world.unknown

  -- the arguments that a row has in columns of these numbers; none where it is of another table
  abbrev pub numbered_cell : ℕ → R → ℕ → Option Scalar
  numbered_cell table r c = option_and_then (world.cell r) (name_of_column world.schemas table c)

  abbrev pub arguments_in : ℕ → Pick → R → Option Pick2
  arguments_in table (numbers.One c) r = one_argument (numbered_cell table r c)
  arguments_in table (numbers.Two c d) r = two_arguments (numbered_cell table r c) (numbered_cell table r d)

  abbrev pub arguments_at : ℕ → Pick → R → Option Pick2
  arguments_at table columns r = if world.table r == table then arguments_in table columns r else None

  abbrev pub member_at : ℕ → Value-F R (Value R) → Result (Value R) Fault
  member_at place (Value-F.Rec members) = if_there (option_map (λ member. member.1) (slice_get members place))
  member_at place (Value-F.Scalar scalar.Null) = Err fault.NullReference
  member_at place layer = Err world.unknown

  abbrev pub key_in : Value-F R (Value R) → Result (Value R) Fault
  key_in (Value-F.Group key xs) = Ok key
  key_in layer = Err world.unknown

  abbrev pub is_null_value : Value-F R (Value R) → Bool
  is_null_value (Value-F.Scalar s) = is_null s
  is_null_value layer = false

  -- the members of a record, in order; the first fault is the result
  abbrev pub members_of : List (Field (Means R)) → Slots R → Result (List (List ℕ × Value R)) Fault
  members_of [] slots = Ok []
  members_of (field ∷ fields) slots = on_ok (field.value slots) (λ v. on_ok (members_of fields slots) (λ members. Ok ((field.name, v) ∷ members)))

  -- whether a condition is true
  abbrev pub is_true : Means R → Slots R → Result Bool Fault
  is_true condition slots = on_scalar world (condition slots) (truth_of world.unknown)

  abbrev pub sort_key : Slots R → SortKey (Means R) → Value R → Result Scalar Fault
  sort_key slots k v = on_scalar world (k.value (with_item slots v)) (λ s. Ok s)

  -- the inner items that a key matches, one by one, or all of them as one sequence
  abbrev pub matched : Bool → Value R → List (Value R × Value R) → List (Value R)
  matched true key qs = value.Seq (matches key qs) end.Done ∷ []
  matched false key qs = matches key qs

  abbrev pub joined_stream : Slots R → Joined (Means R) → Stream (Value R) → Stream (Value R)
  joined_stream slots j items =
      join_by (with_keys (λ v. j.inner_key (with_item slots v)) (stream_of world (j.inner slots))) (λ v. j.outer_key (with_item slots v)) (matched j.grouped)
      (λ v w. j.result (with_items slots v w)) items.0 items.1

  -- a form over the meanings of the forms in it
  abbrev pub form_step : Form-F (Means R) → Means R
  form_step (Form-F.Literal s) slots = Ok (value.Scalar s)
  form_step (Form-F.Slot n) slots = if_there (slice_get slots n)
  form_step (Form-F.First a) slots = on_ok (a slots) (λ v. Ok (first v))
  form_step (Form-F.Second a) slots = on_ok (a slots) (λ v. Ok (second v))
  form_step (Form-F.Table n) slots = table_value world (slice_get world.rows n)
  form_step (Form-F.Column a table c) slots = on_ok (a slots) (λ v. cell_in table c (out-Value R v))
  form_step (Form-F.Host p a table columns) slots = on_ok (a slots) (λ v. answer_about world (Some p) (arguments_at table columns) (out-Value R v))
  form_step (Form-F.Member a place) slots = on_ok (a slots) (λ v. member_at place (out-Value R v))
  form_step (Form-F.Key a) slots = on_ok (a slots) (λ v. key_in (out-Value R v))
  form_step (Form-F.Unary o a) slots = on_scalar world (a slots) (λ s. as_value (of_one world.unknown o s))
  form_step (Form-F.Binary o a b) slots = on_scalar world (a slots) (λ s. on_scalar world (b slots) (λ t. as_value (of_two world.unknown o s t)))
  -- the second operand is evaluated only where the first leaves it open
  form_step (Form-F.And a b) slots = on_truth world (a slots) (λ t. if t then b slots else Ok (truth_value false))
  form_step (Form-F.Or a b) slots = on_truth world (a slots) (λ t. if t then Ok (truth_value true) else b slots)
  form_step (Form-F.Coalesce a b) slots = on_scalar world (a slots) (λ s. if is_null s then b slots else Ok (value.Scalar s))
  form_step (Form-F.Conditional c a b) slots = on_truth world (c slots) (λ t. if t then a slots else b slots)
  form_step (Form-F.IsNull wanted a) slots =
      on_ok (a slots) (λ v. let null = is_null_value (out-Value R v) in Ok (truth_value (if wanted then null else not null)))
  form_step (Form-F.Record fields) slots = on_ok (members_of fields slots) (λ members. Ok (value.Rec members))
  form_step (Form-F.Pair a b) slots = on_ok (a slots) (λ v. on_ok (b slots) (λ w. Ok (pair v w)))
  form_step (Form-F.Sequence a) slots = Ok (sequence (stream_of world (a slots)))
  -- operators, each on the stream of what comes first
  form_step (Form-F.Simple method t a) slots = simple_meaning method t (stream_of world (a slots))
  form_step (Form-F.Given method a b) slots = given_meaning world method (b slots) (stream_of world (a slots))
  form_step (Form-F.Where a f) slots = let items = stream_of world (a slots) in as_sequence (where_by (λ v. is_true f (with_item slots v)) items.0 items.1)
  form_step (Form-F.Select a f) slots = let items = stream_of world (a slots) in as_sequence (select_by (λ v. f (with_item slots v)) items.0 items.1)
  form_step (Form-F.All a f) slots = let items = stream_of world (a slots) in as_truth (all (λ v. is_true f (with_item slots v)) items.0 items.1)
  form_step (Form-F.SelectMany a inner result) slots =
      let items = stream_of world (a slots) in
      Ok (sequence (expand_by (λ v. stream_of world (inner (with_item slots v))) (λ v w. result (with_items slots v w)) items.0 items.1))
  form_step (Form-F.Join a j) slots = Ok (sequence (joined_stream slots j (stream_of world (a slots))))
  form_step (Form-F.OrderBy a ks) slots =
      let items = stream_of world (a slots) in
      Ok (sequence (order_by (λ k. k.descending) (sort_key slots) ks items.0 items.1))
  form_step (Form-F.GroupBy a key element) slots =
      let items = stream_of world (a slots) in
      Ok (sequence (group_by same_keys (λ v. key (with_item slots v)) (λ v. element (with_item slots v)) as_group items.0 items.1))

  -- the value of a form in its slots, or its first fault
  unfoldable pub form_meaning : Form → Means R
  form_meaning = fold-Form (Means R) form_step
