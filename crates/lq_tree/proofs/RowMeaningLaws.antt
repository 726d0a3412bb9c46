-- A form over rows that are replaced by rows with the same cells: it means what it meant, with the rows replaced. Each form in turn,
-- where the forms in it do so.
use Rattle.std.proofs.Common.{◌≡◌, ◌∷◌, ◌++◌, if◌then◌else◌, ◌==◌, List, [], map, ℕ, ℤ, Bool, true, false, not, Option, Some, None, Result, Ok, Err, ap, ap₂, ◌∙◌, sym, refl, option_and_then, option_map, slice_get}
use Rattle.std.proofs.lemmas.List.{map-append}
use Rattle.std.proofs.lemmas.Option.{slice_get-map}
use Rattle.lq_value.specs.SameAndOrder.{same_values as same_keys}
use Rattle.lq_value.specs.declared.scalar.Scalar.{Scalar}
use Rattle.lq_value.specs.declared.scalar.Scalar.TheVariants as scalar
use Rattle.lq_value.specs.declared.ty.Ty.{Ty}
use Rattle.lq_value.specs.declared.value.End.TheVariants as end
use Rattle.lq_value.specs.declared.value.Fault.{Fault}
use Rattle.lq_value.specs.declared.value.Value.{Value, out-Value}
use Rattle.lq_value.specs.declared.value.Value.TheOpen.{Value-F}
use Rattle.lq_value.specs.declared.value.Value.TheVariants as value
use Rattle.lq_host.specs.Predicates.{answer_in}
use Rattle.lq_host.specs.declared.call.Pick.{Pick}
use Rattle.lq_host.specs.declared.call.Pick.TheVariants as numbers
use Rattle.lq_host.specs.declared.call.Pick2.{Pick2}
use Rattle.lq_language.specs.Enumerable.{all, as_count, concat, contains, element_at, except, intersect, skip, take_first, union}
use Rattle.lq_language.specs.Worlds.{SessionValue, World}
use Rattle.lq_language.specs.OperandMeaning.{answer_value, as_value, host_answer, answer_about, cell_value, is_null, items_of, on_scalar, on_truth, one_argument, scalar_of, sequence, stream_of, table_value, truth_value, two_arguments}
use Rattle.lq_language.specs.ClauseMeaning.{as_group, matches}
use Rattle.lq_language.specs.Operations.{of_one, of_two, on_ok, truth_of}
use Rattle.lq_language.specs.Operators.{first, pair, second}
use Rattle.lq_language.specs.Stream.{Stream, expand_by, group_by, join_by, select_by, where_by, with_keys}
use Rattle.lq_language.specs.Meaning.{as_sequence, as_truth, given_meaning, number_of, on_number, simple_meaning}
use Rattle.lq_language.specs.declared.methods.Given.{Given}
use Rattle.lq_language.specs.declared.methods.Given.TheVariants as given
use Rattle.lq_language.specs.declared.methods.Simple.{Simple}
use Rattle.lq_language.specs.declared.operation.Op.{Op}
use Rattle.lq_tree.specs.FormMeaning.{Means, Slots, arguments_at, arguments_in, cell_in, form_step, if_there, is_null_value, is_true, joined_stream, key_in, matched, member_at, name_of_column, with_item, with_items}
use Rattle.lq_tree.specs.Rows.{mapped, result_map, stream_map}
use Rattle.lq_tree.specs.declared.tree.Form.TheOpen.{Form-F}
use Rattle.lq_tree.specs.declared.tree.Joined.{Joined}
use Rattle.lq_tree.proofs.MappedItems.{answer_kept, first_kept, group_kept, items_kept, matches_kept, pair_kept, second_kept, sequence_kept, simple_natural, truth_kept, value_kept}
use Rattle.lq_tree.proofs.MappedMethods.{all_natural, concat_natural, contains_natural, element_natural, except_natural, intersect_natural, skip_natural, take_natural, union_natural}
use Rattle.lq_tree.proofs.MappedStreamLaws.{expand_natural, group_natural, join_natural, keys_natural, map_square, ok_alike, ok_by, ok_same, pair_map, select_natural, where_natural}
use Rattle.lq_tree.proofs.MappedValueLaws.{mapped_Row, mapped_Scalar, mapped_Seq, mapped_layer, mapped_member, mapped_out, same_kept}

-- the world over the rows that represent those of another, whatever its session's names refer to: no form reads these
abbrev pub over : {R S : Type 0} → (R → S) → World R → List (SessionValue S) → (S → List ℕ → Option Scalar) → (S → ℕ) → World S
over f world session cell table = record {
  schemas = world.schemas;
  rows = map (map f) world.rows;
  predicates = world.predicates;
  session = session;
  cell = cell;
  table = table;
  unknown = world.unknown;
}

module _ {R S : Type 0} (f : R → S) (world : World R) (session : List (SessionValue S)) (cell : S → List ℕ → Option Scalar) (table_of : S → ℕ)
    (same_cells : (r : R) (column : List ℕ) → cell (f r) column ≡ world.cell r column) (same_tables : (r : R) → table_of (f r) ≡ world.table r) where
  -- the two worlds
  abbrev pub a : World R
  a = world

  abbrev pub b : World S
  b = over f world session cell table_of

  -- a value with its rows replaced
  abbrev pub m : Value R → Value S
  m = mapped f

  -- the second gives what the first gives, with the rows replaced
  abbrev pub Follows : Result (Value R) Fault → Result (Value S) Fault → Type 0
  Follows o p = p ≡ result_map m o

  -- a form's meanings in the two worlds
  abbrev pub Like : Means R → Means S → Type 0
  Like x y = (slots : Slots R) → Follows (x slots) (y (map m slots))

  -- ---- operands

  scalar_by : (layer : Value-F R (Value R)) → scalar_of b (mapped_layer f layer) ≡ scalar_of a layer
  scalar_by (Value-F.Scalar s) = refl
  scalar_by (Value-F.Row r) = refl
  scalar_by (Value-F.Rec members) = refl
  scalar_by (Value-F.Group key items) = refl
  scalar_by (Value-F.Seq items e) = refl

  scalar_same : (o : Result (Value R) Fault) (p : Result (Value S) Fault) → Follows o p
      → on_ok p (λ v. scalar_of b (out-Value S v)) ≡ on_ok o (λ v. scalar_of a (out-Value R v))
  scalar_same o p h =
      ap (λ (q : Result (Value S) Fault). on_ok q (λ v. scalar_of b (out-Value S v))) h
      ∙ ok_same m (λ v. scalar_of a (out-Value R v)) (λ v. scalar_of b (out-Value S v)) (λ v. ap (scalar_of b) (mapped_out f v) ∙ scalar_by (out-Value R v)) o

  on_scalar_same : {C : Type 0} (next : Scalar → Result C Fault) (o : Result (Value R) Fault) (p : Result (Value S) Fault) → Follows o p
      → on_scalar b p next ≡ on_scalar a o next
  on_scalar_same next o p h = ap (λ (q : Result Scalar Fault). on_ok q next) (scalar_same o p h)

  pub on_scalar_follows : (next : Scalar → Result (Value R) Fault) (more : Scalar → Result (Value S) Fault) → ((s : Scalar) → Follows (next s) (more s))
      → (o : Result (Value R) Fault) (p : Result (Value S) Fault) → Follows o p → Follows (on_scalar a o next) (on_scalar b p more)
  on_scalar_follows next more h o p is = on_scalar_same more o p is ∙ ok_alike m next more h (on_ok o (λ v. scalar_of a (out-Value R v)))

  pub on_truth_follows : (next : Bool → Result (Value R) Fault) (more : Bool → Result (Value S) Fault) → ((t : Bool) → Follows (next t) (more t))
      → (o : Result (Value R) Fault) (p : Result (Value S) Fault) → Follows o p → Follows (on_truth a o next) (on_truth b p more)
  on_truth_follows next more h o p is =
      ap (λ (q : Result Bool Fault). on_ok q more) (on_scalar_same (truth_of world.unknown) o p is)
      ∙ ok_alike m next more h (on_scalar a o (truth_of world.unknown))

  pub ok_follows : (next : Value R → Result (Value R) Fault) (more : Value S → Result (Value S) Fault) → ((v : Value R) → Follows (next v) (more (m v)))
      → (o : Result (Value R) Fault) (p : Result (Value S) Fault) → Follows o p → Follows (on_ok o next) (on_ok p more)
  ok_follows next more h o p is = ok_by m m next more h o p is

  pub choice_follows : (c : Bool) (o q : Result (Value R) Fault) (p r : Result (Value S) Fault) → Follows o p → Follows q r
      → Follows (if c then o else q) (if c then p else r)
  choice_follows true o q p r h k = h
  choice_follows false o q p r h k = k

  pub scalar_follows : (s : Scalar) → Follows (Ok (value.Scalar s)) (Ok (value.Scalar s))
  scalar_follows s = ap Ok (sym (mapped_Scalar f s))

  pub truth_follows : (t : Bool) → Follows (Ok (truth_value t)) (Ok (truth_value t))
  truth_follows t = ap Ok (truth_kept f t)

  -- ---- streams

  items_by : (layer : Value-F R (Value R)) → items_of b (mapped_layer f layer) ≡ stream_map m (items_of a layer)
  items_by (Value-F.Scalar s) = refl
  items_by (Value-F.Row r) = refl
  items_by (Value-F.Rec members) = refl
  items_by (Value-F.Group key items) = refl
  items_by (Value-F.Seq items e) = refl

  stream_natural : (o : Result (Value R) Fault) → stream_of b (result_map m o) ≡ stream_map m (stream_of a o)
  stream_natural (Ok v) = ap (items_of b) (mapped_out f v) ∙ items_by (out-Value R v)
  stream_natural (Err e) = refl

  pub stream_follows : (o : Result (Value R) Fault) (p : Result (Value S) Fault) → Follows o p → stream_of b p ≡ stream_map m (stream_of a o)
  stream_follows o p h = ap (stream_of b) h ∙ stream_natural o

  pub sequence_follows : (s : Stream (Value R)) (t : Stream (Value S)) → t ≡ stream_map m s → Follows (Ok (sequence s)) (Ok (sequence t))
  sequence_follows s t h = ap (λ (z : Stream (Value S)). Ok (sequence z)) h ∙ ap Ok (sequence_kept f s)

  -- ---- slots, tables, rows and records

  there_by : (o : Option (Value R)) → Follows (if_there a o) (if_there b (option_map m o))
  there_by (Some v) = refl
  there_by None = refl

  pub slot_like : (n : ℕ) → Like (λ slots. if_there a (slice_get slots n)) (λ slots. if_there b (slice_get slots n))
  slot_like n slots = ap (if_there b) (slice_get-map m slots n) ∙ there_by (slice_get slots n)

  table_by : (o : Option (List R)) → Follows (table_value a o) (table_value b (option_map (map f) o))
  table_by (Some rows) =
      ap (λ (vs : List (Value S)). Ok (value.Seq vs end.Done)) (map_square f m value.Row value.Row (λ r. sym (mapped_Row f r)) rows)
      ∙ ap Ok (sym (mapped_Seq f (map value.Row rows) end.Done))
  table_by None = refl

  pub table_follows : (n : ℕ) → Follows (table_value a (slice_get world.rows n)) (table_value b (slice_get (map (map f) world.rows) n))
  table_follows n = ap (table_value b) (slice_get-map (map f) world.rows n) ∙ table_by (slice_get world.rows n)

  cell_by : (o : Option Scalar) → Follows (cell_value a o) (cell_value b o)
  cell_by (Some s) = scalar_follows s
  cell_by None = refl

  column_by : (table c : ℕ) (layer : Value-F R (Value R)) → Follows (cell_in a table c layer) (cell_in b table c (mapped_layer f layer))
  column_by table c (Value-F.Row r) =
      (λ i. cell_value b (option_and_then (λ column. same_cells r column i) (name_of_column world.schemas table c)))
      ∙ cell_by (option_and_then (world.cell r) (name_of_column world.schemas table c))
  column_by table c (Value-F.Scalar scalar.Null) = refl
  column_by table c (Value-F.Scalar s) = refl
  column_by table c (Value-F.Rec members) = refl
  column_by table c (Value-F.Group key items) = refl
  column_by table c (Value-F.Seq items e) = refl

  pub column_follows : (table c : ℕ) (v : Value R) → Follows (cell_in a table c (out-Value R v)) (cell_in b table c (out-Value S (m v)))
  column_follows table c v = ap (cell_in b table c) (mapped_out f v) ∙ column_by table c (out-Value R v)

  answer_by : (o : Option Bool) → Follows (answer_value a o) (answer_value b o)
  answer_by (Some answer) = truth_follows answer
  answer_by None = refl

  asked_by : (p : ℕ) (o : Option Pick2) → Follows (host_answer a (Some p) o) (host_answer b (Some p) o)
  asked_by p (Some xs) = answer_by (answer_in world.predicates p xs)
  asked_by p None = refl

  cells_alike : (table : ℕ) (columns : Pick) (r : R) → arguments_in b table columns (f r) ≡ arguments_in a table columns r
  cells_alike table (numbers.One c) r = λ i. one_argument (option_and_then (λ column. same_cells r column i) (name_of_column world.schemas table c))
  cells_alike table (numbers.Two c d) r =
      λ i. two_arguments (option_and_then (λ column. same_cells r column i) (name_of_column world.schemas table c))
      (option_and_then (λ column. same_cells r column i) (name_of_column world.schemas table d))

  arguments_alike : (table : ℕ) (columns : Pick) (r : R) → arguments_at b table columns (f r) ≡ arguments_at a table columns r
  arguments_alike table columns r =
      ap₂ (λ (n : ℕ) (o : Option Pick2). if n == table then o else None) (same_tables r) (cells_alike table columns r)

  host_by : (p table : ℕ) (columns : Pick) (layer : Value-F R (Value R))
      → Follows (answer_about a (Some p) (arguments_at a table columns) layer) (answer_about b (Some p) (arguments_at b table columns) (mapped_layer f layer))
  host_by p table columns (Value-F.Row r) = ap (host_answer b (Some p)) (arguments_alike table columns r) ∙ asked_by p (arguments_at a table columns r)
  host_by p table columns (Value-F.Scalar scalar.Null) = refl
  host_by p table columns (Value-F.Scalar s) = refl
  host_by p table columns (Value-F.Rec members) = refl
  host_by p table columns (Value-F.Group key items) = refl
  host_by p table columns (Value-F.Seq items e) = refl

  host_follows : (p table : ℕ) (columns : Pick) (v : Value R)
      → Follows (answer_about a (Some p) (arguments_at a table columns) (out-Value R v)) (answer_about b (Some p) (arguments_at b table columns) (out-Value S (m v)))
  host_follows p table columns v = ap (answer_about b (Some p) (arguments_at b table columns)) (mapped_out f v) ∙ host_by p table columns (out-Value R v)

  member_there : (o : Option (List ℕ × Value R))
      → Follows (if_there a (option_map (λ n. n.1) o)) (if_there b (option_map (λ n. n.1) (option_map (mapped_member f) o)))
  member_there (Some n) = refl
  member_there None = refl

  member_by : (place : ℕ) (layer : Value-F R (Value R)) → Follows (member_at a place layer) (member_at b place (mapped_layer f layer))
  member_by place (Value-F.Rec members) =
      ap (λ (o : Option (List ℕ × Value S)). if_there b (option_map (λ n. n.1) o)) (slice_get-map (mapped_member f) members place)
      ∙ member_there (slice_get members place)
  member_by place (Value-F.Scalar scalar.Null) = refl
  member_by place (Value-F.Scalar s) = refl
  member_by place (Value-F.Row r) = refl
  member_by place (Value-F.Group key items) = refl
  member_by place (Value-F.Seq items e) = refl

  pub member_follows : (place : ℕ) (v : Value R) → Follows (member_at a place (out-Value R v)) (member_at b place (out-Value S (m v)))
  member_follows place v = ap (member_at b place) (mapped_out f v) ∙ member_by place (out-Value R v)

  key_by : (layer : Value-F R (Value R)) → Follows (key_in a layer) (key_in b (mapped_layer f layer))
  key_by (Value-F.Group key items) = refl
  key_by (Value-F.Scalar s) = refl
  key_by (Value-F.Row r) = refl
  key_by (Value-F.Rec members) = refl
  key_by (Value-F.Seq items e) = refl

  pub key_follows : (v : Value R) → Follows (key_in a (out-Value R v)) (key_in b (out-Value S (m v)))
  key_follows v = ap (key_in b) (mapped_out f v) ∙ key_by (out-Value R v)

  null_by : (layer : Value-F R (Value R)) → is_null_value b (mapped_layer f layer) ≡ is_null_value a layer
  null_by (Value-F.Scalar s) = refl
  null_by (Value-F.Row r) = refl
  null_by (Value-F.Rec members) = refl
  null_by (Value-F.Group key items) = refl
  null_by (Value-F.Seq items e) = refl

  pub null_follows : (wanted : Bool) (v : Value R)
      → Follows (let null = is_null_value a (out-Value R v) in Ok (truth_value (if wanted then null else not null)))
      (let null = is_null_value b (out-Value S (m v)) in Ok (truth_value (if wanted then null else not null)))
  null_follows wanted v =
      ap (λ (n : Bool). Ok (truth_value (if wanted then n else not n))) (ap (is_null_value b) (mapped_out f v) ∙ null_by (out-Value R v))
      ∙ truth_follows (if wanted then is_null_value a (out-Value R v) else not (is_null_value a (out-Value R v)))

  -- ---- lambdas

  pub item_like : (x : Means R) (y : Means S) → Like x y → (slots : Slots R) (v : Value R)
      → Follows (x (with_item a slots v)) (y (with_item b (map m slots) (m v)))
  item_like x y h slots v = ap y (sym (map-append m slots (v ∷ []))) ∙ h (slots ++ v ∷ [])

  pub items_like : (x : Means R) (y : Means S) → Like x y → (slots : Slots R) (v w : Value R)
      → Follows (x (with_items a slots v w)) (y (with_items b (map m slots) (m v) (m w)))
  items_like x y h slots v w = ap y (sym (map-append m slots (v ∷ w ∷ []))) ∙ h (slots ++ v ∷ w ∷ [])

  pub condition_like : (x : Means R) (y : Means S) → Like x y → (slots : Slots R) (v : Value R)
      → is_true b y (with_item b (map m slots) (m v)) ≡ is_true a x (with_item a slots v)
  condition_like x y h slots v =
      on_scalar_same (truth_of world.unknown) (x (with_item a slots v)) (y (with_item b (map m slots) (m v))) (item_like x y h slots v)

  pub sorted_like : (x : Means R) (y : Means S) → Like x y → (slots : Slots R) (v : Value R)
      → on_scalar b (y (with_item b (map m slots) (m v))) (λ s. Ok s) ≡ on_scalar a (x (with_item a slots v)) (λ s. Ok s)
  sorted_like x y h slots v =
      on_scalar_same (λ s. Ok s) (x (with_item a slots v)) (y (with_item b (map m slots) (m v))) (item_like x y h slots v)

  -- ---- methods

  number_follows : (next : ℤ → Result (Value R) Fault) (more : ℤ → Result (Value S) Fault) → ((n : ℤ) → Follows (next n) (more n))
      → (o : Result (Value R) Fault) (p : Result (Value S) Fault) → Follows o p → Follows (on_number a o next) (on_number b p more)
  number_follows next more h o p is =
      ap (λ (q : Result ℤ Fault). on_ok q more) (on_scalar_same (number_of b) o p is) ∙ ok_alike m next more h (on_scalar a o (number_of a))

  -- two sequences as one stream
  second_follows : (join : Stream (Value R) → Stream (Value R) → Stream (Value R)) (meet : Stream (Value S) → Stream (Value S) → Stream (Value S))
      → ((s t : Stream (Value R)) → meet (stream_map m s) (stream_map m t) ≡ stream_map m (join s t))
      → (s : Stream (Value R)) (o : Result (Value R) Fault) (p : Result (Value S) Fault) → Follows o p
      → Follows (as_sequence (join s (stream_of a o))) (as_sequence (meet (stream_map m s) (stream_of b p)))
  second_follows join meet h s o p is =
      ap (λ (t : Stream (Value S)). as_sequence (meet (stream_map m s) t)) (stream_follows o p is)
      ∙ ap as_sequence (h s (stream_of a o)) ∙ items_kept f (join s (stream_of a o))

  pub given_follows : (method : Given) (s : Stream (Value R)) (o : Result (Value R) Fault) (p : Result (Value S) Fault) → Follows o p
      → Follows (given_meaning a method o s) (given_meaning b method p (stream_map m s))
  given_follows given.Concat s o p is = second_follows concat concat (concat_natural m) s o p is
  given_follows given.Union s o p is = second_follows (union same_keys) (union same_keys) (union_natural m same_keys same_keys (same_kept f)) s o p is
  given_follows given.Intersect s o p is =
      second_follows (intersect same_keys) (intersect same_keys) (intersect_natural m same_keys same_keys (same_kept f)) s o p is
  given_follows given.Except s o p is = second_follows (except same_keys) (except same_keys) (except_natural m same_keys same_keys (same_kept f)) s o p is
  given_follows given.Skip s o p is =
      number_follows (λ n. as_sequence (skip (as_count n) s.0 s.1)) (λ n. as_sequence (skip (as_count n) (map m s.0) s.1))
      (λ n. ap as_sequence (skip_natural m (as_count n) s.0 s.1) ∙ items_kept f (skip (as_count n) s.0 s.1)) o p is
  given_follows given.Take s o p is =
      number_follows (λ n. as_sequence (take_first (as_count n) s.0 s.1)) (λ n. as_sequence (take_first (as_count n) (map m s.0) s.1))
      (λ n. ap as_sequence (take_natural m (as_count n) s.0 s.1) ∙ items_kept f (take_first (as_count n) s.0 s.1)) o p is
  given_follows given.ElementAt s o p is =
      number_follows (λ n. element_at n s.0 s.1) (λ n. element_at n (map m s.0) s.1) (λ n. element_natural m n s.0 s.1) o p is
  given_follows given.Contains s o p is =
      ok_follows (λ v. as_truth (contains same_keys v s.0 s.1)) (λ v. as_truth (contains same_keys v (map m s.0) s.1))
      (λ v. ap as_truth (contains_natural m same_keys same_keys (same_kept f) v s.0 s.1) ∙ answer_kept f (contains same_keys v s.0 s.1)) o p is

  -- ---- matches

  pub matched_kept : (grouped : Bool) (key : Value R) (qs : List (Value R × Value R))
      → matched b grouped (m key) (map (pair_map m m) qs) ≡ map m (matched a grouped key qs)
  matched_kept true key qs =
      ap (λ (vs : List (Value S)). value.Seq vs end.Done ∷ []) (matches_kept f key qs)
      ∙ ap (λ (v : Value S). v ∷ []) (sym (mapped_Seq f (matches key qs) end.Done))
  matched_kept false key qs = matches_kept f key qs

  -- ---- forms

  pub first_like : (x : Means R) (y : Means S) → Like x y → Like (form_step a (Form-F.First x)) (form_step b (Form-F.First y))
  first_like x y h slots = ok_follows (λ v. Ok (first v)) (λ v. Ok (first v)) (λ v. ap Ok (first_kept f v)) (x slots) (y (map m slots)) (h slots)

  pub second_like : (x : Means R) (y : Means S) → Like x y → Like (form_step a (Form-F.Second x)) (form_step b (Form-F.Second y))
  second_like x y h slots = ok_follows (λ v. Ok (second v)) (λ v. Ok (second v)) (λ v. ap Ok (second_kept f v)) (x slots) (y (map m slots)) (h slots)

  pub column_like : (x : Means R) (y : Means S) → Like x y → (table c : ℕ)
      → Like (form_step a (Form-F.Column x table c)) (form_step b (Form-F.Column y table c))
  column_like x y h table c slots =
      ok_follows (λ v. cell_in a table c (out-Value R v)) (λ v. cell_in b table c (out-Value S v)) (column_follows table c)
      (x slots) (y (map m slots)) (h slots)

  pub host_like : (x : Means R) (y : Means S) → Like x y → (p table : ℕ) (columns : Pick)
      → Like (form_step a (Form-F.Host p x table columns)) (form_step b (Form-F.Host p y table columns))
  host_like x y h p table columns slots =
      ok_follows (λ v. answer_about a (Some p) (arguments_at a table columns) (out-Value R v))
      (λ v. answer_about b (Some p) (arguments_at b table columns) (out-Value S v)) (host_follows p table columns) (x slots) (y (map m slots)) (h slots)

  pub member_like : (x : Means R) (y : Means S) → Like x y → (place : ℕ) → Like (form_step a (Form-F.Member x place)) (form_step b (Form-F.Member y place))
  member_like x y h place slots =
      ok_follows (λ v. member_at a place (out-Value R v)) (λ v. member_at b place (out-Value S v)) (member_follows place)
      (x slots) (y (map m slots)) (h slots)

  pub key_like : (x : Means R) (y : Means S) → Like x y → Like (form_step a (Form-F.Key x)) (form_step b (Form-F.Key y))
  key_like x y h slots = ok_follows (λ v. key_in a (out-Value R v)) (λ v. key_in b (out-Value S v)) key_follows (x slots) (y (map m slots)) (h slots)

  pub unary_like : (o : Op) (x : Means R) (y : Means S) → Like x y → Like (form_step a (Form-F.Unary o x)) (form_step b (Form-F.Unary o y))
  unary_like o x y h slots =
      on_scalar_follows (λ s. as_value (of_one world.unknown o s)) (λ s. as_value (of_one world.unknown o s)) (λ s. value_kept f (of_one world.unknown o s))
      (x slots) (y (map m slots)) (h slots)

  pub binary_like : (o : Op) (x z : Means R) (y w : Means S) → Like x y → Like z w
      → Like (form_step a (Form-F.Binary o x z)) (form_step b (Form-F.Binary o y w))
  binary_like o x z y w h k slots =
      on_scalar_follows (λ s. on_scalar a (z slots) (λ t. as_value (of_two world.unknown o s t)))
      (λ s. on_scalar b (w (map m slots)) (λ t. as_value (of_two world.unknown o s t)))
      (λ s. on_scalar_follows (λ t. as_value (of_two world.unknown o s t)) (λ t. as_value (of_two world.unknown o s t))
      (λ t. value_kept f (of_two world.unknown o s t))
      (z slots) (w (map m slots)) (k slots)) (x slots) (y (map m slots)) (h slots)

  pub and_like : (x z : Means R) (y w : Means S) → Like x y → Like z w → Like (form_step a (Form-F.And x z)) (form_step b (Form-F.And y w))
  and_like x z y w h k slots =
      on_truth_follows (λ t. if t then z slots else Ok (truth_value false)) (λ t. if t then w (map m slots) else Ok (truth_value false))
      (λ t. choice_follows t (z slots) (Ok (truth_value false)) (w (map m slots)) (Ok (truth_value false)) (k slots) (truth_follows false))
      (x slots) (y (map m slots)) (h slots)

  pub or_like : (x z : Means R) (y w : Means S) → Like x y → Like z w → Like (form_step a (Form-F.Or x z)) (form_step b (Form-F.Or y w))
  or_like x z y w h k slots =
      on_truth_follows (λ t. if t then Ok (truth_value true) else z slots) (λ t. if t then Ok (truth_value true) else w (map m slots))
      (λ t. choice_follows t (Ok (truth_value true)) (z slots) (Ok (truth_value true)) (w (map m slots)) (truth_follows true) (k slots))
      (x slots) (y (map m slots)) (h slots)

  pub coalesce_like : (x z : Means R) (y w : Means S) → Like x y → Like z w → Like (form_step a (Form-F.Coalesce x z)) (form_step b (Form-F.Coalesce y w))
  coalesce_like x z y w h k slots =
      on_scalar_follows (λ s. if is_null s then z slots else Ok (value.Scalar s)) (λ s. if is_null s then w (map m slots) else Ok (value.Scalar s))
      (λ s. choice_follows (is_null s) (z slots) (Ok (value.Scalar s)) (w (map m slots)) (Ok (value.Scalar s)) (k slots) (scalar_follows s))
      (x slots) (y (map m slots)) (h slots)

  pub conditional_like : (c x z : Means R) (d y w : Means S) → Like c d → Like x y → Like z w
      → Like (form_step a (Form-F.Conditional c x z)) (form_step b (Form-F.Conditional d y w))
  conditional_like c x z d y w g h k slots =
      on_truth_follows (λ t. if t then x slots else z slots) (λ t. if t then y (map m slots) else w (map m slots))
      (λ t. choice_follows t (x slots) (z slots) (y (map m slots)) (w (map m slots)) (h slots) (k slots)) (c slots) (d (map m slots)) (g slots)

  pub null_like : (wanted : Bool) (x : Means R) (y : Means S) → Like x y → Like (form_step a (Form-F.IsNull wanted x)) (form_step b (Form-F.IsNull wanted y))
  null_like wanted x y h slots =
      ok_follows (λ v. let null = is_null_value a (out-Value R v) in Ok (truth_value (if wanted then null else not null)))
      (λ v. let null = is_null_value b (out-Value S v) in Ok (truth_value (if wanted then null else not null))) (null_follows wanted)
      (x slots) (y (map m slots)) (h slots)

  pub pair_like : (x z : Means R) (y w : Means S) → Like x y → Like z w → Like (form_step a (Form-F.Pair x z)) (form_step b (Form-F.Pair y w))
  pair_like x z y w h k slots =
      ok_follows (λ v. on_ok (z slots) (λ u. Ok (pair v u))) (λ v. on_ok (w (map m slots)) (λ u. Ok (pair v u)))
      (λ v. ok_follows (λ u. Ok (pair v u)) (λ u. Ok (pair (m v) u)) (λ u. ap Ok (pair_kept f v u)) (z slots) (w (map m slots)) (k slots))
      (x slots) (y (map m slots)) (h slots)

  -- ---- forms of sequences

  pub sequence_like : (x : Means R) (y : Means S) → Like x y → Like (form_step a (Form-F.Sequence x)) (form_step b (Form-F.Sequence y))
  sequence_like x y h slots = sequence_follows (stream_of a (x slots)) (stream_of b (y (map m slots))) (stream_follows (x slots) (y (map m slots)) (h slots))

  pub simple_like : (method : Simple) (t : Ty) (x : Means R) (y : Means S) → Like x y
      → Like (form_step a (Form-F.Simple method t x)) (form_step b (Form-F.Simple method t y))
  simple_like method t x y h slots =
      ap (simple_meaning method t) (stream_follows (x slots) (y (map m slots)) (h slots)) ∙ simple_natural f method t (stream_of a (x slots))

  pub given_like : (method : Given) (x z : Means R) (y w : Means S) → Like x y → Like z w
      → Like (form_step a (Form-F.Given method x z)) (form_step b (Form-F.Given method y w))
  given_like method x z y w h k slots =
      ap (given_meaning b method (w (map m slots))) (stream_follows (x slots) (y (map m slots)) (h slots))
      ∙ given_follows method (stream_of a (x slots)) (z slots) (w (map m slots)) (k slots)

  -- an operator on the stream of what comes first
  streamed : (next : Stream (Value R) → Stream (Value R)) (more : Stream (Value S) → Stream (Value S))
      → ((s : Stream (Value R)) → more (stream_map m s) ≡ stream_map m (next s))
      → (o : Result (Value R) Fault) (p : Result (Value S) Fault) → Follows o p
      → Follows (Ok (sequence (next (stream_of a o)))) (Ok (sequence (more (stream_of b p))))
  streamed next more h o p is = sequence_follows (next (stream_of a o)) (more (stream_of b p)) (ap more (stream_follows o p is) ∙ h (stream_of a o))

  pub where_like : (x z : Means R) (y w : Means S) → Like x y → Like z w → Like (form_step a (Form-F.Where x z)) (form_step b (Form-F.Where y w))
  where_like x z y w h k slots =
      streamed (λ s. where_by (λ v. is_true a z (with_item a slots v)) s.0 s.1) (λ s. where_by (λ v. is_true b w (with_item b (map m slots) v)) s.0 s.1)
      (λ s. where_natural m (λ v. is_true a z (with_item a slots v)) (λ v. is_true b w (with_item b (map m slots) v)) (condition_like z w k slots) s.0 s.1)
      (x slots) (y (map m slots)) (h slots)

  pub select_like : (x z : Means R) (y w : Means S) → Like x y → Like z w → Like (form_step a (Form-F.Select x z)) (form_step b (Form-F.Select y w))
  select_like x z y w h k slots =
      streamed (λ s. select_by (λ v. z (with_item a slots v)) s.0 s.1) (λ s. select_by (λ v. w (with_item b (map m slots) v)) s.0 s.1)
      (λ s. select_natural m m (λ v. z (with_item a slots v)) (λ v. w (with_item b (map m slots) v)) (item_like z w k slots) s.0 s.1)
      (x slots) (y (map m slots)) (h slots)

  pub all_like : (x z : Means R) (y w : Means S) → Like x y → Like z w → Like (form_step a (Form-F.All x z)) (form_step b (Form-F.All y w))
  all_like x z y w h k slots =
      let items = stream_of a (x slots) in
      ap (λ (s : Stream (Value S)). as_truth (all (λ v. is_true b w (with_item b (map m slots) v)) s.0 s.1)) (stream_follows (x slots) (y (map m slots)) (h slots))
      ∙ ap as_truth
      (all_natural m (λ v. is_true a z (with_item a slots v)) (λ v. is_true b w (with_item b (map m slots) v)) (condition_like z w k slots) items.0 items.1)
      ∙ answer_kept f (all (λ v. is_true a z (with_item a slots v)) items.0 items.1)

  pub many_like : (x inner result : Means R) (y other found : Means S) → Like x y → Like inner other → Like result found
      → Like (form_step a (Form-F.SelectMany x inner result)) (form_step b (Form-F.SelectMany y other found))
  many_like x inner result y other found h i r slots =
      streamed (λ s. expand_by (λ v. stream_of a (inner (with_item a slots v))) (λ v w. result (with_items a slots v w)) s.0 s.1)
      (λ s. expand_by (λ v. stream_of b (other (with_item b (map m slots) v))) (λ v w. found (with_items b (map m slots) v w)) s.0 s.1)
      (λ s. expand_natural m m m (λ v. stream_of a (inner (with_item a slots v))) (λ v. stream_of b (other (with_item b (map m slots) v)))
      (λ v. stream_follows (inner (with_item a slots v)) (other (with_item b (map m slots) (m v))) (item_like inner other i slots v))
      (λ v w. result (with_items a slots v w)) (λ v w. found (with_items b (map m slots) v w)) (items_like result found r slots) s.0 s.1)
      (x slots) (y (map m slots)) (h slots)

  pub group_like : (x key element : Means R) (y other found : Means S) → Like x y → Like key other → Like element found
      → Like (form_step a (Form-F.GroupBy x key element)) (form_step b (Form-F.GroupBy y other found))
  group_like x key element y other found h k e slots =
      streamed (λ s. group_by same_keys (λ v. key (with_item a slots v)) (λ v. element (with_item a slots v)) as_group s.0 s.1)
      (λ s. group_by same_keys (λ v. other (with_item b (map m slots) v)) (λ v. found (with_item b (map m slots) v)) as_group s.0 s.1)
      (λ s. group_natural m same_keys same_keys (same_kept f) m m m (λ v. key (with_item a slots v)) (λ v. other (with_item b (map m slots) v))
      (item_like key other k slots)
      (λ v. element (with_item a slots v)) (λ v. found (with_item b (map m slots) v)) (item_like element found e slots) as_group as_group (group_kept f) s.0
      s.1)
      (x slots) (y (map m slots)) (h slots)

  -- the parts of a join
  pub join_like : (x : Means R) (y : Means S) → Like x y → (j : Joined (Means R)) (k : Joined (Means S)) → Like j.inner k.inner
      → Like j.outer_key k.outer_key → Like j.inner_key k.inner_key
      → k.grouped ≡ j.grouped → Like j.result k.result → Like (form_step a (Form-F.Join x j)) (form_step b (Form-F.Join y k))
  join_like x y h j k inner outer_key inner_key grouped result slots =
      streamed (joined_stream a slots j) (joined_stream b (map m slots) k)
      (λ s. (λ i. join_by (inner_items i) (λ v. k.outer_key (with_item b (map m slots) v)) (matched b (grouped i))
      (λ v w. k.result (with_items b (map m slots) v w)) (map m s.0) s.1)
      ∙ join_natural m (pair_map m m) m m m (λ v. j.outer_key (with_item a slots v)) (λ v. k.outer_key (with_item b (map m slots) v))
      (item_like j.outer_key k.outer_key outer_key slots)
      (matched a j.grouped) (matched b j.grouped) (matched_kept j.grouped)
      (λ v w. j.result (with_items a slots v w)) (λ v w. k.result (with_items b (map m slots) v w)) (items_like j.result k.result result slots)
      (with_keys (λ v. j.inner_key (with_item a slots v)) (stream_of a (j.inner slots))) s.0 s.1)
      (x slots) (y (map m slots)) (h slots)
    where
      inner_items : with_keys (λ v. k.inner_key (with_item b (map m slots) v)) (stream_of b (k.inner (map m slots)))
          ≡ stream_map (pair_map m m) (with_keys (λ v. j.inner_key (with_item a slots v)) (stream_of a (j.inner slots)))
      inner_items =
          ap (with_keys (λ v. k.inner_key (with_item b (map m slots) v))) (stream_follows (j.inner slots) (k.inner (map m slots)) (inner slots))
          ∙ keys_natural m m (λ v. j.inner_key (with_item a slots v)) (λ v. k.inner_key (with_item b (map m slots) v))
          (item_like j.inner_key k.inner_key inner_key slots)
          (stream_of a (j.inner slots))
