-- What each form means, over what the forms in it mean.
use Rattle.std.proofs.Common.{◌≡◌, if◌then◌else◌, not, List, map, ℕ, Bool, true, false, Some, Result, Ok, ap, ◌∙◌, slice_get}
use Rattle.lq_value.specs.SameAndOrder.{same_values as same_keys}
use Rattle.lq_value.specs.declared.scalar.Scalar.{Scalar}
use Rattle.lq_value.specs.declared.ty.Ty.{Ty}
use Rattle.lq_value.specs.declared.value.Fault.{Fault}
use Rattle.lq_value.specs.declared.value.Value.{Value, out-Value}
use Rattle.lq_value.specs.declared.value.Value.TheVariants as value
use Rattle.lq_host.specs.declared.call.Pick.{Pick}
use Rattle.lq_language.specs.Arrangement.{order_by}
use Rattle.lq_language.specs.Worlds.{World}
use Rattle.lq_language.specs.OperandMeaning.{as_value, answer_about, is_null, on_scalar, on_truth, sequence, scalar_of, stream_of, table_value, truth_value}
use Rattle.lq_language.specs.ClauseMeaning.{as_group}
use Rattle.lq_language.specs.Operations.{of_one, of_two, on_ok}
use Rattle.lq_language.specs.Enumerable.{all}
use Rattle.lq_language.specs.Operators.{first, pair, second}
use Rattle.lq_language.specs.Stream.{expand_by, group_by}
use Rattle.lq_language.specs.Meaning.{as_truth, given_meaning, simple_meaning}
use Rattle.lq_language.specs.declared.methods.Given.{Given}
use Rattle.lq_language.specs.declared.methods.Simple.{Simple}
use Rattle.lq_language.specs.declared.operation.Op.{Op}
use Rattle.lq_grammar.specs.declared.syntax.Field.{Field}
use Rattle.lq_grammar.specs.declared.syntax.SortKey.{SortKey}
use Rattle.lq_tree.specs.FormMeaning.{Means, Slots, arguments_at, cell_in, form_meaning, form_step, if_there, is_null_value, is_true, joined_stream, key_in, member_at, members_of, sort_key, with_item, with_items}
use Rattle.lq_tree.specs.declared.tree.Form.{Form, fold_out-Form, map-Form, out-Form}
use Rattle.lq_tree.specs.declared.tree.Form.TheOpen.{Form-F}
use Rattle.lq_tree.specs.declared.tree.Form.TheVariants as form
use Rattle.lq_tree.specs.declared.tree.Joined.{Joined}
use Rattle.lq_plan.specs.Lists.{field_means, joined_means, key_means}
use Rattle.lq_plan.specs.Pulling.{through_select, through_where}

module _ {R : Type 0} (world : World R) where
  abbrev layer_meaning : Form-F Form → Means R
  layer_meaning layer = form_step world (map-Form Form (Means R) (form_meaning world) layer)

  form_out : (f : Form) (slots : Slots R) → form_meaning world f slots ≡ layer_meaning (out-Form f) slots
  unfolding form_meaning
  form_out f slots = ap (λ (m : Means R). m slots) (fold_out-Form (Means R) (form_step world) f)

  at : (f : Form) (layer : Form-F Form) (slots : Slots R) → out-Form f ≡ layer → form_meaning world f slots ≡ layer_meaning layer slots
  at f layer slots h = form_out f slots ∙ ap (λ l. layer_meaning l slots) h

  pub form_literal : (s : Scalar) (slots : Slots R) → form_meaning world (form.Literal s) slots ≡ Ok (value.Scalar s)
  form_literal s slots = at _ _ slots (form.outs-Literal s)

  pub form_slot : (n : ℕ) (slots : Slots R) → form_meaning world (form.Slot n) slots ≡ if_there world (slice_get slots n)
  form_slot n slots = at _ _ slots (form.outs-Slot n)

  pub form_first : (a : Form) (slots : Slots R) → form_meaning world (form.First a) slots ≡ on_ok (form_meaning world a slots) (λ v. Ok (first v))
  form_first a slots = at _ _ slots (form.outs-First a)

  pub form_second : (a : Form) (slots : Slots R) → form_meaning world (form.Second a) slots ≡ on_ok (form_meaning world a slots) (λ v. Ok (second v))
  form_second a slots = at _ _ slots (form.outs-Second a)

  pub form_table : (n : ℕ) (slots : Slots R) → form_meaning world (form.Table n) slots ≡ table_value world (slice_get world.rows n)
  form_table n slots = at _ _ slots (form.outs-Table n)

  pub form_column : (a : Form) (table c : ℕ) (slots : Slots R)
      → form_meaning world (form.Column a table c) slots ≡ on_ok (form_meaning world a slots) (λ v. cell_in world table c (out-Value R v))
  form_column a table c slots = at _ _ slots (form.outs-Column a table c)

  pub form_host : (predicate : ℕ) (a : Form) (table : ℕ) (columns : Pick) (slots : Slots R)
      → form_meaning world (form.Host predicate a table columns) slots
      ≡ on_ok (form_meaning world a slots) (λ v. answer_about world (Some predicate) (arguments_at world table columns) (out-Value R v))
  form_host predicate a table columns slots = at _ _ slots (form.outs-Host predicate a table columns)

  pub form_member : (a : Form) (place : ℕ) (slots : Slots R)
      → form_meaning world (form.Member a place) slots ≡ on_ok (form_meaning world a slots) (λ v. member_at world place (out-Value R v))
  form_member a place slots = at _ _ slots (form.outs-Member a place)

  pub form_key : (a : Form) (slots : Slots R)
      → form_meaning world (form.Key a) slots ≡ on_ok (form_meaning world a slots) (λ v. key_in world (out-Value R v))
  form_key a slots = at _ _ slots (form.outs-Key a)

  pub form_unary : (o : Op) (a : Form) (slots : Slots R)
      → form_meaning world (form.Unary o a) slots ≡ on_scalar world (form_meaning world a slots) (λ s. as_value (of_one world.unknown o s))
  form_unary o a slots = at _ _ slots (form.outs-Unary o a)

  pub form_binary : (o : Op) (a b : Form) (slots : Slots R)
      → form_meaning world (form.Binary o a b) slots
      ≡ on_scalar world (form_meaning world a slots) (λ s. on_scalar world (form_meaning world b slots) (λ t. as_value (of_two world.unknown o s t)))
  form_binary o a b slots = at _ _ slots (form.outs-Binary o a b)

  of_scalar : (s : Scalar) (next : Scalar → Result (Value R) Fault) → on_scalar world (Ok (value.Scalar s)) next ≡ next s
  of_scalar s next = ap (λ layer. on_ok (scalar_of world layer) next) (value.outs-Scalar s)

  pub binary_of : (o : Op) (a b : Form) (slots : Slots R) (x y : Scalar)
      → form_meaning world a slots ≡ Ok (value.Scalar x) → form_meaning world b slots ≡ Ok (value.Scalar y)
      → form_meaning world (form.Binary o a b) slots ≡ as_value (of_two world.unknown o x y)
  binary_of o a b slots x y left right =
      form_binary o a b slots
      ∙ ap (λ m. on_scalar world m (λ s. on_scalar world (form_meaning world b slots) (λ t. as_value (of_two world.unknown o s t)))) left
      ∙ of_scalar x (λ s. on_scalar world (form_meaning world b slots) (λ t. as_value (of_two world.unknown o s t)))
      ∙ ap (λ m. on_scalar world m (λ t. as_value (of_two world.unknown o x t))) right
      ∙ of_scalar y (λ t. as_value (of_two world.unknown o x t))

  pub form_both : (a b : Form) (slots : Slots R)
      → form_meaning world (form.And a b) slots
      ≡ on_truth world (form_meaning world a slots) (λ t. if t then form_meaning world b slots else Ok (truth_value false))
  form_both a b slots = at _ _ slots (form.outs-And a b)

  pub form_either : (a b : Form) (slots : Slots R)
      → form_meaning world (form.Or a b) slots
      ≡ on_truth world (form_meaning world a slots) (λ t. if t then Ok (truth_value true) else form_meaning world b slots)
  form_either a b slots = at _ _ slots (form.outs-Or a b)

  pub form_coalesce : (a b : Form) (slots : Slots R)
      → form_meaning world (form.Coalesce a b) slots
      ≡ on_scalar world (form_meaning world a slots) (λ s. if is_null s then form_meaning world b slots else Ok (value.Scalar s))
  form_coalesce a b slots = at _ _ slots (form.outs-Coalesce a b)

  pub form_choice : (c a b : Form) (slots : Slots R)
      → form_meaning world (form.Conditional c a b) slots
      ≡ on_truth world (form_meaning world c slots) (λ t. if t then form_meaning world a slots else form_meaning world b slots)
  form_choice c a b slots = at _ _ slots (form.outs-Conditional c a b)

  pub form_is_null : (wanted : Bool) (a : Form) (slots : Slots R)
      → form_meaning world (form.IsNull wanted a) slots
      ≡ on_ok (form_meaning world a slots)
      (λ v. Ok (truth_value (if wanted then is_null_value world (out-Value R v) else not (is_null_value world (out-Value R v)))))
  form_is_null wanted a slots = at _ _ slots (form.outs-IsNull wanted a)

  pub form_record : (fields : List (Field Form)) (slots : Slots R)
      → form_meaning world (form.Record fields) slots ≡ on_ok (members_of world (map (field_means world) fields) slots) (λ ms. Ok (value.Rec ms))
  form_record fields slots = at _ _ slots (form.outs-Record fields)

  pub form_pair : (a b : Form) (slots : Slots R)
      → form_meaning world (form.Pair a b) slots
      ≡ on_ok (form_meaning world a slots) (λ v. on_ok (form_meaning world b slots) (λ w. Ok (pair v w)))
  form_pair a b slots = at _ _ slots (form.outs-Pair a b)

  pub form_sequence : (a : Form) (slots : Slots R) → form_meaning world (form.Sequence a) slots ≡ Ok (sequence (stream_of world (form_meaning world a slots)))
  form_sequence a slots = at _ _ slots (form.outs-Sequence a)

  pub form_simple : (method : Simple) (t : Ty) (a : Form) (slots : Slots R)
      → form_meaning world (form.Simple method t a) slots ≡ simple_meaning method t (stream_of world (form_meaning world a slots))
  form_simple method t a slots = at _ _ slots (form.outs-Simple method t a)

  pub form_given : (method : Given) (a b : Form) (slots : Slots R)
      → form_meaning world (form.Given method a b) slots
      ≡ given_meaning world method (form_meaning world b slots) (stream_of world (form_meaning world a slots))
  form_given method a b slots = at _ _ slots (form.outs-Given method a b)

  pub form_where : (a f : Form) (slots : Slots R)
      → form_meaning world (form.Where a f) slots ≡ Ok (sequence (through_where world slots f (stream_of world (form_meaning world a slots))))
  form_where a f slots = at _ _ slots (form.outs-Where a f)

  pub form_select : (a f : Form) (slots : Slots R)
      → form_meaning world (form.Select a f) slots ≡ Ok (sequence (through_select world slots f (stream_of world (form_meaning world a slots))))
  form_select a f slots = at _ _ slots (form.outs-Select a f)

  pub form_all : (a f : Form) (slots : Slots R)
      → form_meaning world (form.All a f) slots
      ≡ as_truth (all (λ v. is_true world (form_meaning world f) (with_item world slots v)) (stream_of world (form_meaning world a slots)).0
      (stream_of world (form_meaning world a slots)).1)
  form_all a f slots = at _ _ slots (form.outs-All a f)

  pub form_select_many : (a inner result : Form) (slots : Slots R)
      → form_meaning world (form.SelectMany a inner result) slots
      ≡ Ok (sequence
      (expand_by (λ v. stream_of world (form_meaning world inner (with_item world slots v))) (λ v w. form_meaning world result (with_items world slots v w))
      (stream_of world (form_meaning world a slots)).0 (stream_of world (form_meaning world a slots)).1))
  form_select_many a inner result slots = at _ _ slots (form.outs-SelectMany a inner result)

  pub form_join : (a : Form) (j : Joined Form) (slots : Slots R)
      → form_meaning world (form.Join a j) slots
      ≡ Ok (sequence (joined_stream world slots (joined_means world j) (stream_of world (form_meaning world a slots))))
  form_join a j slots = at _ _ slots (form.outs-Join a j)

  pub form_order_by : (a : Form) (ks : List (SortKey Form)) (slots : Slots R)
      → form_meaning world (form.OrderBy a ks) slots
      ≡ Ok (sequence
      (order_by (λ k. k.descending) (sort_key world slots) (map (key_means world) ks) (stream_of world (form_meaning world a slots)).0
      (stream_of world (form_meaning world a slots)).1))
  form_order_by a ks slots = at _ _ slots (form.outs-OrderBy a ks)

  pub form_group_by : (a key element : Form) (slots : Slots R)
      → form_meaning world (form.GroupBy a key element) slots
      ≡ Ok (sequence
      (group_by same_keys (λ v. form_meaning world key (with_item world slots v)) (λ v. form_meaning world element (with_item world slots v)) as_group
      (stream_of world (form_meaning world a slots)).0 (stream_of world (form_meaning world a slots)).1))
  form_group_by a key element slots = at _ _ slots (form.outs-GroupBy a key element)

pub ruleset parts = (form_first, form_second, form_column, form_host, form_member, form_key, form_is_null)

pub ruleset stages = (form_sequence, form_where, form_select)
