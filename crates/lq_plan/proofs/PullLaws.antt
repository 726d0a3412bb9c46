-- Items that are pulled one by one: what comes of them at each form, and what an opened base comes to.
use Rattle.std.proofs.Common.{◌≡◌, ◌∷◌, ◌++◌, List, [], ℕ, Option, Some, None, Result, Ok, ap, ◌∙◌, sym, refl, map, slice_get, true, true≢false}
use Rattle.lq_value.specs.declared.scalar.Scalar.{Scalar}
use Rattle.lq_value.specs.declared.value.End.{End}
use Rattle.lq_value.specs.declared.value.End.TheVariants as end
use Rattle.lq_value.specs.declared.value.Fault.{Fault}
use Rattle.lq_value.specs.declared.value.Fault.TheVariants as fault
use Rattle.lq_value.specs.declared.value.Value.{Value}
use Rattle.lq_value.specs.declared.value.Value.TheVariants as value
use Rattle.lq_language.specs.Stream.{Stream, each, item_where, one, then_ending, then_stream}
use Rattle.lq_language.specs.Worlds.{World}
use Rattle.lq_language.specs.OperandMeaning.{items_of, sequence, stream_of, table_value}
use Rattle.lq_tree.specs.FormMeaning.{Slots, form_meaning, is_true, with_item}
use Rattle.lq_tree.specs.declared.tree.Form.{Form, map-Form, out-Form, para-roll-Form, roll-Form}
use Rattle.lq_tree.specs.declared.tree.Form.TheOpen.{Form-F}
use Rattle.lq_tree.specs.declared.tree.Form.TheVariants as form
use Rattle.lq_tree.specs.declared.tree.Form.TheViews.{roll-out-Form}
use Rattle.lq_plan.specs.declared.bases.Base.{Base}
use Rattle.lq_plan.specs.Prepared.{IsPlanned, SelectsItem, SelectsScalar}
use Rattle.lq_plan.specs.Pulling.{base_stream, end_of, item_at, item_step, items_at, last, stream_behind, rest_behind, rows_or_none, through_select, through_stage, through_where}
use Rattle.lq_plan.specs.Stages.{IsStageOver, has_no_stage, has_no_stage_step, is_base, is_base_step}
use Rattle.lq_plan.specs.declared.plans.Plan.{Plan}
use Rattle.lq_plan.specs.declared.stages.Stage.{Stage}
use Rattle.lq_plan.specs.declared.stages.Stage.TheVariants as stage
use Rattle.lq_plan.proofs.FormLaws.{form_select, form_sequence, form_table, form_where}
use Rattle.lq_language.proofs.StreamLaws.{then_assoc}

-- ---- streams

module _ {A B : Type 0} (f : A → Stream B) where
  -- what comes of a stream behind another
  each_behind : (xs : List A) (t : Stream A) → each f (xs ++ t.0) t.1 ≡ then_stream (each f xs end.Done) (each f t.0 t.1)
  each_behind [] t = refl
  each_behind (x ∷ xs) t =
      ap (then_stream (f x)) (each_behind xs t)
      ∙ then_assoc (f x).0 (f x).1 (each f xs end.Done).0 (each f xs end.Done).1 (each f t.0 t.1)

  each_stopped : (xs : List A) (g : Fault) (rest : Stream B) → then_stream (each f xs (end.Fault g)) rest ≡ each f xs (end.Fault g)
  each_stopped [] g rest = refl
  each_stopped (x ∷ xs) g rest =
      sym (then_assoc (f x).0 (f x).1 (each f xs (end.Fault g)).0 (each f xs (end.Fault g)).1 rest)
      ∙ ap (then_stream (f x)) (each_stopped xs g rest)

  pub each_then : (xs : List A) (d : End) (t : Stream A)
      → each f (then_ending xs d t).0 (then_ending xs d t).1 ≡ then_stream (each f xs d) (each f t.0 t.1)
  each_then xs end.Done t = each_behind xs t
  each_then xs (end.Fault g) t = sym (each_stopped xs g (each f t.0 t.1))

-- what comes of what comes of each item
pub each_each : {A B C : Type 0} (f : B → Stream C) (g : A → Stream B) (xs : List A) (e : End)
    → each f (each g xs e).0 (each g xs e).1 ≡ each (λ x. each f (g x).0 (g x).1) xs e
each_each f g [] e = refl
each_each f g (x ∷ xs) e =
    each_then f (g x).0 (g x).1 (each g xs e) ∙ ap (then_stream (each f (g x).0 (g x).1)) (each_each f g xs e)

pub each_one : {A : Type 0} (f : A → Stream A) → ((x : A) → f x ≡ (x ∷ [], end.Done)) → (xs : List A) (e : End) → each f xs e ≡ (xs, e)
each_one f same [] e = refl
each_one f same (x ∷ xs) e =
    ap (λ (s : Stream _). then_stream s (each f xs e)) (same x) ∙ ap (λ (s : Stream _). (x ∷ s.0, s.1)) (each_one f same xs e)

-- ---- forms

module _ {R : Type 0} (world : World R) (slots : Slots R) where
  abbrev pub Passes : Type 0
  Passes = Value R → Stream (Value R)

  abbrev pub layer_items : Form-F Form → Passes
  layer_items layer = item_step world slots (map-Form Form (Form × Passes) (λ f. (f, item_at world slots f)) layer)

  pub roll_item : (layer : Form-F Form) (x : Value R) → item_at world slots (roll-Form layer) x ≡ layer_items layer x
  unfolding item_at
  roll_item layer x = ap (λ (m : Passes). m x) (para-roll-Form Passes (item_step world slots) layer)

  item_out : (f : Form) (x : Value R) → item_at world slots f x ≡ layer_items (out-Form f) x
  item_out f x = ap (λ g. item_at world slots g x) (sym (roll-out-Form f)) ∙ roll_item (out-Form f) x

  at : (f : Form) (layer : Form-F Form) (x : Value R) → out-Form f ≡ layer → item_at world slots f x ≡ layer_items layer x
  at f layer x h = item_out f x ∙ ap (λ l. layer_items l x) h

  -- above a base an item is what it is
  of_base_layer : (layer : Form-F Form) (x : Value R) → is_base_step layer ≡ true → layer_items layer x ≡ (x ∷ [], end.Done)
  of_base_layer (Form-F.Where a f) x h = absurd (true≢false (sym h))
  of_base_layer (Form-F.Select a f) x h = absurd (true≢false (sym h))
  of_base_layer (Form-F.Sequence a) x h = absurd (true≢false (sym h))
  of_base_layer layer x h = refl

  pub base_item : (f : Form) (x : Value R) → is_base f ≡ true → item_at world slots f x ≡ (x ∷ [], end.Done)
  base_item f x h = item_out f x ∙ of_base_layer (out-Form f) x h

  pub table_item : (n : ℕ) (x : Value R) → item_at world slots (form.Table n) x ≡ (x ∷ [], end.Done)
  table_item n x = at _ _ x (form.outs-Table n)

  -- and above a stage what comes of it there
  pub sequence_item : (a : Form) (x : Value R) → item_at world slots (form.Sequence a) x ≡ item_at world slots a x
  sequence_item a x = at _ _ x (form.outs-Sequence a)

  pub where_item : (a f : Form) (x : Value R) → item_at world slots (form.Where a f) x ≡ through_where world slots f (item_at world slots a x)
  where_item a f x = at _ _ x (form.outs-Where a f)

  select_item : (a f : Form) (x : Value R) → item_at world slots (form.Select a f) x ≡ through_select world slots f (item_at world slots a x)
  select_item a f x = at _ _ x (form.outs-Select a f)

  pub stage_item : (st : Stage) (f a : Form) (x : Value R) → IsStageOver f st a
      → item_at world slots f x ≡ through_stage world slots st (item_at world slots a x)
  stage_item stage.Plain f a x is = ap (λ g. item_at world slots g x) is ∙ sequence_item a x
  stage_item (stage.Where c) f a x is = ap (λ g. item_at world slots g x) is ∙ where_item a c.now x
  stage_item (stage.Select c) f a x is = ap (λ g. item_at world slots g x) is ∙ select_item a c.now x

  pub passes_base : (f : Form) (x : Value R) → is_base f ≡ true → ◌≡◌ {A = Stream (Value R)} (x ∷ [], end.Done) (item_at world slots f x)
  passes_base f x base = sym (base_item f x base)

  pub passes_sequence : (f a : Form) (x : Value R) (o : Stream (Value R)) → f ≡ form.Sequence a → o ≡ item_at world slots a x → o ≡ item_at world slots f x
  passes_sequence f a x o is h = h ∙ sym (stage_item stage.Plain f a x is)

  pub passes_stage : (st : Stage) (f a : Form) (x : Value R) (o : Stream (Value R)) → IsStageOver f st a
      → o ≡ through_stage world slots st (item_at world slots a x) → o ≡ item_at world slots f x
  passes_stage st f a x o is h = h ∙ sym (stage_item st f a x is)

  -- and so it is above a sequence over a base
  bare_layer : (layer : Form-F Form) (x : Value R) → has_no_stage_step layer ≡ true → layer_items layer x ≡ (x ∷ [], end.Done)
  bare_layer (Form-F.Where a f) x h = absurd (true≢false (sym h))
  bare_layer (Form-F.Select a f) x h = absurd (true≢false (sym h))
  bare_layer (Form-F.Sequence a) x h = base_item a x h
  bare_layer layer x h = refl

  pub bare_item : (f : Form) (x : Value R) → has_no_stage f ≡ true → item_at world slots f x ≡ (x ∷ [], end.Done)
  bare_item f x h = item_out f x ∙ bare_layer (out-Form f) x h

  -- ---- what comes of all items

  pub stream_sequence : (s : Stream (Value R)) → stream_of world (Ok (sequence s)) ≡ s
  stream_sequence s = ap (items_of world) (value.outs-Seq s.0 s.1)

  abbrev items : Form → Stream (Value R)
  items f = stream_of world (form_meaning world f slots)

  -- the items of a form that is a stage are those that come of its source's
  pub stage_items : (st : Stage) (f a : Form) → IsStageOver f st a → stream_behind world slots st a ≡ items f
  stage_items stage.Plain f a is =
      sym (ap items is ∙ ap (stream_of world) (form_sequence world a slots) ∙ stream_sequence (items a))
  stage_items (stage.Where c) f a is =
      sym (ap items is ∙ ap (stream_of world) (form_where world a c.now slots) ∙ stream_sequence (through_where world slots c.now (items a)))
  stage_items (stage.Select c) f a is =
      sym (ap items is ∙ ap (stream_of world) (form_select world a c.now slots) ∙ stream_sequence (through_select world slots c.now (items a)))

  -- what comes of a base at a source and the stage behind it
  through_each : (st : Stage) (a : Form) (s : Stream (Value R))
      → each (λ x. through_stage world slots st (item_at world slots a x)) s.0 s.1 ≡ through_stage world slots st (items_at world slots a s)
  through_each stage.Plain a s = refl
  through_each (stage.Where c) a s =
      sym (each_each (λ v. item_where (is_true world (form_meaning world c.now) (with_item world slots v)) v) (item_at world slots a) s.0 s.1)
  through_each (stage.Select c) a s = sym (each_each (λ v. one (form_meaning world c.now (with_item world slots v))) (item_at world slots a) s.0 s.1)

  -- ---- bases of forms

  pub opens_base : {S : Type 0} → (f : Form) (b : Base R S) → is_base f ≡ true → base_stream b ≡ items f → items_at world slots f (base_stream b) ≡ items f
  opens_base f b base is = each_one (item_at world slots f) (λ x. base_item f x base) (base_stream b).0 (base_stream b).1 ∙ is

  pub opens_stage : {S : Type 0} → (st : Stage) (f a : Form) (b : Base R S) → IsStageOver f st a → items_at world slots a (base_stream b) ≡ items a
      → items_at world slots f (base_stream b) ≡ items f
  opens_stage st f a b is opened =
      (λ i. each (λ x. stage_item st f a x is i) (base_stream b).0 (base_stream b).1)
      ∙ through_each st a (base_stream b) ∙ ap (through_stage world slots st) opened ∙ stage_items st f a is

  found_or_not : world.unknown ≡ fault.NullReference → (found : Option (List R))
      → ◌≡◌ {A = Stream (Value R)} (map value.Row (rows_or_none found), end_of found) (stream_of world (table_value world found))
  found_or_not known (Some rows) = sym (stream_sequence (map value.Row rows, end.Done))
  found_or_not known None = ap (λ (f : Fault). ([], end.Fault f)) (sym known)

  pub table_opened : (n : ℕ) (b : Stream (Value R)) → b ≡ stream_of world (table_value world (slice_get world.rows n)) → b ≡ stream_of world (form_meaning world (form.Table n) slots)
  table_opened n b is = is ∙ ap (stream_of world) (sym (form_table world n slots))

  pub rows_found : (b : Stream (Value R)) (rows : List R) (e : End) (found : Option (List R)) → world.unknown ≡ fault.NullReference
      → rows ≡ rows_or_none found → e ≡ end_of found → b ≡ (map value.Row rows, e) → b ≡ stream_of world (table_value world found)
  rows_found b rows e found known rows_are ends is =
      is ∙ (λ i. (map value.Row (rows_are i), ends i)) ∙ found_or_not known found

  -- ---- pulling

  -- what is left of an opened base is all that is pulled
  pub left_opened : {S : Type 0} → (st : Stage) (a : Form) (b : Base R S) → items_at world slots a (base_stream b) ≡ items a
      → rest_behind world slots st a b ≡ stream_behind world slots st a
  left_opened st a b opened = through_each st a (base_stream b) ∙ ap (through_stage world slots st) opened

module _ {R : Type 0} (world : World R) (slots : Slots R) where
  -- the items of a pipe without a stage of its own are those of its source
  pub plain_items : (st : Stage) (a a' : Form) → st ≡ stage.Plain → a ≡ a' → stream_behind world slots st a ≡ stream_of world (form_meaning world a' slots)
  plain_items st a a' plain is =
      ap (λ s. stream_behind world slots s a) plain ∙ ap (λ f. stream_of world (form_meaning world f slots)) is

module _ {R : Type 0} (world : World R) (slots : Slots R) where
  -- ---- what a lambda gives of one item

  gives : (body : Form) (v w : Value R) → form_meaning world body (with_item world slots v) ≡ Ok w
      → ◌≡◌ {A = Stream (Value R)} (through_select world slots body (v ∷ [], end.Done)) (w ∷ [], end.Done)
  gives body v w is = ap (λ (m : Result (Value R) Fault). then_stream (one m) ([], end.Done)) is

  -- the scalar that the stage gives of an item is what comes of it there
  pub cell_given : (st : Stage) (v : Value R) (s : Scalar) → SelectsScalar world slots st v s
      → ◌≡◌ {A = Stream (Value R)} (through_stage world slots st (v ∷ [], end.Done)) (value.Scalar s ∷ [], end.Done)
  cell_given stage.Plain v s is = absurd is
  cell_given (stage.Where f) v s is = absurd is
  cell_given (stage.Select f) v s is = gives f.now v (value.Scalar s) is

  pub cell_last : (st : Stage) (v : Value R) (s : Scalar) → SelectsScalar world slots st v s
      → ◌≡◌ {A = Stream (Value R)} (last world slots st v) (value.Scalar s ∷ [], end.Done)
  cell_last stage.Plain v s is = absurd is
  cell_last (stage.Where f) v s is = absurd is
  cell_last (stage.Select f) v s is = gives f.now v (value.Scalar s) is

  -- and where it gives the item itself, that comes
  pub comes_itself : (st : Stage) (v : Value R) → SelectsItem world slots st
      → ◌≡◌ {A = Stream (Value R)} (through_stage world slots st (v ∷ [], end.Done)) (v ∷ [], end.Done)
  comes_itself stage.Plain v is = absurd is
  comes_itself (stage.Where f) v is = absurd is
  comes_itself (stage.Select f) v is = gives f.now v v (is.at v)

  last_itself : (st : Stage) (v : Value R) → SelectsItem world slots st → ◌≡◌ {A = Stream (Value R)} (last world slots st v) (v ∷ [], end.Done)
  last_itself stage.Plain v is = absurd is
  last_itself (stage.Where f) v is = absurd is
  last_itself (stage.Select f) v is = gives f.now v v (is.at v)

module _ {R : Type 0} (table_of : R → ℕ) (shown : R → List Scalar) (world : World R) (slots : Slots R) (st : Stage) (source : Form) (plan : Plan) where
  -- where a plan says that the stage gives each item itself, an item that passes comes as it is, and so does each that comes to the stage
  pub item_given : (v : Value R) → IsPlanned table_of shown world slots st source plan → plan.gives_row ≡ true
      → ◌≡◌ {A = Stream (Value R)} (last world slots st v) (v ∷ [], end.Done)
  item_given v planned is = last_itself world slots st v (planned.item is)

  pub item_comes : (v : Value R) → IsPlanned table_of shown world slots st source plan → plan.gives_row ≡ true
      → ◌≡◌ {A = Stream (Value R)} (through_stage world slots st (v ∷ [], end.Done)) (v ∷ [], end.Done)
  item_comes v planned is = comes_itself world slots st v (planned.item is)

pub ruleset passes = (passes_base, passes_sequence, passes_stage)

pub ruleset opens = (opens_base, opens_stage)
