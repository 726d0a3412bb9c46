-- Every form over rows that are replaced by rows with the same cells means what it meant, with the rows replaced.
use Rattle.std.proofs.Common.{◌≡◌, ◌∷◌, List, [], map, ℕ, Option, Ok, ap, ◌∙◌, sym, refl, subst}
use Rattle.lq_value.specs.declared.scalar.Scalar.{Scalar}
use Rattle.lq_value.specs.declared.value.Value.{Value}
use Rattle.lq_value.specs.declared.value.Value.TheVariants as value
use Rattle.lq_language.specs.Arrangement.{order_by}
use Rattle.lq_language.specs.Maps.{map_field, map_key}
use Rattle.lq_language.specs.Worlds.{SessionValue, World}
use Rattle.lq_language.specs.OperandMeaning.{stream_of}
use Rattle.lq_language.specs.Operations.{on_ok}
use Rattle.lq_language.specs.Stream.{Stream}
use Rattle.lq_grammar.specs.declared.syntax.Field.{Field}
use Rattle.lq_grammar.specs.declared.syntax.SortKey.{SortKey}
use Rattle.lq_tree.specs.FormMeaning.{Means, Slots, form_meaning, form_step, members_of, sort_key}
use Rattle.lq_tree.specs.RowLaws.{MeansAlikeOverRows, StreamsAlikeOverRows}
use Rattle.lq_tree.specs.Rows.{OverRows, mapped, result_map, stream_map}
use Rattle.lq_tree.specs.declared.tree.Form.{Form, ind-Form, map-Form, roll-Form}
use Rattle.lq_tree.specs.declared.tree.Form.TheOpen.{Form-F}
use Rattle.lq_tree.specs.declared.tree.Form.TheViews.{out-roll-Form}
use Rattle.lq_language.proofs.StreamLaws.{order_keys}
use Rattle.lq_tree.proofs.FormSteps.{meaning_at}
use Rattle.lq_tree.proofs.MappedStreamLaws.{arranged_natural, ok_by}
use Rattle.lq_tree.proofs.MappedValueLaws.{mapped_Rec, mapped_member}
use Rattle.lq_tree.proofs.RowMeaningLaws.{Like, all_like, and_like, binary_like, coalesce_like, column_like, conditional_like, first_like, given_like, group_like, host_like, join_like, key_like, many_like, member_like, null_like, or_like, over, pair_like, scalar_follows, second_like, select_like, sequence_follows, sequence_like, simple_like, slot_like, sorted_like, stream_follows, table_follows, unary_like, where_like}

-- ---- layers

module _ {R : Type 0} (world : World R) where
  -- a layer whose forms have become their meanings
  abbrev meant : Form-F Form → Form-F (Means R)
  meant layer = map-Form Form (Means R) (form_meaning world) layer

module _ {R S : Type 0} (f : R → S) (world : World R) (session : List (SessionValue S)) (cell : S → List ℕ → Option Scalar) (table_of : S → ℕ)
    (same_cells : (r : R) (column : List ℕ) → cell (f r) column ≡ world.cell r column) (same_tables : (r : R) → table_of (f r) ≡ world.table r) where
  -- what a form means in each of the two worlds
  abbrev a : Form → Means R
  a = form_meaning world

  abbrev b : Form → Means S
  b = form_meaning (over f world session cell table_of)

  -- a value with its rows replaced
  abbrev m : Value R → Value S
  m = mapped f

  abbrev Alike : Form → Type 0
  Alike form = Like f world session cell table_of same_cells same_tables (a form) (b form)

  -- a form with what holds of it
  abbrev Such : Type 0
  Such = (form : Form) × Alike form

  abbrev base : Such → Form
  base z = z.0

  -- ---- lists of forms

  members_like : (fields : List (Field Such)) (slots : Slots R)
      → members_of (over f world session cell table_of) (map (map_field b) (map (map_field base) fields)) (map m slots)
      ≡ result_map (map (mapped_member f)) (members_of world (map (map_field a) (map (map_field base) fields)) slots)
  members_like [] slots = refl
  members_like (field ∷ fields) slots =
      ok_by m (map (mapped_member f))
      (λ v. on_ok (members_of world (map (map_field a) (map (map_field base) fields)) slots) (λ members. Ok ((field.name, v) ∷ members)))
      (λ v. on_ok (members_of (over f world session cell table_of) (map (map_field b) (map (map_field base) fields)) (map m slots))
      (λ members. Ok ((field.name, v) ∷ members)))
      (λ v. ok_by (map (mapped_member f)) (map (mapped_member f)) (λ members. Ok ((field.name, v) ∷ members)) (λ members. Ok ((field.name, m v) ∷ members))
      (λ members. refl)
      (members_of world (map (map_field a) (map (map_field base) fields)) slots)
      (members_of (over f world session cell table_of) (map (map_field b) (map (map_field base) fields)) (map m slots))
      (members_like fields slots))
      (a field.value.0 slots) (b field.value.0 (map m slots)) (field.value.1 slots)

  record_like : (fields : List (Field Such))
      → Like f world session cell table_of same_cells same_tables (form_step world (Form-F.Record (map (map_field a) (map (map_field base) fields))))
      (form_step (over f world session cell table_of) (Form-F.Record (map (map_field b) (map (map_field base) fields))))
  record_like fields slots =
      ok_by (map (mapped_member f)) m (λ members. Ok (value.Rec members)) (λ members. Ok (value.Rec members)) (λ members. ap Ok (sym (mapped_Rec f members)))
      (members_of world (map (map_field a) (map (map_field base) fields)) slots)
      (members_of (over f world session cell table_of) (map (map_field b) (map (map_field base) fields)) (map m slots))
      (members_like fields slots)

  -- items sorted by the keys
  abbrev sorted : {Q : Type 0} → World Q → Slots Q → List (SortKey (Means Q)) → Stream (Value Q) → Stream (Value Q)
  sorted w slots ks s = order_by (λ k. k.descending) (sort_key w slots) ks s.0 s.1

  -- the same, whose keys are those of forms
  by_forms : {Q : Type 0} (w : World Q) (slots : Slots Q) (ks : List (SortKey Such)) (s : Stream (Value Q))
      → sorted w slots (map (map_key (form_meaning w)) (map (map_key base) ks)) s
      ≡ order_by (λ (k : SortKey Such). k.descending) (λ k. sort_key w slots (map_key (form_meaning w) (map_key base k))) ks s.0 s.1
  by_forms {Q} w slots ks s =
      order_keys (map_key (form_meaning w)) (λ (k : SortKey (Means Q)). k.descending) (sort_key w slots) (map (map_key base) ks) s.0 s.1
      ∙ order_keys (map_key base) (λ (k : SortKey Form). k.descending) (λ (k : SortKey Form). sort_key w slots (map_key (form_meaning w) k)) ks s.0 s.1

  order_natural : (ks : List (SortKey Such)) (slots : Slots R) (s : Stream (Value R))
      → sorted (over f world session cell table_of) (map m slots) (map (map_key b) (map (map_key base) ks)) (stream_map m s)
      ≡ stream_map m (sorted world slots (map (map_key a) (map (map_key base) ks)) s)
  order_natural ks slots s =
      by_forms (over f world session cell table_of) (map m slots) ks (stream_map m s)
      ∙ arranged_natural m (λ (k : SortKey Such). k.descending) (λ k. sort_key world slots (map_key a (map_key base k)))
      (λ k. sort_key (over f world session cell table_of) (map m slots) (map_key b (map_key base k)))
      (λ k v. sorted_like f world session cell table_of same_cells same_tables (a k.value.0) (b k.value.0) k.value.1 slots v) ks s.0 s.1
      ∙ ap (stream_map m) (sym (by_forms world slots ks s))

  order_like : (z : Such) (ks : List (SortKey Such))
      → Like f world session cell table_of same_cells same_tables (form_step world (Form-F.OrderBy (a z.0) (map (map_key a) (map (map_key base) ks))))
      (form_step (over f world session cell table_of) (Form-F.OrderBy (b z.0) (map (map_key b) (map (map_key base) ks))))
  order_like z ks slots =
      sequence_follows f world session cell table_of same_cells same_tables (sorted world slots (map (map_key a) (map (map_key base) ks)) (stream_of world (a z.0 slots)))
      (sorted (over f world session cell table_of) (map m slots) (map (map_key b) (map (map_key base) ks)) (stream_of (over f world session cell table_of) (b z.0 (map m slots))))
      (ap (sorted (over f world session cell table_of) (map m slots) (map (map_key b) (map (map_key base) ks)))
      (stream_follows f world session cell table_of same_cells same_tables (a z.0 slots) (b z.0 (map m slots)) (z.1 slots))
      ∙ order_natural ks slots (stream_of world (a z.0 slots)))

  -- ---- every form

  abbrev plain : Form-F Such → Form-F Form
  plain layer = map-Form Such Form base layer

  abbrev Steps : Form-F Such → Type 0
  Steps y = Like f world session cell table_of same_cells same_tables (form_step world (meant world (plain y))) (form_step (over f world session cell table_of) (meant (over f world session cell table_of) (plain y)))

  steps : (y : Form-F Such) → Steps y
  steps (Form-F.Literal s) = λ slots. scalar_follows f world session cell table_of same_cells same_tables s
  steps (Form-F.Slot n) = slot_like f world session cell table_of same_cells same_tables n
  steps (Form-F.First x) = first_like f world session cell table_of same_cells same_tables (a x.0) (b x.0) x.1
  steps (Form-F.Second x) = second_like f world session cell table_of same_cells same_tables (a x.0) (b x.0) x.1
  steps (Form-F.Table n) = λ slots. table_follows f world session cell table_of same_cells same_tables n
  steps (Form-F.Column x table c) = column_like f world session cell table_of same_cells same_tables (a x.0) (b x.0) x.1 table c
  steps (Form-F.Host p x table columns) = host_like f world session cell table_of same_cells same_tables (a x.0) (b x.0) x.1 p table columns
  steps (Form-F.Member x place) = member_like f world session cell table_of same_cells same_tables (a x.0) (b x.0) x.1 place
  steps (Form-F.Key x) = key_like f world session cell table_of same_cells same_tables (a x.0) (b x.0) x.1
  steps (Form-F.Unary o x) = unary_like f world session cell table_of same_cells same_tables o (a x.0) (b x.0) x.1
  steps (Form-F.Binary o x z) = binary_like f world session cell table_of same_cells same_tables o (a x.0) (a z.0) (b x.0) (b z.0) x.1 z.1
  steps (Form-F.And x z) = and_like f world session cell table_of same_cells same_tables (a x.0) (a z.0) (b x.0) (b z.0) x.1 z.1
  steps (Form-F.Or x z) = or_like f world session cell table_of same_cells same_tables (a x.0) (a z.0) (b x.0) (b z.0) x.1 z.1
  steps (Form-F.Coalesce x z) = coalesce_like f world session cell table_of same_cells same_tables (a x.0) (a z.0) (b x.0) (b z.0) x.1 z.1
  steps (Form-F.Conditional c x z) = conditional_like f world session cell table_of same_cells same_tables (a c.0) (a x.0) (a z.0) (b c.0) (b x.0) (b z.0) c.1 x.1 z.1
  steps (Form-F.IsNull wanted x) = null_like f world session cell table_of same_cells same_tables wanted (a x.0) (b x.0) x.1
  steps (Form-F.Record fields) = record_like fields
  steps (Form-F.Pair x z) = pair_like f world session cell table_of same_cells same_tables (a x.0) (a z.0) (b x.0) (b z.0) x.1 z.1
  steps (Form-F.Sequence x) = sequence_like f world session cell table_of same_cells same_tables (a x.0) (b x.0) x.1
  steps (Form-F.Simple method t x) = simple_like f world session cell table_of same_cells same_tables method t (a x.0) (b x.0) x.1
  steps (Form-F.Given method x z) = given_like f world session cell table_of same_cells same_tables method (a x.0) (a z.0) (b x.0) (b z.0) x.1 z.1
  steps (Form-F.Where x z) = where_like f world session cell table_of same_cells same_tables (a x.0) (a z.0) (b x.0) (b z.0) x.1 z.1
  steps (Form-F.Select x z) = select_like f world session cell table_of same_cells same_tables (a x.0) (a z.0) (b x.0) (b z.0) x.1 z.1
  steps (Form-F.All x z) = all_like f world session cell table_of same_cells same_tables (a x.0) (a z.0) (b x.0) (b z.0) x.1 z.1
  steps (Form-F.SelectMany x inner result) =
      many_like f world session cell table_of same_cells same_tables (a x.0) (a inner.0) (a result.0) (b x.0) (b inner.0) (b result.0) x.1 inner.1 result.1
  steps (Form-F.Join x j) =
      join_like f world session cell table_of same_cells same_tables (a x.0) (b x.0) x.1
      (record { inner = a j.inner.0; outer_key = a j.outer_key.0; inner_key = a j.inner_key.0; grouped = j.grouped; result = a j.result.0 })
      (record { inner = b j.inner.0; outer_key = b j.outer_key.0; inner_key = b j.inner_key.0; grouped = j.grouped; result = b j.result.0 })
      j.inner.1 j.outer_key.1 j.inner_key.1 refl j.result.1
  steps (Form-F.OrderBy x ks) = order_like x ks
  steps (Form-F.GroupBy x key element) =
      group_like f world session cell table_of same_cells same_tables (a x.0) (a key.0) (a element.0) (b x.0) (b key.0) (b element.0) x.1 key.1 element.1

  layer_alike : (y : Form-F Such) → Alike (roll-Form (plain y))
  layer_alike y slots =
      meaning_at (over f world session cell table_of) (map m slots) _ (out-roll-Form (plain y)) ∙ steps y slots
      ∙ ap (result_map m) (sym (meaning_at world slots _ (out-roll-Form (plain y))))

  alike : (form : Form) → Alike form
  alike form = ind-Form Alike (λ x y h. subst (λ (d : Form-F Form). Alike (roll-Form d)) h (layer_alike y)) form

-- a world over the rows of another is known by the cells
the_world : {R S : Type 0} (f : R → S) (a : World R) (b : World S) → OverRows f a b → over f a b.session b.cell b.table ≡ b
the_world f a b rows = sym (λ i. record { schemas = rows.schemas i; rows = rows.rows i; predicates = rows.predicates i; session = b.session; cell = b.cell; table = b.table; unknown = rows.unknown i })

pub means_alike : {R S : Type 0} → MeansAlikeOverRows R S
means_alike {R} {S} f a b rows form slots =
    subst (λ (w : World S). form_meaning w form (map (mapped f) slots) ≡ result_map (mapped f) (form_meaning a form slots)) (the_world f a b rows)
    (alike f a b.session b.cell b.table rows.cells rows.tables form slots)

pub streams_alike : {R S : Type 0} → StreamsAlikeOverRows R S
streams_alike {R} {S} f a b rows form slots =
    subst (λ (w : World S). stream_of w (form_meaning w form (map (mapped f) slots)) ≡ stream_map (mapped f) (stream_of a (form_meaning a form slots)))
    (the_world f a b rows)
    (stream_follows f a b.session b.cell b.table rows.cells rows.tables (form_meaning a form slots) (form_meaning (over f a b.session b.cell b.table) form (map (mapped f) slots))
    (alike f a b.session b.cell b.table rows.cells rows.tables form slots))
