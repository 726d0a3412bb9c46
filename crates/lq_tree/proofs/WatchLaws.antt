-- What a covered form means over watched slots is watched. A form means the same where the rows are left out of each table whose rows don't all pass, as
-- it has none of these tables; and over the rows that are left, which pass, each value is one over rows that pass.
use Rattle.std.proofs.Common.{◌≡◌, ◌∷◌, ◌&&◌, if◌then◌else◌, List, [], map, Bool, true, false, Option, Some, None, Result, Ok, Err, ap, ◌∙◌, sym, refl, subst, slice_get, option_map}
use Rattle.std.specs.Cmp.{first_so, second_so}
use Rattle.std.specs.List.{list_all}
use Rattle.std.proofs.lemmas.Option.{slice_get-map}
use Rattle.lq_value.specs.declared.value.Fault.{Fault}
use Rattle.lq_value.specs.declared.value.Value.{Value}
use Rattle.lq_language.specs.Maps.{map_field, map_key}
use Rattle.lq_language.specs.OperandMeaning.{stream_of, table_value}
use Rattle.lq_language.specs.Stream.{Stream}
use Rattle.lq_language.specs.Worlds.{World}
use Rattle.lq_grammar.specs.declared.syntax.Field.{Field}
use Rattle.lq_grammar.specs.declared.syntax.SortKey.{SortKey}
use Rattle.lq_tree.specs.FormMeaning.{Means, Slots, form_meaning, form_step, with_item}
use Rattle.lq_tree.specs.Rows.{OverRows, mapped, result_map}
use Rattle.lq_tree.specs.Watches.{Watch, has_watched_result, has_watched_rows, have_watched_rows, is_covered, is_watched_table}
use Rattle.lq_tree.specs.declared.tree.Form.{Form, ind-Form, map-Form, out-Form, roll-Form}
use Rattle.lq_tree.specs.declared.tree.Form.TheOpen.{Form-F}
use Rattle.lq_tree.specs.declared.tree.Form.TheViews.{out-roll-Form}
use Rattle.lq_tree.specs.declared.tree.Joined.{Joined}
use Rattle.lq_tree.proofs.CoveredLaws.{covered_at, layer_covered}
use Rattle.lq_tree.proofs.FormSteps.{folded_at}
use Rattle.lq_tree.proofs.RowFormLaws.{means_alike}
use Rattle.lq_tree.proofs.WatchedValueLaws.{Passing, bare, items_pass, over_watched, slot_more, values_over}

-- what a form means, over the meanings of the forms in it, whatever the slots are
meaning_of : {R : Type 0} (world : World R) (f : Form) {layer : Form-F Form} → out-Form f ≡ layer
    → form_meaning world f ≡ form_step world (map-Form Form (Means R) (form_meaning world) layer)
unfolding form_meaning
meaning_of world f is = folded_at (form_step world) f is

module _ {R : Type 0} (world : World R) (w : Watch R) where
  -- ---- without the tables whose rows don't all pass

  -- the rows of a table, or none where one doesn't pass
  abbrev left_of : List R → List R
  left_of rows = if list_all w.row rows then rows else []

  abbrev limited : World R
  limited = record {
    schemas = world.schemas;
    rows = map left_of world.rows;
    predicates = world.predicates;
    session = world.session;
    cell = world.cell;
    table = world.table;
    unknown = world.unknown;
  }

  left_there : (found : Option (List R)) → is_watched_table w found ≡ true → option_map left_of found ≡ found
  left_there (Some rows) h = ap (λ (b : Bool). Some (if b then rows else [])) h
  left_there None h = refl

  abbrev C : Form → Bool
  C = is_covered world w

  abbrev M : Form → Means R
  M = form_meaning world

  abbrev L : Form → Means R
  L = form_meaning limited

  -- a form that is covered means the same there
  abbrev Stays : Form → Type 0
  Stays f = is_covered world w f ≡ true → form_meaning limited f ≡ form_meaning world f

  abbrev Such : Type 0
  Such = (f : Form) × Stays f

  abbrev base : Such → Form
  base z = z.0

  abbrev plain : Form-F Such → Form-F Form
  plain layer = map-Form Such Form base layer

  abbrev fields_covered : List (Field Such) → Bool
  fields_covered fields = list_all (λ (field : Field Bool). field.value) (map (map_field C) (map (map_field base) fields))

  fields_stay : (fields : List (Field Such)) → fields_covered fields ≡ true
      → map (map_field L) (map (map_field base) fields) ≡ map (map_field M) (map (map_field base) fields)
  fields_stay [] h = refl
  fields_stay (field ∷ fields) h =
      let here = field.value.1 (first_so (C field.value.0) (fields_covered fields) h) in
      let others = fields_stay fields (second_so (C field.value.0) (fields_covered fields) h) in
      λ i. record { name = field.name; value = here i } ∷ others i

  abbrev keys_covered : List (SortKey Such) → Bool
  keys_covered ks = list_all (λ (k : SortKey Bool). k.value) (map (map_key C) (map (map_key base) ks))

  keys_stay : (ks : List (SortKey Such)) → keys_covered ks ≡ true → map (map_key L) (map (map_key base) ks) ≡ map (map_key M) (map (map_key base) ks)
  keys_stay [] h = refl
  keys_stay (k ∷ ks) h =
      let here = k.value.1 (first_so (C k.value.0) (keys_covered ks) h) in
      let others = keys_stay ks (second_so (C k.value.0) (keys_covered ks) h) in
      λ i. record { value = here i; descending = k.descending } ∷ others i

  -- both parts of a form, and three
  both_stay : (x z : Such) → (C x.0 && C z.0) ≡ true → (L x.0 ≡ M x.0) × (L z.0 ≡ M z.0)
  both_stay x z h = (x.1 (first_so (C x.0) (C z.0) h), z.1 (second_so (C x.0) (C z.0) h))

  three_stay : (x z y : Such) → (C x.0 && (C z.0 && C y.0)) ≡ true → (L x.0 ≡ M x.0) × (L z.0 ≡ M z.0) × (L y.0 ≡ M y.0)
  three_stay x z y h =
      let others = both_stay z y (second_so (C x.0) (C z.0 && C y.0) h) in
      (x.1 (first_so (C x.0) (C z.0 && C y.0) h), others.0, others.1)

  join_stays : (j : Joined Such) → (C j.inner.0 && (C j.outer_key.0 && (C j.inner_key.0 && C j.result.0))) ≡ true
      → ◌≡◌ {A = Joined (Means R)}
      (record { inner = L j.inner.0; outer_key = L j.outer_key.0; inner_key = L j.inner_key.0; grouped = j.grouped; result = L j.result.0 })
      (record { inner = M j.inner.0; outer_key = M j.outer_key.0; inner_key = M j.inner_key.0; grouped = j.grouped; result = M j.result.0 })
  join_stays j h =
      let inner = j.inner.1 (first_so (C j.inner.0) (C j.outer_key.0 && (C j.inner_key.0 && C j.result.0)) h) in
      let others = three_stay j.outer_key j.inner_key j.result (second_so (C j.inner.0) (C j.outer_key.0 && (C j.inner_key.0 && C j.result.0)) h) in
      λ i. record { inner = inner i; outer_key = others.0 i; inner_key = others.1 i; grouped = j.grouped; result = others.2 i }

  layer_stays : (y : Form-F Such) → layer_covered world w (plain y) ≡ true
      → form_step limited (map-Form Form (Means R) L (plain y)) ≡ form_step world (map-Form Form (Means R) M (plain y))
  layer_stays (Form-F.Literal s) h = refl
  layer_stays (Form-F.Slot n) h = refl
  layer_stays (Form-F.First x) h = ap (λ (a : Means R). form_step world (Form-F.First a)) (x.1 h)
  layer_stays (Form-F.Second x) h = ap (λ (a : Means R). form_step world (Form-F.Second a)) (x.1 h)
  layer_stays (Form-F.Table n) h =
      λ i slots. table_value world ((slice_get-map left_of world.rows n ∙ left_there (slice_get world.rows n) h) i)
  layer_stays (Form-F.Column x t c) h = ap (λ (a : Means R). form_step world (Form-F.Column a t c)) (x.1 h)
  layer_stays (Form-F.Host p x t columns) h =
      ap (λ (a : Means R). form_step world (Form-F.Host p a t columns)) (x.1 (second_so (w.host p t columns) (C x.0) h))
  layer_stays (Form-F.Member x place) h = ap (λ (a : Means R). form_step world (Form-F.Member a place)) (x.1 h)
  layer_stays (Form-F.Key x) h = ap (λ (a : Means R). form_step world (Form-F.Key a)) (x.1 h)
  layer_stays (Form-F.Unary o x) h = ap (λ (a : Means R). form_step world (Form-F.Unary o a)) (x.1 h)
  layer_stays (Form-F.Binary o x z) h = let is = both_stay x z h in λ i. form_step world (Form-F.Binary o (is.0 i) (is.1 i))
  layer_stays (Form-F.And x z) h = let is = both_stay x z h in λ i. form_step world (Form-F.And (is.0 i) (is.1 i))
  layer_stays (Form-F.Or x z) h = let is = both_stay x z h in λ i. form_step world (Form-F.Or (is.0 i) (is.1 i))
  layer_stays (Form-F.Coalesce x z) h = let is = both_stay x z h in λ i. form_step world (Form-F.Coalesce (is.0 i) (is.1 i))
  layer_stays (Form-F.Conditional x z y) h = let is = three_stay x z y h in λ i. form_step world (Form-F.Conditional (is.0 i) (is.1 i) (is.2 i))
  layer_stays (Form-F.IsNull wanted x) h = ap (λ (a : Means R). form_step world (Form-F.IsNull wanted a)) (x.1 h)
  layer_stays (Form-F.Record fields) h = ap (λ (fs : List (Field (Means R))). form_step world (Form-F.Record fs)) (fields_stay fields h)
  layer_stays (Form-F.Pair x z) h = let is = both_stay x z h in λ i. form_step world (Form-F.Pair (is.0 i) (is.1 i))
  layer_stays (Form-F.Sequence x) h = ap (λ (a : Means R). form_step world (Form-F.Sequence a)) (x.1 h)
  layer_stays (Form-F.Simple method t x) h = ap (λ (a : Means R). form_step world (Form-F.Simple method t a)) (x.1 h)
  layer_stays (Form-F.Given method x z) h = let is = both_stay x z h in λ i. form_step world (Form-F.Given method (is.0 i) (is.1 i))
  layer_stays (Form-F.Where x z) h = let is = both_stay x z h in λ i. form_step world (Form-F.Where (is.0 i) (is.1 i))
  layer_stays (Form-F.Select x z) h = let is = both_stay x z h in λ i. form_step world (Form-F.Select (is.0 i) (is.1 i))
  layer_stays (Form-F.All x z) h = let is = both_stay x z h in λ i. form_step world (Form-F.All (is.0 i) (is.1 i))
  layer_stays (Form-F.SelectMany x z y) h = let is = three_stay x z y h in λ i. form_step world (Form-F.SelectMany (is.0 i) (is.1 i) (is.2 i))
  layer_stays (Form-F.Join x j) h =
      let parts = C j.inner.0 && (C j.outer_key.0 && (C j.inner_key.0 && C j.result.0)) in
      let here = x.1 (first_so (C x.0) parts h) in
      let others = join_stays j (second_so (C x.0) parts h) in
      λ i. form_step world (Form-F.Join (here i) (others i))
  layer_stays (Form-F.OrderBy x ks) h =
      let here = x.1 (first_so (C x.0) (keys_covered ks) h) in
      let others = keys_stay ks (second_so (C x.0) (keys_covered ks) h) in
      λ i. form_step world (Form-F.OrderBy (here i) (others i))
  layer_stays (Form-F.GroupBy x z y) h = let is = three_stay x z y h in λ i. form_step world (Form-F.GroupBy (is.0 i) (is.1 i) (is.2 i))

  rolled_stays : (y : Form-F Such) → Stays (roll-Form (plain y))
  rolled_stays y h =
      meaning_of limited (roll-Form (plain y)) (out-roll-Form (plain y))
      ∙ layer_stays y (sym (covered_at world w (roll-Form (plain y)) (out-roll-Form (plain y))) ∙ h)
      ∙ sym (meaning_of world (roll-Form (plain y)) (out-roll-Form (plain y)))

  -- a form that is covered means the same without the tables whose rows don't all pass
  stays : (f : Form) → Stays f
  stays f = ind-Form Stays (λ x y e. subst (λ (d : Form-F Form). Stays (roll-Form d)) e (rolled_stays y)) f

  -- ---- over the rows that pass

  abbrev P : Type 0
  P = Passing w

  rows_known : (rows : List R) → list_all w.row rows ≡ true → (ps : List (Passing w)) × (map (bare w) ps ≡ rows)
  rows_known [] h = ([], refl)
  rows_known (r ∷ rows) h =
      let others = rows_known rows (second_so (w.row r) (list_all w.row rows) h) in
      ((r, first_so (w.row r) (list_all w.row rows) h) ∷ others.0, λ i. r ∷ others.1 i)

  left_known : (rows : List R) → (ps : List (Passing w)) × (map (bare w) ps ≡ left_of rows)
  left_known rows = by (list_all w.row rows) refl where
    by : (b : Bool) → list_all w.row rows ≡ b → (ps : List (Passing w)) × (map (bare w) ps ≡ (if b then rows else []))
    by true h = rows_known rows h
    by false h = ([], refl)

  tables_known : (tables : List (List R)) → (ps : List (List (Passing w))) × (map (map (bare w)) ps ≡ map left_of tables)
  tables_known [] = ([], refl)
  tables_known (rows ∷ tables) =
      let here = left_known rows in
      let others = tables_known tables in
      (here.0 ∷ others.0, λ i. here.1 i ∷ others.1 i)

  abbrev known : World (Passing w)
  known = record {
    schemas = world.schemas;
    rows = (tables_known world.rows).0;
    predicates = world.predicates;
    session = [];
    cell = λ p c. world.cell p.0 c;
    table = λ p. world.table p.0;
    unknown = world.unknown;
  }

  known_over : OverRows (bare w) known limited
  known_over = record { schemas = refl; rows = sym (tables_known world.rows).1; cells = λ p c. refl; tables = λ p. refl; predicates = refl; unknown = refl }

  result_watched : (found : Result (Value (Passing w)) Fault) → has_watched_result w (result_map (mapped (bare w)) found) ≡ true
  result_watched (Ok u) = over_watched w u
  result_watched (Err f) = refl

  -- what a covered form means over watched slots is a fault, or watched
  pub flows : (f : Form) (slots : Slots R) → is_covered world w f ≡ true → have_watched_rows w slots ≡ true
      → has_watched_result w (form_meaning world f slots) ≡ true
  flows f slots h k =
      let us = values_over w slots k in
      ap (λ (m : Means R). has_watched_result w (m slots)) (sym (stays f h))
      ∙ ap (λ (vs : Slots R). has_watched_result w (form_meaning limited f vs)) (sym us.1)
      ∙ ap (has_watched_result w) (means_alike (bare w) known limited known_over f us.0)
      ∙ result_watched (form_meaning known f us.0)

  -- its value, where it has one
  pub value_passes : (f : Form) (slots : Slots R) (v : Value R) → form_meaning world f slots ≡ Ok v → is_covered world w f ≡ true
      → have_watched_rows w slots ≡ true
      → has_watched_rows w v ≡ true
  value_passes f slots v is h k = ap (has_watched_result w) (sym is) ∙ flows f slots h k

  -- and what it is enumerated as
  pub stream_passes : (f : Form) (slots : Slots R) (s : Stream (Value R)) → s ≡ stream_of world (form_meaning world f slots)
      → is_covered world w f ≡ true
      → have_watched_rows w slots ≡ true → have_watched_rows w s.0 ≡ true
  stream_passes f slots s is h k =
      ap (λ (t : Stream (Value R)). have_watched_rows w t.0) is ∙ items_pass w world (form_meaning world f slots) (flows f slots h k)

  -- what a lambda gives of a watched item
  pub item_flows : (f : Form) (slots : Slots R) (v : Value R) → is_covered world w f ≡ true → have_watched_rows w slots ≡ true
      → has_watched_rows w v ≡ true
      → has_watched_result w (form_meaning world f (with_item world slots v)) ≡ true
  item_flows f slots v h k l = flows f (with_item world slots v) h (slot_more w slots (with_item world slots v) v refl k l)
