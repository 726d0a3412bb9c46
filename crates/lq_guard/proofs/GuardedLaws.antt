-- What guarded trees mean: what the trees mean where they are guarded for select, and over rows of their own at the head of a chain of sources.
use Rattle.std.proofs.Common.{◌≡◌, ◌∷◌, List, [], map, ℕ, ap, ◌∙◌, sym, refl, subst, slice_get}
use Rattle.lq_language.specs.Maps.{map_field, map_key}
use Rattle.lq_language.specs.Meaning.{as_sequence}
use Rattle.lq_language.specs.OperandMeaning.{stream_of, table_value}
use Rattle.lq_language.specs.Stream.{where_by}
use Rattle.lq_language.specs.Worlds.{World}
use Rattle.lq_grammar.specs.declared.syntax.Field.{Field}
use Rattle.lq_grammar.specs.declared.syntax.SortKey.{SortKey}
use Rattle.lq_security.specs.declared.policy.Action.{Action}
use Rattle.lq_security.specs.declared.policy.Action.TheVariants as action
use Rattle.lq_policy.specs.Roles.{number_of}
use Rattle.lq_tree.specs.FormMeaning.{Means, Slots, form_meaning, form_step, is_true, with_item}
use Rattle.lq_tree.specs.declared.tree.Form.{Form, fold-Form, fold_out-Form, ind-Form, map-Form, out-Form, roll-Form}
use Rattle.lq_tree.specs.declared.tree.Form.TheOpen.{Form-F}
use Rattle.lq_tree.specs.declared.tree.Form.TheVariants as form
use Rattle.lq_tree.specs.declared.tree.Form.TheViews.{out-roll-Form}
use Rattle.lq_guard.specs.GuardLaws.{MeansAlikeForSelect, MeansHeadForAction, ReadsTablesAsSeen}
use Rattle.lq_guard.specs.Guarding.{for_select, guarded_meaning, guarded_parts, guarded_step, world_for}
use Rattle.lq_guard.specs.SeenRows.{visible_tables}
use Rattle.lq_guard.proofs.SeenLaws.{all_tables_as_seen}

-- a fold of a form is a step over its layer, the parts of which are folded
fold_at : {A : Type 0} (step : Form-F A → A) (f : Form) {layer : Form-F Form} → out-Form f ≡ layer
    → fold-Form A step f ≡ step (map-Form Form A (fold-Form A step) layer)
fold_at {A} step f is = fold_out-Form A step f ∙ ap (λ (l : Form-F Form). step (map-Form Form A (fold-Form A step) l)) is

module _ {R : Type 0} (world : World R) (rows : Action → List (List R)) where
  abbrev meaning_for : Form → Action → Means R
  meaning_for = guarded_meaning world rows

  -- what is read
  abbrev there : World R
  there = world_for world rows action.Select

  abbrev meaning : Form → Means R
  meaning = form_meaning there

  guarded_at : (f : Form) (act : Action) {layer : Form-F Form} → out-Form f ≡ layer
      → meaning_for f act ≡ guarded_step world rows (map-Form Form (Action → Means R) meaning_for layer) act
  unfolding guarded_meaning
  guarded_at f act is = ap (λ (h : Action → Means R). h act) (fold_at (guarded_step world rows) f is)

  meant_at : (f : Form) {layer : Form-F Form} → out-Form f ≡ layer → meaning f ≡ form_step there (map-Form Form (Means R) meaning layer)
  unfolding form_meaning
  meant_at f is = fold_at (form_step there) f is

  -- ---- guarded for select

  abbrev IsMeant : Form → Type 0
  IsMeant f = meaning_for f action.Select ≡ meaning f

  abbrev Such : Type 0
  Such = (f : Form) × IsMeant f

  abbrev base : Such → Form
  base z = z.0

  abbrev plain : Form-F Such → Form-F Form
  plain layer = map-Form Such Form base layer

  fields_meant : (fields : List (Field Such))
      → map (map_field for_select) (map (map_field meaning_for) (map (map_field base) fields)) ≡ map (map_field meaning) (map (map_field base) fields)
  fields_meant [] = refl
  fields_meant (field ∷ fields) = λ i. let x : Field (Means R) = record { name = field.name; value = field.value.1 i } in x ∷ fields_meant fields i

  keys_meant : (ks : List (SortKey Such))
      → map (map_key for_select) (map (map_key meaning_for) (map (map_key base) ks)) ≡ map (map_key meaning) (map (map_key base) ks)
  keys_meant [] = refl
  keys_meant (k ∷ ks) = λ i. let x : SortKey (Means R) = record { value = k.value.1 i; descending = k.descending } in x ∷ keys_meant ks i

  parts_meant : (y : Form-F Such)
      → guarded_parts (map-Form Form (Action → Means R) meaning_for (plain y)) action.Select ≡ map-Form Form (Means R) meaning (plain y)
  parts_meant (Form-F.Literal s) = refl
  parts_meant (Form-F.Slot n) = refl
  parts_meant (Form-F.First x) = λ i. Form-F.First (x.1 i)
  parts_meant (Form-F.Second x) = λ i. Form-F.Second (x.1 i)
  parts_meant (Form-F.Table n) = refl
  parts_meant (Form-F.Column x table c) = λ i. Form-F.Column (x.1 i) table c
  parts_meant (Form-F.Host p x table columns) = λ i. Form-F.Host p (x.1 i) table columns
  parts_meant (Form-F.Member x place) = λ i. Form-F.Member (x.1 i) place
  parts_meant (Form-F.Key x) = λ i. Form-F.Key (x.1 i)
  parts_meant (Form-F.Unary o x) = λ i. Form-F.Unary o (x.1 i)
  parts_meant (Form-F.Binary o x z) = λ i. Form-F.Binary o (x.1 i) (z.1 i)
  parts_meant (Form-F.And x z) = λ i. Form-F.And (x.1 i) (z.1 i)
  parts_meant (Form-F.Or x z) = λ i. Form-F.Or (x.1 i) (z.1 i)
  parts_meant (Form-F.Coalesce x z) = λ i. Form-F.Coalesce (x.1 i) (z.1 i)
  parts_meant (Form-F.Conditional c x z) = λ i. Form-F.Conditional (c.1 i) (x.1 i) (z.1 i)
  parts_meant (Form-F.IsNull wanted x) = λ i. Form-F.IsNull wanted (x.1 i)
  parts_meant (Form-F.Record fields) = λ i. Form-F.Record (fields_meant fields i)
  parts_meant (Form-F.Pair x z) = λ i. Form-F.Pair (x.1 i) (z.1 i)
  parts_meant (Form-F.Sequence x) = λ i. Form-F.Sequence (x.1 i)
  parts_meant (Form-F.Simple method t x) = λ i. Form-F.Simple method t (x.1 i)
  parts_meant (Form-F.Given method x z) = λ i. Form-F.Given method (x.1 i) (z.1 i)
  parts_meant (Form-F.Where x z) = λ i. Form-F.Where (x.1 i) (z.1 i)
  parts_meant (Form-F.Select x z) = λ i. Form-F.Select (x.1 i) (z.1 i)
  parts_meant (Form-F.All x z) = λ i. Form-F.All (x.1 i) (z.1 i)
  parts_meant (Form-F.SelectMany x inner result) = λ i. Form-F.SelectMany (x.1 i) (inner.1 i) (result.1 i)
  parts_meant (Form-F.Join x j) = λ i. Form-F.Join (x.1 i)
      (record { inner = j.inner.1 i; outer_key = j.outer_key.1 i; inner_key = j.inner_key.1 i; grouped = j.grouped; result = j.result.1 i })
  parts_meant (Form-F.OrderBy x ks) = λ i. Form-F.OrderBy (x.1 i) (keys_meant ks i)
  parts_meant (Form-F.GroupBy x key element) = λ i. Form-F.GroupBy (x.1 i) (key.1 i) (element.1 i)

  layer_meant : (y : Form-F Such) → IsMeant (roll-Form (plain y))
  layer_meant y =
      guarded_at _ action.Select (out-roll-Form (plain y)) ∙ ap (form_step there) (parts_meant y)
      ∙ sym (meant_at _ (out-roll-Form (plain y)))

  -- a form that is guarded for select means what it means
  pub is_meant : (f : Form) → IsMeant f
  is_meant f = ind-Form IsMeant (λ x y h. subst (λ (d : Form-F Form). IsMeant (roll-Form d)) h (layer_meant y)) f

  -- ---- guarded for any action

  -- a condition on the rows of a table
  pub where_guarded : (act : Action) (table : ℕ) (condition : Form) (slots : Slots R)
      → let w = world_for world rows act in
      let items = stream_of w (table_value w (slice_get (rows act) table)) in
      meaning_for (form.Where (form.Table table) condition) act slots
      ≡ as_sequence (where_by (λ v. is_true w (meaning condition) (with_item w slots v)) items.0 items.1)
  where_guarded act table condition slots =
      (λ i. guarded_at (form.Where (form.Table table) condition) act (form.outs-Where (form.Table table) condition) i slots)
      ∙ (λ i. form_step (world_for world rows act)
      (Form-F.Where (guarded_at (form.Table table) act (form.outs-Table table) i) (is_meant condition i)) slots)

pub means_alike_for_select : {R : Type 0} → MeansAlikeForSelect R
means_alike_for_select world rows f = is_meant world rows f

pub means_head_for_action : {R : Type 0} → MeansHeadForAction R
means_head_for_action world rows act table condition slots = where_guarded world rows act table condition slots

-- a tree that is guarded for select reads the tables as seen
pub reads_tables_as_seen : ReadsTablesAsSeen
reads_tables_as_seen world policies tables g is =
    ap (guarded_meaning world (visible_tables policies (number_of g.role) tables) g.tree.form) is
    ∙ is_meant world (visible_tables policies (number_of g.role) tables) g.tree.form
    ∙ (λ i. form_meaning (record world { rows = all_tables_as_seen policies (number_of g.role) tables i }) g.tree.form)
