-- What a watch covers of a form: of the forms in it, and of what stands above the form's base.
use Rattle.std.proofs.Common.{◌≡◌, ◌&&◌, List, map, ℕ, Bool, true, ap, ◌∙◌, sym, refl, subst, slice_get}
use Rattle.std.specs.Cmp.{first_so, second_so}
use Rattle.std.specs.List.{list_all}
use Rattle.std.proofs.lemmas.List.Folds.{list_all-map}
use Rattle.lq_value.specs.declared.ty.Ty.{Ty}
use Rattle.lq_host.specs.declared.call.Pick.{Pick}
use Rattle.lq_language.specs.Maps.{map_field, map_key}
use Rattle.lq_language.specs.Worlds.{World}
use Rattle.lq_language.specs.declared.methods.Given.{Given}
use Rattle.lq_language.specs.declared.methods.Simple.{Simple}
use Rattle.lq_language.specs.declared.operation.Op.{Op}
use Rattle.lq_grammar.specs.declared.syntax.Field.{Field}
use Rattle.lq_grammar.specs.declared.syntax.SortKey.{SortKey}
use Rattle.lq_tree.specs.Watches.{Watch, above_step, are_covered_fields, are_covered_keys, covered_step, is_covered, is_covered_above, is_covered_join, is_watched_table}
use Rattle.lq_tree.specs.declared.tree.Form.{Form, ind-Form, map-Form, out-Form, para-roll-Form, roll-Form}
use Rattle.lq_tree.specs.declared.tree.Form.TheOpen.{Form-F}
use Rattle.lq_tree.specs.declared.tree.Form.TheViews.{out-roll-Form, roll-out-Form}
use Rattle.lq_tree.specs.declared.tree.Form.TheVariants as form
use Rattle.lq_tree.specs.declared.tree.Joined.{Joined}
use Rattle.lq_tree.proofs.FormSteps.{folded_at}
use Rattle.lq_tree.proofs.WatchedValueLaws.{both_so}

module _ {R : Type 0} (world : World R) (w : Watch R) where
  abbrev C : Form → Bool
  C = is_covered world w

  abbrev pub layer_covered : Form-F Form → Bool
  layer_covered layer = covered_step world w (map-Form Form Bool (is_covered world w) layer)

  pub covered_at : (f : Form) {layer : Form-F Form} → out-Form f ≡ layer → is_covered world w f ≡ layer_covered layer
  unfolding is_covered
  covered_at f is = folded_at (covered_step world w) f is

  -- what is covered of a form that is known to be another
  covered_of : (g : Form) {layer : Form-F Form} → out-Form g ≡ layer → (f : Form) → f ≡ g → C f ≡ true → layer_covered layer ≡ true
  covered_of g there f is h = sym (covered_at g there) ∙ sym (ap C is) ∙ h

  -- ---- the forms in a form: `part` is what stands there, as it was taken out

  pub covered_first : (f a part : Form) → f ≡ form.First a → part ≡ a → C f ≡ true → C part ≡ true
  covered_first f a part is same h = ap C same ∙ covered_of (form.First a) (form.outs-First a) f is h

  pub covered_second : (f a part : Form) → f ≡ form.Second a → part ≡ a → C f ≡ true → C part ≡ true
  covered_second f a part is same h = ap C same ∙ covered_of (form.Second a) (form.outs-Second a) f is h

  pub covered_column : (f a : Form) (t c : ℕ) (part : Form) → f ≡ form.Column a t c → part ≡ a → C f ≡ true → C part ≡ true
  covered_column f a t c part is same h = ap C same ∙ covered_of (form.Column a t c) (form.outs-Column a t c) f is h

  pub covered_member : (f a : Form) (place : ℕ) (part : Form) → f ≡ form.Member a place → part ≡ a → C f ≡ true → C part ≡ true
  covered_member f a place part is same h = ap C same ∙ covered_of (form.Member a place) (form.outs-Member a place) f is h

  pub covered_key : (f a part : Form) → f ≡ form.Key a → part ≡ a → C f ≡ true → C part ≡ true
  covered_key f a part is same h = ap C same ∙ covered_of (form.Key a) (form.outs-Key a) f is h

  pub covered_unary : (f : Form) (o : Op) (a part : Form) → f ≡ form.Unary o a → part ≡ a → C f ≡ true → C part ≡ true
  covered_unary f o a part is same h = ap C same ∙ covered_of (form.Unary o a) (form.outs-Unary o a) f is h

  pub covered_binary_left : (f : Form) (o : Op) (a b part : Form) → f ≡ form.Binary o a b → part ≡ a → C f ≡ true → C part ≡ true
  covered_binary_left f o a b part is same h = ap C same ∙ first_so (C a) (C b) (covered_of (form.Binary o a b) (form.outs-Binary o a b) f is h)

  pub covered_binary_right : (f : Form) (o : Op) (a b part : Form) → f ≡ form.Binary o a b → part ≡ b → C f ≡ true → C part ≡ true
  covered_binary_right f o a b part is same h = ap C same ∙ second_so (C a) (C b) (covered_of (form.Binary o a b) (form.outs-Binary o a b) f is h)

  pub covered_and_left : (f a b part : Form) → f ≡ form.And a b → part ≡ a → C f ≡ true → C part ≡ true
  covered_and_left f a b part is same h = ap C same ∙ first_so (C a) (C b) (covered_of (form.And a b) (form.outs-And a b) f is h)

  pub covered_and_right : (f a b part : Form) → f ≡ form.And a b → part ≡ b → C f ≡ true → C part ≡ true
  covered_and_right f a b part is same h = ap C same ∙ second_so (C a) (C b) (covered_of (form.And a b) (form.outs-And a b) f is h)

  pub covered_or_left : (f a b part : Form) → f ≡ form.Or a b → part ≡ a → C f ≡ true → C part ≡ true
  covered_or_left f a b part is same h = ap C same ∙ first_so (C a) (C b) (covered_of (form.Or a b) (form.outs-Or a b) f is h)

  pub covered_or_right : (f a b part : Form) → f ≡ form.Or a b → part ≡ b → C f ≡ true → C part ≡ true
  covered_or_right f a b part is same h = ap C same ∙ second_so (C a) (C b) (covered_of (form.Or a b) (form.outs-Or a b) f is h)

  pub covered_coalesce_left : (f a b part : Form) → f ≡ form.Coalesce a b → part ≡ a → C f ≡ true → C part ≡ true
  covered_coalesce_left f a b part is same h = ap C same ∙ first_so (C a) (C b) (covered_of (form.Coalesce a b) (form.outs-Coalesce a b) f is h)

  pub covered_coalesce_right : (f a b part : Form) → f ≡ form.Coalesce a b → part ≡ b → C f ≡ true → C part ≡ true
  covered_coalesce_right f a b part is same h = ap C same ∙ second_so (C a) (C b) (covered_of (form.Coalesce a b) (form.outs-Coalesce a b) f is h)

  pub covered_conditional_condition : (f c a b part : Form) → f ≡ form.Conditional c a b → part ≡ c → C f ≡ true → C part ≡ true
  covered_conditional_condition f c a b part is same h =
      ap C same ∙ first_so (C c) (C a && C b) (covered_of (form.Conditional c a b) (form.outs-Conditional c a b) f is h)

  pub covered_conditional_first : (f c a b part : Form) → f ≡ form.Conditional c a b → part ≡ a → C f ≡ true → C part ≡ true
  covered_conditional_first f c a b part is same h =
      ap C same ∙ first_so (C a) (C b) (second_so (C c) (C a && C b) (covered_of (form.Conditional c a b) (form.outs-Conditional c a b) f is h))

  pub covered_conditional_second : (f c a b part : Form) → f ≡ form.Conditional c a b → part ≡ b → C f ≡ true → C part ≡ true
  covered_conditional_second f c a b part is same h =
      ap C same ∙ second_so (C a) (C b) (second_so (C c) (C a && C b) (covered_of (form.Conditional c a b) (form.outs-Conditional c a b) f is h))

  pub covered_is_null : (f : Form) (wanted : Bool) (a part : Form) → f ≡ form.IsNull wanted a → part ≡ a → C f ≡ true → C part ≡ true
  covered_is_null f wanted a part is same h = ap C same ∙ covered_of (form.IsNull wanted a) (form.outs-IsNull wanted a) f is h

  pub covered_pair_first : (f a b part : Form) → f ≡ form.Pair a b → part ≡ a → C f ≡ true → C part ≡ true
  covered_pair_first f a b part is same h = ap C same ∙ first_so (C a) (C b) (covered_of (form.Pair a b) (form.outs-Pair a b) f is h)

  pub covered_pair_second : (f a b part : Form) → f ≡ form.Pair a b → part ≡ b → C f ≡ true → C part ≡ true
  covered_pair_second f a b part is same h = ap C same ∙ second_so (C a) (C b) (covered_of (form.Pair a b) (form.outs-Pair a b) f is h)

  pub covered_sequence : (f a part : Form) → f ≡ form.Sequence a → part ≡ a → C f ≡ true → C part ≡ true
  covered_sequence f a part is same h = ap C same ∙ covered_of (form.Sequence a) (form.outs-Sequence a) f is h

  pub covered_simple : (f : Form) (method : Simple) (t : Ty) (a part : Form) → f ≡ form.Simple method t a → part ≡ a → C f ≡ true → C part ≡ true
  covered_simple f method t a part is same h = ap C same ∙ covered_of (form.Simple method t a) (form.outs-Simple method t a) f is h

  pub covered_given_source : (f : Form) (method : Given) (a b part : Form) → f ≡ form.Given method a b → part ≡ a → C f ≡ true → C part ≡ true
  covered_given_source f method a b part is same h =
      ap C same ∙ first_so (C a) (C b) (covered_of (form.Given method a b) (form.outs-Given method a b) f is h)

  pub covered_given_argument : (f : Form) (method : Given) (a b part : Form) → f ≡ form.Given method a b → part ≡ b → C f ≡ true → C part ≡ true
  covered_given_argument f method a b part is same h =
      ap C same ∙ second_so (C a) (C b) (covered_of (form.Given method a b) (form.outs-Given method a b) f is h)

  pub covered_where_source : (f a body part : Form) → f ≡ form.Where a body → part ≡ a → C f ≡ true → C part ≡ true
  covered_where_source f a body part is same h = ap C same ∙ first_so (C a) (C body) (covered_of (form.Where a body) (form.outs-Where a body) f is h)

  pub covered_where_body : (f a body part : Form) → f ≡ form.Where a body → part ≡ body → C f ≡ true → C part ≡ true
  covered_where_body f a body part is same h = ap C same ∙ second_so (C a) (C body) (covered_of (form.Where a body) (form.outs-Where a body) f is h)

  pub covered_select_source : (f a body part : Form) → f ≡ form.Select a body → part ≡ a → C f ≡ true → C part ≡ true
  covered_select_source f a body part is same h =
      ap C same ∙ first_so (C a) (C body) (covered_of (form.Select a body) (form.outs-Select a body) f is h)

  pub covered_select_body : (f a body part : Form) → f ≡ form.Select a body → part ≡ body → C f ≡ true → C part ≡ true
  covered_select_body f a body part is same h =
      ap C same ∙ second_so (C a) (C body) (covered_of (form.Select a body) (form.outs-Select a body) f is h)

  pub covered_all_source : (f a body part : Form) → f ≡ form.All a body → part ≡ a → C f ≡ true → C part ≡ true
  covered_all_source f a body part is same h = ap C same ∙ first_so (C a) (C body) (covered_of (form.All a body) (form.outs-All a body) f is h)

  pub covered_all_body : (f a body part : Form) → f ≡ form.All a body → part ≡ body → C f ≡ true → C part ≡ true
  covered_all_body f a body part is same h = ap C same ∙ second_so (C a) (C body) (covered_of (form.All a body) (form.outs-All a body) f is h)

  pub covered_select_many_source : (f a inner result part : Form) → f ≡ form.SelectMany a inner result → part ≡ a → C f ≡ true → C part ≡ true
  covered_select_many_source f a inner result part is same h =
      ap C same ∙ first_so (C a) (C inner && C result) (covered_of (form.SelectMany a inner result) (form.outs-SelectMany a inner result) f is h)

  pub covered_select_many_inner : (f a inner result part : Form) → f ≡ form.SelectMany a inner result → part ≡ inner → C f ≡ true → C part ≡ true
  covered_select_many_inner f a inner result part is same h =
      ap C same ∙ first_so (C inner) (C result)
      (second_so (C a) (C inner && C result) (covered_of (form.SelectMany a inner result) (form.outs-SelectMany a inner result) f is h))

  pub covered_select_many_result : (f a inner result part : Form) → f ≡ form.SelectMany a inner result → part ≡ result → C f ≡ true → C part ≡ true
  covered_select_many_result f a inner result part is same h =
      ap C same ∙ second_so (C inner) (C result)
      (second_so (C a) (C inner && C result) (covered_of (form.SelectMany a inner result) (form.outs-SelectMany a inner result) f is h))

  pub covered_group_by_source : (f a key element part : Form) → f ≡ form.GroupBy a key element → part ≡ a → C f ≡ true → C part ≡ true
  covered_group_by_source f a key element part is same h =
      ap C same ∙ first_so (C a) (C key && C element) (covered_of (form.GroupBy a key element) (form.outs-GroupBy a key element) f is h)

  pub covered_group_by_key : (f a key element part : Form) → f ≡ form.GroupBy a key element → part ≡ key → C f ≡ true → C part ≡ true
  covered_group_by_key f a key element part is same h =
      ap C same ∙ first_so (C key) (C element)
      (second_so (C a) (C key && C element) (covered_of (form.GroupBy a key element) (form.outs-GroupBy a key element) f is h))

  pub covered_group_by_element : (f a key element part : Form) → f ≡ form.GroupBy a key element → part ≡ element → C f ≡ true → C part ≡ true
  covered_group_by_element f a key element part is same h =
      ap C same ∙ second_so (C key) (C element)
      (second_so (C a) (C key && C element) (covered_of (form.GroupBy a key element) (form.outs-GroupBy a key element) f is h))

  pub covered_host : (f : Form) (p : ℕ) (a : Form) (t : ℕ) (columns : Pick) (part : Form) → f ≡ form.Host p a t columns → part ≡ a → C f ≡ true
      → C part ≡ true
  covered_host f p a t columns part is same h =
      ap C same ∙ second_so (w.host p t columns) (C a) (covered_of (form.Host p a t columns) (form.outs-Host p a t columns) f is h)

  -- the predicate passes, with the table and its columns
  pub host_passes : (f : Form) (p : ℕ) (a : Form) (t : ℕ) (columns : Pick) → f ≡ form.Host p a t columns → C f ≡ true → w.host p t columns ≡ true
  host_passes f p a t columns is h =
      first_so (w.host p t columns) (C a) (covered_of (form.Host p a t columns) (form.outs-Host p a t columns) f is h)

  -- the rows of the table pass
  pub table_passes : (f : Form) (n : ℕ) → f ≡ form.Table n → C f ≡ true → is_watched_table w (slice_get world.rows n) ≡ true
  table_passes f n is h = covered_of (form.Table n) (form.outs-Table n) f is h

  pub covered_record : (f : Form) (fields part : List (Field Form)) → f ≡ form.Record fields → part ≡ fields → C f ≡ true
      → are_covered_fields world w part ≡ true
  covered_record f fields part is same h =
      ap (are_covered_fields world w) same ∙ sym (list_all-map (λ (field : Field Bool). field.value) (map_field C) fields)
      ∙ covered_of (form.Record fields) (form.outs-Record fields) f is h

  pub covered_order_source : (f a : Form) (ks : List (SortKey Form)) (part : Form) → f ≡ form.OrderBy a ks → part ≡ a → C f ≡ true → C part ≡ true
  covered_order_source f a ks part is same h =
      ap C same ∙ first_so (C a) (list_all (λ (k : SortKey Bool). k.value) (map (map_key C) ks))
      (covered_of (form.OrderBy a ks) (form.outs-OrderBy a ks) f is h)

  pub covered_order_keys : (f a : Form) (ks part : List (SortKey Form)) → f ≡ form.OrderBy a ks → part ≡ ks → C f ≡ true
      → are_covered_keys world w part ≡ true
  covered_order_keys f a ks part is same h =
      ap (are_covered_keys world w) same ∙ sym (list_all-map (λ (k : SortKey Bool). k.value) (map_key C) ks)
      ∙ second_so (C a) (list_all (λ (k : SortKey Bool). k.value) (map (map_key C) ks))
      (covered_of (form.OrderBy a ks) (form.outs-OrderBy a ks) f is h)

  pub covered_join_source : (f a : Form) (j : Joined Form) (part : Form) → f ≡ form.Join a j → part ≡ a → C f ≡ true → C part ≡ true
  covered_join_source f a j part is same h =
      ap C same ∙ first_so (C a) (is_covered_join world w j) (covered_of (form.Join a j) (form.outs-Join a j) f is h)

  pub covered_join_parts : (f a : Form) (j part : Joined Form) → f ≡ form.Join a j → part ≡ j → C f ≡ true → is_covered_join world w part ≡ true
  covered_join_parts f a j part is same h =
      ap (is_covered_join world w) same ∙ second_so (C a) (is_covered_join world w j) (covered_of (form.Join a j) (form.outs-Join a j) f is h)

  -- ---- the parts of a join

  pub join_inner : (j : Joined Form) → is_covered_join world w j ≡ true → C j.inner ≡ true
  join_inner j h = first_so (C j.inner) (C j.outer_key && (C j.inner_key && C j.result)) h

  pub join_outer_key : (j : Joined Form) → is_covered_join world w j ≡ true → C j.outer_key ≡ true
  join_outer_key j h =
      first_so (C j.outer_key) (C j.inner_key && C j.result) (second_so (C j.inner) (C j.outer_key && (C j.inner_key && C j.result)) h)

  pub join_inner_key : (j : Joined Form) → is_covered_join world w j ≡ true → C j.inner_key ≡ true
  join_inner_key j h =
      first_so (C j.inner_key) (C j.result)
      (second_so (C j.outer_key) (C j.inner_key && C j.result) (second_so (C j.inner) (C j.outer_key && (C j.inner_key && C j.result)) h))

  pub join_result : (j : Joined Form) → is_covered_join world w j ≡ true → C j.result ≡ true
  join_result j h =
      second_so (C j.inner_key) (C j.result)
      (second_so (C j.outer_key) (C j.inner_key && C j.result) (second_so (C j.inner) (C j.outer_key && (C j.inner_key && C j.result)) h))

  -- ---- above a base

  abbrev pub A : Form → Bool
  A = is_covered_above world w

  abbrev pub above_layer : Form-F Form → Bool
  above_layer layer = above_step world w (map-Form Form (Form × Bool) (λ f. (f, is_covered_above world w f)) layer)

  pub above_roll : (layer : Form-F Form) → A (roll-Form layer) ≡ above_layer layer
  unfolding is_covered_above
  above_roll layer = para-roll-Form Bool (above_step world w) layer

  above_of : (g : Form) (layer : Form-F Form) → out-Form g ≡ layer → (f : Form) → f ≡ g → A f ≡ true → above_layer layer ≡ true
  above_of g layer there f is h = sym (ap A (sym (roll-out-Form g)) ∙ above_roll (out-Form g) ∙ ap above_layer there) ∙ sym (ap A is) ∙ h

  pub above_where_source : (f a body part : Form) → f ≡ form.Where a body → part ≡ a → A f ≡ true → A part ≡ true
  above_where_source f a body part is same h = ap A same ∙ first_so (A a) (C body) (above_of (form.Where a body) _ (form.outs-Where a body) f is h)

  pub above_where_body : (f a body part : Form) → f ≡ form.Where a body → part ≡ body → A f ≡ true → C part ≡ true
  above_where_body f a body part is same h = ap C same ∙ second_so (A a) (C body) (above_of (form.Where a body) _ (form.outs-Where a body) f is h)

  pub above_select_source : (f a body part : Form) → f ≡ form.Select a body → part ≡ a → A f ≡ true → A part ≡ true
  above_select_source f a body part is same h = ap A same ∙ first_so (A a) (C body) (above_of (form.Select a body) _ (form.outs-Select a body) f is h)

  pub above_select_body : (f a body part : Form) → f ≡ form.Select a body → part ≡ body → A f ≡ true → C part ≡ true
  above_select_body f a body part is same h = ap C same ∙ second_so (A a) (C body) (above_of (form.Select a body) _ (form.outs-Select a body) f is h)

  pub above_sequence : (f a part : Form) → f ≡ form.Sequence a → part ≡ a → A f ≡ true → A part ≡ true
  above_sequence f a part is same h = ap A same ∙ above_of (form.Sequence a) _ (form.outs-Sequence a) f is h

  -- what covers a form covers what stands above its base
  abbrev Covers : Form → Type 0
  Covers f = is_covered world w f ≡ true → is_covered_above world w f ≡ true

  abbrev Such : Type 0
  Such = (f : Form) × Covers f

  abbrev plain : Form-F Such → Form-F Form
  plain layer = map-Form Such Form (λ z. z.0) layer

  layer_above : (y : Form-F Such) → layer_covered (plain y) ≡ true → above_layer (plain y) ≡ true
  layer_above (Form-F.Where a f) h = both_so (A a.0) (C f.0) (a.1 (first_so (C a.0) (C f.0) h)) (second_so (C a.0) (C f.0) h)
  layer_above (Form-F.Select a f) h = both_so (A a.0) (C f.0) (a.1 (first_so (C a.0) (C f.0) h)) (second_so (C a.0) (C f.0) h)
  layer_above (Form-F.Sequence a) h = a.1 h
  layer_above (Form-F.Literal s) h = refl
  layer_above (Form-F.Slot n) h = refl
  layer_above (Form-F.First a) h = refl
  layer_above (Form-F.Second a) h = refl
  layer_above (Form-F.Table n) h = refl
  layer_above (Form-F.Column a t c) h = refl
  layer_above (Form-F.Host p a t columns) h = refl
  layer_above (Form-F.Member a place) h = refl
  layer_above (Form-F.Key a) h = refl
  layer_above (Form-F.Unary o a) h = refl
  layer_above (Form-F.Binary o a b) h = refl
  layer_above (Form-F.And a b) h = refl
  layer_above (Form-F.Or a b) h = refl
  layer_above (Form-F.Coalesce a b) h = refl
  layer_above (Form-F.Conditional c a b) h = refl
  layer_above (Form-F.IsNull wanted a) h = refl
  layer_above (Form-F.Record fields) h = refl
  layer_above (Form-F.Pair a b) h = refl
  layer_above (Form-F.Simple method t a) h = refl
  layer_above (Form-F.Given method a b) h = refl
  layer_above (Form-F.All a f) h = refl
  layer_above (Form-F.SelectMany a inner result) h = refl
  layer_above (Form-F.Join a j) h = refl
  layer_above (Form-F.OrderBy a ks) h = refl
  layer_above (Form-F.GroupBy a key element) h = refl

  rolled_above : (y : Form-F Such) → Covers (roll-Form (plain y))
  rolled_above y h = above_roll (plain y) ∙ layer_above y (sym (covered_at (roll-Form (plain y)) (out-roll-Form (plain y))) ∙ h)

  pub covered_above : (f : Form) → is_covered world w f ≡ true → is_covered_above world w f ≡ true
  covered_above f = ind-Form Covers (λ x y e. subst (λ (d : Form-F Form). Covers (roll-Form d)) e (rolled_above y)) f

-- the operands of operators, and what is read of a value
pub ruleset covered_operands = (covered_unary, covered_binary_left, covered_binary_right, covered_and_left, covered_and_right, covered_or_left, covered_or_right)

pub ruleset covered_choices = (covered_coalesce_left, covered_coalesce_right, covered_conditional_condition, covered_conditional_first, covered_conditional_second)

pub ruleset covered_values = (covered_first, covered_second, covered_column, covered_host, host_passes, covered_member, covered_key, covered_is_null)

pub ruleset covered_made = (covered_record, covered_pair_first, covered_pair_second, covered_sequence, table_passes)

-- sources, and what is made of their items
pub ruleset covered_methods = (covered_simple, covered_given_source, covered_given_argument, covered_all_source, covered_all_body)

pub ruleset covered_stages = (covered_where_source, covered_where_body, covered_select_source, covered_select_body, covered_sequence)

pub ruleset covered_expansions = (covered_select_many_source, covered_select_many_inner, covered_select_many_result)

pub ruleset covered_groups = (covered_group_by_source, covered_group_by_key, covered_group_by_element)

pub ruleset covered_clauses = (covered_order_source, covered_order_keys, covered_join_source, covered_join_parts)

-- all forms in a form that is covered
pub ruleset covered_parts = (covered_operands, covered_choices, covered_values, covered_made, covered_methods, covered_stages, covered_expansions, covered_groups, covered_clauses)

-- the parts of a join that is covered
pub ruleset covered_joins = (join_inner, join_outer_key, join_inner_key, join_result)

-- what stands above a base
pub ruleset above_parts = (above_where_source, above_where_body, above_select_source, above_select_body, above_sequence)
