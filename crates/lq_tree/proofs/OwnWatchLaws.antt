-- The watch of a form's own host predicates covers the form where all rows of all tables pass.
use Rattle.std.proofs.Common.{◌≡◌, ◌==◌, ◌∷◌, ◌++◌, ◌&&◌, List, [], map, flat_map, ℕ, Bool, true, true≢false, false, Some, ap, ◌∙◌, sym, refl, subst, slice_get}
use Rattle.std.specs.Cmp.{first_so, second_so, unsigned_Decides}
use Rattle.std.specs.List.{list_all}
use Rattle.std.proofs.lemmas.Map.Keys.{any_passes_from_place}
use Rattle.lq_host.specs.declared.call.Pick.{Pick}
use Rattle.lq_host.specs.declared.call.Pick.TheVariants as numbers
use Rattle.lq_language.specs.Maps.{map_field, map_key}
use Rattle.lq_language.specs.Mentions.{Mention, Column, HostAt, Table, columns_named}
use Rattle.lq_language.specs.Worlds.{World}
use Rattle.lq_grammar.specs.declared.syntax.Field.{Field}
use Rattle.lq_grammar.specs.declared.syntax.SortKey.{SortKey}
use Rattle.lq_tree.specs.AllowedCalls.{is_host, is_mentioned, same_columns, watch_of}
use Rattle.lq_tree.specs.UsesOfForms.{form_uses, form_uses_step}
use Rattle.lq_tree.specs.Watches.{Watch, is_covered, is_watched_table}
use Rattle.lq_tree.specs.declared.tree.Form.{Form, ind-Form, map-Form, roll-Form}
use Rattle.lq_tree.specs.declared.tree.Form.TheOpen.{Form-F}
use Rattle.lq_tree.specs.declared.tree.Form.TheViews.{out-roll-Form}
use Rattle.lq_tree.proofs.CoveredLaws.{covered_at, layer_covered}
use Rattle.lq_tree.proofs.FormUseLaws.{uses_at}
use Rattle.lq_tree.proofs.WatchedValueLaws.{all_before, all_behind, all_places, both_so}

-- ---- what is mentioned

columns_themselves : (columns : Pick) → same_columns columns columns ≡ true
columns_themselves (numbers.One a) = (unsigned_Decides a a).1 refl
columns_themselves (numbers.Two a b) = both_so (a == a) (b == b) ((unsigned_Decides a a).1 refl) ((unsigned_Decides b b).1 refl)

host_itself : (p t : ℕ) (columns : Pick) → is_host p t columns (HostAt p t columns) ≡ true
host_itself p t columns =
    both_so (p == p) ((t == t) && same_columns columns columns) ((unsigned_Decides p p).1 refl)
    (both_so (t == t) (same_columns columns columns) ((unsigned_Decides t t).1 refl) (columns_themselves columns))

-- whether a host predicate that is mentioned is one of these, and a table one that passes
abbrev pub is_one_of : (ℕ → Bool) → List Mention → Mention → Bool
is_one_of passing named (HostAt p t columns) = is_mentioned named p t columns
is_one_of passing named (Table t) = passing t
is_one_of passing named (Column t c) = true

abbrev pub any_table : ℕ → Bool
any_table t = true

abbrev pub no_table : ℕ → Bool
no_table t = false

own_there : (named : List Mention) (k : ℕ) (m : Mention) → slice_get named k ≡ Some m → is_one_of any_table named m ≡ true
own_there named k (HostAt p t columns) is = any_passes_from_place (is_host p t columns) named k (HostAt p t columns) is (host_itself p t columns)
own_there named k (Table t) is = refl
own_there named k (Column t c) is = refl

pub all_own : (named : List Mention) → list_all (is_one_of any_table named) named ≡ true
all_own named = all_places (is_one_of any_table named) named (own_there named)

-- ---- forms whose host predicates are among those that are named

module _ {R : Type 0} (world : World R) (seen : R → Bool) (named : List Mention) (passing : ℕ → Bool) where
  -- the rows that pass the test, and these host predicates
  abbrev pub named_watch : Watch R
  named_watch = record { row = seen; host = is_mentioned named }

  abbrev AllPass : Type 0
  AllPass = (n : ℕ) → passing n ≡ true → is_watched_table named_watch (slice_get world.rows n) ≡ true

  abbrev C : Form → Bool
  C = is_covered world named_watch

  abbrev U : Form → List Mention
  U = form_uses

  abbrev all_named : List Mention → Bool
  all_named used = list_all (is_one_of passing named) used

  abbrev Covers : Form → Type 0
  Covers f = list_all (is_one_of passing named) (form_uses f) ≡ true → is_covered world named_watch f ≡ true

  abbrev Such : Type 0
  Such = (f : Form) × Covers f

  abbrev base : Such → Form
  base z = z.0

  abbrev plain : Form-F Such → Form-F Form
  plain layer = map-Form Such Form base layer

  before : (used more : List Mention) → all_named (used ++ more) ≡ true → all_named used ≡ true
  before = all_before (is_one_of passing named)

  behind : (used more : List Mention) → all_named (used ++ more) ≡ true → all_named more ≡ true
  behind = all_behind (is_one_of passing named)

  two_covered : (x z : Such) → all_named (U x.0 ++ U z.0) ≡ true → (C x.0 && C z.0) ≡ true
  two_covered x z h = both_so (C x.0) (C z.0) (x.1 (before (U x.0) (U z.0) h)) (z.1 (behind (U x.0) (U z.0) h))

  three_covered : (x z y : Such) → all_named (U x.0 ++ (U z.0 ++ U y.0)) ≡ true → (C x.0 && (C z.0 && C y.0)) ≡ true
  three_covered x z y h =
      both_so (C x.0) (C z.0 && C y.0) (x.1 (before (U x.0) (U z.0 ++ U y.0) h)) (two_covered z y (behind (U x.0) (U z.0 ++ U y.0) h))

  abbrev uses_in_fields : List (Field Such) → List Mention
  uses_in_fields fields = flat_map (λ (field : Field (List Mention)). field.value) (map (map_field U) (map (map_field base) fields))

  abbrev fields_covered : List (Field Such) → Bool
  fields_covered fields = list_all (λ (field : Field Bool). field.value) (map (map_field C) (map (map_field base) fields))

  all_fields : (fields : List (Field Such)) → all_named (uses_in_fields fields) ≡ true → fields_covered fields ≡ true
  all_fields [] h = refl
  all_fields (field ∷ fields) h =
      both_so (C field.value.0) (fields_covered fields) (field.value.1 (before (U field.value.0) (uses_in_fields fields) h))
      (all_fields fields (behind (U field.value.0) (uses_in_fields fields) h))

  abbrev uses_in_keys : List (SortKey Such) → List Mention
  uses_in_keys ks = flat_map (λ (k : SortKey (List Mention)). k.value) (map (map_key U) (map (map_key base) ks))

  abbrev keys_covered : List (SortKey Such) → Bool
  keys_covered ks = list_all (λ (k : SortKey Bool). k.value) (map (map_key C) (map (map_key base) ks))

  all_keys : (ks : List (SortKey Such)) → all_named (uses_in_keys ks) ≡ true → keys_covered ks ≡ true
  all_keys [] h = refl
  all_keys (k ∷ ks) h =
      both_so (C k.value.0) (keys_covered ks) (k.value.1 (before (U k.value.0) (uses_in_keys ks) h))
      (all_keys ks (behind (U k.value.0) (uses_in_keys ks) h))

  layer_own : AllPass → (y : Form-F Such) → all_named (form_uses_step (map-Form Form (List Mention) form_uses (plain y))) ≡ true
      → layer_covered world named_watch (plain y) ≡ true
  layer_own tables (Form-F.Literal s) h = refl
  layer_own tables (Form-F.Slot n) h = refl
  layer_own tables (Form-F.First x) h = x.1 h
  layer_own tables (Form-F.Second x) h = x.1 h
  layer_own tables (Form-F.Table n) h = tables n (first_so (passing n) true h)
  layer_own tables (Form-F.Column x t c) h = x.1 (before (U x.0) (Column t c ∷ []) h)
  layer_own tables (Form-F.Host p x t columns) h =
      let rest = U x.0 ++ columns_named t columns in
      both_so (is_mentioned named p t columns) (C x.0) (first_so (is_mentioned named p t columns) (all_named rest) h)
      (x.1 (before (U x.0) (columns_named t columns) (second_so (is_mentioned named p t columns) (all_named rest) h)))
  layer_own tables (Form-F.Member x place) h = x.1 h
  layer_own tables (Form-F.Key x) h = x.1 h
  layer_own tables (Form-F.Unary o x) h = x.1 h
  layer_own tables (Form-F.Binary o x z) h = two_covered x z h
  layer_own tables (Form-F.And x z) h = two_covered x z h
  layer_own tables (Form-F.Or x z) h = two_covered x z h
  layer_own tables (Form-F.Coalesce x z) h = two_covered x z h
  layer_own tables (Form-F.Conditional x z y) h = three_covered x z y h
  layer_own tables (Form-F.IsNull wanted x) h = x.1 h
  layer_own tables (Form-F.Record fields) h = all_fields fields h
  layer_own tables (Form-F.Pair x z) h = two_covered x z h
  layer_own tables (Form-F.Sequence x) h = x.1 h
  layer_own tables (Form-F.Simple method t x) h = x.1 h
  layer_own tables (Form-F.Given method x z) h = two_covered x z h
  layer_own tables (Form-F.Where x z) h = two_covered x z h
  layer_own tables (Form-F.Select x z) h = two_covered x z h
  layer_own tables (Form-F.All x z) h = two_covered x z h
  layer_own tables (Form-F.SelectMany x z y) h = three_covered x z y h
  layer_own tables (Form-F.Join x j) h =
      let keys = U j.outer_key.0 ++ U j.inner_key.0 in
      let first = U j.inner.0 ++ keys in
      let parts = behind (U x.0) (first ++ U j.result.0) h in
      let of_keys = behind (U j.inner.0) keys (before first (U j.result.0) parts) in
      both_so (C x.0) (C j.inner.0 && (C j.outer_key.0 && (C j.inner_key.0 && C j.result.0))) (x.1 (before (U x.0) (first ++ U j.result.0) h))
      (both_so (C j.inner.0) (C j.outer_key.0 && (C j.inner_key.0 && C j.result.0))
      (j.inner.1 (before (U j.inner.0) keys (before first (U j.result.0) parts)))
      (both_so (C j.outer_key.0) (C j.inner_key.0 && C j.result.0) (j.outer_key.1 (before (U j.outer_key.0) (U j.inner_key.0) of_keys))
      (both_so (C j.inner_key.0) (C j.result.0) (j.inner_key.1 (behind (U j.outer_key.0) (U j.inner_key.0) of_keys))
      (j.result.1 (behind first (U j.result.0) parts)))))
  layer_own tables (Form-F.OrderBy x ks) h =
      both_so (C x.0) (keys_covered ks) (x.1 (before (U x.0) (uses_in_keys ks) h)) (all_keys ks (behind (U x.0) (uses_in_keys ks) h))
  layer_own tables (Form-F.GroupBy x key element) h =
      let both = behind (U x.0) (U element.0 ++ U key.0) h in
      both_so (C x.0) (C key.0 && C element.0) (x.1 (before (U x.0) (U element.0 ++ U key.0) h))
      (both_so (C key.0) (C element.0) (key.1 (behind (U element.0) (U key.0) both)) (element.1 (before (U element.0) (U key.0) both)))

  rolled_own : AllPass → (y : Form-F Such) → Covers (roll-Form (plain y))
  rolled_own tables y h =
      covered_at world named_watch (roll-Form (plain y)) (out-roll-Form (plain y))
      ∙ layer_own tables y (ap all_named (sym (uses_at (roll-Form (plain y)) (out-roll-Form (plain y)))) ∙ h)

  -- the watch of what is named covers each form whose host predicates are named, and whose tables pass
  pub covered_by_names : ((n : ℕ) → passing n ≡ true → is_watched_table named_watch (slice_get world.rows n) ≡ true) → (f : Form)
      → list_all (is_one_of passing named) (form_uses f) ≡ true → is_covered world named_watch f ≡ true
  covered_by_names tables f = ind-Form Covers (λ x y e. subst (λ (d : Form-F Form). Covers (roll-Form d)) e (rolled_own tables y)) f

-- the watch of a form covers it
pub covered_by_own : {R : Type 0} (world : World R) (seen : R → Bool) (f : Form)
    → ((n : ℕ) → is_watched_table (watch_of seen f) (slice_get world.rows n) ≡ true)
    → is_covered world (watch_of seen f) f ≡ true
covered_by_own world seen f tables = covered_by_names world seen (form_uses f) any_table (λ n any. tables n) f (all_own (form_uses f))

-- and whatever rows pass, it covers each form whose host predicates are named and that names no table
pub covered_without_tables : {R : Type 0} (world : World R) (seen : R → Bool) (named : List Mention) (f : Form)
    → list_all (is_one_of no_table named) (form_uses f) ≡ true
    → is_covered world (record { row = seen; host = is_mentioned named }) f ≡ true
covered_without_tables world seen named f = covered_by_names world seen named no_table (λ n any. absurd (true≢false (sym any))) f
