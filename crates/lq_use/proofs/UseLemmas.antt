-- What a form uses, and what a type shows, over the forms and types in it.
use Rattle.std.proofs.Common.{◌≡◌, ◌∷◌, ◌++◌, ◌≤◌, List, [], map, flat_map, ℕ, Bool, suc, zero, length, Option, Some, None, IfSome, Result, OnOk, option_map, ap, ◌∙◌, sym, refl, subst, slice_get}
use Rattle.std.proofs.lemmas.List.{map-append}
use Rattle.std.proofs.lemmas.Option.{slice_get_past}
use Rattle.std.specs.declared.alloc.AllocError.{AllocError}
use Rattle.lq_store.specs.Rules.{IsTable}
use Rattle.lq_store.proofs.KeptTableLaws.{few_columns as few_in_schema}
use Rattle.lq_value.specs.Tables.{Table}
use Rattle.lq_value.specs.declared.table.Column.{Column as TableColumn}
use Rattle.lq_value.specs.declared.table.Schema.{Schema}
use Rattle.lq_value.specs.declared.ty.Ty.{Ty, fold_out-Ty, map-Ty, out-Ty}
use Rattle.lq_value.specs.declared.ty.Ty as of_ty
use Rattle.lq_value.specs.declared.ty.Ty.TheOpen.{Ty-F}
use Rattle.lq_value.specs.declared.ty.Ty.TheVariants as ty
use Rattle.lq_value.specs.declared.ty.Ty.TheVariants.{outs-Group, outs-Rec, outs-Row, outs-Seq}
use Rattle.lq_language.specs.Uses.{all_columns, columns_from, shown_columns, shown_step}
use Rattle.lq_machine.specs.States.{schemas_of}
use Rattle.lq_language.specs.Maps.{map_field, map_key}
use Rattle.lq_host.specs.declared.call.Pick.{Pick}
use Rattle.lq_host.specs.declared.call.Pick.TheVariants as numbers
use Rattle.lq_language.specs.Mentions.{Mention, Column, columns_named, use_of, uses_of}
use Rattle.lq_language.specs.declared.methods.Given.{Given}
use Rattle.lq_language.specs.declared.methods.Simple.{Simple}
use Rattle.lq_language.specs.declared.operation.Op.{Op}
use Rattle.lq_language.specs.declared.rights.Use.{Use}
use Rattle.lq_language.specs.declared.rights.Use.TheVariants as of
use Rattle.lq_value.specs.declared.scalar.Scalar.{Scalar}
use Rattle.lq_grammar.specs.declared.syntax.Field.{Field}
use Rattle.lq_grammar.specs.declared.syntax.SortKey.{SortKey}
use Rattle.lq_tree.specs.UsesOfForms.{form_uses}
use Rattle.lq_use.specs.Hosts.{picked_uses}
use Rattle.lq_tree.specs.declared.tree.Form.{Form}
use Rattle.lq_tree.specs.declared.tree.Form.TheVariants as form
use Rattle.lq_tree.specs.declared.tree.Joined.{Joined}
use Rattle.lq_use.specs.FormRights.{form_rights, join_uses}
use Rattle.lq_tree.proofs.FormUseLaws.{of_all, of_and, of_binary, of_coalesce, of_column, of_conditional, of_first, of_given, of_group, of_host, of_is_null, of_join, of_key, of_literal, of_member, of_or, of_order, of_pair, of_record, of_second, of_select, of_select_many, of_sequence, of_simple, of_slot, of_table, of_unary, of_where}

pub type_out : (schemas : List Schema) (t : Ty) → shown_columns schemas t ≡ shown_step schemas (map-Ty Ty (List Use) (shown_columns schemas) (out-Ty t))
unfolding shown_columns
type_out schemas t = fold_out-Ty (List Use) (shown_step schemas) t

pub append_none : (us : List Use) → us ++ [] ≡ us
append_none [] = refl
append_none (u ∷ us) = ap (λ more. u ∷ more) (append_none us)

-- ---- what a form needs rights to, over the forms in it

module _ (f : Form) where
  -- by what it uses
  by_uses : (us : List Mention) → form_uses f ≡ us → form_rights f ≡ uses_of us
  unfolding form_rights
  by_uses us is = ap uses_of is

  by_none : form_uses f ≡ [] → form_rights f ≡ []
  by_none is = by_uses [] is

  by_one : (a : Form) → form_uses f ≡ form_uses a → form_rights f ≡ form_rights a
  unfolding form_rights
  by_one a is = ap uses_of is

  by_two : (a b : Form) → form_uses f ≡ form_uses a ++ form_uses b → form_rights f ≡ form_rights a ++ form_rights b
  unfolding form_rights
  by_two a b is = ap uses_of is ∙ map-append use_of (form_uses a) (form_uses b)

  by_three : (a b c : Form) → form_uses f ≡ form_uses a ++ (form_uses b ++ form_uses c) → form_rights f ≡ form_rights a ++ (form_rights b ++ form_rights c)
  unfolding form_rights
  by_three a b c is =
      ap uses_of is ∙ map-append use_of (form_uses a) (form_uses b ++ form_uses c)
      ∙ ap (λ us. uses_of (form_uses a) ++ us) (map-append use_of (form_uses b) (form_uses c))

pub rights_literal : (s : Scalar) → form_rights (form.Literal s) ≡ []
rights_literal s = by_none (form.Literal s) (of_literal s)

pub rights_slot : (n : ℕ) → form_rights (form.Slot n) ≡ []
rights_slot n = by_none (form.Slot n) (of_slot n)

pub rights_first : (a : Form) → form_rights (form.First a) ≡ form_rights a
rights_first a = by_one (form.First a) a (of_first a)

pub rights_second : (a : Form) → form_rights (form.Second a) ≡ form_rights a
rights_second a = by_one (form.Second a) a (of_second a)

pub rights_table : (n : ℕ) → form_rights (form.Table n) ≡ of.Table n ∷ []
rights_table n = by_uses (form.Table n) _ (of_table n)

pub rights_column : (a : Form) (n c : ℕ) → form_rights (form.Column a n c) ≡ form_rights a ++ of.Column n c ∷ []
unfolding form_rights
rights_column a n c = ap uses_of (of_column a n c) ∙ map-append use_of (form_uses a) (Column n c ∷ [])

picked_alike : (t : ℕ) (columns : Pick) → uses_of (columns_named t columns) ≡ picked_uses t columns
picked_alike t (numbers.One c) = refl
picked_alike t (numbers.Two c d) = refl

pub rights_host : (p : ℕ) (a : Form) (n : ℕ) (columns : Pick) → form_rights (form.Host p a n columns) ≡ of.Host p ∷ (form_rights a ++ picked_uses n columns)
unfolding form_rights
rights_host p a n columns =
    ap uses_of (of_host p a n columns)
    ∙ ap (λ us. of.Host p ∷ us) (map-append use_of (form_uses a) (columns_named n columns) ∙ ap (λ us. uses_of (form_uses a) ++ us) (picked_alike n columns))

pub rights_member : (a : Form) (n : ℕ) → form_rights (form.Member a n) ≡ form_rights a
rights_member a n = by_one (form.Member a n) a (of_member a n)

pub rights_key : (a : Form) → form_rights (form.Key a) ≡ form_rights a
rights_key a = by_one (form.Key a) a (of_key a)

pub rights_unary : (o : Op) (a : Form) → form_rights (form.Unary o a) ≡ form_rights a
rights_unary o a = by_one (form.Unary o a) a (of_unary o a)

pub rights_binary : (o : Op) (a b : Form) → form_rights (form.Binary o a b) ≡ form_rights a ++ form_rights b
rights_binary o a b = by_two (form.Binary o a b) a b (of_binary o a b)

pub rights_and : (a b : Form) → form_rights (form.And a b) ≡ form_rights a ++ form_rights b
rights_and a b = by_two (form.And a b) a b (of_and a b)

pub rights_or : (a b : Form) → form_rights (form.Or a b) ≡ form_rights a ++ form_rights b
rights_or a b = by_two (form.Or a b) a b (of_or a b)

pub rights_coalesce : (a b : Form) → form_rights (form.Coalesce a b) ≡ form_rights a ++ form_rights b
rights_coalesce a b = by_two (form.Coalesce a b) a b (of_coalesce a b)

pub rights_conditional : (c a b : Form) → form_rights (form.Conditional c a b) ≡ form_rights c ++ (form_rights a ++ form_rights b)
rights_conditional c a b = by_three (form.Conditional c a b) c a b (of_conditional c a b)

pub rights_is_null : (wanted : Bool) (a : Form) → form_rights (form.IsNull wanted a) ≡ form_rights a
rights_is_null wanted a = by_one (form.IsNull wanted a) a (of_is_null wanted a)

pub rights_pair : (a b : Form) → form_rights (form.Pair a b) ≡ form_rights a ++ form_rights b
rights_pair a b = by_two (form.Pair a b) a b (of_pair a b)

pub rights_sequence : (a : Form) → form_rights (form.Sequence a) ≡ form_rights a
rights_sequence a = by_one (form.Sequence a) a (of_sequence a)

pub rights_simple : (method : Simple) (t : Ty) (a : Form) → form_rights (form.Simple method t a) ≡ form_rights a
rights_simple method t a = by_one (form.Simple method t a) a (of_simple method t a)

pub rights_given : (method : Given) (a b : Form) → form_rights (form.Given method a b) ≡ form_rights a ++ form_rights b
rights_given method a b = by_two (form.Given method a b) a b (of_given method a b)

pub rights_where : (a b : Form) → form_rights (form.Where a b) ≡ form_rights a ++ form_rights b
rights_where a b = by_two (form.Where a b) a b (of_where a b)

pub rights_select : (a b : Form) → form_rights (form.Select a b) ≡ form_rights a ++ form_rights b
rights_select a b = by_two (form.Select a b) a b (of_select a b)

pub rights_all : (a b : Form) → form_rights (form.All a b) ≡ form_rights a ++ form_rights b
rights_all a b = by_two (form.All a b) a b (of_all a b)

pub rights_select_many : (a b c : Form) → form_rights (form.SelectMany a b c) ≡ form_rights a ++ (form_rights b ++ form_rights c)
rights_select_many a b c = by_three (form.SelectMany a b c) a b c (of_select_many a b c)

pub rights_group : (a key element : Form) → form_rights (form.GroupBy a key element) ≡ form_rights a ++ (form_rights element ++ form_rights key)
rights_group a key element = by_three (form.GroupBy a key element) a element key (of_group a key element)

-- a record's members, and keys, one by one
fields_one_by_one : (fields : List (Field Form)) → uses_of (flat_map (λ (f : Field (List Mention)). f.value) (map (map_field form_uses) fields))
    ≡ flat_map (λ (f : Field Form). form_rights f.value) fields
unfolding form_rights
fields_one_by_one [] = refl
fields_one_by_one (f ∷ fields) =
    map-append use_of (form_uses f.value) (flat_map (λ (g : Field (List Mention)). g.value) (map (map_field form_uses) fields))
    ∙ ap (λ us. uses_of (form_uses f.value) ++ us) (fields_one_by_one fields)

keys_one_by_one : (ks : List (SortKey Form)) → uses_of (flat_map (λ (k : SortKey (List Mention)). k.value) (map (map_key form_uses) ks))
    ≡ flat_map (λ (k : SortKey Form). form_rights k.value) ks
unfolding form_rights
keys_one_by_one [] = refl
keys_one_by_one (k ∷ ks) =
    map-append use_of (form_uses k.value) (flat_map (λ (l : SortKey (List Mention)). l.value) (map (map_key form_uses) ks))
    ∙ ap (λ us. uses_of (form_uses k.value) ++ us) (keys_one_by_one ks)

pub record_uses : (fields : List (Field Form)) → form_rights (form.Record fields) ≡ flat_map (λ (f : Field Form). form_rights f.value) fields
record_uses fields = by_uses (form.Record fields) _ (of_record fields) ∙ fields_one_by_one fields

pub sorted_uses : (a : Form) (ks : List (SortKey Form)) → form_rights (form.OrderBy a ks) ≡ form_rights a ++ flat_map (λ (k : SortKey Form). form_rights k.value) ks
unfolding form_rights
sorted_uses a ks =
    ap uses_of (of_order a ks) ∙ map-append use_of (form_uses a) (flat_map (λ (k : SortKey (List Mention)). k.value) (map (map_key form_uses) ks))
    ∙ ap (λ us. uses_of (form_uses a) ++ us) (keys_one_by_one ks)

append_behind : (xs ys zs : List Use) → (xs ++ ys) ++ zs ≡ xs ++ (ys ++ zs)
append_behind [] ys zs = refl
append_behind (x ∷ xs) ys zs = ap (λ more. x ∷ more) (append_behind xs ys zs)

pub joined_uses : (a : Form) (j : Joined Form) → form_rights (form.Join a j) ≡ form_rights a ++ join_uses j
unfolding form_rights
joined_uses a j =
    ap uses_of (of_join a j) ∙ map-append use_of (form_uses a) ((form_uses j.inner ++ (form_uses j.outer_key ++ form_uses j.inner_key)) ++ form_uses j.result)
    ∙ ap (λ us. uses_of (form_uses a) ++ us)
    (map-append use_of (form_uses j.inner ++ (form_uses j.outer_key ++ form_uses j.inner_key)) (form_uses j.result)
    ∙ ap (λ us. us ++ uses_of (form_uses j.result))
    (map-append use_of (form_uses j.inner) (form_uses j.outer_key ++ form_uses j.inner_key)
    ∙ ap (λ us. uses_of (form_uses j.inner) ++ us) (map-append use_of (form_uses j.outer_key) (form_uses j.inner_key)))
    ∙ append_behind (uses_of (form_uses j.inner)) (uses_of (form_uses j.outer_key) ++ uses_of (form_uses j.inner_key)) (uses_of (form_uses j.result))
    ∙ ap (λ us. uses_of (form_uses j.inner) ++ us)
    (append_behind (uses_of (form_uses j.outer_key)) (uses_of (form_uses j.inner_key)) (uses_of (form_uses j.result))))

-- the schema of a table of a store, by its number
schemas_at : (tables : List Table) (n : ℕ) → slice_get (schemas_of tables) n ≡ option_map (λ t. t.schema) (slice_get tables n)
schemas_at [] n = refl
schemas_at (t ∷ tables) zero = refl
schemas_at (t ∷ tables) (suc n) = schemas_at tables n

pub schema_there : (tables : List Table) (n : ℕ) (schema : Schema) → option_map (λ t. t.schema) (slice_get tables n) ≡ Some schema
    → slice_get (schemas_of tables) n ≡ Some schema
schema_there tables n schema h = schemas_at tables n ∙ h

pub no_schema : (tables : List Table) (n : ℕ) → length tables ≤ n → slice_get (schemas_of tables) n ≡ None
no_schema tables n past = schemas_at tables n ∙ ap (option_map (λ t. t.schema)) (slice_get_past tables n past)

-- all columns of a table that is there
pub columns_there : (result : Result (Unit {0}) AllocError) (new old : List Use) (table : ℕ) (o : Option Schema) (schema : Schema) (columns : List TableColumn)
    → o ≡ Some schema → columns ≡ schema.columns → OnOk result (new ≡ old ++ columns_from table 0 columns) → OnOk result (new ≡ old ++ all_columns table o)
columns_there result new old table o schema columns is same h =
    subst (λ (p : Option Schema). OnOk result (new ≡ old ++ all_columns table p)) (sym is)
    (subst (λ (cs : List TableColumn). OnOk result (new ≡ old ++ columns_from table 0 cs)) same h)

-- the columns of a table are few
pub few_columns : (found : Option Table) (schema : Schema) (columns : List TableColumn) → option_map (λ table. table.schema) found ≡ Some schema → IfSome found IsTable
    → columns ≡ schema.columns → length columns ≤ 100
few_columns found schema columns h table are = subst (λ (cs : List TableColumn). length cs ≤ 100) (sym are) (few_in_schema found schema h table)

-- the members of a record type, one by one
types_one_by_one : (schemas : List Schema) (ms : List (List ℕ × Ty)) → flat_map (λ (m : List ℕ × List Use). m.1) (map (λ m. (m.0, shown_columns schemas m.1)) ms)
    ≡ flat_map (λ (m : List ℕ × Ty). shown_columns schemas m.1) ms
types_one_by_one schemas [] = refl
types_one_by_one schemas (m ∷ ms) = ap (λ us. shown_columns schemas m.1 ++ us) (types_one_by_one schemas ms)

pub record_shows : (schemas : List Schema) (ms : List (List ℕ × Ty)) → shown_columns schemas (ty.Rec ms) ≡ flat_map (λ (m : List ℕ × Ty). shown_columns schemas m.1) ms
record_shows schemas ms =
    type_out schemas (ty.Rec ms) ∙ ap (λ (layer : Ty-F Ty). shown_step schemas (map-Ty Ty (List Use) (shown_columns schemas) layer)) (outs-Rec ms)
    ∙ types_one_by_one schemas ms

pub group_shows : (schemas : List Schema) (k t : Ty) → shown_columns schemas (ty.Group k t) ≡ shown_columns schemas k ++ shown_columns schemas t
group_shows schemas k t =
    type_out schemas (ty.Group k t) ∙ ap (λ (layer : Ty-F Ty). shown_step schemas (map-Ty Ty (List Use) (shown_columns schemas) layer)) (outs-Group k t)

pub sequence_shows : (schemas : List Schema) (t : Ty) → shown_columns schemas (ty.Seq t) ≡ shown_columns schemas t
sequence_shows schemas t =
    type_out schemas (ty.Seq t) ∙ ap (λ (layer : Ty-F Ty). shown_step schemas (map-Ty Ty (List Use) (shown_columns schemas) layer)) (outs-Seq t)

pub row_shows : (schemas : List Schema) (n : ℕ) → shown_columns schemas (ty.Row n) ≡ all_columns n (slice_get schemas n)
row_shows schemas n =
    type_out schemas (ty.Row n) ∙ ap (λ (layer : Ty-F Ty). shown_step schemas (map-Ty Ty (List Use) (shown_columns schemas) layer)) (outs-Row n)

-- a form, after the uses of its source and of its other parts
module _ (old mid new : List Use) (f a : Form) where
  behind_two : (more : List Use) → form_rights f ≡ form_rights a ++ more → mid ≡ old ++ form_rights a → new ≡ mid ++ more → new ≡ old ++ form_rights f
  behind_two more is first second =
      second ∙ ap (λ us. us ++ more) first ∙ append_behind old (form_rights a) more ∙ ap (λ us. old ++ us) (sym is)

  pub sorted_behind : (ks : List (SortKey Form)) → f ≡ form.OrderBy a ks → mid ≡ old ++ form_rights a
      → new ≡ mid ++ flat_map (λ (k : SortKey Form). form_rights k.value) ks → new ≡ old ++ form_rights f
  sorted_behind ks is first second = behind_two _ (ap form_rights is ∙ sorted_uses a ks) first second

  pub joined_behind : (j : Joined Form) → f ≡ form.Join a j → mid ≡ old ++ form_rights a → new ≡ mid ++ join_uses j → new ≡ old ++ form_rights f
  joined_behind j is first second = behind_two (join_uses j) (ap form_rights is ∙ joined_uses a j) first second

pub ruleset types = (record_shows, group_shows, sequence_shows, row_shows, type_out, of_ty.the_lemmas, append_none)

pub ruleset forms = (rights_all, rights_and, rights_binary, rights_coalesce, rights_column, rights_conditional, rights_first, rights_given, rights_group, rights_host, rights_is_null, rights_key, rights_literal, rights_member, rights_or, rights_pair, rights_second, rights_select, rights_select_many, rights_sequence, rights_simple, rights_slot, rights_table, rights_unary, rights_where, record_uses, sorted_uses, joined_uses, sorted_behind, joined_behind, append_none)
