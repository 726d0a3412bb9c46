-- What a host predicate is bound to: the columns' numbers are those of their names.
use Rattle.std.proofs.Common.{◌≡◌, ◌&&◌, ℕ, List, Bool, true, false, Option, Some, None, ap, ap₂, ◌∙◌, sym, refl, bytes_eq, true≢false, option_and_then, option_map, slice_get}
use Rattle.std.specs.Prelude.{is_some}
use Rattle.std.proofs.lemmas.Bool.{and_parts}
use Rattle.std.proofs.lemmas.Option.{none-some}
use Rattle.lq_value.specs.Tables.{first_named}
use Rattle.lq_value.specs.declared.table.Column.{Column}
use Rattle.lq_value.specs.declared.table.Schema.{Schema}
use Rattle.lq_value.specs.declared.ty.Ty.{Ty, out-Ty}
use Rattle.lq_value.specs.declared.ty.Ty.TheOpen.{Ty-F}
use Rattle.lq_host.specs.declared.call.Pick.{Pick}
use Rattle.lq_host.specs.declared.call.Pick.TheVariants as numbers
use Rattle.lq_grammar.specs.declared.syntax.Picked.{Picked}
use Rattle.lq_grammar.specs.declared.syntax.Picked.TheVariants as picked
use Rattle.lq_language.specs.HostNames.{are_int_columns, column_numbers, host_type, is_int_type, layer_has_ints, predicate_number}
use Rattle.lq_language.specs.Names.{column_named, column_number, column_type, type_of_column}
use Rattle.lq_language.specs.OperandTypes.{truth_type}
use Rattle.lq_language.specs.Types.{when}
use Rattle.lq_language.specs.declared.host_name.HostName.{HostName}
use Rattle.lq_language.proofs.FindingLaws.{map_by, when_by}
use Rattle.lq_tree.specs.Binding.{asked_tree, host_form, host_layer, host_tree}
use Rattle.lq_tree.specs.FormMeaning.{name_of_column}
use Rattle.lq_tree.specs.Places.{Places, names_of_places}
use Rattle.lq_tree.specs.TypedForms.{ArePicked}
use Rattle.lq_tree.specs.declared.tree.Tree.{Tree}
use Rattle.lq_tree.proofs.MemberTrees.{column_known}
use Rattle.lq_tree.proofs.TypeLaws.{column_first, first_position, get_at, truth_and, type_found}

module _ (schemas : List Schema) where
  -- ---- columns

  -- a column that is found has a number, at which it is found
  module _ (n : ℕ) (c : List ℕ) where
    abbrev IsThere : Type 0
    IsThere = (k : ℕ) × (column_number c (slice_get schemas n) ≡ Some k) × (name_of_column schemas n k ≡ Some c)

    abbrev type_in : Option Column → Option Ty
    type_in o = option_map (λ (d : Column). type_of_column d.ty) o

    module _ (schema : Schema) (is : slice_get schemas n ≡ Some schema) (ints : is_int_type (type_in (column_named c schema.columns)) ≡ true) where
      -- the column of this name is at its place
      at_place : (o : Option ℕ) → first_named (λ (d : Column). d.name) c schema.columns ≡ o → is_int_type (type_in (get_at schema.columns o)) ≡ true
      at_place o named =
          ap (λ (q : Option Column). is_int_type (type_in q))
          (sym (ap (get_at schema.columns) named) ∙ first_position (λ (d : Column). bytes_eq d.name c) schema.columns ∙ column_first c schema.columns)
          ∙ ints

      by_column : (k : ℕ) → first_named (λ (d : Column). d.name) c schema.columns ≡ Some k → (o : Option Column) → slice_get schema.columns k ≡ o
          → is_int_type (type_in o) ≡ true → IsThere
      by_column k named None at h = absurd (true≢false (sym h))
      by_column k named (Some d) at h = (k, ap (column_number c) is ∙ named, (column_known schemas c n k schema d is named at).0)

      by_place : (o : Option ℕ) → first_named (λ (d : Column). d.name) c schema.columns ≡ o → is_int_type (type_in (get_at schema.columns o)) ≡ true → IsThere
      by_place None named h = absurd (true≢false (sym h))
      by_place (Some k) named h = by_column k named (slice_get schema.columns k) refl h

      in_schema : IsThere
      in_schema =
          by_place (first_named (λ (d : Column). d.name) c schema.columns) refl
          (at_place (first_named (λ (d : Column). d.name) c schema.columns) refl)

    column_there : is_int_type (column_type schemas n c) ≡ true → IsThere
    column_there ints = by (slice_get schemas n) refl ints where
      by : (o : Option Schema) → slice_get schemas n ≡ o → is_int_type (option_and_then (λ schema. type_in (column_named c schema.columns)) o) ≡ true → IsThere
      by None is h = absurd (true≢false (sym h))
      by (Some schema) is h = in_schema schema is h

  -- and so have columns
  pub numbers_there : (n : ℕ) (columns : Picked) → are_int_columns schemas n columns ≡ true
      → (numbered : Pick) × (column_numbers (slice_get schemas n) columns ≡ Some numbered) × ArePicked schemas n numbered columns
  numbers_there n (picked.One c) ints = let k = column_there n c ints in (numbers.One k.0, ap (option_map numbers.One) k.1, k.2)
  numbers_there n (picked.Two c d) ints =
      let parts = and_parts (is_int_type (column_type schemas n c)) _ ints in
      let k = column_there n c parts.0 in
      let l = column_there n d parts.1 in
      (numbers.Two k.0 l.0, ap₂ (λ (a b : Option ℕ). option_and_then (λ x. option_map (numbers.Two x) b) a) k.1 l.1, (k.2, l.2))

  -- ---- trees

  -- what a predicate that has a tree is asked of
  pub asked_by : {P : Type 0} (known : List HostName) (p : List ℕ) (columns : Picked) (row r : Tree) → host_tree schemas known p columns row ≡ Some r
      → ((k n : ℕ) (numbered : Pick) → predicate_number known p columns ≡ Some k → out-Ty row.ty ≡ Ty-F.Row n → are_int_columns schemas n columns ≡ true
      → column_numbers (slice_get schemas n) columns ≡ Some numbered → ArePicked schemas n numbered columns → host_form n row.form numbered k ≡ r → P) → P
  asked_by {P} known p columns row r h next = by (out-Ty row.ty) refl h where
    by : (layer : Ty-F Ty) → out-Ty row.ty ≡ layer → host_layer schemas known p columns row.form layer ≡ Some r → P
    by (Ty-F.Row n) is found =
        when_by (are_int_columns schemas n columns) _ r found
        (λ ints made. let there = numbers_there n columns ints in
        map_by (host_form n row.form there.0) (predicate_number known p columns) r
        (sym (ap (option_and_then (asked_tree known p columns n row.form)) there.1) ∙ made)
        (λ k number same. next k n there.0 number is ints there.1 there.2 same))
    by layer is found = absurd (none-some r found)

  -- it has a tree exactly where it has a type
  pub host_typed : (places : Places) (p : List ℕ) (columns : Picked) (o : Option Tree)
      → type_found (option_and_then (host_tree schemas places.predicates p columns) o) ≡ host_type (names_of_places schemas places) p columns (type_found o)
  host_typed places p columns None = sym (truth_and (is_some (predicate_number places.predicates p columns)))
  host_typed places p columns (Some row) = by (out-Ty row.ty) where
    number : Option ℕ
    number = predicate_number places.predicates p columns

    Found : Ty-F Ty → Type 0
    Found layer = type_found (host_layer schemas places.predicates p columns row.form layer) ≡ truth_type (is_some number && layer_has_ints schemas columns layer)

    asked : (n : ℕ) (numbered : Pick) (q : Option ℕ) → type_found (option_map (host_form n row.form numbered) q) ≡ truth_type (is_some q && true)
    asked n numbered None = refl
    asked n numbered (Some k) = refl

    ints : (n : ℕ) (b : Bool) → are_int_columns schemas n columns ≡ b
        → type_found (when b (option_and_then (asked_tree places.predicates p columns n row.form) (column_numbers (slice_get schemas n) columns))) ≡ truth_type (is_some number && b)
    ints n false is = sym (truth_and (is_some number))
    ints n true is =
        let there = numbers_there n columns is in
        ap (λ (q : Option Pick). type_found (option_and_then (asked_tree places.predicates p columns n row.form) q)) there.1 ∙ asked n there.0 number

    by : (layer : Ty-F Ty) → Found layer
    by (Ty-F.Row n) = ints n (are_int_columns schemas n columns) refl
    by layer = sym (truth_and (is_some number))
