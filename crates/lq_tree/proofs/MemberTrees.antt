-- What a member is bound to, by the type of what it is a member of.
use Rattle.std.proofs.Common.{◌≡◌, ◌∷◌, if◌then◌else◌, List, [], ℕ, Bool, true, false, Some, ap, ◌∙◌, sym, refl, subst, bytes_eq, codes, option_and_then, option_map, slice_get}
use Rattle.std.proofs.lemmas.Option.{none-some, option_and_then_some, same_Some}
use Rattle.std.proofs.lemmas.Slice.Eq.{bytes_eq-Decides}
use Rattle.std.specs.List.{position_from}
use Rattle.lq_value.specs.Tables.{first_named}
use Rattle.lq_value.specs.declared.table.Column.{Column}
use Rattle.lq_value.specs.declared.table.Schema.{Schema}
use Rattle.lq_value.specs.declared.ty.Ty.{Ty}
use Rattle.lq_value.specs.declared.ty.Ty.TheOpen.{Ty-F}
use Rattle.lq_value.specs.declared.ty.Ty.TheVariants as ty
use Rattle.lq_language.specs.Names.{column_named, column_type, type_of_column}
use Rattle.lq_language.specs.Types.{when}
use Rattle.lq_language.specs.declared.operation.Op.TheVariants as op
use Rattle.lq_language.proofs.FindingLaws.{map_by, when_by}
use Rattle.lq_tree.specs.Binding.{member_layer, tree_of}
use Rattle.lq_tree.specs.FormMeaning.{column_name, name_of_column}
use Rattle.lq_tree.specs.declared.tree.Form.{Form}
use Rattle.lq_tree.specs.declared.tree.Form.TheVariants as form
use Rattle.lq_tree.specs.declared.tree.Tree.{Tree}
use Rattle.lq_tree.proofs.TypeLaws.{column_first, first_position, first_with, get_at}

first_passes : {A : Type 0} (test : A → Bool) (xs : List A) (x : A) → first_with test xs ≡ Some x → test x ≡ true
first_passes test [] x h = absurd (none-some x h)
first_passes test (y ∷ ys) x h = by (test y) refl h (first_passes test ys x) where
  by : (b : Bool) → test y ≡ b → (if b then Some y else first_with test ys) ≡ Some x → (first_with test ys ≡ Some x → test x ≡ true) → test x ≡ true
  by true is found rest = ap test (sym (same_Some y x found)) ∙ is
  by false is found rest = rest found

module _ (schemas : List Schema) (m : List ℕ) where
  -- a column at the number that its name has is of that name and of the type that the name has
  pub column_known : (n c : ℕ) (schema : Schema) (column : Column) → slice_get schemas n ≡ Some schema → first_named (λ d. d.name) m schema.columns ≡ Some c
      → slice_get schema.columns c ≡ Some column
      → (name_of_column schemas n c ≡ Some m) × (column_type schemas n m ≡ Some (type_of_column column.ty))
  column_known n c schema column there named at =
      let first : first_with (λ (d : Column). bytes_eq d.name m) schema.columns ≡ Some column =
      sym (first_position (λ (d : Column). bytes_eq d.name m) schema.columns) ∙ ap (get_at schema.columns) named ∙ at in (
        ap (option_and_then (column_name c)) there ∙ ap (option_map (λ (d : Column). d.name)) at
            ∙ ap Some ((bytes_eq-Decides column.name m).0 (first_passes _ schema.columns column first)),
        ap (option_and_then (λ (s : Schema). option_map (λ (d : Column). type_of_column d.ty) (column_named m s.columns))) there
            ∙ ap (option_map (λ (d : Column). type_of_column d.ty)) (sym (column_first m schema.columns) ∙ first),
      )

module _ (schemas : List Schema) (m : List ℕ) (a : Form) where
  -- the trees of the member of this name, for each layer of the type that has one
  pub data Member : Ty-F Ty → Tree → Type 0 where
    a_column : (n c : ℕ) (schema : Schema) (column : Column) → slice_get schemas n ≡ Some schema → first_named (λ d. d.name) m schema.columns ≡ Some c
        → slice_get schema.columns c ≡ Some column → Member (Ty-F.Row n) (tree_of (type_of_column column.ty) (form.Column a n c))
    a_member : (ms : List (List ℕ × Ty)) (place : ℕ) (member : List ℕ × Ty) → position_from (λ (d : List ℕ × Ty). bytes_eq m d.0) 0 ms ≡ Some place
        → slice_get ms place ≡ Some member → Member (Ty-F.Rec ms) (tree_of member.1 (form.Member a place))
    a_key : (k t : Ty) → Member (Ty-F.Group k t) (tree_of k (form.Key a))
    has_value : m ≡ codes "HasValue" → Member Ty-F.IntN (tree_of ty.Bool (form.Unary op.HasValue a))
    its_value : m ≡ codes "Value" → Member Ty-F.IntN (tree_of ty.Int (form.Unary op.Value a))
    its_length : m ≡ codes "Length" → Member Ty-F.Str (tree_of ty.Int (form.Unary op.Length a))

  pub member_by : (layer : Ty-F Ty) (r : Tree) → member_layer schemas m a layer ≡ Some r → Member layer r
  member_by (Ty-F.Row n) r h =
      option_and_then_some _ (slice_get schemas n) r h
      (λ schema there found. option_and_then_some _ (first_named (λ d. d.name) m schema.columns) r found
      (λ c named made. map_by _ (slice_get schema.columns c) r made
      (λ column at is. subst (Member (Ty-F.Row n)) is (a_column n c schema column there named at))))
  member_by (Ty-F.Rec ms) r h =
      option_and_then_some _ (position_from (λ (d : List ℕ × Ty). bytes_eq m d.0) 0 ms) r h
      (λ place named made. map_by _ (slice_get ms place) r made
      (λ member there is. subst (Member (Ty-F.Rec ms)) is (a_member ms place member named there)))
  member_by (Ty-F.Group k t) r h =
      when_by (bytes_eq m (codes "Key")) _ r h (λ named is. subst (Member (Ty-F.Group k t)) (same_Some _ r is) (a_key k t))
  member_by Ty-F.IntN r h = by (bytes_eq m (codes "HasValue")) refl h where
    by : (b : Bool) → bytes_eq m (codes "HasValue") ≡ b
        → (if b then Some (tree_of ty.Bool (form.Unary op.HasValue a)) else when (bytes_eq m (codes "Value"))
        (Some (tree_of ty.Int (form.Unary op.Value a)))) ≡ Some r → Member Ty-F.IntN r
    by true same found = subst (Member Ty-F.IntN) (same_Some _ r found) (has_value ((bytes_eq-Decides m (codes "HasValue")).0 same))
    by false differ found =
        when_by (bytes_eq m (codes "Value")) _ r found
        (λ same is. subst (Member Ty-F.IntN) (same_Some _ r is) (its_value ((bytes_eq-Decides m (codes "Value")).0 same)))
  member_by Ty-F.Str r h =
      when_by (bytes_eq m (codes "Length")) _ r h
      (λ same is. subst (Member Ty-F.Str) (same_Some _ r is) (its_length ((bytes_eq-Decides m (codes "Length")).0 same)))
  member_by Ty-F.Int r h = absurd (none-some r h)
  member_by Ty-F.Bool r h = absurd (none-some r h)
  member_by Ty-F.Null r h = absurd (none-some r h)
  member_by (Ty-F.Seq t) r h = absurd (none-some r h)
