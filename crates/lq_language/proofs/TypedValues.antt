-- Values of a type, as operators and members take them.
use Rattle.std.proofs.Common.{◌≡◌, if◌then◌else◌, List, ℕ, Bool, true, false, Option, Some, Ok, Err, ap, ap₂, ◌∙◌, sym, refl, subst}
use Rattle.std.proofs.lemmas.Option.{none-some, same_Some}
use Rattle.std.specs.Prelude.{is_some}
use Rattle.lq_value.specs.declared.scalar.Scalar.{Scalar}
use Rattle.lq_value.specs.declared.scalar.Scalar.TheVariants as scalar
use Rattle.lq_value.specs.declared.ty.Ty.{Ty, out-Ty}
use Rattle.lq_value.specs.declared.ty.Ty.TheOpen.{Ty-F}
use Rattle.lq_value.specs.declared.value.End.{End}
use Rattle.lq_value.specs.declared.value.Fault.{Fault}
use Rattle.lq_value.specs.declared.value.Fault.TheVariants as fault
use Rattle.lq_value.specs.declared.value.Value.{Value, out-Value}
use Rattle.lq_value.specs.declared.value.Value.TheOpen.{Value-F}
use Rattle.lq_value.specs.declared.value.Value.TheVariants as value
use Rattle.lq_value.specs.declared.value.Value.TheVariants.{outs-Row as outs-value-Row, outs-Scalar}
use Rattle.lq_language.specs.Worlds.{World}
use Rattle.lq_language.specs.OperandMeaning.{as_value, comparand, member_value, same_values}
use Rattle.lq_language.specs.ValuesOfTypes.{Every, HasCells, IsOf, is_scalar as is_scalar_value, is_row, is_sequence, IsScalarOf, assuming}
use Rattle.lq_language.specs.Members.{member_named}
use Rattle.lq_language.specs.Operations.{of_member}
use Rattle.lq_language.specs.OperandTypes.{are_comparable, item_of, row_table}
use Rattle.lq_language.proofs.ScalarResultLaws.{Decides, HasScalars, Widens, bool_layer, comparable_same, no_items_before, no_items_behind, no_two_rows, null_before_row, null_behind_row, row_layer}

module _ {R : Type 0} (world : World R) where
  -- a value of a type without rows and sequences is a scalar
  pub scalar_there : (t : Ty) (v : Value R) → HasScalars (out-Ty t) → IsOf world t v → (s : Scalar) × (v ≡ value.Scalar s) × IsScalarOf (out-Ty t) s
  scalar_there t _ none (is_scalar_value _ s fits) = (s, refl, fits)
  scalar_there t _ none (is_row _ n r is cells) = absurd (none-some n (sym none.0 ∙ is))
  scalar_there t _ none (is_sequence _ item xs e is items) = absurd (none-some item (sym none.1 ∙ is))

  -- a value of a type is of one that holds its values
  pub widened_value : (t r : Ty) (v : Value R) → Widens (out-Ty t) (out-Ty r) → IsOf world t v → IsOf world r v
  widened_value t r _ widens (is_scalar_value _ s fits) = is_scalar_value r s (widens.scalars s fits)
  widened_value t r _ widens (is_row _ n row is cells) = is_row r n row (widens.rows n is) cells
  widened_value t r _ widens (is_sequence _ item xs e is items) = is_sequence r item xs e (widens.items item is) items

  -- whether two values are the same, whatever is used where there is no meaning
  abbrev pub DecidesSame : Value R → Value R → Type 0
  DecidesSame v w = Decides (λ unknown. same_values (assuming unknown world) (out-Value R v) (out-Value R w))

  pub decides_same : (s t : Ty) (v w : Value R) → are_comparable (out-Ty s) (out-Ty t) ≡ true → IsOf world s v → IsOf world t w → DecidesSame v w
  decides_same s t _ _ h (is_scalar_value _ x fits) (is_scalar_value _ y more) =
      let decided = comparable_same (out-Ty s) (out-Ty t) h x y fits more in
      (decided.0, λ unknown. ap₂ (same_values (assuming unknown world)) (outs-Scalar x) (outs-Scalar y) ∙ decided.1 unknown)
  decides_same s t _ _ h (is_scalar_value _ x fits) (is_row _ n r is cells) =
      let null = null_before_row (out-Ty s) (out-Ty t) n h is x fits in
      (false, λ unknown. ap₂ (same_values (assuming unknown world)) (ap (λ (y : Scalar). out-Value R (value.Scalar y)) null ∙ outs-Scalar scalar.Null) (outs-value-Row r))
  decides_same s t _ _ h (is_row _ n r is cells) (is_scalar_value _ y more) =
      let null = null_behind_row (out-Ty s) (out-Ty t) n h is y more in
      (false, λ unknown. ap₂ (same_values (assuming unknown world)) (outs-value-Row r) (ap (λ (x : Scalar). out-Value R (value.Scalar x)) null ∙ outs-Scalar scalar.Null))
  decides_same s t _ _ h (is_row _ m r is cells) (is_row _ n k other more) = absurd (no_two_rows (out-Ty s) (out-Ty t) m n h is other)
  decides_same s t _ _ h (is_row _ m r is cells) (is_sequence _ item xs e other items) = absurd (no_items_behind (out-Ty s) (out-Ty t) item h other)
  decides_same s t _ _ h (is_scalar_value _ x fits) (is_sequence _ item xs e other items) = absurd (no_items_behind (out-Ty s) (out-Ty t) item h other)
  decides_same s t _ _ h (is_sequence _ item xs e is items) fits = absurd (no_items_before (out-Ty s) (out-Ty t) item h is)

  -- what `==` compares is a scalar or a row
  pub comparand_there : (unknown : Fault) (t : Ty) (v : Value R) → ((item : Ty) → item_of (out-Ty t) ≡ Some item → ⊥) → IsOf world t v
      → comparand (assuming unknown world) (out-Value R v) ≡ Ok (out-Value R v)
  comparand_there unknown t _ none (is_scalar_value _ s fits) = ap (comparand (assuming unknown world)) (outs-Scalar s) ∙ ap Ok (sym (outs-Scalar s))
  comparand_there unknown t _ none (is_row _ n r is cells) = ap (comparand (assuming unknown world)) (outs-value-Row r) ∙ ap Ok (sym (outs-value-Row r))
  comparand_there unknown t _ none (is_sequence _ item xs e is items) = absurd (none item is)

  -- a member of a scalar, null or not, is found by its name
  pub member_of_scalar : (w : World R) (t : Ty) (m : List ℕ) (s : Scalar) → HasScalars (out-Ty t)
      → member_value w (Some t) m (Value-F.Scalar s) ≡ as_value (of_member w.unknown (member_named m) s)
  member_of_scalar w t m scalar.Null none =
      ap (λ (o : Option ℕ). as_value (if is_some o then Err fault.NullReference else of_member w.unknown (member_named m) scalar.Null)) none.0
  member_of_scalar w t m s none = refl

  -- a value of the type of truth values is one
  pub bool_value : (t : Ty) (v : Value R) → out-Ty t ≡ Ty-F.Bool → IsOf world t v → (b : Bool) × (v ≡ value.Scalar (scalar.Bool b))
  bool_value t _ layer (is_scalar_value _ s fits) =
      let found = bool_layer s (subst (λ (u : Ty-F Ty). IsScalarOf u s) layer fits) in (found.0, ap value.Scalar found.1)
  bool_value t _ layer (is_row _ n r is cells) = absurd (none-some n (ap row_table (sym layer) ∙ is))
  bool_value t _ layer (is_sequence _ item xs e is items) = absurd (none-some item (ap item_of (sym layer) ∙ is))

  -- a value of a row's type is a row with its cells, or null
  pub data IsRowOrNull (n : ℕ) (v : Value R) : Type 0 where
    a_row : (r : R) → HasCells world n r → v ≡ value.Row r → IsRowOrNull n v
    no_row : v ≡ value.Scalar scalar.Null → IsRowOrNull n v

  pub row_value : (t : Ty) (n : ℕ) (v : Value R) → out-Ty t ≡ Ty-F.Row n → IsOf world t v → IsRowOrNull n v
  row_value t n _ layer (is_scalar_value _ s fits) = no_row (ap value.Scalar (row_layer n s (subst (λ (u : Ty-F Ty). IsScalarOf u s) layer fits)))
  row_value t n _ layer (is_row _ m r is cells) =
      a_row r (subst (λ (k : ℕ). HasCells world k r) (same_Some m n (sym is ∙ ap row_table layer)) cells) refl
  row_value t n _ layer (is_sequence _ item xs e is items) = absurd (none-some item (ap item_of (sym layer) ∙ is))

  -- a value of a sequence's type is one of items of their type
  pub data IsSequence (item : Ty) (v : Value R) : Type 0 where
    a_sequence : (xs : List (Value R)) (e : End) → Every (IsOf world item) xs → v ≡ value.Seq xs e → IsSequence item v

  pub sequence_value : (t item : Ty) (v : Value R) → out-Ty t ≡ Ty-F.Seq item → IsOf world t v → IsSequence item v
  sequence_value t item _ layer (is_scalar_value _ s fits) = absurd (subst (λ (u : Ty-F Ty). IsScalarOf u s) layer fits)
  sequence_value t item _ layer (is_row _ n r is cells) = absurd (none-some n (ap row_table (sym layer) ∙ is))
  sequence_value t item _ layer (is_sequence _ found xs e is items) =
      a_sequence xs e (subst (λ (u : Ty). Every (IsOf world u) xs) (same_Some found item (sym is ∙ ap item_of layer)) items) refl
