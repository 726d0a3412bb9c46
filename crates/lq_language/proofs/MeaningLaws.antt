-- What is typed means the same in two worlds that differ only in the fault that is used where there is no meaning.
use Rattle.std.proofs.Common.{◌≡◌, ◌∷◌, if◌then◌else◌, List, [], map, ℕ, ℤ, Bool, true, false, not, Option, Some, None, Result, Ok, Err, ap, ap₂, ◌∙◌, sym, refl, subst, slice_get, codes, option_and_then, bytes_eq}
use Rattle.std.proofs.lemmas.Option.{none-some, same_Some}
use Rattle.std.specs.Prelude.{is_some}
use Rattle.lq_value.specs.declared.scalar.Scalar.{Scalar}
use Rattle.lq_value.specs.declared.scalar.Scalar.TheVariants as scalar
use Rattle.lq_value.specs.declared.table.Column.{Column}
use Rattle.lq_value.specs.declared.table.ColumnType.{ColumnType}
use Rattle.lq_value.specs.declared.table.Schema.{Schema}
use Rattle.lq_value.specs.declared.ty.Ty.{Ty, out-Ty}
use Rattle.lq_value.specs.declared.ty.Ty.TheOpen.{Ty-F}
use Rattle.lq_value.specs.declared.ty.Ty.TheVariants as ty
use Rattle.lq_value.specs.declared.ty.Ty.TheVariants.{outs-Bool, outs-Int, outs-IntN, outs-Null, outs-Row, outs-Seq, outs-Str}
use Rattle.lq_value.specs.declared.value.End.TheVariants as end
use Rattle.lq_value.specs.declared.value.Fault.{Fault}
use Rattle.lq_value.specs.declared.value.Fault.TheVariants as fault
use Rattle.lq_value.specs.declared.value.Value.{Value, out-Value}
use Rattle.lq_value.specs.declared.value.Value.TheOpen.{Value-F}
use Rattle.lq_value.specs.declared.value.Value.TheVariants as value
use Rattle.lq_value.specs.declared.value.Value.TheVariants.{outs-Row as outs-value-Row, outs-Scalar, outs-Seq as outs-value-Seq}
use Rattle.lq_language.specs.Worlds.{Scope, World, binding_of, known_predicates, names_at}
use Rattle.lq_language.specs.OperandMeaning.{cell_value, comparand, host_value, is_null, items_of, member_value, name_value, null_member, same_values, equality_truth, as_value, on_scalar, scalar_of, stream_of, table_value, truth_value}
use Rattle.lq_language.specs.RuleMeaning.{compared_meaning, rule_meaning, operated_meaning}
use Rattle.lq_language.specs.Operations.{negated, of_member, of_one, on_ok, truth_of}
use Rattle.lq_language.specs.HostNames.{are_int_columns, predicate_number}
use Rattle.lq_language.specs.Members.{IsSearch, member_named}
use Rattle.lq_language.specs.RuleMeaningLaws.{HasRuleMeaning}
use Rattle.lq_language.specs.ValuesOfTypes.{Every, HasCells, HaveTypes, HoldsRows, IsOf, is_scalar as is_scalar_value, is_row, is_sequence, IsOfScope, IsScalarOf, assuming}
use Rattle.lq_language.specs.Stream.{Stream}
use Rattle.lq_language.specs.Names.{Names, column_named, column_type, local_type, table_number, type_of_column}
use Rattle.lq_language.specs.OperandTypes.{are_comparable, are_joined, choice_type_of_layers, coalesced, is_comparison, is_equality, is_ordering, number_type, is_number, item_of, row_table}
use Rattle.lq_language.specs.RuleTyping.{of_integer, of_local, of_table, of_column, of_text, of_null, of_has_value, of_value, of_length, of_search, of_ordering, of_equality, of_arithmetic, of_joined, of_coalesced, of_minus, of_choice, of_truth, of_not, of_both, of_either, of_host, HasRuleType, rule_type}
use Rattle.lq_language.specs.TableRows.{cell_named}
use Rattle.lq_language.specs.declared.operation.Op.{Op}
use Rattle.lq_language.specs.declared.operation.Op.TheVariants as operation
use Rattle.lq_grammar.specs.declared.syntax.Argument.TheVariants as argument
use Rattle.lq_grammar.specs.declared.syntax.Binary.{Binary}
use Rattle.lq_grammar.specs.declared.syntax.Binary.TheVariants as binary
use Rattle.lq_grammar.specs.declared.syntax.Expr.{Expr}
use Rattle.lq_grammar.specs.declared.syntax.Expr.TheVariants as expr
use Rattle.lq_grammar.specs.declared.syntax.Node.TheVariants as node
use Rattle.lq_grammar.specs.declared.syntax.Picked.{Picked}
use Rattle.lq_grammar.specs.declared.syntax.Unary.TheVariants as unary
use Rattle.lq_language.proofs.HostMeaningLaws.{IsAnswered, answered, null_answered, refused, row_answered}
use Rattle.lq_language.proofs.ItemLaws.{every_map, every_none, has_binding, no_binding, table_there}
use Rattle.lq_language.proofs.FormLaws.{meaning_binary, meaning_both, meaning_coalesce, meaning_method, meaning_null, meaning_text, meaning_choice, meaning_either, meaning_host, meaning_integer, meaning_member, meaning_minus, meaning_name, meaning_not, meaning_truth}
use Rattle.lq_language.proofs.ScalarResultLaws.{arithmetic_of, Coalesces, Gives, HasScalars, Widens, chosen_widens, coalesced_fits, faults, given_of, gives, has_value_given, joined_given, joined_scalars, length_given, looked_for, minus_given, no_items_before, no_items_behind, number_scalars, ordering_given, search_given, signed, value_given}
use Rattle.lq_language.proofs.TypedValues.{IsRowOrNull, IsSequence, a_row, a_sequence, bool_value, comparand_there, decides_same, member_of_scalar, no_row, row_value, scalar_there, sequence_value, widened_value}
use Rattle.lq_language.proofs.TypingLaws.{type_complete}

-- ---- outcomes that are the same in both worlds

pub data IsSame {R : Type 0} (world : World R) (t : Ty) (m n : Result (Value R) Fault) : Type 0 where
  same_value : (v : Value R) → IsOf world t v → m ≡ Ok v → n ≡ Ok v → IsSame world t m n
  same_fault : (x : Fault) → m ≡ Err x → n ≡ Err x → IsSame world t m n

pub data AreScalars (t : Ty) (m n : Result Scalar Fault) : Type 0 where
  same_scalar : (s : Scalar) → IsScalarOf (out-Ty t) s → m ≡ Ok s → n ≡ Ok s → AreScalars t m n
  same_scalar_fault : (x : Fault) → m ≡ Err x → n ≡ Err x → AreScalars t m n

pub data AreTruths (m n : Result Bool Fault) : Type 0 where
  same_truth : (b : Bool) → m ≡ Ok b → n ≡ Ok b → AreTruths m n
  same_truth_fault : (x : Fault) → m ≡ Err x → n ≡ Err x → AreTruths m n

module _ {R : Type 0} (world : World R) (holds : HoldsRows world) (f g : Fault) where
  abbrev left : World R
  left = assuming f world

  abbrev right : World R
  right = assuming g world

  same_outcome : (t : Ty) (m n : Result (Value R) Fault) → IsSame world t m n → m ≡ n
  same_outcome t m n (same_value v fits h k) = h ∙ sym k
  same_outcome t m n (same_fault x h k) = h ∙ sym k

  of_its_type : (t : Ty) (m n : Result (Value R) Fault) → IsSame world t m n → (v : Value R) → m ≡ Ok v → IsOf world t v
  of_its_type t m n (same_value w fits h k) v is = let same : w ≡ v = cc in subst (IsOf world t) same fits
  of_its_type t m n (same_fault x h k) v is = absurd cc

  scalar_outcome : (t : Ty) (m n : Result (Value R) Fault) → IsSame world t m n → HasScalars (out-Ty t)
      → AreScalars t (on_ok m (λ v. scalar_of left (out-Value R v))) (on_ok n (λ v. scalar_of right (out-Value R v)))
  scalar_outcome t m n (same_value v fits h k) none =
      let found = scalar_there world t v none fits in
      same_scalar found.0 found.2
      (ap (λ (o : Result (Value R) Fault). on_ok o (λ w. scalar_of left (out-Value R w))) (h ∙ ap Ok found.1) ∙ ap (scalar_of left) (outs-Scalar found.0))
      (ap (λ (o : Result (Value R) Fault). on_ok o (λ w. scalar_of right (out-Value R w))) (k ∙ ap Ok found.1) ∙ ap (scalar_of right) (outs-Scalar found.0))
  scalar_outcome t m n (same_fault x h k) none =
      same_scalar_fault x (ap (λ (o : Result (Value R) Fault). on_ok o (λ w. scalar_of left (out-Value R w))) h)
      (ap (λ (o : Result (Value R) Fault). on_ok o (λ w. scalar_of right (out-Value R w))) k)

  truth_is_of : (b : Bool) → IsOf world ty.Bool (value.Scalar (scalar.Bool b))
  truth_is_of b = is_scalar_value ty.Bool (scalar.Bool b) (subst (λ (u : Ty-F Ty). IsScalarOf u (scalar.Bool b)) (sym outs-Bool) tt)

  -- what an operator gives, as a value
  given_outcome : (t : Ty) (o : Fault → Result Scalar Fault) → Gives (out-Ty t) o → IsSame world t (as_value (o f)) (as_value (o g))
  given_outcome t o (gives s fits is) = same_value (value.Scalar s) (is_scalar_value t s fits) (ap as_value (is f)) (ap as_value (is g))
  given_outcome t o (faults x is) = same_fault x (ap as_value (is f)) (ap as_value (is g))

  same_outcomes : (t : Ty) (m n k l : Result (Value R) Fault) → m ≡ k → n ≡ l → IsSame world t k l → IsSame world t m n
  same_outcomes t m n k l h i same = subst (λ (o : Result (Value R) Fault). IsSame world t o n) (sym h) (subst (λ (o : Result (Value R) Fault). IsSame world t k o) (sym i) same)

  -- what follows a scalar, by what it is
  after_scalar : (r t : Ty) (a b : Result Scalar Fault) → AreScalars t a b → (next more : Scalar → Result (Value R) Fault)
      → ((s : Scalar) → IsScalarOf (out-Ty t) s → IsSame world r (next s) (more s)) → IsSame world r (on_ok a next) (on_ok b more)
  after_scalar r t a b (same_scalar s fits h k) next more same =
      same_outcomes r _ _ _ _ (ap (λ (o : Result Scalar Fault). on_ok o next) h) (ap (λ (o : Result Scalar Fault). on_ok o more) k) (same s fits)
  after_scalar r t a b (same_scalar_fault x h k) next more same =
      same_fault x (ap (λ (o : Result Scalar Fault). on_ok o next) h) (ap (λ (o : Result Scalar Fault). on_ok o more) k)

  -- an operator on what its operands come to
  operands_outcome : (o : Scalar → Scalar → Fault → Result Scalar Fault) (r s t : Ty) → ((x y : Scalar) → IsScalarOf (out-Ty s) x → IsScalarOf (out-Ty t) y → Gives (out-Ty r) (o x y))
      → (a b c d : Result Scalar Fault) → AreScalars s a c → AreScalars t b d
      → IsSame world r (on_ok a (λ x. on_ok b (λ y. as_value (o x y f)))) (on_ok c (λ x. on_ok d (λ y. as_value (o x y g))))
  operands_outcome o r s t given a b c d first second =
      after_scalar r s a c first (λ x. on_ok b (λ y. as_value (o x y f))) (λ x. on_ok d (λ y. as_value (o x y g)))
      (λ x x_fits. after_scalar r t b d second (λ y. as_value (o x y f)) (λ y. as_value (o x y g)) (λ y y_fits. given_outcome r (o x y) (given x y x_fits y_fits)))

  negative_outcome : (t : Ty) → is_number (out-Ty t) ≡ true → (a c : Result Scalar Fault) → AreScalars t a c
      → IsSame world t (on_ok a (λ s. as_value (negated f s))) (on_ok c (λ s. as_value (negated g s)))
  negative_outcome t number a c same =
      after_scalar t t a c same (λ s. as_value (negated f s)) (λ s. as_value (negated g s))
      (λ s fits. given_outcome t (λ unknown. negated unknown s) (minus_given (out-Ty t) number s fits))

  -- what `==` compares, as it is of a value or a fault
  abbrev comparand_of : World R → Result (Value R) Fault → Result (Value-F R (Value R)) Fault
  comparand_of w m = on_ok m (λ v. comparand w (out-Value R v))

  pub data AreComparands (t : Ty) (m n : Result (Value-F R (Value R)) Fault) : Type 0 where
    same_comparand : (v : Value R) → IsOf world t v → m ≡ Ok (out-Value R v) → n ≡ Ok (out-Value R v) → AreComparands t m n
    same_comparand_fault : (x : Fault) → m ≡ Err x → n ≡ Err x → AreComparands t m n

  comparand_outcome : (t : Ty) (m n : Result (Value R) Fault) → ((item : Ty) → item_of (out-Ty t) ≡ Some item → ⊥) → IsSame world t m n
      → AreComparands t (comparand_of left m) (comparand_of right n)
  comparand_outcome t m n none (same_value v fits h k) =
      same_comparand v fits (ap (comparand_of left) h ∙ comparand_there world f t v none fits) (ap (comparand_of right) k ∙ comparand_there world g t v none fits)
  comparand_outcome t m n none (same_fault x h k) = same_comparand_fault x (ap (comparand_of left) h) (ap (comparand_of right) k)

  -- `==` on what its operands come to
  abbrev equality_of : World R → Binary → Result (Value-F R (Value R)) Fault → Result (Value-F R (Value R)) Fault → Result (Value R) Fault
  equality_of w op m k = on_ok m (λ v. on_ok k (λ x. on_ok (same_values w v x) (λ same. Ok (truth_value (equality_truth op same)))))

  equality_outcome : (op : Binary) (s t : Ty) → are_comparable (out-Ty s) (out-Ty t) ≡ true → (m n k l : Result (Value-F R (Value R)) Fault) → AreComparands s m n → AreComparands t k l
      → IsSame world ty.Bool (equality_of left op m k) (equality_of right op n l)
  equality_outcome op s t compares m n k l (same_comparand v fits h i) (same_comparand w more j p) =
      let decided = decides_same world s t v w compares fits more in
      same_value (truth_value (equality_truth op decided.0)) (truth_is_of (equality_truth op decided.0)) (ap₂ (equality_of left op) h j ∙ ap telling (decided.1 f)) (ap₂ (equality_of right op) i p ∙ ap telling (decided.1 g))
    where
      telling : Result Bool Fault → Result (Value R) Fault
      telling o = on_ok o (λ same. Ok (truth_value (equality_truth op same)))
  equality_outcome op s t compares m n k l (same_comparand v fits h i) (same_comparand_fault x j p) = same_fault x (ap₂ (equality_of left op) h j) (ap₂ (equality_of right op) i p)
  equality_outcome op s t compares m n k l (same_comparand_fault x h i) others =
      same_fault x (ap (λ (o : Result (Value-F R (Value R)) Fault). equality_of left op o k) h) (ap (λ (o : Result (Value-F R (Value R)) Fault). equality_of right op o l) i)

  condition_outcome : (m n : Result (Value R) Fault) → IsSame world ty.Bool m n → on_scalar left m (truth_of f) ≡ on_scalar right n (truth_of g)
  condition_outcome m n (same_value v fits h k) =
      let found = bool_value world ty.Bool v outs-Bool fits in
      ap (λ (o : Result (Value R) Fault). on_scalar left o (truth_of f)) (h ∙ ap Ok found.1) ∙ ap (λ layer. on_ok (scalar_of left layer) (truth_of f)) (outs-Scalar (scalar.Bool found.0))
      ∙ sym (ap (λ (o : Result (Value R) Fault). on_scalar right o (truth_of g)) (k ∙ ap Ok found.1) ∙ ap (λ layer. on_ok (scalar_of right layer) (truth_of g)) (outs-Scalar (scalar.Bool found.0)))
  condition_outcome m n (same_fault x h k) =
      ap (λ (o : Result (Value R) Fault). on_scalar left o (truth_of f)) h ∙ sym (ap (λ (o : Result (Value R) Fault). on_scalar right o (truth_of g)) k)

  -- a truth value that is the same in both worlds, or the same fault
  truth_outcome : (m n : Result (Value R) Fault) → IsSame world ty.Bool m n → AreTruths (on_scalar left m (truth_of f)) (on_scalar right n (truth_of g))
  truth_outcome m n (same_value v fits h k) =
      let found = bool_value world ty.Bool v outs-Bool fits in
      same_truth found.0
      (ap (λ (o : Result (Value R) Fault). on_scalar left o (truth_of f)) (h ∙ ap Ok found.1) ∙ ap (λ layer. on_ok (scalar_of left layer) (truth_of f)) (outs-Scalar (scalar.Bool found.0)))
      (ap (λ (o : Result (Value R) Fault). on_scalar right o (truth_of g)) (k ∙ ap Ok found.1) ∙ ap (λ layer. on_ok (scalar_of right layer) (truth_of g)) (outs-Scalar (scalar.Bool found.0)))
  truth_outcome m n (same_fault x h k) =
      same_truth_fault x (ap (λ (o : Result (Value R) Fault). on_scalar left o (truth_of f)) h) (ap (λ (o : Result (Value R) Fault). on_scalar right o (truth_of g)) k)

  -- what follows a truth value, by what it is
  after_truth : (t : Ty) (a b : Result Bool Fault) → AreTruths a b → (next more : Bool → Result (Value R) Fault) → ((c : Bool) → IsSame world t (next c) (more c))
      → IsSame world t (on_ok a next) (on_ok b more)
  after_truth t a b (same_truth c h k) next more same =
      subst (λ (o : Result Bool Fault). IsSame world t (on_ok o next) (on_ok b more)) (sym h)
      (subst (λ (o : Result Bool Fault). IsSame world t (next c) (on_ok o more)) (sym k) (same c))
  after_truth t a b (same_truth_fault x h k) next more same =
      same_fault x (ap (λ (o : Result Bool Fault). on_ok o next) h) (ap (λ (o : Result Bool Fault). on_ok o more) k)

  widened_outcome : (t r : Ty) (m n : Result (Value R) Fault) → IsSame world t m n → Widens (out-Ty t) (out-Ty r) → IsSame world r m n
  widened_outcome t r m n (same_value v fits h k) widens = same_value v (widened_value world t r v widens fits) h k
  widened_outcome t r m n (same_fault x h k) widens = same_fault x h k

  truth_is_same : (b : Bool) → IsSame world ty.Bool (Ok (truth_value b)) (Ok (truth_value b))
  truth_is_same b = same_value (truth_value b) (truth_is_of b) refl refl

  -- a member of what an expression of this type comes to
  abbrev member_of : World R → Ty → List ℕ → Result (Value R) Fault → Result (Value R) Fault
  member_of w t m o = on_ok o (λ v. member_value w (Some t) m (out-Value R v))

  -- a column of a row that is one, or is null
  column_outcome : (n : ℕ) (c : List ℕ) (t : Ty) → column_type world.schemas n c ≡ Some t → (m k : Result (Value R) Fault) → IsSame world (ty.Row n) m k
      → IsSame world t (member_of left (ty.Row n) c m) (member_of right (ty.Row n) c k)
  column_outcome n c t column m k (same_fault x h l) = same_fault x (ap (member_of left (ty.Row n) c) h) (ap (member_of right (ty.Row n) c) l)
  column_outcome n c t column m k (same_value v fits h l) = by (row_value world (ty.Row n) n v (outs-Row n) fits) where
    row : Ty
    row = ty.Row n

    null_faults : (w : World R) → as_value {R = R} (null_member w (Some row) c) ≡ Err fault.NullReference
    null_faults w = ap (λ layer. as_value {R = R} (if is_some (row_table layer) then Err fault.NullReference else of_member w.unknown (member_named c) scalar.Null)) (outs-Row n)

    by : IsRowOrNull world n v → IsSame world t (member_of left row c m) (member_of right row c k)
    by (a_row r cells is) =
        let cell = cells.1 c t column in
        same_value (value.Scalar cell.0) (is_scalar_value t cell.0 cell.2)
        (ap (member_of left row c) (h ∙ ap Ok is) ∙ ap (member_value left (Some row) c) (outs-value-Row r) ∙ ap (cell_value left) cell.1)
        (ap (member_of right row c) (l ∙ ap Ok is) ∙ ap (member_value right (Some row) c) (outs-value-Row r) ∙ ap (cell_value right) cell.1)
    by (no_row is) =
        same_fault fault.NullReference
        (ap (member_of left row c) (h ∙ ap Ok is) ∙ ap (member_value left (Some row) c) (outs-Scalar scalar.Null) ∙ null_faults left)
        (ap (member_of right row c) (l ∙ ap Ok is) ∙ ap (member_value right (Some row) c) (outs-Scalar scalar.Null) ∙ null_faults right)

  -- a member of a scalar
  member_outcome : (t r : Ty) (m : List ℕ) (o : Op) → HasScalars (out-Ty t) → member_named m ≡ Some o
      → ((s : Scalar) → IsScalarOf (out-Ty t) s → Gives (out-Ty r) (λ unknown. of_one unknown o s)) → (k l : Result (Value R) Fault) → IsSame world t k l
      → IsSame world r (member_of left t m k) (member_of right t m l)
  member_outcome t r m o none named given k l (same_fault x h i) = same_fault x (ap (member_of left t m) h) (ap (member_of right t m) i)
  member_outcome t r m o none named given k l (same_value v fits h i) =
      let s = scalar_there world t v none fits in
      same_outcomes r _ _ _ _ (come left s.0 k (h ∙ ap Ok s.1)) (come right s.0 l (i ∙ ap Ok s.1)) (given_outcome r (λ unknown. of_one unknown o s.0) (given s.0 s.2))
    where
      come : (w : World R) (s : Scalar) (k : Result (Value R) Fault) → k ≡ Ok (value.Scalar s) → member_of w t m k ≡ as_value (of_one w.unknown o s)
      come w s k is =
          ap (member_of w t m) is ∙ ap (member_value w (Some t) m) (outs-Scalar s) ∙ member_of_scalar world w t m s none ∙ ap (λ (p : Option Op). as_value (of_member w.unknown p s)) named

  -- what a host predicate answers about what an expression comes to
  abbrev host_of : World R → List ℕ → Picked → Result (Value R) Fault → Result (Value R) Fault
  host_of w p columns o = on_ok o (λ v. host_value w p columns (out-Value R v))

  answered_outcome : (p : List ℕ) (columns : Picked) (v : Value R) → IsAnswered world p columns v → (m l : Result (Value R) Fault) → m ≡ Ok v → l ≡ Ok v
      → IsSame world ty.Bool (host_of left p columns m) (host_of right p columns l)
  answered_outcome p columns v (answered b is) m l h i =
      same_value (truth_value b) (truth_is_of b) (ap (host_of left p columns) h ∙ is f) (ap (host_of right p columns) i ∙ is g)
  answered_outcome p columns v (refused x is) m l h i = same_fault x (ap (host_of left p columns) h ∙ is f) (ap (host_of right p columns) i ∙ is g)

  host_outcome : (p : List ℕ) (columns : Picked) (k n : ℕ) → predicate_number (known_predicates world.predicates) p columns ≡ Some k
      → are_int_columns world.schemas n columns ≡ true → (m l : Result (Value R) Fault) → IsSame world (ty.Row n) m l
      → IsSame world ty.Bool (host_of left p columns m) (host_of right p columns l)
  host_outcome p columns k n known ints m l (same_fault x h i) = same_fault x (ap (host_of left p columns) h) (ap (host_of right p columns) i)
  host_outcome p columns k n known ints m l (same_value v fits h i) = by (row_value world (ty.Row n) n v (outs-Row n) fits) where
    by : IsRowOrNull world n v → IsSame world ty.Bool (host_of left p columns m) (host_of right p columns l)
    by (a_row r cells is) = answered_outcome p columns (value.Row r) (row_answered world p columns k n r known ints cells) m l (h ∙ ap Ok is) (i ∙ ap Ok is)
    by (no_row is) = answered_outcome p columns (value.Scalar scalar.Null) (null_answered world p columns) m l (h ∙ ap Ok is) (i ∙ ap Ok is)

  table_outcome : (n : ℕ) (schema : Schema) → slice_get world.schemas n ≡ Some schema
      → IsSame world (ty.Seq (ty.Row n)) (table_value left (slice_get world.rows n)) (table_value right (slice_get world.rows n))
  table_outcome n schema is =
      let found = holds n schema is in
      same_value (value.Seq (map value.Row found.0) end.Done)
      (is_sequence (ty.Seq (ty.Row n)) (ty.Row n) (map value.Row found.0) end.Done (ap item_of (outs-Seq (ty.Row n)))
      (every_map (HasCells world n) (IsOf world (ty.Row n)) value.Row (λ r cells. is_row (ty.Row n) n r (ap row_table (outs-Row n)) cells) found.0 found.2))
      (ap (table_value left) found.1) (ap (table_value right) found.1)

  -- the stream that a sequence is enumerated as
  pub record AreSameItems (t : Ty) (xs ys : Stream (Value R)) : Type 0 where
    pub same : xs ≡ ys
    pub typed : Every (IsOf world t) xs.0

  source_outcome : (item : Ty) (m n : Result (Value R) Fault) → IsSame world (ty.Seq item) m n → AreSameItems item (stream_of left m) (stream_of right n)
  source_outcome item m n (same_fault x h k) = record {
    same = ap (stream_of left) h ∙ sym (ap (stream_of right) k);
    typed = subst (λ (s : Stream (Value R)). Every (IsOf world item) s.0) (sym (ap (stream_of left) h)) (every_none (IsOf world item));
  }
  source_outcome item m n (same_value v fits h k) = by (sequence_value world (ty.Seq item) item v (outs-Seq item) fits) where
    by : IsSequence world item v → AreSameItems item (stream_of left m) (stream_of right n)
    by (a_sequence xs e items is) =
        let of_left : stream_of left m ≡ (xs, e) = ap (stream_of left) (h ∙ ap Ok is) ∙ ap (items_of left) (outs-value-Seq xs e) in
        record {
          same = of_left ∙ sym (ap (stream_of right) (k ∙ ap Ok is) ∙ ap (items_of right) (outs-value-Seq xs e));
          typed = subst (λ (s : Stream (Value R)). Every (IsOf world item) s.0) (sym of_left) items;
        }

  -- ---- rule by rule

  -- a scope with these names, each with a value of its type
  abbrev At : Names → Scope R → Type 0
  At names scope = (names ≡ names_at world scope) × IsOfScope world scope

  -- an expression of this type means the same in both worlds
  abbrev Means : Names → Expr → Ty → Type 0
  Means names e t = (scope : Scope R) → At names scope → IsSame world t (rule_meaning left e scope) (rule_meaning right e scope)

  -- an expression that is this one
  same_as : (names : Names) (e d : Expr) (t : Ty) → e ≡ d → Means names d t → Means names e t
  same_as names e d t is means = subst (λ (x : Expr). Means names x t) (sym is) means

  means_integer : (names : Names) (n : ℤ) → Means names (expr.Node (node.Integer n)) ty.Int
  means_integer names n scope at =
      same_value (value.Scalar (scalar.Int n)) (is_scalar_value ty.Int (scalar.Int n) (subst (λ (u : Ty-F Ty). IsScalarOf u (scalar.Int n)) (sym outs-Int) tt))
      (meaning_integer left n scope) (meaning_integer right n scope)

  means_local : (names : Names) (x : List ℕ) (t : Ty) → local_type x names.locals ≡ Some t → Means names (expr.Node (node.Name x)) t
  means_local names x t found scope at =
      let b = has_binding world x scope t at.1 (ap (λ (m : Names). local_type x m.locals) (sym at.0) ∙ found) in
      same_value b.0.value b.2 (meaning_name left x scope ∙ ap (name_value left x) b.1) (meaning_name right x scope ∙ ap (name_value right x) b.1)

  means_table : (names : Names) (x : List ℕ) (n : ℕ) → local_type x names.locals ≡ None → table_number x names.tables ≡ Some n
      → Means names (expr.Node (node.Name x)) (ty.Seq (ty.Row n))
  means_table names x n hidden found scope at =
      let number : table_number x world.schemas ≡ Some n = ap (λ (m : Names). table_number x m.tables) (sym at.0) ∙ found in
      let none : binding_of x scope ≡ None = no_binding x scope (ap (λ (m : Names). local_type x m.locals) (sym at.0) ∙ hidden) in
      let table = table_there x world.schemas n number in
      same_outcomes (ty.Seq (ty.Row n)) _ _ _ _ (named left none number) (named right none number) (table_outcome n table.0 table.1)
    where
      named : (w : World R) → binding_of x scope ≡ None → table_number x w.schemas ≡ Some n → rule_meaning w (expr.Node (node.Name x)) scope ≡ table_value w (slice_get w.rows n)
      named w none number =
          meaning_name w x scope ∙ ap (name_value w x) none ∙ ap (λ (o : Option ℕ). table_value w (option_and_then (λ m. slice_get w.rows m) o)) number

  means_text : (names : Names) (x : List ℕ) → Means names (expr.Node (node.Text x)) ty.Str
  means_text names x scope at =
      same_value (value.Scalar (scalar.Text x)) (is_scalar_value ty.Str (scalar.Text x) (subst (λ (u : Ty-F Ty). IsScalarOf u (scalar.Text x)) (sym outs-Str) tt))
      (meaning_text left x scope) (meaning_text right x scope)

  means_null : (names : Names) → Means names (expr.Node node.Null) ty.Null
  means_null names scope at =
      same_value (value.Scalar scalar.Null) (is_scalar_value ty.Null scalar.Null (subst (λ (u : Ty-F Ty). IsScalarOf u scalar.Null) (sym outs-Null) tt))
      (meaning_null left scope) (meaning_null right scope)

  -- the type that an expression has under the names of a scope
  type_there : (names : Names) (e : Expr) (t : Ty) (scope : Scope R) → At names scope → rule_type e names ≡ Some t → rule_type e (names_at world scope) ≡ Some t
  type_there names e t scope at typed = ap (rule_type e) (sym at.0) ∙ typed

  -- a member of an operand of this type
  member_there : (w : World R) (names : Names) (a : Expr) (m : List ℕ) (t : Ty) (scope : Scope R) → rule_type a (names_at w scope) ≡ Some t
      → rule_meaning w (expr.Node (node.Member a m)) scope ≡ member_of w t m (rule_meaning w a scope)
  member_there w names a m t scope typed =
      meaning_member w a m scope ∙ ap (λ (o : Option Ty). on_ok (rule_meaning w a scope) (λ v. member_value w o m (out-Value R v))) typed

  means_column : (names : Names) (row : Expr) (c : List ℕ) (n : ℕ) (t : Ty) → column_type names.tables n c ≡ Some t → rule_type row names ≡ Some (ty.Row n)
      → Means names row (ty.Row n) → Means names (expr.Node (node.Member row c)) t
  means_column names row c n t found typed means scope at =
      let is = type_there names row (ty.Row n) scope at typed in
      same_outcomes t _ _ _ _ (member_there left names row c (ty.Row n) scope is) (member_there right names row c (ty.Row n) scope is)
      (column_outcome n c t (ap (λ (m : Names). column_type m.tables n c) (sym at.0) ∙ found) _ _ (means scope at))

  means_member : (names : Names) (a : Expr) (m : List ℕ) (o : Op) (t r : Ty) → HasScalars (out-Ty t) → member_named m ≡ Some o
      → ((s : Scalar) → IsScalarOf (out-Ty t) s → Gives (out-Ty r) (λ unknown. of_one unknown o s)) → rule_type a names ≡ Some t → Means names a t
      → Means names (expr.Node (node.Member a m)) r
  means_member names a m o t r none named given typed means scope at =
      let is = type_there names a t scope at typed in
      same_outcomes r _ _ _ _ (member_there left names a m t scope is) (member_there right names a m t scope is) (member_outcome t r m o none named given _ _ (means scope at))

  -- a member of an operand whose type has this layer, and which gives values of that layer
  means_named : (names : Names) (a : Expr) (m : List ℕ) (o : Op) (t r : Ty) (k l : Ty-F Ty) → out-Ty t ≡ k → out-Ty r ≡ l → HasScalars k → member_named m ≡ Some o
      → ((s : Scalar) → IsScalarOf k s → Gives l (λ unknown. of_one unknown o s)) → rule_type a names ≡ Some t → Means names a t
      → Means names (expr.Node (node.Member a m)) r
  means_named names a m o t r k l is result none named given =
      means_member names a m o t r (subst (λ (layer : Ty-F Ty). HasScalars layer) (sym is) none) named
      (λ s fits. given_of r l (λ unknown. of_one unknown o s) result (given s (subst (λ (layer : Ty-F Ty). IsScalarOf layer s) is fits)))

  means_search : (names : Names) (a b : Expr) (m : List ℕ) → IsSearch m → Means names a ty.Str → Means names b ty.Str
      → Means names (expr.Node (node.Method a m (argument.Value b ∷ []))) ty.Bool
  means_search names a b m searches a_means b_means scope at =
      same_outcomes ty.Bool _ _ _ _ (meaning_method left a m (argument.Value b ∷ []) scope) (meaning_method right a m (argument.Value b ∷ []) scope)
      (operands_outcome (looked_for m) ty.Bool ty.Str ty.Str given _ _ _ _ (scalar_outcome ty.Str _ _ (a_means scope at) texts) (scalar_outcome ty.Str _ _ (b_means scope at) texts))
    where
      texts : HasScalars (out-Ty ty.Str)
      texts = subst (λ (layer : Ty-F Ty). HasScalars layer) (sym outs-Str) (refl, refl)

      given : (x y : Scalar) → IsScalarOf (out-Ty ty.Str) x → IsScalarOf (out-Ty ty.Str) y → Gives (out-Ty ty.Bool) (looked_for m x y)
      given x y x_fits y_fits =
          given_of ty.Bool Ty-F.Bool (looked_for m x y) outs-Bool
          (search_given m searches x y (subst (λ (layer : Ty-F Ty). IsScalarOf layer x) outs-Str x_fits) (subst (λ (layer : Ty-F Ty). IsScalarOf layer y) outs-Str y_fits))

  -- a sign between two operands, by whether it is `==` or `!=`
  sign_there : (w : World R) (op : Binary) (a b : Expr) (scope : Scope R) (equal : Bool) → is_equality op ≡ equal
      → rule_meaning w (expr.Node (node.Binary op a b)) scope
      ≡ (if equal then compared_meaning w op (rule_meaning w a scope) (rule_meaning w b scope)
      else operated_meaning w op (rule_type a (names_at w scope)) (rule_type b (names_at w scope)) (rule_meaning w a scope) (rule_meaning w b scope))
  sign_there w op a b scope equal is =
      meaning_binary w op a b scope
      ∙ ap (λ (e : Bool). if e then compared_meaning w op (rule_meaning w a scope) (rule_meaning w b scope)
      else operated_meaning w op (rule_type a (names_at w scope)) (rule_type b (names_at w scope)) (rule_meaning w a scope) (rule_meaning w b scope)) is

  -- one that evaluates two scalars, by their types
  means_signed : (names : Names) (a b : Expr) (op : Binary) (r s t : Ty) → is_equality op ≡ false → HasScalars (out-Ty s) → HasScalars (out-Ty t)
      → ((x y : Scalar) → IsScalarOf (out-Ty s) x → IsScalarOf (out-Ty t) y → Gives (out-Ty r) (signed op s t x y))
      → rule_type a names ≡ Some s → rule_type b names ≡ Some t → Means names a s → Means names b t → Means names (expr.Node (node.Binary op a b)) r
  means_signed names a b op r s t no_equality s_none t_none given a_typed b_typed a_means b_means scope at =
      same_outcomes r _ _ _ _ (sign_there left op a b scope false no_equality ∙ typed left) (sign_there right op a b scope false no_equality ∙ typed right)
      (operands_outcome (signed op s t) r s t given _ _ _ _ (scalar_outcome s _ _ (a_means scope at) s_none) (scalar_outcome t _ _ (b_means scope at) t_none))
    where
      typed : (w : World R)
          → operated_meaning w op (rule_type a (names_at world scope)) (rule_type b (names_at world scope)) (rule_meaning w a scope) (rule_meaning w b scope)
          ≡ operated_meaning w op (Some s) (Some t) (rule_meaning w a scope) (rule_meaning w b scope)
      typed w =
          ap₂ (λ (o p : Option Ty). operated_meaning w op o p (rule_meaning w a scope) (rule_meaning w b scope)) (type_there names a s scope at a_typed) (type_there names b t scope at b_typed)

  means_ordering : (names : Names) (a b : Expr) (op : Binary) (s t : Ty) → is_ordering op ≡ true → is_number (out-Ty s) ≡ true → is_number (out-Ty t) ≡ true
      → rule_type a names ≡ Some s → rule_type b names ≡ Some t → Means names a s → Means names b t → Means names (expr.Node (node.Binary op a b)) ty.Bool
  means_ordering names a b op s t orders s_number t_number =
      means_signed names a b op ty.Bool s t (no_equality op orders) (number_scalars (out-Ty s) s_number) (number_scalars (out-Ty t) t_number)
      (λ x y x_fits y_fits. given_of ty.Bool Ty-F.Bool (signed op s t x y) outs-Bool (ordering_given op s t orders s_number t_number x y x_fits y_fits))
    where
      no_equality : (op : Binary) → is_ordering op ≡ true → is_equality op ≡ false
      no_equality binary.Equal orders = sym orders
      no_equality binary.NotEqual orders = sym orders
      no_equality op orders = refl

  means_arithmetic : (names : Names) (a b : Expr) (op : Binary) (s t : Ty) → is_comparison op ≡ false → is_number (out-Ty s) ≡ true → is_number (out-Ty t) ≡ true
      → rule_type a names ≡ Some s → rule_type b names ≡ Some t → Means names a s → Means names b t
      → Means names (expr.Node (node.Binary op a b)) (number_type (out-Ty s) (out-Ty t))
  means_arithmetic names a b op s t computes s_number t_number =
      means_signed names a b op (number_type (out-Ty s) (out-Ty t)) s t (no_equality op computes) (number_scalars (out-Ty s) s_number) (number_scalars (out-Ty t) t_number)
      (λ x y x_fits y_fits. arithmetic_of op s t computes s_number t_number x y x_fits y_fits)
    where
      no_equality : (op : Binary) → is_comparison op ≡ false → is_equality op ≡ false
      no_equality binary.Equal computes = computes
      no_equality binary.NotEqual computes = computes
      no_equality op computes = refl

  means_joined : (names : Names) (a b : Expr) (s t : Ty) → are_joined (out-Ty s) (out-Ty t) ≡ true → rule_type a names ≡ Some s → rule_type b names ≡ Some t
      → Means names a s → Means names b t → Means names (expr.Node (node.Binary binary.Add a b)) ty.Str
  means_joined names a b s t joins =
      let scalars = joined_scalars (out-Ty s) (out-Ty t) joins in
      means_signed names a b binary.Add ty.Str s t refl scalars.0 scalars.1
      (λ x y x_fits y_fits. given_of ty.Str Ty-F.Str (signed binary.Add s t x y) outs-Str (joined_given s t joins x y x_fits y_fits))

  means_equality : (names : Names) (a b : Expr) (op : Binary) (s t : Ty) → is_equality op ≡ true → are_comparable (out-Ty s) (out-Ty t) ≡ true
      → Means names a s → Means names b t → Means names (expr.Node (node.Binary op a b)) ty.Bool
  means_equality names a b op s t equality compares a_means b_means scope at =
      same_outcomes ty.Bool _ _ _ _ (sign_there left op a b scope true equality) (sign_there right op a b scope true equality)
      (equality_outcome op s t compares _ _ _ _ (comparand_outcome s _ _ (λ item. no_items_before (out-Ty s) (out-Ty t) item compares) (a_means scope at))
      (comparand_outcome t _ _ (λ item. no_items_behind (out-Ty s) (out-Ty t) item compares) (b_means scope at)))

  means_minus : (names : Names) (a : Expr) (t : Ty) → is_number (out-Ty t) ≡ true → Means names a t → Means names (expr.Node (node.Unary unary.Minus a)) t
  means_minus names a t number means scope at =
      same_outcomes t _ _ _ _ (meaning_minus left a scope) (meaning_minus right a scope) (negative_outcome t number _ _ (scalar_outcome t _ _ (means scope at) (number_scalars (out-Ty t) number)))

  means_truth : (names : Names) (b : Bool) → Means names (expr.Node (node.Bool b)) ty.Bool
  means_truth names b scope at = same_value (truth_value b) (truth_is_of b) (meaning_truth left b scope) (meaning_truth right b scope)

  means_not : (names : Names) (a : Expr) → Means names a ty.Bool → Means names (expr.Node (node.Unary unary.Not a)) ty.Bool
  means_not names a means scope at =
      same_outcomes ty.Bool _ _ _ _ (meaning_not left a scope) (meaning_not right a scope)
      (after_truth ty.Bool _ _ (truth_outcome _ _ (means scope at)) (λ t. Ok (truth_value (not t))) (λ t. Ok (truth_value (not t))) (λ t. truth_is_same (not t)))

  means_both : (names : Names) (a b : Expr) → Means names a ty.Bool → Means names b ty.Bool → Means names (expr.Node (node.And a b)) ty.Bool
  means_both names a b a_means b_means scope at =
      same_outcomes ty.Bool _ _ _ _ (meaning_both left a b scope) (meaning_both right a b scope)
      (after_truth ty.Bool _ _ (truth_outcome _ _ (a_means scope at)) _ _ second)
    where
      second : (t : Bool) → IsSame world ty.Bool (if t then rule_meaning left b scope else Ok (truth_value false)) (if t then rule_meaning right b scope else Ok (truth_value false))
      second true = b_means scope at
      second false = truth_is_same false

  means_either : (names : Names) (a b : Expr) → Means names a ty.Bool → Means names b ty.Bool → Means names (expr.Node (node.Or a b)) ty.Bool
  means_either names a b a_means b_means scope at =
      same_outcomes ty.Bool _ _ _ _ (meaning_either left a b scope) (meaning_either right a b scope)
      (after_truth ty.Bool _ _ (truth_outcome _ _ (a_means scope at)) _ _ second)
    where
      second : (t : Bool) → IsSame world ty.Bool (if t then Ok (truth_value true) else rule_meaning left b scope) (if t then Ok (truth_value true) else rule_meaning right b scope)
      second true = truth_is_same true
      second false = b_means scope at

  means_choice : (names : Names) (c a b : Expr) (s t r : Ty) → choice_type_of_layers (out-Ty s) (out-Ty t) ≡ Some r → Means names c ty.Bool → Means names a s → Means names b t
      → Means names (expr.Node (node.Conditional c a b)) r
  means_choice names c a b s t r chooses c_means a_means b_means scope at =
      same_outcomes r _ _ _ _ (meaning_choice left c a b scope) (meaning_choice right c a b scope)
      (after_truth r _ _ (truth_outcome _ _ (c_means scope at)) _ _ one_of)
    where
      one_of : (x : Bool) → IsSame world r (if x then rule_meaning left a scope else rule_meaning left b scope) (if x then rule_meaning right a scope else rule_meaning right b scope)
      one_of true = widened_outcome s r _ _ (a_means scope at) (chosen_widens (out-Ty s) (out-Ty t) r chooses).0
      one_of false = widened_outcome t r _ _ (b_means scope at) (chosen_widens (out-Ty s) (out-Ty t) r chooses).1

  means_coalesced : (names : Names) (a b : Expr) (s t r : Ty) → coalesced (out-Ty s) (out-Ty t) ≡ Some r → Means names a s → Means names b t
      → Means names (expr.Node (node.Coalesce a b)) r
  means_coalesced names a b s t r coalesces a_means b_means scope at =
      same_outcomes r _ _ _ _ (meaning_coalesce left a b scope) (meaning_coalesce right a b scope)
      (after_scalar r s _ _ (scalar_outcome s _ _ (a_means scope at) fitting.0) _ _ (λ x fits. one_of x fits (is_null x) refl))
    where
      fitting : Coalesces (out-Ty s) (out-Ty t) r
      fitting = coalesced_fits (out-Ty s) (out-Ty t) r coalesces

      one_of : (x : Scalar) → IsScalarOf (out-Ty s) x → (n : Bool) → is_null x ≡ n
          → IsSame world r (if n then rule_meaning left b scope else Ok (value.Scalar x)) (if n then rule_meaning right b scope else Ok (value.Scalar x))
      one_of x fits true is = widened_outcome t r _ _ (b_means scope at) fitting.1.1
      one_of x fits false is = same_value (value.Scalar x) (is_scalar_value r x (fitting.1.0 x fits is)) refl refl

  means_host : (names : Names) (p : List ℕ) (row : Expr) (columns : Picked) (k n : ℕ) → predicate_number names.predicates p columns ≡ Some k
      → are_int_columns names.tables n columns ≡ true → Means names row (ty.Row n) → Means names (expr.Node (node.Host p row columns)) ty.Bool
  means_host names p row columns k n known ints means scope at =
      same_outcomes ty.Bool _ _ _ _ (meaning_host left p row columns scope) (meaning_host right p row columns scope)
      (host_outcome p columns k n (ap (λ (m : Names). predicate_number m.predicates p columns) (sym at.0) ∙ known)
      (ap (λ (m : Names). are_int_columns m.tables n columns) (sym at.0) ∙ ints) _ _ (means scope at))

  means : {names : Names} {e : Expr} {t : Ty} → HasRuleType names e t → Means names e t
  means (of_integer names e n is) = same_as names e (expr.Node (node.Integer n)) ty.Int is (means_integer names n)
  means (of_local names e x t is found) = same_as names e (expr.Node (node.Name x)) t is (means_local names x t found)
  means (of_table names e x n is hidden found) = same_as names e (expr.Node (node.Name x)) (ty.Seq (ty.Row n)) is (means_table names x n hidden found)
  means (of_column names e row c n t is typed found) = same_as names e (expr.Node (node.Member row c)) t is (means_column names row c n t found (type_complete names typed) (means typed))
  means (of_text names e x is) = same_as names e (expr.Node (node.Text x)) ty.Str is (means_text names x)
  means (of_null names e is) = same_as names e (expr.Node node.Null) ty.Null is (means_null names)
  means (of_has_value names e a is typed) =
      same_as names e (expr.Node (node.Member a (codes "HasValue"))) ty.Bool is
      (means_named names a (codes "HasValue") operation.HasValue ty.IntN ty.Bool Ty-F.IntN Ty-F.Bool outs-IntN outs-Bool (refl, refl) refl has_value_given (type_complete names typed) (means typed))
  means (of_value names e a is typed) =
      same_as names e (expr.Node (node.Member a (codes "Value"))) ty.Int is
      (means_named names a (codes "Value") operation.Value ty.IntN ty.Int Ty-F.IntN Ty-F.Int outs-IntN outs-Int (refl, refl) refl value_given (type_complete names typed) (means typed))
  means (of_length names e a is typed) =
      same_as names e (expr.Node (node.Member a (codes "Length"))) ty.Int is
      (means_named names a (codes "Length") operation.Length ty.Str ty.Int Ty-F.Str Ty-F.Int outs-Str outs-Int (refl, refl) refl length_given (type_complete names typed) (means typed))
  means (of_search names e a b m is searches a_typed b_typed) =
      same_as names e (expr.Node (node.Method a m (argument.Value b ∷ []))) ty.Bool is (means_search names a b m searches (means a_typed) (means b_typed))
  means (of_ordering names e a b op s t is orders a_typed s_number b_typed t_number) =
      same_as names e (expr.Node (node.Binary op a b)) ty.Bool is
      (means_ordering names a b op s t orders s_number t_number (type_complete names a_typed) (type_complete names b_typed) (means a_typed) (means b_typed))
  means (of_equality names e a b op s t is equality a_typed b_typed compares) =
      same_as names e (expr.Node (node.Binary op a b)) ty.Bool is (means_equality names a b op s t equality compares (means a_typed) (means b_typed))
  means (of_arithmetic names e a b op s t is computes a_typed s_number b_typed t_number) =
      same_as names e (expr.Node (node.Binary op a b)) (number_type (out-Ty s) (out-Ty t)) is
      (means_arithmetic names a b op s t computes s_number t_number (type_complete names a_typed) (type_complete names b_typed) (means a_typed) (means b_typed))
  means (of_joined names e a b s t is a_typed b_typed joins) =
      same_as names e (expr.Node (node.Binary binary.Add a b)) ty.Str is
      (means_joined names a b s t joins (type_complete names a_typed) (type_complete names b_typed) (means a_typed) (means b_typed))
  means (of_coalesced names e a b s t r is a_typed b_typed coalesces) =
      same_as names e (expr.Node (node.Coalesce a b)) r is (means_coalesced names a b s t r coalesces (means a_typed) (means b_typed))
  means (of_minus names e a t is typed number) = same_as names e (expr.Node (node.Unary unary.Minus a)) t is (means_minus names a t number (means typed))
  means (of_choice names e c a b s t r is c_typed a_typed b_typed chooses) =
      same_as names e (expr.Node (node.Conditional c a b)) r is (means_choice names c a b s t r chooses (means c_typed) (means a_typed) (means b_typed))
  means (of_host names e row p columns k n is known typed ints) =
      same_as names e (expr.Node (node.Host p row columns)) ty.Bool is (means_host names p row columns k n known ints (means typed))
  means (of_truth names e b is) = same_as names e (expr.Node (node.Bool b)) ty.Bool is (means_truth names b)
  means (of_not names e a is typed) = same_as names e (expr.Node (node.Unary unary.Not a)) ty.Bool is (means_not names a (means typed))
  means (of_both names e a b is a_typed b_typed) = same_as names e (expr.Node (node.And a b)) ty.Bool is (means_both names a b (means a_typed) (means b_typed))
  means (of_either names e a b is a_typed b_typed) = same_as names e (expr.Node (node.Or a b)) ty.Bool is (means_either names a b (means a_typed) (means b_typed))

-- what a typed expression means, if it is a value, is one of its type
pub value_of_type : {R : Type 0} (world : World R) → HoldsRows world → (f : Fault) (names : Names) (e : Expr) (t : Ty) → HasRuleType names e t → (scope : Scope R) → names ≡ names_at world scope
    → IsOfScope world scope → (v : Value R) → rule_meaning (assuming f world) e scope ≡ Ok v → IsOf world t v
value_of_type world holds f names e t typed scope at fits = of_its_type world holds f f t _ _ (means world holds f f typed scope (at, fits))

-- ---- the laws

pub has_meaning : HasRuleMeaning
has_meaning world holds scope fits e t typed f g =
    let same = means world holds f g typed scope (refl, fits) in (same_outcome world holds f g t _ _ same, of_its_type world holds f g t _ _ same)

-- ---- the cell under a column

cell_by : (c : List ℕ) (column : Column) (rest : Option Column) (rest_cell : Option Scalar) (cell : Scalar) (t : ColumnType)
    → IsScalarOf (out-Ty (type_of_column column.ty)) cell
    → ((found : Column) → rest ≡ Some found → (s : Scalar) × (rest_cell ≡ Some s) × IsScalarOf (out-Ty (type_of_column found.ty)) s)
    → (b : Bool) (found : Column) → (if b then Some column else rest) ≡ Some found
    → (s : Scalar) × ((if b then Some cell else rest_cell) ≡ Some s) × IsScalarOf (out-Ty (type_of_column found.ty)) s
cell_by c column rest rest_cell cell t fits others true found h =
    (cell, refl, subst (λ (d : Column). IsScalarOf (out-Ty (type_of_column d.ty)) cell) (same_Some column found h) fits)
cell_by c column rest rest_cell cell t fits others false found h = others found h

-- the cell under a column that is there
pub cell_there : (columns : List Column) (cells : List Scalar) → HaveTypes columns cells → (c : List ℕ) (found : Column) → column_named c columns ≡ Some found
    → (s : Scalar) × (cell_named (map (λ column. column.name) columns) cells c ≡ Some s) × IsScalarOf (out-Ty (type_of_column found.ty)) s
cell_there [] cells fit c found h = absurd (none-some found h)
cell_there (column ∷ columns) [] fit c found h = absurd fit
cell_there (column ∷ columns) (cell ∷ cells) fit c found h =
    cell_by c column (column_named c columns) (cell_named (map (λ d. d.name) columns) cells c) cell column.ty fit.0 (λ d is. cell_there columns cells fit.1 c d is) (bytes_eq column.name c) found h
