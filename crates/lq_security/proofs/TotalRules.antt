-- A typed total rule has a truth value on every row.
use Rattle.std.proofs.Common.{◌≡◌, ◌∷◌, ◌&&◌, if◌then◌else◌, List, [], map, ℕ, zero, suc, ℤ, pos, neg_ℤ, Bool, true, false, not, true≢false, Option, Some, None, Result, Ok, Err, codes, bytes_eq, ap, ap₂, ◌∙◌, sym, refl, subst, arith, option_and_then, option_map, int_le, int_lt, w32}
use Rattle.std.proofs.Math.Dec.{lt→ltb}
use Rattle.std.proofs.lemmas.Bool.{and_parts, le-leb, leb-true}
use Rattle.std.proofs.lemmas.Bool.Decides.{Decides-int_eq}
use Rattle.std.proofs.lemmas.Int.{fits_signed_from_abs, quot_fits, rem_below}
use Rattle.std.proofs.lemmas.Option.{none-some, same_Some}
use Rattle.std.specs.List.{list_all}
use Rattle.std.specs.Ordering.{int_eq}
use Rattle.std.specs.Prelude.{int_div, int_rem, is_some, unsigned_abs}
use Rattle.lq_language.proofs.IntLaws.{fit_is, is_fit}
use Rattle.lq_value.specs.declared.scalar.Scalar.{Scalar}
use Rattle.lq_value.specs.declared.scalar.Scalar.TheVariants as scalar
use Rattle.lq_value.specs.declared.table.Column.{Column}
use Rattle.lq_value.specs.declared.ty.Ty.{Ty, out-Ty}
use Rattle.lq_value.specs.declared.ty.Ty.TheOpen.{Ty-F}
use Rattle.lq_value.specs.declared.ty.Ty.TheVariants as ty
use Rattle.lq_value.specs.declared.ty.Ty.TheVariants.{outs-Bool, outs-Int, outs-IntN, outs-Null, outs-Row, outs-Str}
use Rattle.lq_value.specs.declared.value.Fault.{Fault}
use Rattle.lq_value.specs.declared.value.Fault.TheVariants as fault
use Rattle.lq_value.specs.declared.value.Value.{Value, out-Value}
use Rattle.lq_value.specs.declared.value.Value.TheOpen.{Value-F}
use Rattle.lq_value.specs.declared.value.Value.TheVariants as value
use Rattle.lq_value.specs.declared.value.Value.TheVariants.{outs-Row as outs-value-Row, outs-Scalar}
use Rattle.lq_language.specs.Worlds.{Scope, World, names_at}
use Rattle.lq_language.specs.OperandMeaning.{as_value, cell_value, comparand, is_null, is_row_type, member_value, on_comparand, on_scalar, on_truth, operation_on, scalar_of, equality_truth, truth_value}
use Rattle.lq_language.specs.RuleMeaning.{compared_meaning, rule_meaning, operated_meaning}
use Rattle.lq_language.specs.ValuesOfTypes.{HaveTypes, IsScalarOf}
use Rattle.lq_language.specs.Members.{IsSearch, contains, ends, is_search, member_named, search_named, starts}
use Rattle.lq_language.specs.OperationLaws.{IsNumber}
use Rattle.lq_language.specs.Operations.{begins_with, checked, divided, ends_in, has_in, is_int, left_over, negated, of_member, of_search, of_two, on_ok, truth, truth_of}
use Rattle.lq_security.specs.Totality.{Claim, Holds, Sure, Total, is_division, sure_coalesce, sure_conditional, sure_text, sure_user, total_and, total_coalesce, total_column, total_comparison, total_conditional, total_division, total_has_value, total_integer, total_minus, total_not, total_null, total_or, total_search, total_text, total_truth, total_user}
use Rattle.lq_security.specs.TotalityLaws.{DecidesRules, is_held, is_held_rule, is_held_step, rule_names}
use Rattle.lq_language.specs.Names.{Names, column_named, column_type, type_of_column}
use Rattle.lq_language.specs.OperandTypes.{are_comparable, choice_type_of_layers, choice_type, coalesced, if_number, is_bool_type, is_comparison, is_equality, is_number, is_ordering, is_text_type, joined_type, member_type, number_type, of_operands, operated_type, result_type, row_table, truth_type}
use Rattle.lq_language.specs.RuleTyping.{rule_type}
use Rattle.lq_language.specs.TableRows.{cell_named}
use Rattle.lq_security.specs.Visible.{rule_scope, rule_world}
use Rattle.lq_grammar.specs.declared.syntax.Argument.TheVariants as argument
use Rattle.lq_grammar.specs.declared.syntax.Binary.{Binary}
use Rattle.lq_grammar.specs.declared.syntax.Binary.TheVariants as binary
use Rattle.lq_grammar.specs.declared.syntax.Expr.{Expr, fold_out-Expr, map-Expr}
use Rattle.lq_grammar.specs.declared.syntax.Expr.TheOpen.{Expr-F}
use Rattle.lq_grammar.specs.declared.syntax.Expr.TheVariants as expr
use Rattle.lq_grammar.specs.declared.syntax.Expr.TheVariants.{outs-Node}
use Rattle.lq_grammar.specs.declared.syntax.Node.{Node}
use Rattle.lq_grammar.specs.declared.syntax.Node.TheVariants as node
use Rattle.lq_grammar.specs.declared.syntax.Unary.TheVariants as unary
use Rattle.lq_language.proofs.FormLaws.{meaning_binary, meaning_both, meaning_choice, meaning_coalesce, meaning_either, meaning_integer, meaning_member, meaning_method, meaning_minus, meaning_name, meaning_not, meaning_null, meaning_text, meaning_truth, type_binary, type_both, type_choice, type_coalesce, type_either, type_integer, type_member, type_method, type_minus, type_name, type_not, type_null, type_text, type_truth}
use Rattle.lq_language.proofs.MeaningLaws.{cell_there}
use Rattle.lq_security.proofs.RuleTypeLaws.{total_no_row}
use Rattle.lq_language.proofs.ScalarResultLaws.{Coalesces, bool_layer, chosen_widens, coalesced_fits, comparable_same, number_layer, number_there, numbers_ordered}
use Rattle.lq_language.proofs.TypingLaws.{is_text_of, is_truth, type_complete}

-- ---- ints

-- an int of 0 or more has a negative
negative_int : (n : ℕ) → is_int (pos n) ≡ true → is_int (neg_ℤ (pos n)) ≡ true
negative_int zero h = refl
negative_int (suc n) h = ap (λ b. b && true) (le-leb n 2147483647 (omega (arith, leb-true (suc n) 2147483647 h)))

-- division by an int above 0 gives an int
quotient_int : (m : ℤ) (n : ℕ) → is_int m ≡ true → is_int (int_div m (pos (suc n))) ≡ true
quotient_int m n h = fit_is (int_div m (pos (suc n))) (quot_fits w32 m (pos (suc n)) (is_fit m h) (record { lt = lt→ltb 0 (suc n) (omega arith) }))

remainder_int : (m : ℤ) (n : ℕ) → is_int (pos (suc n)) ≡ true → is_int (int_rem m (pos (suc n))) ≡ true
remainder_int m n h =
    fit_is (int_rem m (pos (suc n)))
    (fits_signed_from_abs w32 (int_rem m (pos (suc n))) (omega (arith, rem_below m (pos (suc n)) (omega arith), leb-true (suc n) 2147483647 h)))

checked_int : (z : ℤ) → is_int z ≡ true → checked z ≡ Ok (scalar.Int z)
checked_int z h = ap (λ (b : Bool). if b then Ok (scalar.Int z) else Err fault.Overflow) h

abbrev GivesInt : Result Scalar Fault → Type 0
GivesInt o = (q : ℤ) × (o ≡ Ok (scalar.Int q)) × (is_int q ≡ true)

above_zero : (n : ℕ) → int_eq (pos (suc n)) (pos 0) ≡ false
above_zero n = by (int_eq (pos (suc n)) (pos 0)) refl where
  by : (b : Bool) → int_eq (pos (suc n)) (pos 0) ≡ b → b ≡ false
  by true is = absurd (let none : suc n ≡ 0 = ap unsigned_abs ((Decides-int_eq (pos (suc n)) (pos 0)).0 is) in omega (arith, none))
  by false is = refl

divided_int : (m : ℤ) (n : ℕ) → is_int m ≡ true → GivesInt (divided m (pos (suc n)))
divided_int m n h = (
  int_div m (pos (suc n)),
  ap (λ (b : Bool). if b then Err fault.DivideByZero else checked (int_div m (pos (suc n)))) (above_zero n)
      ∙ checked_int (int_div m (pos (suc n))) (quotient_int m n h),
  quotient_int m n h,
)

left_over_int : (m : ℤ) (n : ℕ) → is_int m ≡ true → is_int (pos (suc n)) ≡ true → GivesInt (left_over m (pos (suc n)))
left_over_int m n h k = (
  int_rem m (pos (suc n)),
  ap (λ (b : Bool). if b then Err fault.DivideByZero else after (checked (int_div m (pos (suc n))))) (above_zero n)
      ∙ ap after (checked_int (int_div m (pos (suc n))) (quotient_int m n h)),
  remainder_int m n k,
) where
  after : Result Scalar Fault → Result Scalar Fault
  after o = on_ok o (λ quotient. Ok (scalar.Int (int_rem m (pos (suc n)))))

-- ---- what is typed has operands that are

-- of truth values
truth_typed : (b : Bool) (t : Ty) → truth_type b ≡ Some t → (b ≡ true) × (ty.Bool ≡ t)
truth_typed true t h = (refl, same_Some ty.Bool t h)
truth_typed false t h = absurd (none-some t h)

bool_typed : (o : Option Ty) → is_bool_type o ≡ true → o ≡ Some ty.Bool
bool_typed None h = absurd (true≢false (sym h))
bool_typed (Some t) h = ap Some (is_truth t h)

text_typed : (o : Option Ty) → is_text_type o ≡ true → o ≡ Some ty.Str
text_typed None h = absurd (true≢false (sym h))
text_typed (Some t) h = ap Some (is_text_of t h)

choice_typed : (c : Bool) (o p : Option Ty) (r : Ty) → choice_type c o p ≡ Some r → (c ≡ true) × (of_operands choice_type_of_layers o p ≡ Some r)
choice_typed false o p r h = absurd (none-some r h)
choice_typed true o p r h = (refl, h)

-- operands that a sign other than `==` takes, which joins no texts
abbrev IsComputed : Binary → Ty-F Ty → Ty-F Ty → Ty → Type 0
IsComputed op k l r = (is_number k ≡ true) × (is_number l ≡ true) × (result_type op k l ≡ r)

computed_typed : (op : Binary) (k l : Ty-F Ty) (r : Ty) → is_equality op ≡ false → joined_type op k l ≡ None → operated_type op k l ≡ Some r → IsComputed op k l r
computed_typed op k l r other joins h =
    by (is_number k && is_number l) refl (sym (ap (λ (e : Bool). if e then truth_type (are_comparable k l) else (if is_number k && is_number l then Some (result_type op k l) else joined_type op k l)) other) ∙ h)
  where
    by : (b : Bool) → (is_number k && is_number l) ≡ b → (if b then Some (result_type op k l) else joined_type op k l) ≡ Some r → IsComputed op k l r
    by true are g = let parts = and_parts (is_number k) (is_number l) are in (parts.0, parts.1, same_Some (result_type op k l) r g)
    by false are g = absurd (none-some r (sym joins ∙ g))

-- a sign that compares
orders_else : (op : Binary) → is_comparison op ≡ true → is_equality op ≡ false → (is_ordering op ≡ true) × ((k l : Ty-F Ty) → joined_type op k l ≡ None)
orders_else binary.Less h other = (refl, λ k l. refl)
orders_else binary.Greater h other = (refl, λ k l. refl)
orders_else binary.LessOrEqual h other = (refl, λ k l. refl)
orders_else binary.GreaterOrEqual h other = (refl, λ k l. refl)
orders_else binary.Equal h other = absurd (true≢false other)
orders_else binary.NotEqual h other = absurd (true≢false other)
orders_else op h other = absurd (true≢false (sym h))

-- ---- what is claimed of scalars

abbrev IsHeld : Scalar → Type 0
IsHeld s = is_held s ≡ true

abbrev IsText : Scalar → Type 0
IsText s = (x : List ℕ) × (s ≡ scalar.Text x)

-- this int, which 32 bits hold
abbrev IsInt : ℤ → Scalar → Type 0
IsInt n s = (s ≡ scalar.Int n) × (is_int n ≡ true)

text_held : (s : Scalar) → IsText s → IsHeld s
text_held s text = ap is_held text.1

int_held : (n : ℤ) (s : Scalar) → IsInt n s → IsHeld s
int_held n s int = ap is_held int.0 ∙ int.1

-- ---- operators

-- a sign that asks for the order of its operands
abbrev GivesTruth : (Fault → Result Scalar Fault) → Type 0
GivesTruth o = (b : Bool) × ((unknown : Fault) → o unknown ≡ Ok (scalar.Bool b))

ordered_truth : (op : Binary) → is_ordering op ≡ true → (o p : Option Ty) (x y : Scalar) → IsNumber x → IsNumber y
    → GivesTruth (λ unknown. of_two unknown (operation_on op o p x y) x y)
ordered_truth binary.Less h o p x y a b = let decided = numbers_ordered int_lt x y a b in (decided.0, λ unknown. ap (truth unknown) (decided.1 unknown))
ordered_truth binary.Greater h o p x y a b = let decided = numbers_ordered int_lt y x b a in (decided.0, λ unknown. ap (truth unknown) (decided.1 unknown))
ordered_truth binary.LessOrEqual h o p x y a b = let decided = numbers_ordered int_le x y a b in (decided.0, λ unknown. ap (truth unknown) (decided.1 unknown))
ordered_truth binary.GreaterOrEqual h o p x y a b = let decided = numbers_ordered int_le y x b a in (decided.0, λ unknown. ap (truth unknown) (decided.1 unknown))
ordered_truth op h o p x y a b = absurd (true≢false (sym h))

search_truth : (m : List ℕ) → IsSearch m → (s t : Scalar) → IsText s → IsText t → GivesTruth (λ unknown. of_search unknown (search_named m) s t)
search_truth m looks s t (x, s_is) (y, t_is) =
    let found = by looks in (found.0, λ unknown. ap₂ (of_search unknown (search_named m)) s_is t_is ∙ found.1 unknown)
  where
    by : IsSearch m → GivesTruth (λ unknown. of_search unknown (search_named m) (scalar.Text x) (scalar.Text y))
    by (starts is) = (begins_with x y, λ unknown. ap (λ (k : List ℕ). of_search unknown (search_named k) (scalar.Text x) (scalar.Text y)) is)
    by (ends is) = (ends_in x y, λ unknown. ap (λ (k : List ℕ). of_search unknown (search_named k) (scalar.Text x) (scalar.Text y)) is)
    by (contains is) = (has_in x y, λ unknown. ap (λ (k : List ℕ). of_search unknown (search_named k) (scalar.Text x) (scalar.Text y)) is)

-- a scalar of a layer, which an operator gives
record Gets (layer : Ty-F Ty) (o : Result Scalar Fault) : Type 0 where
  pub scalar : Scalar
  pub is : o ≡ Ok scalar
  pub fits : IsScalarOf layer scalar
  pub held : is_held scalar ≡ true

-- division by a literal above 0; null gives null
abbrev quotient_of : Fault → Binary → Option Ty → Option Ty → Scalar → ℕ → Result Scalar Fault
quotient_of unknown op o p x n = of_two unknown (operation_on op o p x (scalar.Int (pos (suc n)))) x (scalar.Int (pos (suc n)))

int_quotient : (unknown : Fault) (op : Binary) → is_division op ≡ true → (o p : Option Ty) (m : ℤ) (n : ℕ) → is_int m ≡ true → is_int (pos (suc n)) ≡ true
    → GivesInt (quotient_of unknown op o p (scalar.Int m) n)
int_quotient unknown binary.Divide h o p m n a b = divided_int m n a
int_quotient unknown binary.Remainder h o p m n a b = left_over_int m n a b
int_quotient unknown op h o p m n a b = absurd (true≢false (sym h))

null_quotient : (unknown : Fault) (op : Binary) → is_division op ≡ true → (o p : Option Ty) (n : ℕ) → quotient_of unknown op o p scalar.Null n ≡ Ok scalar.Null
null_quotient unknown binary.Divide h o p n = refl
null_quotient unknown binary.Remainder h o p n = refl
null_quotient unknown op h o p n = absurd (true≢false (sym h))

got_int : (layer : Ty-F Ty) (o : Result Scalar Fault) → ((q : ℤ) → IsScalarOf layer (scalar.Int q)) → GivesInt o → Gets layer o
got_int layer o fits gives = record { scalar = scalar.Int gives.0; is = gives.1; fits = fits gives.0; held = gives.2 }

quotient_there : (unknown : Fault) (op : Binary) → is_division op ≡ true → (o p : Option Ty) (k : Ty-F Ty) (n : ℕ) (x : Scalar) → is_number k ≡ true → IsScalarOf k x
    → is_held x ≡ true → is_int (pos (suc n)) ≡ true → Gets (out-Ty (number_type k Ty-F.Int)) (quotient_of unknown op o p x n)
quotient_there unknown op h o p Ty-F.Int n (scalar.Int m) number fits held literal =
    subst (λ (l : Ty-F Ty). Gets l (quotient_of unknown op o p (scalar.Int m) n)) (sym outs-Int) (got_int Ty-F.Int _ (λ q. tt) (int_quotient unknown op h o p m n held literal))
quotient_there unknown op h o p Ty-F.Int n x number fits held literal = absurd fits
quotient_there unknown op h o p Ty-F.IntN n (scalar.Int m) number fits held literal =
    subst (λ (l : Ty-F Ty). Gets l (quotient_of unknown op o p (scalar.Int m) n)) (sym outs-IntN) (got_int Ty-F.IntN _ (λ q. tt) (int_quotient unknown op h o p m n held literal))
quotient_there unknown op h o p Ty-F.IntN n scalar.Null number fits held literal =
    subst (λ (l : Ty-F Ty). Gets l (quotient_of unknown op o p scalar.Null n)) (sym outs-IntN)
    (record { scalar = scalar.Null; is = null_quotient unknown op h o p n; fits = tt; held = refl })
quotient_there unknown op h o p Ty-F.IntN n x number fits held literal = absurd fits
quotient_there unknown op h o p k n x number fits held literal = absurd (true≢false (sym number))

divides_alone : (op : Binary) → is_division op ≡ true → (is_equality op ≡ false) × (is_ordering op ≡ false) × ((k l : Ty-F Ty) → joined_type op k l ≡ None)
divides_alone binary.Divide h = (refl, refl, λ k l. refl)
divides_alone binary.Remainder h = (refl, refl, λ k l. refl)
divides_alone op h = absurd (true≢false (sym h))

-- `HasValue` is asked of an int? alone, and of no row
has_value_typed : (names : Names) (k : Ty-F Ty) (t : Ty) → is_some (row_table k) ≡ false → member_type names (codes "HasValue") k ≡ Some t → (k ≡ Ty-F.IntN) × (ty.Bool ≡ t)
has_value_typed names (Ty-F.Row n) t none h = absurd (true≢false none)
has_value_typed names Ty-F.IntN t none h = (refl, same_Some ty.Bool t h)
has_value_typed names k t none h = absurd (none-some t h)

-- a text is of no other type than texts
text_of_layer : (k : Ty-F Ty) (x : List ℕ) → IsScalarOf k (scalar.Text x) → k ≡ Ty-F.Str
text_of_layer Ty-F.Str x fits = refl
text_of_layer k x fits = absurd fits

coalesced_texts : (k : Ty-F Ty) (r : Ty) → coalesced k Ty-F.Str ≡ Some r → k ≡ Ty-F.Str
coalesced_texts Ty-F.Str r h = refl
coalesced_texts k r h = absurd (none-some r h)

text_besides_null : (s : Scalar) → IsScalarOf Ty-F.Str s → is_null s ≡ false → IsText s
text_besides_null (scalar.Text x) fits h = (x, refl)
text_besides_null scalar.Null fits h = absurd (true≢false h)
text_besides_null s fits h = absurd fits

-- what is so of the second operand of `??` is so of the first, where that isn't null
abbrev IsOfFirst : (Scalar → Type 0) → Type 0
IsOfFirst P =
    (k l : Ty-F Ty) (r : Ty) (x y : Scalar) → coalesced k l ≡ Some r → IsScalarOf k x → IsScalarOf l y → IsHeld x → P y → is_null x ≡ false → P x

text_of_first : IsOfFirst IsText
text_of_first k l r x y result x_fits y_fits held text some = text_besides_null x (subst (λ (m : Ty-F Ty). IsScalarOf m x) texts x_fits) some where
  texts : k ≡ Ty-F.Str
  texts =
      coalesced_texts k r
      (subst (λ (m : Ty-F Ty). coalesced k m ≡ Some r) (text_of_layer l text.0 (subst (λ (s : Scalar). IsScalarOf l s) text.1 y_fits)) result)

-- ---- the literals of a rule

abbrev held_layer : Expr-F Expr → Bool
held_layer layer = is_held_step (map-Expr Expr Bool is_held_rule layer)

held_node : (n : Node Expr) → is_held_rule (expr.Node n) ≡ held_layer (Expr-F.Node n)
unfolding is_held_rule
held_node n = fold_out-Expr Bool is_held_step (expr.Node n) ∙ ap held_layer (outs-Node n)

-- ---- cells

held_by : (b : Bool) (cell : Scalar) (rest : Option Scalar) (s : Scalar) → is_held cell ≡ true → (rest ≡ Some s → is_held s ≡ true)
    → (if b then Some cell else rest) ≡ Some s → is_held s ≡ true
held_by true cell rest s held others h = ap is_held (sym (same_Some cell s h)) ∙ held
held_by false cell rest s held others h = others h

held_cell : (names : List (List ℕ)) (cells : List Scalar) (c : List ℕ) (s : Scalar) → list_all is_held cells ≡ true → cell_named names cells c ≡ Some s → is_held s ≡ true
held_cell [] cells c s held h = absurd (none-some s h)
held_cell (name ∷ names) [] c s held h = absurd (none-some s h)
held_cell (name ∷ names) (cell ∷ cells) c s held h =
    let parts = and_parts (is_held cell) (list_all is_held cells) held in
    held_by (bytes_eq name c) cell (cell_named names cells c) s parts.0 (λ g. held_cell names cells c s parts.1 g) h

-- the cell under a column is of the column's type
pub typed_cell : (columns : List Column) (cells : List Scalar) → HaveTypes columns cells → (c : List ℕ) (t : Ty)
    → option_map (λ column. type_of_column column.ty) (column_named c columns) ≡ Some t
    → (s : Scalar) × (cell_named (map (λ column. column.name) columns) cells c ≡ Some s) × IsScalarOf (out-Ty t) s
typed_cell columns cells fit c t h = by (column_named c columns) refl h where
  by : (o : Option Column) → column_named c columns ≡ o → option_map (λ column. type_of_column column.ty) o ≡ Some t
      → (s : Scalar) × (cell_named (map (λ column. column.name) columns) cells c ≡ Some s) × IsScalarOf (out-Ty t) s
  by None is g = absurd (none-some t g)
  by (Some column) is g =
      let cell = cell_there columns cells fit c column is in
      (cell.0, cell.1, subst (λ (u : Ty). IsScalarOf (out-Ty u) cell.0) (same_Some (type_of_column column.ty) t g) cell.2)

-- ---- what follows a scalar and a truth value

module _ {R : Type 0} (world : World R) where
  on_scalar_is : {B : Type 0} {o : Result (Value R) Fault} (s : Scalar) (next : Scalar → Result B Fault) → o ≡ Ok (value.Scalar s) → on_scalar world o next ≡ next s
  on_scalar_is s next is =
      ap (λ (o : Result (Value R) Fault). on_scalar world o next) is ∙ ap (λ (layer : Value-F R (Value R)). on_ok (scalar_of world layer) next) (outs-Scalar s)

  on_truth_is : {B : Type 0} {o : Result (Value R) Fault} (b : Bool) (next : Bool → Result B Fault) → o ≡ Ok (value.Scalar (scalar.Bool b)) → on_truth world o next ≡ next b
  on_truth_is b next is = ap (λ (o : Result Bool Fault). on_ok o next) (on_scalar_is (scalar.Bool b) (truth_of world.unknown) is)

  on_comparand_is : {B : Type 0} {o : Result (Value R) Fault} (s : Scalar) (next : Value-F R (Value R) → Result B Fault) → o ≡ Ok (value.Scalar s)
      → on_comparand world o next ≡ next (Value-F.Scalar s)
  on_comparand_is s next is =
      ap (λ (o : Result (Value R) Fault). on_comparand world o next) is ∙ ap (λ (layer : Value-F R (Value R)). on_ok (comparand world layer) next) (outs-Scalar s)

  -- an expression means a scalar of this type, of which this is so
  pub record Comes (P : Scalar → Type 0) (t : Ty) (o : Result (Value R) Fault) : Type 0 where
    pub scalar : Scalar
    pub is : o ≡ Ok (value.Scalar scalar)
    pub fits : IsScalarOf (out-Ty t) scalar
    pub so : P scalar

  comes_as : {P : Scalar → Type 0} {t : Ty} {o p : Result (Value R) Fault} → o ≡ p → Comes P t p → Comes P t o
  comes_as same comes = record { scalar = comes.scalar; is = same ∙ comes.is; fits = comes.fits; so = comes.so }

  -- a scalar of a type, by the type's layer
  scalar_comes : (P : Scalar → Type 0) (t u : Ty) (layer : Ty-F Ty) (s : Scalar) → u ≡ t → out-Ty u ≡ layer → IsScalarOf layer s → P s
      → Comes P t (Ok (value.Scalar s))
  scalar_comes P t u layer s same is fits so = record {
    scalar = s;
    is = refl;
    fits = subst (λ (l : Ty-F Ty). IsScalarOf l s) (sym is ∙ ap out-Ty same) fits;
    so = so;
  }

  truth_comes : (t : Ty) (b : Bool) → ty.Bool ≡ t → Comes IsHeld t (Ok (truth_value b))
  truth_comes t b same = scalar_comes IsHeld t ty.Bool Ty-F.Bool (scalar.Bool b) same outs-Bool tt refl

  text_comes : (t : Ty) (x : List ℕ) → ty.Str ≡ t → Comes IsText t (Ok (value.Scalar (scalar.Text x)))
  text_comes t x same = scalar_comes IsText t ty.Str Ty-F.Str (scalar.Text x) same outs-Str tt (x, refl)

  truth_there : {P : Scalar → Type 0} {o : Result (Value R) Fault} → Comes P ty.Bool o → (b : Bool) × (o ≡ Ok (value.Scalar (scalar.Bool b)))
  truth_there comes =
      let found = bool_layer comes.scalar (subst (λ (l : Ty-F Ty). IsScalarOf l comes.scalar) outs-Bool comes.fits) in
      (found.0, comes.is ∙ ap (λ (s : Scalar). Ok (value.Scalar s)) found.1)

  widened_comes : {P : Scalar → Type 0} {s t : Ty} {o : Result (Value R) Fault} → ((x : Scalar) → IsScalarOf (out-Ty s) x → IsScalarOf (out-Ty t) x)
      → Comes P s o → Comes P t o
  widened_comes widens comes = record { scalar = comes.scalar; is = comes.is; fits = widens comes.scalar comes.fits; so = comes.so }

  -- whether an int? has a value, where what is asked isn't a row
  has_value_there : (o : Option Ty) → is_row_type o ≡ false → (s : Scalar) → IsScalarOf Ty-F.IntN s
      → (b : Bool) × (member_value world o (codes "HasValue") (Value-F.Scalar s) ≡ Ok (truth_value b))
  has_value_there o none (scalar.Int n) fits = (true, refl)
  has_value_there o none scalar.Null fits =
      (false, ap (λ (b : Bool). as_value (if b then Err fault.NullReference else of_member world.unknown (member_named (codes "HasValue")) scalar.Null)) none)
  has_value_there o none s fits = absurd fits

  -- `==` of two scalars
  equality_there : (op : Binary) (k l : Ty-F Ty) → are_comparable k l ≡ true → (o p : Result (Value R) Fault) (x y : Scalar) → IsScalarOf k x → IsScalarOf l y
      → o ≡ Ok (value.Scalar x) → p ≡ Ok (value.Scalar y) → (b : Bool) × (compared_meaning world op o p ≡ Ok (truth_value b))
  equality_there op k l compares o p x y x_fits y_fits x_is y_is =
      let same = comparable_same k l compares x y x_fits y_fits in (
        equality_truth op same.0,
        on_comparand_is x _ x_is ∙ on_comparand_is y _ y_is ∙ ap (λ (r : Result Bool Fault). on_ok r (λ b. Ok (truth_value (equality_truth op b)))) (same.1 world.unknown),
      )

  -- a sign that evaluates two scalars
  operated_there : (op : Binary) (t u : Option Ty) (o p : Result (Value R) Fault) (x y : Scalar) → o ≡ Ok (value.Scalar x) → p ≡ Ok (value.Scalar y)
      → operated_meaning world op t u o p ≡ as_value (of_two world.unknown (operation_on op t u x y) x y)
  operated_there op t u o p x y x_is y_is = on_scalar_is x _ x_is ∙ on_scalar_is y _ y_is

-- ---- form by form

module _ (table : List ℕ) (columns : List Column) (cells : List Scalar) (fit : HaveTypes columns cells) (held : list_all is_held cells ≡ true) (user : List ℕ) where
  abbrev names : Names
  names = rule_names table columns

  abbrev world : World (List Scalar)
  world = rule_world (map (λ column. column.name) columns)

  abbrev scope : Scope (List Scalar)
  scope = rule_scope cells user

  abbrev meant : Expr → Result (Value (List Scalar)) Fault
  meant e = rule_meaning world e scope

  abbrev typed : Expr → Option Ty
  typed e = rule_type e names

  -- of what an expression means, where it is typed
  abbrev Gives : (Scalar → Type 0) → Expr → Type 0
  Gives P e = is_held_rule e ≡ true → (t : Ty) → typed e ≡ Some t → Comes world P t (meant e)

  -- what a claim says of meanings
  abbrev Means : Claim → Type 0
  Means (Total e) = Gives IsHeld e
  Means (Sure e) = Gives IsText e

  -- an expression that is this one
  gives_as : {P : Scalar → Type 0} {e d : Expr} → e ≡ d → Gives P d → Gives P e
  gives_as {P} is gives = subst (λ (x : Expr). Gives P x) (sym is) gives

  -- what follows from what is claimed
  gives_where : {P Q : Scalar → Type 0} (e : Expr) → ((s : Scalar) → P s → Q s) → Gives P e → Gives Q e
  gives_where e so gives literals t h =
      let found = gives literals t h in record { scalar = found.scalar; is = found.is; fits = found.fits; so = so found.scalar found.so }

  means_integer : (n : ℤ) → Gives (IsInt n) (expr.Node (node.Integer n))
  means_integer n literals t h =
      comes_as world (meaning_integer world n scope)
      (scalar_comes world (IsInt n) t ty.Int Ty-F.Int (scalar.Int n) (same_Some ty.Int t (sym (type_integer n names) ∙ h)) outs-Int tt
      (refl, sym (held_node (node.Integer n)) ∙ literals))

  means_text : (x : List ℕ) → Gives IsText (expr.Node (node.Text x))
  means_text x literals t h = comes_as world (meaning_text world x scope) (text_comes world t x (same_Some ty.Str t (sym (type_text x names) ∙ h)))

  means_truth : (b : Bool) → Gives IsHeld (expr.Node (node.Bool b))
  means_truth b literals t h = comes_as world (meaning_truth world b scope) (truth_comes world t b (same_Some ty.Bool t (sym (type_truth b names) ∙ h)))

  means_null : Gives IsHeld (expr.Node node.Null)
  means_null literals t h =
      comes_as world (meaning_null world scope) (scalar_comes world IsHeld t ty.Null Ty-F.Null scalar.Null (same_Some ty.Null t (sym (type_null names) ∙ h)) outs-Null tt refl)

  means_user : Gives IsText (expr.Node (node.Name (codes "user")))
  means_user literals t h =
      comes_as world (meaning_name world (codes "user") scope) (text_comes world t user (same_Some ty.Str t (sym (type_name (codes "user") names) ∙ h)))

  means_minus : (a : Expr) (n : ℕ) → a ≡ expr.Node (node.Integer (pos n)) → Gives IsHeld (expr.Node (node.Unary unary.Minus a))
  means_minus a n literal literals t h =
      comes_as world
      (meaning_minus world a scope ∙ on_scalar_is world (scalar.Int (pos n)) (λ s. as_value (negated world.unknown s)) (ap meant literal ∙ meaning_integer world (pos n) scope)
      ∙ ap as_value (checked_int (neg_ℤ (pos n)) negative))
      (scalar_comes world IsHeld t ty.Int Ty-F.Int (scalar.Int (neg_ℤ (pos n))) same outs-Int tt negative)
    where
      negative : is_int (neg_ℤ (pos n)) ≡ true
      negative = negative_int n (sym (ap is_held_rule literal ∙ held_node (node.Integer (pos n))) ∙ (sym (held_node (node.Unary unary.Minus a)) ∙ literals))

      same : ty.Int ≡ t
      same =
          same_Some ty.Int t
          (sym (type_minus a names ∙ ap if_number (ap typed literal ∙ type_integer (pos n) names) ∙ ap (λ (l : Ty-F Ty). if is_number l then Some ty.Int else None) outs-Int) ∙ h)

  means_column : (row : Expr) (c : List ℕ) → row ≡ expr.Node (node.Name (codes "row")) → Gives IsHeld (expr.Node (node.Member row c))
  means_column row c of_row literals t h =
      comes_as world
      (meaning_member world row c scope ∙ ap (λ (o : Result (Value (List Scalar)) Fault). on_ok o (λ v. member_of (out-Value (List Scalar) v))) row_is
      ∙ ap member_of (outs-value-Row cells) ∙ ap (cell_value world) cell.1)
      (record { scalar = cell.0; is = refl; fits = cell.2; so = held_cell (map (λ column. column.name) columns) cells c cell.0 held cell.1 })
    where
      column_is : column_type names.tables 0 c ≡ Some t
      column_is =
          sym (type_member row c names ∙ ap (λ (o : Option Ty). option_and_then (λ u. member_type names c (out-Ty u)) o) (ap typed of_row ∙ type_name (codes "row") names)
          ∙ ap (member_type names c) (outs-Row 0)) ∙ h

      cell : (s : Scalar) × (cell_named (map (λ column. column.name) columns) cells c ≡ Some s) × IsScalarOf (out-Ty t) s
      cell = typed_cell columns cells fit c t column_is

      row_is : meant row ≡ Ok (value.Row cells)
      row_is = ap meant of_row ∙ meaning_name world (codes "row") scope

      member_of : Value-F (List Scalar) (Value (List Scalar)) → Result (Value (List Scalar)) Fault
      member_of layer = member_value world (rule_type row (names_at world scope)) c layer

  means_not : (a : Expr) → Gives IsHeld a → Gives IsHeld (expr.Node (node.Unary unary.Not a))
  means_not a operand literals t h =
      let result = truth_typed (is_bool_type (typed a)) t (sym (type_not a names) ∙ h) in
      let x = truth_there world (operand (sym (held_node (node.Unary unary.Not a)) ∙ literals) ty.Bool (bool_typed (typed a) result.0)) in
      comes_as world (meaning_not world a scope ∙ on_truth_is world x.0 _ x.1) (truth_comes world t (not x.0) result.1)

  -- `&&` and `||`, by what comes of the second operand where the first has this truth value
  means_joined : (e a b : Expr) (next : Bool → Result (Value (List Scalar)) Fault) → is_held_rule e ≡ (is_held_rule a && is_held_rule b)
      → typed e ≡ truth_type (is_bool_type (typed a) && is_bool_type (typed b)) → meant e ≡ on_truth world (meant a) next
      → (Comes world IsHeld ty.Bool (meant b) → (c : Bool) → Comes world IsHeld ty.Bool (next c)) → Gives IsHeld a → Gives IsHeld b → Gives IsHeld e
  means_joined e a b next held_is typed_is meant_is by left right literals t h =
      let result = truth_typed (is_bool_type (typed a) && is_bool_type (typed b)) t (sym typed_is ∙ h) in
      let are = and_parts (is_bool_type (typed a)) _ result.0 in
      let parts = and_parts (is_held_rule a) (is_held_rule b) (sym held_is ∙ literals) in
      let x = truth_there world (left parts.0 ty.Bool (bool_typed (typed a) are.0)) in
      comes_as world (meant_is ∙ on_truth_is world x.0 next x.1)
      (subst (λ (u : Ty). Comes world IsHeld u (next x.0)) result.1 (by (right parts.1 ty.Bool (bool_typed (typed b) are.1)) x.0))

  means_both : (a b : Expr) → Gives IsHeld a → Gives IsHeld b → Gives IsHeld (expr.Node (node.And a b))
  means_both a b = means_joined (expr.Node (node.And a b)) a b _ (held_node (node.And a b)) (type_both a b names) (meaning_both world a b scope) by where
    by : Comes world IsHeld ty.Bool (meant b) → (c : Bool) → Comes world IsHeld ty.Bool (if c then meant b else Ok (truth_value false))
    by second true = second
    by second false = truth_comes world ty.Bool false refl

  means_either : (a b : Expr) → Gives IsHeld a → Gives IsHeld b → Gives IsHeld (expr.Node (node.Or a b))
  means_either a b = means_joined (expr.Node (node.Or a b)) a b _ (held_node (node.Or a b)) (type_either a b names) (meaning_either world a b scope) by where
    by : Comes world IsHeld ty.Bool (meant b) → (c : Bool) → Comes world IsHeld ty.Bool (if c then Ok (truth_value true) else meant b)
    by second true = truth_comes world ty.Bool true refl
    by second false = second

  -- two operands that are typed, of which an operator has this type
  pub record Operands (given : Ty-F Ty → Ty-F Ty → Option Ty) (P Q : Scalar → Type 0) (a b : Expr) (t : Ty) : Type 0 where
    pub left : Ty
    pub right : Ty
    pub right_is : typed b ≡ Some right
    pub result : given (out-Ty left) (out-Ty right) ≡ Some t
    pub x : Comes world P left (meant a)
    pub y : Comes world Q right (meant b)

  operands_there : (given : Ty-F Ty → Ty-F Ty → Option Ty) {P Q : Scalar → Type 0} (a b : Expr) (t : Ty) → Gives P a → Gives Q b
      → (is_held_rule a ≡ true) × (is_held_rule b ≡ true) → of_operands given (typed a) (typed b) ≡ Some t → Operands given P Q a b t
  operands_there given {P} {Q} a b t left right held h = by (typed a) (typed b) refl refl h where
    by : (o p : Option Ty) → typed a ≡ o → typed b ≡ p → of_operands given o p ≡ Some t → Operands given P Q a b t
    by None p a_is b_is g = absurd (none-some t g)
    by (Some s) None a_is b_is g = absurd (none-some t g)
    by (Some s) (Some u) a_is b_is g =
        record { left = s; right = u; right_is = b_is; result = g; x = left held.0 s a_is; y = right held.1 u b_is }

  binary_operands : (op : Binary) {Q : Scalar → Type 0} (a b : Expr) (t : Ty) → Gives IsHeld a → Gives Q b → is_held_rule (expr.Node (node.Binary op a b)) ≡ true
      → typed (expr.Node (node.Binary op a b)) ≡ Some t → Operands (operated_type op) IsHeld Q a b t
  binary_operands op a b t left right literals h =
      operands_there (operated_type op) a b t left right (and_parts (is_held_rule a) (is_held_rule b) (sym (held_node (node.Binary op a b)) ∙ literals))
      (sym (type_binary op a b names) ∙ h)

  -- a sign, by whether it is `==` or `!=`
  sign_there : (op : Binary) (a b : Expr) (equal : Bool) → is_equality op ≡ equal
      → meant (expr.Node (node.Binary op a b))
      ≡ (if equal then compared_meaning world op (meant a) (meant b)
      else operated_meaning world op (rule_type a (names_at world scope)) (rule_type b (names_at world scope)) (meant a) (meant b))
  sign_there op a b equal is =
      meaning_binary world op a b scope
      ∙ ap (λ (e : Bool). if e then compared_meaning world op (meant a) (meant b)
      else operated_meaning world op (rule_type a (names_at world scope)) (rule_type b (names_at world scope)) (meant a) (meant b)) is

  means_comparison : (a b : Expr) (op : Binary) → is_comparison op ≡ true → Gives IsHeld a → Gives IsHeld b → Gives IsHeld (expr.Node (node.Binary op a b))
  means_comparison a b op compares left right literals t h = by (is_equality op) refl where
    operands : Operands (operated_type op) IsHeld IsHeld a b t
    operands = binary_operands op a b t left right literals h

    k : Ty-F Ty
    k = out-Ty operands.left

    l : Ty-F Ty
    l = out-Ty operands.right

    by : (equal : Bool) → is_equality op ≡ equal → Comes world IsHeld t (meant (expr.Node (node.Binary op a b)))
    by true is =
        let result =
        truth_typed (are_comparable k l) t
        (sym (ap (λ (e : Bool). if e then truth_type (are_comparable k l) else (if is_number k && is_number l then Some (result_type op k l) else joined_type op k l)) is)
        ∙ operands.result) in
        let found = equality_there world op k l result.0 (meant a) (meant b) operands.x.scalar operands.y.scalar operands.x.fits operands.y.fits operands.x.is operands.y.is in
        comes_as world (sign_there op a b true is ∙ found.1) (truth_comes world t found.0 result.1)
    by false is =
        let orders = orders_else op compares is in
        let result = computed_typed op k l t is (orders.1 k l) operands.result in
        let found =
        ordered_truth op orders.0 (rule_type a (names_at world scope)) (rule_type b (names_at world scope)) operands.x.scalar operands.y.scalar
        (number_there k operands.x.scalar (number_layer k result.0) operands.x.fits) (number_there l operands.y.scalar (number_layer l result.1) operands.y.fits) in
        comes_as world (sign_there op a b false is ∙ operated_there world op _ _ (meant a) (meant b) operands.x.scalar operands.y.scalar operands.x.is operands.y.is ∙ ap as_value (found.1 world.unknown))
        (truth_comes world t found.0 (sym (ap (λ (c : Bool). if c then ty.Bool else number_type k l) orders.0) ∙ result.2))

  means_conditional : {P : Scalar → Type 0} (c a b : Expr) → Gives IsHeld c → Gives P a → Gives P b → Gives P (expr.Node (node.Conditional c a b))
  means_conditional {P} c a b test left right literals t h =
      let result = choice_typed (is_bool_type (typed c)) (typed a) (typed b) t (sym (type_choice c a b names) ∙ h) in
      let outer = and_parts (is_held_rule c && is_held_rule a) _ (sym (held_node (node.Conditional c a b)) ∙ literals) in
      let inner = and_parts (is_held_rule c) (is_held_rule a) outer.0 in
      let d = truth_there world (test inner.0 ty.Bool (bool_typed (typed c) result.0)) in
      let operands = operands_there choice_type_of_layers a b t left right (inner.1, outer.1) result.1 in
      let widens = chosen_widens (out-Ty operands.left) (out-Ty operands.right) t operands.result in
      comes_as world (meaning_choice world c a b scope ∙ on_truth_is world d.0 _ d.1)
      (by (widened_comes world widens.0.scalars operands.x) (widened_comes world widens.1.scalars operands.y) d.0)
    where
      by : Comes world P t (meant a) → Comes world P t (meant b) → (d : Bool) → Comes world P t (if d then meant a else meant b)
      by first second true = first
      by first second false = second

  means_coalesce : {P : Scalar → Type 0} (a b : Expr) → IsOfFirst P → Gives IsHeld a → Gives P b → Gives P (expr.Node (node.Coalesce a b))
  means_coalesce {P} a b first left right literals t h =
      comes_as world (meaning_coalesce world a b scope ∙ on_scalar_is world operands.x.scalar _ operands.x.is) (by (is_null operands.x.scalar) refl)
    where
      operands : Operands coalesced IsHeld P a b t
      operands =
          operands_there coalesced a b t left right (and_parts (is_held_rule a) (is_held_rule b) (sym (held_node (node.Coalesce a b)) ∙ literals))
          (sym (type_coalesce a b names) ∙ h)

      fitting : Coalesces (out-Ty operands.left) (out-Ty operands.right) t
      fitting = coalesced_fits (out-Ty operands.left) (out-Ty operands.right) t operands.result

      by : (n : Bool) → is_null operands.x.scalar ≡ n → Comes world P t (if n then meant b else Ok (value.Scalar operands.x.scalar))
      by true is = widened_comes world fitting.1.1.scalars operands.y
      by false is = record {
        scalar = operands.x.scalar;
        is = refl;
        fits = fitting.1.0 operands.x.scalar operands.x.fits is;
        so = first (out-Ty operands.left) (out-Ty operands.right) t _ _ operands.result operands.x.fits operands.y.fits operands.x.so operands.y.so is;
      }

  means_has_value : (a : Expr) → Holds (Total a) → Gives IsHeld a → Gives IsHeld (expr.Node (node.Member a (codes "HasValue")))
  means_has_value a total operand literals t h = by (typed a) refl (sym (type_member a (codes "HasValue") names) ∙ h) where
    member_of : Value-F (List Scalar) (Value (List Scalar)) → Result (Value (List Scalar)) Fault
    member_of layer = member_value world (rule_type a (names_at world scope)) (codes "HasValue") layer

    by : (o : Option Ty) → typed a ≡ o → option_and_then (λ u. member_type names (codes "HasValue") (out-Ty u)) o ≡ Some t
        → Comes world IsHeld t (meant (expr.Node (node.Member a (codes "HasValue"))))
    by None is g = absurd (none-some t g)
    by (Some u) is g =
        let result = has_value_typed names (out-Ty u) t (ap is_row_type (sym is) ∙ total_no_row names.tables total) g in
        let x = operand (sym (held_node (node.Member a (codes "HasValue"))) ∙ literals) u is in
        let found = has_value_there world (rule_type a (names_at world scope)) (total_no_row [] total) x.scalar (subst (λ (l : Ty-F Ty). IsScalarOf l x.scalar) result.0 x.fits) in
        comes_as world
        (meaning_member world a (codes "HasValue") scope ∙ ap (λ (o : Result (Value (List Scalar)) Fault). on_ok o (λ v. member_of (out-Value (List Scalar) v))) x.is
        ∙ ap member_of (outs-Scalar x.scalar) ∙ found.1)
        (truth_comes world t found.0 result.1)

  means_division : (a b : Expr) (op : Binary) (n : ℕ) → is_division op ≡ true → Gives IsHeld a → b ≡ expr.Node (node.Integer (pos (suc n)))
      → Gives IsHeld (expr.Node (node.Binary op a b))
  means_division a b op n divides left literal literals t h =
      comes_as world
      (sign_there op a b false alone.0
      ∙ operated_there world op _ _ (meant a) (meant b) operands.x.scalar (scalar.Int (pos (suc n))) operands.x.is (operands.y.is ∙ ap (λ (s : Scalar). Ok (value.Scalar s)) operands.y.so.0)
      ∙ ap as_value quotient.is)
      (record { scalar = quotient.scalar; is = refl; fits = subst (λ (u : Ty). IsScalarOf (out-Ty u) quotient.scalar) same quotient.fits; so = quotient.held })
    where
      alone : (is_equality op ≡ false) × (is_ordering op ≡ false) × ((k l : Ty-F Ty) → joined_type op k l ≡ None)
      alone = divides_alone op divides

      operands : Operands (operated_type op) IsHeld (IsInt (pos (suc n))) a b t
      operands = binary_operands op a b t left (gives_as literal (means_integer (pos (suc n)))) literals h

      k : Ty-F Ty
      k = out-Ty operands.left

      result : IsComputed op k (out-Ty operands.right) t
      result = computed_typed op k (out-Ty operands.right) t alone.0 (alone.2 k (out-Ty operands.right)) operands.result

      quotient : Gets (out-Ty (number_type k Ty-F.Int)) (quotient_of world.unknown op (rule_type a (names_at world scope)) (rule_type b (names_at world scope)) operands.x.scalar n)
      quotient = quotient_there world.unknown op divides _ _ k n operands.x.scalar result.0 operands.x.fits operands.x.so operands.y.so.1

      -- the divisor's type is that of ints
      right_layer : out-Ty operands.right ≡ Ty-F.Int
      right_layer =
          ap out-Ty (sym (same_Some ty.Int operands.right (sym (ap typed literal ∙ type_integer (pos (suc n)) names) ∙ operands.right_is))) ∙ outs-Int

      same : number_type k Ty-F.Int ≡ t
      same =
          ap (number_type k) (sym right_layer)
          ∙ (sym (ap (λ (c : Bool). if c then ty.Bool else number_type k (out-Ty operands.right)) alone.1) ∙ result.2)

  means_search : (a b : Expr) (m : List ℕ) → IsSearch m → Gives IsText a → Gives IsText b → Gives IsHeld (expr.Node (node.Method a m (argument.Value b ∷ [])))
  means_search a b m looks left right literals t h =
      let result = truth_typed (is_search m && is_text_type (typed a) && is_text_type (typed b)) t (sym (type_method a m (argument.Value b ∷ []) names) ∙ h) in
      let outer = and_parts (is_search m && is_text_type (typed a)) _ result.0 in
      let inner = and_parts (is_search m) (is_text_type (typed a)) outer.0 in
      let parts = and_parts (is_held_rule a) (is_held_rule b) (sym (held_node (node.Method a m (argument.Value b ∷ []))) ∙ literals) in
      let x = left parts.0 ty.Str (text_typed (typed a) inner.1) in
      let y = right parts.1 ty.Str (text_typed (typed b) outer.1) in
      let found = search_truth m looks x.scalar y.scalar x.so y.so in
      comes_as world
      (meaning_method world a m (argument.Value b ∷ []) scope ∙ on_scalar_is world x.scalar _ x.is ∙ on_scalar_is world y.scalar _ y.is
      ∙ ap as_value (found.1 world.unknown))
      (truth_comes world t found.0 result.1)

  means : {claim : Claim} → Holds claim → Means claim
  means (total_integer _ n is) = gives_as is (gives_where _ (int_held n) (means_integer n))
  means (total_text _ x is) = gives_as is (gives_where _ text_held (means_text x))
  means (total_truth _ b is) = gives_as is (means_truth b)
  means (total_null _ is) = gives_as is means_null
  means (total_minus _ a n is literal) = gives_as is (means_minus a n literal)
  means (total_column _ row c is of_row) = gives_as is (means_column row c of_row)
  means (total_user _ is) = gives_as is (gives_where _ text_held means_user)
  means (total_not _ a is operand) = gives_as is (means_not a (means operand))
  means (total_and _ a b is left right) = gives_as is (means_both a b (means left) (means right))
  means (total_or _ a b is left right) = gives_as is (means_either a b (means left) (means right))
  means (total_comparison _ a b op is compares left right) = gives_as is (means_comparison a b op compares (means left) (means right))
  means (total_conditional _ c a b is test left right) = gives_as is (means_conditional c a b (means test) (means left) (means right))
  means (total_coalesce _ a b is left right) = gives_as is (means_coalesce a b (λ k l r x y result x_fits y_fits held also some. held) (means left) (means right))
  means (total_has_value _ a is operand) = gives_as is (means_has_value a operand (means operand))
  means (total_division _ a b op n is divides left literal) = gives_as is (means_division a b op n divides (means left) literal)
  means (total_search _ a b m is looks left right) = gives_as is (means_search a b m looks (means left) (means right))
  means (sure_text _ x is) = gives_as is (means_text x)
  means (sure_user _ is) = gives_as is means_user
  means (sure_coalesce _ a b is left right) = gives_as is (means_coalesce a b text_of_first (means left) (means right))
  means (sure_conditional _ c a b is test left right) = gives_as is (means_conditional c a b (means test) (means left) (means right))

pub decides_rules : DecidesRules
decides_rules table columns cells fit held user rule literals typed total =
    truth_there (rule_world (map (λ column. column.name) columns))
    (means table columns cells fit held user total literals ty.Bool (type_complete (rule_names table columns) typed))
