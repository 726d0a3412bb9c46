-- A total rule that is typed in the language has the same type among rules, and no total expression of a rule has the type of a row.
use Rattle.std.proofs.Common.{◌≡◌, ◌∷◌, ◌&&◌, if◌then◌else◌, List, [], ℕ, Bool, true, false, true≢false, Option, Some, None, codes, ap, ap₂, ◌∙◌, sym, refl, option_and_then, option_map, slice_get, bytes_eq}
use Rattle.std.specs.Prelude.{is_some}
use Rattle.lq_value.specs.declared.table.Column.{Column}
use Rattle.lq_value.specs.declared.table.ColumnType.{ColumnType}
use Rattle.lq_value.specs.declared.table.ColumnType.TheVariants as of
use Rattle.lq_value.specs.declared.table.Schema.{Schema}
use Rattle.lq_value.specs.declared.ty.Ty.{Ty, out-Ty}
use Rattle.lq_value.specs.declared.ty.Ty.TheOpen.{Ty-F}
use Rattle.lq_value.specs.declared.ty.Ty.TheVariants as ty
use Rattle.lq_value.specs.declared.ty.Ty.TheVariants.{outs-Bool, outs-Int, outs-IntN, outs-Null, outs-Row, outs-Str}
use Rattle.lq_language.specs.ClauseTyping.{expression_type}
use Rattle.lq_language.specs.EnumerableCalls.{enumerable_call}
use Rattle.lq_language.specs.Members.{IsSearch, is_search}
use Rattle.lq_language.specs.OperandMeaning.{is_row_type}
use Rattle.lq_security.specs.Totality.{Claim, Holds, IsTotal, Sure, Total, sure_coalesce, sure_conditional, sure_text, sure_user, total_and, total_coalesce, total_column, total_comparison, total_conditional, total_division, total_has_value, total_integer, total_minus, total_not, total_null, total_or, total_search, total_text, total_truth, total_user}
use Rattle.lq_language.specs.Names.{Names, column_named, type_of_column}
use Rattle.lq_language.specs.OperandTypes.{are_comparable, are_joined, binary_type, choice_type, choice_type_of_layers, coalesced, if_number, is_bool_type, is_equality, is_number, is_ordering, is_text, is_text_type, joined_type, member_type, number_type, of_operands, operated_type, result_type, row_table, truth_type}
use Rattle.lq_language.specs.RuleTyping.{rule_type}
use Rattle.lq_language.specs.Typing.{are_null_tests, called_type, type_of_conditional, type_of_choice, type_of_member, type_of_operation}
use Rattle.lq_grammar.specs.declared.syntax.Argument.TheVariants as argument
use Rattle.lq_grammar.specs.declared.syntax.Binary.{Binary}
use Rattle.lq_grammar.specs.declared.syntax.Binary.TheVariants as binary
use Rattle.lq_grammar.specs.declared.syntax.Expr.{Expr}
use Rattle.lq_grammar.specs.declared.syntax.Expr.TheVariants as expr
use Rattle.lq_grammar.specs.declared.syntax.Node.{Node}
use Rattle.lq_grammar.specs.declared.syntax.Node.TheVariants as node
use Rattle.lq_grammar.specs.declared.syntax.Unary.TheVariants as unary
use Rattle.lq_language.proofs.MemberLaws.{search_told}
use Rattle.lq_language.proofs.FormLaws.{type_binary, type_both, type_choice, type_coalesce, type_either, type_integer, type_member, type_method, type_minus, type_name, type_not, type_null, type_text, type_truth}
use Rattle.lq_language.proofs.ValueLaws.{is_plain}
use Rattle.lq_language.proofs.ExpressionTypeLaws.{expression_type_is, node_type_in}

-- ---- types of scalars and of null

-- no type, or one of these
abbrev are_plain : Option Ty → Bool
are_plain None = true
are_plain (Some t) = is_plain (out-Ty t)

-- no type, or that of texts
abbrev are_texts : Option Ty → Bool
are_texts None = true
are_texts (Some t) = is_text (out-Ty t)

abbrev IsPlain : Option Ty → Type 0
IsPlain o = are_plain o ≡ true

abbrev AreTexts : Option Ty → Type 0
AreTexts o = are_texts o ≡ true

plain : (t : Ty) (layer : Ty-F Ty) → out-Ty t ≡ layer → is_plain layer ≡ true → IsPlain (Some t)
plain t layer is h = ap is_plain is ∙ h

text_plain : (layer : Ty-F Ty) → is_text layer ≡ true → is_plain layer ≡ true
text_plain Ty-F.Str h = refl
text_plain layer h = absurd (true≢false (sym h))

texts_plain : (o : Option Ty) → AreTexts o → IsPlain o
texts_plain None h = refl
texts_plain (Some t) h = text_plain (out-Ty t) h

-- none of them is a row's
plain_no_row : (o : Option Ty) → IsPlain o → is_row_type o ≡ false
plain_no_row None h = refl
plain_no_row (Some t) h = by (out-Ty t) h where
  by : (layer : Ty-F Ty) → is_plain layer ≡ true → is_some (row_table layer) ≡ false
  by (Ty-F.Row n) g = absurd (true≢false (sym g))
  by layer g = refl

plain_truth : (b : Bool) → IsPlain (truth_type b)
plain_truth true = plain ty.Bool Ty-F.Bool outs-Bool refl
plain_truth false = refl

plain_number : (o : Option Ty) → IsPlain (if_number o)
plain_number None = refl
plain_number (Some t) = by (out-Ty t) refl where
  by : (k : Ty-F Ty) → out-Ty t ≡ k → IsPlain (if is_number k then Some t else None)
  by Ty-F.Int is = plain t Ty-F.Int is refl
  by Ty-F.IntN is = plain t Ty-F.IntN is refl
  by k is = refl

plain_column_type : (t : ColumnType) → IsPlain (Some (type_of_column t))
plain_column_type of.Int = plain ty.Int Ty-F.Int outs-Int refl
plain_column_type of.IntN = plain ty.IntN Ty-F.IntN outs-IntN refl
plain_column_type of.Bool = plain ty.Bool Ty-F.Bool outs-Bool refl
plain_column_type of.Str = plain ty.Str Ty-F.Str outs-Str refl

plain_column : (o : Option Column) → IsPlain (option_map (λ column. type_of_column column.ty) o)
plain_column None = refl
plain_column (Some column) = plain_column_type column.ty

plain_in : (c : List ℕ) (o : Option Schema) → IsPlain (option_and_then (λ schema. option_map (λ column. type_of_column column.ty) (column_named c schema.columns)) o)
plain_in c None = refl
plain_in c (Some schema) = plain_column (column_named c schema.columns)

plain_member : (names : Names) (m : List ℕ) (layer : Ty-F Ty) → IsPlain (member_type names m layer)
plain_member names m (Ty-F.Row n) = plain_in m (slice_get names.tables n)
plain_member names m Ty-F.IntN = by (bytes_eq m (codes "HasValue")) (bytes_eq m (codes "Value")) where
  by : (b c : Bool) → IsPlain (if b then Some ty.Bool else (if c then Some ty.Int else None))
  by true c = plain ty.Bool Ty-F.Bool outs-Bool refl
  by false true = plain ty.Int Ty-F.Int outs-Int refl
  by false false = refl
plain_member names m Ty-F.Str = by (bytes_eq m (codes "Length")) where
  by : (b : Bool) → IsPlain (if b then Some ty.Int else None)
  by true = plain ty.Int Ty-F.Int outs-Int refl
  by false = refl
plain_member names m layer = refl

plain_any_member : (names : Names) (m : List ℕ) (o : Option Ty) → IsPlain (option_and_then (λ t. member_type names m (out-Ty t)) o)
plain_any_member names m None = refl
plain_any_member names m (Some t) = plain_member names m (out-Ty t)

plain_numbers : (k l : Ty-F Ty) → IsPlain (Some (number_type k l))
plain_numbers Ty-F.Int Ty-F.Int = plain ty.Int Ty-F.Int outs-Int refl
plain_numbers k l = plain ty.IntN Ty-F.IntN outs-IntN refl

plain_result : (op : Binary) (k l : Ty-F Ty) → IsPlain (Some (result_type op k l))
plain_result op k l = by (is_ordering op) where
  by : (b : Bool) → IsPlain (Some (if b then ty.Bool else number_type k l))
  by true = plain ty.Bool Ty-F.Bool outs-Bool refl
  by false = plain_numbers k l

plain_joined : (op : Binary) (k l : Ty-F Ty) → IsPlain (joined_type op k l)
plain_joined binary.Add k l = by (are_joined k l) where
  by : (b : Bool) → IsPlain (if b then Some ty.Str else None)
  by true = plain ty.Str Ty-F.Str outs-Str refl
  by false = refl
plain_joined op k l = refl

plain_operated : (op : Binary) (k l : Ty-F Ty) → IsPlain (operated_type op k l)
plain_operated op k l = by (is_equality op) (is_number k && is_number l) where
  by : (b c : Bool) → IsPlain (if b then truth_type (are_comparable k l) else (if c then Some (result_type op k l) else joined_type op k l))
  by true c = plain_truth (are_comparable k l)
  by false true = plain_result op k l
  by false false = plain_joined op k l

plain_binary : (op : Binary) (o p : Option Ty) → IsPlain (binary_type op o p)
plain_binary op None p = refl
plain_binary op (Some s) None = refl
plain_binary op (Some s) (Some t) = plain_operated op (out-Ty s) (out-Ty t)

plain_coalesced : (k l : Ty-F Ty) → IsPlain (coalesced k l)
plain_coalesced Ty-F.IntN Ty-F.Int = plain ty.Int Ty-F.Int outs-Int refl
plain_coalesced Ty-F.IntN Ty-F.IntN = plain ty.IntN Ty-F.IntN outs-IntN refl
plain_coalesced Ty-F.IntN Ty-F.Null = plain ty.IntN Ty-F.IntN outs-IntN refl
plain_coalesced Ty-F.Str Ty-F.Str = plain ty.Str Ty-F.Str outs-Str refl
plain_coalesced Ty-F.Str Ty-F.Null = plain ty.Str Ty-F.Str outs-Str refl
plain_coalesced k l = refl

plain_coalesce : (o p : Option Ty) → IsPlain (of_operands coalesced o p)
plain_coalesce None p = refl
plain_coalesce (Some s) None = refl
plain_coalesce (Some s) (Some t) = plain_coalesced (out-Ty s) (out-Ty t)

texts_coalesced : (k l : Ty-F Ty) → is_text l ≡ true → AreTexts (coalesced k l)
texts_coalesced Ty-F.Str Ty-F.Str h = ap is_text outs-Str
texts_coalesced k Ty-F.Str h = refl
texts_coalesced k l h = absurd (true≢false (sym h))

texts_coalesce : (o p : Option Ty) → AreTexts p → AreTexts (of_operands coalesced o p)
texts_coalesce None p h = refl
texts_coalesce (Some s) None h = refl
texts_coalesce (Some s) (Some t) h = texts_coalesced (out-Ty s) (out-Ty t) h

plain_chosen : (k l : Ty-F Ty) → is_plain k ≡ true → is_plain l ≡ true → IsPlain (choice_type_of_layers k l)
plain_chosen Ty-F.Int Ty-F.Int a b = plain ty.Int Ty-F.Int outs-Int refl
plain_chosen Ty-F.Int Ty-F.IntN a b = plain ty.IntN Ty-F.IntN outs-IntN refl
plain_chosen Ty-F.IntN Ty-F.Int a b = plain ty.IntN Ty-F.IntN outs-IntN refl
plain_chosen Ty-F.IntN Ty-F.IntN a b = plain ty.IntN Ty-F.IntN outs-IntN refl
plain_chosen Ty-F.IntN Ty-F.Null a b = plain ty.IntN Ty-F.IntN outs-IntN refl
plain_chosen Ty-F.Null Ty-F.IntN a b = plain ty.IntN Ty-F.IntN outs-IntN refl
plain_chosen Ty-F.Bool Ty-F.Bool a b = plain ty.Bool Ty-F.Bool outs-Bool refl
plain_chosen Ty-F.Str Ty-F.Str a b = plain ty.Str Ty-F.Str outs-Str refl
plain_chosen Ty-F.Str Ty-F.Null a b = plain ty.Str Ty-F.Str outs-Str refl
plain_chosen Ty-F.Null Ty-F.Str a b = plain ty.Str Ty-F.Str outs-Str refl
plain_chosen (Ty-F.Row m) l a b = absurd (true≢false (sym a))
plain_chosen k (Ty-F.Row n) a b = absurd (true≢false (sym b))
plain_chosen k l a b = refl

plain_choice : (c : Bool) (o p : Option Ty) → IsPlain o → IsPlain p → IsPlain (choice_type c o p)
plain_choice false o p a b = refl
plain_choice true None p a b = refl
plain_choice true (Some s) None a b = refl
plain_choice true (Some s) (Some t) a b = plain_chosen (out-Ty s) (out-Ty t) a b

texts_chosen : (k l : Ty-F Ty) → is_text k ≡ true → is_text l ≡ true → AreTexts (choice_type_of_layers k l)
texts_chosen Ty-F.Str Ty-F.Str a b = ap is_text outs-Str
texts_chosen Ty-F.Str l a b = absurd (true≢false (sym b))
texts_chosen k l a b = absurd (true≢false (sym a))

texts_choice : (c : Bool) (o p : Option Ty) → AreTexts o → AreTexts p → AreTexts (choice_type c o p)
texts_choice false o p a b = refl
texts_choice true None p a b = refl
texts_choice true (Some s) None a b = refl
texts_choice true (Some s) (Some t) a b = texts_chosen (out-Ty s) (out-Ty t) a b

-- ---- what the language adds is of other types

member_alike : (names : Names) (m : List ℕ) (layer : Ty-F Ty) → is_plain layer ≡ true → type_of_member names m layer ≡ member_type names m layer
member_alike names m (Ty-F.Rec ms) h = absurd (true≢false (sym h))
member_alike names m (Ty-F.Group k t) h = absurd (true≢false (sym h))
member_alike names m layer h = refl

any_member_alike : (names : Names) (m : List ℕ) (o : Option Ty) → IsPlain o
    → option_and_then (λ t. type_of_member names m (out-Ty t)) o ≡ option_and_then (λ t. member_type names m (out-Ty t)) o
any_member_alike names m None h = refl
any_member_alike names m (Some t) h = member_alike names m (out-Ty t) h

no_null_test : (k l : Ty-F Ty) → is_plain k ≡ true → is_plain l ≡ true → are_null_tests k l ≡ false
no_null_test (Ty-F.Rec ms) l a b = absurd (true≢false (sym a))
no_null_test (Ty-F.Group s t) l a b = absurd (true≢false (sym a))
no_null_test k (Ty-F.Rec ms) a b = absurd (true≢false (sym b))
no_null_test k (Ty-F.Group s t) a b = absurd (true≢false (sym b))
no_null_test k l a b = refl

operated_alike : (op : Binary) (k l : Ty-F Ty) → is_plain k ≡ true → is_plain l ≡ true → type_of_operation op k l ≡ operated_type op k l
operated_alike op k l a b =
    ap (λ (tests : Bool). if is_equality op && tests then Some ty.Bool else operated_type op k l) (no_null_test k l a b) ∙ by (is_equality op) where
      by : (equal : Bool) → (if equal && false then Some ty.Bool else operated_type op k l) ≡ operated_type op k l
      by true = refl
      by false = refl

binary_alike : (op : Binary) (o p : Option Ty) → IsPlain o → IsPlain p → of_operands (type_of_operation op) o p ≡ binary_type op o p
binary_alike op None p a b = refl
binary_alike op (Some s) None a b = refl
binary_alike op (Some s) (Some t) a b = operated_alike op (out-Ty s) (out-Ty t) a b

chosen_alike : (k l : Ty-F Ty) → is_plain k ≡ true → is_plain l ≡ true → type_of_choice k l ≡ choice_type_of_layers k l
chosen_alike (Ty-F.Rec ms) l a b = absurd (true≢false (sym a))
chosen_alike k (Ty-F.Rec ms) a b = absurd (true≢false (sym b))
chosen_alike k l a b = refl

choice_alike : (c : Bool) (o p : Option Ty) → IsPlain o → IsPlain p → type_of_conditional c o p ≡ choice_type c o p
choice_alike false o p a b = refl
choice_alike true None p a b = refl
choice_alike true (Some s) None a b = refl
choice_alike true (Some s) (Some t) a b = chosen_alike (out-Ty s) (out-Ty t) a b

-- ---- form by form

-- the local names of a rule
abbrev rule_locals : List (List ℕ × Ty)
rule_locals = (codes "row", ty.Row 0) ∷ (codes "user", ty.Str) ∷ []

module _ (tables : List Schema) where
  abbrev names : Names
  names = record { tables = tables; predicates = []; session = []; locals = rule_locals }

  abbrev in_language : Expr → Option Ty
  in_language e = expression_type e names

  abbrev in_rules : Expr → Option Ty
  in_rules e = rule_type e names

  abbrev IsAlike : Claim → Type 0
  IsAlike (Total e) = (in_language e ≡ in_rules e) × IsPlain (in_rules e)
  IsAlike (Sure e) = (in_language e ≡ in_rules e) × AreTexts (in_rules e)

  -- an expression that is this node, which has this type
  typed_as : (e : Expr) (n : Node Expr) (o : Option Ty) → e ≡ expr.Node n → rule_type (expr.Node n) names ≡ o → in_rules e ≡ o
  typed_as e n o is typed = ap (λ (x : Expr). rule_type x names) is ∙ typed

  alike_by : (are : Option Ty → Bool) (e : Expr) (n : Node Expr) (o : Option Ty) → e ≡ expr.Node n → node_type_in n names ≡ o
      → rule_type (expr.Node n) names ≡ o → are o ≡ true → (in_language e ≡ in_rules e) × (are (in_rules e) ≡ true)
  alike_by are e n o is wholly typed found =
      (expression_type_is names e n is ∙ wholly ∙ sym (typed_as e n o is typed), ap are (typed_as e n o is typed) ∙ found)

  sure_total : (e : Expr) → IsAlike (Sure e) → IsAlike (Total e)
  sure_total e sure = (sure.0, texts_plain (in_rules e) sure.1)

  row_alike : (row : Expr) → row ≡ expr.Node (node.Name (codes "row")) → in_language row ≡ Some (ty.Row 0)
  row_alike row is = expression_type_is names row (node.Name (codes "row")) is

  row_in_rules : (row : Expr) → row ≡ expr.Node (node.Name (codes "row")) → in_rules row ≡ Some (ty.Row 0)
  row_in_rules row is = ap (λ (x : Expr). rule_type x names) is ∙ type_name (codes "row") names

  column_alike : (e row : Expr) (c : List ℕ) → e ≡ expr.Node (node.Member row c) → row ≡ expr.Node (node.Name (codes "row")) → IsAlike (Total e)
  column_alike e row c is of_row =
      alike_by are_plain e (node.Member row c) (member_type names c (Ty-F.Row 0)) is
      (ap (λ (o : Option Ty). option_and_then (λ t. type_of_member names c (out-Ty t)) o) (row_alike row of_row) ∙ ap (type_of_member names c) (outs-Row 0))
      (type_member row c names
      ∙ ap (λ (o : Option Ty). option_and_then (λ t. member_type names c (out-Ty t)) o) (row_in_rules row of_row) ∙ ap (member_type names c) (outs-Row 0))
      (plain_member names c (Ty-F.Row 0))

  choice_is : (c a b : Expr) → IsAlike (Total c) → (in_language a ≡ in_rules a) → (in_language b ≡ in_rules b) → IsPlain (in_rules a) → IsPlain (in_rules b)
      → node_type_in (node.Conditional c a b) names ≡ choice_type (is_bool_type (in_rules c)) (in_rules a) (in_rules b)
  choice_is c a b test left right a_plain b_plain =
      (λ i. type_of_conditional (is_bool_type (test.0 i)) (left i) (right i)) ∙ choice_alike (is_bool_type (in_rules c)) (in_rules a) (in_rules b) a_plain b_plain

  -- a search in a text, or in what has no type
  search_alike : (a b : Expr) (m : List ℕ) → IsSearch m → IsAlike (Sure a) → IsAlike (Sure b)
      → node_type_in (node.Method a m (argument.Value b ∷ [])) names ≡ truth_type (is_search m && is_text_type (in_rules a) && is_text_type (in_rules b))
  search_alike a b m looks left right = (λ i. searched (left.0 i) (right.0 i)) ∙ by (in_rules a) left.1 where
    searched : Option Ty → Option Ty → Option Ty
    searched o p =
        if is_text_type o then truth_type (is_search m && is_text_type p)
        else called_type (λ (t : Names → Option Ty). t) o (enumerable_call m (argument.Value (expression_type b) ∷ [])) names

    by : (o : Option Ty) → AreTexts o → searched o (in_rules b) ≡ truth_type (is_search m && is_text_type o && is_text_type (in_rules b))
    by None h = sym (ap (λ (c : Bool). truth_type (c && false && is_text_type (in_rules b))) (search_told looks))
    by (Some t) h =
        ap (λ (c : Bool). if c then truth_type (is_search m && is_text_type (in_rules b))
        else called_type (λ (u : Names → Option Ty). u) (Some t) (enumerable_call m (argument.Value (expression_type b) ∷ [])) names) h
        ∙ ap (λ (c : Bool). truth_type (c && is_text_type (in_rules b))) (search_told looks)
        ∙ sym (ap₂ (λ (c d : Bool). truth_type (c && d && is_text_type (in_rules b))) (search_told looks) h)

  alike : {claim : Claim} → Holds claim → IsAlike claim
  alike (total_integer e n is) = alike_by are_plain e (node.Integer n) (Some ty.Int) is refl (type_integer n names) (plain ty.Int Ty-F.Int outs-Int refl)
  alike (total_text e x is) = alike_by are_plain e (node.Text x) (Some ty.Str) is refl (type_text x names) (plain ty.Str Ty-F.Str outs-Str refl)
  alike (total_truth e b is) = alike_by are_plain e (node.Bool b) (Some ty.Bool) is refl (type_truth b names) (plain ty.Bool Ty-F.Bool outs-Bool refl)
  alike (total_null e is) = alike_by are_plain e node.Null (Some ty.Null) is refl (type_null names) (plain ty.Null Ty-F.Null outs-Null refl)
  alike (total_minus e a n is literal) =
      alike_by are_plain e (node.Unary unary.Minus a) (if_number (in_rules a)) is (ap if_number (expression_type_is names a (node.Integer _) literal ∙ sym (typed_as a (node.Integer _) (Some ty.Int) literal (type_integer _ names))))
      (type_minus a names) (plain_number (in_rules a))
  alike (total_column e row c is of_row) = column_alike e row c is of_row
  alike (total_user e is) = alike_by are_plain e (node.Name (codes "user")) (Some ty.Str) is refl (type_name (codes "user") names) (plain ty.Str Ty-F.Str outs-Str refl)
  alike (total_not e a is operand) =
      alike_by are_plain e (node.Unary unary.Not a) (truth_type (is_bool_type (in_rules a))) is (ap (λ (o : Option Ty). truth_type (is_bool_type o)) (alike operand).0) (type_not a names)
      (plain_truth (is_bool_type (in_rules a)))
  alike (total_and e a b is left right) =
      alike_by are_plain e (node.And a b) (truth_type (is_bool_type (in_rules a) && is_bool_type (in_rules b))) is
      (ap₂ (λ (o p : Option Ty). truth_type (is_bool_type o && is_bool_type p)) (alike left).0 (alike right).0) (type_both a b names) (plain_truth _)
  alike (total_or e a b is left right) =
      alike_by are_plain e (node.Or a b) (truth_type (is_bool_type (in_rules a) && is_bool_type (in_rules b))) is
      (ap₂ (λ (o p : Option Ty). truth_type (is_bool_type o && is_bool_type p)) (alike left).0 (alike right).0) (type_either a b names) (plain_truth _)
  alike (total_comparison e a b op is compares left right) =
      let a_alike = alike left in
      let b_alike = alike right in
      alike_by are_plain e (node.Binary op a b) (binary_type op (in_rules a) (in_rules b)) is
      (ap₂ (of_operands (type_of_operation op)) a_alike.0 b_alike.0 ∙ binary_alike op (in_rules a) (in_rules b) a_alike.1 b_alike.1) (type_binary op a b names)
      (plain_binary op (in_rules a) (in_rules b))
  alike (total_conditional e c a b is test left right) =
      let a_alike = alike left in
      let b_alike = alike right in
      alike_by are_plain e (node.Conditional c a b) (choice_type (is_bool_type (in_rules c)) (in_rules a) (in_rules b)) is
      (choice_is c a b (alike test) a_alike.0 b_alike.0 a_alike.1 b_alike.1) (type_choice c a b names)
      (plain_choice (is_bool_type (in_rules c)) (in_rules a) (in_rules b) a_alike.1 b_alike.1)
  alike (total_coalesce e a b is left right) =
      alike_by are_plain e (node.Coalesce a b) (of_operands coalesced (in_rules a) (in_rules b)) is (ap₂ (of_operands coalesced) (alike left).0 (alike right).0) (type_coalesce a b names)
      (plain_coalesce (in_rules a) (in_rules b))
  alike (total_has_value e a is operand) =
      let a_alike = alike operand in
      alike_by are_plain e (node.Member a (codes "HasValue")) (option_and_then (λ t. member_type names (codes "HasValue") (out-Ty t)) (in_rules a)) is
      (ap (λ (o : Option Ty). option_and_then (λ t. type_of_member names (codes "HasValue") (out-Ty t)) o) a_alike.0
      ∙ any_member_alike names (codes "HasValue") (in_rules a) a_alike.1) (type_member a (codes "HasValue") names)
      (plain_any_member names (codes "HasValue") (in_rules a))
  alike (total_division e a b op n is divides left literal) =
      let a_alike = alike left in
      let b_in_rules = typed_as b (node.Integer _) (Some ty.Int) literal (type_integer _ names) in
      alike_by are_plain e (node.Binary op a b) (binary_type op (in_rules a) (in_rules b)) is
      (ap₂ (of_operands (type_of_operation op)) a_alike.0 (expression_type_is names b (node.Integer _) literal ∙ sym b_in_rules)
      ∙ binary_alike op (in_rules a) (in_rules b) a_alike.1 (ap are_plain b_in_rules ∙ plain ty.Int Ty-F.Int outs-Int refl)) (type_binary op a b names)
      (plain_binary op (in_rules a) (in_rules b))
  alike (total_search e a b m is looks left right) =
      alike_by are_plain e (node.Method a m (argument.Value b ∷ [])) (truth_type (is_search m && is_text_type (in_rules a) && is_text_type (in_rules b))) is
      (search_alike a b m looks (alike left) (alike right)) (type_method a m (argument.Value b ∷ []) names) (plain_truth _)
  alike (sure_text e x is) = alike_by are_texts e (node.Text x) (Some ty.Str) is refl (type_text x names) (ap is_text outs-Str)
  alike (sure_user e is) = alike_by are_texts e (node.Name (codes "user")) (Some ty.Str) is refl (type_name (codes "user") names) (ap is_text outs-Str)
  alike (sure_coalesce e a b is left right) =
      let b_alike = alike right in
      alike_by are_texts e (node.Coalesce a b) (of_operands coalesced (in_rules a) (in_rules b)) is (ap₂ (of_operands coalesced) (alike left).0 b_alike.0) (type_coalesce a b names)
      (texts_coalesce (in_rules a) (in_rules b) b_alike.1)
  alike (sure_conditional e c a b is test left right) =
      let a_alike = alike left in
      let b_alike = alike right in
      alike_by are_texts e (node.Conditional c a b) (choice_type (is_bool_type (in_rules c)) (in_rules a) (in_rules b)) is
      (choice_is c a b (alike test) a_alike.0 b_alike.0 (texts_plain (in_rules a) a_alike.1) (texts_plain (in_rules b) b_alike.1)) (type_choice c a b names)
      (texts_choice (is_bool_type (in_rules c)) (in_rules a) (in_rules b) a_alike.1 b_alike.1)

-- a total expression has one type, or none, in the language and in the rule language
pub total_alike : (tables : List Schema) {e : Expr} → IsTotal e
    → expression_type e (record { tables = tables; predicates = []; session = []; locals = rule_locals }) ≡ rule_type e (record { tables = tables; predicates = []; session = []; locals = rule_locals })
total_alike tables total = (alike tables total).0

-- a total expression has no row's type
pub total_no_row : (tables : List Schema) {e : Expr} → Holds (Total e) → is_row_type (rule_type e (record { tables = tables; predicates = []; session = []; locals = rule_locals })) ≡ false
total_no_row tables total = plain_no_row _ (alike tables total).1
