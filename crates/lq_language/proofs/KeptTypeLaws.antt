-- What has a type in the rule language has it in the whole language.
use Rattle.std.proofs.Common.{◌≡◌, ◌∷◌, ◌&&◌, if◌then◌else◌, List, [], ℕ, Bool, true, false, Option, Some, None, codes, ap, ap₂, ◌∙◌, refl}
use Rattle.std.proofs.lemmas.Bool.{and_from}
use Rattle.std.proofs.lemmas.Option.{none-some}
use Rattle.lq_value.specs.declared.ty.Ty.{Ty, out-Ty}
use Rattle.lq_value.specs.declared.ty.Ty.TheOpen.{Ty-F}
use Rattle.lq_value.specs.declared.ty.Ty.TheVariants as ty
use Rattle.lq_value.specs.declared.ty.Ty.TheVariants.{outs-IntN, outs-Row, outs-Seq, outs-Str}
use Rattle.lq_language.specs.ClauseTyping.{expression_type}
use Rattle.lq_language.specs.EnumerableCalls.{enumerable_call}
use Rattle.lq_language.specs.Members.{is_search}
use Rattle.lq_language.specs.Names.{Names}
use Rattle.lq_language.specs.OperandTypes.{choice_type_of_layers, coalesced, if_number, is_equality, number_type, of_operands, operated_type, truth_type}
use Rattle.lq_language.specs.RuleTyping.{of_coalesced, of_equality, of_has_value, of_joined, of_length, of_null, of_ordering, of_search, of_text, of_value, of_integer, of_local, of_table, of_column, of_arithmetic, of_minus, of_choice, of_truth, of_not, of_both, of_either, of_host, HasRuleType}
use Rattle.lq_language.specs.RuleTypingLaws.{KeepsRuleTypes}
use Rattle.lq_language.specs.Typing.{are_null_tests, called_type, search_type, type_of_choice, type_of_conditional, type_of_operation, global_type, type_of_name}
use Rattle.lq_grammar.specs.declared.syntax.Argument.TheVariants as argument
use Rattle.lq_grammar.specs.declared.syntax.Binary.TheVariants as binary
use Rattle.lq_grammar.specs.declared.syntax.Expr.{Expr}
use Rattle.lq_grammar.specs.declared.syntax.Node.TheVariants as node
use Rattle.lq_grammar.specs.declared.syntax.Unary.TheVariants as unary
use Rattle.lq_language.proofs.ExpressionTypeLaws.{both_found, expression_type_is, member_found, operated_found, text_found, truth_found}
use Rattle.lq_language.proofs.HostTypeLemmas.{host_found}
use Rattle.lq_language.proofs.MemberLaws.{search_told}
use Rattle.lq_language.proofs.TypingLaws.{computes_alone, joined_found, numbers_compute, orders_alone, type_sound}

-- a method with one argument, of a text or not
abbrev method_kept : Names → Expr → Expr → List ℕ → Bool → Option Ty
method_kept names a b m is_searched =
    if is_searched then search_type (λ (t : Names → Option Ty). t) m (argument.Value (expression_type b) ∷ []) names
    else called_type (λ (t : Names → Option Ty). t) (expression_type a names) (enumerable_call m (argument.Value (expression_type b) ∷ [])) names

-- a comparison with null of what `Typing` knows no null of is a truth value too
tested_kept : (tested : Bool) (o : Option Ty) → o ≡ Some ty.Bool → (if tested then Some ty.Bool else o) ≡ Some ty.Bool
tested_kept true o h = refl
tested_kept false o h = h

chosen_kept : (s t : Ty-F Ty) (r : Ty) → choice_type_of_layers s t ≡ Some r → type_of_choice s t ≡ Some r
chosen_kept (Ty-F.Rec ms) (Ty-F.Rec ns) r h = absurd (none-some r h)
chosen_kept (Ty-F.Rec ms) Ty-F.Null r h = absurd (none-some r h)
chosen_kept Ty-F.Null (Ty-F.Rec ms) r h = absurd (none-some r h)
chosen_kept s t r h = h

kept : {names : Names} {e : Expr} {t : Ty} → HasRuleType names e t → expression_type e names ≡ Some t
kept (of_integer names e n is) = expression_type_is names e (node.Integer n) is
kept (of_local names e x t is local) = expression_type_is names e (node.Name x) is ∙ ap (type_of_name names x) local
kept (of_table names e x n is hidden table) =
    expression_type_is names e (node.Name x) is ∙ ap (type_of_name names x) hidden ∙ ap (global_type names x) table
kept (of_column names e row c n t is row_typed column) =
    expression_type_is names e (node.Member row c) is ∙ member_found names c row (ty.Row n) (Ty-F.Row n) (Some t) (kept row_typed) (outs-Row n) column
kept (of_text names e x is) = expression_type_is names e (node.Text x) is
kept (of_null names e is) = expression_type_is names e node.Null is
kept (of_has_value names e a is typed) =
    expression_type_is names e (node.Member a (codes "HasValue")) is
    ∙ member_found names (codes "HasValue") a ty.IntN Ty-F.IntN (Some ty.Bool) (kept typed) outs-IntN refl
kept (of_value names e a is typed) =
    expression_type_is names e (node.Member a (codes "Value")) is ∙ member_found names (codes "Value") a ty.IntN Ty-F.IntN (Some ty.Int) (kept typed) outs-IntN refl
kept (of_length names e a is typed) =
    expression_type_is names e (node.Member a (codes "Length")) is ∙ member_found names (codes "Length") a ty.Str Ty-F.Str (Some ty.Int) (kept typed) outs-Str refl
kept (of_search names e a b m is looks a_typed b_typed) =
    expression_type_is names e (node.Method a m (argument.Value b ∷ [])) is
    ∙ ap (method_kept names a b m) (text_found names a (kept a_typed))
    ∙ ap truth_type (and_from (is_search m) _ (search_told looks) (text_found names b (kept b_typed)))
kept (of_ordering names e a b op s t is orders a_typed s_number b_typed t_number) =
    expression_type_is names e (node.Binary op a b) is ∙ ap₂ (of_operands (type_of_operation op)) (kept a_typed) (kept b_typed)
    ∙ operated_found op (out-Ty s) (out-Ty t) ty.Bool (numbers_compute op (out-Ty s) (out-Ty t) (orders_alone op orders) s_number t_number
    ∙ ap (λ (c : Bool). Some (if c then ty.Bool else number_type (out-Ty s) (out-Ty t))) orders) (orders_alone op orders)
kept (of_equality names e a b op s t is compares a_typed b_typed comparable) =
    expression_type_is names e (node.Binary op a b) is ∙ ap₂ (of_operands (type_of_operation op)) (kept a_typed) (kept b_typed)
    ∙ tested_kept (is_equality op && are_null_tests (out-Ty s) (out-Ty t)) (operated_type op (out-Ty s) (out-Ty t)) (rw (compares, comparable) refl)
kept (of_arithmetic names e a b op s t is computes a_typed s_number b_typed t_number) =
    expression_type_is names e (node.Binary op a b) is ∙ ap₂ (of_operands (type_of_operation op)) (kept a_typed) (kept b_typed)
    ∙ operated_found op (out-Ty s) (out-Ty t) (number_type (out-Ty s) (out-Ty t)) (numbers_compute op (out-Ty s) (out-Ty t) (computes_alone op computes).0 s_number t_number
    ∙ ap (λ (c : Bool). Some (if c then ty.Bool else number_type (out-Ty s) (out-Ty t))) (computes_alone op computes).1) (computes_alone op computes).0
kept (of_joined names e a b s t is a_typed b_typed joins) =
    expression_type_is names e (node.Binary binary.Add a b) is ∙ ap₂ (of_operands (type_of_operation binary.Add)) (kept a_typed) (kept b_typed) ∙ joined_found (out-Ty s) (out-Ty t) joins
kept (of_minus names e a t is typed number) =
    expression_type_is names e (node.Unary unary.Minus a) is ∙ ap if_number (kept typed) ∙ ap (λ (c : Bool). if c then Some t else None) number
kept (of_truth names e b is) = expression_type_is names e (node.Bool b) is
kept (of_not names e a is typed) = expression_type_is names e (node.Unary unary.Not a) is ∙ ap truth_type (truth_found names a (kept typed))
kept (of_both names e a b is left right) = expression_type_is names e (node.And a b) is ∙ both_found names a b (kept left) (kept right)
kept (of_either names e a b is left right) = expression_type_is names e (node.Or a b) is ∙ both_found names a b (kept left) (kept right)
kept (of_coalesced names e a b s t r is a_typed b_typed gives) =
    expression_type_is names e (node.Coalesce a b) is ∙ ap₂ (of_operands coalesced) (kept a_typed) (kept b_typed) ∙ gives
kept (of_choice names e c a b s t r is c_typed a_typed b_typed chooses) =
    expression_type_is names e (node.Conditional c a b) is
    ∙ (λ i. type_of_conditional (truth_found names c (kept c_typed) i) (kept a_typed i) (kept b_typed i))
    ∙ chosen_kept (out-Ty s) (out-Ty t) r chooses
kept (of_host names e row p columns k n is known typed ints) =
    expression_type_is names e (node.Host p row columns) is ∙ host_found names p columns k n (expression_type row names) known (kept typed) ints

-- what has a type among rules has the same type in the language
pub rule_type_is_kept : (names : Names) (e : Expr) (t : Ty) → HasRuleType names e t → expression_type e names ≡ Some t
rule_type_is_kept names e t typed = kept typed

pub keeps_types : KeepsRuleTypes
keeps_types names e t h = kept (type_sound e names t h)
