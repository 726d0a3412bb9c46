-- What has a type in the rule language means in the whole language what it means there.
use Rattle.std.proofs.Common.{◌≡◌, ◌∷◌, if◌then◌else◌, List, [], ℕ, Bool, true, false, not, Option, Some, None, Result, Ok, Err, ap, ap₂, ◌∙◌, sym, refl, subst, codes, true≢false, option_and_then, slice_get}
use Rattle.std.proofs.lemmas.Bool.{and_from}
use Rattle.std.proofs.lemmas.Option.{none-some}
use Rattle.std.specs.Prelude.{is_some}
use Rattle.lq_value.specs.declared.scalar.Scalar.{Scalar}
use Rattle.lq_value.specs.declared.scalar.Scalar.TheVariants as scalar
use Rattle.lq_value.specs.declared.ty.Ty.{Ty, out-Ty}
use Rattle.lq_value.specs.declared.ty.Ty.TheOpen.{Ty-F}
use Rattle.lq_value.specs.declared.ty.Ty.TheVariants as ty
use Rattle.lq_value.specs.declared.ty.Ty.TheVariants.{outs-Bool, outs-Int, outs-IntN, outs-Row, outs-Seq, outs-Str}
use Rattle.lq_value.specs.declared.value.Fault.{Fault}
use Rattle.lq_value.specs.declared.value.Fault.TheVariants as fault
use Rattle.lq_value.specs.declared.value.Value.{Value, out-Value}
use Rattle.lq_value.specs.declared.value.Value.TheOpen.{Value-F}
use Rattle.lq_value.specs.declared.value.Value.TheVariants as value
use Rattle.lq_value.specs.declared.value.Value.TheVariants.{outs-Row as outs-value-Row, outs-Scalar, outs-Seq as outs-value-Seq}
use Rattle.lq_language.specs.ClauseTyping.{expression_type, source_type}
use Rattle.lq_language.specs.EnumerableCalls.{enumerable_call}
use Rattle.lq_language.specs.Maps.{map_node}
use Rattle.lq_language.specs.Worlds.{Meaning, Scope, World, names_at, or_null}
use Rattle.lq_language.specs.OperandMeaning.{as_value, host_value, is_null, member_value, name_value, on_comparand, on_scalar, on_truth, same_values, stream_of, table_value, equality_truth, truth_value}
use Rattle.lq_language.specs.RuleMeaning.{Meant, compared_meaning, rule_meaning, rule_meaning_step, rule_node_meaning, operated_meaning}
use Rattle.lq_language.specs.ValuesOfTypes.{HoldsRows, IsOf, is_scalar as is_scalar_value, is_row, is_sequence, IsOfScope, assuming}
use Rattle.lq_language.specs.Members.{is_search, member_named}
use Rattle.lq_language.specs.Operations.{negated, of_member, on_ok}
use Rattle.lq_language.specs.Names.{Names, local_type, table_number}
use Rattle.lq_language.specs.OperandTypes.{is_equality, is_text, is_text_type, item_of, number_type, row_table, truth_type}
use Rattle.lq_language.specs.RuleTyping.{of_integer, of_local, of_table, of_column, of_text, of_null, of_has_value, of_value, of_length, of_search, of_ordering, of_equality, of_arithmetic, of_joined, of_coalesced, of_minus, of_choice, of_truth, of_not, of_both, of_either, of_host, HasRuleType, rule_type}
use Rattle.lq_language.specs.Meaning.{as_sequence, called_meaning, expression_meaning, global_value, has_members, is_sequence_layer, search_meaning, settled, equality_meaning, node_meaning, value_of_member, value_of_name, same_operands}
use Rattle.lq_language.specs.MeaningLaws.{KeepsRuleMeanings}
use Rattle.lq_language.specs.Typing.{called_type, method_type, search_type, type_of_member}
use Rattle.lq_grammar.specs.declared.syntax.Argument.TheVariants as argument
use Rattle.lq_grammar.specs.declared.syntax.Binary.{Binary}
use Rattle.lq_grammar.specs.declared.syntax.Binary.TheVariants as binary
use Rattle.lq_grammar.specs.declared.syntax.Expr.{Expr}
use Rattle.lq_grammar.specs.declared.syntax.Expr.TheVariants as expr
use Rattle.lq_grammar.specs.declared.syntax.Node.{Node}
use Rattle.lq_grammar.specs.declared.syntax.Node.TheVariants as node
use Rattle.lq_grammar.specs.declared.syntax.Unary.TheVariants as unary
use Rattle.lq_language.proofs.ItemLaws.{has_binding, no_binding}
use Rattle.lq_language.proofs.LayerLaws.{para_node}
use Rattle.lq_language.proofs.MeaningLaws.{value_of_type}
use Rattle.lq_language.proofs.MemberLaws.{search_told}
use Rattle.lq_language.proofs.ScalarResultLaws.{no_items_before, no_items_behind}
use Rattle.lq_language.proofs.ItemlessTypes.{columns_are_scalars}
use Rattle.lq_language.proofs.TypedValues.{comparand_there}
use Rattle.lq_language.proofs.TypingLaws.{computes_alone, orders_alone, type_complete}
use Rattle.lq_language.proofs.KeptMeanings.{beside, meaning_of_node}
use Rattle.lq_language.proofs.ExpressionTypeLaws.{type_of_node}
use Rattle.lq_language.proofs.KeptTypeLaws.{rule_type_is_kept}

-- ---- layers

not_sequence : (layer : Ty-F Ty) → item_of layer ≡ None → is_sequence_layer layer ≡ false
not_sequence (Ty-F.Seq t) h = absurd (none-some t (sym h))
not_sequence layer h = refl

-- a layer that `Meaning` knows
abbrev is_known : Ty-F Ty → Bool
is_known (Ty-F.Rec ms) = false
is_known layer = true

null_same : {R : Type 0} (layer : Ty-F Ty) → is_known layer ≡ true → (o : Result Scalar Fault)
    → (if has_members layer then Err fault.NullReference else as_value {R = R} (if is_some (row_table layer) then Err fault.NullReference else o))
    ≡ as_value (if is_some (row_table layer) then Err fault.NullReference else o)
null_same (Ty-F.Rec ms) h o = absurd (true≢false (sym h))
null_same (Ty-F.Row n) h o = refl
null_same layer h o = refl

on_ok_same : {A B : Type 0} (k l : A → Result B Fault) (m : Result A Fault) → ((x : A) → m ≡ Ok x → k x ≡ l x) → on_ok m k ≡ on_ok m l
on_ok_same k l (Ok x) h = h x refl
on_ok_same k l (Err f) h = refl

module _ {R : Type 0} (world : World R) (holds : HoldsRows world) (unknown : Fault) where
  abbrev W : World R
  W = assuming unknown world

  abbrev in_language : Expr → Meaning R
  in_language = expression_meaning W

  abbrev in_rules : Expr → Meaning R
  in_rules = rule_meaning W

  abbrev beside_in_rules : Expr → Meant R
  beside_in_rules e = (e, in_rules e)

  node_in_rules : (n : Node Expr) (scope : Scope R) → in_rules (expr.Node n) scope ≡ rule_node_meaning W rule_type (map_node beside_in_rules n) scope
  unfolding rule_meaning
  node_in_rules n scope = ap (λ (m : Meaning R). m scope) (para_node (Meaning R) (rule_meaning_step W) n)

  abbrev At : Names → Scope R → Type 0
  At names scope = (names ≡ names_at world scope) × IsOfScope world scope

  abbrev IsKept : Names → Expr → Ty → Type 0
  IsKept names e t = (scope : Scope R) → At names scope → in_language e scope ≡ in_rules e scope

  node_kept : (e : Expr) (n : Node Expr) (scope : Scope R) → e ≡ expr.Node n
      → node_meaning W expression_type (map_node (beside W) n) scope ≡ rule_node_meaning W rule_type (map_node beside_in_rules n) scope → in_language e scope ≡ in_rules e scope
  node_kept e n scope is h =
      ap (λ (x : Expr). in_language x scope) is ∙ meaning_of_node W n scope ∙ h ∙ sym (node_in_rules n scope) ∙ ap (λ (x : Expr). in_rules x scope) (sym is)

  typed_at : (names : Names) (e : Expr) (t : Ty) (scope : Scope R) → At names scope → HasRuleType names e t → expression_type e (names_at world scope) ≡ Some t
  typed_at names e t scope at typed = ap (expression_type e) (sym at.0) ∙ rule_type_is_kept names e t typed

  at_in_rules : (names : Names) (e : Expr) (t : Ty) (scope : Scope R) → At names scope → HasRuleType names e t → rule_type e (names_at world scope) ≡ Some t
  at_in_rules names e t scope at typed = ap (rule_type e) (sym at.0) ∙ type_complete names typed

  value_at : (names : Names) (e : Expr) (t : Ty) (scope : Scope R) → At names scope → HasRuleType names e t → (v : Value R) → in_rules e scope ≡ Ok v → IsOf world t v
  value_at names e t scope at typed = value_of_type world holds unknown names e t typed scope at.0 at.1

  -- what isn't a sequence is as it is
  unsettled : (t : Ty) (o : Option Ty) (found : Result (Value R) Fault) → o ≡ Some t → item_of (out-Ty t) ≡ None → settled W o found ≡ found
  unsettled t o found is none =
      ap (λ (p : Option Ty). settled W p found) is ∙ ap (λ (b : Bool). if b then as_sequence (stream_of W found) else found) (not_sequence (out-Ty t) none)

  -- ---- members

  scalar_member_same : (s : Ty) (m : List ℕ) (x : Scalar) → is_known (out-Ty s) ≡ true → value_of_member W (Some s) m (Value-F.Scalar x) ≡ member_value W (Some s) m (Value-F.Scalar x)
  scalar_member_same s m scalar.Null known = null_same (out-Ty s) known (of_member W.unknown (member_named m) scalar.Null)
  scalar_member_same s m (scalar.Int n) known = refl
  scalar_member_same s m (scalar.Bool b) known = refl
  scalar_member_same s m (scalar.Text x) known = refl

  abbrev SameMember : Ty → List ℕ → Value-F R (Value R) → Type 0
  SameMember s m layer = value_of_member W (Some s) m layer ≡ member_value W (Some s) m layer

  member_same : (s : Ty) (m : List ℕ) (v : Value R) → is_known (out-Ty s) ≡ true → IsOf world s v → SameMember s m (out-Value R v)
  member_same s m _ known (is_scalar_value _ x fits) = subst (SameMember s m) (sym (outs-Scalar x)) (scalar_member_same s m x known)
  member_same s m _ known (is_row _ n r is cells) = subst (SameMember s m) (sym (outs-value-Row r)) refl
  member_same s m _ known (is_sequence _ item xs e is items) = subst (SameMember s m) (sym (outs-value-Seq xs e)) refl

  member_kept : (names : Names) (e a : Expr) (m : List ℕ) (s t : Ty) → e ≡ expr.Node (node.Member a m) → HasRuleType names e t → HasRuleType names a s → item_of (out-Ty t) ≡ None
      → is_known (out-Ty s) ≡ true → IsKept names a s → IsKept names e t
  member_kept names e a m s t is typed a_typed none known alike scope at =
      node_kept e (node.Member a m) scope is
      (unsettled t (option_and_then (λ u. type_of_member (names_at world scope) m (out-Ty u)) (expression_type a (names_at world scope))) _
      (sym (type_of_node (node.Member a m) (names_at world scope)) ∙ ap (λ (x : Expr). expression_type x (names_at world scope)) (sym is) ∙ typed_at names e t scope at typed) none
      ∙ ap (λ (o : Result (Value R) Fault). on_ok o (λ v. value_of_member W (expression_type a (names_at world scope)) m (out-Value R v))) (alike scope at)
      ∙ on_ok_same _ _ (in_rules a scope)
      (λ v found. ap (λ (o : Option Ty). value_of_member W o m (out-Value R v)) (typed_at names a s scope at a_typed)
      ∙ member_same s m v known (value_at names a s scope at a_typed v found)
      ∙ ap (λ (o : Option Ty). member_value W o m (out-Value R v)) (sym (at_in_rules names a s scope at a_typed))))

  -- ---- operators

  operated_kept : (names : Names) (e a b : Expr) (op : Binary) (s t r : Ty) → e ≡ expr.Node (node.Binary op a b) → is_equality op ≡ false → HasRuleType names a s → HasRuleType names b t
      → IsKept names a s → IsKept names b t → IsKept names e r
  operated_kept names e a b op s t r is other a_typed b_typed a_kept b_kept scope at =
      node_kept e (node.Binary op a b) scope is
      (ap (λ (c : Bool). if c then equality_meaning W op (in_language a scope) (in_language b scope)
      else (if c then compared_meaning W op (in_language a scope) (in_language b scope)
      else operated_meaning W op (expression_type a (names_at world scope)) (expression_type b (names_at world scope)) (in_language a scope) (in_language b scope))) other
      ∙ ap₂ (λ (o p : Option Ty). operated_meaning W op o p (in_language a scope) (in_language b scope)) (typed_at names a s scope at a_typed ∙ sym (at_in_rules names a s scope at a_typed))
      (typed_at names b t scope at b_typed ∙ sym (at_in_rules names b t scope at b_typed))
      ∙ ap₂ (λ (m n : Result (Value R) Fault). operated_meaning W op (rule_type a (names_at world scope)) (rule_type b (names_at world scope)) m n) (a_kept scope at) (b_kept scope at)
      ∙ ap (λ (c : Bool). if c then compared_meaning W op (in_rules a scope) (in_rules b scope)
      else operated_meaning W op (rule_type a (names_at world scope)) (rule_type b (names_at world scope)) (in_rules a scope) (in_rules b scope)) (sym other))

  -- layers that `Meaning` compares
  abbrev is_compared : Value-F R (Value R) → Bool
  is_compared (Value-F.Rec ms) = false
  is_compared (Value-F.Group key xs) = false
  is_compared layer = true

  layers_same : (x y : Value-F R (Value R)) → is_compared x ≡ true → is_compared y ≡ true → same_operands W x y ≡ same_values W x y
  layers_same (Value-F.Rec ms) y h i = absurd (true≢false (sym h))
  layers_same (Value-F.Group key xs) y h i = absurd (true≢false (sym h))
  layers_same (Value-F.Scalar scalar.Null) (Value-F.Rec ms) h i = absurd (true≢false (sym i))
  layers_same (Value-F.Scalar scalar.Null) (Value-F.Group key xs) h i = absurd (true≢false (sym i))
  layers_same (Value-F.Scalar scalar.Null) (Value-F.Scalar s) h i = refl
  layers_same (Value-F.Scalar scalar.Null) (Value-F.Row r) h i = refl
  layers_same (Value-F.Scalar scalar.Null) (Value-F.Seq xs e) h i = refl
  layers_same (Value-F.Scalar (scalar.Int n)) y h i = refl
  layers_same (Value-F.Scalar (scalar.Bool b)) y h i = refl
  layers_same (Value-F.Scalar (scalar.Text t)) y h i = refl
  layers_same (Value-F.Row r) y h i = refl
  layers_same (Value-F.Seq xs e) y h i = refl

  compared_there : (t : Ty) (v : Value R) → IsOf world t v → is_compared (out-Value R v) ≡ true
  compared_there t _ (is_scalar_value _ x fits) = ap is_compared (outs-Scalar x)
  compared_there t _ (is_row _ n r is cells) = ap is_compared (outs-value-Row r)
  compared_there t _ (is_sequence _ item xs e is items) = ap is_compared (outs-value-Seq xs e)

  comparand_step : (t : Ty) (m : Result (Value R) Fault) → ((item : Ty) → item_of (out-Ty t) ≡ Some item → ⊥) → ((v : Value R) → m ≡ Ok v → IsOf world t v)
      → (k : Value R → Result (Value R) Fault) (l : Value-F R (Value R) → Result (Value R) Fault) → ((v : Value R) → IsOf world t v → k v ≡ l (out-Value R v))
      → on_ok m k ≡ on_comparand W m l
  comparand_step t (Ok v) none fits k l same = same v (fits v refl) ∙ ap (λ (o : Result (Value-F R (Value R)) Fault). on_ok o l) (sym (comparand_there world unknown t v none (fits v refl)))
  comparand_step t (Err x) none fits k l same = refl

  equality_kept : (names : Names) (e a b : Expr) (op : Binary) (s t : Ty) → e ≡ expr.Node (node.Binary op a b) → is_equality op ≡ true
      → ((item : Ty) → item_of (out-Ty s) ≡ Some item → ⊥) → ((item : Ty) → item_of (out-Ty t) ≡ Some item → ⊥) → HasRuleType names a s → HasRuleType names b t
      → IsKept names a s → IsKept names b t → IsKept names e ty.Bool
  equality_kept names e a b op s t is same s_none t_none a_typed b_typed a_kept b_kept scope at =
      node_kept e (node.Binary op a b) scope is
      (ap (λ (c : Bool). if c then equality_meaning W op (in_language a scope) (in_language b scope)
      else (if c then compared_meaning W op (in_language a scope) (in_language b scope)
      else operated_meaning W op (expression_type a (names_at world scope)) (expression_type b (names_at world scope)) (in_language a scope) (in_language b scope))) same
      ∙ ap₂ (equality_meaning W op) (a_kept scope at) (b_kept scope at)
      ∙ comparand_step s (in_rules a scope) s_none (value_at names a s scope at a_typed) _ _
      (λ v v_fits. comparand_step t (in_rules b scope) t_none (value_at names b t scope at b_typed) _ _
      (λ w w_fits. ap (λ (o : Result Bool Fault). on_ok o (λ equal. Ok (truth_value (equality_truth op equal))))
      (layers_same (out-Value R v) (out-Value R w) (compared_there s v v_fits) (compared_there t w w_fits))))
      ∙ ap (λ (c : Bool). if c then compared_meaning W op (in_rules a scope) (in_rules b scope)
      else operated_meaning W op (rule_type a (names_at world scope)) (rule_type b (names_at world scope)) (in_rules a scope) (in_rules b scope)) (sym same))

  -- ---- searches

  search_kept : (names : Names) (e a b : Expr) (m : List ℕ) → e ≡ expr.Node (node.Method a m (argument.Value b ∷ [])) → HasRuleType names e ty.Bool → HasRuleType names a ty.Str
      → IsKept names a ty.Str → IsKept names b ty.Str → is_search m ≡ true → HasRuleType names b ty.Str → IsKept names e ty.Bool
  search_kept names e a b m is typed a_typed a_kept b_kept looks b_typed scope at =
      node_kept e (node.Method a m (argument.Value b ∷ [])) scope is
      (unsettled ty.Bool _ _ here_typed (ap item_of outs-Bool)
      ∙ ap (λ (c : Bool). if c then search_meaning W expression_type (in_language a scope) m (in_language b scope)
      else called_meaning W expression_type (enumerable_call m (argument.Value (beside W b) ∷ [])) (or_null (source_type expression_type a (names_at world scope))) (in_language a scope) scope) text
      ∙ ap₂ (λ (x y : Result (Value R) Fault). search_meaning W expression_type x m y) (a_kept scope at) (b_kept scope at))
    where
      text : is_text_type (expression_type a (names_at world scope)) ≡ true
      text = ap is_text_type (typed_at names a ty.Str scope at a_typed) ∙ ap is_text outs-Str

      looked : is_text_type (expression_type b (names_at world scope)) ≡ true
      looked = ap is_text_type (typed_at names b ty.Str scope at b_typed) ∙ ap is_text outs-Str

      here_typed : method_type (λ (x : Meant R). expression_type x.0) (beside W a) m (argument.Value (beside W b) ∷ []) (names_at world scope) ≡ Some ty.Bool
      here_typed =
          ap (λ (c : Bool). if c then search_type (λ (x : Meant R). expression_type x.0) m (argument.Value (beside W b) ∷ []) (names_at world scope)
          else called_type (λ (x : Meant R). expression_type x.0) (expression_type a (names_at world scope)) (enumerable_call m (argument.Value (beside W b) ∷ [])) (names_at world scope)) text
          ∙ ap truth_type (and_from (is_search m) _ looks looked)

  -- ---- by the rules

  kept_meaning : {names : Names} {e : Expr} {t : Ty} → HasRuleType names e t → IsKept names e t
  kept_meaning (of_integer names e n is) = λ scope at. node_kept e (node.Integer n) scope is refl
  kept_meaning (of_local names e x t is local) = λ scope at.
      let there = has_binding world x scope t at.1 (ap (λ (ns : Names). local_type x ns.locals) (sym at.0) ∙ local) in
      node_kept e (node.Name x) scope is (ap (value_of_name W x) there.1 ∙ sym (ap (name_value W x) there.1))
  kept_meaning (of_table names e x n is hidden table) = λ scope at.
      let none = no_binding x scope (ap (λ (ns : Names). local_type x ns.locals) (sym at.0) ∙ hidden) in
      let number = ap (λ (ns : Names). table_number x ns.tables) (sym at.0) ∙ table in
      node_kept e (node.Name x) scope is
      (ap (value_of_name W x) none ∙ ap (global_value W x) number
      ∙ sym (ap (name_value W x) none ∙ ap (λ (o : Option ℕ). table_value W (option_and_then (λ k. slice_get world.rows k) o)) number))
  kept_meaning (of_column names e row c n t is typed column) =
      member_kept names e row c (ty.Row n) t is (of_column names e row c n t is typed column) typed (columns_are_scalars names.tables n c t column) (ap is_known (outs-Row n)) (kept_meaning typed)
  kept_meaning (of_text names e x is) = λ scope at. node_kept e (node.Text x) scope is refl
  kept_meaning (of_null names e is) = λ scope at. node_kept e node.Null scope is refl
  kept_meaning (of_has_value names e a is typed) =
      member_kept names e a (codes "HasValue") ty.IntN ty.Bool is (of_has_value names e a is typed) typed (ap item_of outs-Bool) (ap is_known outs-IntN) (kept_meaning typed)
  kept_meaning (of_value names e a is typed) =
      member_kept names e a (codes "Value") ty.IntN ty.Int is (of_value names e a is typed) typed (ap item_of outs-Int) (ap is_known outs-IntN) (kept_meaning typed)
  kept_meaning (of_length names e a is typed) =
      member_kept names e a (codes "Length") ty.Str ty.Int is (of_length names e a is typed) typed (ap item_of outs-Int) (ap is_known outs-Str) (kept_meaning typed)
  kept_meaning (of_search names e a b m is looks a_typed b_typed) =
      search_kept names e a b m is (of_search names e a b m is looks a_typed b_typed) a_typed (kept_meaning a_typed) (kept_meaning b_typed) (search_told looks) b_typed
  kept_meaning (of_ordering names e a b op s t is orders a_typed s_number b_typed t_number) =
      operated_kept names e a b op s t ty.Bool is (orders_alone op orders) a_typed b_typed (kept_meaning a_typed) (kept_meaning b_typed)
  kept_meaning (of_equality names e a b op s t is same a_typed b_typed compares) =
      equality_kept names e a b op s t is same (λ item. no_items_before (out-Ty s) (out-Ty t) item compares) (λ item. no_items_behind (out-Ty s) (out-Ty t) item compares)
      a_typed b_typed (kept_meaning a_typed) (kept_meaning b_typed)
  kept_meaning (of_arithmetic names e a b op s t is computes a_typed s_number b_typed t_number) =
      operated_kept names e a b op s t (number_type (out-Ty s) (out-Ty t)) is (computes_alone op computes).0 a_typed b_typed (kept_meaning a_typed) (kept_meaning b_typed)
  kept_meaning (of_joined names e a b s t is a_typed b_typed joins) = operated_kept names e a b binary.Add s t ty.Str is refl a_typed b_typed (kept_meaning a_typed) (kept_meaning b_typed)
  kept_meaning (of_minus names e a t is typed number) = λ scope at.
      node_kept e (node.Unary unary.Minus a) scope is (ap (λ (m : Result (Value R) Fault). on_scalar W m (λ s. as_value (negated W.unknown s))) (kept_meaning typed scope at))
  kept_meaning (of_truth names e b is) = λ scope at. node_kept e (node.Bool b) scope is refl
  kept_meaning (of_not names e a is typed) = λ scope at.
      node_kept e (node.Unary unary.Not a) scope is (ap (λ (m : Result (Value R) Fault). on_truth W m (λ t. Ok (truth_value (not t)))) (kept_meaning typed scope at))
  kept_meaning (of_both names e a b is a_typed b_typed) = λ scope at.
      node_kept e (node.And a b) scope is
      (ap₂ (λ (m n : Result (Value R) Fault). on_truth W m (λ t. if t then n else Ok (truth_value false))) (kept_meaning a_typed scope at) (kept_meaning b_typed scope at))
  kept_meaning (of_either names e a b is a_typed b_typed) = λ scope at.
      node_kept e (node.Or a b) scope is
      (ap₂ (λ (m n : Result (Value R) Fault). on_truth W m (λ t. if t then Ok (truth_value true) else n)) (kept_meaning a_typed scope at) (kept_meaning b_typed scope at))
  kept_meaning (of_coalesced names e a b s t r is a_typed b_typed gives) = λ scope at.
      node_kept e (node.Coalesce a b) scope is
      (ap₂ (λ (m n : Result (Value R) Fault). on_scalar W m (λ s. if is_null s then n else Ok (value.Scalar s))) (kept_meaning a_typed scope at) (kept_meaning b_typed scope at))
  kept_meaning (of_choice names e c a b s t r is c_typed a_typed b_typed chooses) = λ scope at.
      node_kept e (node.Conditional c a b) scope is
      (λ i. on_truth W (kept_meaning c_typed scope at i) (λ t. if t then kept_meaning a_typed scope at i else kept_meaning b_typed scope at i))
  kept_meaning (of_host names e row p columns k n is known typed ints) = λ scope at.
      node_kept e (node.Host p row columns) scope is
      (ap (λ (m : Result (Value R) Fault). on_ok m (λ v. host_value W p columns (out-Value R v))) (kept_meaning typed scope at))

pub keeps_meanings : {R : Type 0} → KeepsRuleMeanings R
keeps_meanings world holds scope fits e t typed unknown = kept_meaning world holds unknown typed scope (refl, fits)
