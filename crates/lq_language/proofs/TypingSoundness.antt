-- What the function of typing finds is what its rules give.
use Rattle.std.proofs.Common.{◌≡◌, ◌∷◌, ◌&&◌, ◌||◌, if◌then◌else◌, List, [], map, ℕ, Bool, true, false, Option, Some, None, codes, bytes_eq, ap, ap₂, ◌∙◌, sym, refl, subst, option_and_then, option_map, true≢false}
use Rattle.std.proofs.lemmas.Bool.{and_parts}
use Rattle.std.proofs.lemmas.Option.{none-some, option_and_then_some, same_Some}
use Rattle.lq_value.specs.declared.ty.Ty.{Ty, out-Ty}
use Rattle.lq_value.specs.declared.ty.Ty.TheOpen.{Ty-F}
use Rattle.lq_value.specs.declared.ty.Ty.TheVariants as ty
use Rattle.lq_language.specs.ClauseTyping.{are_join_keys, body_items, continued_items, element_type, expression_type, has_place, if_placed, is_fresh, is_key, is_sort_key, is_within, last_type, are_sort_keys, matched_name, matched_type, names_after, names_after_all, query_items, sole_name, source_type, when}
use Rattle.lq_language.specs.EnumerableCalls.{EnumerableCall, Given, Through, By, Plain, With, enumerable_call, method_with_lambda, method_with_value, simple_method}
use Rattle.lq_language.specs.EnumerableCalls as called
use Rattle.lq_language.specs.Maps.{map_argument, map_body, map_clause, map_field, map_join, map_key, map_last, map_next, map_node, map_query}
use Rattle.lq_language.specs.Members.{is_search}
use Rattle.lq_language.specs.Names.{Names, local_type, table_number, with_local, session_name}
use Rattle.lq_language.specs.OperandTypes.{are_comparable, are_joined, coalesced, if_number, is_bool_type, is_equality, is_number, is_ordering, is_text_type, joined_type, number_type, of_operands, result_type, truth_type}
use Rattle.lq_language.specs.TypingRules.{Has, Gives, Members, Sorts, Leads, LeadAll, Ends, BodyGives, Continues, QueryGives, IsRight}
use Rattle.lq_language.specs.TypingRules as rule
use Rattle.lq_language.specs.Typing.{are_distinct, are_null_tests, called_type, enumerable_type, given_type, members_type, search_type, through_type, type_of_choice, type_of_conditional, type_of_member, type_of_operation, node_type, global_type, type_of_name}
use Rattle.lq_grammar.specs.declared.syntax.Argument.{Argument}
use Rattle.lq_grammar.specs.declared.syntax.Argument.TheVariants as argument
use Rattle.lq_grammar.specs.declared.syntax.Binary.{Binary}
use Rattle.lq_grammar.specs.declared.syntax.Binary.TheVariants as binary
use Rattle.lq_grammar.specs.declared.syntax.Body.{Body}
use Rattle.lq_grammar.specs.declared.syntax.Clause.{Clause}
use Rattle.lq_grammar.specs.declared.syntax.Clause.TheVariants as clause
use Rattle.lq_grammar.specs.declared.syntax.Continuation.{Continuation}
use Rattle.lq_grammar.specs.declared.syntax.Expr.{Expr}
use Rattle.lq_grammar.specs.declared.syntax.Expr.TheVariants as expr
use Rattle.lq_grammar.specs.declared.syntax.Field.{Field}
use Rattle.lq_grammar.specs.declared.syntax.Join.{Join}
use Rattle.lq_grammar.specs.declared.syntax.Last.{Last}
use Rattle.lq_grammar.specs.declared.syntax.Last.TheVariants as last
use Rattle.lq_grammar.specs.declared.syntax.Node.{Node}
use Rattle.lq_grammar.specs.declared.syntax.Node.TheVariants as node
use Rattle.lq_grammar.specs.declared.syntax.Query.{Query}
use Rattle.lq_grammar.specs.declared.syntax.SortKey.{SortKey}
use Rattle.lq_grammar.specs.declared.syntax.Unary.TheVariants as unary
use Rattle.lq_language.proofs.ExpressionTypeLaws.{type_of_node, type_of_query}
use Rattle.lq_language.proofs.FindingLaws.{fresh_none, if_by, map_by, operands_by, truth_by, when_by}
use Rattle.lq_language.proofs.HostTypeLemmas.{host_by}
use Rattle.lq_language.proofs.LayerLaws.{With as Beside, base, of_every}
use Rattle.lq_language.proofs.MemberLaws.{search_given}
use Rattle.lq_language.proofs.TypingLaws.{compares_not, is_of_layer, is_text_of, is_truth, named, type_with}

abbrev Sound : Expr → Type 0
Sound e = (names : Names) (t : Ty) → expression_type e names ≡ Some t → IsRight (Has names e t)

abbrev Such : Type 0
Such = Beside Sound

abbrev plain : Such → Expr
plain z = z.0

-- ---- truth values, texts and what is enumerated

condition_by : (names : Names) (z : Such) (o : Option Ty) → expression_type z.0 names ≡ o → is_bool_type o ≡ true → IsRight (Has names z.0 ty.Bool)
condition_by names z None is h = absurd (true≢false (sym h))
condition_by names z (Some t) is h = subst (λ (s : Ty). IsRight (Has names z.0 s)) (is_truth t h) (z.1 names t is)

condition_sound : (names : Names) (z : Such) → is_bool_type (expression_type z.0 names) ≡ true → IsRight (Has names z.0 ty.Bool)
condition_sound names z h = condition_by names z (expression_type z.0 names) refl h

text_by : (names : Names) (z : Such) (o : Option Ty) → expression_type z.0 names ≡ o → is_text_type o ≡ true → IsRight (Has names z.0 ty.Str)
text_by names z None is h = absurd (true≢false (sym h))
text_by names z (Some t) is h = subst (λ (s : Ty). IsRight (Has names z.0 s)) (is_text_of t h) (z.1 names t is)

text_sound : (names : Names) (z : Such) → is_text_type (expression_type z.0 names) ≡ true → IsRight (Has names z.0 ty.Str)
text_sound names z h = text_by names z (expression_type z.0 names) refl h

gives_sound : (names : Names) (z : Such) (t : Ty) → source_type expression_type z.0 names ≡ Some t → IsRight (Gives names z.0 t)
gives_sound names z t h =
    option_and_then_some (λ s. element_type (out-Ty s)) (expression_type z.0 names) t h (λ s is found. rule.enumerated names z.0 s t (z.1 names s is) found)

placed_sound : {P : Type 0} (o : Option Ty) (t : Ty) → if_placed o ≡ Some t → (o ≡ Some t → has_place (out-Ty t) ≡ true → P) → P
placed_sound o t h next =
    option_and_then_some (λ s. when (has_place (out-Ty s)) (Some s)) o t h
    (λ s is found. when_by (has_place (out-Ty s)) (Some s) t found
    (λ placed same. next (is ∙ same) (subst (λ (u : Ty). has_place (out-Ty u) ≡ true) (same_Some s t same) placed)))

-- ---- forms

module _ (names : Names) (t : Ty) where
  -- the type that an expression is right to have
  abbrev HasIt : Expr → Type 0
  HasIt e = IsRight (Has names e t)

  abbrev Right : Expr → Ty → Type 0
  Right e s = IsRight (Has names e s)

  same_type : (e : Expr) (s : Ty) → s ≡ t → Right e s → HasIt e
  same_type e s h right = subst (Right e) h right

  global_sound : (x : List ℕ) → local_type x names.locals ≡ None → (o : Option ℕ) → table_number x names.tables ≡ o → global_type names x o ≡ Some t
      → HasIt (expr.Node (node.Name x))
  global_sound x hidden (Some n) is h = same_type _ (ty.Seq (ty.Row n)) (same_Some _ t h) (rule.of_table names _ x n refl hidden is)
  global_sound x hidden None is h =
      map_by (λ known. known.ty) (session_name x names.session) t h
      (λ known there same. same_type _ known.ty same (rule.of_session names _ x known refl hidden is there))

  name_sound : (x : List ℕ) (o : Option Ty) → local_type x names.locals ≡ o → type_of_name names x o ≡ Some t → HasIt (expr.Node (node.Name x))
  name_sound x (Some s) is h = rule.of_local names _ x t refl (is ∙ h)
  name_sound x None is h = global_sound x is (table_number x names.tables) refl h

  value_sound : (a : Expr) (m : List ℕ) → Right a ty.IntN → (if bytes_eq m (codes "Value") then Some ty.Int else None) ≡ Some t → HasIt (expr.Node (node.Member a m))
  value_sound a m typed h =
      if_by (bytes_eq m (codes "Value")) ty.Int t h (λ same found. same_type _ ty.Int found (rule.of_value names _ a (named a m (codes "Value") same) typed))

  int_sound : (a : Expr) (m : List ℕ) → Right a ty.IntN → (b : Bool) → bytes_eq m (codes "HasValue") ≡ b
      → (if b then Some ty.Bool else (if bytes_eq m (codes "Value") then Some ty.Int else None)) ≡ Some t → HasIt (expr.Node (node.Member a m))
  int_sound a m typed true same h =
      same_type _ ty.Bool (same_Some ty.Bool t h) (rule.of_has_value names _ a (named a m (codes "HasValue") same) typed)
  int_sound a m typed false same h = value_sound a m typed h

  -- by the layer of what it is a member of
  member_sound : (a : Expr) (m : List ℕ) (layer : Ty-F Ty) → Right a (type_with layer) → type_of_member names m layer ≡ Some t → HasIt (expr.Node (node.Member a m))
  member_sound a m (Ty-F.Row n) typed h = rule.of_column names _ a m n t refl typed h
  member_sound a m (Ty-F.Rec members) typed h = rule.of_member names _ a m members t refl typed h
  member_sound a m (Ty-F.Group k s) typed h =
      if_by (bytes_eq m (codes "Key")) k t h (λ same found. same_type _ k found (rule.of_key names _ a k s (named a m (codes "Key") same) typed))
  member_sound a m Ty-F.IntN typed h = int_sound a m typed (bytes_eq m (codes "HasValue")) refl h
  member_sound a m Ty-F.Str typed h =
      if_by (bytes_eq m (codes "Length")) ty.Int t h (λ same found. same_type _ ty.Int found (rule.of_length names _ a (named a m (codes "Length") same) typed))
  member_sound a m layer typed h = absurd (none-some t h)

  -- ---- operators

  module _ (op : Binary) (a b : Expr) (r s : Ty) (a_typed : Right a r) (b_typed : Right b s) where
    abbrev form : Expr
    form = expr.Node (node.Binary op a b)

    result_sound : is_equality op ≡ false → is_number (out-Ty r) ≡ true → is_number (out-Ty s) ≡ true → (c : Bool) → is_ordering op ≡ c
        → Right form (if c then ty.Bool else number_type (out-Ty r) (out-Ty s))
    result_sound other r_is s_is true orders = rule.of_ordering names form a b op r s refl orders a_typed r_is b_typed s_is
    result_sound other r_is s_is false computes = rule.of_arithmetic names form a b op r s refl (compares_not op other computes) a_typed r_is b_typed s_is

    compared_sound : is_equality op ≡ true → (tests : Bool) → are_null_tests (out-Ty r) (out-Ty s) ≡ tests
        → (if tests then Some ty.Bool else truth_type (are_comparable (out-Ty r) (out-Ty s))) ≡ Some t → HasIt form
    compared_sound same true tests h =
        same_type form ty.Bool (same_Some ty.Bool t h)
        (rule.of_equality names form a b op r s refl same a_typed b_typed (ap (λ (c : Bool). c || are_comparable (out-Ty r) (out-Ty s)) tests))
    compared_sound same false tests h =
        truth_by (are_comparable (out-Ty r) (out-Ty s)) t h (λ comparable found. same_type form ty.Bool found
        (rule.of_equality names form a b op r s refl same a_typed b_typed (ap₂ (λ (c d : Bool). c || d) tests comparable)))

    numbers_sound : is_equality op ≡ false → (n : Bool) → (is_number (out-Ty r) && is_number (out-Ty s)) ≡ n
        → (if n then Some (result_type op (out-Ty r) (out-Ty s)) else joined_type op (out-Ty r) (out-Ty s)) ≡ Some t
        → (joined_type op (out-Ty r) (out-Ty s) ≡ Some t → HasIt form) → HasIt form
    numbers_sound other true numbers h next =
        let parts = and_parts (is_number (out-Ty r)) _ numbers in
        same_type form (result_type op (out-Ty r) (out-Ty s)) (same_Some _ t h) (result_sound other parts.0 parts.1 (is_ordering op) refl)
    numbers_sound other false numbers h next = next h

    operated_sound : (same : Bool) → is_equality op ≡ same
        → (if same && are_null_tests (out-Ty r) (out-Ty s) then Some ty.Bool
        else (if same then truth_type (are_comparable (out-Ty r) (out-Ty s))
        else (if is_number (out-Ty r) && is_number (out-Ty s) then Some (result_type op (out-Ty r) (out-Ty s)) else joined_type op (out-Ty r) (out-Ty s)))) ≡ Some t
        → (joined_type op (out-Ty r) (out-Ty s) ≡ Some t → HasIt form) → HasIt form
    operated_sound true same h next = compared_sound same (are_null_tests (out-Ty r) (out-Ty s)) refl h
    operated_sound false other h next = numbers_sound other (is_number (out-Ty r) && is_number (out-Ty s)) refl h next

  joined_sound : (op : Binary) (a b : Expr) (r s : Ty) → Right a r → Right b s → joined_type op (out-Ty r) (out-Ty s) ≡ Some t → HasIt (expr.Node (node.Binary op a b))
  joined_sound binary.Add a b r s a_typed b_typed h =
      if_by (are_joined (out-Ty r) (out-Ty s)) ty.Str t h (λ joins found. same_type _ ty.Str found (rule.of_joined names _ a b r s refl a_typed b_typed joins))
  joined_sound op a b r s a_typed b_typed h = absurd (none-some t h)

  binary_sound : (op : Binary) (a b : Such) → of_operands (type_of_operation op) (expression_type a.0 names) (expression_type b.0 names) ≡ Some t
      → HasIt (expr.Node (node.Binary op a.0 b.0))
  binary_sound op a b h =
      operands_by (type_of_operation op) (expression_type a.0 names) (expression_type b.0 names) t h
      (λ r s a_is b_is found. operated_sound op a.0 b.0 r s (a.1 names r a_is) (b.1 names s b_is) (is_equality op) refl found
      (λ joined. joined_sound op a.0 b.0 r s (a.1 names r a_is) (b.1 names s b_is) joined))

  minus_sound : (z : Such) (o : Option Ty) → expression_type z.0 names ≡ o → if_number o ≡ Some t → HasIt (expr.Node (node.Unary unary.Minus z.0))
  minus_sound z None is h = absurd (none-some t h)
  minus_sound z (Some s) is h =
      if_by (is_number (out-Ty s)) s t h (λ number same. same_type _ s same (rule.of_minus names _ z.0 s refl (z.1 names s is) number))

  choice_sound : (c a b : Such) (x : Bool) → is_bool_type (expression_type c.0 names) ≡ x
      → type_of_conditional x (expression_type a.0 names) (expression_type b.0 names) ≡ Some t → HasIt (expr.Node (node.Conditional c.0 a.0 b.0))
  choice_sound c a b true x_is h =
      operands_by type_of_choice (expression_type a.0 names) (expression_type b.0 names) t h
      (λ r s a_is b_is found. rule.of_choice names _ c.0 a.0 b.0 r s t refl (condition_sound names c x_is) (a.1 names r a_is) (b.1 names s b_is) found)
  choice_sound c a b false x_is h = absurd (none-some t h)

  both_sound : (e : Expr) (a b : Such) → (Right a.0 ty.Bool → Right b.0 ty.Bool → Right e ty.Bool)
      → truth_type (is_bool_type (expression_type a.0 names) && is_bool_type (expression_type b.0 names)) ≡ Some t → HasIt e
  both_sound e a b found h =
      truth_by (is_bool_type (expression_type a.0 names) && is_bool_type (expression_type b.0 names)) t h
      (λ are same. let parts = and_parts (is_bool_type (expression_type a.0 names)) _ are in
      same_type e ty.Bool same (found (condition_sound names a parts.0) (condition_sound names b parts.1)))

  -- ---- methods of a text

  search_sound : (a b : Such) (m : List ℕ) → is_text_type (expression_type a.0 names) ≡ true → truth_type (is_search m && is_text_type (expression_type b.0 names)) ≡ Some t
      → HasIt (expr.Node (node.Method a.0 m (argument.Value b.0 ∷ [])))
  search_sound a b m text h =
      truth_by (is_search m && is_text_type (expression_type b.0 names)) t h
      (λ are same. let parts = and_parts (is_search m) _ are in
      same_type _ ty.Bool same (rule.of_search names _ a.0 b.0 m refl (search_given m parts.0) (text_sound names a text) (text_sound names b parts.1)))

  no_search : {P : Type 0} (m : List ℕ) → truth_type (is_search m && false) ≡ Some t → P
  no_search m h = truth_by (is_search m && false) t h (λ are same. absurd (true≢false (sym (and_parts (is_search m) false are).1)))

  -- ---- methods of a sequence or group

  called_sound : {P : Type 0} (a : Such) (call : Option (EnumerableCall (Names → Option Ty))) → called_type (λ (u : Names → Option Ty). u) (expression_type a.0 names) call names ≡ Some t
      → ((u : Ty) (c : EnumerableCall (Names → Option Ty)) → call ≡ Some c → enumerable_type (λ (v : Names → Option Ty). v) names u c ≡ Some t → is_within t ≡ true
      → IsRight (Gives names a.0 u) → P) → P
  called_sound a call h next =
      option_and_then_some _ _ t h (λ r found limited. when_by (is_within r) (Some r) t limited
      (λ within same. option_and_then_some _ (expression_type a.0 names) r found
      (λ s typed items. option_and_then_some _ (element_type (out-Ty s)) r items
      (λ u element rest. option_and_then_some _ call r rest
      (λ c is given. next u c is (given ∙ same) (subst (λ (v : Ty). is_within v ≡ true) (same_Some r t same) within)
      (rule.enumerated names a.0 s u (a.1 names s typed) element))))))

  given_none : (method : Given) (u : Ty) → given_type method u None ≡ Some t → ⊥
  given_none called.Concat u h = none-some t h
  given_none called.Union u h = when_by (is_key u) None t h (λ key none. none-some t none)
  given_none called.Intersect u h = when_by (is_key u) None t h (λ key none. none-some t none)
  given_none called.Except u h = when_by (is_key u) None t h (λ key none. none-some t none)
  given_none called.Skip u h = none-some t h
  given_none called.Take u h = none-some t h
  given_none called.ElementAt u h = none-some t h
  given_none called.Contains u h = when_by (is_key u) None t h (λ key none. none-some t none)

  through_none : (method : Through) (u : Ty) → through_type method u None ≡ Some t → ⊥
  through_none called.Where u h = none-some t h
  through_none called.Select u h = none-some t h
  through_none called.All u h = none-some t h
  through_none (called.Those method) u h = none-some t h
  through_none (called.Values method) u h = none-some t h

  given_by : {P : Type 0} (method : Given) (u : Ty) (o : Option Ty) → given_type method u o ≡ Some t → ((v : Ty) → o ≡ Some v → given_type method u (Some v) ≡ Some t → P) → P
  given_by method u None h next = absurd (given_none method u h)
  given_by method u (Some v) h next = next v refl h

  through_by : {P : Type 0} (method : Through) (u : Ty) (o : Option Ty) → through_type method u o ≡ Some t → ((v : Ty) → o ≡ Some v → through_type method u (Some v) ≡ Some t → P) → P
  through_by method u None h next = absurd (through_none method u h)
  through_by method u (Some v) h next = next v refl h

  abbrev call_of : Such → List ℕ → List (Argument Such) → Expr
  call_of a m xs = expr.Node (node.Method a.0 m (map (map_argument plain) xs))

  abbrev Called : Such → List ℕ → List (Argument Such) → Type 0
  Called a m xs =
      called_type (λ (u : Names → Option Ty). u) (expression_type a.0 names) (enumerable_call m (map (map_argument expression_type) (map (map_argument plain) xs))) names ≡ Some t
      → HasIt (call_of a m xs)

  simple_sound : (a : Such) (m : List ℕ) → Called a m []
  simple_sound a m h =
      called_sound a (option_map Plain (simple_method m)) h (λ u c is given within source. map_by Plain (simple_method m) c is
      (λ method found same. rule.of_simple names _ a.0 m [] method u t refl (ap (option_map Plain) found) source
      (ap (λ (d : EnumerableCall (Names → Option Ty)). enumerable_type (λ (v : Names → Option Ty). v) names u d) same ∙ given) within))

  given_sound : (a b : Such) (m : List ℕ) → Called a m (argument.Value b ∷ [])
  given_sound a b m h =
      called_sound a (option_map (λ method. With method (expression_type b.0)) (method_with_value m)) h
      (λ u c is given within source. map_by (λ method. With method (expression_type b.0)) (method_with_value m) c is
      (λ method found same. given_by method u (expression_type b.0 names)
      (ap (λ (d : EnumerableCall (Names → Option Ty)). enumerable_type (λ (v : Names → Option Ty). v) names u d) same ∙ given)
      (λ v typed right. rule.of_given names _ a.0 b.0 m _ method u v t refl (ap (option_map (λ g. With g b.0)) found) source (b.1 names v typed) right within)))

  lambda_sound : (a b : Such) (m n : List ℕ) → Called a m (argument.Lambda n b ∷ [])
  lambda_sound a b m n h =
      called_sound a (option_map (λ method. By method n (expression_type b.0)) (method_with_lambda m)) h
      (λ u c is given within source. map_by (λ method. By method n (expression_type b.0)) (method_with_lambda m) c is
      (λ method found same. through_by method u (when (is_fresh names n) (expression_type b.0 (with_local names n u)))
      (ap (λ (d : EnumerableCall (Names → Option Ty)). enumerable_type (λ (v : Names → Option Ty). v) names u d) same ∙ given)
      (λ v typed right. when_by (is_fresh names n) (expression_type b.0 (with_local names n u)) v typed
      (λ fresh body. rule.of_lambda names _ a.0 b.0 m n _ method u v t refl (ap (option_map (λ g. By g n b.0)) found) source
      (fresh_none (local_type n names.locals) fresh) (b.1 (with_local names n u) v body) right within))))

  no_call : (a : Such) → called_type (λ (u : Names → Option Ty). u) (expression_type a.0 names) None names ≡ Some t → ⊥
  no_call a h = called_sound a None h (λ u c is given within source. none-some c is)

  method_by : (a : Such) (m : List ℕ) (xs : List (Argument Such)) (b : Bool) → is_text_type (expression_type a.0 names) ≡ b
      → (if b then search_type (λ (u : Names → Option Ty). u) m (map (map_argument expression_type) (map (map_argument plain) xs)) names
      else called_type (λ (u : Names → Option Ty). u) (expression_type a.0 names) (enumerable_call m (map (map_argument expression_type) (map (map_argument plain) xs))) names) ≡ Some t
      → HasIt (call_of a m xs)
  method_by a m (argument.Value x ∷ []) true text h = search_sound a x m text h
  method_by a m [] true text h = no_search m h
  method_by a m (argument.Lambda n x ∷ []) true text h = no_search m h
  method_by a m (argument.Value x ∷ y ∷ xs) true text h = no_search m h
  method_by a m (argument.Lambda n x ∷ y ∷ xs) true text h = no_search m h
  method_by a m [] false text h = simple_sound a m h
  method_by a m (argument.Value x ∷ []) false text h = given_sound a x m h
  method_by a m (argument.Lambda n x ∷ []) false text h = lambda_sound a x m n h
  method_by a m (argument.Value x ∷ y ∷ xs) false text h = absurd (no_call a h)
  method_by a m (argument.Lambda n x ∷ y ∷ xs) false text h = absurd (no_call a h)

-- ---- records

names_same : (fields : List (Field Such))
    → map (λ field. field.name) (map (map_field expression_type) (map (map_field plain) fields)) ≡ map (λ field. field.name) (map (map_field plain) fields)
names_same [] = refl
names_same (field ∷ fields) = ap (λ ns. field.name ∷ ns) (names_same fields)

members_sound : (names : Names) (fields : List (Field Such)) (members : List (List ℕ × Ty))
    → members_type (λ (u : Names → Option Ty). u) (map (map_field expression_type) (map (map_field plain) fields)) names ≡ Some members
    → IsRight (Members names (map (map_field plain) fields) members)
members_sound names [] members h = subst (λ ms. IsRight (Members names [] ms)) (same_Some [] members h) (rule.no_member names)
members_sound names (field ∷ fields) members h =
    option_and_then_some _ (if_placed (expression_type field.value.0 names)) members h
    (λ t found rest. map_by (λ ms. (field.name, t) ∷ ms) _ members rest
    (λ ms others same. placed_sound (expression_type field.value.0 names) t found
    (λ typed placed. subst (λ all. IsRight (Members names (map (map_field plain) (field ∷ fields)) all)) same
    (rule.one_member names (map_field plain field) (map (map_field plain) fields) t ms (field.value.1 names t typed) placed (members_sound names fields ms others)))))

record_sound : (names : Names) (t : Ty) (fields : List (Field Such))
    → node_type (map_node expression_type (map_node plain (node.New fields))) names ≡ Some t → IsRight (Has names (expr.Node (map_node plain (node.New fields))) t)
record_sound names t fields h =
    when_by _ _ t h (λ distinct found. option_and_then_some _ _ t found
    (λ r made limited. when_by (is_within r) (Some r) t limited
    (λ within same. map_by ty.Rec _ r made
    (λ members typed is. subst (λ (s : Ty). IsRight (Has names (expr.Node (map_node plain (node.New fields))) s)) (is ∙ same_Some r t same)
    (rule.of_record names _ _ members refl (ap are_distinct (sym (names_same fields)) ∙ distinct) (members_sound names fields members typed)
    (ap is_within is ∙ within))))))

node_sound : (n : Node Such) (names : Names) (t : Ty) → node_type (map_node expression_type (map_node plain n)) names ≡ Some t
    → IsRight (Has names (expr.Node (map_node plain n)) t)
node_sound (node.Integer n) names t h = same_type names t (expr.Node (node.Integer n)) ty.Int (same_Some ty.Int t h) (rule.of_integer names _ n refl)
node_sound (node.Text x) names t h = same_type names t (expr.Node (node.Text x)) ty.Str (same_Some ty.Str t h) (rule.of_text names _ x refl)
node_sound (node.Bool b) names t h = same_type names t (expr.Node (node.Bool b)) ty.Bool (same_Some ty.Bool t h) (rule.of_truth names _ b refl)
node_sound node.Null names t h = same_type names t (expr.Node node.Null) ty.Null (same_Some ty.Null t h) (rule.of_null names _ refl)
node_sound (node.Name x) names t h = name_sound names t x (local_type x names.locals) refl h
node_sound (node.Member a m) names t h =
    option_and_then_some (λ s. type_of_member names m (out-Ty s)) (expression_type a.0 names) t h
    (λ s is found. member_sound names t a.0 m (out-Ty s) (subst (λ (u : Ty). IsRight (Has names a.0 u)) (is_of_layer s) (a.1 names s is)) found)
node_sound (node.Unary unary.Minus a) names t h = minus_sound names t a (expression_type a.0 names) refl h
node_sound (node.Unary unary.Not a) names t h =
    truth_by (is_bool_type (expression_type a.0 names)) t h
    (λ truth same. same_type names t _ ty.Bool same (rule.of_not names _ a.0 refl (condition_sound names a truth)))
node_sound (node.Binary op a b) names t h = binary_sound names t op a b h
node_sound (node.And a b) names t h = both_sound names t _ a b (rule.of_both names _ a.0 b.0 refl) h
node_sound (node.Or a b) names t h = both_sound names t _ a b (rule.of_either names _ a.0 b.0 refl) h
node_sound (node.Coalesce a b) names t h =
    operands_by coalesced (expression_type a.0 names) (expression_type b.0 names) t h
    (λ r s a_is b_is found. rule.of_coalesced names _ a.0 b.0 r s t refl (a.1 names r a_is) (b.1 names s b_is) found)
node_sound (node.Conditional c a b) names t h = choice_sound names t c a b (is_bool_type (expression_type c.0 names)) refl h
node_sound (node.Host p row columns) names t h =
    host_by names p columns (expression_type row.0 names) t h
    (λ k n known typed ints same. same_type names t _ ty.Bool same (rule.of_host names _ row.0 p columns k n refl known (row.1 names (ty.Row n) typed) ints))
node_sound (node.HostOther p xs) names t h = absurd (none-some t h)
node_sound (node.New fields) names t h = record_sound names t fields h
node_sound (node.Method a m xs) names t h = method_by names t a m xs (is_text_type (expression_type a.0 names)) refl h

-- ---- clauses

keys_sound : (names : Names) (ks : List (SortKey Such)) → are_sort_keys expression_type (map (map_key plain) ks) names ≡ true → IsRight (Sorts names (map (map_key plain) ks))
keys_sound names [] h = rule.no_key names
keys_sound names (k ∷ ks) h =
    let parts = and_parts (is_sort_key (expression_type k.value.0 names)) _ h in
    key_by (expression_type k.value.0 names) refl parts.0 (keys_sound names ks parts.1)
  where
    key_by : (o : Option Ty) → expression_type k.value.0 names ≡ o → is_sort_key o ≡ true → IsRight (Sorts names (map (map_key plain) ks))
        → IsRight (Sorts names (map (map_key plain) (k ∷ ks)))
    key_by None is sorts rest = absurd (true≢false (sym sorts))
    key_by (Some t) is sorts rest = rule.one_key names _ _ t (k.value.1 names t is) sorts rest

join_sound : (outer before behind : Names) (j : Join Such) (into : Option (List ℕ)) → j.into ≡ into
    → names_after expression_type outer (clause.Join (record { name = j.name; source = j.source.0; outer_key = j.outer_key.0; inner_key = j.inner_key.0; into = into })) before ≡ Some behind
    → IsRight (Leads outer (clause.Join (map_join plain j)) before behind)
join_sound outer before behind j into into_is h =
    map_by _ _ behind h (λ r found same. option_and_then_some _ _ r found
    (λ t source rest. when_by (is_fresh before j.name) (source_type expression_type j.source.0 outer) t source
    (λ fresh given. when_by (are_join_keys (expression_type j.outer_key.0 before) (expression_type j.inner_key.0 (with_local outer j.name t))) (matched_type expression_type before into t) r rest
    (λ joined matched. keys_by t r (expression_type j.outer_key.0 before) (expression_type j.inner_key.0 (with_local outer j.name t)) refl refl joined
    (λ k l outer_typed inner_typed are. ended t r k l into into_is (fresh_none (local_type j.name before.locals) fresh) (gives_sound outer j.source t given)
    (j.outer_key.1 before k outer_typed) (j.inner_key.1 (with_local outer j.name t) l inner_typed) are matched same)))))
  where
    keys_by : {P : Type 0} (t r : Ty) (o p : Option Ty) → expression_type j.outer_key.0 before ≡ o → expression_type j.inner_key.0 (with_local outer j.name t) ≡ p
        → are_join_keys o p ≡ true
        → ((k l : Ty) → expression_type j.outer_key.0 before ≡ Some k → expression_type j.inner_key.0 (with_local outer j.name t) ≡ Some l
        → are_join_keys (Some k) (Some l) ≡ true → P) → P
    keys_by t r (Some k) (Some l) o_is p_is are next = next k l o_is p_is are
    keys_by t r (Some k) None o_is p_is are next = absurd (true≢false (sym are))
    keys_by t r None p o_is p_is are next = absurd (true≢false (sym are))

    ended : (t r k l : Ty) (g : Option (List ℕ)) → j.into ≡ g → local_type j.name before.locals ≡ None → IsRight (Gives outer j.source.0 t)
        → IsRight (Has before j.outer_key.0 k) → IsRight (Has (with_local outer j.name t) j.inner_key.0 l) → are_join_keys (Some k) (Some l) ≡ true
        → matched_type expression_type before g t ≡ Some r → with_local before (matched_name g j.name) r ≡ behind → IsRight (Leads outer (clause.Join (map_join plain j)) before behind)
    ended t r k l None is fresh source outer_key inner_key are matched same =
        subst (λ (names : Names). IsRight (Leads outer (clause.Join (map_join plain j)) before names)) (ap (with_local before j.name) (same_Some t r matched) ∙ same)
        (rule.by_join outer before _ (map_join plain j) t k l refl fresh source outer_key inner_key are is)
    ended t r k l (Some g) is fresh source outer_key inner_key are matched same =
        when_by (is_fresh before g) (Some (ty.Seq t)) r matched
        (λ new found. subst (λ (names : Names). IsRight (Leads outer (clause.Join (map_join plain j)) before names))
        (ap (with_local before g) (same_Some (ty.Seq t) r found) ∙ same)
        (rule.by_join_into outer before _ (map_join plain j) g t k l refl fresh source outer_key inner_key are is (fresh_none (local_type g before.locals) new)))

clause_sound : (outer before behind : Names) (c : Clause Such) → names_after expression_type outer (map_clause plain c) before ≡ Some behind
    → IsRight (Leads outer (map_clause plain c) before behind)
clause_sound outer before behind (clause.From n f) h =
    map_by (with_local before n) _ behind h (λ t found same. when_by (is_fresh before n) (source_type expression_type f.0 before) t found
    (λ fresh given. subst (λ (names : Names). IsRight (Leads outer (clause.From n f.0) before names)) same
    (rule.by_from outer before _ n f.0 t refl (fresh_none (local_type n before.locals) fresh) (gives_sound before f t given))))
clause_sound outer before behind (clause.Let n f) h =
    map_by (with_local before n) _ behind h (λ t found same. when_by (is_fresh before n) (if_placed (expression_type f.0 before)) t found
    (λ fresh given. placed_sound (expression_type f.0 before) t given
    (λ typed placed. subst (λ (names : Names). IsRight (Leads outer (clause.Let n f.0) before names)) same
    (rule.by_let outer before _ n f.0 t refl (fresh_none (local_type n before.locals) fresh) (f.1 before t typed) placed))))
clause_sound outer before behind (clause.Where f) h =
    when_by (is_bool_type (expression_type f.0 before)) (Some before) behind h
    (λ truth same. subst (λ (names : Names). IsRight (Leads outer (clause.Where f.0) before names)) (same_Some before behind same)
    (rule.by_where outer before _ f.0 refl (condition_sound before f truth)))
clause_sound outer before behind (clause.Join j) h = join_sound outer before behind j j.into refl h
clause_sound outer before behind (clause.OrderBy ks) h =
    when_by (are_sort_keys expression_type (map (map_key plain) ks) before) (Some before) behind h
    (λ sorts same. subst (λ (names : Names). IsRight (Leads outer (clause.OrderBy (map (map_key plain) ks)) before names)) (same_Some before behind same)
    (rule.by_orderby outer before _ _ refl (keys_sound before ks sorts)))

clauses_sound : (outer before behind : Names) (cs : List (Clause Such)) → names_after_all expression_type outer (map (map_clause plain) cs) before ≡ Some behind
    → IsRight (LeadAll outer (map (map_clause plain) cs) before behind)
clauses_sound outer before behind [] h = subst (λ (names : Names). IsRight (LeadAll outer [] before names)) (same_Some before behind h) (rule.by_none outer before)
clauses_sound outer before behind (c ∷ cs) h =
    option_and_then_some _ (names_after expression_type outer (map_clause plain c) before) behind h
    (λ between first others. rule.by_first outer before between behind _ _ (clause_sound outer before between c first) (clauses_sound outer between behind cs others))

last_sound : (names : Names) (t : Ty) (l : Last Such) → last_type expression_type (map_last plain l) names ≡ Some t → IsRight (Ends names (map_last plain l) t)
last_sound names t (last.Select v) h =
    placed_sound (expression_type v.0 names) t h (λ typed placed. rule.by_select names _ v.0 t refl (v.1 names t typed) placed)
last_sound names t (last.Group v key) h =
    option_and_then_some _ _ t h (λ k keyed rest. option_and_then_some _ (expression_type key.0 names) k keyed
    (λ k' key_typed is_one. when_by (is_key k') (Some k') k is_one
    (λ is_key_type same. map_by (ty.Group k) _ t rest
    (λ u element is. placed_sound (expression_type v.0 names) u element
    (λ typed placed. subst (λ (s : Ty). IsRight (Ends names (last.Group v.0 key.0) s)) is
    (rule.by_group names _ v.0 key.0 k u refl (key.1 names k (key_typed ∙ same)) (subst (λ (s : Ty). is_key s ≡ true) (same_Some k' k same) is_key_type)
    (v.1 names u typed) placed))))))

-- ---- bodies and queries

body_sound : (outer names : Names) (t : Ty) (body : Body Such) → body_items expression_type outer (map_body plain body) names ≡ Some t
    → IsRight (BodyGives outer (map_body plain body) names t)
body_sound outer names t body h =
    option_and_then_some _ _ t h (λ r found limited. when_by (is_within (ty.Seq r)) (Some r) t limited
    (λ within same. option_and_then_some _ (names_after_all expression_type outer (map (map_clause plain) body.clauses) names) r found
    (λ behind clauses ends. rule.by_body outer names behind _ t (clauses_sound outer names behind body.clauses clauses) (last_sound behind t body.last (ends ∙ same))
    (subst (λ (s : Ty). is_within (ty.Seq s) ≡ true) (same_Some r t same) within))))

sole_sound : {P : Type 0} (outer : Names) (n : List ℕ) (t u : Ty) (body : Body Such)
    → option_and_then (body_items expression_type outer (map_body plain body)) (sole_name expression_type outer n t) ≡ Some u
    → (local_type n outer.locals ≡ None → IsRight (BodyGives outer (map_body plain body) (with_local outer n t) u) → P) → P
sole_sound outer n t u body h next =
    option_and_then_some _ (sole_name expression_type outer n t) u h (λ names is found. when_by (is_fresh outer n) (Some (with_local outer n t)) names is
    (λ fresh same. next (fresh_none (local_type n outer.locals) fresh)
    (body_sound outer (with_local outer n t) u body
    (ap (body_items expression_type outer (map_body plain body)) (same_Some (with_local outer n t) names same) ∙ found))))

rest_sound : (outer : Names) (t r : Ty) (rest : List (Continuation Such)) → continued_items expression_type outer (map (map_next plain) rest) t ≡ Some r
    → IsRight (Continues outer (map (map_next plain) rest) t r)
rest_sound outer t r [] h = subst (λ (s : Ty). IsRight (Continues outer [] t s)) (same_Some t r h) (rule.at_end outer t)
rest_sound outer t r (next ∷ rest) h =
    option_and_then_some _ _ r h (λ u found others. sole_sound outer next.name t u next.body found
    (λ fresh body. rule.by_into outer _ _ t u r fresh body (rest_sound outer u r rest others)))

query_sound : (outer : Names) (r : Ty) (q : Query Such) → query_items expression_type (map_query plain q) outer ≡ Some r → IsRight (QueryGives outer (map_query plain q) r)
unfolding query_items
query_sound outer r q h =
    option_and_then_some _ (source_type expression_type q.source.0 outer) r h
    (λ t source found. option_and_then_some _ _ r found
    (λ u body rest. sole_sound outer q.name t u q.body body
    (λ fresh gives. rule.by_query outer _ t u r (gives_sound outer q.source t source) fresh gives (rest_sound outer u r q.rest rest))))

sound_at_node : (n : Node Such) → Sound (expr.Node (map_node (base {P = Sound}) n))
sound_at_node n names t h = node_sound n names t (sym (type_of_node (map_node plain n) names) ∙ h)

sound_at_query : (q : Query Such) → Sound (expr.Query (map_query (base {P = Sound}) q))
sound_at_query q names t h =
    map_by ty.Seq (query_items expression_type (map_query plain q) names) t (sym (type_of_query (map_query plain q) names) ∙ h)
    (λ r found same. subst (λ (s : Ty). IsRight (Has names (expr.Query (map_query plain q)) s)) same (rule.of_query names _ _ r refl (query_sound names r q found)))

-- a type that is found is one that the rules give
pub expression_sound : (e : Expr) → Sound e
expression_sound = of_every Sound sound_at_node sound_at_query

-- ---- a query, with what holds of the expressions in it

abbrev proved : Expr → Such
proved e = (e, expression_sound e)

keys_themselves : (ks : List (SortKey Expr)) → map (map_key plain) (map (map_key proved) ks) ≡ ks
keys_themselves [] = refl
keys_themselves (k ∷ ks) = ap (λ rest. k ∷ rest) (keys_themselves ks)

clause_itself : (c : Clause Expr) → map_clause plain (map_clause proved c) ≡ c
clause_itself (clause.From n x) = refl
clause_itself (clause.Let n x) = refl
clause_itself (clause.Where x) = refl
clause_itself (clause.Join j) = refl
clause_itself (clause.OrderBy ks) = ap clause.OrderBy (keys_themselves ks)

clauses_themselves : (cs : List (Clause Expr)) → map (map_clause plain) (map (map_clause proved) cs) ≡ cs
clauses_themselves [] = refl
clauses_themselves (c ∷ cs) = ap₂ (λ (d : Clause Expr) rest. d ∷ rest) (clause_itself c) (clauses_themselves cs)

last_itself : (l : Last Expr) → map_last plain (map_last proved l) ≡ l
last_itself (last.Select x) = refl
last_itself (last.Group x key) = refl

body_itself : (body : Body Expr) → map_body plain (map_body proved body) ≡ body
body_itself body = λ i. record { clauses = clauses_themselves body.clauses i; last = last_itself body.last i }

rest_itself : (rest : List (Continuation Expr)) → map (map_next plain) (map (map_next proved) rest) ≡ rest
rest_itself [] = refl
rest_itself (next ∷ rest) = λ i. record { name = next.name; body = body_itself next.body i } ∷ rest_itself rest i

query_itself : (q : Query Expr) → map_query plain (map_query proved q) ≡ q
query_itself q = λ i. record { name = q.name; source = q.source; body = body_itself q.body i; rest = rest_itself q.rest i }

-- what is found for a query's items is what the rules give
pub items_sound : (names : Names) (q : Query Expr) (t : Ty) → query_items expression_type q names ≡ Some t → IsRight (QueryGives names q t)
items_sound names q t h =
    subst (λ (r : Query Expr). IsRight (QueryGives names r t)) (query_itself q)
    (query_sound names t (map_query proved q) (ap (λ (r : Query Expr). query_items expression_type r names) (query_itself q) ∙ h))
