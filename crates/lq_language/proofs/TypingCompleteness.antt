-- What the rules of typing give is what the function finds, so that there is one type at most.
use Rattle.std.proofs.Common.{◌≡◌, ◌∷◌, ◌&&◌, ◌||◌, if◌then◌else◌, List, [], map, ℕ, Bool, true, false, not, Option, Some, None, codes, ap, ap₂, ◌∙◌, sym, refl, option_and_then, option_map, true≢false}
use Rattle.std.proofs.lemmas.Bool.{and_from}
use Rattle.std.proofs.lemmas.Option.{none-some}
use Rattle.std.specs.Prelude.{is_some}
use Rattle.lq_value.specs.declared.ty.Ty.{Ty, out-Ty}
use Rattle.lq_value.specs.declared.ty.Ty.TheOpen.{Ty-F}
use Rattle.lq_value.specs.declared.ty.Ty.TheVariants as ty
use Rattle.lq_value.specs.declared.ty.Ty.TheVariants.{outs-Group, outs-IntN, outs-Rec, outs-Row, outs-Str}
use Rattle.lq_language.specs.ClauseTyping.{are_join_keys, are_sort_keys, body_items, continued_items, element_type, expression_type, has_place, if_placed, if_key, is_fresh, is_key, is_sort_key, is_within, last_type, matched_name, matched_type, names_after, names_after_all, query_items, sole_name, source_type, when}
use Rattle.lq_language.specs.EnumerableCalls.{EnumerableCall, enumerable_call}
use Rattle.lq_language.specs.Maps.{map_argument, map_enumerable, map_field}
use Rattle.lq_language.specs.Members.{is_search}
use Rattle.lq_language.specs.Names.{Names, local_type, with_local}
use Rattle.lq_language.specs.OperandTypes.{are_comparable, coalesced, if_number, is_equality, is_text, is_text_type, number_type, of_operands, operated_type, truth_type}
use Rattle.lq_language.specs.TypingRules.{TypeClaim, Has, Gives, Members, Sorts, Leads, LeadAll, Ends, BodyGives, Continues, QueryGives, IsRight}
use Rattle.lq_language.specs.TypingRules as rule
use Rattle.lq_language.specs.Typing.{are_distinct, are_null_tests, called_type, enumerable_type, given_type, if_limited, through_type, members_type, search_type, type_of_conditional, type_of_operation, global_type, type_of_name}
use Rattle.lq_grammar.specs.declared.syntax.Argument.{Argument}
use Rattle.lq_grammar.specs.declared.syntax.Argument.TheVariants as argument
use Rattle.lq_grammar.specs.declared.syntax.Binary.{Binary}
use Rattle.lq_grammar.specs.declared.syntax.Binary.TheVariants as binary
use Rattle.lq_grammar.specs.declared.syntax.Body.{Body}
use Rattle.lq_grammar.specs.declared.syntax.Clause.{Clause}
use Rattle.lq_grammar.specs.declared.syntax.Clause.TheVariants as clause
use Rattle.lq_grammar.specs.declared.syntax.Expr.{Expr}
use Rattle.lq_grammar.specs.declared.syntax.Expr.TheVariants as expr
use Rattle.lq_grammar.specs.declared.syntax.Field.{Field}
use Rattle.lq_grammar.specs.declared.syntax.Join.{Join}
use Rattle.lq_grammar.specs.declared.syntax.Last.{Last}
use Rattle.lq_grammar.specs.declared.syntax.Node.TheVariants as node
use Rattle.lq_grammar.specs.declared.syntax.Query.{Query}
use Rattle.lq_grammar.specs.declared.syntax.Unary.TheVariants as unary
use Rattle.lq_language.proofs.HostTypeLemmas.{host_found}
use Rattle.lq_language.proofs.MemberLaws.{search_told}
use Rattle.lq_language.proofs.MethodPullLaws.{call_maps}
use Rattle.lq_language.proofs.TypingLaws.{computes_alone, joined_found as texts_join, numbers_compute, orders_alone}
use Rattle.lq_language.proofs.ExpressionTypeLaws.{both_found, expression_type_is, member_found, operated_found, text_found, truth_found, type_of_query}

abbrev pub IsFound : TypeClaim → Type 0
IsFound (Has names e t) = expression_type e names ≡ Some t
IsFound (Gives names e t) = source_type expression_type e names ≡ Some t
IsFound (Members names fields members) = members_type (λ (u : Names → Option Ty). u) (map (map_field expression_type) fields) names ≡ Some members
IsFound (Sorts names ks) = are_sort_keys expression_type ks names ≡ true
IsFound (Leads outer c before behind) = names_after expression_type outer c before ≡ Some behind
IsFound (LeadAll outer cs before behind) = names_after_all expression_type outer cs before ≡ Some behind
IsFound (Ends names l t) = last_type expression_type l names ≡ Some t
IsFound (BodyGives outer body names t) = body_items expression_type outer body names ≡ Some t
IsFound (Continues outer rest t r) = continued_items expression_type outer rest t ≡ Some r
IsFound (QueryGives outer q r) = query_items expression_type q outer ≡ Some r

abbrev type_found : Names → Expr → Option Ty
type_found names e = expression_type e names

placed_found : (o : Option Ty) (t : Ty) → o ≡ Some t → has_place (out-Ty t) ≡ true → if_placed o ≡ Some t
placed_found o t typed placed = ap if_placed typed ∙ ap (λ (b : Bool). when b (Some t)) placed

fresh_found : (names : Names) (n : List ℕ) → local_type n names.locals ≡ None → is_fresh names n ≡ true
fresh_found names n none = ap (λ (o : Option Ty). not (is_some o)) none

when_found : {A : Type 0} (b : Bool) (o : Option A) → b ≡ true → when b o ≡ o
when_found b o h = ap (λ (c : Bool). when c o) h

-- the body of a lambda
pub lambda_found : (names : Names) (n : List ℕ) (t u : Ty) (body : Expr) → local_type n names.locals ≡ None → expression_type body (with_local names n t) ≡ Some u
    → when (is_fresh names n) (expression_type body (with_local names n t)) ≡ Some u
lambda_found names n t u body fresh typed = when_found (is_fresh names n) _ (fresh_found names n fresh) ∙ typed

-- ---- operators

abbrev by_equality : Binary → Ty-F Ty → Ty-F Ty → Bool → Option Ty
by_equality op s t same =
    if same && are_null_tests s t then Some ty.Bool
    else (if same then truth_type (are_comparable s t) else operated_type op s t)

equality_by : (tests comparable : Bool) → (tests || comparable) ≡ true → (if tests then Some ty.Bool else truth_type comparable) ≡ Some ty.Bool
equality_by true comparable h = refl
equality_by false true h = refl
equality_by false false h = absurd (true≢false (sym h))

equality_found : (op : Binary) (s t : Ty-F Ty) → is_equality op ≡ true → (are_null_tests s t || are_comparable s t) ≡ true → type_of_operation op s t ≡ Some ty.Bool
equality_found op s t same h = rw same (equality_by (are_null_tests s t) (are_comparable s t) h)

operands_found : (names : Names) (op : Binary) (a b : Expr) (s t r : Ty) → expression_type a names ≡ Some s → expression_type b names ≡ Some t
    → type_of_operation op (out-Ty s) (out-Ty t) ≡ Some r → of_operands (type_of_operation op) (expression_type a names) (expression_type b names) ≡ Some r
operands_found names op a b s t r a_typed b_typed found = ap₂ (of_operands (type_of_operation op)) a_typed b_typed ∙ found

-- ---- methods

element_layer : (layer : Ty-F Ty) (t : Ty) → element_type layer ≡ Some t → is_text layer ≡ false
element_layer Ty-F.Str t h = absurd (none-some t h)
element_layer layer t h = refl

pub no_text : (o : Option Ty) (t : Ty) → option_and_then (λ s. element_type (out-Ty s)) o ≡ Some t → is_text_type o ≡ false
no_text None t h = refl
no_text (Some s) t h = element_layer (out-Ty s) t h

pub called_by : (o : Option Ty) (k : Ty → Option Ty) → option_and_then (λ s. option_and_then k (element_type (out-Ty s))) o ≡ option_and_then k (option_and_then (λ s. element_type (out-Ty s)) o)
called_by None k = refl
called_by (Some s) k = refl

pub limited_found : (o : Option Ty) (r : Ty) → o ≡ Some r → is_within r ≡ true → if_limited o ≡ Some r
limited_found o r is within = ap if_limited is ∙ when_found (is_within r) (Some r) within

method_found : (names : Names) (e a : Expr) (m : List ℕ) (arguments : List (Argument Expr)) (call : EnumerableCall Expr) (t r : Ty)
    → e ≡ expr.Node (node.Method a m arguments) → enumerable_call m arguments ≡ Some call → source_type expression_type a names ≡ Some t
    → enumerable_type (λ (u : Names → Option Ty). u) names t (map_enumerable expression_type call) ≡ Some r → is_within r ≡ true → expression_type e names ≡ Some r
method_found names e a m arguments call t r is called source gives within =
    expression_type_is names e (node.Method a m arguments) is
    ∙ ap (λ (b : Bool). if b then search_type (λ (u : Names → Option Ty). u) m (map (map_argument expression_type) arguments) names
    else called_type (λ (u : Names → Option Ty). u) (expression_type a names) (enumerable_call m (map (map_argument expression_type) arguments)) names)
    (no_text (expression_type a names) t source)
    ∙ limited_found _ r
    (ap (λ (c : Option (EnumerableCall (Names → Option Ty))).
    option_and_then (λ s. option_and_then (λ u. option_and_then (enumerable_type (λ (v : Names → Option Ty). v) names u) c) (element_type (out-Ty s))) (expression_type a names))
    (call_maps expression_type m arguments ∙ ap (option_map (map_enumerable expression_type)) called)
    ∙ called_by (expression_type a names) (λ u. enumerable_type (λ (v : Names → Option Ty). v) names u (map_enumerable expression_type call))
    ∙ ap (λ (o : Option Ty). option_and_then (λ u. enumerable_type (λ (v : Names → Option Ty). v) names u (map_enumerable expression_type call)) o) source
    ∙ gives) within

-- ---- records

names_same : (fields : List (Field Expr)) → map (λ field. field.name) (map (map_field expression_type) fields) ≡ map (λ field. field.name) fields
names_same [] = refl
names_same (field ∷ fields) = ap (λ ns. field.name ∷ ns) (names_same fields)

-- ---- joins

joined_found : (outer names : Names) (j : Join Expr) (t k l r : Ty) → is_fresh names j.name ≡ true → source_type expression_type j.source outer ≡ Some t
    → expression_type j.outer_key names ≡ Some k → expression_type j.inner_key (with_local outer j.name t) ≡ Some l → are_join_keys (Some k) (Some l) ≡ true
    → matched_type expression_type names j.into t ≡ Some r
    → names_after expression_type outer (clause.Join j) names ≡ Some (with_local names (matched_name j.into j.name) r)
joined_found outer names j t k l r fresh source outer_key inner_key are matched =
    ap (λ (b : Bool). after (when b (source_type expression_type j.source outer))) fresh
    ∙ ap after source
    ∙ ap₂ (λ (o p : Option Ty). option_map (with_local names (matched_name j.into j.name)) (when (are_join_keys o p) (matched_type expression_type names j.into t))) outer_key inner_key
    ∙ ap (λ (b : Bool). option_map (with_local names (matched_name j.into j.name)) (when b (matched_type expression_type names j.into t))) are
    ∙ ap (λ (o : Option Ty). option_map (with_local names (matched_name j.into j.name)) o) matched
  where
    after : Option Ty → Option Names
    after o =
        option_map (with_local names (matched_name j.into j.name))
        (option_and_then (λ u. when (are_join_keys (expression_type j.outer_key names) (expression_type j.inner_key (with_local outer j.name u))) (matched_type expression_type names j.into u)) o)

into_none : (names : Names) (into : Option (List ℕ)) (t : Ty) → into ≡ None → matched_type expression_type names into t ≡ Some t
into_none names into t is = ap (λ (g : Option (List ℕ)). matched_type expression_type names g t) is

into_some : (names : Names) (into : Option (List ℕ)) (g : List ℕ) (t : Ty) → into ≡ Some g → is_fresh names g ≡ true
    → matched_type expression_type names into t ≡ Some (ty.Seq t)
into_some names into g t is fresh = ap (λ (h : Option (List ℕ)). matched_type expression_type names h t) is ∙ when_found (is_fresh names g) (Some (ty.Seq t)) fresh

body_found : (outer names : Names) (n : List ℕ) (t u : Ty) (body : Body Expr) → is_fresh outer n ≡ true → body_items expression_type outer body (with_local outer n t) ≡ Some u
    → option_and_then (body_items expression_type outer body) (sole_name expression_type outer n t) ≡ Some u
body_found outer names n t u body fresh gives =
    ap (λ (b : Bool). option_and_then (body_items expression_type outer body) (when b (Some (with_local outer n t)))) fresh ∙ gives

query_found : (outer : Names) (q : Query Expr) (t u r : Ty) → source_type expression_type q.source outer ≡ Some t → is_fresh outer q.name ≡ true
    → body_items expression_type outer q.body (with_local outer q.name t) ≡ Some u → continued_items expression_type outer q.rest u ≡ Some r → query_items expression_type q outer ≡ Some r
unfolding query_items
query_found outer q t u r source fresh body rest =
    ap (λ (o : Option Ty). option_and_then (λ v. option_and_then (continued_items expression_type outer q.rest)
    (option_and_then (body_items expression_type outer q.body) (sole_name expression_type outer q.name v))) o) source
    ∙ ap (option_and_then (continued_items expression_type outer q.rest)) (body_found outer outer q.name t u q.body fresh body)
    ∙ rest

pub found : {claim : TypeClaim} → IsRight claim → IsFound claim
found (rule.of_integer names e n is) = expression_type_is names e (node.Integer n) is
found (rule.of_text names e x is) = expression_type_is names e (node.Text x) is
found (rule.of_truth names e b is) = expression_type_is names e (node.Bool b) is
found (rule.of_null names e is) = expression_type_is names e node.Null is
found (rule.of_local names e x t is local) = expression_type_is names e (node.Name x) is ∙ ap (type_of_name names x) local
found (rule.of_table names e x n is hidden table) =
    expression_type_is names e (node.Name x) is ∙ ap (type_of_name names x) hidden ∙ ap (global_type names x) table
found (rule.of_session names e x known is hidden no_table there) =
    expression_type_is names e (node.Name x) is ∙ ap (type_of_name names x) hidden ∙ ap (global_type names x) no_table ∙ ap (option_map (λ s. s.ty)) there
found (rule.of_column names e row c n t is row_typed column) =
    expression_type_is names e (node.Member row c) is ∙ member_found names c row (ty.Row n) (Ty-F.Row n) (Some t) (found row_typed) (outs-Row n) column
found (rule.of_member names e a m members t is typed member) =
    expression_type_is names e (node.Member a m) is ∙ member_found names m a (ty.Rec members) (Ty-F.Rec members) (Some t) (found typed) (outs-Rec members) member
found (rule.of_key names e a k t is typed) =
    expression_type_is names e (node.Member a (codes "Key")) is ∙ member_found names (codes "Key") a (ty.Group k t) (Ty-F.Group k t) (Some k) (found typed) (outs-Group k t) refl
found (rule.of_has_value names e a is typed) =
    expression_type_is names e (node.Member a (codes "HasValue")) is ∙ member_found names (codes "HasValue") a ty.IntN Ty-F.IntN (Some ty.Bool) (found typed) outs-IntN refl
found (rule.of_value names e a is typed) =
    expression_type_is names e (node.Member a (codes "Value")) is ∙ member_found names (codes "Value") a ty.IntN Ty-F.IntN (Some ty.Int) (found typed) outs-IntN refl
found (rule.of_length names e a is typed) =
    expression_type_is names e (node.Member a (codes "Length")) is ∙ member_found names (codes "Length") a ty.Str Ty-F.Str (Some ty.Int) (found typed) outs-Str refl
found (rule.of_ordering names e a b op s t is orders a_typed s_number b_typed t_number) =
    expression_type_is names e (node.Binary op a b) is
    ∙ operands_found names op a b s t ty.Bool (found a_typed) (found b_typed)
    (operated_found op (out-Ty s) (out-Ty t) ty.Bool (numbers_compute op (out-Ty s) (out-Ty t) (orders_alone op orders) s_number t_number
    ∙ ap (λ (c : Bool). Some (if c then ty.Bool else number_type (out-Ty s) (out-Ty t))) orders) (orders_alone op orders))
found (rule.of_equality names e a b op s t is same a_typed b_typed compares) =
    expression_type_is names e (node.Binary op a b) is ∙ operands_found names op a b s t ty.Bool (found a_typed) (found b_typed) (equality_found op (out-Ty s) (out-Ty t) same compares)
found (rule.of_arithmetic names e a b op s t is computes a_typed s_number b_typed t_number) =
    expression_type_is names e (node.Binary op a b) is
    ∙ operands_found names op a b s t (number_type (out-Ty s) (out-Ty t)) (found a_typed) (found b_typed)
    (operated_found op (out-Ty s) (out-Ty t) (number_type (out-Ty s) (out-Ty t)) (numbers_compute op (out-Ty s) (out-Ty t) (computes_alone op computes).0 s_number t_number
    ∙ ap (λ (c : Bool). Some (if c then ty.Bool else number_type (out-Ty s) (out-Ty t))) (computes_alone op computes).1) (computes_alone op computes).0)
found (rule.of_joined names e a b s t is a_typed b_typed joins) =
    expression_type_is names e (node.Binary binary.Add a b) is
    ∙ operands_found names binary.Add a b s t ty.Str (found a_typed) (found b_typed) (texts_join (out-Ty s) (out-Ty t) joins)
found (rule.of_minus names e a t is typed number) =
    expression_type_is names e (node.Unary unary.Minus a) is ∙ ap if_number (found typed) ∙ ap (λ (c : Bool). if c then Some t else None) number
found (rule.of_not names e a is typed) = expression_type_is names e (node.Unary unary.Not a) is ∙ ap truth_type (truth_found names a (found typed))
found (rule.of_both names e a b is left right) = expression_type_is names e (node.And a b) is ∙ both_found names a b (found left) (found right)
found (rule.of_either names e a b is left right) = expression_type_is names e (node.Or a b) is ∙ both_found names a b (found left) (found right)
found (rule.of_coalesced names e a b s t r is a_typed b_typed gives) =
    expression_type_is names e (node.Coalesce a b) is ∙ ap₂ (of_operands coalesced) (found a_typed) (found b_typed) ∙ gives
found (rule.of_choice names e c a b s t r is c_typed a_typed b_typed chooses) =
    expression_type_is names e (node.Conditional c a b) is
    ∙ (λ i. type_of_conditional (truth_found names c (found c_typed) i) (found a_typed i) (found b_typed i))
    ∙ chooses
found (rule.of_host names e row p columns k n is known typed ints) =
    expression_type_is names e (node.Host p row columns) is ∙ host_found names p columns k n (expression_type row names) known (found typed) ints
found (rule.of_record names e fields members is distinct typed within) =
    expression_type_is names e (node.New fields) is
    ∙ when_found _ _ (ap are_distinct (names_same fields) ∙ distinct)
    ∙ limited_found _ (ty.Rec members) (ap (option_map ty.Rec) (found typed)) within
found (rule.no_member names) = refl
found (rule.one_member names field fields t members typed placed others) =
    ap₂ (λ (o : Option Ty) (ms : Option (List (List ℕ × Ty))). option_and_then (λ u. option_map (λ rest. (field.name, u) ∷ rest) ms) o)
    (placed_found (expression_type field.value names) t (found typed) placed) (found others)
found (rule.of_search names e a b m is looks a_typed b_typed) =
    expression_type_is names e (node.Method a m (argument.Value b ∷ [])) is
    ∙ ap (λ (c : Bool). if c then search_type (λ (u : Names → Option Ty). u) m (argument.Value (expression_type b) ∷ []) names
    else called_type (λ (u : Names → Option Ty). u) (expression_type a names) (enumerable_call m (argument.Value (expression_type b) ∷ [])) names)
    (text_found names a (found a_typed))
    ∙ ap truth_type (and_from (is_search m) _ (search_told looks) (text_found names b (found b_typed)))
found (rule.of_simple names e a m arguments method t r is called source gives within) =
    method_found names e a m arguments _ t r is called (found source) gives within
found (rule.of_given names e a b m arguments method t u r is called source typed gives within) =
    method_found names e a m arguments _ t r is called (found source)
    (ap (λ (o : Option Ty). given_type method t o) (found typed) ∙ gives) within
found (rule.of_lambda names e a b m n arguments method t u r is called source fresh typed gives within) =
    method_found names e a m arguments _ t r is called (found source)
    (ap (λ (o : Option Ty). through_type method t o) (lambda_found names n t u b fresh (found typed)) ∙ gives) within
found (rule.of_query names e q t is gives) =
    ap (λ (x : Expr). expression_type x names) is ∙ type_of_query q names ∙ ap (λ (o : Option Ty). option_map ty.Seq o) (found gives)
found (rule.enumerated names e s t typed element) =
    ap (λ (o : Option Ty). option_and_then (λ u. element_type (out-Ty u)) o) (found typed) ∙ element
found (rule.by_from outer names c n f t is fresh source) =
    ap (λ (d : Clause Expr). names_after expression_type outer d names) is
    ∙ ap (λ (o : Option Ty). option_map (with_local names n) o) (when_found (is_fresh names n) _ (fresh_found names n fresh) ∙ found source)
found (rule.by_let outer names c n f t is fresh typed placed) =
    ap (λ (d : Clause Expr). names_after expression_type outer d names) is
    ∙ ap (λ (o : Option Ty). option_map (with_local names n) o)
    (when_found (is_fresh names n) _ (fresh_found names n fresh) ∙ placed_found (expression_type f names) t (found typed) placed)
found (rule.by_where outer names c f is typed) =
    ap (λ (d : Clause Expr). names_after expression_type outer d names) is ∙ ap (λ (b : Bool). when b (Some names)) (truth_found names f (found typed))
found (rule.by_join outer names c j t k l is fresh source outer_key inner_key are into) =
    ap (λ (d : Clause Expr). names_after expression_type outer d names) is
    ∙ joined_found outer names j t k l t (fresh_found names j.name fresh) (found source) (found outer_key) (found inner_key) are (into_none names j.into t into)
    ∙ ap (λ (g : Option (List ℕ)). Some (with_local names (matched_name g j.name) t)) into
found (rule.by_join_into outer names c j g t k l is fresh source outer_key inner_key are into new) =
    ap (λ (d : Clause Expr). names_after expression_type outer d names) is
    ∙ joined_found outer names j t k l (ty.Seq t) (fresh_found names j.name fresh) (found source) (found outer_key) (found inner_key) are
    (into_some names j.into g t into (fresh_found names g new))
    ∙ ap (λ (h : Option (List ℕ)). Some (with_local names (matched_name h j.name) (ty.Seq t))) into
found (rule.by_orderby outer names c ks is sorts) =
    ap (λ (d : Clause Expr). names_after expression_type outer d names) is ∙ when_found _ (Some names) (found sorts)
found (rule.no_key names) = refl
found (rule.one_key names k ks t typed scalar others) =
    and_from (is_sort_key (expression_type k.value names)) _ (ap is_sort_key (found typed) ∙ scalar) (found others)
found (rule.by_none outer names) = refl
found (rule.by_first outer before between behind c cs first others) =
    ap (option_and_then (names_after_all expression_type outer cs)) (found first) ∙ found others
found (rule.by_select names l v t is typed placed) =
    ap (λ (m : Last Expr). last_type expression_type m names) is ∙ placed_found (expression_type v names) t (found typed) placed
found (rule.by_group names l v key k t is key_typed is_one typed placed) =
    ap (λ (m : Last Expr). last_type expression_type m names) is
    ∙ ap₂ (λ (o p : Option Ty). option_and_then (λ s. option_map (ty.Group s) p) o)
    (ap if_key (found key_typed) ∙ when_found (is_key k) (Some k) is_one) (placed_found (expression_type v names) t (found typed) placed)
found (rule.by_body outer names behind body t clauses ends within) =
    limited_body (ap (option_and_then (last_type expression_type body.last)) (found clauses) ∙ found ends)
  where
    limited_body : option_and_then (last_type expression_type body.last) (names_after_all expression_type outer body.clauses names) ≡ Some t
        → body_items expression_type outer body names ≡ Some t
    limited_body h = ap (λ (o : Option Ty). option_and_then (λ s. when (is_within (ty.Seq s)) (Some s)) o) h ∙ when_found (is_within (ty.Seq t)) (Some t) within
found (rule.at_end outer t) = refl
found (rule.by_into outer next rest t u r fresh body others) =
    ap (option_and_then (continued_items expression_type outer rest)) (body_found outer outer next.name t u next.body (fresh_found outer next.name fresh) (found body)) ∙ found others
found (rule.by_query outer q t u r source fresh body rest) =
    query_found outer q t u r (found source) (fresh_found outer q.name fresh) (found body) (found rest)

-- what the rules give is found
pub expression_complete : (names : Names) (e : Expr) (t : Ty) → IsRight (Has names e t) → expression_type e names ≡ Some t
expression_complete names e t right = found right

pub items_complete : (names : Names) (q : Query Expr) (t : Ty) → IsRight (QueryGives names q t) → query_items expression_type q names ≡ Some t
items_complete names q t right = found right
