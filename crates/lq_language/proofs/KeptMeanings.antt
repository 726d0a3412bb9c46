-- What is typed means the same in two worlds that differ only in the fault that is used where there is
-- no meaning, and gives values of its type.
use Rattle.std.proofs.Common.{◌≡◌, ◌∷◌, if◌then◌else◌, List, [], map, ℕ, Bool, true, false, not, Option, Some, None, Result, Ok, ap, ap₂, ◌∙◌, sym, refl, subst, bytes_eq, codes, option_and_then, option_map}
use Rattle.std.proofs.lemmas.Bool.{and_from}
use Rattle.std.proofs.lemmas.Option.{none-some, same_Some}
use Rattle.lq_value.specs.SameAndOrder.{same_values as same_keys}
use Rattle.lq_value.specs.declared.scalar.Scalar.{Scalar}
use Rattle.lq_value.specs.declared.scalar.Scalar.TheVariants as scalar
use Rattle.lq_value.specs.declared.ty.Ty.{Ty, out-Ty}
use Rattle.lq_value.specs.declared.ty.Ty.TheOpen.{Ty-F}
use Rattle.lq_value.specs.declared.ty.Ty.TheVariants as ty
use Rattle.lq_value.specs.declared.ty.Ty.TheVariants.{outs-Bool, outs-Group, outs-Int, outs-IntN, outs-Null, outs-Rec, outs-Row, outs-Str}
use Rattle.lq_value.specs.declared.value.End.TheVariants as end
use Rattle.lq_value.specs.declared.value.Fault.{Fault}
use Rattle.lq_value.specs.declared.value.Value.{Value, out-Value}
use Rattle.lq_value.specs.declared.value.Value.TheVariants as value
use Rattle.lq_language.specs.ClauseTyping.{body_items, element_type, expression_type, joined_name, matched_name, source_type}
use Rattle.lq_language.specs.EnumerableCalls.{EnumerableCall, By, Plain, With, enumerable_call}
use Rattle.lq_language.specs.Maps.{map_argument, map_enumerable, map_field, map_node}
use Rattle.lq_language.specs.Worlds.{Binding, Meaning, Scope, SessionValue, World, binding_of, bound, bound_stream, names_at, or_null, session_names, typed_locals}
use Rattle.lq_language.specs.OperandMeaning.{is_null, sequence, stream_of, table_value, equality_truth, truth_value}
use Rattle.lq_language.specs.ClauseMeaning.{as_group, body_meaning, clause_meaning, clauses_meaning, condition_at, continued, inner_items, item_type_at, joined_type, joined_values, last_meaning, matches, query_meaning, sort_key_at}
use Rattle.lq_language.specs.RuleMeaning.{Meant, compared_meaning, operated_meaning}
use Rattle.lq_language.specs.ValuesOfTypes.{Every, HasCells, HoldsRows, IsScalarOf}
use Rattle.lq_language.specs.HostNames.{are_int_columns, predicate_number}
use Rattle.lq_language.specs.Members.{is_search, member_named, search_named, sole_argument}
use Rattle.lq_language.specs.Operations.{negated, of_member, of_search, on_ok}
use Rattle.lq_language.specs.Stream.{Stream}
use Rattle.lq_language.specs.Types.{is_within}
use Rattle.lq_language.specs.Names.{Names, SessionName, column_type, local_type, session_name, table_number, with_local}
use Rattle.lq_language.specs.OperandTypes.{is_equality, is_text, is_text_type, number_type, truth_type}
use Rattle.lq_language.specs.TypingRules.{TypeClaim, Has, Gives, Members, Sorts, Leads, LeadAll, Ends, BodyGives, Continues, QueryGives, IsRight}
use Rattle.lq_language.specs.TypingRules as rule
use Rattle.lq_language.specs.Meaning.{argument_meaning, as_sequence, given_meaning, global_value, is_sequence_layer, simple_meaning, through_meaning, called_meaning, enumerable_meaning, expression_meaning, expression_meaning_step, members_meaning, method_meaning, search_meaning, session_value, settled, equality_meaning, node_meaning, value_of_member, value_of_name, same_operands}
use Rattle.lq_language.specs.MeaningLaws.{AreMembers, Fits, IsScopeOfValues, IsSessionOfValues, by_group, by_record, by_row, no_member, one_member}
use Rattle.lq_language.specs.Typing.{given_type, through_type, called_type, enumerable_type, method_type, search_type, type_of_member}
use Rattle.lq_grammar.specs.declared.syntax.Argument.{Argument}
use Rattle.lq_grammar.specs.declared.syntax.Argument.TheVariants as argument
use Rattle.lq_grammar.specs.declared.syntax.Binary.{Binary}
use Rattle.lq_grammar.specs.declared.syntax.Binary.TheVariants as binary
use Rattle.lq_grammar.specs.declared.syntax.Body.{Body}
use Rattle.lq_grammar.specs.declared.syntax.Clause.{Clause}
use Rattle.lq_grammar.specs.declared.syntax.Clause.TheVariants as clause
use Rattle.lq_grammar.specs.declared.syntax.Continuation.{Continuation}
use Rattle.lq_grammar.specs.declared.syntax.Expr.{Expr}
use Rattle.lq_grammar.specs.declared.syntax.Expr.TheVariants as expr
use Rattle.lq_grammar.specs.declared.syntax.Join.{Join}
use Rattle.lq_grammar.specs.declared.syntax.Last.{Last}
use Rattle.lq_grammar.specs.declared.syntax.Node.{Node}
use Rattle.lq_grammar.specs.declared.syntax.Node.TheVariants as node
use Rattle.lq_grammar.specs.declared.syntax.Query.{Query}
use Rattle.lq_grammar.specs.declared.syntax.SortKey.{SortKey}
use Rattle.lq_grammar.specs.declared.syntax.Unary.TheVariants as unary
use Rattle.lq_language.proofs.AlikeStreamLaws.{Agree, Alike, KeysAlike, Pair, agree_err, agree_ok, both_agree, expand_alike, group_alike, join_alike, on_ok_agree, order_alike, select_alike, where_alike}
use Rattle.lq_language.proofs.MatchLaws.{every_match}
use Rattle.lq_language.proofs.ItemLaws.{every_map, every_more, every_none, first_of, no_binding, others_of, table_there}
use Rattle.lq_language.proofs.LayerLaws.{para_node, para_query}
use Rattle.lq_language.proofs.MemberLaws.{search_told}
use Rattle.lq_language.proofs.MethodPullLaws.{call_maps}
use Rattle.lq_language.proofs.QueryPullLaws.{query_meant}
use Rattle.lq_language.proofs.ScalarResultLaws.{Gives as GivesScalar, arithmetic_of, given_of, has_value_given, joined_given, length_given, minus_given, ordering_given, search_given, signed, value_given}
use Rattle.lq_language.proofs.TypedMethodLaws.{column_agrees, given_agree, given_typed, host_agrees, key_agrees, left, member_agrees, right, scalar_after, scalar_member_agrees, settled_agree, simple_typed, stream_alike, through_typed, truth_after, truth_same}
use Rattle.lq_language.proofs.TypedOperatorLaws.{and_agrees, choice_agrees, choice_keeps, coalesced_agrees, coalesced_plain, decides, or_agrees}
use Rattle.lq_language.proofs.TypingLaws.{computes_alone, is_truth, orders_alone}
use Rattle.lq_language.proofs.ValueLaws.{Is, gets_ok, is_plain, joined_plain, number_plain, scalar_is, scalar_plain, sequence_is, truth_is}
use Rattle.lq_language.proofs.TypingCompleteness.{lambda_found, called_by, found, limited_found, no_text}

-- ---- layers

module _ {R : Type 0} (w : World R) where
  -- an expression beside what it means
  abbrev pub beside : Expr → Meant R
  beside e = (e, expression_meaning w e)

  pub meaning_of_node : (n : Node Expr) (scope : Scope R) → expression_meaning w (expr.Node n) scope ≡ node_meaning w expression_type (map_node beside n) scope
  unfolding expression_meaning
  meaning_of_node n scope = ap (λ (m : Meaning R). m scope) (para_node (Meaning R) (expression_meaning_step w) n)

  pub meaning_of_query : (q : Query Expr) (scope : Scope R)
      → expression_meaning w (expr.Query q) scope ≡ Ok (sequence (query_meaning w expression_type (expression_meaning w) q scope))
  unfolding expression_meaning
  meaning_of_query q scope =
      ap (λ (m : Meaning R). m scope) (para_query (Meaning R) (expression_meaning_step w) q)
      ∙ ap (λ (s : Stream (Value R)). Ok (sequence s)) (query_meant beside w (λ x. expression_type x.0) (λ x. x.1) q scope)

  abbrev pub type_beside : Meant R → Names → Option Ty
  type_beside x = expression_type x.0

-- the type of a call on what is enumerated
called_found : {X : Type 0} (typed : X → Names → Option Ty) (names : Names) (source : Option Ty) (t r : Ty) (call : EnumerableCall X)
    → option_and_then (λ s. element_type (out-Ty s)) source ≡ Some t → enumerable_type typed names t call ≡ Some r → is_within r ≡ true
    → called_type typed source (Some call) names ≡ Some r
called_found typed names source t r call element gives within =
    limited_found _ r
    (called_by source (λ u. enumerable_type typed names u call) ∙ ap (λ (o : Option Ty). option_and_then (λ u. enumerable_type typed names u call) o) element ∙ gives) within

module _ {R : Type 0} (world : World R) (holds : HoldsRows world) (kept : IsSessionOfValues world) (f g : Fault) where
  abbrev L : World R
  L = left world f g

  abbrev M : World R
  M = right world f g

  -- what an expression means in each of the two
  abbrev in_left : Expr → Meaning R
  in_left = expression_meaning L

  abbrev in_right : Expr → Meaning R
  in_right = expression_meaning M

  abbrev Val : Ty → Value R → Type 0
  Val = Is world

  -- a scope of values under these names
  abbrev At : Names → Scope R → Type 0
  At names scope = IsScopeOfValues world scope × (names_at world scope ≡ names)

  abbrev Means : TypeClaim → Type 0
  Means (Has names e t) = (scope : Scope R) → At names scope → Agree (Val t) (in_left e scope) (in_right e scope)
  Means (Gives names e t) = (scope : Scope R) → At names scope → Alike (Val t) (stream_of L (in_left e scope)) (stream_of M (in_right e scope))
  Means (Members names fields ms) =
      (scope : Scope R) → At names scope
      → Agree (λ vs. Fits world (AreMembers ms vs)) (members_meaning L expression_type (map (map_field (beside L)) fields) scope) (members_meaning M expression_type (map (map_field (beside M)) fields) scope)
  Means (Sorts names ks) = KeysAlike (At names) (sort_key_at L expression_type in_left) (sort_key_at M expression_type in_right) ks
  Means (Leads outer c before behind) =
      (place : Scope R) → At outer place → (s z : Stream (Scope R)) → Alike (At before) s z
      → Alike (At behind) (clause_meaning L expression_type in_left place c s) (clause_meaning M expression_type in_right place c z)
  Means (LeadAll outer cs before behind) =
      (place : Scope R) → At outer place → (s z : Stream (Scope R)) → Alike (At before) s z
      → Alike (At behind) (clauses_meaning L expression_type in_left place cs s) (clauses_meaning M expression_type in_right place cs z)
  Means (Ends names l t) =
      (s z : Stream (Scope R)) → Alike (At names) s z → Alike (Val t) (last_meaning L expression_type in_left l s) (last_meaning M expression_type in_right l z)
  Means (BodyGives outer body names t) =
      (place : Scope R) → At outer place → (s z : Stream (Scope R)) → Alike (At names) s z
      → Alike (Val t) (body_meaning L expression_type in_left place body s) (body_meaning M expression_type in_right place body z)
  Means (Continues outer rest t r) =
      (place : Scope R) → At outer place → (s z : Stream (Value R)) → Alike (Val t) s z
      → Alike (Val r) (continued L expression_type in_left place rest t s) (continued M expression_type in_right place rest t z)
  Means (QueryGives outer q r) =
      (place : Scope R) → At outer place → Alike (Val r) (query_meaning L expression_type in_left q place) (query_meaning M expression_type in_right q place)

  -- ---- scopes

  bound_at : (names : Names) (n : List ℕ) (t : Ty) (scope : Scope R) (v : Value R) → At names scope → Val t v → At (with_local names n t) (bound n t scope v)
  bound_at names n t scope v at fits = (
    every_more (λ (b : Binding R). Val b.ty b.value) (record { name = n; ty = t; value = v }) scope fits at.0,
    ap (λ (ns : Names). with_local ns n t) at.1,
  )

  typed_at : (names : Names) (e : Expr) (t : Ty) (scope : Scope R) → At names scope → expression_type e names ≡ Some t → expression_type e (names_at world scope) ≡ Some t
  typed_at names e t scope at typed = ap (expression_type e) at.1 ∙ typed

  item_at : (names : Names) (e : Expr) (t : Ty) (scope : Scope R) → At names scope → source_type expression_type e names ≡ Some t
      → or_null (source_type expression_type e (names_at world scope)) ≡ t
  item_at names e t scope at typed = ap (λ (ns : Names). or_null (source_type expression_type e ns)) at.1 ∙ ap or_null typed

  -- a scope with one more name, whose type is found to be this
  extended_agrees : (names : Names) (n : List ℕ) (t u : Ty) (scope : Scope R) (v : Value R) → At names scope → Val t v → u ≡ t
      → Agree (At (with_local names n t)) (Ok (bound n u scope v)) (Ok (bound n u scope v))
  extended_agrees names n t u scope v at fits is =
      agree_ok (At (with_local names n t)) (bound n u scope v) (subst (λ (x : Ty). At (with_local names n t) (bound n x scope v)) (sym is) (bound_at names n t scope v at fits))

  -- ---- nodes

  of_node : (t : Ty) (e : Expr) (n : Node Expr) (scope : Scope R) → e ≡ expr.Node n
      → Agree (Val t) (node_meaning L expression_type (map_node (beside L) n) scope) (node_meaning M expression_type (map_node (beside M) n) scope)
      → Agree (Val t) (in_left e scope) (in_right e scope)
  of_node t e n scope is h =
      subst (λ (x : Expr). Agree (Val t) (in_left x scope) (in_right x scope)) (sym is)
      (subst (λ (m : Result (Value R) Fault). Agree (Val t) m (in_right (expr.Node n) scope)) (sym (meaning_of_node L n scope))
      (subst (λ (m : Result (Value R) Fault). Agree (Val t) (node_meaning L expression_type (map_node (beside L) n) scope) m) (sym (meaning_of_node M n scope)) h))

  scalar_agrees : (t : Ty) (layer : Ty-F Ty) (s : Scalar) → out-Ty t ≡ layer → IsScalarOf layer s → Agree (Val t) (Ok (value.Scalar s)) (Ok (value.Scalar s))
  scalar_agrees t layer s is fits = agree_ok (Val t) (value.Scalar s) (scalar_is world t layer s is fits)

  -- names
  value_by : (x : List ℕ) (b : Binding R) (bs : List (Binding R)) (t : Ty) → Val b.ty b.value → (later : Option Ty)
      → (later ≡ Some t → (d : Binding R) × (binding_of x bs ≡ Some d) × Val t d.value) → (c : Bool) → (if c then Some b.ty else later) ≡ Some t
      → (d : Binding R) × ((if c then Some b else binding_of x bs) ≡ Some d) × Val t d.value
  value_by x b bs t fits later rest true h = (b, refl, subst (λ (u : Ty). Val u b.value) (same_Some b.ty t h) fits)
  value_by x b bs t fits later rest false h = rest h

  pub has_value : (x : List ℕ) (scope : Scope R) (t : Ty) → IsScopeOfValues world scope → local_type x (typed_locals scope) ≡ Some t
      → (b : Binding R) × (binding_of x scope ≡ Some b) × Val t b.value
  has_value x [] t fits h = absurd (none-some t h)
  has_value x (b ∷ bs) t fits h =
      value_by x b bs t (first_of (λ d. Val d.ty d.value) b bs fits) (local_type x (typed_locals bs))
      (has_value x bs t (others_of (λ d. Val d.ty d.value) b bs fits)) (bytes_eq b.name x) h

  local_means : (x : List ℕ) (scope : Scope R) (t : Ty) → IsScopeOfValues world scope → local_type x (typed_locals scope) ≡ Some t
      → Agree (Val t) (value_of_name L x (binding_of x scope)) (value_of_name M x (binding_of x scope))
  local_means x scope t fits h =
      let there = has_value x scope t fits h in
      subst (λ (o : Option (Binding R)). Agree (Val t) (value_of_name L x o) (value_of_name M x o)) (sym there.1) (agree_ok (Val t) there.0.value there.2)

  table_means : (x : List ℕ) (scope : Scope R) (n : ℕ) → local_type x (typed_locals scope) ≡ None → table_number x world.schemas ≡ Some n
      → Agree (Val (ty.Seq (ty.Row n))) (value_of_name L x (binding_of x scope)) (value_of_name M x (binding_of x scope))
  table_means x scope n hidden table =
      let there = table_there x world.schemas n table in
      let rows = holds n there.0 there.1 in
      subst (λ (o : Option (Binding R)). Agree (Val (ty.Seq (ty.Row n))) (value_of_name L x o) (value_of_name M x o)) (sym (no_binding x scope hidden))
      (subst (λ (o : Option ℕ). Agree (Val (ty.Seq (ty.Row n))) (global_value L x o) (global_value M x o))
      (sym table)
      (subst (λ (o : Option (List R)). Agree (Val (ty.Seq (ty.Row n))) (table_value L o) (table_value M o)) (sym rows.1)
      (agree_ok (Val (ty.Seq (ty.Row n))) (value.Seq (map value.Row rows.0) end.Done)
      (sequence_is world (ty.Row n) (map value.Row rows.0, end.Done)
      (every_map (HasCells world n) (Val (ty.Row n)) value.Row (λ r cells. by_row (ty.Row n) n r (outs-Row n) cells) rows.0 rows.2)))))

  -- a name of the session that is typed has a value of its type, which is the same in both
  session_by : (x : List ℕ) (s : SessionValue R) (others : List (SessionValue R)) (known : SessionName) → Val s.known.ty s.value
      → (session_name x (session_names others) ≡ Some known → (v : Value R) × ((w : World R) → session_value w x others ≡ Ok v) × Val known.ty v)
      → (b : Bool) → (if b then Some s.known else session_name x (session_names others)) ≡ Some known
      → (v : Value R) × ((w : World R) → (if b then Ok s.value else session_value w x others) ≡ Ok v) × Val known.ty v
  session_by x s others known fits later true h = (s.value, λ w. refl, subst (λ (k : SessionName). Val k.ty s.value) (same_Some s.known known h) fits)
  session_by x s others known fits later false h = later h

  session_there : (x : List ℕ) (session : List (SessionValue R)) (known : SessionName) → Every (λ s. Val s.known.ty s.value) session
      → session_name x (session_names session) ≡ Some known → (v : Value R) × ((w : World R) → session_value w x session ≡ Ok v) × Val known.ty v
  session_there x [] known fits h = absurd (none-some known h)
  session_there x (s ∷ others) known fits h =
      session_by x s others known (first_of (λ (d : SessionValue R). Val d.known.ty d.value) s others fits)
      (session_there x others known (others_of (λ (d : SessionValue R). Val d.known.ty d.value) s others fits)) (bytes_eq s.known.name x) h

  pub has_session_value : (x : List ℕ) (known : SessionName) → session_name x (session_names world.session) ≡ Some known
      → (v : Value R) × ((w : World R) → w.session ≡ world.session → session_value w x w.session ≡ Ok v) × Val known.ty v
  has_session_value x known h =
      let there = session_there x world.session known kept h in
      (there.0, (λ w same. ap (session_value w x) same ∙ there.1 w), there.2)

  -- members
  member_means : (names : Names) (a : Expr) (m : List ℕ) (s t : Ty) → expression_type a names ≡ Some s → type_of_member names m (out-Ty s) ≡ Some t
      → ((v : Value R) → Val s v → Agree (Val t) (value_of_member L (Some s) m (out-Value R v)) (value_of_member M (Some s) m (out-Value R v)))
      → Means (Has names a s) → (scope : Scope R) → At names scope
      → Agree (Val t) (node_meaning L expression_type (map_node (beside L) (node.Member a m)) scope) (node_meaning M expression_type (map_node (beside M) (node.Member a m)) scope)
  member_means names a m s t typed member agrees means scope at =
      settled_agree world f g t (option_and_then (λ u. type_of_member (names_at world scope) m (out-Ty u)) (expression_type a (names_at world scope)))
      (ap (λ (ns : Names). option_and_then (λ u. type_of_member ns m (out-Ty u)) (expression_type a ns)) at.1
      ∙ ap (λ (o : Option Ty). option_and_then (λ u. type_of_member names m (out-Ty u)) o) typed ∙ member)
      _ _
      (on_ok_agree (Val s) (Val t) (λ v. value_of_member L (expression_type a (names_at world scope)) m (out-Value R v))
      (λ v. value_of_member M (expression_type a (names_at world scope)) m (out-Value R v))
      (λ v fits. subst (λ (o : Option Ty). Agree (Val t) (value_of_member L o m (out-Value R v)) (value_of_member M o m (out-Value R v)))
      (sym (typed_at names a s scope at typed)) (agrees v fits))
      (in_left a scope) (in_right a scope) (means scope at))

  scalar_member : (names : Names) (a : Expr) (m : List ℕ) (s t : Ty) (k l : Ty-F Ty) → out-Ty s ≡ k → out-Ty t ≡ l → is_plain k ≡ true → expression_type a names ≡ Some s
      → type_of_member names m k ≡ Some t → ((x : Scalar) → IsScalarOf k x → GivesScalar l (λ unknown. of_member unknown (member_named m) x)) → Means (Has names a s) → (scope : Scope R) → At names scope
      → Agree (Val t) (node_meaning L expression_type (map_node (beside L) (node.Member a m)) scope) (node_meaning M expression_type (map_node (beside M) (node.Member a m)) scope)
  scalar_member names a m s t k l s_is t_is plain typed member given means =
      member_means names a m s t typed (ap (type_of_member names m) s_is ∙ member)
      (scalar_member_agrees world f g s t m (ap is_plain s_is ∙ plain)
      (λ x fits. given_of t l (λ unknown. of_member unknown (member_named m) x) t_is (given x (subst (λ (u : Ty-F Ty). IsScalarOf u x) s_is fits)))) means

  -- ---- operators

  abbrev computed_of : World R → Binary → Expr → Expr → Scope R → Option Ty → Option Ty → Result (Value R) Fault
  computed_of w op a b scope s t = operated_meaning w op s t (expression_meaning w a scope) (expression_meaning w b scope)

  not_compared : (w : World R) (op : Binary) (a b : Expr) (scope : Scope R) → is_equality op ≡ false
      → node_meaning w expression_type (map_node (beside w) (node.Binary op a b)) scope
      ≡ computed_of w op a b scope (expression_type a (names_at w scope)) (expression_type b (names_at w scope))
  not_compared w op a b scope other =
      ap (λ (c : Bool). if c then equality_meaning w op (expression_meaning w a scope) (expression_meaning w b scope)
      else (if c then compared_meaning w op (expression_meaning w a scope) (expression_meaning w b scope)
      else computed_of w op a b scope (expression_type a (names_at w scope)) (expression_type b (names_at w scope)))) other

  is_compared : (w : World R) (op : Binary) (a b : Expr) (scope : Scope R) → is_equality op ≡ true
      → node_meaning w expression_type (map_node (beside w) (node.Binary op a b)) scope ≡ equality_meaning w op (expression_meaning w a scope) (expression_meaning w b scope)
  is_compared w op a b scope same =
      ap (λ (c : Bool). if c then equality_meaning w op (expression_meaning w a scope) (expression_meaning w b scope)
      else (if c then compared_meaning w op (expression_meaning w a scope) (expression_meaning w b scope)
      else computed_of w op a b scope (expression_type a (names_at w scope)) (expression_type b (names_at w scope)))) same

  by_equals : (t : Ty) (m n k l : Result (Value R) Fault) → m ≡ k → n ≡ l → Agree (Val t) k l → Agree (Val t) m n
  by_equals t m n k l h i agree = subst (λ (o : Result (Value R) Fault). Agree (Val t) o n) (sym h) (subst (λ (o : Result (Value R) Fault). Agree (Val t) k o) (sym i) agree)

  session_means : (x : List ℕ) (scope : Scope R) (known : SessionName) → local_type x (typed_locals scope) ≡ None → table_number x world.schemas ≡ None
      → session_name x (session_names world.session) ≡ Some known
      → Agree (Val known.ty) (value_of_name L x (binding_of x scope)) (value_of_name M x (binding_of x scope))
  session_means x scope known hidden no_table h =
      let there = has_session_value x known h in
      subst (λ (o : Option (Binding R)). Agree (Val known.ty) (value_of_name L x o) (value_of_name M x o)) (sym (no_binding x scope hidden))
      (subst (λ (o : Option ℕ). Agree (Val known.ty) (global_value L x o) (global_value M x o)) (sym no_table)
      (by_equals known.ty _ _ _ _ (there.1 L refl) (there.1 M refl) (agree_ok (Val known.ty) there.0 there.2)))

  signed_means : (names : Names) (a b : Expr) (op : Binary) (r s t : Ty) → is_equality op ≡ false → is_plain (out-Ty s) ≡ true → is_plain (out-Ty t) ≡ true
      → ((x y : Scalar) → IsScalarOf (out-Ty s) x → IsScalarOf (out-Ty t) y → GivesScalar (out-Ty r) (signed op s t x y))
      → expression_type a names ≡ Some s → expression_type b names ≡ Some t → Means (Has names a s) → Means (Has names b t) → (scope : Scope R) → At names scope
      → Agree (Val r) (node_meaning L expression_type (map_node (beside L) (node.Binary op a b)) scope) (node_meaning M expression_type (map_node (beside M) (node.Binary op a b)) scope)
  signed_means names a b op r s t other s_plain t_plain given a_typed b_typed a_means b_means scope at =
      by_equals r _ _ _ _ (not_compared L op a b scope other ∙ at_types L) (not_compared M op a b scope other ∙ at_types M)
      (scalar_after world f g (Agree (Val r)) (agree_err (Val r)) s s_plain _ _
      (λ x x_fits. scalar_after world f g (Agree (Val r)) (agree_err (Val r)) t t_plain _ _
      (λ y y_fits. given_agree world f g r (signed op s t x y) (given x y x_fits y_fits)) (in_left b scope) (in_right b scope) (b_means scope at))
      (in_left a scope) (in_right a scope) (a_means scope at))
    where
      at_types : (w : World R) → computed_of w op a b scope (expression_type a (names_at world scope)) (expression_type b (names_at world scope)) ≡ computed_of w op a b scope (Some s) (Some t)
      at_types w = ap₂ (computed_of w op a b scope) (typed_at names a s scope at a_typed) (typed_at names b t scope at b_typed)

  told_of : (op : Binary) (o p : Result Bool Fault) → ((b : Bool) × (o ≡ Ok b) × (p ≡ Ok b))
      → Agree (Val ty.Bool) (on_ok o (λ same. Ok (truth_value (equality_truth op same)))) (on_ok p (λ same. Ok (truth_value (equality_truth op same))))
  told_of op o p h =
      by_equals ty.Bool _ _ _ _ (ap (λ (x : Result Bool Fault). on_ok x (λ same. Ok (truth_value (equality_truth op same)))) h.1) (ap (λ (x : Result Bool Fault). on_ok x (λ same. Ok (truth_value (equality_truth op same)))) h.2)
      (agree_ok (Val ty.Bool) (truth_value (equality_truth op h.0)) (truth_is world (equality_truth op h.0)))

  -- ---- methods

  method_at : (w : World R) (names : Names) (a : Expr) (m : List ℕ) (arguments : List (Argument Expr)) (call : EnumerableCall Expr) (t : Ty) (scope : Scope R)
      → names_at w scope ≡ names → enumerable_call m arguments ≡ Some call → source_type expression_type a names ≡ Some t
      → method_meaning w expression_type (beside w a) m (map (map_argument (beside w)) arguments) scope
      ≡ enumerable_meaning w expression_type scope t (map_enumerable (beside w) call) (stream_of w (expression_meaning w a scope))
  method_at w names a m arguments call t scope at called source =
      ap (λ (c : Bool). if c then search_meaning w expression_type (expression_meaning w a scope) m (argument_meaning w expression_type scope (sole_argument (map (map_argument (beside w)) arguments)))
      else called_meaning w expression_type (enumerable_call m (map (map_argument (beside w)) arguments)) (or_null (source_type expression_type a (names_at w scope))) (expression_meaning w a scope) scope)
      (ap (λ (ns : Names). is_text_type (expression_type a ns)) at ∙ no_text (expression_type a names) t source)
      ∙ ap₂ (λ (o : Option (EnumerableCall (Meant R))) (u : Ty). called_meaning w expression_type o u (expression_meaning w a scope) scope)
      (call_maps (beside w) m arguments ∙ ap (option_map (map_enumerable (beside w))) called)
      (ap (λ (ns : Names). or_null (source_type expression_type a ns)) at ∙ ap or_null source)

  pub method_typed : (w : World R) (names : Names) (a : Expr) (m : List ℕ) (arguments : List (Argument Expr)) (call : EnumerableCall Expr) (t r : Ty) (scope : Scope R)
      → names_at w scope ≡ names → enumerable_call m arguments ≡ Some call → source_type expression_type a names ≡ Some t
      → enumerable_type (type_beside w) names t (map_enumerable (beside w) call) ≡ Some r → is_within r ≡ true
      → method_type (type_beside w) (beside w a) m (map (map_argument (beside w)) arguments) (names_at w scope) ≡ Some r
  method_typed w names a m arguments call t r scope at called source gives within =
      ap (method_type (type_beside w) (beside w a) m (map (map_argument (beside w)) arguments)) at
      ∙ ap (λ (c : Bool). if c then search_type (type_beside w) m (map (map_argument (beside w)) arguments) names
      else called_type (type_beside w) (expression_type a names) (enumerable_call m (map (map_argument (beside w)) arguments)) names) (no_text (expression_type a names) t source)
      ∙ ap (λ (o : Option (EnumerableCall (Meant R))). called_type (type_beside w) (expression_type a names) o names) (call_maps (beside w) m arguments ∙ ap (option_map (map_enumerable (beside w))) called)
      ∙ called_found (type_beside w) names (expression_type a names) t r (map_enumerable (beside w) call) source gives within

  method_means : (names : Names) (e a : Expr) (m : List ℕ) (arguments : List (Argument Expr)) (call : EnumerableCall Expr) (t r : Ty) (scope : Scope R) → At names scope
      → e ≡ expr.Node (node.Method a m arguments) → enumerable_call m arguments ≡ Some call → source_type expression_type a names ≡ Some t
      → enumerable_type (type_beside L) names t (map_enumerable (beside L) call) ≡ Some r → enumerable_type (type_beside M) names t (map_enumerable (beside M) call) ≡ Some r → is_within r ≡ true
      → Agree (Val r) (enumerable_meaning L expression_type scope t (map_enumerable (beside L) call) (stream_of L (in_left a scope)))
      (enumerable_meaning M expression_type scope t (map_enumerable (beside M) call) (stream_of M (in_right a scope)))
      → Agree (Val r) (in_left e scope) (in_right e scope)
  method_means names e a m arguments call t r scope at is called source left_gives right_gives within agree =
      of_node r e (node.Method a m arguments) scope is
      (by_equals r _ _ _ _
      (ap (λ (o : Option Ty). settled L o (method_meaning L expression_type (beside L a) m (map (map_argument (beside L)) arguments) scope))
      (method_typed L names a m arguments call t r scope at.1 called source left_gives within)
      ∙ ap (settled L (Some r)) (method_at L names a m arguments call t scope at.1 called source))
      (ap (λ (o : Option Ty). settled M o (method_meaning M expression_type (beside M a) m (map (map_argument (beside M)) arguments) scope))
      (method_typed M names a m arguments call t r scope at.1 called source right_gives within)
      ∙ ap (settled M (Some r)) (method_at M names a m arguments call t scope at.1 called source))
      (settled_agree world f g r (Some r) refl _ _ agree))

  -- ---- clauses

  values_alike : (into : Option (List ℕ)) (k t : Ty) (key : Value R) (qs : List (Value R × Value R)) → Every (Pair (Val k) (Val t)) qs
      → (joined_values L expression_type in_left into key qs ≡ joined_values M expression_type in_right into key qs)
      × Every (Val (joined_type L expression_type in_left into t)) (joined_values L expression_type in_left into key qs)
  values_alike None k t key qs ps = (refl, every_match (Val k) (Val t) key qs ps)
  values_alike (Some n) k t key qs ps =
      (refl, every_more (Val (ty.Seq t)) (value.Seq (matches key qs) end.Done) [] (sequence_is world t (matches key qs, end.Done) (every_match (Val k) (Val t) key qs ps)) (every_none (Val (ty.Seq t))))

  keyed_means : (outer : Names) (j : Join Expr) (t l : Ty) (place : Scope R) → At outer place → source_type expression_type j.source outer ≡ Some t → Means (Gives outer j.source t)
      → Means (Has (with_local outer j.name t) j.inner_key l) → Alike (Pair (Val l) (Val t)) (inner_items L expression_type in_left place j) (inner_items M expression_type in_right place j)
  keyed_means outer j t l place at source gives key =
      select_alike (Val t) (Pair (Val l) (Val t)) _ _
      (λ v fits. both_agree (Val l) (Val t) _ _ _ _ (key_agrees v fits) (agree_ok (Val t) v fits))
      (stream_of L (in_left j.source place)) (stream_of M (in_right j.source place)) (gives place at)
    where
      key_agrees : (v : Value R) → Val t v
          → Agree (Val l) (in_left j.inner_key (bound j.name (item_type_at L expression_type in_left j.source place) place v))
          (in_right j.inner_key (bound j.name (item_type_at M expression_type in_right j.source place) place v))
      key_agrees v fits =
          subst (λ (u : Ty). Agree (Val l) (in_left j.inner_key (bound j.name u place v)) (in_right j.inner_key (bound j.name u place v))) (sym (item_at outer j.source t place at source))
          (key (bound j.name t place v) (bound_at outer j.name t place v at fits))

  join_means : (outer names : Names) (j : Join Expr) (t k l : Ty) → source_type expression_type j.source outer ≡ Some t → Means (Gives outer j.source t) → Means (Has names j.outer_key k)
      → Means (Has (with_local outer j.name t) j.inner_key l)
      → Means (Leads outer (clause.Join j) names (with_local names (joined_name j) (joined_type L expression_type in_left j.into t)))
  join_means outer names j t k l source gives outer_key inner_key place at s z all =
      join_alike (At names) (Val (joined_type L expression_type in_left j.into t)) (At (with_local names (joined_name j) (joined_type L expression_type in_left j.into t))) (Val k) (Pair (Val l) (Val t))
      (in_left j.outer_key) (in_right j.outer_key) (joined_values L expression_type in_left j.into) (joined_values M expression_type in_right j.into)
      _ _ outer_key (λ key qs ps. values_alike j.into l t key qs ps)
      (λ scope here v fits. extended_agrees names (joined_name j) (joined_type L expression_type in_left j.into t) _ scope v here fits
      (ap (joined_type L expression_type in_left j.into) (item_at outer j.source t place at source)))
      (inner_items L expression_type in_left place j) (inner_items M expression_type in_right place j) (keyed_means outer j t l place at source gives inner_key) s z all

  -- ---- queries

  map_alike : (names : Names) (n : List ℕ) (t u : Ty) (place : Scope R) → At names place → u ≡ t → (s z : Stream (Value R)) → Alike (Val t) s z
      → Alike (At (with_local names n t)) (bound_stream n u place s) (bound_stream n u place z)
  map_alike names n t u place at is s z all = (
    ap (bound_stream n u place) all.0,
    subst (λ (x : Ty). Every (At (with_local names n t)) (bound_stream n x place s).0) (sym is) (every_map (Val t) (At (with_local names n t)) (bound n t place) (λ v fits. bound_at names n t place v at fits) s.0 all.1),
  )

  -- the type of what a body gives, at the place of a scope
  body_at : (outer : Names) (body : Body Expr) (n : List ℕ) (t u : Ty) (place : Scope R) → At outer place → body_items expression_type outer body (with_local outer n t) ≡ Some u
      → or_null (body_items expression_type (names_at world place) body (with_local (names_at world place) n t)) ≡ u
  body_at outer body n t u place at typed = ap (λ (ns : Names). or_null (body_items expression_type ns body (with_local ns n t))) at.1 ∙ ap or_null typed

  continued_at : (outer : Names) (rest : List (Continuation Expr)) (u v r : Ty) (place : Scope R) → At outer place → v ≡ u → Means (Continues outer rest u r) → (s z : Stream (Value R))
      → Alike (Val u) s z → Alike (Val r) (continued L expression_type in_left place rest v s) (continued M expression_type in_right place rest v z)
  continued_at outer rest u v r place at is means s z all =
      subst (λ (x : Ty). Alike (Val r) (continued L expression_type in_left place rest x s) (continued M expression_type in_right place rest x z)) (sym is) (means place at s z all)

  query_means : (outer : Names) (q : Query Expr) (t u r : Ty) → source_type expression_type q.source outer ≡ Some t → body_items expression_type outer q.body (with_local outer q.name t) ≡ Some u
      → Means (Gives outer q.source t) → Means (BodyGives outer q.body (with_local outer q.name t) u) → Means (Continues outer q.rest u r) → Means (QueryGives outer q r)
  unfolding query_meaning
  query_means outer q t u r source typed gives body rest place at =
      let item = item_at outer q.source t place at source in
      continued_at outer q.rest u _ r place at
      (ap (λ (x : Ty). or_null (body_items expression_type (names_at world place) q.body (with_local (names_at world place) q.name x))) item ∙ body_at outer q.body q.name t u place at typed) rest _ _
      (body place at _ _ (map_alike outer q.name t _ place at item _ _ (gives place at)))

  sequence_agrees : (t : Ty) (s z : Stream (Value R)) → Alike (Val t) s z → Agree (Val (ty.Seq t)) (Ok (sequence s)) (Ok (sequence z))
  sequence_agrees t s z all = (ap (λ (x : Stream (Value R)). Ok (sequence x)) all.0, gets_ok world (ty.Seq t) (sequence s) (sequence_is world t s all.1))

  -- ---- by the rules

  means : {claim : TypeClaim} → IsRight claim → Means claim
  means (rule.of_integer names e n is) = λ scope at. of_node ty.Int e (node.Integer n) scope is (scalar_agrees ty.Int Ty-F.Int (scalar.Int n) outs-Int tt)
  means (rule.of_text names e x is) = λ scope at. of_node ty.Str e (node.Text x) scope is (scalar_agrees ty.Str Ty-F.Str (scalar.Text x) outs-Str tt)
  means (rule.of_truth names e b is) = λ scope at. of_node ty.Bool e (node.Bool b) scope is (scalar_agrees ty.Bool Ty-F.Bool (scalar.Bool b) outs-Bool tt)
  means (rule.of_null names e is) = λ scope at. of_node ty.Null e node.Null scope is (scalar_agrees ty.Null Ty-F.Null scalar.Null outs-Null tt)
  means (rule.of_local names e x t is local) = λ scope at.
      of_node t e (node.Name x) scope is (local_means x scope t at.0 (ap (λ (ns : Names). local_type x ns.locals) at.1 ∙ local))
  means (rule.of_table names e x n is hidden table) = λ scope at.
      of_node (ty.Seq (ty.Row n)) e (node.Name x) scope is
      (table_means x scope n (ap (λ (ns : Names). local_type x ns.locals) at.1 ∙ hidden) (ap (λ (ns : Names). table_number x ns.tables) at.1 ∙ table))
  means (rule.of_session names e x known is hidden no_table there) = λ scope at.
      of_node known.ty e (node.Name x) scope is
      (session_means x scope known (ap (λ (ns : Names). local_type x ns.locals) at.1 ∙ hidden) (ap (λ (ns : Names). table_number x ns.tables) at.1 ∙ no_table)
      (ap (λ (ns : Names). session_name x ns.session) at.1 ∙ there))
  means (rule.of_column names e row c n t is typed column) = λ scope at.
      of_node t e (node.Member row c) scope is
      (member_means names row c (ty.Row n) t (found typed) (ap (type_of_member names c) (outs-Row n) ∙ column)
      (column_agrees world f g n c t (ap (λ (ns : Names). column_type ns.tables n c) at.1 ∙ column)) (means typed) scope at)
  means (rule.of_member names e a m members t is typed member) = λ scope at.
      of_node t e (node.Member a m) scope is
      (member_means names a m (ty.Rec members) t (found typed) (ap (type_of_member names m) (outs-Rec members) ∙ member) (member_agrees world f g members m t member) (means typed) scope at)
  means (rule.of_key names e a k t is typed) = λ scope at.
      of_node k e (node.Member a (codes "Key")) scope is
      (member_means names a (codes "Key") (ty.Group k t) k (found typed) (ap (type_of_member names (codes "Key")) (outs-Group k t)) (key_agrees world f g k t (codes "Key")) (means typed) scope at)
  means (rule.of_has_value names e a is typed) = λ scope at.
      of_node ty.Bool e (node.Member a (codes "HasValue")) scope is
      (scalar_member names a (codes "HasValue") ty.IntN ty.Bool Ty-F.IntN Ty-F.Bool outs-IntN outs-Bool refl (found typed) refl has_value_given (means typed) scope at)
  means (rule.of_value names e a is typed) = λ scope at.
      of_node ty.Int e (node.Member a (codes "Value")) scope is
      (scalar_member names a (codes "Value") ty.IntN ty.Int Ty-F.IntN Ty-F.Int outs-IntN outs-Int refl (found typed) refl value_given (means typed) scope at)
  means (rule.of_length names e a is typed) = λ scope at.
      of_node ty.Int e (node.Member a (codes "Length")) scope is
      (scalar_member names a (codes "Length") ty.Str ty.Int Ty-F.Str Ty-F.Int outs-Str outs-Int refl (found typed) refl length_given (means typed) scope at)
  means (rule.of_ordering names e a b op s t is orders a_typed s_number b_typed t_number) = λ scope at.
      of_node ty.Bool e (node.Binary op a b) scope is
      (signed_means names a b op ty.Bool s t (orders_alone op orders) (number_plain (out-Ty s) s_number) (number_plain (out-Ty t) t_number)
      (λ x y x_fits y_fits. given_of ty.Bool Ty-F.Bool (signed op s t x y) outs-Bool (ordering_given op s t orders s_number t_number x y x_fits y_fits))
      (found a_typed) (found b_typed) (means a_typed) (means b_typed) scope at)
  means (rule.of_equality names e a b op s t is same a_typed b_typed compares) = λ scope at.
      of_node ty.Bool e (node.Binary op a b) scope is
      (by_equals ty.Bool _ _ _ _ (is_compared L op a b scope same) (is_compared M op a b scope same)
      (on_ok_agree (Val s) (Val ty.Bool) _ _ (λ v v_fits. on_ok_agree (Val t) (Val ty.Bool) _ _
      (λ w w_fits. let decided = decides world s t compares v w v_fits w_fits in
      told_of op (same_operands L (out-Value R v) (out-Value R w)) (same_operands M (out-Value R v) (out-Value R w)) (decided.0, decided.1 f, decided.1 g))
      (in_left b scope) (in_right b scope) (means b_typed scope at)) (in_left a scope) (in_right a scope) (means a_typed scope at)))
  means (rule.of_arithmetic names e a b op s t is computes a_typed s_number b_typed t_number) = λ scope at.
      of_node (number_type (out-Ty s) (out-Ty t)) e (node.Binary op a b) scope is
      (signed_means names a b op (number_type (out-Ty s) (out-Ty t)) s t (computes_alone op computes).0 (number_plain (out-Ty s) s_number) (number_plain (out-Ty t) t_number)
      (λ x y x_fits y_fits. arithmetic_of op s t computes s_number t_number x y x_fits y_fits) (found a_typed) (found b_typed) (means a_typed) (means b_typed) scope at)
  means (rule.of_joined names e a b s t is a_typed b_typed joins) = λ scope at.
      of_node ty.Str e (node.Binary binary.Add a b) scope is
      (signed_means names a b binary.Add ty.Str s t refl (joined_plain (out-Ty s) (out-Ty t) joins).0 (joined_plain (out-Ty s) (out-Ty t) joins).1
      (λ x y x_fits y_fits. given_of ty.Str Ty-F.Str (signed binary.Add s t x y) outs-Str (joined_given s t joins x y x_fits y_fits))
      (found a_typed) (found b_typed) (means a_typed) (means b_typed) scope at)
  means (rule.of_minus names e a t is typed number) = λ scope at.
      of_node t e (node.Unary unary.Minus a) scope is
      (scalar_after world f g (Agree (Val t)) (agree_err (Val t)) t (number_plain (out-Ty t) number) _ _
      (λ s fits. given_agree world f g t (λ unknown. negated unknown s) (minus_given (out-Ty t) number s fits)) (in_left a scope) (in_right a scope) (means typed scope at))
  means (rule.of_not names e a is typed) = λ scope at.
      of_node ty.Bool e (node.Unary unary.Not a) scope is
      (truth_after world f g ty.Bool (λ b. Ok (truth_value (not b))) (λ b. Ok (truth_value (not b)))
      (λ b. agree_ok (Val ty.Bool) (truth_value (not b)) (truth_is world (not b))) (in_left a scope) (in_right a scope) (means typed scope at))
  means (rule.of_both names e a b is a_typed b_typed) = λ scope at.
      of_node ty.Bool e (node.And a b) scope is
      (truth_after world f g ty.Bool _ _ (λ c. and_agrees world (in_left b scope) (in_right b scope) (means b_typed scope at) c false) (in_left a scope) (in_right a scope) (means a_typed scope at))
  means (rule.of_either names e a b is a_typed b_typed) = λ scope at.
      of_node ty.Bool e (node.Or a b) scope is
      (truth_after world f g ty.Bool _ _ (λ c. or_agrees world (in_left b scope) (in_right b scope) (means b_typed scope at) c true) (in_left a scope) (in_right a scope) (means a_typed scope at))
  means (rule.of_coalesced names e a b s t r is a_typed b_typed gives) = λ scope at.
      of_node r e (node.Coalesce a b) scope is
      (scalar_after world f g (Agree (Val r)) (agree_err (Val r)) s (coalesced_plain (out-Ty s) (out-Ty t) r gives).0 _ _
      (λ x fits. coalesced_agrees world s t r gives x fits (in_left b scope) (in_right b scope) (means b_typed scope at) (is_null x) refl) (in_left a scope) (in_right a scope) (means a_typed scope at))
  means (rule.of_choice names e c a b s t r is c_typed a_typed b_typed chooses) = λ scope at.
      let keeps = choice_keeps world s t r chooses in
      of_node r e (node.Conditional c a b) scope is
      (truth_after world f g r _ _ (choice_agrees world r s t keeps.0 keeps.1 (in_left a scope) (in_right a scope) (in_left b scope) (in_right b scope) (means a_typed scope at) (means b_typed scope at))
      (in_left c scope) (in_right c scope) (means c_typed scope at))
  means (rule.of_host names e row p columns k n is known typed ints) = λ scope at.
      of_node ty.Bool e (node.Host p row columns) scope is
      (on_ok_agree (Val (ty.Row n)) (Val ty.Bool) _ _
      (host_agrees world f g p columns k n (ap (λ (ns : Names). predicate_number ns.predicates p columns) at.1 ∙ known) (ap (λ (ns : Names). are_int_columns ns.tables n columns) at.1 ∙ ints))
      (in_left row scope) (in_right row scope) (means typed scope at))
  means (rule.of_record names e fields members is distinct typed within) = λ scope at.
      of_node (ty.Rec members) e (node.New fields) scope is
      (on_ok_agree (λ vs. Fits world (AreMembers members vs)) (Val (ty.Rec members)) (λ vs. Ok (value.Rec vs)) (λ vs. Ok (value.Rec vs))
      (λ vs fits. agree_ok (Val (ty.Rec members)) (value.Rec vs) (by_record (ty.Rec members) members vs (outs-Rec members) fits)) _ _ (means typed scope at))
  means (rule.no_member names) = λ scope at. agree_ok (λ vs. Fits world (AreMembers [] vs)) [] no_member
  means (rule.one_member names field fields t members typed placed others) = λ scope at.
      on_ok_agree (Val t) (λ vs. Fits world (AreMembers ((field.name, t) ∷ members) vs)) _ _
      (λ v fits. on_ok_agree (λ vs. Fits world (AreMembers members vs)) (λ vs. Fits world (AreMembers ((field.name, t) ∷ members) vs)) (λ vs. Ok ((field.name, v) ∷ vs)) (λ vs. Ok ((field.name, v) ∷ vs))
      (λ vs more. agree_ok (λ ws. Fits world (AreMembers ((field.name, t) ∷ members) ws)) ((field.name, v) ∷ vs) (one_member field.name t v members vs fits more)) _ _ (means others scope at))
      (in_left field.value scope) (in_right field.value scope) (means typed scope at)
  means (rule.of_search names e a b m is looks a_typed b_typed) = λ scope at.
      of_node ty.Bool e (node.Method a m (argument.Value b ∷ [])) scope is
      (by_equals ty.Bool _ _ _ _ (search_at L scope at.1) (search_at M scope at.1)
      (scalar_after world f g (Agree (Val ty.Bool)) (agree_err (Val ty.Bool)) ty.Str (ap is_plain outs-Str) _ _
      (λ x x_fits. scalar_after world f g (Agree (Val ty.Bool)) (agree_err (Val ty.Bool)) ty.Str (ap is_plain outs-Str) _ _
      (λ y y_fits. given_agree world f g ty.Bool (λ unknown. of_search unknown (search_named m) x y)
      (given_of ty.Bool Ty-F.Bool _ outs-Bool (search_given m looks x y (subst (λ (u : Ty-F Ty). IsScalarOf u x) outs-Str x_fits) (subst (λ (u : Ty-F Ty). IsScalarOf u y) outs-Str y_fits))))
      (in_left b scope) (in_right b scope) (means b_typed scope at)) (in_left a scope) (in_right a scope) (means a_typed scope at)))
    where
      text_there : (x : Expr) → expression_type x names ≡ Some ty.Str → is_text_type (expression_type x names) ≡ true
      text_there x typed = ap is_text_type typed ∙ ap is_text outs-Str

      search_at : (w : World R) (place : Scope R) → names_at w place ≡ names
          → node_meaning w expression_type (map_node (beside w) (node.Method a m (argument.Value b ∷ []))) place
          ≡ search_meaning w expression_type (expression_meaning w a place) m (expression_meaning w b place)
      search_at w place here =
          ap (λ (o : Option Ty). settled w o (method_meaning w expression_type (beside w a) m (argument.Value (beside w b) ∷ []) place))
          (ap (method_type (type_beside w) (beside w a) m (argument.Value (beside w b) ∷ [])) here
          ∙ ap (λ (c : Bool). if c then search_type (type_beside w) m (argument.Value (beside w b) ∷ []) names
          else called_type (type_beside w) (expression_type a names) (enumerable_call m (argument.Value (beside w b) ∷ [])) names) (text_there a (found a_typed))
          ∙ ap truth_type (and_from (is_search m) _ (search_told looks) (text_there b (found b_typed))))
          ∙ ap (λ (layer : Ty-F Ty). if is_sequence_layer layer then as_sequence (stream_of w (method_meaning w expression_type (beside w a) m (argument.Value (beside w b) ∷ []) place))
          else method_meaning w expression_type (beside w a) m (argument.Value (beside w b) ∷ []) place) outs-Bool
          ∙ ap (λ (c : Bool). if c then search_meaning w expression_type (expression_meaning w a place) m (expression_meaning w b place)
          else called_meaning w expression_type (enumerable_call m (argument.Value (beside w b) ∷ [])) (or_null (source_type expression_type a (names_at w place))) (expression_meaning w a place) place)
          (ap (λ (ns : Names). is_text_type (expression_type a ns)) here ∙ text_there a (found a_typed))
  means (rule.of_simple names e a m arguments method t r is called source gives within) = λ scope at.
      let items = means source scope at in
      method_means names e a m arguments (Plain method) t r scope at is called (found source) gives gives within
      (ap (simple_meaning method t) items.0, simple_typed world method t r _ gives items.1)
  means (rule.of_given names e a b m arguments method t u r is called source typed gives within) = λ scope at.
      let items = means source scope at in
      let typed_gives = ap (given_type method t) (found typed) ∙ gives in
      method_means names e a m arguments (With method b) t r scope at is called (found source) typed_gives typed_gives within
      (subst (λ (s : Stream (Value R)). Agree (Val r) (given_meaning L method (in_left b scope) (stream_of L (in_left a scope))) (given_meaning M method (in_right b scope) s)) items.0
      (given_typed world f g method t u r (stream_of L (in_left a scope)) gives items.1 (in_left b scope) (in_right b scope) (means typed scope at)))
  means (rule.of_lambda names e a b m n arguments method t u r is called source fresh typed gives within) = λ scope at.
      let typed_gives = ap (through_type method t) (lambda_found names n t u b fresh (found typed)) ∙ gives in
      method_means names e a m arguments (By method n b) t r scope at is called (found source) typed_gives typed_gives within
      (subst (λ (x : Ty). Agree (Val r) (through_meaning L method t x
      (λ v. condition_at L (type_beside L) (λ (y : Meant R). y.1) (beside L b) (bound n t scope v)) (λ v. in_left b (bound n t scope v)) (stream_of L (in_left a scope)))
      (through_meaning M method t x
      (λ v. condition_at M (type_beside M) (λ (y : Meant R). y.1) (beside M b) (bound n t scope v)) (λ v. in_right b (bound n t scope v)) (stream_of M (in_right a scope))))
      (sym (ap (λ (ns : Names). or_null (expression_type b (with_local ns n t))) at.1 ∙ ap or_null (found typed)))
      (through_typed world f g method t u r _ _ _ _ gives
      (λ truth v fits. truth_same world f g (in_left b (bound n t scope v)) (in_right b (bound n t scope v))
      (subst (λ (y : Ty). Agree (Val y) (in_left b (bound n t scope v)) (in_right b (bound n t scope v))) (is_truth u truth) (means typed (bound n t scope v) (bound_at names n t scope v at fits))))
      (λ v fits. means typed (bound n t scope v) (bound_at names n t scope v at fits)) _ _ (means source scope at)))
  means (rule.of_query names e q t is gives) = λ scope at.
      subst (λ (x : Expr). Agree (Val (ty.Seq t)) (in_left x scope) (in_right x scope)) (sym is)
      (by_equals (ty.Seq t) _ _ _ _ (meaning_of_query L q scope) (meaning_of_query M q scope) (sequence_agrees t _ _ (means gives scope at)))
  means (rule.enumerated names e s t typed element) = λ scope at. stream_alike world f g s t element (in_left e scope) (in_right e scope) (means typed scope at)
  means (rule.by_from outer names c n x t is fresh source) = λ place at s z all.
      subst (λ (d : Clause Expr). Alike (At (with_local names n t)) (clause_meaning L expression_type in_left place d s) (clause_meaning M expression_type in_right place d z)) (sym is)
      (expand_alike (At names) (Val t) (At (with_local names n t)) (λ scope. stream_of L (in_left x scope)) (λ scope. stream_of M (in_right x scope)) _ _ (means source)
      (λ scope here v fits. extended_agrees names n t _ scope v here fits (item_at names x t scope here (found source))) s z all)
  means (rule.by_let outer names c n x t is fresh typed placed) = λ place at s z all.
      subst (λ (d : Clause Expr). Alike (At (with_local names n t)) (clause_meaning L expression_type in_left place d s) (clause_meaning M expression_type in_right place d z)) (sym is)
      (select_alike (At names) (At (with_local names n t)) _ _
      (λ scope here. on_ok_agree (Val t) (At (with_local names n t)) _ _
      (λ v fits. extended_agrees names n t _ scope v here fits (ap or_null (typed_at names x t scope here (found typed)))) (in_left x scope) (in_right x scope) (means typed scope here)) s z all)
  means (rule.by_where outer names c x is typed) = λ place at s z all.
      subst (λ (d : Clause Expr). Alike (At names) (clause_meaning L expression_type in_left place d s) (clause_meaning M expression_type in_right place d z)) (sym is)
      (where_alike (At names) _ _ (λ scope here. truth_same world f g (in_left x scope) (in_right x scope) (means typed scope here)) s z all)
  means (rule.by_join outer names c j t k l is fresh source outer_key inner_key are into) = λ place at s z all.
      subst (λ (d : Clause Expr). Alike (At (with_local names j.name t)) (clause_meaning L expression_type in_left place d s) (clause_meaning M expression_type in_right place d z)) (sym is)
      (subst (λ (ns : Names). Alike (At ns) (clause_meaning L expression_type in_left place (clause.Join j) s) (clause_meaning M expression_type in_right place (clause.Join j) z))
      (ap (λ (o : Option (List ℕ)). with_local names (matched_name o j.name) (joined_type L expression_type in_left o t)) into)
      (join_means outer names j t k l (found source) (means source) (means outer_key) (means inner_key) place at s z all))
  means (rule.by_join_into outer names c j n t k l is fresh source outer_key inner_key are into new) = λ place at s z all.
      subst (λ (d : Clause Expr). Alike (At (with_local names n (ty.Seq t))) (clause_meaning L expression_type in_left place d s) (clause_meaning M expression_type in_right place d z)) (sym is)
      (subst (λ (ns : Names). Alike (At ns) (clause_meaning L expression_type in_left place (clause.Join j) s) (clause_meaning M expression_type in_right place (clause.Join j) z))
      (ap (λ (o : Option (List ℕ)). with_local names (matched_name o j.name) (joined_type L expression_type in_left o t)) into)
      (join_means outer names j t k l (found source) (means source) (means outer_key) (means inner_key) place at s z all))
  means (rule.by_orderby outer names c ks is sorts) = λ place at s z all.
      subst (λ (d : Clause Expr). Alike (At names) (clause_meaning L expression_type in_left place d s) (clause_meaning M expression_type in_right place d z)) (sym is)
      (order_alike (At names) (λ (k : SortKey Expr). k.descending) (sort_key_at L expression_type in_left) (sort_key_at M expression_type in_right) ks (means sorts) s z all)
  means (rule.no_key names) = tt
  means (rule.one_key names k ks t typed scalar others) = (
    (λ scope here. scalar_after world f g (λ o p. o ≡ p) (λ x. refl) t (scalar_plain (out-Ty t) scalar) (λ s. Ok s) (λ s. Ok s) (λ s fits. refl) (in_left k.value scope) (in_right k.value scope) (means typed scope here)),
    means others,
  )
  means (rule.by_none outer names) = λ place at s z all. all
  means (rule.by_first outer before between behind c cs first others) = λ place at s z all. means others place at _ _ (means first place at s z all)
  means (rule.by_select names l v t is typed placed) = λ s z all.
      subst (λ (k : Last Expr). Alike (Val t) (last_meaning L expression_type in_left k s) (last_meaning M expression_type in_right k z)) (sym is)
      (select_alike (At names) (Val t) (in_left v) (in_right v) (means typed) s z all)
  means (rule.by_group names l v key k t is key_typed is_one typed placed) = λ s z all.
      subst (λ (x : Last Expr). Alike (Val (ty.Group k t)) (last_meaning L expression_type in_left x s) (last_meaning M expression_type in_right x z)) (sym is)
      (group_alike (At names) (Val k) (Val t) (Val (ty.Group k t)) same_keys (in_left key) (in_right key) (in_left v) (in_right v) as_group (means key_typed) (means typed)
      (λ x vs x_fits vs_fit. by_group (ty.Group k t) k t x vs (outs-Group k t) x_fits vs_fit) s z all)
  means (rule.by_body outer names behind body t clauses ends within) = λ place at s z all. means ends _ _ (means clauses place at s z all)
  means (rule.at_end outer t) = λ place at s z all. all
  means (rule.by_into outer next rest t u r fresh body others) = λ place at s z all.
      continued_at outer rest u _ r place at (body_at outer next.body next.name t u place at (found body)) (means others) _ _
      (means body place at _ _ (map_alike outer next.name t t place at refl s z all))
  means (rule.by_query outer q t u r source fresh body rest) = query_means outer q t u r (found source) (found body) (means source) (means body) (means rest)

  pub expression_means : (e : Expr) (t : Ty) (scope : Scope R) → IsScopeOfValues world scope → IsRight (Has (names_at world scope) e t) → Agree (Val t) (in_left e scope) (in_right e scope)
  expression_means e t scope fits right = means right scope (fits, refl)

  pub query_agrees : (q : Query Expr) (t : Ty) (scope : Scope R) → IsScopeOfValues world scope → IsRight (QueryGives (names_at world scope) q t)
      → Alike (Val t) (query_meaning L expression_type in_left q scope) (query_meaning M expression_type in_right q scope)
  query_agrees q t scope fits right = means right scope (fits, refl)
