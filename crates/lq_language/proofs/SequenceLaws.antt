-- An expression whose type is that of a sequence never faults.
use Rattle.std.proofs.Common.{◌≡◌, if◌then◌else◌, List, map, ℕ, Option, Some, None, Result, Ok, ap, ◌∙◌, sym, refl, option_and_then}
use Rattle.std.proofs.lemmas.Option.{none-some}
use Rattle.lq_value.specs.declared.ty.Ty.{Ty, out-Ty}
use Rattle.lq_value.specs.declared.ty.Ty.TheOpen.{Ty-F}
use Rattle.lq_value.specs.declared.ty.Ty.TheVariants as ty
use Rattle.lq_value.specs.declared.ty.Ty.TheVariants.{outs-Rec, outs-Seq}
use Rattle.lq_value.specs.declared.value.End.TheVariants as end
use Rattle.lq_value.specs.declared.value.Fault.{Fault}
use Rattle.lq_value.specs.declared.value.Value.{Value}
use Rattle.lq_value.specs.declared.value.Value.TheVariants as value
use Rattle.lq_language.specs.ClauseTyping.{expression_type}
use Rattle.lq_language.specs.EnumerableCalls.{By, Plain, With}
use Rattle.lq_language.specs.Maps.{map_node}
use Rattle.lq_language.specs.Worlds.{Scope, World, names_at}
use Rattle.lq_language.specs.OperandMeaning.{sequence, stream_of, table_value}
use Rattle.lq_language.specs.ValuesOfTypes.{HoldsRows, assuming}
use Rattle.lq_language.specs.Stream.{Stream}
use Rattle.lq_language.specs.Names.{Names, SessionName, local_type, session_name, table_number}
use Rattle.lq_language.specs.OperandTypes.{item_of}
use Rattle.lq_language.specs.TypingRules.{TypeClaim, Has, IsRight}
use Rattle.lq_language.specs.TypingRules as rule
use Rattle.lq_language.specs.Meaning.{as_sequence, expression_meaning, global_value, is_sequence_layer, settled, node_meaning, value_of_name}
use Rattle.lq_language.specs.MeaningLaws.{IsScopeOfValues, IsSessionOfValues, NeverFaults}
use Rattle.lq_language.specs.Typing.{given_type, through_type, type_of_choice, type_of_member}
use Rattle.lq_grammar.specs.declared.syntax.Expr.{Expr}
use Rattle.lq_grammar.specs.declared.syntax.Expr.TheVariants as expr
use Rattle.lq_grammar.specs.declared.syntax.Node.{Node}
use Rattle.lq_grammar.specs.declared.syntax.Node.TheVariants as node
use Rattle.lq_language.proofs.ItemLaws.{no_binding, table_there}
use Rattle.lq_language.proofs.FindingLaws.{when_by}
use Rattle.lq_language.proofs.ItemlessTypes.{HasNoItems, chosen_has_none, coalesced_has_none, columns_are_scalars, has_none, no_items_Bool, no_items_Int, no_items_Null, no_items_Str, number_has_none, numbers_have_none}
use Rattle.lq_language.proofs.ValueLaws.{sequence_value}
use Rattle.lq_language.proofs.TypingCompleteness.{found, lambda_found}
use Rattle.lq_language.proofs.KeptMeanings.{beside, has_session_value, has_value, meaning_of_node, meaning_of_query, method_typed}
use Rattle.lq_language.proofs.ExpressionTypeLaws.{type_of_node}
use Rattle.lq_language.proofs.TypingSoundness.{expression_sound}

no_items_Rec : (ms : List (List ℕ × Ty)) → HasNoItems (ty.Rec ms)
no_items_Rec ms = ap item_of (outs-Rec ms)

choice_has_none : (k l : Ty-F Ty) (r : Ty) → type_of_choice k l ≡ Some r → HasNoItems r
choice_has_none (Ty-F.Rec ms) (Ty-F.Rec ns) r h = when_by _ (Some (ty.Rec ms)) r h (λ same is. has_none (ty.Rec ms) r (no_items_Rec ms) is)
choice_has_none (Ty-F.Rec ms) Ty-F.Null r h = has_none (ty.Rec ms) r (no_items_Rec ms) h
choice_has_none Ty-F.Null (Ty-F.Rec ms) r h = has_none (ty.Rec ms) r (no_items_Rec ms) h
choice_has_none k l r h = chosen_has_none k l r h

module _ {R : Type 0} (world : World R) (holds : HoldsRows world) (kept : IsSessionOfValues world) (unknown : Fault) where
  abbrev W : World R
  W = assuming unknown world

  abbrev IsStream : Expr → Scope R → Type 0
  IsStream e scope = (s : Stream (Value R)) × (expression_meaning W e scope ≡ Ok (sequence s))

  abbrev At : Names → Scope R → Type 0
  At names scope = IsScopeOfValues world scope × (names_at world scope ≡ names)

  abbrev Streams : TypeClaim → Type 0
  Streams (Has names e t) = (u : Ty) → out-Ty t ≡ Ty-F.Seq u → (scope : Scope R) → At names scope → IsStream e scope
  Streams claim = Unit {0}

  -- what has no items isn't a sequence
  none : (names : Names) (e : Expr) (t : Ty) → HasNoItems t → Streams (Has names e t)
  none names e t empty u is = absurd (none-some u (sym empty ∙ ap item_of is))

  settles : (t u : Ty) (o : Option Ty) (m : Result (Value R) Fault) → o ≡ Some t → out-Ty t ≡ Ty-F.Seq u → settled W o m ≡ Ok (sequence (stream_of W m))
  settles t u o m o_is is = ap (λ (p : Option Ty). settled W p m) o_is ∙ ap (λ (layer : Ty-F Ty). if is_sequence_layer layer then as_sequence (stream_of W m) else m) is

  at_node : (e : Expr) (n : Node Expr) (scope : Scope R) (s : Stream (Value R)) → e ≡ expr.Node n → node_meaning W expression_type (map_node (beside W) n) scope ≡ Ok (sequence s) → IsStream e scope
  at_node e n scope s is h = (s, ap (λ (x : Expr). expression_meaning W x scope) is ∙ meaning_of_node W n scope ∙ h)

  member_streams : (names : Names) (e a : Expr) (m : List ℕ) (t : Ty) → e ≡ expr.Node (node.Member a m) → expression_type e names ≡ Some t → Streams (Has names e t)
  member_streams names e a m t is typed u t_is scope at =
      at_node e (node.Member a m) scope _ is
      (settles t u (option_and_then (λ s. type_of_member (names_at world scope) m (out-Ty s)) (expression_type a (names_at world scope))) _
      (sym (type_of_node (node.Member a m) (names_at world scope)) ∙ ap (λ (x : Expr). expression_type x (names_at world scope)) (sym is) ∙ ap (expression_type e) at.1 ∙ typed) t_is)

  local_streams : (names : Names) (e : Expr) (x : List ℕ) (t : Ty) → e ≡ expr.Node (node.Name x) → local_type x names.locals ≡ Some t → Streams (Has names e t)
  local_streams names e x t is local u t_is scope at =
      let there = has_value world holds kept unknown unknown x scope t at.0 (ap (λ (ns : Names). local_type x ns.locals) at.1 ∙ local) in
      let items = sequence_value world t u there.0.value t_is there.2 in
      at_node e (node.Name x) scope (items.0, items.1) is (ap (value_of_name W x) there.1 ∙ ap Ok items.2)

  table_streams : (names : Names) (e : Expr) (x : List ℕ) (n : ℕ) → e ≡ expr.Node (node.Name x) → local_type x names.locals ≡ None → table_number x names.tables ≡ Some n
      → Streams (Has names e (ty.Seq (ty.Row n)))
  table_streams names e x n is hidden table u t_is scope at =
      let number = ap (λ (ns : Names). table_number x ns.tables) at.1 ∙ table in
      let there = table_there x world.schemas n number in
      let rows = holds n there.0 there.1 in
      at_node e (node.Name x) scope (map value.Row rows.0, end.Done) is
      (ap (value_of_name W x) (no_binding x scope (ap (λ (ns : Names). local_type x ns.locals) at.1 ∙ hidden))
      ∙ ap (global_value W x) number
      ∙ ap (table_value W) rows.1)

  session_streams : (names : Names) (e : Expr) (x : List ℕ) (known : SessionName) → e ≡ expr.Node (node.Name x) → local_type x names.locals ≡ None
      → table_number x names.tables ≡ None → session_name x names.session ≡ Some known → Streams (Has names e known.ty)
  session_streams names e x known is hidden no_table there u t_is scope at =
      let found = has_session_value world holds kept unknown unknown x known (ap (λ (ns : Names). session_name x ns.session) at.1 ∙ there) in
      let items = sequence_value world known.ty u found.0 t_is found.2 in
      at_node e (node.Name x) scope (items.0, items.1) is
      (ap (value_of_name W x) (no_binding x scope (ap (λ (ns : Names). local_type x ns.locals) at.1 ∙ hidden))
      ∙ ap (global_value W x) (ap (λ (ns : Names). table_number x ns.tables) at.1 ∙ no_table)
      ∙ found.1 W refl ∙ ap Ok items.2)

  streams : {claim : TypeClaim} → IsRight claim → Streams claim
  streams (rule.of_integer names e n is) = none names e ty.Int no_items_Int
  streams (rule.of_text names e x is) = none names e ty.Str no_items_Str
  streams (rule.of_truth names e b is) = none names e ty.Bool no_items_Bool
  streams (rule.of_null names e is) = none names e ty.Null no_items_Null
  streams (rule.of_local names e x t is local) = local_streams names e x t is local
  streams (rule.of_table names e x n is hidden table) = table_streams names e x n is hidden table
  streams (rule.of_session names e x known is hidden no_table there) = session_streams names e x known is hidden no_table there
  streams (rule.of_column names e row c n t is typed column) = none names e t (columns_are_scalars names.tables n c t column)
  streams (rule.of_member names e a m members t is typed member) = member_streams names e a m t is (found (rule.of_member names e a m members t is typed member))
  streams (rule.of_key names e a k t is typed) = member_streams names e a _ k is (found (rule.of_key names e a k t is typed))
  streams (rule.of_has_value names e a is typed) = none names e ty.Bool no_items_Bool
  streams (rule.of_value names e a is typed) = none names e ty.Int no_items_Int
  streams (rule.of_length names e a is typed) = none names e ty.Int no_items_Int
  streams (rule.of_ordering names e a b op s t is orders a_typed s_number b_typed t_number) = none names e ty.Bool no_items_Bool
  streams (rule.of_equality names e a b op s t is same a_typed b_typed compares) = none names e ty.Bool no_items_Bool
  streams (rule.of_arithmetic names e a b op s t is computes a_typed s_number b_typed t_number) = none names e _ (number_has_none (out-Ty s) (out-Ty t))
  streams (rule.of_joined names e a b s t is a_typed b_typed joins) = none names e ty.Str no_items_Str
  streams (rule.of_minus names e a t is typed number) = none names e t (numbers_have_none (out-Ty t) number)
  streams (rule.of_not names e a is typed) = none names e ty.Bool no_items_Bool
  streams (rule.of_both names e a b is left right) = none names e ty.Bool no_items_Bool
  streams (rule.of_either names e a b is left right) = none names e ty.Bool no_items_Bool
  streams (rule.of_coalesced names e a b s t r is a_typed b_typed gives) = none names e r (coalesced_has_none (out-Ty s) (out-Ty t) r gives)
  streams (rule.of_choice names e c a b s t r is c_typed a_typed b_typed chooses) = none names e r (choice_has_none (out-Ty s) (out-Ty t) r chooses)
  streams (rule.of_host names e row p columns k n is known typed ints) = none names e ty.Bool no_items_Bool
  streams (rule.of_record names e fields members is distinct typed within) = none names e (ty.Rec members) (no_items_Rec members)
  streams (rule.of_search names e a b m is looks a_typed b_typed) = none names e ty.Bool no_items_Bool
  streams (rule.of_simple names e a m arguments method t r is called source gives within) = λ u r_is scope at.
      at_node e (node.Method a m arguments) scope _ is
      (settles r u _ _ (method_typed world holds kept unknown unknown W names a m arguments (Plain method) t r scope at.1 called (found source) gives within) r_is)
  streams (rule.of_given names e a b m arguments method t u r is called source typed gives within) = λ v r_is scope at.
      at_node e (node.Method a m arguments) scope _ is
      (settles r v _ _ (method_typed world holds kept unknown unknown W names a m arguments (With method b) t r scope at.1 called (found source) (ap (given_type method t) (found typed) ∙ gives) within) r_is)
  streams (rule.of_lambda names e a b m n arguments method t u r is called source fresh typed gives within) = λ v r_is scope at.
      at_node e (node.Method a m arguments) scope _ is
      (settles r v _ _ (method_typed world holds kept unknown unknown W names a m arguments (By method n b) t r scope at.1 called (found source)
      (ap (through_type method t) (lambda_found names n t u b fresh (found typed)) ∙ gives) within) r_is)
  streams (rule.of_query names e q t is gives) = λ u t_is scope at. (_, ap (λ (x : Expr). expression_meaning W x scope) is ∙ meaning_of_query W q scope)
  streams (rule.no_member names) = tt
  streams (rule.one_member names field fields t members typed placed others) = tt
  streams (rule.enumerated names e s t typed element) = tt
  streams (rule.by_from outer names c n f t is fresh source) = tt
  streams (rule.by_let outer names c n f t is fresh typed placed) = tt
  streams (rule.by_where outer names c f is typed) = tt
  streams (rule.by_join outer names c j t k l is fresh source outer_key inner_key are into) = tt
  streams (rule.by_join_into outer names c j g t k l is fresh source outer_key inner_key are into new) = tt
  streams (rule.by_orderby outer names c ks is sorts) = tt
  streams (rule.no_key names) = tt
  streams (rule.one_key names k ks t typed scalar others) = tt
  streams (rule.by_none outer names) = tt
  streams (rule.by_first outer before between behind c cs first others) = tt
  streams (rule.by_select names l v t is typed placed) = tt
  streams (rule.by_group names l v key k t is key_typed is_one typed placed) = tt
  streams (rule.by_body outer names behind body t clauses ends within) = tt
  streams (rule.at_end outer t) = tt
  streams (rule.by_into outer next rest t u r fresh body others) = tt
  streams (rule.by_query outer q t u r source fresh body rest) = tt

pub never_faults : {R : Type 0} → NeverFaults R
never_faults world holds kept scope fits e t typed unknown = streams world holds kept unknown (expression_sound e (names_at world scope) (ty.Seq t) typed) t (outs-Seq t) scope (fits, refl)
