-- «Typing», rule by rule: one rule for each form, clause and kind of method (ECMA-334, expressions and query
-- expressions; .NET, Enumerable). `expression_type` finds exactly the types that these rules give.
use Rattle.std.specs.Prelude.{◌≡◌, ◌∷◌, ◌||◌, List, [], map, ℕ, ℤ, Bool, true, false, Some, None, codes}
use Rattle.lq_value.specs.declared.ty.Ty.{Ty, out-Ty}
use Rattle.lq_value.specs.declared.ty.Ty.TheVariants as ty
use Rattle.lq_language.specs.EnumerableCalls.{Given, Simple, Through, By, Plain, With, enumerable_call}
use Rattle.lq_language.specs.HostNames.{are_int_columns, predicate_number}
use Rattle.lq_language.specs.Members.{IsSearch}
use Rattle.lq_language.specs.Types.{are_join_keys, element_type, has_place, is_key, is_within}
use Rattle.lq_language.specs.Names.{Names, SessionName, column_type, local_type, session_name, table_number, with_local}
use Rattle.lq_language.specs.OperandTypes.{are_comparable, are_joined, coalesced, is_comparison, is_equality, is_number, is_ordering, is_scalar, number_type}
use Rattle.lq_language.specs.Typing.{are_distinct, are_null_tests, given_type, member_of, simple_type, through_type, type_of_choice}
use Rattle.lq_grammar.specs.declared.syntax.Argument.{Argument}
use Rattle.lq_grammar.specs.declared.syntax.Argument.TheVariants as argument
use Rattle.lq_grammar.specs.declared.syntax.Binary.{Binary}
use Rattle.lq_grammar.specs.declared.syntax.Binary.TheVariants as binary
use Rattle.lq_grammar.specs.declared.syntax.Body.{Body}
use Rattle.lq_grammar.specs.declared.syntax.Clause.{Clause}
use Rattle.lq_grammar.specs.declared.syntax.Clause.TheVariants as clause
use Rattle.lq_grammar.specs.declared.syntax.Continuation.{Continuation}
use Rattle.lq_grammar.specs.declared.syntax.Expr.{Expr}
use Rattle.lq_grammar.specs.declared.syntax.Expr.TheVariants as expr
use Rattle.lq_grammar.specs.declared.syntax.Field.{Field}
use Rattle.lq_grammar.specs.declared.syntax.Join.{Join}
use Rattle.lq_grammar.specs.declared.syntax.Last.{Last}
use Rattle.lq_grammar.specs.declared.syntax.Last.TheVariants as last
use Rattle.lq_grammar.specs.declared.syntax.Node.TheVariants as node
use Rattle.lq_grammar.specs.declared.syntax.Picked.{Picked}
use Rattle.lq_grammar.specs.declared.syntax.Query.{Query}
use Rattle.lq_grammar.specs.declared.syntax.SortKey.{SortKey}
use Rattle.lq_grammar.specs.declared.syntax.Unary.TheVariants as unary

-- What is said of the types of an expression and of the parts of a query. Where there are two lists of names, the first are those
-- of the query's place.
pub data TypeClaim : Type 0 where
  -- under these names the expression has this type
  Has : Names → Expr → Ty → TypeClaim
  -- what the expression gives, as a sequence or a group, are items of this type
  Gives : Names → Expr → Ty → TypeClaim
  -- the members of a record have these names and types
  Members : Names → List (Field Expr) → List (List ℕ × Ty) → TypeClaim
  -- each of these keys is one to sort by
  Sorts : Names → List (SortKey Expr) → TypeClaim
  -- the clause has the second names before it and the third after it
  Leads : Names → Clause Expr → Names → Names → TypeClaim
  LeadAll : Names → List (Clause Expr) → Names → Names → TypeClaim
  -- a body ends with values of this type
  Ends : Names → Last Expr → Ty → TypeClaim
  -- a body under the second names gives items of this type
  BodyGives : Names → Body Expr → Names → Ty → TypeClaim
  -- what follows by `into` goes on from items of the first type to items of the second
  Continues : Names → List (Continuation Expr) → Ty → Ty → TypeClaim
  -- the query's items are of this type
  QueryGives : Names → Query Expr → Ty → TypeClaim

-- Rule by rule, which of it is so.
pub data IsRight : TypeClaim → Type 0 where
  -- literals and names; a local name hides a table of its name, and a variable or named query
  of_integer : (names : Names) (e : Expr) (n : ℤ) → e ≡ expr.Node (node.Integer n) → IsRight (Has names e ty.Int)
  of_text : (names : Names) (e : Expr) (x : List ℕ) → e ≡ expr.Node (node.Text x) → IsRight (Has names e ty.Str)
  of_truth : (names : Names) (e : Expr) (b : Bool) → e ≡ expr.Node (node.Bool b) → IsRight (Has names e ty.Bool)
  of_null : (names : Names) (e : Expr) → e ≡ expr.Node node.Null → IsRight (Has names e ty.Null)
  of_local : (names : Names) (e : Expr) (x : List ℕ) (t : Ty) → e ≡ expr.Node (node.Name x) → local_type x names.locals ≡ Some t → IsRight (Has names e t)
  of_table : (names : Names) (e : Expr) (x : List ℕ) (n : ℕ) → e ≡ expr.Node (node.Name x) → local_type x names.locals ≡ None
      → table_number x names.tables ≡ Some n → IsRight (Has names e (ty.Seq (ty.Row n)))
  of_session : (names : Names) (e : Expr) (x : List ℕ) (known : SessionName) → e ≡ expr.Node (node.Name x) → local_type x names.locals ≡ None
      → table_number x names.tables ≡ None → session_name x names.session ≡ Some known → IsRight (Has names e known.ty)
  -- members
  of_column : (names : Names) (e row : Expr) (c : List ℕ) (n : ℕ) (t : Ty) → e ≡ expr.Node (node.Member row c) → IsRight (Has names row (ty.Row n))
      → column_type names.tables n c ≡ Some t → IsRight (Has names e t)
  of_member : (names : Names) (e a : Expr) (m : List ℕ) (members : List (List ℕ × Ty)) (t : Ty) → e ≡ expr.Node (node.Member a m)
      → IsRight (Has names a (ty.Rec members)) → member_of m members ≡ Some t → IsRight (Has names e t)
  of_key : (names : Names) (e a : Expr) (k t : Ty) → e ≡ expr.Node (node.Member a (codes "Key")) → IsRight (Has names a (ty.Group k t)) → IsRight (Has names e k)
  of_has_value : (names : Names) (e a : Expr) → e ≡ expr.Node (node.Member a (codes "HasValue")) → IsRight (Has names a ty.IntN) → IsRight (Has names e ty.Bool)
  of_value : (names : Names) (e a : Expr) → e ≡ expr.Node (node.Member a (codes "Value")) → IsRight (Has names a ty.IntN) → IsRight (Has names e ty.Int)
  of_length : (names : Names) (e a : Expr) → e ≡ expr.Node (node.Member a (codes "Length")) → IsRight (Has names a ty.Str) → IsRight (Has names e ty.Int)
  -- operators
  of_ordering : (names : Names) (e a b : Expr) (op : Binary) (s t : Ty) → e ≡ expr.Node (node.Binary op a b) → is_ordering op ≡ true
      → IsRight (Has names a s) → is_number (out-Ty s) ≡ true → IsRight (Has names b t) → is_number (out-Ty t) ≡ true → IsRight (Has names e ty.Bool)
  of_equality : (names : Names) (e a b : Expr) (op : Binary) (s t : Ty) → e ≡ expr.Node (node.Binary op a b) → is_equality op ≡ true
      → IsRight (Has names a s) → IsRight (Has names b t) → (are_null_tests (out-Ty s) (out-Ty t) || are_comparable (out-Ty s) (out-Ty t)) ≡ true
      → IsRight (Has names e ty.Bool)
  of_arithmetic : (names : Names) (e a b : Expr) (op : Binary) (s t : Ty) → e ≡ expr.Node (node.Binary op a b) → is_comparison op ≡ false
      → IsRight (Has names a s) → is_number (out-Ty s) ≡ true → IsRight (Has names b t) → is_number (out-Ty t) ≡ true
      → IsRight (Has names e (number_type (out-Ty s) (out-Ty t)))
  of_joined : (names : Names) (e a b : Expr) (s t : Ty) → e ≡ expr.Node (node.Binary binary.Add a b) → IsRight (Has names a s) → IsRight (Has names b t)
      → are_joined (out-Ty s) (out-Ty t) ≡ true → IsRight (Has names e ty.Str)
  of_minus : (names : Names) (e a : Expr) (t : Ty) → e ≡ expr.Node (node.Unary unary.Minus a) → IsRight (Has names a t) → is_number (out-Ty t) ≡ true
      → IsRight (Has names e t)
  of_not : (names : Names) (e a : Expr) → e ≡ expr.Node (node.Unary unary.Not a) → IsRight (Has names a ty.Bool) → IsRight (Has names e ty.Bool)
  of_both : (names : Names) (e a b : Expr) → e ≡ expr.Node (node.And a b) → IsRight (Has names a ty.Bool) → IsRight (Has names b ty.Bool)
      → IsRight (Has names e ty.Bool)
  of_either : (names : Names) (e a b : Expr) → e ≡ expr.Node (node.Or a b) → IsRight (Has names a ty.Bool) → IsRight (Has names b ty.Bool)
      → IsRight (Has names e ty.Bool)
  of_coalesced : (names : Names) (e a b : Expr) (s t r : Ty) → e ≡ expr.Node (node.Coalesce a b) → IsRight (Has names a s) → IsRight (Has names b t)
      → coalesced (out-Ty s) (out-Ty t) ≡ Some r → IsRight (Has names e r)
  of_choice : (names : Names) (e c a b : Expr) (s t r : Ty) → e ≡ expr.Node (node.Conditional c a b) → IsRight (Has names c ty.Bool)
      → IsRight (Has names a s) → IsRight (Has names b t) → type_of_choice (out-Ty s) (out-Ty t) ≡ Some r → IsRight (Has names e r)
  -- a host predicate that is there takes one int of a row, or two
  of_host : (names : Names) (e row : Expr) (p : List ℕ) (columns : Picked) (k n : ℕ) → e ≡ expr.Node (node.Host p row columns)
      → predicate_number names.predicates p columns ≡ Some k → IsRight (Has names row (ty.Row n)) → are_int_columns names.tables n columns ≡ true
      → IsRight (Has names e ty.Bool)
  -- records, whose members have different names and are of any type but null
  of_record : (names : Names) (e : Expr) (fields : List (Field Expr)) (members : List (List ℕ × Ty)) → e ≡ expr.Node (node.New fields)
      → are_distinct (map (λ field. field.name) fields) ≡ true → IsRight (Members names fields members) → is_within (ty.Rec members) ≡ true
      → IsRight (Has names e (ty.Rec members))
  no_member : (names : Names) → IsRight (Members names [] [])
  one_member : (names : Names) (field : Field Expr) (fields : List (Field Expr)) (t : Ty) (members : List (List ℕ × Ty)) → IsRight (Has names field.value t)
      → has_place (out-Ty t) ≡ true → IsRight (Members names fields members) → IsRight (Members names (field ∷ fields) ((field.name, t) ∷ members))
  -- methods of a text
  of_search : (names : Names) (e a b : Expr) (m : List ℕ) → e ≡ expr.Node (node.Method a m (argument.Value b ∷ [])) → IsSearch m
      → IsRight (Has names a ty.Str) → IsRight (Has names b ty.Str) → IsRight (Has names e ty.Bool)
  -- methods of a sequence or group, by their argument: none, a value, or a lambda, whose parameter repeats no local name in scope
  of_simple : (names : Names) (e a : Expr) (m : List ℕ) (arguments : List (Argument Expr)) (method : Simple) (t r : Ty)
      → e ≡ expr.Node (node.Method a m arguments) → enumerable_call m arguments ≡ Some (Plain method)
      → IsRight (Gives names a t) → simple_type method t ≡ Some r → is_within r ≡ true → IsRight (Has names e r)
  of_given : (names : Names) (e a b : Expr) (m : List ℕ) (arguments : List (Argument Expr)) (method : Given) (t u r : Ty)
      → e ≡ expr.Node (node.Method a m arguments) → enumerable_call m arguments ≡ Some (With method b)
      → IsRight (Gives names a t) → IsRight (Has names b u) → given_type method t (Some u) ≡ Some r → is_within r ≡ true → IsRight (Has names e r)
  of_lambda : (names : Names) (e a b : Expr) (m n : List ℕ) (arguments : List (Argument Expr)) (method : Through) (t u r : Ty)
      → e ≡ expr.Node (node.Method a m arguments) → enumerable_call m arguments ≡ Some (By method n b)
      → IsRight (Gives names a t) → local_type n names.locals ≡ None → IsRight (Has (with_local names n t) b u)
      → through_type method t (Some u) ≡ Some r → is_within r ≡ true → IsRight (Has names e r)
  -- a query is a sequence of its items; and what is enumerated is a sequence or a group
  of_query : (names : Names) (e : Expr) (q : Query Expr) (t : Ty) → e ≡ expr.Query q → IsRight (QueryGives names q t) → IsRight (Has names e (ty.Seq t))
  enumerated : (names : Names) (e : Expr) (s t : Ty) → IsRight (Has names e s) → element_type (out-Ty s) ≡ Some t → IsRight (Gives names e t)
  -- clauses; a name that is brought in repeats no local name in scope
  by_from : (outer names : Names) (c : Clause Expr) (n : List ℕ) (f : Expr) (t : Ty) → c ≡ clause.From n f → local_type n names.locals ≡ None
      → IsRight (Gives names f t) → IsRight (Leads outer c names (with_local names n t))
  by_let : (outer names : Names) (c : Clause Expr) (n : List ℕ) (f : Expr) (t : Ty) → c ≡ clause.Let n f → local_type n names.locals ≡ None
      → IsRight (Has names f t) → has_place (out-Ty t) ≡ true → IsRight (Leads outer c names (with_local names n t))
  by_where : (outer names : Names) (c : Clause Expr) (f : Expr) → c ≡ clause.Where f → IsRight (Has names f ty.Bool) → IsRight (Leads outer c names names)
  -- The inner sequence and the second key of a `join` are at the place of the query.
  by_join : (outer names : Names) (c : Clause Expr) (j : Join Expr) (t k l : Ty) → c ≡ clause.Join j → local_type j.name names.locals ≡ None
      → IsRight (Gives outer j.source t) → IsRight (Has names j.outer_key k) → IsRight (Has (with_local outer j.name t) j.inner_key l)
      → are_join_keys (Some k) (Some l) ≡ true → j.into ≡ None → IsRight (Leads outer c names (with_local names j.name t))
  by_join_into : (outer names : Names) (c : Clause Expr) (j : Join Expr) (g : List ℕ) (t k l : Ty) → c ≡ clause.Join j → local_type j.name names.locals ≡ None
      → IsRight (Gives outer j.source t) → IsRight (Has names j.outer_key k) → IsRight (Has (with_local outer j.name t) j.inner_key l)
      → are_join_keys (Some k) (Some l) ≡ true → j.into ≡ Some g → local_type g names.locals ≡ None → IsRight (Leads outer c names (with_local names g (ty.Seq t)))
  by_orderby : (outer names : Names) (c : Clause Expr) (ks : List (SortKey Expr)) → c ≡ clause.OrderBy ks → IsRight (Sorts names ks) → IsRight (Leads outer c names names)
  no_key : (names : Names) → IsRight (Sorts names [])
  one_key : (names : Names) (k : SortKey Expr) (ks : List (SortKey Expr)) (t : Ty) → IsRight (Has names k.value t) → is_scalar (out-Ty t) ≡ true
      → IsRight (Sorts names ks) → IsRight (Sorts names (k ∷ ks))
  by_none : (outer names : Names) → IsRight (LeadAll outer [] names names)
  by_first : (outer before between behind : Names) (c : Clause Expr) (cs : List (Clause Expr)) → IsRight (Leads outer c before between)
      → IsRight (LeadAll outer cs between behind) → IsRight (LeadAll outer (c ∷ cs) before behind)
  -- bodies and queries
  by_select : (names : Names) (l : Last Expr) (v : Expr) (t : Ty) → l ≡ last.Select v → IsRight (Has names v t) → has_place (out-Ty t) ≡ true → IsRight (Ends names l t)
  by_group : (names : Names) (l : Last Expr) (v key : Expr) (k t : Ty) → l ≡ last.Group v key → IsRight (Has names key k) → is_key k ≡ true
      → IsRight (Has names v t) → has_place (out-Ty t) ≡ true → IsRight (Ends names l (ty.Group k t))
  by_body : (outer names behind : Names) (body : Body Expr) (t : Ty) → IsRight (LeadAll outer body.clauses names behind) → IsRight (Ends behind body.last t)
      → is_within (ty.Seq t) ≡ true → IsRight (BodyGives outer body names t)
  at_end : (outer : Names) (t : Ty) → IsRight (Continues outer [] t t)
  by_into : (outer : Names) (next : Continuation Expr) (rest : List (Continuation Expr)) (t u r : Ty) → local_type next.name outer.locals ≡ None
      → IsRight (BodyGives outer next.body (with_local outer next.name t) u) → IsRight (Continues outer rest u r) → IsRight (Continues outer (next ∷ rest) t r)
  by_query : (outer : Names) (q : Query Expr) (t u r : Ty) → IsRight (Gives outer q.source t) → local_type q.name outer.locals ≡ None
      → IsRight (BodyGives outer q.body (with_local outer q.name t) u) → IsRight (Continues outer q.rest u r) → IsRight (QueryGives outer q r)

abbrev pub HasType : Names → Expr → Ty → Type 0
HasType names e t = IsRight (Has names e t)

abbrev pub HasQueryItems : Names → Query Expr → Ty → Type 0
HasQueryItems names q t = IsRight (QueryGives names q t)
