-- What a node, a query and calls use is a matter of what the expressions in them use: these may be replaced before or after.
use Rattle.std.proofs.Common.{◌≡◌, ◌∷◌, ◌++◌, List, [], map, flat_map, Option, Some, None, ap, refl}
use Rattle.lq_value.specs.declared.ty.Ty.{Ty}
use Rattle.lq_language.specs.ClauseTyping.{sole_name, source_type}
use Rattle.lq_language.specs.Operators.{Pattern, sole_pattern}
use Rattle.lq_language.specs.Mentions.{Mention}
use Rattle.lq_language.specs.Names.{Names}
use Rattle.lq_language.specs.Uses.{argument_uses, body_uses, clause_uses, clauses_uses, continued_uses, last_uses, node_uses, query_uses, under}
use Rattle.lq_language.specs.UsesOfCalls.{call_uses, operator_uses, operators_uses, parts_uses}
use Rattle.lq_language.specs.declared.calls.Call.{Call}
use Rattle.lq_language.specs.declared.calls.Operator.{Operator}
use Rattle.lq_language.specs.declared.calls.Operator.TheVariants as operator
use Rattle.lq_language.specs.declared.calls.Paired.TheVariants as paired
use Rattle.lq_language.specs.declared.calls.Part.{Part}
use Rattle.lq_grammar.specs.declared.syntax.Argument.{Argument}
use Rattle.lq_grammar.specs.declared.syntax.Argument.TheVariants as argument
use Rattle.lq_grammar.specs.declared.syntax.Body.{Body}
use Rattle.lq_grammar.specs.declared.syntax.Clause.{Clause}
use Rattle.lq_grammar.specs.declared.syntax.Clause.TheVariants as clause
use Rattle.lq_grammar.specs.declared.syntax.Continuation.{Continuation}
use Rattle.lq_grammar.specs.declared.syntax.Field.{Field}
use Rattle.lq_grammar.specs.declared.syntax.Last.{Last}
use Rattle.lq_grammar.specs.declared.syntax.Last.TheVariants as last
use Rattle.lq_grammar.specs.declared.syntax.Node.{Node}
use Rattle.lq_grammar.specs.declared.syntax.Node.TheVariants as node
use Rattle.lq_grammar.specs.declared.syntax.Query.{Query}
use Rattle.lq_grammar.specs.declared.syntax.SortKey.{SortKey}
use Rattle.lq_translate.specs.Maps.{map_argument, map_body, map_call, map_clause, map_field, map_key, map_last, map_next, map_node, map_operator, map_part, map_query}
use Rattle.lq_language.proofs.QueryPullLaws.{body_typed, clause_typed}
use Rattle.lq_translate.proofs.CallPullLaws.{items_typed, operator_typed}

module _ {X Y : Type 0} (f : X → Y) (typed : Y → Names → Option Ty) (uses : Y → Names → List Mention) where
  -- the type of what an expression is replaced by, and what that uses
  abbrev typed_before : X → Names → Option Ty
  typed_before x = typed (f x)

  abbrev used_before : X → Names → List Mention
  used_before x = uses (f x)

  -- ---- nodes

  arguments_pull : (names : Names) (item : Option Ty) (xs : List (Argument X))
      → flat_map (argument_uses typed uses names item) (map (map_argument f) xs) ≡ flat_map (argument_uses typed_before used_before names item) xs
  arguments_pull names item [] = refl
  arguments_pull names item (argument.Value x ∷ xs) = ap (λ us. uses (f x) names ++ us) (arguments_pull names item xs)
  arguments_pull names item (argument.Lambda n x ∷ xs) =
      ap (λ us. argument_uses typed uses names item (argument.Lambda n (f x)) ++ us) (arguments_pull names item xs)

  fields_pull : (names : Names) (xs : List (Field X))
      → flat_map (λ (field : Field Y). uses field.value names) (map (map_field f) xs) ≡ flat_map (λ field. used_before field.value names) xs
  fields_pull names [] = refl
  fields_pull names (x ∷ xs) = ap (λ us. uses (f x.value) names ++ us) (fields_pull names xs)

  pub node_pull : (n : Node X) (names : Names) → node_uses typed uses (map_node f n) names ≡ node_uses typed_before used_before n names
  node_pull (node.Integer n) names = refl
  node_pull (node.Text t) names = refl
  node_pull (node.Bool b) names = refl
  node_pull node.Null names = refl
  node_pull (node.Name n) names = refl
  node_pull (node.Member x m) names = refl
  node_pull (node.Unary op x) names = refl
  node_pull (node.Binary op x y) names = refl
  node_pull (node.And x y) names = refl
  node_pull (node.Or x y) names = refl
  node_pull (node.Coalesce x y) names = refl
  node_pull (node.Conditional c x y) names = refl
  node_pull (node.Host p x columns) names = refl
  node_pull (node.HostOther p xs) names = refl
  node_pull (node.New fields) names = fields_pull names fields
  node_pull (node.Method x m xs) names = ap (λ us. uses (f x) names ++ us) (arguments_pull names (source_type typed (f x) names) xs)

  -- ---- queries

  keys_pull : (names : Names) (ks : List (SortKey X))
      → flat_map (λ (k : SortKey Y). uses k.value names) (map (map_key f) ks) ≡ flat_map (λ k. used_before k.value names) ks
  keys_pull names [] = refl
  keys_pull names (k ∷ ks) = ap (λ us. uses (f k.value) names ++ us) (keys_pull names ks)

  clause_pull : (outer : Names) (c : Clause X) (names : Names)
      → clause_uses typed uses outer (map_clause f c) names ≡ clause_uses typed_before used_before outer c names
  clause_pull outer (clause.From n x) names = refl
  clause_pull outer (clause.Let n x) names = refl
  clause_pull outer (clause.Where x) names = refl
  clause_pull outer (clause.Join j) names = refl
  clause_pull outer (clause.OrderBy ks) names = keys_pull names ks

  last_pull : (l : Last X) (names : Names) → last_uses typed uses (map_last f l) names ≡ last_uses typed_before used_before l names
  last_pull (last.Select x) names = refl
  last_pull (last.Group x key) names = refl

  clauses_pull : (outer : Names) (cs : List (Clause X)) (l : Last X) (names : Names)
      → clauses_uses typed uses outer (map (map_clause f) cs) (map_last f l) names ≡ clauses_uses typed_before used_before outer cs l names
  clauses_pull outer [] l names = last_pull l names
  clauses_pull outer (c ∷ cs) l names =
      λ i. clause_pull outer c names i ++ under (clause_typed f typed outer c names i) (λ behind. clauses_pull outer cs l behind i)

  body_pull : (outer : Names) (body : Body X) (names : Names)
      → body_uses typed uses outer (map_body f body) names ≡ body_uses typed_before used_before outer body names
  body_pull outer body names = clauses_pull outer body.clauses body.last names

  rest_pull : (outer : Names) (rest : List (Continuation X)) (t : Ty)
      → continued_uses typed uses outer (map (map_next f) rest) t ≡ continued_uses typed_before used_before outer rest t
  rest_pull outer [] t = refl
  rest_pull outer (next ∷ rest) t =
      λ i. under (sole_name typed outer next.name t)
      (λ names. body_pull outer next.body names i ++ under (body_typed f typed outer next.body names i) (λ u. rest_pull outer rest u i))

  pub query_pull : (q : Query X) (outer : Names) → query_uses typed uses (map_query f q) outer ≡ query_uses typed_before used_before q outer
  unfolding query_uses
  query_pull q outer =
      λ i. uses (f q.source) outer
      ++ under (source_type typed (f q.source) outer)
      (λ t. under (sole_name typed outer q.name t)
      (λ names. body_pull outer q.body names i ++ under (body_typed f typed outer q.body names i) (λ u. rest_pull outer q.rest u i)))

  -- ---- calls

  operator_pull : (outer : Names) (op : Operator X) (p : Pattern)
      → operator_uses typed uses outer (map_operator f op) p ≡ operator_uses typed_before used_before outer op p
  operator_pull outer (operator.Where x) p = refl
  operator_pull outer (operator.Select x) p = refl
  operator_pull outer (operator.Let n x) p = refl
  operator_pull outer (operator.SelectMany n x paired.Pair) p = refl
  operator_pull outer (operator.SelectMany n x (paired.Value y)) p = refl
  operator_pull outer (operator.Join j paired.Pair) p = refl
  operator_pull outer (operator.Join j (paired.Value y)) p = refl
  operator_pull outer (operator.OrderBy ks) p = keys_pull _ ks
  operator_pull outer (operator.GroupBy key None) p = refl
  operator_pull outer (operator.GroupBy key (Some x)) p = refl

  operators_pull : (outer : Names) (ops : List (Operator X)) (p : Pattern)
      → operators_uses typed uses outer (map (map_operator f) ops) p ≡ operators_uses typed_before used_before outer ops p
  operators_pull outer [] p = refl
  operators_pull outer (op ∷ ops) p =
      λ i. operator_pull outer op p i ++ under (operator_typed f typed outer op p i) (λ behind. operators_pull outer ops behind i)

  parts_pull : (outer : Names) (rest : List (Part X)) (t : Ty)
      → parts_uses typed uses outer (map (map_part f) rest) t ≡ parts_uses typed_before used_before outer rest t
  parts_pull outer [] t = refl
  parts_pull outer (part ∷ rest) t =
      λ i. under (sole_pattern typed outer part.name t)
      (λ p. operators_pull outer part.operators p i ++ under (items_typed f typed outer part.operators p i) (λ u. parts_pull outer rest u i))

  pub call_pull : (c : Call X) (outer : Names) → call_uses typed uses (map_call f c) outer ≡ call_uses typed_before used_before c outer
  unfolding call_uses
  call_pull c outer =
      λ i. uses (f c.source) outer
      ++ under (source_type typed (f c.source) outer)
      (λ t. under (sole_pattern typed outer c.name t)
      (λ p. operators_pull outer c.operators p i ++ under (items_typed f typed outer c.operators p i) (λ u. parts_pull outer c.rest u i)))
