-- What a query means, and its type, is a matter of what the expressions in it have and mean: they may be replaced before or after.
use Rattle.std.proofs.Common.{◌≡◌, ◌∷◌, ◌&&◌, List, [], map, ℕ, Option, Some, ap, refl, option_and_then}
use Rattle.lq_value.specs.declared.ty.Ty.{Ty}
use Rattle.lq_value.specs.declared.value.Value.{Value}
use Rattle.lq_language.specs.ClauseTyping.{are_sort_keys, body_items, continued_items, if_within, is_sort_key, last_type, names_after, names_after_all, query_items, sole_name, source_type, when}
use Rattle.lq_language.specs.Worlds.{Meaning, Scope, World, bound_stream, names_at, or_null}
use Rattle.lq_language.specs.OperandMeaning.{stream_of}
use Rattle.lq_language.specs.ClauseMeaning.{body_meaning, body_type_at, clause_meaning, clauses_meaning, continued, item_type_at, last_meaning, query_meaning, sort_key_at}
use Rattle.lq_language.specs.Stream.{Stream}
use Rattle.lq_language.specs.Names.{Names}
use Rattle.lq_grammar.specs.declared.syntax.Body.{Body}
use Rattle.lq_grammar.specs.declared.syntax.Clause.{Clause}
use Rattle.lq_grammar.specs.declared.syntax.Clause.TheVariants as clause
use Rattle.lq_grammar.specs.declared.syntax.Continuation.{Continuation}
use Rattle.lq_grammar.specs.declared.syntax.Last.{Last}
use Rattle.lq_grammar.specs.declared.syntax.Last.TheVariants as last
use Rattle.lq_grammar.specs.declared.syntax.Query.{Query}
use Rattle.lq_grammar.specs.declared.syntax.SortKey.{SortKey}
use Rattle.lq_language.specs.Maps.{map_body, map_clause, map_key, map_last, map_next, map_query}
use Rattle.lq_language.proofs.StreamLaws.{order_keys}

-- ---- types

module _ {X Y : Type 0} (f : X → Y) (typed : Y → Names → Option Ty) where
  -- the type of what an expression is replaced by
  abbrev before : X → Names → Option Ty
  before x = typed (f x)

  pub keys_typed : (ks : List (SortKey X)) (names : Names) → are_sort_keys typed (map (map_key f) ks) names ≡ are_sort_keys before ks names
  keys_typed [] names = refl
  keys_typed (k ∷ ks) names = ap (λ b. is_sort_key (typed (f k.value) names) && b) (keys_typed ks names)

  pub clause_typed : (outer : Names) (c : Clause X) (names : Names) → names_after typed outer (map_clause f c) names ≡ names_after before outer c names
  clause_typed outer (clause.From n x) names = refl
  clause_typed outer (clause.Let n x) names = refl
  clause_typed outer (clause.Where x) names = refl
  clause_typed outer (clause.Join j) names = refl
  clause_typed outer (clause.OrderBy ks) names = ap (λ b. when b (Some names)) (keys_typed ks names)

  clauses_typed : (outer : Names) (cs : List (Clause X)) (names : Names) → names_after_all typed outer (map (map_clause f) cs) names ≡ names_after_all before outer cs names
  clauses_typed outer [] names = refl
  clauses_typed outer (c ∷ cs) names = (λ i. option_and_then (λ behind. clauses_typed outer cs behind i) (clause_typed outer c names i))

  last_typed : (l : Last X) (names : Names) → last_type typed (map_last f l) names ≡ last_type before l names
  last_typed (last.Select x) names = refl
  last_typed (last.Group x key) names = refl

  pub body_typed : (outer : Names) (body : Body X) (names : Names) → body_items typed outer (map_body f body) names ≡ body_items before outer body names
  body_typed outer body names = λ i. if_within typed (option_and_then (λ behind. last_typed body.last behind i) (clauses_typed outer body.clauses names i))

  next_typed : (outer : Names) (rest : List (Continuation X)) (t : Ty) → continued_items typed outer (map (map_next f) rest) t ≡ continued_items before outer rest t
  next_typed outer [] t = refl
  next_typed outer (next ∷ rest) t =
      λ i. option_and_then (λ u. next_typed outer rest u i) (option_and_then (λ names. body_typed outer next.body names i) (sole_name typed outer next.name t))

  pub query_typed : (q : Query X) (outer : Names) → query_items typed (map_query f q) outer ≡ query_items before q outer
  unfolding query_items
  query_typed q outer =
      λ i. option_and_then (λ t. option_and_then (λ u. next_typed outer q.rest u i) (option_and_then (λ names. body_typed outer q.body names i) (sole_name typed outer q.name t)))
      (source_type typed (f q.source) outer)

-- ---- meaning

module _ {R X Y : Type 0} (f : X → Y) (world : World R) (typed : Y → Names → Option Ty) (meant : Y → Meaning R) where
  abbrev typed_before : X → Names → Option Ty
  typed_before x = typed (f x)

  -- what an expression's replacement means
  abbrev meant_before : X → Meaning R
  meant_before x = meant (f x)

  clause_meant : (outer : Scope R) (c : Clause X) (scopes : Stream (Scope R))
      → clause_meaning world typed meant outer (map_clause f c) scopes ≡ clause_meaning world typed_before meant_before outer c scopes
  clause_meant outer (clause.From n x) scopes = refl
  clause_meant outer (clause.Let n x) scopes = refl
  clause_meant outer (clause.Where x) scopes = refl
  clause_meant outer (clause.Join j) scopes = refl
  clause_meant outer (clause.OrderBy ks) scopes = order_keys (map_key f) (λ k. k.descending) (sort_key_at world typed meant) ks scopes.0 scopes.1

  clauses_meant : (outer : Scope R) (cs : List (Clause X)) (scopes : Stream (Scope R))
      → clauses_meaning world typed meant outer (map (map_clause f) cs) scopes ≡ clauses_meaning world typed_before meant_before outer cs scopes
  clauses_meant outer [] scopes = refl
  clauses_meant outer (c ∷ cs) scopes = λ i. clauses_meant outer cs (clause_meant outer c scopes i) i

  last_meant : (l : Last X) (scopes : Stream (Scope R)) → last_meaning world typed meant (map_last f l) scopes ≡ last_meaning world typed_before meant_before l scopes
  last_meant (last.Select x) scopes = refl
  last_meant (last.Group x key) scopes = refl

  body_meant : (outer : Scope R) (body : Body X) (scopes : Stream (Scope R))
      → body_meaning world typed meant outer (map_body f body) scopes ≡ body_meaning world typed_before meant_before outer body scopes
  body_meant outer body scopes = λ i. last_meant body.last (clauses_meant outer body.clauses scopes i) i

  type_meant : (outer : Scope R) (body : Body X) (n : List ℕ) (t : Ty)
      → body_type_at world typed meant outer (map_body f body) n t ≡ body_type_at world typed_before meant_before outer body n t
  type_meant outer body n t = ap or_null (body_typed f typed (names_at world outer) body _)

  rest_meant : (outer : Scope R) (rest : List (Continuation X)) (t : Ty) (items : Stream (Value R))
      → continued world typed meant outer (map (map_next f) rest) t items ≡ continued world typed_before meant_before outer rest t items
  rest_meant outer [] t items = refl
  rest_meant outer (next ∷ rest) t items =
      λ i. rest_meant outer rest (type_meant outer next.body next.name t i) (body_meant outer next.body (bound_stream next.name t outer items) i) i

  pub query_meant : (q : Query X) (outer : Scope R) → query_meaning world typed meant (map_query f q) outer ≡ query_meaning world typed_before meant_before q outer
  unfolding query_meaning
  query_meant q outer =
      let t = item_type_at world typed meant (f q.source) outer in
      λ i. rest_meant outer q.rest (type_meant outer q.body q.name t i) (body_meant outer q.body (bound_stream q.name t outer (stream_of world (meant (f q.source) outer))) i) i
