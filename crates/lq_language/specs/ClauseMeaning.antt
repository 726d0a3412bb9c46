-- «Clause meaning»: what the clauses of a query do, whatever its expressions mean (ECMA-334, query expressions).
use Rattle.std.specs.Prelude.{◌∷◌, if◌then◌else◌, List, [], ℕ, Bool, true, false, Option, Some, None, Result, Ok}
use Rattle.lq_value.specs.declared.scalar.Scalar.{Scalar}
use Rattle.lq_value.specs.declared.scalar.Scalar.TheVariants as scalar
use Rattle.lq_value.specs.declared.ty.Ty.{Ty}
use Rattle.lq_value.specs.declared.ty.Ty.TheVariants as ty
use Rattle.lq_value.specs.declared.value.End.TheVariants as end
use Rattle.lq_value.specs.declared.value.Fault.{Fault}
use Rattle.lq_value.specs.declared.value.Value.{Value, out-Value}
use Rattle.lq_value.specs.declared.value.Value.TheOpen.{Value-F}
use Rattle.lq_value.specs.declared.value.Value.TheVariants as value
use Rattle.lq_language.specs.Operations.{on_ok, truth_of}
use Rattle.lq_language.specs.Arrangement.{order_by}
use Rattle.lq_language.specs.ClauseTyping.{body_items, joined_name, source_type}
use Rattle.lq_language.specs.Stream.{Stream, elements_of, expand_by, group_by, join_by, select_by, where_by, with_keys}
use Rattle.lq_language.specs.Names.{Names, with_local}
use Rattle.lq_value.specs.SameAndOrder.{same_values as same_keys}
use Rattle.lq_grammar.specs.declared.syntax.Clause.{Clause}
use Rattle.lq_grammar.specs.declared.syntax.Clause.TheVariants as clause
use Rattle.lq_grammar.specs.declared.syntax.Body.{Body}
use Rattle.lq_grammar.specs.declared.syntax.Continuation.{Continuation}
use Rattle.lq_grammar.specs.declared.syntax.Join.{Join}
use Rattle.lq_grammar.specs.declared.syntax.Last.{Last}
use Rattle.lq_grammar.specs.declared.syntax.Last.TheVariants as last
use Rattle.lq_grammar.specs.declared.syntax.Query.{Query}
use Rattle.lq_grammar.specs.declared.syntax.SortKey.{SortKey}
use Rattle.lq_language.specs.Worlds.{Meaning, Scope, World, bound, bound_stream, names_at, or_null}
use Rattle.lq_language.specs.OperandMeaning.{on_scalar, stream_of}

-- ---- keys

module _ {R : Type 0} where
  abbrev pub is_null_layer : Value-F R (Value R) → Bool
  is_null_layer (Value-F.Scalar scalar.Null) = true
  is_null_layer layer = false

  -- the items whose keys are the same as this one, in their order; a key that is itself null is the same as none
  abbrev pub matches : Value R → List (Value R × Value R) → List (Value R)
  matches key qs = if is_null_layer (out-Value R key) then [] else elements_of same_keys key qs

  abbrev pub as_group : Value R × List (Value R) → Value R
  as_group group = value.Group group.0 group.1

-- ---- clauses, whatever their expressions are: `typed` gives the type that an expression has under names, `meant` what it means

module _ {R X : Type 0} (world : World R) (typed : X → Names → Option Ty) (meant : X → Meaning R) where
  -- whether a condition is true
  abbrev pub condition_at : X → Scope R → Result Bool Fault
  condition_at c scope = on_scalar world (meant c scope) (truth_of world.unknown)

  -- the type of a source's items
  abbrev pub item_type_at : X → Scope R → Ty
  item_type_at source scope = or_null (source_type typed source (names_at world scope))

  -- a scope with one more range variable
  abbrev pub extended : List ℕ → Ty → Scope R → Value R → Result (Scope R) Fault
  extended name t scope v = Ok (bound name t scope v)

  -- the inner items of a `join` with their keys, which see no range variable but their own
  abbrev pub inner_items : Scope R → Join X → Stream (Value R × Value R)
  inner_items outer j = with_keys (λ v. meant j.inner_key (bound j.name (item_type_at j.source outer) outer v)) (stream_of world (meant j.source outer))

  -- the inner items that a key matches, in their order; or all of them as one sequence
  abbrev pub joined_values : Option (List ℕ) → Value R → List (Value R × Value R) → List (Value R)
  joined_values None key qs = matches key qs
  joined_values (Some g) key qs = value.Seq (matches key qs) end.Done ∷ []

  -- the type of the name that a `join` leaves in scope
  abbrev pub joined_type : Option (List ℕ) → Ty → Ty
  joined_type None t = t
  joined_type (Some g) t = ty.Seq t

  abbrev pub sort_key_at : SortKey X → Scope R → Result Scalar Fault
  sort_key_at k scope = on_scalar world (meant k.value scope) (λ s. Ok s)

  -- a clause of a query at the place of the first scope maps a stream of scopes to a stream of scopes
  abbrev pub clause_meaning : Scope R → Clause X → Stream (Scope R) → Stream (Scope R)
  clause_meaning outer (clause.From n f) scopes =
      expand_by (λ s. stream_of world (meant f s)) (λ s. extended n (item_type_at f s) s) scopes.0 scopes.1
  clause_meaning outer (clause.Let n f) scopes =
      select_by (λ s. on_ok (meant f s) (extended n (or_null (typed f (names_at world s))) s)) scopes.0 scopes.1
  clause_meaning outer (clause.Where c) scopes = where_by (condition_at c) scopes.0 scopes.1
  clause_meaning outer (clause.Join j) scopes =
      join_by (inner_items outer j) (meant j.outer_key) (joined_values j.into)
      (extended (joined_name j) (joined_type j.into (item_type_at j.source outer))) scopes.0 scopes.1
  clause_meaning outer (clause.OrderBy ks) scopes = order_by (λ k. k.descending) sort_key_at ks scopes.0 scopes.1

  abbrev pub clauses_meaning : Scope R → List (Clause X) → Stream (Scope R) → Stream (Scope R)
  clauses_meaning outer [] scopes = scopes
  clauses_meaning outer (c ∷ cs) scopes = clauses_meaning outer cs (clause_meaning outer c scopes)

  -- `select` gives a value for each scope; `group` the keys in order of their first appearance, each with its elements
  abbrev pub last_meaning : Last X → Stream (Scope R) → Stream (Value R)
  last_meaning (last.Select v) scopes = select_by (meant v) scopes.0 scopes.1
  last_meaning (last.Group v key) scopes = group_by same_keys (meant key) (meant v) as_group scopes.0 scopes.1

  abbrev pub body_meaning : Scope R → Body X → Stream (Scope R) → Stream (Value R)
  body_meaning outer body scopes = last_meaning body.last (clauses_meaning outer body.clauses scopes)

  -- the scopes of a query's first clause
  abbrev pub source_scopes : Query X → Scope R → Stream (Scope R)
  source_scopes q outer = bound_stream q.name (item_type_at q.source outer) outer (stream_of world (meant q.source outer))

  -- the type of what a body gives, whose range variable has this type
  abbrev pub body_type_at : Scope R → Body X → List ℕ → Ty → Ty
  body_type_at outer body name t = or_null (body_items typed (names_at world outer) body (with_local (names_at world outer) name t))

  -- what follows by `into` goes on with the items, of this type, by its range variable alone
  abbrev pub continued : Scope R → List (Continuation X) → Ty → Stream (Value R) → Stream (Value R)
  continued outer [] t items = items
  continued outer (next ∷ rest) t items =
      continued outer rest (body_type_at outer next.body next.name t) (body_meaning outer next.body (bound_stream next.name t outer items))

  -- «Clause meaning»: the stream of a query at the place of this scope
  unfoldable pub query_meaning : Query X → Scope R → Stream (Value R)
  query_meaning q outer =
      continued outer q.rest (body_type_at outer q.body q.name (item_type_at q.source outer)) (body_meaning outer q.body (source_scopes q outer))
