-- «Typing» of clauses: which types the parts of a query have, whatever their expressions are (ECMA-334, query expressions and scopes).
-- `typed` gives the type that an expression has under names.
use Rattle.std.specs.Prelude.{◌∷◌, ◌&&◌, List, [], ℕ, Bool, true, Option, Some, None, option_and_then, option_map}
use Rattle.lq_value.specs.declared.ty.Ty.{Ty, out-Ty}
use Rattle.lq_value.specs.declared.ty.Ty.TheVariants as ty
use Rattle.lq_language.specs.Names.{Names, with_local}
use Rattle.lq_language.specs.OperandTypes.{is_bool_type}
use Rattle.lq_language.specs.Typing.{node_type}
unfoldable pub use Rattle.lq_language.specs.Types.{are_join_keys, element_type, fresh_type, has_place, if_key, if_placed, is_fresh, is_key, is_sort_key, is_within, parts_of, parts_step, same_types, when}
use Rattle.lq_grammar.specs.declared.syntax.Body.{Body}
use Rattle.lq_grammar.specs.declared.syntax.Clause.{Clause}
use Rattle.lq_grammar.specs.declared.syntax.Clause.TheVariants as clause
use Rattle.lq_grammar.specs.declared.syntax.Continuation.{Continuation}
use Rattle.lq_grammar.specs.declared.syntax.Expr.{Expr, fold-Expr}
use Rattle.lq_grammar.specs.declared.syntax.Expr.TheOpen.{Expr-F}
use Rattle.lq_grammar.specs.declared.syntax.Join.{Join}
use Rattle.lq_grammar.specs.declared.syntax.Last.{Last}
use Rattle.lq_grammar.specs.declared.syntax.Last.TheVariants as last
use Rattle.lq_grammar.specs.declared.syntax.Query.{Query}
use Rattle.lq_grammar.specs.declared.syntax.SortKey.{SortKey}

-- ---- clauses

-- the name that a `join` leaves in scope refers to an item of the inner sequence, or by `into` to the sequence of the matches
abbrev pub matched_name : Option (List ℕ) → List ℕ → List ℕ
matched_name None n = n
matched_name (Some g) n = g

abbrev pub joined_name : {X : Type 0} → Join X → List ℕ
joined_name j = matched_name j.into j.name

module _ {X : Type 0} (typed : X → Names → Option Ty) where
  -- the type of what a source gives
  abbrev pub source_type : X → Names → Option Ty
  source_type f names = option_and_then (λ t. element_type (out-Ty t)) (typed f names)

  abbrev pub from_type : List ℕ → X → Names → Option Ty
  from_type n f names = fresh_type names n (source_type f names)

  abbrev pub let_type : List ℕ → X → Names → Option Ty
  let_type n f names = fresh_type names n (if_placed (typed f names))

  abbrev pub matched_type : Names → Option (List ℕ) → Ty → Option Ty
  matched_type names None t = Some t
  matched_type names (Some g) t = fresh_type names g (Some (ty.Seq t))

  -- The inner sequence and the second key are at the place of the query, and see none of its range variables; the second key
  -- sees the new one besides. Its name repeats no name before the clause, though it ends with the clause where there is `into`.
  abbrev pub join_type : Names → Join X → Names → Option Ty
  join_type outer j names =
      option_and_then (λ t. when (are_join_keys (typed j.outer_key names) (typed j.inner_key (with_local outer j.name t))) (matched_type names j.into t))
      (fresh_type names j.name (source_type j.source outer))

  abbrev pub are_sort_keys : List (SortKey X) → Names → Bool
  are_sort_keys [] names = true
  are_sort_keys (k ∷ ks) names = is_sort_key (typed k.value names) && are_sort_keys ks names

  -- the names after a clause of a query at the place of the first names, where it is typed under those before it
  abbrev pub names_after : Names → Clause X → Names → Option Names
  names_after outer (clause.From n f) names = option_map (with_local names n) (from_type n f names)
  names_after outer (clause.Let n f) names = option_map (with_local names n) (let_type n f names)
  names_after outer (clause.Where c) names = when (is_bool_type (typed c names)) (Some names)
  names_after outer (clause.Join j) names = option_map (with_local names (joined_name j)) (join_type outer j names)
  names_after outer (clause.OrderBy ks) names = when (are_sort_keys ks names) (Some names)

  abbrev pub names_after_all : Names → List (Clause X) → Names → Option Names
  names_after_all outer [] names = Some names
  names_after_all outer (c ∷ cs) names = option_and_then (names_after_all outer cs) (names_after outer c names)

  -- a group has its key's type and that of its elements
  abbrev pub group_type : Option Ty → Option Ty → Option Ty
  group_type key element = option_and_then (λ k. option_map (ty.Group k) (if_placed element)) (if_key key)

  -- the type of what a body gives
  abbrev pub last_type : Last X → Names → Option Ty
  last_type (last.Select v) names = if_placed (typed v names)
  last_type (last.Group v key) names = group_type (typed key names) (typed v names)

  -- items of a type, whose sequence is one that an expression may have
  abbrev pub if_within : Option Ty → Option Ty
  if_within found = option_and_then (λ t. when (is_within (ty.Seq t)) (Some t)) found

  -- the type of what the body of a query gives, at the place of the first names
  abbrev pub body_items : Names → Body X → Names → Option Ty
  body_items outer body names = if_within (option_and_then (last_type body.last) (names_after_all outer body.clauses names))

  -- the range variable of `from` or `into`, alone
  abbrev pub sole_name : Names → List ℕ → Ty → Option Names
  sole_name outer n t = when (is_fresh outer n) (Some (with_local outer n t))

  -- what follows by `into` sees the items before it by its range variable, and no other range variable
  abbrev pub continued_items : Names → List (Continuation X) → Ty → Option Ty
  continued_items outer [] t = Some t
  continued_items outer (next ∷ rest) t =
      option_and_then (continued_items outer rest) (option_and_then (body_items outer next.body) (sole_name outer next.name t))

  -- the type of a query's items
  unfoldable pub query_items : Query X → Names → Option Ty
  query_items q outer =
      option_and_then (λ t. option_and_then (continued_items outer q.rest) (option_and_then (body_items outer q.body) (sole_name outer q.name t)))
      (source_type q.source outer)

-- ---- expressions

-- the layers of an expression: a query is a sequence of its items
abbrev pub expression_step : Expr-F (Names → Option Ty) → Names → Option Ty
expression_step (Expr-F.Node n) names = node_type n names
expression_step (Expr-F.Query q) names = option_map ty.Seq (query_items (λ x. x) q names)

-- the type of an expression
unfoldable pub expression_type : Expr → Names → Option Ty
expression_type = fold-Expr (Names → Option Ty) expression_step
