-- «Operator meaning» of the calls that clauses are translated to, each a function on streams, and their types. Between two calls an item is a
-- value, or a transparent identifier: a nested pair of the values of several range variables (ECMA-334, query expression translation).
use Rattle.std.specs.Prelude.{◌∷◌, List, [], ℕ, Option, Some, None, Result, Ok, option_and_then, option_map}
use Rattle.lq_value.specs.SameAndOrder.{same_values as same_keys}
use Rattle.lq_value.specs.declared.ty.Ty.{Ty}
use Rattle.lq_value.specs.declared.ty.Ty.TheVariants as ty
use Rattle.lq_value.specs.declared.value.Fault.{Fault}
use Rattle.lq_value.specs.declared.value.Value.{Value, out-Value}
use Rattle.lq_value.specs.declared.value.Value.TheOpen.{Value-F}
use Rattle.lq_value.specs.declared.value.Value.TheVariants as value
use Rattle.lq_language.specs.Arrangement.{order_by}
use Rattle.lq_language.specs.ClauseTyping.{are_sort_keys, from_type, group_type, if_placed, if_within, is_fresh, join_type, joined_name, let_type, source_type, when}
use Rattle.lq_language.specs.Worlds.{Meaning, Scope, World, names_at, or_null}
use Rattle.lq_language.specs.OperandMeaning.{stream_of}
use Rattle.lq_language.specs.ClauseMeaning.{as_group, condition_at, inner_items, item_type_at, joined_type, joined_values, sort_key_at}
use Rattle.lq_language.specs.Operations.{on_ok}
use Rattle.lq_language.specs.Stream.{Stream, expand_by, group_by, join_by, select_by, where_by}
use Rattle.lq_language.specs.Names.{Names}
use Rattle.lq_language.specs.OperandTypes.{is_bool_type}
use Rattle.lq_language.specs.declared.calls.Call.{Call}
use Rattle.lq_language.specs.declared.calls.Operator.{Operator}
use Rattle.lq_language.specs.declared.calls.Operator.TheVariants as operator
use Rattle.lq_language.specs.declared.calls.Paired.{Paired}
use Rattle.lq_language.specs.declared.calls.Paired.TheVariants as paired
use Rattle.lq_language.specs.declared.calls.Part.{Part}

-- ---- nested pairs

-- what the names of an item refer to: one name's value, or a pair of what was there before and the value of one more name
pub data Pattern : Type 0 where
  One : List ℕ → Ty → Pattern
  With : Pattern → List ℕ → Ty → Pattern

-- an item that no name refers to: the empty text is not the spelling of a name
abbrev pub unnamed : Ty → Pattern
unnamed t = One [] t

-- a pair is a record of two members without names
abbrev pub pair_type : Ty → Ty → Ty
pair_type s t = ty.Rec (([], s) ∷ ([], t) ∷ [])

abbrev pub pattern_type : Pattern → Ty
pattern_type (One n t) = t
pattern_type (With p n t) = pair_type (pattern_type p) t

-- the names that an item makes known, in front of those around it
abbrev pub locals_of : Pattern → List (List ℕ × Ty) → List (List ℕ × Ty)
locals_of (One n t) locals = (n, t) ∷ locals
locals_of (With p n t) locals = (n, t) ∷ locals_of p locals

abbrev pub names_of : Names → Pattern → Names
names_of outer p = record { tables = outer.tables; predicates = outer.predicates; session = outer.session; locals = locals_of p outer.locals }

module _ {R : Type 0} where
  abbrev pub pair : Value R → Value R → Value R
  pair v w = value.Rec (([], v) ∷ ([], w) ∷ [])

  abbrev pub first_member : Value R → Value-F R (Value R) → Value R
  first_member v (Value-F.Rec (m ∷ ms)) = m.1
  first_member v layer = v

  abbrev pub second_member : Value R → Value-F R (Value R) → Value R
  second_member v (Value-F.Rec (m ∷ n ∷ ms)) = n.1
  second_member v layer = v

  -- the parts of a pair
  abbrev pub first : Value R → Value R
  first v = first_member v (out-Value R v)

  abbrev pub second : Value R → Value R
  second v = second_member v (out-Value R v)

  -- the scope in which an item's names have their values
  abbrev pub bind : Pattern → Scope R → Value R → Scope R
  bind (One n t) scope v = record { name = n; ty = t; value = v } ∷ scope
  bind (With p n t) scope v = record { name = n; ty = t; value = second v } ∷ bind p scope (first v)

-- ---- types

module _ {X : Type 0} (typed : X → Names → Option Ty) where
  -- what a call that pairs items makes of a pair
  abbrev pub paired_pattern : Names → Pattern → List ℕ → Paired X → Ty → Option Pattern
  paired_pattern outer p n paired.Pair t = Some (With p n t)
  paired_pattern outer p n (paired.Value v) t = option_map unnamed (if_placed (typed v (names_of outer (With p n t))))

  abbrev pub element_of : Names → Pattern → Option X → Option Ty
  element_of outer p None = Some (pattern_type p)
  element_of outer p (Some v) = typed v (names_of outer p)

  -- what the names of an item after a call refer to, where the call is typed: a new name repeats none that is known where it is paired
  abbrev pub pattern_after : Names → Operator X → Pattern → Option Pattern
  pattern_after outer (operator.Where c) p = when (is_bool_type (typed c (names_of outer p))) (Some p)
  pattern_after outer (operator.Select v) p = option_map unnamed (if_placed (typed v (names_of outer p)))
  pattern_after outer (operator.Let n f) p = option_map (With p n) (let_type typed n f (names_of outer p))
  pattern_after outer (operator.SelectMany n f result) p = option_and_then (paired_pattern outer p n result) (from_type typed n f (names_of outer p))
  pattern_after outer (operator.Join j result) p =
      option_and_then (paired_pattern outer p (joined_name j) result) (join_type typed outer j (names_of outer p))
  pattern_after outer (operator.OrderBy ks) p = when (are_sort_keys typed ks (names_of outer p)) (Some p)
  pattern_after outer (operator.GroupBy key element) p =
      option_map unnamed (group_type typed (typed key (names_of outer p)) (element_of outer p element))

  -- the type of the items after all calls, which is any but that of null
  abbrev pub operators_type : Names → List (Operator X) → Pattern → Option Ty
  operators_type outer [] p = if_placed (Some (pattern_type p))
  operators_type outer (op ∷ ops) p = option_and_then (operators_type outer ops) (pattern_after outer op p)

  abbrev pub operators_items : Names → List (Operator X) → Pattern → Option Ty
  operators_items outer ops p = if_within typed (operators_type outer ops p)

  abbrev pub sole_pattern : Names → List ℕ → Ty → Option Pattern
  sole_pattern outer n t = when (is_fresh outer n) (Some (One n t))

  abbrev pub parts_items : Names → List (Part X) → Ty → Option Ty
  parts_items outer [] t = Some t
  parts_items outer (part ∷ rest) t =
      option_and_then (parts_items outer rest) (option_and_then (operators_items outer part.operators) (sole_pattern outer part.name t))

  -- the type of the items that the calls of a query give
  unfoldable pub call_items : Call X → Names → Option Ty
  call_items c outer =
      option_and_then (λ t. option_and_then (parts_items outer c.rest) (option_and_then (operators_items outer c.operators) (sole_pattern outer c.name t)))
      (source_type typed c.source outer)

-- ---- meaning

module _ {R X : Type 0} (world : World R) (typed : X → Names → Option Ty) (meant : X → Meaning R) where
  -- the body of a lambda whose parameter is an item
  abbrev pub lambda : Scope R → Pattern → X → Value R → Result (Value R) Fault
  lambda outer p body v = meant body (bind p outer v)

  -- the type that an expression has where an item's names are known
  abbrev pub type_under : Scope R → Pattern → X → Ty
  type_under outer p f = or_null (typed f (names_of (names_at world outer) p))

  abbrev pub source_type_under : Scope R → Pattern → X → Ty
  source_type_under outer p f = or_null (source_type typed f (names_of (names_at world outer) p))

  -- what comes of an item and the value of one more name
  abbrev pub result_of : Scope R → Pattern → List ℕ → Ty → Paired X → Value R → Value R → Result (Value R) Fault
  result_of outer p n t paired.Pair v w = Ok (pair v w)
  result_of outer p n t (paired.Value x) v w = meant x (record { name = n; ty = t; value = w } ∷ bind p outer v)

  abbrev pub element_at : Scope R → Pattern → Option X → Value R → Result (Value R) Fault
  element_at outer p None v = Ok v
  element_at outer p (Some x) v = lambda outer p x v

  -- a call at the place of a scope maps a stream of items to a stream of items
  abbrev pub operator_meaning : Scope R → Operator X → Pattern → Stream (Value R) → Stream (Value R)
  operator_meaning outer (operator.Where c) p items = where_by (λ v. condition_at world typed meant c (bind p outer v)) items.0 items.1
  operator_meaning outer (operator.Select x) p items = select_by (lambda outer p x) items.0 items.1
  operator_meaning outer (operator.Let n f) p items = select_by (λ v. on_ok (lambda outer p f v) (λ w. Ok (pair v w))) items.0 items.1
  operator_meaning outer (operator.SelectMany n f result) p items =
      expand_by (λ v. stream_of world (lambda outer p f v)) (result_of outer p n (source_type_under outer p f) result) items.0 items.1
  operator_meaning outer (operator.Join j result) p items =
      join_by (inner_items world typed meant outer j) (lambda outer p j.outer_key) (joined_values world typed meant j.into)
      (result_of outer p (joined_name j) (joined_type world typed meant j.into (item_type_at world typed meant j.source outer)) result) items.0 items.1
  operator_meaning outer (operator.OrderBy ks) p items =
      order_by (λ k. k.descending) (λ k v. sort_key_at world typed meant k (bind p outer v)) ks items.0 items.1
  operator_meaning outer (operator.GroupBy key element) p items =
      group_by same_keys (lambda outer p key) (element_at outer p element) as_group items.0 items.1

  abbrev pub paired_behind : Scope R → Pattern → List ℕ → Ty → Paired X → Pattern
  paired_behind outer p n t paired.Pair = With p n t
  paired_behind outer p n t (paired.Value x) = unnamed (type_under outer (With p n t) x)

  -- what the names of an item after a call refer to
  abbrev pub pattern_behind : Scope R → Operator X → Pattern → Pattern
  pattern_behind outer (operator.Where c) p = p
  pattern_behind outer (operator.Select x) p = unnamed (type_under outer p x)
  pattern_behind outer (operator.Let n f) p = With p n (type_under outer p f)
  pattern_behind outer (operator.SelectMany n f result) p = paired_behind outer p n (source_type_under outer p f) result
  pattern_behind outer (operator.Join j result) p =
      paired_behind outer p (joined_name j) (joined_type world typed meant j.into (item_type_at world typed meant j.source outer)) result
  pattern_behind outer (operator.OrderBy ks) p = p
  pattern_behind outer (operator.GroupBy key element) p =
      unnamed (or_null (group_type typed (typed key (names_of (names_at world outer) p)) (element_of typed (names_at world outer) p element)))

  abbrev pub operators_meaning : Scope R → List (Operator X) → Pattern → Stream (Value R) → Stream (Value R)
  operators_meaning outer [] p items = items
  operators_meaning outer (op ∷ ops) p items = operators_meaning outer ops (pattern_behind outer op p) (operator_meaning outer op p items)

  abbrev pub operators_type_at : Scope R → List (Operator X) → List ℕ → Ty → Ty
  operators_type_at outer ops n t = or_null (operators_items typed (names_at world outer) ops (One n t))

  -- the calls of what follows by `into`, on items of this type
  abbrev pub parts_meaning : Scope R → List (Part X) → Ty → Stream (Value R) → Stream (Value R)
  parts_meaning outer [] t items = items
  parts_meaning outer (part ∷ rest) t items =
      parts_meaning outer rest (operators_type_at outer part.operators part.name t) (operators_meaning outer part.operators (One part.name t) items)

  -- «Operator meaning» of the calls that a query is translated to, at the place of this scope
  unfoldable pub call_meaning : Call X → Scope R → Stream (Value R)
  call_meaning c outer =
      let t = item_type_at world typed meant c.source outer in
      parts_meaning outer c.rest (operators_type_at outer c.operators c.name t)
      (operators_meaning outer c.operators (One c.name t) (stream_of world (meant c.source outer)))
