-- «Scalar meaning» and «Operator meaning»: records, groups, and methods of sequences, whose lambdas are functions
-- of the scope (ECMA-334, expressions; .NET, Enumerable). What has a type by `RuleTyping` means here what
-- `RuleMeaning` says (MeaningLaws).
use Rattle.std.specs.Prelude.{◌∷◌, if◌then◌else◌, List, [], filter_map, ℕ, ℤ, Bool, true, false, Option, Some, None, Result, Ok, Err, pos, option_and_then, slice_get}
use Rattle.std.specs.Str.{bytes_eq}
use Rattle.lq_value.specs.SameAndOrder.{same_values as same_keys}
use Rattle.lq_value.specs.declared.scalar.Scalar.{Scalar}
use Rattle.lq_value.specs.declared.scalar.Scalar.TheVariants as scalar
use Rattle.lq_value.specs.declared.ty.Ty.{Ty, out-Ty}
use Rattle.lq_value.specs.declared.ty.Ty.TheOpen.{Ty-F}
use Rattle.lq_value.specs.declared.value.Fault.{Fault}
use Rattle.lq_value.specs.declared.value.Fault.TheVariants as fault
use Rattle.lq_value.specs.declared.value.Value.{Value, out-Value}
use Rattle.lq_value.specs.declared.value.Value.TheOpen.{Value-F}
use Rattle.lq_value.specs.declared.value.Value.TheVariants as value
use Rattle.lq_language.specs.ClauseTyping.{expression_type}
use Rattle.lq_language.specs.Enumerable.{all, any, as_count, concat, contains, count, default_if_empty, distinct, element_at, except, first, greatest, intersect, last, least, reversed, single, skip, summed, take_first, union}
use Rattle.lq_language.specs.EnumerableCalls.{EnumerableCall, Given, Simple, Through, By, Plain, With, enumerable_call}
use Rattle.lq_language.specs.EnumerableCalls as of
use Rattle.lq_language.specs.Worlds.{Binding, Meaning, Scope, SessionValue, World, binding_of, bound, names_at, or_null}
use Rattle.lq_language.specs.OperandMeaning.{as_value, member_value, on_scalar, same_values, sequence, stream_of, table_value, equality_truth, truth_value}
use Rattle.lq_language.specs.ClauseMeaning.{condition_at, item_type_at, query_meaning}
use Rattle.lq_language.specs.RuleMeaning.{Meant, rule_node_meaning}
use Rattle.lq_language.specs.Members.{search_named, sole_argument}
use Rattle.lq_language.specs.Operations.{of_search, on_ok}
use Rattle.lq_language.specs.Stream.{Stream, select_by, where_by}
use Rattle.lq_language.specs.Names.{Names, table_number, with_local}
use Rattle.lq_language.specs.OperandTypes.{is_equality, is_int, is_text_type}
use Rattle.lq_language.specs.Typing.{method_type, type_of_member}
use Rattle.lq_grammar.specs.declared.syntax.Argument.{Argument}
use Rattle.lq_grammar.specs.declared.syntax.Binary.{Binary}
use Rattle.lq_grammar.specs.declared.syntax.Expr.{Expr, para-Expr}
use Rattle.lq_grammar.specs.declared.syntax.Expr.TheOpen.{Expr-F}
use Rattle.lq_grammar.specs.declared.syntax.Field.{Field}
use Rattle.lq_grammar.specs.declared.syntax.Node.{Node}
use Rattle.lq_grammar.specs.declared.syntax.Node.TheVariants as node
use Rattle.lq_grammar.specs.declared.syntax.Query.{Query}

-- whether the type is that of a sequence
abbrev pub is_sequence_layer : Ty-F Ty → Bool
is_sequence_layer (Ty-F.Seq t) = true
is_sequence_layer layer = false

abbrev pub is_sequence_type : Option Ty → Bool
is_sequence_type None = false
is_sequence_type (Some t) = is_sequence_layer (out-Ty t)

-- the default of a type: 0, false, or null
abbrev pub default_layer : {R : Type 0} → Ty-F Ty → Value R
default_layer Ty-F.Int = value.Scalar (scalar.Int (pos 0))
default_layer Ty-F.Bool = value.Scalar (scalar.Bool false)
default_layer layer = value.Scalar scalar.Null

abbrev pub default_of : {R : Type 0} → Ty → Value R
default_of t = default_layer (out-Ty t)

-- what Min and Max give where there is no number: null of int?, and a fault of int
abbrev pub no_number : Ty → Result Scalar Fault
no_number t = if is_int (out-Ty t) then Err fault.InvalidOperation else Ok scalar.Null

-- the layer of a null record or row, which has no members
abbrev pub has_members : Ty-F Ty → Bool
has_members (Ty-F.Row n) = true
has_members (Ty-F.Rec ms) = true
has_members layer = false

abbrev pub has_members_type : Option Ty → Bool
has_members_type None = false
has_members_type (Some t) = has_members (out-Ty t)

module _ {R : Type 0} where
  -- the numbers among the items; null is none
  abbrev pub number_in : Value-F R (Value R) → Option ℤ
  number_in (Value-F.Scalar (scalar.Int n)) = Some n
  number_in layer = None

  abbrev pub numbers : List (Value R) → List ℤ
  numbers vs = filter_map (λ v. number_in (out-Value R v)) vs

  -- ---- methods of sequences, on the stream of the items

  -- the answer that is a sequence
  abbrev pub as_sequence : Stream (Value R) → Result (Value R) Fault
  as_sequence items = Ok (sequence items)

  abbrev pub as_truth : Result Bool Fault → Result (Value R) Fault
  as_truth found = on_ok found (λ b. Ok (truth_value b))

  abbrev pub none_there : Result (Value R) Fault
  none_there = Err fault.InvalidOperation

  -- a method without an argument, on items of this type
  abbrev pub simple_meaning : Simple → Ty → Stream (Value R) → Result (Value R) Fault
  simple_meaning of.Distinct t s = as_sequence (distinct same_keys s.0 s.1)
  simple_meaning of.Reverse t s = as_sequence (reversed s.0 s.1)
  simple_meaning of.DefaultIfEmpty t s = as_sequence (default_if_empty (default_of t) s.0 s.1)
  simple_meaning of.Any t s = as_truth (any s.0 s.1)
  simple_meaning of.Count t s = as_value (count s.0 s.1)
  simple_meaning of.First t s = first none_there s.0 s.1
  simple_meaning of.FirstOrDefault t s = first (Ok (default_of t)) s.0 s.1
  simple_meaning of.Last t s = last none_there s.0 s.1
  simple_meaning of.Single t s = single none_there s.0 s.1
  simple_meaning of.SingleOrDefault t s = single (Ok (default_of t)) s.0 s.1
  simple_meaning of.Sum t s = as_value (summed (pos 0) (numbers s.0) s.1)
  simple_meaning of.Min t s = as_value (least (no_number t) (numbers s.0) s.1)
  simple_meaning of.Max t s = as_value (greatest (no_number t) (numbers s.0) s.1)

module _ {R : Type 0} (world : World R) where
  -- an argument that is a number; it is evaluated before the source is read
  abbrev pub number_of : Scalar → Result ℤ Fault
  number_of (scalar.Int n) = Ok n
  number_of s = Err world.unknown

  abbrev pub on_number : Result (Value R) Fault → (ℤ → Result (Value R) Fault) → Result (Value R) Fault
  on_number argument next = on_ok (on_scalar world argument number_of) next

  -- a method with an argument
  abbrev pub given_meaning : Given → Result (Value R) Fault → Stream (Value R) → Result (Value R) Fault
  given_meaning of.Concat second s = as_sequence (concat s (stream_of world second))
  given_meaning of.Union second s = as_sequence (union same_keys s (stream_of world second))
  given_meaning of.Intersect second s = as_sequence (intersect same_keys s (stream_of world second))
  given_meaning of.Except second s = as_sequence (except same_keys s (stream_of world second))
  given_meaning of.Skip number s = on_number number (λ n. as_sequence (skip (as_count n) s.0 s.1))
  given_meaning of.Take number s = on_number number (λ n. as_sequence (take_first (as_count n) s.0 s.1))
  given_meaning of.ElementAt number s = on_number number (λ n. element_at n s.0 s.1)
  given_meaning of.Contains value s = on_ok value (λ v. as_truth (contains same_keys v s.0 s.1))

  -- a method with a lambda: its body's type, whether it is true of an item, and what it makes of one
  abbrev pub through_meaning : Through → Ty → Ty → (Value R → Result Bool Fault) → (Value R → Result (Value R) Fault) → Stream (Value R) → Result (Value R) Fault
  through_meaning of.Where t u condition f s = as_sequence (where_by condition s.0 s.1)
  through_meaning of.Select t u condition f s = as_sequence (select_by f s.0 s.1)
  through_meaning of.All t u condition f s = as_truth (all condition s.0 s.1)
  through_meaning (of.Those method) t u condition f s = simple_meaning method t (where_by condition s.0 s.1)
  through_meaning (of.Values method) t u condition f s = simple_meaning method u (select_by f s.0 s.1)

  -- ---- records and groups

  abbrev pub member_found : Option (Value R) → Result (Value R) Fault
  member_found (Some v) = Ok v
  member_found None = Err world.unknown

  abbrev pub member_in : List ℕ → List (List ℕ × Value R) → Option (Value R)
  member_in m [] = None
  member_in m (member ∷ members) = if bytes_eq m member.0 then Some member.1 else member_in m members

  -- ---- names

  -- what a name of the session refers to
  abbrev pub session_value : List ℕ → List (SessionValue R) → Result (Value R) Fault
  session_value x [] = Err world.unknown
  session_value x (s ∷ others) = if bytes_eq s.known.name x then Ok s.value else session_value x others

  -- a table's rows, else what the session says
  abbrev pub global_value : List ℕ → Option ℕ → Result (Value R) Fault
  global_value x (Some n) = table_value world (slice_get world.rows n)
  global_value x None = session_value x world.session

  -- a local name's value, else what its name refers to outside
  abbrev pub value_of_name : List ℕ → Option (Binding R) → Result (Value R) Fault
  value_of_name x (Some b) = Ok b.value
  value_of_name x None = global_value x (table_number x world.schemas)

  -- a member of a record, the key of a group, or what a row or a scalar of this type has; a null record or row has none
  abbrev pub value_of_member : Option Ty → List ℕ → Value-F R (Value R) → Result (Value R) Fault
  value_of_member t m (Value-F.Rec members) = member_found (member_in m members)
  value_of_member t m (Value-F.Group key xs) = Ok key
  value_of_member t m (Value-F.Scalar scalar.Null) = if has_members_type t then Err fault.NullReference else member_value world t m (Value-F.Scalar scalar.Null)
  value_of_member t m layer = member_value world t m layer

  -- whether two operands are the same: a row, record or group is not null
  abbrev pub same_operands : Value-F R (Value R) → Value-F R (Value R) → Result Bool Fault
  same_operands (Value-F.Rec ms) (Value-F.Scalar scalar.Null) = Ok false
  same_operands (Value-F.Group key xs) (Value-F.Scalar scalar.Null) = Ok false
  same_operands (Value-F.Scalar scalar.Null) (Value-F.Rec ms) = Ok false
  same_operands (Value-F.Scalar scalar.Null) (Value-F.Group key xs) = Ok false
  same_operands v w = same_values world v w

  abbrev pub equality_meaning : Binary → Result (Value R) Fault → Result (Value R) Fault → Result (Value R) Fault
  equality_meaning sign a b = on_ok a (λ v. on_ok b (λ w. on_ok (same_operands (out-Value R v) (out-Value R w)) (λ same. Ok (truth_value (equality_truth sign same)))))

  -- An expression of a sequence's type doesn't fault: a fault met in making it is the ending of its stream, before any item.
  abbrev pub settled : Option Ty → Result (Value R) Fault → Result (Value R) Fault
  settled t found = if is_sequence_type t then as_sequence (stream_of world found) else found

-- An operand beside its meaning: `type_of` gives its type.
module _ {R E : Type 0} (world : World R) (type_of : E → Names → Option Ty) where
  abbrev pub typed : E × Meaning R → Names → Option Ty
  typed a = type_of a.0

  abbrev pub meant : E × Meaning R → Meaning R
  meant a = a.1

  -- a method on items of this type, whose lambda means its body in the scope of an item
  abbrev pub enumerable_meaning : Scope R → Ty → EnumerableCall (E × Meaning R) → Stream (Value R) → Result (Value R) Fault
  enumerable_meaning scope t (Plain method) s = simple_meaning method t s
  enumerable_meaning scope t (With method x) s = given_meaning world method (meant x scope) s
  enumerable_meaning scope t (By method n body) s =
      through_meaning world method t (or_null (typed body (with_local (names_at world scope) n t)))
      (λ v. condition_at world typed meant body (bound n t scope v)) (λ v. meant body (bound n t scope v)) s

  -- a method on the items of what means this, which are of this type
  abbrev pub called_meaning : Option (EnumerableCall (E × Meaning R)) → Ty → Result (Value R) Fault → Meaning R
  called_meaning None t source scope = Err world.unknown
  called_meaning (Some call) t source scope = enumerable_meaning scope t call (stream_of world source)

  -- the meaning of an argument that is there
  abbrev pub argument_meaning : Scope R → Option (E × Meaning R) → Result (Value R) Fault
  argument_meaning scope None = Err world.unknown
  argument_meaning scope (Some a) = a.1 scope

  -- a search in a text
  abbrev pub search_meaning : Result (Value R) Fault → List ℕ → Result (Value R) Fault → Result (Value R) Fault
  search_meaning a m argument = on_scalar world a (λ s. on_scalar world argument (λ t. as_value (of_search world.unknown (search_named m) s t)))

  -- a search in a text, or a method of what is enumerated
  abbrev pub method_meaning : E × Meaning R → List ℕ → List (Argument (E × Meaning R)) → Meaning R
  method_meaning a m arguments scope =
      if is_text_type (typed a (names_at world scope))
      then search_meaning (meant a scope) m (argument_meaning scope (sole_argument arguments))
      else called_meaning (enumerable_call m arguments) (item_type_at world typed meant a scope) (meant a scope) scope

  -- the members of a record, in order; the first fault is the result
  abbrev pub members_meaning : List (Field (E × Meaning R)) → Scope R → Result (List (List ℕ × Value R)) Fault
  members_meaning [] scope = Ok []
  members_meaning (field ∷ fields) scope = on_ok (meant field.value scope) (λ v. on_ok (members_meaning fields scope) (λ members. Ok ((field.name, v) ∷ members)))

  -- the type of a member, and of a method
  abbrev pub member_type_at : E × Meaning R → List ℕ → Scope R → Option Ty
  member_type_at a m scope = option_and_then (λ t. type_of_member (names_at world scope) m (out-Ty t)) (typed a (names_at world scope))

  abbrev pub method_type_at : E × Meaning R → List ℕ → List (Argument (E × Meaning R)) → Scope R → Option Ty
  method_type_at a m arguments scope = method_type typed a m arguments (names_at world scope)

  -- the meaning of a form, over the meanings of what it holds; a form without a clause of its own here means what `RuleMeaning` says
  abbrev pub node_meaning : Node (E × Meaning R) → Meaning R
  node_meaning (node.Name x) scope = value_of_name world x (binding_of x scope)
  node_meaning (node.Member a m) scope =
      settled world (member_type_at a m scope) (on_ok (meant a scope) (λ v. value_of_member world (typed a (names_at world scope)) m (out-Value R v)))
  node_meaning (node.Method a m arguments) scope = settled world (method_type_at a m arguments scope) (method_meaning a m arguments scope)
  node_meaning (node.New fields) scope = on_ok (members_meaning fields scope) (λ members. Ok (value.Rec members))
  node_meaning (node.Binary op a b) scope =
      if is_equality op then equality_meaning world op (meant a scope) (meant b scope) else rule_node_meaning world type_of (node.Binary op a b) scope
  node_meaning n scope = rule_node_meaning world type_of n scope

module _ {R : Type 0} (world : World R) where
  abbrev pub expression_meaning_step : Expr-F (Meant R) → Meaning R
  expression_meaning_step (Expr-F.Node n) scope = node_meaning world expression_type n scope
  expression_meaning_step (Expr-F.Query q) scope = Ok (sequence (query_meaning world (λ x. expression_type x.0) (λ x. x.1) q scope))

  -- the value of an expression, or its first fault
  unfoldable pub expression_meaning : Expr → Meaning R
  expression_meaning = para-Expr (Meaning R) expression_meaning_step

  -- the stream of a query
  abbrev pub items_meaning : Query Expr → Scope R → Stream (Value R)
  items_meaning q scope = query_meaning world expression_type expression_meaning q scope
