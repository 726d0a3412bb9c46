-- «Typing» of every form of the language over the types of its parts: records, groups, and the methods of sequences (ECMA-334,
-- expressions; .NET, Enumerable). What has a type by `RuleTyping` has the same type here (RuleTypingLaws).
use Rattle.std.specs.Prelude.{◌∷◌, ◌&&◌, ◌||◌, if◌then◌else◌, not, List, [], ℕ, Bool, true, false, Option, Some, None, codes, map, option_and_then, option_map}
use Rattle.std.specs.Str.{bytes_eq}
use Rattle.lq_value.specs.declared.ty.Ty.{Ty, out-Ty}
use Rattle.lq_value.specs.declared.ty.Ty.TheOpen.{Ty-F}
use Rattle.lq_value.specs.declared.ty.Ty.TheVariants as ty
use Rattle.lq_language.specs.EnumerableCalls.{EnumerableCall, Given, Simple, Through, By, Plain, With, enumerable_call}
use Rattle.lq_language.specs.EnumerableCalls as of
use Rattle.lq_language.specs.Members.{is_search, sole_argument}
use Rattle.lq_language.specs.Types.{element_type, fresh_type, if_placed, is_key, is_within, same_types, when}
use Rattle.lq_language.specs.Names.{Names, local_type, session_name, table_number, with_local}
use Rattle.lq_language.specs.OperandTypes.{choice_type_of_layers, is_bool_type, is_equality, is_int, is_number, is_text_type, member_type, of_operands, operated_type, truth_type}
use Rattle.lq_language.specs.RuleTyping.{rule_node_type}
use Rattle.lq_grammar.specs.declared.syntax.Argument.{Argument}
use Rattle.lq_grammar.specs.declared.syntax.Binary.{Binary}
use Rattle.lq_grammar.specs.declared.syntax.Field.{Field}
use Rattle.lq_grammar.specs.declared.syntax.Node.{Node}
use Rattle.lq_grammar.specs.declared.syntax.Node.TheVariants as node

-- a type that an expression may have, which is of at most 4,096 parts
abbrev pub if_limited : Option Ty → Option Ty
if_limited found = option_and_then (λ t. when (is_within t) (Some t)) found

-- ---- records and groups

-- the type of a record's member of this name
abbrev pub member_of : List ℕ → List (List ℕ × Ty) → Option Ty
member_of m [] = None
member_of m (member ∷ members) = if bytes_eq m member.0 then Some member.1 else member_of m members

abbrev pub type_of_member : Names → List ℕ → Ty-F Ty → Option Ty
type_of_member names m (Ty-F.Rec members) = member_of m members
type_of_member names m (Ty-F.Group k t) = if bytes_eq m (codes "Key") then Some k else None
type_of_member names m layer = member_type names m layer

-- a record or a group beside null, which `==` compares as well
abbrev pub are_null_tests : Ty-F Ty → Ty-F Ty → Bool
are_null_tests (Ty-F.Rec ms) Ty-F.Null = true
are_null_tests (Ty-F.Group k t) Ty-F.Null = true
are_null_tests Ty-F.Null (Ty-F.Rec ms) = true
are_null_tests Ty-F.Null (Ty-F.Group k t) = true
are_null_tests s t = false

abbrev pub type_of_operation : Binary → Ty-F Ty → Ty-F Ty → Option Ty
type_of_operation op s t = if is_equality op && are_null_tests s t then Some ty.Bool else operated_type op s t

-- a choice between records of one type, or a record and null
abbrev pub type_of_choice : Ty-F Ty → Ty-F Ty → Option Ty
type_of_choice (Ty-F.Rec ms) (Ty-F.Rec ns) = when (same_types (ty.Rec ms) (ty.Rec ns)) (Some (ty.Rec ms))
type_of_choice (Ty-F.Rec ms) Ty-F.Null = Some (ty.Rec ms)
type_of_choice Ty-F.Null (Ty-F.Rec ms) = Some (ty.Rec ms)
type_of_choice s t = choice_type_of_layers s t

abbrev pub type_of_conditional : Bool → Option Ty → Option Ty → Option Ty
type_of_conditional true s t = of_operands type_of_choice s t
type_of_conditional false s t = None

-- whether a name is none of these
abbrev pub is_new : List ℕ → List (List ℕ) → Bool
is_new n [] = true
is_new n (other ∷ others) = not (bytes_eq n other) && is_new n others

abbrev pub are_distinct : List (List ℕ) → Bool
are_distinct [] = true
are_distinct (n ∷ ns) = is_new n ns && are_distinct ns

-- ---- methods of sequences

-- types that have a default: all but groups and sequences
abbrev pub has_default : Ty-F Ty → Bool
has_default (Ty-F.Seq t) = false
has_default (Ty-F.Group k t) = false
has_default layer = true

-- types that may be null
abbrev pub takes_null : Ty-F Ty → Bool
takes_null Ty-F.IntN = true
takes_null Ty-F.Str = true
takes_null (Ty-F.Row n) = true
takes_null (Ty-F.Rec ms) = true
takes_null layer = false

-- whether the first type widens to the second: int to int?, and null to any type that may be null
abbrev pub widens : Ty-F Ty → Ty-F Ty → Bool
widens Ty-F.Int Ty-F.IntN = true
widens Ty-F.Null t = takes_null t
widens s t = false

abbrev pub converts : Ty → Ty → Bool
converts s t = same_types s t || widens (out-Ty s) (out-Ty t)

-- a method without an argument, on items of this type
abbrev pub simple_type : Simple → Ty → Option Ty
simple_type of.Distinct t = when (is_key t) (Some (ty.Seq t))
simple_type of.Reverse t = Some (ty.Seq t)
simple_type of.DefaultIfEmpty t = when (has_default (out-Ty t)) (Some (ty.Seq t))
simple_type of.Any t = Some ty.Bool
simple_type of.Count t = Some ty.Int
simple_type of.First t = Some t
simple_type of.FirstOrDefault t = when (has_default (out-Ty t)) (Some t)
simple_type of.Last t = Some t
simple_type of.Single t = Some t
simple_type of.SingleOrDefault t = when (has_default (out-Ty t)) (Some t)
simple_type of.Sum t = when (is_number (out-Ty t)) (Some t)
simple_type of.Min t = when (is_number (out-Ty t)) (Some t)
simple_type of.Max t = when (is_number (out-Ty t)) (Some t)

-- items of one type in both sequences; and of a key type, where they are compared
abbrev pub if_same : Ty → Option Ty → Option Ty
if_same t second = option_and_then (λ u. option_and_then (λ s. when (same_types t s) (Some (ty.Seq t))) (element_type (out-Ty u))) second

abbrev pub if_same_keys : Ty → Option Ty → Option Ty
if_same_keys t second = when (is_key t) (if_same t second)

abbrev pub if_int : Option Ty → Ty → Option Ty
if_int number t = option_and_then (λ n. when (is_int (out-Ty n)) (Some t)) number

-- a method on items of the first type, with an argument of the second
abbrev pub given_type : Given → Ty → Option Ty → Option Ty
given_type of.Concat t second = if_same t second
given_type of.Union t second = if_same_keys t second
given_type of.Intersect t second = if_same_keys t second
given_type of.Except t second = if_same_keys t second
given_type of.Skip t number = if_int number (ty.Seq t)
given_type of.Take t number = if_int number (ty.Seq t)
given_type of.ElementAt t number = if_int number t
given_type of.Contains t value = when (is_key t) (option_and_then (λ v. when (converts v t) (Some ty.Bool)) value)

-- a method on items of this type, with a lambda whose body has the second one
abbrev pub through_type : Through → Ty → Option Ty → Option Ty
through_type of.Where t body = when (is_bool_type body) (Some (ty.Seq t))
through_type of.Select t body = option_map ty.Seq (if_placed body)
through_type of.All t body = when (is_bool_type body) (Some ty.Bool)
through_type (of.Those method) t body = when (is_bool_type body) (simple_type method t)
through_type (of.Values method) t body = option_and_then (simple_type method) body

module _ {X : Type 0} (typed : X → Names → Option Ty) where
  -- the type of a lambda's body, whose parameter repeats no local name in scope
  abbrev pub lambda_type : Names → Ty → List ℕ → X → Option Ty
  lambda_type names t n body = fresh_type names n (typed body (with_local names n t))

  -- a method on items of this type
  abbrev pub enumerable_type : Names → Ty → EnumerableCall X → Option Ty
  enumerable_type names t (Plain method) = simple_type method t
  enumerable_type names t (With method x) = given_type method t (typed x names)
  enumerable_type names t (By method n body) = through_type method t (lambda_type names t n body)

  -- the type of an argument that is there
  abbrev pub argument_type : Names → Option X → Option Ty
  argument_type names None = None
  argument_type names (Some x) = typed x names

  -- a search in a text
  abbrev pub search_type : List ℕ → List (Argument X) → Names → Option Ty
  search_type m arguments names = truth_type (is_search m && is_text_type (argument_type names (sole_argument arguments)))

  -- a method of a sequence or group
  abbrev pub called_type : Option Ty → Option (EnumerableCall X) → Names → Option Ty
  called_type source call names =
      if_limited (option_and_then (λ s. option_and_then (λ t. option_and_then (enumerable_type names t) call) (element_type (out-Ty s))) source)

  -- a method of a text, or of what is enumerated
  abbrev pub method_type : X → List ℕ → List (Argument X) → Names → Option Ty
  method_type a m arguments names =
      if is_text_type (typed a names) then search_type m arguments names else called_type (typed a names) (enumerable_call m arguments) names

  -- ---- records

  -- the members of a record, which are of any type but null
  abbrev pub members_type : List (Field X) → Names → Option (List (List ℕ × Ty))
  members_type [] names = Some []
  members_type (field ∷ fields) names =
      option_and_then (λ t. option_map (λ members. (field.name, t) ∷ members) (members_type fields names)) (if_placed (typed field.value names))

  abbrev pub record_type : List (Field X) → Names → Option Ty
  record_type fields names = when (are_distinct (map (λ field. field.name) fields)) (if_limited (option_map ty.Rec (members_type fields names)))

-- ---- forms

-- a table's type, else that of a name of the session; no table has the name of one
abbrev pub global_type : Names → List ℕ → Option ℕ → Option Ty
global_type names x (Some n) = Some (ty.Seq (ty.Row n))
global_type names x None = option_map (λ known. known.ty) (session_name x names.session)

-- a local name's type, else what its name refers to outside
abbrev pub type_of_name : Names → List ℕ → Option Ty → Option Ty
type_of_name names x (Some t) = Some t
type_of_name names x None = global_type names x (table_number x names.tables)

-- the type of a form; a form without a clause of its own here has the type that `RuleTyping` gives it
abbrev pub node_type : Node (Names → Option Ty) → Names → Option Ty
node_type (node.Name x) names = type_of_name names x (local_type x names.locals)
node_type (node.Member a m) names = option_and_then (λ t. type_of_member names m (out-Ty t)) (a names)
node_type (node.Method a m arguments) names = method_type (λ typed. typed) a m arguments names
node_type (node.Binary op a b) names = of_operands (type_of_operation op) (a names) (b names)
node_type (node.Conditional c a b) names = type_of_conditional (is_bool_type (c names)) (a names) (b names)
node_type (node.New fields) names = record_type (λ typed. typed) fields names
node_type n names = rule_node_type n names
