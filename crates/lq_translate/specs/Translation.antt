-- The translation of a query to operator calls, a rule a clause (ECMA-334, query expression translation). `is_name` says whether an
-- expression is nothing but this name.
use Rattle.std.specs.Prelude.{◌∷◌, ◌&&◌, if◌then◌else◌, not, List, [], map, ℕ, Bool, true, false, Option, Some, None}
use Rattle.lq_language.specs.declared.calls.Call.{Call}
use Rattle.lq_language.specs.declared.calls.Operator.{Operator}
use Rattle.lq_language.specs.declared.calls.Operator.TheVariants as operator
use Rattle.lq_language.specs.declared.calls.Paired.{Paired}
use Rattle.lq_language.specs.declared.calls.Paired.TheVariants as paired
use Rattle.lq_language.specs.declared.calls.Part.{Part}
use Rattle.lq_grammar.specs.declared.syntax.Body.{Body}
use Rattle.lq_grammar.specs.declared.syntax.Clause.{Clause}
use Rattle.lq_grammar.specs.declared.syntax.Clause.TheVariants as clause
use Rattle.lq_grammar.specs.declared.syntax.Continuation.{Continuation}
use Rattle.lq_grammar.specs.declared.syntax.Last.{Last}
use Rattle.lq_grammar.specs.declared.syntax.Last.TheVariants as last
use Rattle.lq_grammar.specs.declared.syntax.Query.{Query}

module _ {X : Type 0} where
  -- the call of a clause; where it pairs items, with what comes of each pair
  abbrev pub clause_operator : Clause X → Paired X → Operator X
  clause_operator (clause.From n f) result = operator.SelectMany n f result
  clause_operator (clause.Let n f) result = operator.Let n f
  clause_operator (clause.Where c) result = operator.Where c
  clause_operator (clause.Join j) result = operator.Join j result
  clause_operator (clause.OrderBy ks) result = operator.OrderBy ks

  -- whether a clause's call takes a result for each pair
  abbrev pub has_result : Clause X → Bool
  has_result (clause.From n f) = true
  has_result (clause.Join j) = true
  has_result c = false

  -- whether a clause brings a range variable in
  abbrev pub widens : Clause X → Bool
  widens (clause.Where c) = false
  widens (clause.OrderBy ks) = false
  widens c = true

  abbrev pub paired_operator : Clause X → Operator X
  paired_operator c = clause_operator c paired.Pair

  -- whether there is one range variable after clauses where there was one before them
  abbrev pub keeps_sole : List (Clause X) → Bool
  keeps_sole [] = true
  keeps_sole (c ∷ cs) = if widens c then false else keeps_sole cs

  -- the value of a `select` that follows at once, before any other clause
  abbrev pub selected_at_once : List (Clause X) → Last X → Option X
  selected_at_once [] (last.Select v) = Some v
  selected_at_once cs l = None

  -- a value that a clause's call produces itself
  abbrev pub fused_value : Clause X → List (Clause X) → Last X → Option X
  fused_value c cs l = if has_result c then selected_at_once cs l else None

  -- the call of a clause, and the calls after it where its own doesn't produce the value already
  abbrev pub with_clause : Option X → Clause X → List (Operator X) → List (Operator X)
  with_clause (Some v) c rest = clause_operator c (paired.Value v) ∷ []
  with_clause None c rest = clause_operator c paired.Pair ∷ rest

module _ {X : Type 0} (is_name : X → List ℕ → Bool) where
  -- whether a value is the range variable, where this is the one range variable
  abbrev pub is_sole : Bool → List ℕ → X → Bool
  is_sole sole n v = sole && is_name v n

  -- The range variable alone needs no call where another clause's call comes before; nor is it an element of its own for GroupBy.
  abbrev pub last_operators : List ℕ → Bool → Bool → Last X → List (Operator X)
  last_operators n used sole (last.Select v) = if used && is_sole sole n v then [] else operator.Select v ∷ []
  last_operators n used sole (last.Group v key) = operator.GroupBy key (if is_sole sole n v then None else Some v) ∷ []

  -- The calls of a body over this range variable: `used` where a call comes before, `sole` while it is the one range variable.
  abbrev pub operators_of : List ℕ → Bool → Bool → List (Clause X) → Last X → List (Operator X)
  operators_of n used sole [] l = last_operators n used sole l
  operators_of n used sole (c ∷ cs) l = with_clause (fused_value c cs l) c (operators_of n true (sole && not (widens c)) cs l)

  abbrev pub body_operators : List ℕ → Body X → List (Operator X)
  body_operators n body = operators_of n false true body.clauses body.last

  abbrev pub part_of : Continuation X → Part X
  part_of next = record { name = next.name; operators = body_operators next.name next.body }

  -- the calls that a query is translated to
  unfoldable pub call_of : Query X → Call X
  call_of q = record { name = q.name; source = q.source; operators = body_operators q.name q.body; rest = map part_of q.rest }
