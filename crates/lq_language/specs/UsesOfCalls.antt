-- «Uses» of the calls that clauses are translated to: the same list as the text's, a group's element before its key.
use Rattle.std.specs.Prelude.{◌∷◌, ◌++◌, List, [], flat_map, ℕ, Option, Some, None}
use Rattle.lq_value.specs.declared.ty.Ty.{Ty}
use Rattle.lq_language.specs.ClauseTyping.{from_type, join_type, joined_name, source_type}
use Rattle.lq_language.specs.Operators.{Pattern, With, names_of, operators_items, pattern_after, sole_pattern}
use Rattle.lq_language.specs.Terms.{term_type}
use Rattle.lq_language.specs.Mentions.{Mention}
use Rattle.lq_language.specs.Names.{Names, with_local}
use Rattle.lq_language.specs.Uses.{node_uses, under}
use Rattle.lq_language.specs.declared.calls.Call.{Call}
use Rattle.lq_language.specs.declared.calls.Operator.{Operator}
use Rattle.lq_language.specs.declared.calls.Operator.TheVariants as operator
use Rattle.lq_language.specs.declared.calls.Paired.{Paired}
use Rattle.lq_language.specs.declared.calls.Paired.TheVariants as paired
use Rattle.lq_language.specs.declared.calls.Part.{Part}
use Rattle.lq_language.specs.declared.calls.Term.{Term, para-Term}
use Rattle.lq_language.specs.declared.calls.Term.TheOpen.{Term-F}
use Rattle.lq_grammar.specs.declared.syntax.Join.{Join}

module _ {X : Type 0} (typed : X → Names → Option Ty) (uses : X → Names → List Mention) where
  -- what is made of a pair of an item and the value of one more name
  abbrev pub paired_uses : Names → Pattern → List ℕ → Paired X → Ty → List Mention
  paired_uses outer p n paired.Pair t = []
  paired_uses outer p n (paired.Value v) t = uses v (names_of outer (With p n t))

  -- a group's elements, which are the items where there are no others
  abbrev pub element_uses : Names → Option X → List Mention
  element_uses names None = []
  element_uses names (Some v) = uses v names

  -- the two sources and keys of a join
  abbrev pub join_uses : Names → Join X → Names → List Mention
  join_uses outer j names =
      uses j.source outer ++ (uses j.outer_key names ++ under (source_type typed j.source outer) (λ t. uses j.inner_key (with_local outer j.name t)))

  -- a call on items whose names refer to this
  abbrev pub operator_uses : Names → Operator X → Pattern → List Mention
  operator_uses outer (operator.Where c) p = uses c (names_of outer p)
  operator_uses outer (operator.Select v) p = uses v (names_of outer p)
  operator_uses outer (operator.Let n f) p = uses f (names_of outer p)
  operator_uses outer (operator.SelectMany n f result) p =
      uses f (names_of outer p) ++ under (from_type typed n f (names_of outer p)) (paired_uses outer p n result)
  operator_uses outer (operator.Join j result) p =
      join_uses outer j (names_of outer p) ++ under (join_type typed outer j (names_of outer p)) (paired_uses outer p (joined_name j) result)
  operator_uses outer (operator.OrderBy ks) p = flat_map (λ k. uses k.value (names_of outer p)) ks
  operator_uses outer (operator.GroupBy key element) p = element_uses (names_of outer p) element ++ uses key (names_of outer p)

  abbrev pub operators_uses : Names → List (Operator X) → Pattern → List Mention
  operators_uses outer [] p = []
  operators_uses outer (op ∷ ops) p = operator_uses outer op p ++ under (pattern_after typed outer op p) (operators_uses outer ops)

  -- the calls of what follows by `into`, on items of this type
  abbrev pub parts_uses : Names → List (Part X) → Ty → List Mention
  parts_uses outer [] t = []
  parts_uses outer (part ∷ rest) t =
      under (sole_pattern typed outer part.name t)
      (λ p. operators_uses outer part.operators p ++ under (operators_items typed outer part.operators p) (parts_uses outer rest))

  -- the calls that a query is translated to
  unfoldable pub call_uses : Call X → Names → List Mention
  call_uses c outer =
      uses c.source outer
      ++ under (source_type typed c.source outer)
      (λ t. under (sole_pattern typed outer c.name t)
      (λ p. operators_uses outer c.operators p ++ under (operators_items typed outer c.operators p) (parts_uses outer c.rest)))

-- a term with what it uses
abbrev pub UsedTerm : Type 0
UsedTerm = Term × (Names → List Mention)

abbrev pub term_uses_step : Term-F UsedTerm → Names → List Mention
term_uses_step (Term-F.Node n) names = node_uses (λ x. term_type x.0) (λ x. x.1) n names
term_uses_step (Term-F.Call c) names = call_uses (λ x. term_type x.0) (λ x. x.1) c names

-- the tables, columns and host predicates that a term names
unfoldable pub term_uses : Term → Names → List Mention
term_uses = para-Term (Names → List Mention) term_uses_step
