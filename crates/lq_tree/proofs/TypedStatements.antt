-- The places of a statement are typed: a variable's form is a literal of its type, and a named query's the tree of its expression.
use Rattle.std.proofs.Common.{◌∷◌, ◌++◌, List, [], length, ℕ, Option, ap, sym, refl, subst}
use Rattle.lq_value.specs.declared.table.Schema.{Schema}
use Rattle.lq_value.specs.declared.ty.Ty.{Ty}
use Rattle.lq_value.specs.declared.ty.Ty.TheVariants as ty
use Rattle.lq_machine.specs.DefinitionLaws.{IsDefined}
use Rattle.lq_machine.specs.Definitions.{known_as}
use Rattle.lq_language.specs.Worlds.{or_null}
use Rattle.lq_language.specs.Operators.{One}
use Rattle.lq_language.specs.ValuesOfTypes.{Every}
use Rattle.lq_language.specs.declared.host_name.HostName.{HostName}
use Rattle.lq_machine.specs.declared.session.Defined.{Defined}
use Rattle.lq_machine.specs.declared.session.Defined.TheVariants as of
use Rattle.lq_language.proofs.ItemLaws.{every_none}
use Rattle.lq_tree.specs.Binding.{tree_of}
use Rattle.lq_tree.specs.Places.{Place, SessionPlace}
use Rattle.lq_tree.specs.SessionPlaces.{condition_places, defined_form, form_or_null, known_of, places_outside, session_places, statement_places}
use Rattle.lq_tree.specs.TypedForms.{IsTypedForm, Of, Shape}
use Rattle.lq_tree.specs.TypedForms as rule
use Rattle.lq_tree.specs.TypedFormLaws.{PlacesAreTyped, TypedConditions, TypedStatements}
use Rattle.lq_tree.specs.declared.tree.Tree.{Tree}
use Rattle.lq_tree.proofs.SessionPlaceLaws.{every_placed, query_tree}
use Rattle.lq_tree.proofs.TypedNodes.{item_typed}
use Rattle.lq_tree.proofs.TypedTerms.{typed_expressions}

module _ (schemas : List Schema) (predicates : List HostName) where
  -- the form is of the type that is known, in any slots
  abbrev IsTypedPlace : SessionPlace → Type 0
  IsTypedPlace place = (slots : List Shape) → IsTypedForm schemas slots (place.form (length slots)) (Of place.known.ty)

  defined_typed : (earlier : List SessionPlace) → Every IsTypedPlace earlier → (name : List ℕ) (defined : Defined) → IsDefined schemas predicates (known_of earlier) defined
      → (slots : List Shape)
      → IsTypedForm schemas slots (defined_form schemas predicates earlier defined (length slots)) (Of (known_as schemas predicates (known_of earlier) name defined).ty)
  defined_typed earlier all name (of.Variable t s) is slots = rule.of_literal slots s t is.1
  defined_typed earlier all name (of.Query e opened) is slots =
      let there = query_tree schemas predicates earlier e (ty.Seq is.0) is.1 (length slots) in
      subst (λ (t : Ty). IsTypedForm schemas slots (defined_form schemas predicates earlier (of.Query e opened) (length slots)) (Of t)) (sym (ap or_null is.1))
      (subst (λ (o : Option Tree). IsTypedForm schemas slots (form_or_null o) (Of (ty.Seq is.0))) (sym there.1)
      (typed_expressions schemas e (places_outside predicates earlier (length slots)) slots
      (record { depth = refl; locals = every_none (λ (place : Place). (more : List Shape) → IsTypedForm schemas (slots ++ more) place.form (Of place.ty)); session = all })
      (tree_of (ty.Seq is.0) there.0) there.1))

pub places_are_typed : PlacesAreTyped
unfolding session_places
places_are_typed schemas predicates definitions all = record {
  depth = refl;
  locals = every_none (λ (place : Place). (more : List Shape) → IsTypedForm schemas ([] ++ more) place.form (Of place.ty));
  session = every_placed schemas predicates (IsTypedPlace schemas predicates)
      (λ earlier typed d is. defined_typed schemas predicates earlier typed d.name d.defined is) [] (every_none (IsTypedPlace schemas predicates)) definitions all;
}

pub typed_statements : TypedStatements
typed_statements schemas predicates definitions all e tree bound =
    typed_expressions schemas e (statement_places schemas predicates definitions) [] (places_are_typed schemas predicates definitions all) tree bound

pub typed_conditions : TypedConditions
typed_conditions schemas predicates definitions all x n e tree bound =
    typed_expressions schemas e (condition_places schemas predicates definitions x n) (Of (ty.Row n) ∷ [])
    (item_typed schemas [] (statement_places schemas predicates definitions) (One x (ty.Row n)) (places_are_typed schemas predicates definitions all)) tree bound
