-- Trees of conditions on rows and of the calls of queries, among the names of a session: their types, meanings and uses.
use Rattle.std.proofs.Common.{◌≡◌, ◌∙◌, ◌∷◌, List, [], ℕ, Ok, ap, option_map, refl, subst, sym}
use Rattle.lq_value.specs.declared.table.Schema.{Schema}
use Rattle.lq_value.specs.declared.ty.Ty.TheVariants as ty
use Rattle.lq_value.specs.declared.ty.Ty.TheVariants.{outs-Row}
use Rattle.lq_value.specs.declared.value.Value.TheVariants as value
use Rattle.lq_language.specs.ClauseTyping.{expression_type}
use Rattle.lq_machine.specs.DefinitionLaws.{AreDefined}
use Rattle.lq_machine.specs.Definitions.{defining, known_names, outer_names, with_session}
use Rattle.lq_language.specs.Worlds.{Binding, World, bound, known_predicates}
use Rattle.lq_language.specs.OperandMeaning.{sequence}
use Rattle.lq_language.specs.ValuesOfTypes.{HoldsRows}
use Rattle.lq_language.specs.Operators.{One, call_items, call_meaning}
use Rattle.lq_language.specs.Terms.{term_meaning, term_type}
use Rattle.lq_language.specs.Names.{Names, with_local}
use Rattle.lq_language.specs.declared.host_name.HostName.{HostName}
use Rattle.lq_language.specs.Uses.{expression_uses}
use Rattle.lq_language.specs.UsesOfCalls.{call_uses, term_uses}
use Rattle.lq_language.specs.Meaning.{expression_meaning}
use Rattle.lq_language.specs.MeaningLaws.{IsSessionOfValues, IsValueOf, by_row}
use Rattle.lq_machine.specs.declared.session.Definition.{Definition}
use Rattle.lq_machine.proofs.DefinitionLaws.{names_have_values}
use Rattle.lq_language.proofs.ItemLaws.{every_none}
use Rattle.lq_translate.specs.Translated.{translated}
use Rattle.lq_translate.proofs.AlikeTermLaws.{terms_mean, terms_typed}
use Rattle.lq_tree.specs.BindingLaws.{GivesAll}
use Rattle.lq_tree.specs.Places.{names_of_places}
use Rattle.lq_tree.specs.SessionLaws.{MeaningsOfConditions, MeaningsOfStatementCalls, TypesOfConditions, TypesOfStatementCalls, UsesOfConditions, UsesOfStatementCalls}
use Rattle.lq_tree.specs.SessionPlaces.{condition_places, statement_places}
use Rattle.lq_tree.proofs.NodeUseLaws.{item_unused}
use Rattle.lq_tree.proofs.ScopeLaws.{Stands, item_stands}
use Rattle.lq_tree.proofs.SessionPlaceLaws.{places_use, statement_names}
use Rattle.lq_tree.proofs.SessionValueLaws.{defines_names_alone, means_without, places_give}
use Rattle.lq_tree.proofs.TermMeanLaws.{call_meanings_same, meanings_same}
use Rattle.lq_tree.proofs.TermTypeLaws.{call_types_same, types_same}
use Rattle.lq_tree.proofs.TermUseLaws.{call_uses_same, expression_uses_same}

-- where a statement is, after its definitions
module _ {R : Type 0} (world : World R) (ds : List Definition) (holds : HoldsRows world) (none : world.session ≡ []) (all : AreDefined world.schemas (known_predicates world.predicates) ds) where
  abbrev here : World R
  here = with_session world (defining world ds).session

  values_here : IsSessionOfValues here
  values_here = subst (λ (w : World R). IsSessionOfValues w) (defines_names_alone world ds) (names_have_values world ds holds none all)

  stands_here : Stands here [] (statement_places world.schemas (known_predicates world.predicates) ds) []
  stands_here = (
    every_none (λ (b : Binding R). IsValueOf here b.ty b.value),
    (
      refl,
      tt,
      subst (λ (w : World R). GivesAll w (statement_places world.schemas (known_predicates world.predicates) ds).session (defining world ds).session) (defines_names_alone world ds)
          (places_give world ds holds none all),
      refl,
    ),
  )

-- ---- conditions

-- what names say at the places of a condition
condition_names : (schemas : List Schema) (predicates : List HostName) (ds : List Definition) (x : List ℕ) (n : ℕ)
    → names_of_places schemas (condition_places schemas predicates ds x n) ≡ with_local (outer_names schemas predicates (known_names schemas predicates ds)) x (ty.Row n)
condition_names schemas predicates ds x n = ap (λ (names : Names). with_local names x (ty.Row n)) (statement_names schemas predicates ds)

pub types_of_conditions : TypesOfConditions
types_of_conditions schemas predicates ds x n e =
    types_same schemas (translated e) (condition_places schemas predicates ds x n)
    ∙ terms_typed e (names_of_places schemas (condition_places schemas predicates ds x n)) ∙ ap (expression_type e) (condition_names schemas predicates ds x n)

pub meanings_of_conditions : {R : Type 0} → MeaningsOfConditions R
meanings_of_conditions {R} world ds holds none all x n e tree found row cells =
    let now = here world ds holds none all in
    let scope = bound x (ty.Row n) [] (value.Row row) in
    let at = item_stands now [] (statement_places world.schemas (known_predicates world.predicates) ds) [] (One x (ty.Row n)) (value.Row row) (stands_here world ds holds none all)
    (by_row (ty.Row n) n row (outs-Row n) cells) in
    sym (means_without world (defining world ds).session tree.form (value.Row row ∷ []))
    ∙ (meanings_same now holds (values_here world ds holds none all) (translated e) (condition_places world.schemas (known_predicates world.predicates) ds x n) (value.Row row ∷ []) scope
    at.0 at.1 tree found).0
    ∙ terms_mean now e scope
    ∙ ap (λ (w : World R). expression_meaning w e scope) (sym (defines_names_alone world ds))

pub uses_of_conditions : UsesOfConditions
uses_of_conditions schemas predicates ds all x n e tree found =
    expression_uses_same schemas e (condition_places schemas predicates ds x n) (item_unused (statement_places schemas predicates ds) (One x (ty.Row n)) (places_use schemas predicates ds all)) tree
    found
    ∙ ap (expression_uses e) (condition_names schemas predicates ds x n)

-- ---- calls

pub types_of_calls : TypesOfStatementCalls
types_of_calls schemas predicates ds c =
    call_types_same schemas c (statement_places schemas predicates ds) ∙ ap (λ (names : Names). option_map ty.Seq (call_items term_type c names)) (statement_names schemas predicates ds)

pub meanings_of_calls : {R : Type 0} → MeaningsOfStatementCalls R
meanings_of_calls {R} world ds holds none all c tree found =
    let now = here world ds holds none all in
    let at = stands_here world ds holds none all in
    sym (means_without world (defining world ds).session tree.form [])
    ∙ (call_meanings_same now holds (values_here world ds holds none all) c (statement_places world.schemas (known_predicates world.predicates) ds) [] [] at.0 at.1 tree found).0
    ∙ ap (λ (w : World R). Ok (sequence (call_meaning w term_type (term_meaning w) c []))) (sym (defines_names_alone world ds))

pub uses_of_calls : UsesOfStatementCalls
uses_of_calls schemas predicates ds all c tree found =
    call_uses_same schemas c (statement_places schemas predicates ds) (places_use schemas predicates ds all) tree found ∙ ap (call_uses term_type term_uses c) (statement_names schemas predicates ds)
