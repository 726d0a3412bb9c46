-- The forms of a session's names give the values that these refer to.
use Rattle.std.proofs.Common.{◌≡◌, ◌∷◌, ◌++◌, List, [], map, ℕ, zero, suc, take, Option, Some, Result, Ok, Err, ap, ◌∙◌, sym, refl, subst, length}
use Rattle.std.proofs.lemmas.List.{map-append, map-id}
use Rattle.lq_value.specs.declared.table.Schema.{Schema}
use Rattle.lq_value.specs.declared.ty.Ty.{Ty}
use Rattle.lq_value.specs.declared.ty.Ty.TheVariants as ty
use Rattle.lq_value.specs.declared.value.Fault.{Fault}
use Rattle.lq_value.specs.declared.value.Value.{Value}
use Rattle.lq_value.specs.declared.value.Value.TheVariants.{outs-Seq}
use Rattle.lq_language.specs.ClauseTyping.{expression_type}
use Rattle.lq_machine.specs.DefinitionLaws.{AreDefinedAfter, IsDefined}
use Rattle.lq_machine.specs.Definitions.{defining, known_as, outer_names, value_in, valued_as, with_session, world_after}
use Rattle.lq_language.specs.Worlds.{Binding, SessionValue, World, known_predicates, session_names}
use Rattle.lq_language.specs.OperandMeaning.{items_of, sequence, stream_of}
use Rattle.lq_language.specs.ValuesOfTypes.{HoldsRows}
use Rattle.lq_language.specs.Stream.{Stream}
use Rattle.lq_language.specs.Names.{SessionName}
use Rattle.lq_language.specs.declared.host_name.HostName.{HostName}
use Rattle.lq_language.specs.Meaning.{expression_meaning}
use Rattle.lq_language.specs.MeaningLaws.{IsSessionOfValues, IsValueOf}
use Rattle.lq_machine.specs.declared.session.Defined.{Defined}
use Rattle.lq_machine.specs.declared.session.Defined.TheVariants as of
use Rattle.lq_machine.specs.declared.session.Definition.{Definition}
use Rattle.lq_grammar.specs.declared.syntax.Expr.{Expr}
use Rattle.lq_machine.proofs.DefinitionLaws.{names_have_values}
use Rattle.lq_language.proofs.ItemLaws.{every_none}
use Rattle.lq_language.proofs.SequenceLaws.{never_faults}
use Rattle.lq_translate.specs.Translated.{translated}
use Rattle.lq_translate.proofs.AlikeTermLaws.{terms_mean}
use Rattle.lq_tree.specs.Binding.{term_tree}
use Rattle.lq_tree.specs.BindingLaws.{Gives, GivesAll}
use Rattle.lq_tree.specs.FormMeaning.{Slots, form_meaning}
use Rattle.lq_tree.specs.Places.{SessionPlace}
use Rattle.lq_tree.specs.Rows.{OverRows, mapped, result_map}
use Rattle.lq_tree.specs.SessionLaws.{MeaningsOfStatements, PlacesGive, ReadsNoSession}
use Rattle.lq_tree.specs.SessionPlaces.{defined_form, form_or_null, placed_after, placed_as, places_outside, session_places, statement_places}
use Rattle.lq_tree.specs.declared.tree.Form.{Form}
use Rattle.lq_tree.specs.declared.tree.Form.TheVariants as form
use Rattle.lq_tree.specs.declared.tree.Tree.{Tree}
use Rattle.lq_tree.proofs.FormSteps.{meaning_at}
use Rattle.lq_tree.proofs.MappedValueLaws.{mapped_same}
use Rattle.lq_tree.proofs.RowFormLaws.{means_alike}
use Rattle.lq_tree.proofs.ScopeLaws.{session_same}
use Rattle.lq_tree.proofs.TermMeanLaws.{expressions_bound, meanings_same}

-- ---- no form reads what the names of the session refer to

module _ {R : Type 0} (world : World R) (session : List (SessionValue R)) where
  -- each row represents itself
  same_rows : OverRows (λ r. r) world (with_session world session)
  same_rows = record {
    schemas = refl;
    rows = sym ((λ i. map (λ rows. map-id rows i) world.rows) ∙ map-id world.rows);
    cells = λ r column. refl;
    tables = λ r. refl;
    predicates = refl;
    unknown = refl;
  }

  values_stay : (vs : List (Value R)) → map (mapped (λ r. r)) vs ≡ vs
  values_stay vs = (λ i. map (λ v. mapped_same v i) vs) ∙ map-id vs

  result_stays : (found : Result (Value R) Fault) → result_map (mapped (λ r. r)) found ≡ found
  result_stays (Ok v) = ap Ok (mapped_same v)
  result_stays (Err e) = refl

  pub means_without : (f : Form) (slots : Slots R) → form_meaning (with_session world session) f slots ≡ form_meaning world f slots
  means_without f slots =
      sym (ap (form_meaning (with_session world session) f) (values_stay slots))
      ∙ means_alike (λ r. r) world (with_session world session) same_rows f slots ∙ result_stays (form_meaning world f slots)

pub reads_no_session : {R : Type 0} → ReadsNoSession R
reads_no_session world session f slots = means_without world session f slots

-- ---- values

module _ {R : Type 0} where
  gives_still : (world : World R) (session : List (SessionValue R)) (places : List SessionPlace) (values : List (SessionValue R))
      → GivesAll world places values → GivesAll (with_session world session) places values
  gives_still world session [] [] gives = tt
  gives_still world session (place ∷ places) (s ∷ values) gives = (
    (gives.0.0, λ slots. means_without world session (place.form (length slots)) slots ∙ gives.0.1 slots),
    gives_still world session places values gives.1,
  )
  gives_still world session [] (s ∷ values) gives = absurd gives
  gives_still world session (place ∷ places) [] gives = absurd gives

  gives_more : (world : World R) (places : List SessionPlace) (values : List (SessionValue R)) (place : SessionPlace) (s : SessionValue R)
      → GivesAll world places values → Gives world place s → GivesAll world (places ++ place ∷ []) (values ++ s ∷ [])
  gives_more world [] [] place s gives last = (last, tt)
  gives_more world (p ∷ places) (v ∷ values) place s gives last = (gives.0, gives_more world places values place s gives.1 last)
  gives_more world [] (v ∷ values) place s gives last = absurd gives
  gives_more world (p ∷ places) [] place s gives last = absurd gives

  module _ (world : World R) (holds : HoldsRows world) (kept : IsSessionOfValues world) (earlier : List SessionPlace)
      (gives : GivesAll world earlier world.session) where
    -- the tree of a named query gives the sequence of its stream
    query_gives : (e : Expr) (item : Ty) → expression_type e (outer_names world.schemas (known_predicates world.predicates) (session_names world.session)) ≡ Some (ty.Seq item) → (slots : Slots R)
        → form_meaning world (form_or_null (term_tree world.schemas (translated e) (places_outside (known_predicates world.predicates) earlier (length slots)))) slots
        ≡ Ok (sequence (stream_of world (expression_meaning world e [])))
    query_gives e item typed slots =
        let values = every_none (λ (b : Binding R). IsValueOf world b.ty b.value) in
        let bound = expressions_bound world holds kept e (places_outside (known_predicates world.predicates) earlier (length slots)) slots [] values (refl, tt, gives, refl) (ty.Seq item) typed in
        let there = never_faults world holds kept [] values e item typed world.unknown in
        ap (λ (o : Option Tree). form_meaning world (form_or_null o) slots) bound.1
        ∙ bound.2 ∙ there.1
        ∙ ap (λ (s : Stream (Value R)). Ok (sequence s)) (sym (ap (items_of world) (outs-Seq there.0.0 there.0.1)))
        ∙ ap (λ (m : Result (Value R) Fault). Ok (sequence (stream_of world m))) (sym there.1)

    defined_gives : (defined : Defined) → IsDefined world.schemas (known_predicates world.predicates) (session_names world.session) defined → (slots : Slots R)
        → form_meaning world (defined_form world.schemas (known_predicates world.predicates) earlier defined (length slots)) slots ≡ Ok (value_in world defined)
    defined_gives (of.Variable t s) is slots = meaning_at world slots _ (form.outs-Literal s)
    defined_gives (of.Query e opened) is slots = query_gives e is.0 is.1 slots

    -- one name more
    place_gives : (d : Definition) → IsDefined world.schemas (known_predicates world.predicates) (session_names world.session) d.defined
        → Gives (with_session world (world.session ++ valued_as world d.name d.defined ∷ [])) (placed_as world.schemas (known_predicates world.predicates) earlier d)
        (valued_as world d.name d.defined)
    place_gives d is = (
      ap (λ (names : List SessionName). known_as world.schemas (known_predicates world.predicates) names d.name d.defined) (sym (session_same world earlier world.session gives)),
      λ slots. means_without world (world.session ++ valued_as world d.name d.defined ∷ []) (defined_form world.schemas (known_predicates world.predicates) earlier d.defined (length slots)) slots
          ∙ defined_gives d.defined is slots,
    )

    all_give : (d : Definition) → IsDefined world.schemas (known_predicates world.predicates) (session_names world.session) d.defined
        → GivesAll (with_session world (world.session ++ valued_as world d.name d.defined ∷ [])) (earlier ++ placed_as world.schemas (known_predicates world.predicates) earlier d ∷ [])
        (world.session ++ valued_as world d.name d.defined ∷ [])
    all_give d is =
        let session = world.session ++ valued_as world d.name d.defined ∷ [] in
        gives_more (with_session world session) earlier world.session (placed_as world.schemas (known_predicates world.predicates) earlier d) (valued_as world d.name d.defined)
        (gives_still world session earlier world.session gives) (place_gives d is)

  -- what is given after definitions, where the names have values of their types after each of these
  gives_behind : (world : World R) → HoldsRows world → (earlier : List SessionPlace) → GivesAll world earlier world.session → (ds : List Definition)
      → ((n : ℕ) → IsSessionOfValues (world_after world (take n ds))) → AreDefinedAfter world.schemas (known_predicates world.predicates) (session_names world.session) ds
      → GivesAll (world_after world ds) (placed_after world.schemas (known_predicates world.predicates) earlier ds) (world_after world ds).session
  gives_behind world holds earlier gives [] kept all = gives
  gives_behind world holds earlier gives (d ∷ ds) kept all =
      gives_behind (with_session world (world.session ++ valued_as world d.name d.defined ∷ [])) holds (earlier ++ placed_as world.schemas (known_predicates world.predicates) earlier d ∷ [])
      (all_give world holds (kept zero) earlier gives d all.0) ds (λ n. kept (suc n))
      (subst (λ (names : List SessionName). AreDefinedAfter world.schemas (known_predicates world.predicates) names ds)
      (sym (map-append (λ (s : SessionValue R). s.known) world.session (valued_as world d.name d.defined ∷ []))) all.1)

-- the first of some definitions are defined where all are
first_defined : (schemas : List Schema) (predicates : List HostName) (names : List SessionName) (ds : List Definition)
    → AreDefinedAfter schemas predicates names ds → (n : ℕ) → AreDefinedAfter schemas predicates names (take n ds)
first_defined schemas predicates names [] all zero = tt
first_defined schemas predicates names [] all (suc n) = tt
first_defined schemas predicates names (d ∷ ds) all zero = tt
first_defined schemas predicates names (d ∷ ds) all (suc n) =
    (all.0, first_defined schemas predicates (names ++ known_as schemas predicates names d.name d.defined ∷ []) ds all.1 n, all.2)

pub places_give : {R : Type 0} → PlacesGive R
unfolding session_places defining
places_give {R} world definitions holds none all =
    gives_behind world holds [] (subst (λ (session : List (SessionValue R)). GivesAll world [] session) (sym none) tt) definitions
    (λ n. names_have_values world (take n definitions) holds none (first_defined world.schemas (known_predicates world.predicates) [] definitions all n))
    (subst (λ (session : List (SessionValue R)). AreDefinedAfter world.schemas (known_predicates world.predicates) (session_names session) definitions) (sym none) all)

-- ---- whole statements

-- definitions change nothing but what the names of the session refer to
names_alone : {R : Type 0} (world : World R) (ds : List Definition) → world_after world ds ≡ with_session world (world_after world ds).session
names_alone world [] = refl
names_alone world (d ∷ ds) = names_alone (with_session world (world.session ++ valued_as world d.name d.defined ∷ [])) ds

pub defines_names_alone : {R : Type 0} (world : World R) (ds : List Definition) → defining world ds ≡ with_session world (defining world ds).session
unfolding defining
defines_names_alone world ds = names_alone world ds

pub meanings_of_statements : {R : Type 0} → MeaningsOfStatements R
meanings_of_statements {R} world ds holds none all e tree bound =
    let after = defining world ds in
    let here = with_session world after.session in
    let alone = defines_names_alone world ds in
    let places = statement_places world.schemas (known_predicates world.predicates) ds in
    sym (means_without world after.session tree.form [])
    ∙ (meanings_same here holds (subst (λ (w : World R). IsSessionOfValues w) alone (names_have_values world ds holds none all)) (translated e) places [] []
    (every_none (λ (b : Binding R). IsValueOf here b.ty b.value))
    (refl, tt, subst (λ (w : World R). GivesAll w places.session after.session) alone (places_give world ds holds none all), refl) tree bound).0
    ∙ terms_mean here e []
    ∙ ap (λ (w : World R). expression_meaning w e []) (sym alone)
