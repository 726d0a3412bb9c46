-- The names of a session: what is known of them, and their values.
use Rattle.std.proofs.Common.{◌≡◌, ◌∷◌, ◌++◌, List, [], ℕ, Some, Result, Ok, ap, ◌∙◌, sym, refl, subst}
use Rattle.std.proofs.lemmas.List.{map-append}
use Rattle.lq_value.specs.declared.ty.Ty.{Ty}
use Rattle.lq_value.specs.declared.ty.Ty.TheVariants as ty
use Rattle.lq_value.specs.declared.value.Fault.{Fault}
use Rattle.lq_value.specs.declared.value.Value.{Value}
use Rattle.lq_value.specs.declared.value.Value.TheVariants.{outs-Seq}
use Rattle.lq_language.specs.ClauseTyping.{expression_type}
use Rattle.lq_machine.specs.DefinitionLaws.{AreDefinedAfter, IsDefined, NamesAreKnown, NamesHaveMeanings, NamesHaveValues}
use Rattle.lq_machine.specs.Definitions.{defining, known_after, known_as, known_names, outer_names, value_in, valued_as, with_session, world_after}
use Rattle.lq_language.specs.Worlds.{Binding, SessionValue, World, known_predicates, or_null, session_names}
use Rattle.lq_language.specs.OperandMeaning.{items_of, sequence, stream_of}
use Rattle.lq_language.specs.ValuesOfTypes.{Every, HoldsRows, assuming}
use Rattle.lq_language.specs.Stream.{Stream}
use Rattle.lq_language.specs.Names.{SessionName}
use Rattle.lq_language.specs.Meaning.{expression_meaning}
use Rattle.lq_language.specs.MeaningLaws.{Fits, IsSessionOfValues, IsValueOf, ValueClaim, by_group, by_null_record, by_record, by_row, by_scalar, by_sequence, no_member, one_member}
use Rattle.lq_machine.specs.declared.session.Defined.{Defined}
use Rattle.lq_machine.specs.declared.session.Defined.TheVariants as of
use Rattle.lq_machine.specs.declared.session.Definition.{Definition}
use Rattle.lq_machine.specs.declared.session.Opened.{Opened}
use Rattle.lq_grammar.specs.declared.syntax.Expr.{Expr}
use Rattle.lq_language.proofs.AlikeStreamLaws.{every_append}
use Rattle.lq_language.proofs.ItemLaws.{every_more, every_none}
use Rattle.lq_language.proofs.SequenceLaws.{never_faults}
use Rattle.lq_language.proofs.TypedMeaningLaws.{has_language_meaning}

-- ---- what is known

module _ {R : Type 0} where
  names_after : (world : World R) (ds : List Definition) → session_names (world_after world ds).session ≡ known_after world.schemas (known_predicates world.predicates) (session_names world.session) ds
  names_after world [] = refl
  names_after world (d ∷ ds) =
      names_after (with_session world (world.session ++ valued_as world d.name d.defined ∷ [])) ds
      ∙ ap (λ (names : List SessionName). known_after world.schemas (known_predicates world.predicates) names ds)
      (map-append (λ (s : SessionValue R). s.known) world.session (valued_as world d.name d.defined ∷ []))

  -- what has a type has it whatever the session's names are
  fits_with : (world : World R) (session : List (SessionValue R)) {claim : ValueClaim R} → Fits world claim → Fits (with_session world session) claim
  fits_with world session (by_scalar t s fits) = by_scalar t s fits
  fits_with world session (by_null_record t ms is) = by_null_record t ms is
  fits_with world session (by_row t n r is cells) = by_row t n r is cells
  fits_with world session (by_record t ms vs is fits) = by_record t ms vs is (fits_with world session fits)
  fits_with world session (by_group t k u key vs is fits items) =
      by_group t k u key vs is (fits_with world session fits) (λ i v there. fits_with world session (items i v there))
  fits_with world session (by_sequence t u vs e is items) = by_sequence t u vs e is (λ i v there. fits_with world session (items i v there))
  fits_with world session no_member = no_member
  fits_with world session (one_member n t v ms vs fits others) = one_member n t v ms vs (fits_with world session fits) (fits_with world session others)

  -- ---- values

  module _ (world : World R) (holds : HoldsRows world) (kept : IsSessionOfValues world) where
    -- the stream of a named query, and its items
    query_stream : (e : Expr) (item : Ty) → expression_type e (outer_names world.schemas (known_predicates world.predicates) (session_names world.session)) ≡ Some (ty.Seq item)
        → (unknown : Fault) → (s : Stream (Value R)) × (expression_meaning (assuming unknown world) e [] ≡ Ok (sequence s))
    query_stream e item typed unknown = never_faults world holds kept [] (every_none (λ (b : Binding R). IsValueOf world b.ty b.value)) e item typed unknown

    back : (unknown : Fault) (s : Stream (Value R)) → stream_of (assuming unknown world) (Ok (sequence s)) ≡ s
    back unknown s = ap (items_of (assuming unknown world)) (outs-Seq s.0 s.1)

    query_value : (e : Expr) (opened : Opened) (item : Ty) → expression_type e (outer_names world.schemas (known_predicates world.predicates) (session_names world.session)) ≡ Some (ty.Seq item)
        → IsValueOf world (ty.Seq item) (value_in world (of.Query e opened))
    query_value e opened item typed =
        let there = query_stream e item typed world.unknown in
        subst (λ (v : Value R). IsValueOf world (ty.Seq item) v)
        (ap sequence (sym (back world.unknown there.0)) ∙ ap (λ (m : Result (Value R) Fault). sequence (stream_of world m)) (sym there.1))
        ((has_language_meaning world holds kept [] (every_none (λ (b : Binding R). IsValueOf world b.ty b.value)) e (ty.Seq item) typed world.unknown world.unknown).1
        (sequence there.0) there.1)

    defined_value : (name : List ℕ) (defined : Defined) → IsDefined world.schemas (known_predicates world.predicates) (session_names world.session) defined
        → IsValueOf world (known_as world.schemas (known_predicates world.predicates) (session_names world.session) name defined).ty (value_in world defined)
    defined_value name (of.Variable t s) is = by_scalar t s is.1
    defined_value name (of.Query e opened) is =
        subst (λ (t : Ty). IsValueOf world t (value_in world (of.Query e opened))) (sym (ap or_null is.1)) (query_value e opened is.0 is.1)

    -- the value is the same whatever is used where there is no meaning
    same_value : (defined : Defined) → IsDefined world.schemas (known_predicates world.predicates) (session_names world.session) defined → (unknown : Fault)
        → value_in (assuming unknown world) defined ≡ value_in world defined
    same_value (of.Variable t s) is unknown = refl
    same_value (of.Query e opened) is unknown =
        let there = query_stream e is.0 is.1 unknown in
        let here = (has_language_meaning world holds kept [] (every_none (λ (b : Binding R). IsValueOf world b.ty b.value)) e (ty.Seq is.0) is.1 unknown world.unknown).0 in
        ap (λ (m : Result (Value R) Fault). sequence (stream_of (assuming unknown world) m)) there.1
        ∙ ap sequence (back unknown there.0 ∙ sym (back world.unknown there.0))
        ∙ ap (λ (m : Result (Value R) Fault). sequence (stream_of world m)) (sym there.1 ∙ here)

    more_values : (name : List ℕ) (defined : Defined) → IsDefined world.schemas (known_predicates world.predicates) (session_names world.session) defined
        → IsSessionOfValues (with_session world (world.session ++ valued_as world name defined ∷ []))
    more_values name defined is =
        let session = world.session ++ valued_as world name defined ∷ [] in
        let Typed : SessionValue R → Type 0 = λ s. IsValueOf (with_session world session) s.known.ty s.value in
        every_append Typed world.session (valued_as world name defined ∷ []) (λ k s there. fits_with world session (kept k s there))
        (every_more Typed (valued_as world name defined) [] (fits_with world session (defined_value name defined is)) (every_none Typed))

  known_so_far : (world : World R) (name : List ℕ) (defined : Defined)
      → session_names (world.session ++ valued_as world name defined ∷ [])
      ≡ session_names world.session ++ known_as world.schemas (known_predicates world.predicates) (session_names world.session) name defined ∷ []
  known_so_far world name defined = map-append (λ (s : SessionValue R). s.known) world.session (valued_as world name defined ∷ [])

  values_after : (world : World R) → HoldsRows world → IsSessionOfValues world → (ds : List Definition) → AreDefinedAfter world.schemas (known_predicates world.predicates) (session_names world.session) ds
      → IsSessionOfValues (world_after world ds)
  values_after world holds kept [] all = kept
  values_after world holds kept (d ∷ ds) all =
      values_after (with_session world (world.session ++ valued_as world d.name d.defined ∷ [])) holds (more_values world holds kept d.name d.defined all.0) ds
      (subst (λ (names : List SessionName). AreDefinedAfter world.schemas (known_predicates world.predicates) names ds) (sym (known_so_far world d.name d.defined)) all.1)

  meanings_after : (world : World R) → HoldsRows world → IsSessionOfValues world → (ds : List Definition) → AreDefinedAfter world.schemas (known_predicates world.predicates) (session_names world.session) ds
      → (unknown : Fault) → world_after (assuming unknown world) ds ≡ assuming unknown (world_after world ds)
  meanings_after world holds kept [] all unknown = refl
  meanings_after world holds kept (d ∷ ds) all unknown =
      ap (λ (v : Value R). world_after (with_session (assuming unknown world)
      (world.session ++ (record { known = known_as world.schemas (known_predicates world.predicates) (session_names world.session) d.name d.defined; value = v }) ∷ [])) ds)
      (same_value world holds kept d.defined all.0 unknown)
      ∙ meanings_after (with_session world (world.session ++ valued_as world d.name d.defined ∷ [])) holds (more_values world holds kept d.name d.defined all.0) ds
      (subst (λ (names : List SessionName). AreDefinedAfter world.schemas (known_predicates world.predicates) names ds) (sym (known_so_far world d.name d.defined)) all.1) unknown

-- ---- the laws

no_values : {R : Type 0} (world : World R) → world.session ≡ [] → IsSessionOfValues world
no_values world none =
    subst (λ (session : List (SessionValue _)). Every (λ (s : SessionValue _). IsValueOf world s.known.ty s.value) session) (sym none)
    (every_none (λ (s : SessionValue _). IsValueOf world s.known.ty s.value))

pub names_are_known : {R : Type 0} → NamesAreKnown R
unfolding defining known_names
names_are_known world definitions none =
    names_after world definitions ∙ ap (λ (session : List (SessionValue _)). known_after world.schemas (known_predicates world.predicates) (session_names session) definitions) none

pub names_have_values : {R : Type 0} → NamesHaveValues R
unfolding defining
names_have_values world definitions holds none all =
    values_after world holds (no_values world none) definitions
    (subst (λ (session : List (SessionValue _)). AreDefinedAfter world.schemas (known_predicates world.predicates) (session_names session) definitions) (sym none) all)

pub names_have_meanings : {R : Type 0} → NamesHaveMeanings R
unfolding defining
names_have_meanings world definitions holds none all unknown =
    meanings_after world holds (no_values world none) definitions
    (subst (λ (session : List (SessionValue _)). AreDefinedAfter world.schemas (known_predicates world.predicates) (session_names session) definitions) (sym none) all) unknown
