-- The places of a session's names: what is known of them, where each is found, which type its tree has and what its form uses.
use Rattle.std.proofs.Common.{◌≡◌, ◌∷◌, ◌++◌, if◌then◌else◌, List, [], ℕ, suc, take, Bool, true, false, Option, Some, None, ap, ◌∙◌, sym, refl, subst, bytes_eq, slice_get, option_and_then, option_map}
use Rattle.std.proofs.lemmas.List.{map-append}
use Rattle.std.proofs.lemmas.Option.{none-some}
use Rattle.std.specs.List.{position_from}
use Rattle.lq_value.specs.Tables.{first_named}
use Rattle.lq_value.specs.declared.table.Schema.{Schema}
use Rattle.lq_value.specs.declared.ty.Ty.{Ty}
use Rattle.lq_value.specs.declared.ty.Ty.TheVariants as ty
use Rattle.lq_language.specs.ClauseTyping.{expression_type}
use Rattle.lq_machine.specs.DefinitionLaws.{AreDefinedAfter, IsDefined}
use Rattle.lq_machine.specs.Definitions.{known_after, known_as, known_names, outer_names}
use Rattle.lq_language.specs.Worlds.{or_null}
use Rattle.lq_language.specs.ValuesOfTypes.{Every}
use Rattle.lq_language.specs.Names.{SessionName}
use Rattle.lq_language.specs.declared.host_name.HostName.{HostName}
use Rattle.lq_language.specs.Uses.{expression_uses}
use Rattle.lq_machine.specs.declared.session.Defined.{Defined}
use Rattle.lq_machine.specs.declared.session.Defined.TheVariants as of
use Rattle.lq_machine.specs.declared.session.Definition.{Definition}
use Rattle.lq_machine.specs.declared.session.Opened.{Opened}
use Rattle.lq_grammar.specs.declared.syntax.Expr.{Expr}
use Rattle.lq_language.proofs.AlikeStreamLaws.{every_append}
use Rattle.lq_language.proofs.ItemLaws.{every_more, every_none}
use Rattle.lq_translate.specs.Translated.{translated}
use Rattle.lq_translate.proofs.AlikeTermLaws.{terms_typed}
use Rattle.lq_tree.specs.Binding.{term_tree, tree_of}
use Rattle.lq_tree.specs.Places.{Place, SessionPlace, names_of_places, session_place}
use Rattle.lq_tree.specs.SessionLaws.{PlacesAreKnown, PlacesUse, TypesOfStatements, UsesOfStatements}
use Rattle.lq_tree.specs.SessionPlaces.{defined_form, form_or_null, known_of, placed_after, placed_as, places_outside, session_places, statement_places, tree_or_null}
use Rattle.lq_tree.specs.UsesOfForms.{form_uses}
use Rattle.lq_tree.specs.declared.tree.Form.{Form}
use Rattle.lq_tree.specs.declared.tree.Tree.{Tree}
use Rattle.lq_tree.proofs.FormUseLaws.{of_literal}
use Rattle.lq_tree.proofs.TermMeanLaws.{tree_there}
use Rattle.lq_tree.proofs.TermTypeLaws.{types_same}
use Rattle.lq_tree.proofs.TermUseLaws.{expression_uses_same}
use Rattle.lq_tree.proofs.TypeLaws.{later as position_later, type_found}

module _ (schemas : List Schema) (predicates : List HostName) where
  -- ---- what is known

  -- one name more
  pub known_so_far : (earlier : List SessionPlace) (d : Definition)
      → known_of (earlier ++ placed_as schemas predicates earlier d ∷ []) ≡ known_of earlier ++ known_as schemas predicates (known_of earlier) d.name d.defined ∷ []
  known_so_far earlier d = map-append (λ (place : SessionPlace). place.known) earlier (placed_as schemas predicates earlier d ∷ [])

  known_behind : (earlier : List SessionPlace) (ds : List Definition) → known_of (placed_after schemas predicates earlier ds) ≡ known_after schemas predicates (known_of earlier) ds
  known_behind earlier [] = refl
  known_behind earlier (d ∷ ds) =
      known_behind (earlier ++ placed_as schemas predicates earlier d ∷ []) ds
      ∙ ap (λ (names : List SessionName). known_after schemas predicates names ds) (known_so_far earlier d)

  pub places_known : (ds : List Definition) → known_of (session_places schemas predicates ds) ≡ known_names schemas predicates ds
  unfolding session_places known_names
  places_known ds = known_behind [] ds

  -- what holds of the place of each definition where it holds of those of the earlier ones holds of all places
  pub every_placed : (P : SessionPlace → Type 0)
      → ((earlier : List SessionPlace) → Every P earlier → (d : Definition) → IsDefined schemas predicates (known_of earlier) d.defined → P (placed_as schemas predicates earlier d))
      → (earlier : List SessionPlace) → Every P earlier → (ds : List Definition) → AreDefinedAfter schemas predicates (known_of earlier) ds
      → Every P (placed_after schemas predicates earlier ds)
  every_placed P next earlier holds [] all = holds
  every_placed P next earlier holds (d ∷ ds) all =
      every_placed P next (earlier ++ placed_as schemas predicates earlier d ∷ [])
      (every_append P earlier (placed_as schemas predicates earlier d ∷ []) holds
      (every_more P (placed_as schemas predicates earlier d) [] (next earlier holds d all.0) (every_none P))) ds
      (subst (λ (names : List SessionName). AreDefinedAfter schemas predicates names ds) (sym (known_so_far earlier d)) all.1)

  -- ---- where a name is found

  known_name : (names : List SessionName) (name : List ℕ) (defined : Defined) → (known_as schemas predicates names name defined).name ≡ name
  known_name names name (of.Variable t s) = refl
  known_name names name (of.Query e opened) = refl

  still_by : (b : Bool) (q p : SessionPlace) (o more : Option SessionPlace) → (o ≡ Some p → more ≡ Some p) → (if b then Some q else o) ≡ Some p
      → (if b then Some q else more) ≡ Some p
  still_by true q p o more rest h = h
  still_by false q p o more rest h = rest h

  -- a name that comes before others is found as before
  found_still : (x : List ℕ) (earlier : List SessionPlace) (place p : SessionPlace) → session_place x earlier ≡ Some p
      → session_place x (earlier ++ place ∷ []) ≡ Some p
  found_still x [] place p h = absurd (none-some p h)
  found_still x (q ∷ earlier) place p h =
      still_by (bytes_eq q.known.name x) q p (session_place x earlier) (session_place x (earlier ++ place ∷ [])) (found_still x earlier place p) h

  found_before : (x : List ℕ) (earlier : List SessionPlace) (p : SessionPlace) (ds : List Definition) → session_place x earlier ≡ Some p
      → session_place x (placed_after schemas predicates earlier ds) ≡ Some p
  found_before x earlier p [] h = h
  found_before x earlier p (d ∷ ds) h =
      found_before x (earlier ++ placed_as schemas predicates earlier d ∷ []) p ds (found_still x earlier (placed_as schemas predicates earlier d) p h)

  last_by : (b : Bool) (q : SessionPlace) (o more found : Option SessionPlace) → (o ≡ None → more ≡ found) → (if b then Some q else o) ≡ None
      → (if b then Some q else more) ≡ found
  last_by true q o more found rest h = absurd (none-some q (sym h))
  last_by false q o more found rest h = rest h

  -- one that is at the end, where it is none of the others
  found_last : (x : List ℕ) (earlier : List SessionPlace) (place : SessionPlace) → session_place x earlier ≡ None
      → session_place x (earlier ++ place ∷ []) ≡ (if bytes_eq place.known.name x then Some place else None)
  found_last x [] place h = refl
  found_last x (q ∷ earlier) place h =
      last_by (bytes_eq q.known.name x) q (session_place x earlier) (session_place x (earlier ++ place ∷ []))
      (if bytes_eq place.known.name x then Some place else None) (found_last x earlier place) h

  -- the place of the definition at this number, after the names that were defined before it
  abbrev placed_there : List SessionPlace → List Definition → ℕ → Option SessionPlace
  placed_there earlier ds i = option_map (placed_as schemas predicates (placed_after schemas predicates earlier (take i ds))) (slice_get ds i)

  abbrev is_named : List ℕ → Definition → Bool
  is_named x d = bytes_eq d.name x

  there_later : (earlier : List SessionPlace) (d : Definition) (ds : List Definition) (o : Option ℕ)
      → option_and_then (placed_there earlier (d ∷ ds)) (option_map suc o) ≡ option_and_then (placed_there (earlier ++ placed_as schemas predicates earlier d ∷ []) ds) o
  there_later earlier d ds None = refl
  there_later earlier d ds (Some i) = refl

  behind_by : (x : List ℕ) (earlier : List SessionPlace) (d : Definition) (ds : List Definition) (b : Bool)
      → (session_place x (earlier ++ placed_as schemas predicates earlier d ∷ []) ≡ None
      → session_place x (placed_after schemas predicates (earlier ++ placed_as schemas predicates earlier d ∷ []) ds)
      ≡ option_and_then (placed_there (earlier ++ placed_as schemas predicates earlier d ∷ []) ds) (position_from (is_named x) 0 ds))
      → session_place x (earlier ++ placed_as schemas predicates earlier d ∷ []) ≡ (if b then Some (placed_as schemas predicates earlier d) else None)
      → session_place x (placed_after schemas predicates (earlier ++ placed_as schemas predicates earlier d ∷ []) ds)
      ≡ option_and_then (placed_there earlier (d ∷ ds)) (if b then Some 0 else position_from (is_named x) 1 ds)
  behind_by x earlier d ds true rest h = found_before x (earlier ++ placed_as schemas predicates earlier d ∷ []) (placed_as schemas predicates earlier d) ds h
  behind_by x earlier d ds false rest h =
      rest h
      ∙ sym (ap (option_and_then (placed_there earlier (d ∷ ds))) (position_later (is_named x) 0 ds)
      ∙ there_later earlier d ds (position_from (is_named x) 0 ds))

  found_behind : (x : List ℕ) (earlier : List SessionPlace) (ds : List Definition) → session_place x earlier ≡ None
      → session_place x (placed_after schemas predicates earlier ds) ≡ option_and_then (placed_there earlier ds) (position_from (is_named x) 0 ds)
  found_behind x earlier [] none = none
  found_behind x earlier (d ∷ ds) none =
      behind_by x earlier d ds (bytes_eq d.name x) (found_behind x (earlier ++ placed_as schemas predicates earlier d ∷ []) ds)
      (found_last x earlier (placed_as schemas predicates earlier d) none
      ∙ ap (λ (n : List ℕ). if bytes_eq n x then Some (placed_as schemas predicates earlier d) else None) (known_name (known_of earlier) d.name d.defined))

  -- the place of the definition at this number, after the definitions before it
  abbrev pub placed_at : List Definition → ℕ → Option SessionPlace
  placed_at ds i = option_map (placed_as schemas predicates (session_places schemas predicates (take i ds))) (slice_get ds i)

  -- a name's place is that of the first definition of the name
  pub place_named : (x : List ℕ) (ds : List Definition)
      → session_place x (session_places schemas predicates ds) ≡ option_and_then (placed_at ds) (first_named (λ d. d.name) x ds)
  unfolding session_places
  place_named x ds = found_behind x [] ds refl

  -- the same, where the first definition of the name is known
  pub place_there : (x : List ℕ) (ds : List Definition) (i : ℕ) (d : Definition) → first_named (λ e. e.name) x ds ≡ Some i → slice_get ds i ≡ Some d
      → session_place x (session_places schemas predicates ds) ≡ Some (placed_as schemas predicates (session_places schemas predicates (take i ds)) d)
  place_there x ds i d first there =
      place_named x ds ∙ ap (option_and_then (placed_at ds)) first ∙ ap (option_map (placed_as schemas predicates (session_places schemas predicates (take i ds)))) there

  -- and where there is none
  pub no_place : (x : List ℕ) (ds : List Definition) → first_named (λ d. d.name) x ds ≡ None → session_place x (session_places schemas predicates ds) ≡ None
  no_place x ds first = place_named x ds ∙ ap (option_and_then (placed_at ds)) first

  -- ---- trees

  -- the tree of an expression outside of all local names is of the type that the expression has there
  type_outside : (earlier : List SessionPlace) (e : Expr) (depth : ℕ)
      → type_found (term_tree schemas (translated e) (places_outside predicates earlier depth)) ≡ expression_type e (outer_names schemas predicates (known_of earlier))
  type_outside earlier e depth =
      types_same schemas (translated e) (places_outside predicates earlier depth) ∙ terms_typed e (outer_names schemas predicates (known_of earlier))

  pub query_type : (earlier : List Definition) (e : Expr) (depth : ℕ)
      → type_found (term_tree schemas (translated e) (places_outside predicates (session_places schemas predicates earlier) depth))
      ≡ expression_type e (outer_names schemas predicates (known_names schemas predicates earlier))
  query_type earlier e depth =
      type_outside (session_places schemas predicates earlier) e depth
      ∙ ap (λ (names : List SessionName). expression_type e (outer_names schemas predicates names)) (places_known earlier)

  -- so a named query that has a type has a tree
  pub query_tree : (earlier : List SessionPlace) (e : Expr) (t : Ty) → expression_type e (outer_names schemas predicates (known_of earlier)) ≡ Some t → (depth : ℕ)
      → (f : Form) × (term_tree schemas (translated e) (places_outside predicates earlier depth) ≡ Some (tree_of t f))
  query_tree earlier e t typed depth =
      tree_there (term_tree schemas (translated e) (places_outside predicates earlier depth)) t (type_outside earlier e depth ∙ typed)

  tree_given : (o : Option Tree) → tree_of (or_null (type_found o)) (form_or_null o) ≡ tree_or_null o
  tree_given None = refl
  tree_given (Some tree) = refl

  -- what a named query's place gives is the tree of its expression
  pub named_tree : (earlier : List SessionPlace) (name : List ℕ) (e : Expr) (opened : Opened) (depth : ℕ)
      → tree_of (known_as schemas predicates (known_of earlier) name (of.Query e opened)).ty (defined_form schemas predicates earlier (of.Query e opened) depth)
      ≡ tree_or_null (term_tree schemas (translated e) (places_outside predicates earlier depth))
  named_tree earlier name e opened depth =
      ap (λ (o : Option Ty). tree_of (or_null o) (form_or_null (term_tree schemas (translated e) (places_outside predicates earlier depth))))
      (sym (type_outside earlier e depth))
      ∙ tree_given (term_tree schemas (translated e) (places_outside predicates earlier depth))

  -- ---- uses

  -- the form uses what is known to be used, however many slots there are
  abbrev Uses : SessionPlace → Type 0
  Uses place = (depth : ℕ) → form_uses (place.form depth) ≡ place.known.uses

  query_uses : (earlier : List SessionPlace) → Every Uses earlier → (e : Expr) (t : Ty) → expression_type e (outer_names schemas predicates (known_of earlier)) ≡ Some t
      → (depth : ℕ)
      → form_uses (form_or_null (term_tree schemas (translated e) (places_outside predicates earlier depth))) ≡ expression_uses e (outer_names schemas predicates (known_of earlier))
  query_uses earlier used e t typed depth =
      let there = query_tree earlier e t typed depth in
      ap (λ (o : Option Tree). form_uses (form_or_null o)) there.1
      ∙ expression_uses_same schemas e (places_outside predicates earlier depth)
      (record { locals = every_none (λ (place : Place). form_uses place.form ≡ []); session = used }) (tree_of t there.0) there.1

  defined_uses : (earlier : List SessionPlace) → Every Uses earlier → (name : List ℕ) (defined : Defined) → IsDefined schemas predicates (known_of earlier) defined
      → (depth : ℕ) → form_uses (defined_form schemas predicates earlier defined depth) ≡ (known_as schemas predicates (known_of earlier) name defined).uses
  defined_uses earlier used name (of.Variable t s) is depth = of_literal s
  defined_uses earlier used name (of.Query e opened) is depth = query_uses earlier used e (ty.Seq is.0) is.1 depth

pub places_are_known : PlacesAreKnown
places_are_known schemas predicates definitions = places_known schemas predicates definitions

pub places_use : PlacesUse
unfolding session_places
places_use schemas predicates definitions all = record {
  locals = every_none (λ (place : Place). form_uses place.form ≡ []);
  session = every_placed schemas predicates (Uses schemas predicates) (λ earlier used d is. defined_uses schemas predicates earlier used d.name d.defined is) []
      (every_none (Uses schemas predicates)) definitions all;
}

-- ---- whole statements

-- what names say at the places of a statement
pub statement_names : (schemas : List Schema) (predicates : List HostName) (ds : List Definition)
    → names_of_places schemas (statement_places schemas predicates ds) ≡ outer_names schemas predicates (known_names schemas predicates ds)
statement_names schemas predicates ds = ap (outer_names schemas predicates) (places_known schemas predicates ds)

pub types_of_statements : TypesOfStatements
types_of_statements schemas predicates ds e = query_type schemas predicates ds e 0

pub uses_of_statements : UsesOfStatements
uses_of_statements schemas predicates ds all e tree bound =
    expression_uses_same schemas e (statement_places schemas predicates ds) (places_use schemas predicates ds all) tree bound
    ∙ ap (expression_uses e) (statement_names schemas predicates ds)
