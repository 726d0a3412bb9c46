-- Laws of clauses, case by case.
use Rattle.std.proofs.Common.{◌≡◌, ◌∷◌, if◌then◌else◌, List, [], map, ℕ, Bool, true, false, not, Option, Some, None, Result, Ok, ap, ◌∙◌, refl, option_and_then, option_map}
use Rattle.std.specs.Prelude.{is_some}
use Rattle.lq_value.specs.SameAndOrder.{same_values as same_keys}
use Rattle.lq_value.specs.declared.scalar.Scalar.{Scalar}
use Rattle.lq_value.specs.declared.scalar.Scalar.TheVariants as scalar
use Rattle.lq_value.specs.declared.ty.Ty.{Ty, out-Ty}
use Rattle.lq_value.specs.declared.ty.Ty.TheOpen.{Ty-F}
use Rattle.lq_value.specs.declared.ty.Ty.TheVariants as ty
use Rattle.lq_value.specs.declared.ty.Ty.TheVariants.{outs-Group, outs-Null, outs-Seq}
use Rattle.lq_value.specs.declared.value.End.TheVariants as end
use Rattle.lq_value.specs.declared.value.Fault.{Fault}
use Rattle.lq_value.specs.declared.value.Value.{Value}
use Rattle.lq_value.specs.declared.value.Value.TheOpen.{Value-F}
use Rattle.lq_value.specs.declared.value.Value.TheVariants as value
use Rattle.lq_value.specs.declared.value.Value.TheVariants.{outs-Scalar}
use Rattle.lq_language.specs.Arrangement.{arranged, keyed, with_key}
use Rattle.lq_language.specs.ClauseLaws.{EnumeratesGroups, GroupsInTurn, MeetsFirstKeysFirst, MeetsInnerKeysFirst, NullMatchesNothing, ReadsSourceAnew, RepeatsNoName, SeesItAlone, SeesNoRangeVariable, SortsWhole, TakesNoNull}
use Rattle.lq_language.specs.ClauseTyping.{are_join_keys, element_type, fresh_type, has_place, if_key, if_placed, is_fresh, matched_name, matched_type, source_type, when}
use Rattle.lq_language.specs.ClauseMeaning.{is_null_layer}
use Rattle.lq_language.specs.Operations.{on_ok}
use Rattle.lq_language.specs.Stream.{Stream, both, each, elements_of, groups_of, on_value, one, then_stream, whole}
use Rattle.lq_language.specs.Names.{Names, local_type, with_local}

-- ---- names

module _ (names : Names) (n : List ℕ) (t : Ty) (there : local_type n names.locals ≡ Some t) where
  not_fresh : (o : Option Ty) → fresh_type names n o ≡ None
  not_fresh o = ap (λ (found : Option Ty). when (not (is_some found)) o) there

-- the range variable of a `join`, by what it is bound to
join_name_in : {X : Type 0} (typed : X → Names → Option Ty) (names outer : Names) (n m : List ℕ) (k l : X) (into : Option (List ℕ)) (o : Option Ty) → o ≡ None
    → option_map (with_local names m)
    (option_and_then (λ u. when (are_join_keys (typed k names) (typed l (with_local outer n u))) (matched_type typed names into u)) o) ≡ None
join_name_in typed names outer n m k l into o h =
    ap (λ (found : Option Ty). option_map (with_local names m)
    (option_and_then (λ u. when (are_join_keys (typed k names) (typed l (with_local outer n u))) (matched_type typed names into u)) found)) h

module _ (names : Names) (n : List ℕ) (t : Ty) (there : local_type n names.locals ≡ Some t) where
  no_when : (b : Bool) (u : Ty) → when b (fresh_type names n (Some (ty.Seq u))) ≡ None
  no_when true u = not_fresh names n t there (Some (ty.Seq u))
  no_when false u = refl

  no_matches : (o : Option Ty) (test : Ty → Bool) → option_and_then (λ u. when (test u) (fresh_type names n (Some (ty.Seq u)))) o ≡ None
  no_matches None test = refl
  no_matches (Some u) test = no_when (test u) u

pub repeats_no_name : {X : Type 0} → RepeatsNoName X
repeats_no_name typed outer names n t there = (
  (λ f. ap (option_map (with_local names n)) (not_fresh names n t there (source_type typed f names))),
  (λ f. ap (option_map (with_local names n)) (not_fresh names n t there (if_placed (typed f names)))),
  (λ f k l into. join_name_in typed names outer n (matched_name into n) k l into (fresh_type names n (source_type typed f outer)) (not_fresh names n t there (source_type typed f outer))),
  (λ m f k l. ap (option_map (with_local names n))
      (no_matches names n t there (fresh_type names m (source_type typed f outer)) (λ u. are_join_keys (typed k names) (typed l (with_local outer m u))))),
)

pub sees_no_range_variable : {X : Type 0} → SeesNoRangeVariable X
sees_no_range_variable typed other outer names j source inner outer_key =
    λ i. option_and_then (λ t. when (are_join_keys (outer_key i) (inner t i)) (matched_type typed names j.into t))
    (fresh_type names j.name (option_and_then (λ t. element_type (out-Ty t)) (source i)))

pub sees_it_alone : {X : Type 0} → SeesItAlone X
sees_it_alone typed outer n t = (
  (λ s there. ap (λ (o : Option Ty). when (not (is_some o)) (Some (with_local outer n t))) there),
  (λ none. ap (λ (o : Option Ty). when (not (is_some o)) (Some (with_local outer n t))) none),
)

-- ---- types

null_unplaced : if_placed (Some ty.Null) ≡ None
null_unplaced = ap (λ (layer : Ty-F Ty). when (has_place layer) (Some ty.Null)) outs-Null

no_group : (k : Option Ty) → option_and_then (λ s. option_map (ty.Group s) None) k ≡ None
no_group None = refl
no_group (Some s) = refl

abbrev no_type : Option Ty
no_type = None

not_even_fresh : (b : Bool) → when b no_type ≡ no_type
not_even_fresh true = refl
not_even_fresh false = refl

pub takes_no_null : {X : Type 0} → TakesNoNull X
takes_no_null typed outer names f null = (
  (λ n. ap (λ (o : Option Ty). option_map (with_local names n) (fresh_type names n o)) unplaced ∙ ap (option_map (with_local names n)) (not_even_fresh (is_fresh names n))),
  unplaced,
  (λ k. ap (λ (o : Option Ty). option_and_then (λ s. option_map (ty.Group s) o) (if_key (typed k names))) unplaced ∙ no_group (if_key (typed k names))),
)
  where
    unplaced : if_placed (typed f names) ≡ None
    unplaced = ap if_placed null ∙ null_unplaced

pub enumerates_groups : {X : Type 0} → EnumeratesGroups X
enumerates_groups typed f names k t = (
  (λ h. ap (λ (o : Option Ty). option_and_then (λ u. element_type (out-Ty u)) o) h ∙ ap element_type (outs-Seq t)),
  (λ h. ap (λ (o : Option Ty). option_and_then (λ u. element_type (out-Ty u)) o) h ∙ ap element_type (outs-Group k t)),
)

-- ---- meaning

pub null_matches_nothing : {R : Type 0} → NullMatchesNothing R
null_matches_nothing {R} qs =
    ap (λ (layer : Value-F R (Value R)). if is_null_layer layer then [] else elements_of same_keys (value.Scalar scalar.Null) qs) (outs-Scalar scalar.Null)

pub meets_inner_keys_first : {R : Type 0} → MeetsInnerKeysFirst R
meets_inner_keys_first {R} key v vs e f h outer_key found result xs d =
    ap (λ (o : Result (Value R) Fault). joined (then_stream (one (both o (Ok v))) (each (λ w. one (both (key w) (Ok w))) vs e))) h
  where
    joined : Stream (Value R × Value R) → Stream (Value R)
    joined inner =
        whole inner.0 inner.1 (λ qs. each (λ x. on_value (outer_key x) (λ k. each (λ w. one (result x w)) (found k qs) end.Done)) xs d)

pub reads_source_anew : {R X : Type 0} → ReadsSourceAnew R X
reads_source_anew world typed meant outer scope n f scopes e = refl

pub meets_first_keys_first : {R : Type 0} → MeetsFirstKeysFirst R
meets_first_keys_first {R} descending key k ks xs f h =
    ap (λ (o : Result (List Scalar) Fault). on_value (on_ok o (λ first. on_ok (keyed key ks xs) (λ rows. Ok (with_key first rows))))
    (λ rows. (map (λ row. row.1) (arranged (map descending (k ∷ ks)) rows), end.Done))) h

pub sorts_whole : {R : Type 0} → SortsWhole R
sorts_whole descending key ks xs f = refl

pub groups_in_turn : {R : Type 0} → GroupsInTurn R
groups_in_turn {R} same key element result v xs e f h =
    ap (λ (o : Result (Value R) Fault). grouped (then_stream (one (both o (element v))) (each (λ w. one (both (key w) (element w))) xs e))) h
  where
    grouped : Stream (Value R × Value R) → Stream (Value R)
    grouped keyed = whole keyed.0 keyed.1 (λ qs. (map result (groups_of same qs), end.Done))
