-- What an item represents after a call: where the call is typed, the pattern that its meaning goes on with is the one that its type has.
use Rattle.std.proofs.Common.{◌≡◌, List, ℕ, Option, Some, None, ap, ◌∙◌, sym, subst}
use Rattle.std.proofs.lemmas.Option.{option_and_then_some, same_Some}
use Rattle.lq_value.specs.declared.ty.Ty.{Ty}
use Rattle.lq_language.specs.ClauseTyping.{are_join_keys, fresh_type, from_type, if_placed, is_fresh, join_type, joined_name, matched_type, source_type, when}
use Rattle.lq_language.specs.Worlds.{Meaning, Scope, World, names_at, or_null}
use Rattle.lq_language.specs.ClauseMeaning.{joined_type}
use Rattle.lq_language.specs.Operators.{Pattern, With, names_of, paired_behind, paired_pattern, pattern_after, pattern_behind, unnamed}
use Rattle.lq_language.specs.Names.{Names, with_local}
use Rattle.lq_language.specs.declared.calls.Operator.{Operator}
use Rattle.lq_language.specs.declared.calls.Operator.TheVariants as operator
use Rattle.lq_language.specs.declared.calls.Paired.{Paired}
use Rattle.lq_language.specs.declared.calls.Paired.TheVariants as paired
use Rattle.lq_language.proofs.FindingLaws.{map_by, when_by}

or_null_is : (o : Option Ty) (t : Ty) → o ≡ Some t → or_null o ≡ t
or_null_is o t h = ap or_null h

placed_is : (o : Option Ty) (t : Ty) → if_placed o ≡ Some t → o ≡ Some t
placed_is o t h = option_and_then_some _ o t h (λ u there found. when_by _ (Some u) t found (λ placed same. there ∙ same))

module _ {R X : Type 0} (world : World R) (typed : X → Names → Option Ty) (meant : X → Meaning R) (outer : Scope R) where
  abbrev names : Names
  names = names_at world outer

  paired_by : (p : Pattern) (n : List ℕ) (t : Ty) (result : Paired X) (q : Pattern) → paired_pattern typed names p n result t ≡ Some q
      → paired_behind world typed meant outer p n t result ≡ q
  paired_by p n t paired.Pair q h = same_Some (With p n t) q h
  paired_by p n t (paired.Value x) q h =
      map_by unnamed _ q h (λ u placed is. ap unnamed (or_null_is _ u (placed_is (typed x (names_of names (With p n t))) u placed)) ∙ is)

  abbrev AtType : Pattern → List ℕ → Paired X → Ty → Pattern → Type 0
  AtType p n result t q = paired_behind world typed meant outer p n t result ≡ q

  matched_by : (ns : Names) (into : Option (List ℕ)) (t u : Ty) → matched_type typed ns into t ≡ Some u → joined_type world typed meant into t ≡ u
  matched_by ns None t u h = same_Some t u h
  matched_by ns (Some g) t u h = when_by _ _ u h (λ fresh is. same_Some _ u is)

  pub behind_after : (op : Operator X) (p q : Pattern) → pattern_after typed names op p ≡ Some q → pattern_behind world typed meant outer op p ≡ q
  behind_after (operator.Where c) p q h = when_by _ (Some p) q h (λ truth is. same_Some p q is)
  behind_after (operator.Select x) p q h =
      map_by unnamed _ q h (λ u placed is. ap unnamed (or_null_is _ u (placed_is (typed x (names_of names p)) u placed)) ∙ is)
  behind_after (operator.Let n f) p q h =
      map_by (With p n) _ q h
      (λ u found is. when_by _ _ u found (λ fresh placed. ap (With p n) (or_null_is _ u (placed_is (typed f (names_of names p)) u placed)) ∙ is))
  behind_after (operator.SelectMany n f result) p q h =
      option_and_then_some _ (from_type typed n f (names_of names p)) q h
      (λ t found made. when_by (is_fresh (names_of names p) n) (source_type typed f (names_of names p)) t found
      (λ fresh source. subst (λ (u : Ty). AtType p n result u q) (sym (or_null_is _ t source)) (paired_by p n t result q made)))
  behind_after (operator.Join j result) p q h =
      option_and_then_some _ (join_type typed names j (names_of names p)) q h
      (λ u found made. option_and_then_some
      (λ t. when (are_join_keys (typed j.outer_key (names_of names p)) (typed j.inner_key (with_local names j.name t)))
      (matched_type typed (names_of names p) j.into t))
      (fresh_type (names_of names p) j.name (source_type typed j.source names)) u found
      (λ t fresh_found keyed. when_by (is_fresh (names_of names p) j.name) (source_type typed j.source names) t fresh_found
      (λ fresh source. when_by (are_join_keys (typed j.outer_key (names_of names p)) (typed j.inner_key (with_local names j.name t)))
      (matched_type typed (names_of names p) j.into t) u keyed
      (λ keys matched. subst (λ (w : Ty). AtType p (joined_name j) result w q)
      (sym (ap (joined_type world typed meant j.into) (or_null_is _ t source) ∙ matched_by (names_of names p) j.into t u matched))
      (paired_by p (joined_name j) u result q made)))))
  behind_after (operator.OrderBy ks) p q h = when_by _ (Some p) q h (λ sorts is. same_Some p q is)
  behind_after (operator.GroupBy key element) p q h = map_by unnamed _ q h (λ u found is. ap unnamed (or_null_is _ u found) ∙ is)
