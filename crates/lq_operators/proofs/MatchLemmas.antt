-- The items of a join's inner side that a key matches, at the places of the key.
use Rattle.std.proofs.Common.{◌≡◌, ◌++◌, if◌then◌else◌, List, [], ◌∷◌, map, ℕ, Bool, true, false, Option, None, ap, ◌∙◌, sym, refl, slice_get}
use Rattle.std.specs.List.{zip}
use Rattle.std.specs.Option.{option_to_list}
use Rattle.lq_value.specs.KeyTests.{key_is}
use Rattle.lq_value.specs.Keys.{key_of_scalar, key_value}
use Rattle.lq_value.specs.Lookups.{places}
use Rattle.lq_value.specs.SameAndOrder.{same_values}
use Rattle.lq_value.specs.declared.key.Key.{Key}
use Rattle.lq_value.specs.declared.scalar.Scalar.{Scalar}
use Rattle.lq_value.specs.declared.scalar.Scalar.TheVariants as scalar
use Rattle.lq_value.specs.declared.value.Value.{Value, out-Value}
use Rattle.lq_value.specs.declared.value.Value.TheOpen.{Value-F}
use Rattle.lq_value.specs.declared.value.Value.TheVariants as value
use Rattle.lq_value.proofs.KeyLaws.{scalar_key}
use Rattle.lq_language.specs.ClauseMeaning.{is_null_layer, matches}
use Rattle.lq_language.specs.OperandMeaning.{is_null}
use Rattle.lq_language.specs.Stream.{elements_of}
use Rattle.lq_operators.specs.Matching.{item_at, items_at, pairs_of}
use Rattle.lq_operators.specs.Places.{passes_at, picked}
use Rattle.lq_operators.specs.declared.matches.Matches.{Matches}
use Rattle.lq_operators.proofs.PairLemmas.{elements_picked}

not_null : (R : Type 0) (s : Scalar) → is_null s ≡ false → is_null_layer {R = R} (Value-F.Scalar s) ≡ false
not_null R scalar.Null h = h
not_null R (scalar.Int n) h = refl
not_null R (scalar.Bool b) h = refl
not_null R (scalar.Text t) h = refl

module _ {R : Type 0} where
  -- the items at places are those picked there
  items_picked : (m : Matches R) (k : Value R) (ps : List ℕ) → items_at m k ps ≡ picked (same_values k) m.keys m.items ps
  unfolding item_at
  items_picked m k [] = refl
  items_picked m k (p ∷ ps) =
      λ i. by (passes_at (same_values k) m.keys p) (slice_get m.items p) i ++ items_picked m k ps i
    where
      by : (b : Bool) (o : Option (Value R)) → option_to_list (if b then o else None) ≡ (if b then option_to_list o else [])
      by true o = refl
      by false o = refl

  -- where these are the places of the key, and it isn't null, the items there are those that it matches
  pub items_matched : (m : Matches R) (k : Value R) (l : Key) (ps : List ℕ) → is_null_layer (out-Value R k) ≡ false → l ≡ key_value k
      → ps ≡ places (key_is l) (map key_value m.keys) → items_at m k ps ≡ matches k (pairs_of m)
  unfolding pairs_of
  items_matched m k l ps null is at =
      items_picked m k ps ∙ elements_picked k m.keys m.items ps (at ∙ ap (λ (j : Key). places (key_is j) (map key_value m.keys)) is)
      ∙ sym (ap (λ (b : Bool). if b then [] else elements_of same_values k (zip m.keys m.items)) null)

  -- and so they are where the key is a scalar
  pub scalar_matched : (m : Matches R) (s : Scalar) (l : Key) (ps : List ℕ) → is_null s ≡ false → l ≡ key_of_scalar s
      → ps ≡ places (key_is l) (map key_value m.keys) → items_at m (value.Scalar s) ps ≡ matches (value.Scalar s) (pairs_of m)
  scalar_matched m s l ps null is at =
      items_matched m (value.Scalar s) l ps (ap is_null_layer (value.outs-Scalar s) ∙ not_null R s null) (is ∙ sym (scalar_key R s)) at
