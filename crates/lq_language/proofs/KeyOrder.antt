-- Proof of the law of the order of sort keys: it is decided at the first place at which two lists of keys differ.
use Rattle.std.proofs.Common.{◌≡◌, ◌⊎◌, ◌<◌, ◌∷◌, if◌then◌else◌, List, [], ℕ, zero, suc, Bool, true, false, Some, ap, ap₂, ◌∙◌, arith, inl, inr, sym, refl, slice_get}
use Rattle.std.proofs.lemmas.Option.{none-some, same_Some}
use Rattle.std.specs.Ordering.{ordering_reverse, ordering_then}
use Rattle.std.specs.declared.cmp.Ordering.{Ordering}
use Rattle.std.specs.declared.cmp.Ordering.TheVariants as ordering
use Rattle.lq_value.specs.SameAndOrder.{order_of}
use Rattle.lq_value.specs.declared.scalar.Scalar.{Scalar}
use Rattle.lq_value.proofs.OrderLaws.{tells_scalars}
use Rattle.lq_language.specs.Arrangement.{order_of_keys, turned}
use Rattle.lq_language.specs.KeyOrder.{StandsBefore, TellsKeyOrder}
use Rattle.lq_language.proofs.ArrangementLemmas.{flips}

-- how a key compares that decides for its list
abbrev decided : Bool → Ordering
decided d = if d then ordering.Greater else ordering.Less

-- either this key decides, or it is the same and the others do
then_less : (d : Bool) (o p : Ordering) → ordering_then (turned d o) p ≡ ordering.Less → (o ≡ decided d) ⊎ ((o ≡ ordering.Equal) × (p ≡ ordering.Less))
then_less true ordering.Less p h = absurd (cc h)
then_less true ordering.Equal p h = inr (refl, h)
then_less true ordering.Greater p h = inl refl
then_less false ordering.Less p h = inl refl
then_less false ordering.Equal p h = inr (refl, h)
then_less false ordering.Greater p h = absurd (cc h)

decided_less : (d : Bool) → turned d (decided d) ≡ ordering.Less
decided_less true = refl
decided_less false = refl

level_then : (d : Bool) (p : Ordering) → ordering_then (turned d ordering.Equal) p ≡ p
level_then true p = refl
level_then false p = refl

-- with the same key in front of both
before_behind : (d : Bool) (ds : List Bool) (k l : Scalar) (ks ls : List Scalar) → k ≡ l → StandsBefore ds ks ls → StandsBefore (d ∷ ds) (k ∷ ks) (l ∷ ls)
before_behind d ds k l ks ls is before = record {
  place = suc before.place;
  descending = before.descending;
  key = before.key;
  other = before.other;
  direction = before.direction;
  here = before.here;
  there = before.there;
  decisive = before.decisive;
  same = by;
} where
  by : (earlier : ℕ) → earlier < suc before.place → slice_get (k ∷ ks) earlier ≡ slice_get (l ∷ ls) earlier
  by zero less = ap Some is
  by (suc earlier) less = before.same earlier (omega (arith, less))

less_told : (ds : List Bool) (ks ls : List Scalar) → order_of_keys ds ks ls ≡ ordering.Less → StandsBefore ds ks ls
less_told [] ks ls h = absurd (cc h)
less_told (d ∷ ds) [] ls h = nothing ls h where
  nothing : (ls : List Scalar) → order_of_keys (d ∷ ds) [] ls ≡ ordering.Less → StandsBefore (d ∷ ds) [] ls
  nothing [] h = absurd (cc h)
  nothing (l ∷ ls) h = absurd (cc h)
less_told (d ∷ ds) (k ∷ ks) [] h = absurd (cc h)
less_told (d ∷ ds) (k ∷ ks) (l ∷ ls) h = by (then_less d (order_of k l) (order_of_keys ds ks ls) h) (less_told ds ks ls) where
  by : (order_of k l ≡ decided d) ⊎ ((order_of k l ≡ ordering.Equal) × (order_of_keys ds ks ls ≡ ordering.Less))
      → (order_of_keys ds ks ls ≡ ordering.Less → StandsBefore ds ks ls) → StandsBefore (d ∷ ds) (k ∷ ks) (l ∷ ls)
  by (inl decides) rest = record {
    place = 0;
    descending = d;
    key = k;
    other = l;
    direction = refl;
    here = refl;
    there = refl;
    decisive = decides;
    same = λ earlier less. absurd (omega (arith, less));
  }
  by (inr same) rest = before_behind d ds k l ks ls ((tells_scalars k l).0 same.0) (rest same.1)

-- where they differ first at this place
less_at : (ds : List Bool) (ks ls : List Scalar) (place : ℕ) (d : Bool) (k l : Scalar) → slice_get ds place ≡ Some d → slice_get ks place ≡ Some k → slice_get ls place ≡ Some l
    → order_of k l ≡ decided d → ((earlier : ℕ) → earlier < place → slice_get ks earlier ≡ slice_get ls earlier) → order_of_keys ds ks ls ≡ ordering.Less
less_at [] ks ls place d k l direction here there decides same = absurd (none-some d direction)
less_at (e ∷ ds) [] ls place d k l direction here there decides same = absurd (none-some k here)
less_at (e ∷ ds) (x ∷ ks) [] place d k l direction here there decides same = absurd (none-some l there)
less_at (e ∷ ds) (x ∷ ks) (y ∷ ls) zero d k l direction here there decides same =
    ap (λ (o : Ordering). ordering_then o (order_of_keys ds ks ls))
    (ap (turned e) (ap₂ order_of (same_Some x k here) (same_Some y l there) ∙ decides ∙ ap decided (sym (same_Some e d direction))) ∙ decided_less e)
less_at (e ∷ ds) (x ∷ ks) (y ∷ ls) (suc place) d k l direction here there decides same =
    let level = (tells_scalars x y).1 (same_Some x y (same zero (omega arith))) in
    ap (λ (o : Ordering). ordering_then (turned e o) (order_of_keys ds ks ls)) level ∙ level_then e (order_of_keys ds ks ls)
    ∙ less_at ds ks ls place d k l direction here there decides (λ earlier less. same (suc earlier) (omega (arith, less)))

less_given : (ds : List Bool) (ks ls : List Scalar) → StandsBefore ds ks ls → order_of_keys ds ks ls ≡ ordering.Less
less_given ds ks ls before =
    less_at ds ks ls before.place before.descending before.key before.other before.direction before.here before.there before.decisive before.same

pub tells_key_order : TellsKeyOrder
tells_key_order ds ks ls = (
  (less_told ds ks ls, less_given ds ks ls),
  (λ h. less_told ds ls ks (flips ds ls ks ∙ ap ordering_reverse h), λ before. flips ds ks ls ∙ ap ordering_reverse (less_given ds ls ks before)),
)
