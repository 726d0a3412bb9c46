-- The methods that look for a text in another, by their names and by what is known of them.
use Rattle.std.proofs.Common.{◌≡◌, ◌||◌, ◌⊎◌, inl, inr, List, ℕ, Bool, true, false, codes, bytes_eq, ap, refl}
use Rattle.std.proofs.lemmas.Slice.Eq.{bytes_eq-Decides}
use Rattle.lq_language.specs.Members.{IsSearch, contains, ends, is_search, starts}

pub search_told : {m : List ℕ} → IsSearch m → is_search m ≡ true
search_told (starts is) = ap is_search is
search_told (ends is) = ap is_search is
search_told (contains is) = ap is_search is

pub either_true : (a b : Bool) → (a || b) ≡ true → (a ≡ true) ⊎ (b ≡ true)
either_true true b h = inl refl
either_true false b h = inr h

pub search_given : (m : List ℕ) → is_search m ≡ true → IsSearch m
search_given m h = elim (either_true (bytes_eq m (codes "StartsWith") || bytes_eq m (codes "EndsWith")) _ h) [
  | inl first ↦ elim (either_true (bytes_eq m (codes "StartsWith")) _ first) [
    | inl same ↦ starts ((bytes_eq-Decides m (codes "StartsWith")).0 same)
    | inr same ↦ ends ((bytes_eq-Decides m (codes "EndsWith")).0 same)
  ]
  | inr same ↦ contains ((bytes_eq-Decides m (codes "Contains")).0 same)
]
