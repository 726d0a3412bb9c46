-- What a lookup finds, and how keys and their places are kept.
use Rattle.std.specs.Prelude.{List, [], ◌∷◌, ℕ, suc, Bool, true, false, if◌then◌else◌}
use Rattle.lq_value.specs.KeyTests.{key_is}
use Rattle.lq_value.specs.Lookups.{find_in, places}
use Rattle.lq_value.specs.declared.key.Key.{Key}
use Rattle.lq_value.specs.declared.key.Key.TheVariants as key
use Rattle.lq_lookup.specs.Chains.{block}
use Rattle.lq_lookup.specs.declared.nulls.Nulls.{Nulls}
use Rattle.lq_lookup.specs.declared.nulls.Nulls.TheVariants as nulls

-- whether a lookup has a match for this key: null has none where nulls are skipped
abbrev pub is_kept : Nulls → Key → Bool
is_kept nulls.Skip key.Null = false
is_kept choice k = true

-- the places of the keys that are the same as q, none for null where nulls are skipped
abbrev pub matches : Nulls → List Key → Key → List ℕ
matches choice keys q = if is_kept choice q then places (key_is q) keys else []

-- the keys, the first of them being number n, each with the places between its bounds
abbrev pub rows_from : ℕ → List Key → List ℕ → List ℕ → List (Key × List ℕ)
rows_from n [] bounds ps = []
rows_from n (k ∷ ks) bounds ps = (k, block bounds ps n) ∷ rows_from (suc n) ks bounds ps

-- what a lookup finds for q: nothing for null where nulls are skipped, and else the places of q
abbrev pub places_of : Nulls × List (Key × List ℕ) → Key → List ℕ
places_of lookup q = if is_kept lookup.0 q then find_in key_is lookup.1 q else []
