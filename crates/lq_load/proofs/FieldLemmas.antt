-- The fields of a record from a place on.
use Rattle.std.proofs.Common.{◌≡◌, ◌+◌, ℕ, zero, suc, List, [], ◌∷◌, Some, None, refl, add-one, arith, drop, length, ◌<◌}
use Rattle.csv.specs.Records.{field_at}

-- a field that a record has is the first of those from its place on
field_first : (fields : List (List ℕ)) (place : ℕ) (field : List ℕ) → Some field ≡ field_at fields place → drop place fields ≡ field ∷ drop (suc place) fields
unfolding field_at
field_first [] place field e = cc
field_first (f ∷ rest) zero field e = let same : f ≡ field = cc in rw same refl
field_first (f ∷ rest) (suc place) field e = field_first rest place field e

pub drop-field : (fields : List (List ℕ)) (place : ℕ) (field : List ℕ) → Some field ≡ field_at fields place → drop place fields ≡ field ∷ drop (place + 1) fields
drop-field fields place field e = rw (add-one place) (field_first fields place field e)

pub drop-no_field : (fields : List (List ℕ)) (place : ℕ) → None ≡ field_at fields place → drop place fields ≡ []
unfolding field_at
drop-no_field [] zero e = refl
drop-no_field [] (suc place) e = refl
drop-no_field (f ∷ rest) zero e = cc
drop-no_field (f ∷ rest) (suc place) e = drop-no_field rest place e

pub field_there : (fields : List (List ℕ)) (place : ℕ) → place < length fields → None ≡ field_at fields place → ⊥
unfolding field_at
field_there [] place h e = omega (arith, h)
field_there (f ∷ rest) zero h e = cc
field_there (f ∷ rest) (suc place) h e = field_there rest place (omega (arith, h)) e
