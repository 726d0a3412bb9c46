-- Removals that stores do: the rows that fail a test go, or the last row is taken back.
use Rattle.std.proofs.Common.{◌≡◌, ◌<◌, ◌≤◌, ◌+◌, ℕ, suc, Bool, true, false, List, [], ◌∷◌, ◌++◌, length, refl, arith, ap, sym, ◌∙◌, get_or, nat_le}
use Rattle.std.proofs.lemmas.Bool.{le-leb, lt-leb}
use Rattle.lq_value.specs.Lookups.{places, places_from}
use Rattle.lq_value.specs.SameAndOrder.{same_scalars}
use Rattle.lq_value.specs.declared.scalar.Scalar.{Scalar}
use Rattle.lq_value.specs.declared.table.Row.{Row}
use Rattle.std.specs.Prelude.{filter}
use Rattle.lq_index.specs.Entries.{cell_of, cells_of}
use Rattle.lq_index.specs.Removals.{Leaves, no_rank, ranks_from, renumber}
use Rattle.lq_index.proofs.PlaceLemmas.{places_push}
use Rattle.lq_index.proofs.RemovalLemmas.{places_stay, renumber_push}

module _ {K : Type 0} (test : K → Bool) (ranks : List ℕ) where
  same_from : (n : ℕ) (xs : List K) → ((i : ℕ) → i < length xs → get_or ranks (n + i) no_rank ≡ n + i)
      → renumber ranks (places_from test n xs) ≡ places_from test n xs
  same_from n [] each = refl
  same_from n (x ∷ xs) each = by (same_from (suc n) xs rest) (test x) refl
    where
      rest : (i : ℕ) → i < length xs → get_or ranks (suc n + i) no_rank ≡ suc n + i
      rest i low = let z : n + suc i ≡ suc n + i = omega arith in rw z at (each (suc i) (omega (arith, low)))

      here : get_or ranks n no_rank ≡ n
      here = let z : n + 0 ≡ n = omega arith in rw z at (each 0 (omega arith))

      by : renumber ranks (places_from test (suc n) xs) ≡ places_from test (suc n) xs → (b : Bool) → test x ≡ b
          → renumber ranks (places_from test n (x ∷ xs)) ≡ places_from test n (x ∷ xs)
      by more true e = let is : nat_le n n ≡ true = le-leb n n (omega arith) in rw (e, here, is) (ap (λ (l : List ℕ). n ∷ l) more)
      by more false e = rw e more

  -- the places without the last row are those that keep their numbers
  pub taken_back : (left : List K) (last : K) → length left < no_rank → ((i : ℕ) → i < length left → get_or ranks i no_rank ≡ i)
      → get_or ranks (length left) no_rank ≡ no_rank → places test left ≡ renumber ranks (places test (left ++ last ∷ []))
  taken_back left last room each end = by (test last) refl
    where
      same : renumber ranks (places test left) ≡ places test left
      same = same_from 0 left (λ i low. let z : 0 + i ≡ i = omega arith in rw z (each i low))

      by : (b : Bool) → test last ≡ b → places test left ≡ renumber ranks (places test (left ++ last ∷ []))
      by true e =
          let z : 0 + length left ≡ length left = omega arith in
          let p : places test (left ++ last ∷ []) ≡ places test left ++ length left ∷ [] = rw (z, e) at (places_push test 0 left last) in
          let is : nat_le no_rank (length left) ≡ false = lt-leb no_rank (length left) room in
          let q : renumber ranks (places test left ++ length left ∷ []) ≡ renumber ranks (places test left) = rw (end, is) at (renumber_push ranks (places test left) (length left)) in
          sym (rw p (q ∙ same))
      by false e =
          let p : places test (left ++ last ∷ []) ≡ places test left = rw e at (places_push test 0 left last) in
          sym (rw p same)

-- The ranks of the rows that pass a test leave, of a column's cells, those of these rows.
pub rows_left : (column : ℕ) (keep : Row → Bool) (rows : List Row) (ranks : List ℕ) → length rows ≤ no_rank → ranks ≡ ranks_from keep 0 rows
    → Leaves ranks (cells_of column rows) (cells_of column (filter keep rows))
rows_left column keep rows ranks room e q = places_stay keep (cell_of column) (same_scalars q) ranks rows room e

-- Where all places keep their numbers and the last one has none, the cells without the last one are left.
pub last_left : (left : List Scalar) (last : Scalar) (ranks : List ℕ) → length left < no_rank → ((i : ℕ) → i < length left → get_or ranks i no_rank ≡ i)
    → get_or ranks (length left) no_rank ≡ no_rank → Leaves ranks (left ++ last ∷ []) left
last_left left last ranks room each end q = taken_back (same_scalars q) ranks left last room each end
