-- One more row, by what a search for its cell found.
use Rattle.std.proofs.Common.{◌≡◌, ◌<◌, ◌≤◌, ℕ, true, false, nat_eq, List, [], ◌∷◌, ◌++◌, length, refl, ap, sym, ◌∙◌, subst}
use Rattle.std.proofs.lemmas.Bool.{eqb-true}
use Rattle.std.specs.Prelude.{Result, Ok, Err, OnOk, OnErr}
use Rattle.lq_value.specs.SameAndOrder.{same_scalars}
use Rattle.lq_value.specs.Lookups.{places}
use Rattle.lq_value.specs.declared.scalar.Scalar.{Scalar}
use Rattle.lq_index.specs.Hashes.{hash_of, home}
use Rattle.lq_index.specs.Entries.{IsIndex, Reaches, Entry}
use Rattle.lq_index.specs.Slots.{IsPlaceFor, Joins, Takes, begins, is_entry_of}
use Rattle.lq_index.proofs.SearchLemmas.{absent, both, places_found, place_taken}
use Rattle.lq_index.proofs.EntryLemmas.{one_row_more}

pub on_ok : {T E : Type 0} {P Q : Type 0} (r : Result T E) → (P → Q) → OnOk r P → OnOk r Q
on_ok (Ok x) f h = f h
on_ok (Err e) f h = h

pub on_err : {T E : Type 0} {P Q : Type 0} (r : Result T E) → (P → Q) → OnErr r P → OnErr r Q
on_err (Ok x) f h = h
on_err (Err e) f h = f h

module _ (width : ℕ) (at new : ℕ → Entry) (cells : List Scalar) (index : IsIndex width at cells) (q : Scalar) (s : ℕ) where
  -- a slot that shows what it did before
  pub same_entries : ((t : ℕ) → new t ≡ at t) → IsIndex width new cells
  same_entries e = subst (λ (f : ℕ → Entry). IsIndex width f cells) (λ i t. sym (e t) i) index

  -- a key's slot was taken
  is_taken : is_entry_of q cells (at s) ≡ true → (at s).free ≡ false
  is_taken e = by (at s).places refl
    where
      begun : begins q cells (at s).places ≡ true
      begun = (both (nat_eq (at s).hash (hash_of q)) (begins q cells (at s).places) e).1

      by : (ps : List ℕ) → (at s).places ≡ ps → (at s).free ≡ false
      by [] f = let clash : begins q cells [] ≡ true = rw f at begun in absurd (cc clash)
      by (p ∷ ps) f = place_taken width at cells index s p ps f

  pub index_joins : is_entry_of q cells (at s) ≡ true → Joins at new s (length cells) → IsIndex width new (cells ++ q ∷ [])
  index_joins e j =
      let had : (at s).places ≡ places (same_scalars q) cells = places_found width at cells index q s e in
      let hash : (at s).hash ≡ hash_of q = eqb-true (at s).hash (hash_of q) (both (nat_eq (at s).hash (hash_of q)) (begins q cells (at s).places) e).0 in
      let reach : Reaches width at (hash_of q) s = subst (λ (h : ℕ). Reaches width at h s) hash (index.reach s (is_taken e)) in
      one_row_more width at new cells index q s had reach (j.free ∙ is_taken e) (j.hash ∙ hash) (j.has ∙ ap (λ (l : List ℕ). l ++ length cells ∷ []) had) j.others

  pub index_takes : IsPlaceFor width at q s → ((t : ℕ) → home width (hash_of q) ≤ t → t < s → is_entry_of q cells (at t) ≡ false)
      → Takes at new s (hash_of q) (length cells) → IsIndex width new (cells ++ q ∷ [])
  index_takes end none t =
      let empty : places (same_scalars q) cells ≡ [] = absent width at cells index q s end none in
      let has : (new s).places ≡ places (same_scalars q) cells ++ length cells ∷ [] = ap (λ (x : Entry). x.places) t.now ∙ rw empty refl in
      one_row_more width at new cells index q s (index.bare s end.0 ∙ sym empty) end.1 (ap (λ (x : Entry). x.free) t.now) (ap (λ (x : Entry). x.hash) t.now) has t.others
