-- What the tallies of rows are: at each place the tally of the numbers there, and of a method on items what the method answers on them.
use Rattle.std.proofs.Common.{◌≡◌, ◌∷◌, List, [], map, ℕ, zero, suc, ℤ, Option, Some, Result, Ok, Err, ap, ◌∙◌, sym, refl, fold, slice_get}
use Rattle.std.proofs.lemmas.Option.{none-some, same_Some}
use Rattle.lq_value.specs.declared.scalar.Scalar.{Scalar}
use Rattle.lq_value.specs.declared.ty.Ty.{Ty}
use Rattle.lq_value.specs.declared.value.End.TheVariants as end
use Rattle.lq_value.specs.declared.value.Fault.{Fault}
use Rattle.lq_value.specs.declared.value.Value.{Value, out-Value}
use Rattle.lq_value.specs.declared.value.Value.TheVariants as value
use Rattle.lq_language.specs.Meaning.{number_in}
use Rattle.lq_language.specs.Operations.{on_ok}
use Rattle.lq_operators.specs.GroupTallies.{more, row_more}
use Rattle.lq_operators.specs.TallyLaws.{TallyAnswers, TallyAtPlace, ints_in}
use Rattle.lq_operators.specs.Tallies.{goes_on, int_in, tallied, tally_result, tally_with}
use Rattle.lq_operators.specs.declared.numbers.Tally.{Tally}
use Rattle.lq_operators.proofs.NumberLaws.{item_on, scalar_number, told_is}

abbrev Kept : Type 0
Kept = Result Tally Fault

-- ---- the tally at a place

-- the number at a place goes to the tally there
at_place : (ts : List Kept) (row : List (Option ℤ)) (j : ℕ) (t : Kept) (n : Option ℤ) → slice_get ts j ≡ Some t → slice_get row j ≡ Some n
    → slice_get (row_more ts row) j ≡ Some (more t n)
at_place [] row j t n at is = absurd (none-some t at)
at_place (u ∷ ts) [] j t n at is = absurd (none-some n is)
at_place (u ∷ ts) (m ∷ row) zero t n at is = λ i. Some (more (same_Some u t at i) (same_Some m n is i))
at_place (u ∷ ts) (m ∷ row) (suc j) t n at is = at_place ts row j t n at is

at_all : (ts : List Kept) (rows : List (List (Option ℤ))) (j : ℕ) (t : Kept) (ns : List (Option ℤ)) → slice_get ts j ≡ Some t
    → map (λ row. slice_get row j) rows ≡ map (λ n. Some n) ns → slice_get (fold row_more ts rows) j ≡ Some (fold more t ns)
at_all ts [] j t [] at are = at
at_all ts [] j t (n ∷ ns) at are = absurd (cc are)
at_all ts (row ∷ rows) j t [] at are = absurd (cc are)
at_all ts (row ∷ rows) j t (n ∷ ns) at are = at_all (row_more ts row) rows j (more t n) ns (at_place ts row j t n at (cc are)) (cc are)

abbrev firsts : List Tally → List Kept
firsts begins = map (λ u. Ok u) begins

at_first : (begins : List Tally) (j : ℕ) (t : Tally) → slice_get begins j ≡ Some t → slice_get (firsts begins) j ≡ Some (Ok t)
at_first [] j t at = absurd (none-some t at)
at_first (u ∷ begins) zero t at = ap (λ (k : Tally). Some (Ok k)) (same_Some u t at)
at_first (u ∷ begins) (suc j) t at = at_first begins j t at

-- Where each row has a number at a place, the tally there is what the one that begins there makes of these numbers, one after another.
pub tally_at : TallyAtPlace
tally_at begins rows j t ns at are = at_all (firsts begins) rows j (Ok t) ns (at_first begins j t at) are

-- ---- the answer of a tally

-- past a fault nothing is read
faulted : (f : Fault) (ns : List (Option ℤ)) → fold more (Err f) ns ≡ Err f
faulted f [] = refl
faulted f (n ∷ ns) = faulted f ns

module _ {R : Type 0} where
  goes_by : (ty : Ty) (found : Kept) (vs : List (Value R))
      → ((t : Tally) → on_ok (fold more (Ok t) (ints_in vs)) (λ u. tally_result ty u end.Done) ≡ tallied ty t (vs, end.Done))
      → on_ok (fold more found (ints_in vs)) (λ u. tally_result ty u end.Done) ≡ goes_on ty found (vs, end.Done)
  goes_by ty (Ok t) vs rest = rest t
  goes_by ty (Err f) vs rest = ap (λ (k : Kept). on_ok k (λ u. tally_result ty u end.Done)) (faulted f (ints_in vs))

  -- The tally of the numbers that items are answers as the method does on the items, and its fault is the method's.
  pub tally_answers : TallyAnswers R
  tally_answers ty t [] = told_is R ty t end.Done
  tally_answers ty t (v ∷ vs) =
      goes_by ty (tally_with t (number_in (out-Value R v))) vs (λ u. tally_answers ty u vs)
      ∙ sym (item_on t v (number_in (out-Value R v)) (tally_with t (number_in (out-Value R v))) refl refl ty (vs, end.Done))

-- the number of an item that is a scalar is the scalar's
pub scalar_is : (R : Type 0) (c : Scalar) → number_in (out-Value R (value.Scalar c)) ≡ int_in c
scalar_is R c = sym (scalar_number R c)
