-- What the tallies of rows of numbers come to.
use Rattle.std.specs.Prelude.{◌≡◌, List, ℕ, ℤ, Option, Some, Ok, fold, map, slice_get}
use Rattle.lq_value.specs.declared.ty.Ty.{Ty}
use Rattle.lq_value.specs.declared.value.End.TheVariants as end
use Rattle.lq_value.specs.declared.value.Value.{Value, out-Value}
use Rattle.lq_language.specs.Meaning.{number_in}
use Rattle.lq_language.specs.Operations.{on_ok}
use Rattle.lq_operators.specs.GroupTallies.{more, tallies_of}
use Rattle.lq_operators.specs.Tallies.{tallied, tally_result}
use Rattle.lq_operators.specs.declared.numbers.Tally.{Tally}

-- Where each row has a number at a place, the tally there is what the one that begins there makes of these numbers, one after another.
abbrev pub TallyAtPlace : Type 0
TallyAtPlace =
    (begins : List Tally) (rows : List (List (Option ℤ))) (j : ℕ) (t : Tally) (ns : List (Option ℤ)) → slice_get begins j ≡ Some t
    → map (λ row. slice_get row j) rows ≡ map (λ n. Some n) ns → slice_get (tallies_of begins rows) j ≡ Some (fold more (Ok t) ns)

-- the number that each item is; what isn't an int is none
abbrev pub ints_in : {R : Type 0} → List (Value R) → List (Option ℤ)
ints_in {R} vs = map (λ v. number_in (out-Value R v)) vs

-- What a tally makes of the numbers that items are, one after another, answers as the tally does on the items, or is the fault that is met there.
abbrev pub TallyAnswers : Type 0 → Type 0
TallyAnswers R =
    (ty : Ty) (t : Tally) (vs : List (Value R))
    → on_ok (fold more (Ok t) (ints_in vs)) (λ u. tally_result ty u end.Done) ≡ tallied ty t (vs, end.Done)
