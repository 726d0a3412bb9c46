-- Which rows are needed, row by row.
use Rattle.std.proofs.Common.{◌≡◌, ◌∷◌, ◌++◌, if◌then◌else◌, List, [], ℕ, zero, suc, Bool, true, false, Option, Some, None, ap, ◌∙◌, sym, refl}
use Rattle.std.proofs.lemmas.Option.{none-some, same_Some}
use Rattle.lq_value.specs.declared.value.End.TheVariants as end
use Rattle.lq_value.specs.declared.value.Fault.{Fault}
use Rattle.lq_language.specs.Stream.{Stream, then_stream}
use Rattle.lq_language.specs.ValuesOfTypes.{Every}
use Rattle.lq_language.proofs.ItemLaws.{first_of, others_of}
use Rattle.lq_plan.specs.Counts.{one_less}
use Rattle.lq_pipeline.specs.Settling.{is_settled, needed, over, reaches, shortest}

-- the shortest front is none where none is needed
pub shortest_none : {A : Type 0} (p : List A → Bool) (xs : List A) → p [] ≡ true → shortest p xs ≡ []
shortest_none p [] wants = refl
shortest_none p (x ∷ xs) wants = ap (λ (b : Bool). if b then [] else x ∷ shortest (λ ys. p (x ∷ ys)) xs) wants

module _ {R A : Type 0} (come : R → Stream A) where
  -- a first row, of which this comes
  pub first_row : (decide : List A → Bool) (r : R) (rows : List R) (out : Stream A) → come r ≡ out → decide [] ≡ false
      → needed come decide (r ∷ rows) ≡ r ∷ shortest (λ front. is_settled decide (then_stream out (over come front))) rows
  first_row decide r rows out is wants =
      ap (λ (b : Bool). if b then [] else r ∷ shortest (λ front. is_settled decide (over come (r ∷ front))) rows) wants
      ∙ ap (λ (o : Stream A). r ∷ shortest (λ front. is_settled decide (then_stream o (over come front))) rows) is

  pub nothing_comes : (decide : List A → Bool) (r : R) (rows : List R) → come r ≡ ([], end.Done) → decide [] ≡ false
      → needed come decide (r ∷ rows) ≡ r ∷ needed come decide rows
  nothing_comes decide r rows is wants = first_row decide r rows ([], end.Done) is wants

  pub item_comes : (decide : List A → Bool) (r : R) (rows : List R) (x : A) → come r ≡ (x ∷ [], end.Done) → decide [] ≡ false
      → needed come decide (r ∷ rows) ≡ r ∷ needed come (λ ys. decide (x ∷ ys)) rows
  item_comes decide r rows x is wants = first_row decide r rows (x ∷ [], end.Done) is wants

  pub fault_comes : (decide : List A → Bool) (r : R) (rows : List R) (f : Fault) → come r ≡ ([], end.Fault f) → decide [] ≡ false
      → needed come decide (r ∷ rows) ≡ r ∷ []
  fault_comes decide r rows f is wants =
      first_row decide r rows ([], end.Fault f) is wants ∙ ap (λ (rest : List R). r ∷ rest) (shortest_none (λ front. true) rows refl)

  pub needs_none : (decide : List A → Bool) (rows : List R) → decide [] ≡ true → needed come decide rows ≡ []
  needs_none decide rows wants = shortest_none (λ front. is_settled decide (over come front)) rows wants

  -- rows of which nothing comes
  pub passed_by : (decide : List A → Bool) (before rest : List R) → Every (λ r. come r ≡ ([], end.Done)) before → decide [] ≡ false
      → needed come decide (before ++ rest) ≡ before ++ needed come decide rest
  passed_by decide [] rest none wants = refl
  passed_by decide (r ∷ before) rest none wants =
      nothing_comes decide r (before ++ rest) (first_of (λ q. come q ≡ ([], end.Done)) r before none) wants
      ∙ ap (λ (rows : List R). r ∷ rows) (passed_by decide before rest (others_of (λ q. come q ≡ ([], end.Done)) r before none) wants)

-- ---- limits

module _ (A : Type 0) where
  pub open_limit : (limit less : Option ℕ) → one_less limit ≡ Some less → reaches {A = A} limit [] ≡ false
  open_limit None less is = refl
  open_limit (Some zero) less is = absurd (none-some less is)
  open_limit (Some (suc m)) less is = refl

  pub fewer_wanted : (limit less : Option ℕ) (x : A) → one_less limit ≡ Some less → (λ (xs : List A). reaches limit (x ∷ xs)) ≡ reaches less
  fewer_wanted None less x is = ap reaches (same_Some None less is)
  fewer_wanted (Some zero) less x is = absurd (none-some less is)
  fewer_wanted (Some (suc m)) less x is = ap reaches (same_Some (Some m) less is)

  pub reached : (limit : Option ℕ) → one_less limit ≡ None → reaches {A = A} limit [] ≡ true
  reached (Some zero) is = refl
  reached (Some (suc m)) is = absurd (none-some (Some m) (sym is))
  reached None is = absurd (none-some None (sym is))
