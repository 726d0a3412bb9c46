-- The cell under a name is at the place of the first column of that name.
use Rattle.std.proofs.Common.{◌≡◌, ◌+◌, ◌∷◌, if◌then◌else◌, suc, List, [], ℕ, Bool, true, false, Option, Some, None, ap, ◌∙◌, sym, refl, arith, bytes_eq, slice_get, option_and_then}
use Rattle.std.specs.List.{position_from}
use Rattle.std.specs.Prelude.{option_map}
use Rattle.lq_value.specs.declared.scalar.Scalar.{Scalar}
use Rattle.lq_value.specs.declared.value.Fault.TheVariants as fault
use Rattle.lq_language.specs.TableRows.{cell_named}
use Rattle.lq_scalar.specs.Shapes.{scalar_or_fault}
use Rattle.lq_rule.specs.RowMeaning.{place_of, read}
use Rattle.lq_rule.specs.declared.prepared.Prepared.TheVariants as prepared
use Rattle.lq_rule.proofs.ReadingLemmas.{read_cell, read_fault}

-- places that are counted from one more are one more
moved : {A : Type 0} (test : A → Bool) (i : ℕ) (xs : List A) → position_from test (i + 1) xs ≡ option_map suc (position_from test i xs)
moved test i [] = refl
moved test i (x ∷ xs) = by (test x) (moved test (i + 1) xs) where
  by : (b : Bool) → position_from test (i + 1 + 1) xs ≡ option_map suc (position_from test (i + 1) xs)
      → (if b then Some (i + 1) else position_from test (i + 1 + 1) xs) ≡ option_map suc (if b then Some i else position_from test (i + 1) xs)
  by true next = ap (λ (n : ℕ). Some n) (omega arith)
  by false next = next

-- past no column there is a cell
nowhere : {A : Type 0} (o : Option ℕ) → None ≡ option_and_then (λ (place : ℕ). slice_get {X = A} [] place) o
nowhere None = refl
nowhere (Some place) = refl

further : {A : Type 0} (x : A) (xs : List A) (o : Option ℕ) → option_and_then (slice_get xs) o ≡ option_and_then (slice_get (x ∷ xs)) (option_map suc o)
further x xs None = refl
further x xs (Some place) = refl

placed : (columns : List (List ℕ)) (cells : List Scalar) (name : List ℕ) → cell_named columns cells name ≡ option_and_then (slice_get cells) (place_of columns name)
placed [] cells name = refl
placed (column ∷ columns) [] name = nowhere (place_of (column ∷ columns) name)
placed (column ∷ columns) (cell ∷ cells) name = by (bytes_eq column name) (placed columns cells name) where
  by : (b : Bool) → cell_named columns cells name ≡ option_and_then (slice_get cells) (place_of columns name)
      → (if b then Some cell else cell_named columns cells name)
      ≡ option_and_then (slice_get (cell ∷ cells)) (if b then Some 0 else position_from (λ other. bytes_eq other name) (0 + 1) columns)
  by true others = refl
  by false others =
      others ∙ further cell cells (place_of columns name)
      ∙ ap (λ (o : Option ℕ). option_and_then (slice_get (cell ∷ cells)) o) (sym (moved (λ other. bytes_eq other name) 0 columns))

module _ (columns : List (List ℕ)) (name : List ℕ) (cells : List Scalar) (user : List ℕ) where
  pub cell_there : (place : ℕ) → place_of columns name ≡ Some place → read (prepared.Cell place) cells user ≡ scalar_or_fault (cell_named columns cells name)
  cell_there place is =
      read_cell cells user place
      ∙ ap scalar_or_fault (sym (placed columns cells name ∙ ap (λ (o : Option ℕ). option_and_then (slice_get cells) o) is))

  pub no_cell : place_of columns name ≡ None → read (prepared.Fault fault.NullReference) cells user ≡ scalar_or_fault (cell_named columns cells name)
  no_cell is =
      read_fault cells user fault.NullReference
      ∙ ap scalar_or_fault (sym (placed columns cells name ∙ ap (λ (o : Option ℕ). option_and_then (slice_get cells) o) is))
