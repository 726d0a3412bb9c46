-- Rows and numbers that rise are passed through once, side by side.
use Rattle.std.proofs.Common.{◌≡◌, ◌<◌, ◌≤◌, ◌+◌, ℕ, suc, Bool, true, false, not, List, [], ◌∷◌, length, refl, arith, ◌==◌, ap, sym, ◌∙◌, ne_eqb, nat_lt}
use Rattle.std.proofs.lemmas.Bool.{eqb-false, ltb-false, ltb-true}
use Rattle.std.specs.Prelude.{filter}
use Rattle.std.specs.List.{items_where_true}
use Rattle.std.specs.List.Retain.{IsFiltered, ReturnsInTurn}
use Rattle.std.specs.List.Sorted.{IsNonDecreasing}
use Rattle.lq_value.specs.declared.table.Row.{Row}
use Rattle.lq_store.specs.Calls.{is_listed}
use Rattle.lq_store.specs.Numbers.{Rise, from_number, is_first}
use Rattle.lq_store.specs.Rules.{AreNumbered}

-- numbers after the first rise too
behind : (first : ℕ) (numbers : List ℕ) → IsNonDecreasing (first ∷ numbers) → IsNonDecreasing numbers
behind first numbers up i j d e b = up (suc i) (suc j) d (omega (arith, e)) (omega (arith, b))

-- a number below the first isn't one of them
pub below_all : (first : ℕ) (numbers : List ℕ) (number : ℕ) → IsNonDecreasing (first ∷ numbers) → number < first → is_listed (first ∷ numbers) number ≡ false
below_all first [] number up below = rw (ne_eqb first number (omega (arith, below))) refl
below_all first (second ∷ numbers) number up below =
    let e : first ≤ second = up 0 1 0 (omega arith) (omega arith) in
    rw (ne_eqb first number (omega (arith, below))) (below_all second numbers number (behind first (second ∷ numbers) up) (omega (arith, below, e)))

-- those that are left are the same from the number on
pub same_from : (numbers : List ℕ) (number other : ℕ) → number ≤ other → is_listed (from_number numbers number) other ≡ is_listed numbers other
same_from [] number other e = refl
same_from (first ∷ numbers) number other e = by (nat_lt first number) refl (same_from numbers number other e)
  where
    by : (b : Bool) → nat_lt first number ≡ b → is_listed (from_number numbers number) other ≡ is_listed numbers other
        → is_listed (from_number (first ∷ numbers) number) other ≡ is_listed (first ∷ numbers) other
    by true f more = rw (f, ne_eqb first other (omega (arith, ltb-true first number f, e))) more
    by false f more = rw f refl

-- what is left rises too
rising_from : (numbers : List ℕ) (number : ℕ) → IsNonDecreasing numbers → IsNonDecreasing (from_number numbers number)
rising_from [] number up = up
rising_from (first ∷ numbers) number up = by (nat_lt first number) refl (rising_from numbers number (behind first numbers up))
  where
    by : (b : Bool) → nat_lt first number ≡ b → IsNonDecreasing (from_number numbers number) → IsNonDecreasing (from_number (first ∷ numbers) number)
    by true f more = rw f more
    by false f more = rw f up

-- a number is among those that are left where it is the first of them
first_of_rest : (numbers : List ℕ) (number : ℕ) → IsNonDecreasing numbers → is_first (from_number numbers number) number ≡ is_listed (from_number numbers number) number
first_of_rest [] number up = refl
first_of_rest (first ∷ numbers) number up =
    by (nat_lt first number) (first == number) refl refl (first_of_rest numbers number (behind first numbers up))
  where
    by : (b e : Bool) → nat_lt first number ≡ b → (first == number) ≡ e
        → is_first (from_number numbers number) number ≡ is_listed (from_number numbers number) number
        → is_first (from_number (first ∷ numbers) number) number ≡ is_listed (from_number (first ∷ numbers) number) number
    by true e f s more = rw f more
    by false true f s more = rw (f, s) refl
    by false false f s more =
        let low : number < first = omega (arith, ltb-false first number f, eqb-false first number s) in
        rw f (s ∙ sym (below_all first numbers number up low))

-- what a test knows before rows whose numbers rise from this bound on: of all numbers, those that are left are the same from the bound on
abbrev Knows : List ℕ → ℕ → List ℕ → Type 0
Knows all low left = IsNonDecreasing left × ((number : ℕ) → low ≤ number → is_listed left number ≡ is_listed all number)

module _ {F : Type 0} (R : F → Row → Bool → F → Type 0) (left : F → List ℕ)
    (step : (f : F) (row : Row) (b : Bool) (f' : F) → R f row b f' → (left f' ≡ from_number (left f) row.number) × (b ≡ not (is_first (left f') row.number)))
    (all : List ℕ) where
  abbrev test : Row → Bool
  test row = not (is_listed all row.number)

  -- a row is tested rightly, and what is known after it
  told : (f : F) (row : Row) (b : Bool) (f' : F) (low : ℕ) → R f row b f' → low ≤ row.number → Knows all low (left f)
      → (b ≡ test row) × Knows all (row.number + 1) (left f')
  told f row b f' low ran e knows =
      let one = step f row b f' ran in
      let first : is_first (left f') row.number ≡ is_listed all row.number =
      rw one.0 (first_of_rest (left f) row.number knows.0 ∙ same_from (left f) row.number row.number (omega arith) ∙ knows.1 row.number e) in (
        one.1 ∙ ap not first,
        (
          rw one.0 (rising_from (left f) row.number knows.0),
          λ number above. rw one.0 (same_from (left f) row.number number (omega (arith, above)) ∙ knows.1 number (omega (arith, above, e))),
        ),
      )

  kept : (b : Bool) (row : Row) (bs : List Bool) (rows : List Row) → b ≡ test row → items_where_true bs rows ≡ filter test rows
      → items_where_true (b ∷ bs) (row ∷ rows) ≡ filter test (row ∷ rows)
  kept true row bs rows e more = rw (sym e) (ap (λ l. row ∷ l) more)
  kept false row bs rows e more = rw (sym e) more

  through : (bs : List Bool) (rows : List Row) (f q : F) (low next : ℕ) → length bs ≡ length rows → AreNumbered low rows next → Knows all low (left f)
      → ReturnsInTurn R f bs rows q → items_where_true bs rows ≡ filter test rows
  through [] [] f q low next e rise knows ran = refl
  through [] (row ∷ rows) f q low next e rise knows ran = absurd (omega (arith, e))
  through (b ∷ bs) [] f q low next e rise knows ran = absurd ran
  through (b ∷ bs) (row ∷ rows) f q low next e rise knows ran =
      let one = told f row b ran.0 low ran.1 rise.0 knows in
      kept b row bs rows one.0 (through bs rows ran.0 q (row.number + 1) next (omega (arith, e)) rise.1 one.1 ran.2)

  -- rows are passed through by such a test
  pub passed : (f : F) (rows new : List Row) → Rise rows → IsNonDecreasing all → left f ≡ all → IsFiltered R f rows new → new ≡ filter test rows
  passed f rows new rise up e ran = ran.4 ∙ through ran.0 rows f ran.1 1 rise.0 ran.2 rise.1 (rw e up, λ number above. rw e refl) ran.3
