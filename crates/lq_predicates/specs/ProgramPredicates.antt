-- The host predicates of the programs: what each tests, in which range, and what is known of it.
use Rattle.std.specs.Prelude.{◌≡◌, ◌&&◌, ◌||◌, List, ℕ, ℤ, pos, neg_ℤ, Bool, true, false, not, codes, int_lt, int_rem, Option, Some, None}
use Rattle.std.specs.List.{list_any}
use Rattle.std.specs.Ordering.{int_eq}
use Rattle.lq_host.specs.AcceptedSets.{Numbers, Pairs, passing, passing_pairs}
use Rattle.lq_host.specs.Predicates.{OfOne, OfTwo, Predicate}
use Rattle.lq_predicates.specs.WatchLists.{numbers_of_list}

-- ---- tests

-- whether a number divides another one
abbrev pub divides : ℤ → ℤ → Bool
divides k n = int_eq (int_rem n k) (pos 0)

-- whether a year is a leap year of the Gregorian calendar: every fourth is, but of the full centuries only every fourth
abbrev pub is_leap_year : ℤ → Bool
is_leap_year year = (divides (pos 4) year && not (divides (pos 100) year)) || divides (pos 400) year

-- whether the first number of a pair is less than the second
abbrev pub is_under : ℤ × ℤ → Bool
is_under pair = int_lt pair.0 pair.1

-- whether a number is among some
abbrev pub is_among : List ℤ → ℤ → Bool
is_among numbers x = list_any (λ y. int_eq y x) numbers

-- the same, where there are numbers
abbrev pub is_among_those : Option (List ℤ) → ℤ → Bool
is_among_those (Some numbers) x = is_among numbers x
is_among_those None x = false

-- whether a number is among those of a list; a text that is no list has none
abbrev pub is_listed : List ℕ → ℤ → Bool
is_listed list = is_among_those (numbers_of_list list)

-- ---- ranges

-- the years
abbrev pub years : ℤ × ℤ
years = (pos 1, pos 9999)

-- the numbers that `Under` takes first
abbrev pub thousands : ℤ × ℤ
thousands = (neg_ℤ (pos 1000), pos 1000)

-- all numbers that a cell may have
abbrev pub every_int : ℤ × ℤ
every_int = (neg_ℤ (pos 2147483648), pos 2147483647)

-- ---- accepted sets

unfoldable pub leap_years : Numbers
leap_years = passing is_leap_year years

unfoldable pub pairs_under : Pairs
pairs_under = passing_pairs is_under (thousands, years)

unfoldable pub listed_numbers : List ℕ → Numbers
listed_numbers list = passing (is_listed list) every_int

-- ---- predicates

abbrev pub leap_year : Predicate
leap_year = record { name = codes "LeapYear"; domain = OfOne years leap_years }

abbrev pub under : Predicate
under = record { name = codes "Under"; domain = OfTwo (thousands, years) pairs_under }

-- the predicate of a list of numbers
abbrev pub watched : List ℕ → Predicate
watched list = record { name = codes "Watched"; domain = OfOne every_int (listed_numbers list) }

-- ---- boxed tests

-- A test, by what it may answer to what it is asked, computes a function within a range: it may give the function's answer, and no other one.
abbrev pub Computes : {K : Type 0} → (K → Bool) → (K → Bool) → (K → Bool → Type 0) → Type 0
Computes {K} within test answers =
    ((x : K) → within x ≡ true → (answer : Bool) → answers x answer → answer ≡ test x)
    × ((x : K) → within x ≡ true → answers x (test x))
