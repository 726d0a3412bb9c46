-- Host predicates: what is known of each, and what it answers.
use Rattle.std.specs.Prelude.{List, ℕ, ℤ, Bool, if◌then◌else◌, Option, Some, None, Result, Ok, Err, int_lt, slice_get, ◌||◌}
use Rattle.std.specs.Option.{option_and_then}
use Rattle.std.specs.FinSet.{contains}
use Rattle.lq_host.specs.AcceptedSets.{Numbers, Pairs, is_within, is_within_both}
use Rattle.lq_host.specs.declared.call.Pick2.{Pick2}
use Rattle.lq_host.specs.declared.call.Pick2.TheVariants as arguments
use Rattle.lq_host.specs.declared.error.HostError.{HostError}
use Rattle.lq_host.specs.declared.error.HostError.TheVariants.{EmptyRange}
use Rattle.lq_host.specs.declared.one.OneTest.{OneTest}
use Rattle.lq_host.specs.declared.two.TwoTest.{TwoTest}
use Rattle.lq_host.specs.declared.predicate.Test.{Test}
use Rattle.lq_host.specs.declared.predicate.Test.TheVariants as test
use Rattle.lq_host.specs.declared.predicate.HostPredicate.{HostPredicate}

-- A test: its range and its accepted numbers; or, of two arguments, a range for each, which make a rectangle, and its accepted pairs.
pub data Domain : Type 0 where
  OfOne : ℤ × ℤ → Numbers → Domain
  OfTwo : (ℤ × ℤ) × (ℤ × ℤ) → Pairs → Domain

-- a predicate: its name and its test
pub record Predicate : Type 0 where
  pub name : List ℕ
  pub domain : Domain

-- the answer of a test: whether the accepted set has the arguments, if they are as many as the test takes and within its range
abbrev pub domain_answer : Domain → Pick2 → Option Bool
domain_answer (OfOne range accepted) (arguments.One x) = if is_within range x then Some (contains accepted x) else None
domain_answer (OfTwo ranges accepted) (arguments.Two x y) = if is_within_both ranges (x, y) then Some (contains accepted (x, y)) else None
domain_answer _ _ = None

-- the answer of the predicate of a number, if there is one
abbrev pub answer_in : List Predicate → ℕ → Pick2 → Option Bool
answer_in predicates id xs = option_and_then (λ p. domain_answer p.domain xs) (slice_get predicates id)

-- the range of a predicate's first argument, and that of the second where it has two
abbrev pub ranges_of : Domain → (ℤ × ℤ) × Option (ℤ × ℤ)
ranges_of (OfOne range accepted) = (range, None)
ranges_of (OfTwo ranges accepted) = (ranges.0, Some ranges.1)

-- how many arguments a test takes
abbrev pub arity_of : Domain → ℕ
arity_of (OfOne range accepted) = 1
arity_of (OfTwo ranges accepted) = 2

-- whether one of a test's ranges has no number
abbrev pub has_empty_range : Domain → Bool
has_empty_range (OfOne range accepted) = int_lt range.1 range.0
has_empty_range (OfTwo ranges accepted) = int_lt ranges.0.1 ranges.0.0 || int_lt ranges.1.1 ranges.1.0

-- the predicate of a name and a test, or the refusal of one with an empty range
abbrev pub made_of : List ℕ → Domain → Result Predicate HostError
made_of name domain = if has_empty_range domain then Err EmptyRange else Ok (record { name = name; domain = domain })

-- ---- what the code keeps

-- the accepted set of a test of one number, and of one of two
abbrev pub numbers_of : {a b c : _} → OneTest a b c → Numbers
numbers_of test = test.accepted.0

abbrev pub pairs_of : {a b c : _} → TwoTest a b c → Pairs
pairs_of test = test.accepted.0

-- a test, by what is known of it
abbrev pub domain_of : {a b c d e f : _} → Test a b c d e f → Domain
domain_of (test.One one) = OfOne one.range (numbers_of one)
domain_of (test.Two two) = OfTwo two.ranges (pairs_of two)

-- a predicate, by what is known of it
abbrev pub predicate_of : {a b c d e f : _} → HostPredicate a b c d e f → Predicate
predicate_of p = record { name = p.name; domain = domain_of p.test }

-- what making a predicate answers, with the predicate as what is known of it
abbrev pub shown_made : {a b c d e f : _} → Result (HostPredicate a b c d e f) HostError → Result Predicate HostError
shown_made (Ok p) = Ok (predicate_of p)
shown_made (Err error) = Err error
