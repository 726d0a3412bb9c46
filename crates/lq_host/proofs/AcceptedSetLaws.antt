-- Which numbers and pairs are in the accepted sets of tests, and that a test answers by such a set where it says exactly that: what a maker
-- of predicates has to show.
use Rattle.std.proofs.Common.{◌≡◌, ◌<ℤ◌, ◌≤ℤ◌, ◌+ℤ◌, ◌-ℤ◌, ◌&&◌, ◌||◌, ◌∷◌, List, [], map, ℕ, zero, suc, ℤ, pos, negsuc, Bool, true, false, T, refl, sym, ap, subst, ◌∙◌, arith}
use Rattle.std.proofs.lemmas.Int.{ints}
use Rattle.std.proofs.lemmas.List.Folds.{list_any-append}
use Rattle.std.specs.Prelude.{int_le}
use Rattle.std.specs.Cmp.{IsTotalOrder, both_ways, first_so, second_so, int_cmp_total, int_ranked, tied_then}
use Rattle.std.specs.FinSet.{IsAntisymmetric, contains, contains-from_list, contains-retain, from_list, int_cmp-IsAntisymmetric, retain}
use Rattle.std.specs.List.{flat_map, list_any}
use Rattle.std.specs.Ordering.{eq_by_cmp, int_cmp, is_eq}
use Rattle.std.specs.declared.cmp.Ordering.{Ordering}
use Rattle.std.specs.declared.cmp.Ordering.TheVariants.{Less, Equal, Greater}
use mathlib.Core.Bool.{true≢false}
use Rattle.lq_host.specs.AcceptedSets.{AnswersBy, is_within, is_within_both, numbers_from, numbers_up, numbers_within, pair_cmp, pair_cmp-IsAntisymmetric, pair_cmp_total, passing, passing_pairs}

-- ---- a test that says which items of a list pass

module _ {K : Type 0} {R : K → K → Ordering} (total : IsTotalOrder R) (apart : IsAntisymmetric R) (within : K → Bool) (all : List K)
    (complete : (x : K) → list_any (eq_by_cmp R x) all ≡ within x) (test : K → Bool) where
  contains_retained : (x : K) → contains (retain (from_list {R = R} all) test) x ≡ (within x && test x)
  contains_retained x =
      contains-retain (from_list {R = R} all) test x (λ y tie. ap test (sym (apart x y tie)))
      ∙ ap (λ b. b && test x) (contains-from_list total all x ∙ complete x)

  in_range : (x : K) → within x ≡ true → contains (retain (from_list {R = R} all) test) x ≡ test x
  in_range x inside = contains_retained x ∙ ap (λ b. b && test x) inside

  pub answers_by_retained : (answers : K → Bool → Type 0) → ((x : K) → within x ≡ true → (answer : Bool) → answers x answer → answer ≡ test x)
      → ((x : K) → within x ≡ true → answers x (test x)) → AnswersBy within answers (retain (from_list {R = R} all) test)
  answers_by_retained answers tells gives = (
    λ x inside answer given. tells x inside answer given ∙ sym (in_range x inside),
    λ x inside. ∣ subst (answers x) (sym (in_range x inside)) (gives x inside) ∣₁,
    λ x is. first_so (within x) (test x) (sym (contains_retained x) ∙ is),
  )

-- ---- the numbers of a range

at_least : (a b : ℤ) → int_le a b ≡ true → a ≤ℤ b
at_least a b e = record { le = subst T (sym e) tt }

true_of : (b : Bool) → T b → b ≡ true
true_of true t = refl
true_of false t = absurd t

found : (n : ℕ) (first x : ℤ) → first ≤ℤ x → x <ℤ (first +ℤ pos n) → list_any (eq_by_cmp int_cmp x) (numbers_from first n) ≡ true
found zero first x low high = absurd (omega (arith, ints, low, high))
found (suc n) first x low high = by (int_cmp x first) refl (found n (first +ℤ pos 1) x)
  where
    by : (r : Ordering) → int_cmp x first ≡ r
        → ((first +ℤ pos 1) ≤ℤ x → x <ℤ ((first +ℤ pos 1) +ℤ pos n) → list_any (eq_by_cmp int_cmp x) (numbers_from (first +ℤ pos 1) n) ≡ true)
        → (is_eq r || list_any (eq_by_cmp int_cmp x) (numbers_from (first +ℤ pos 1) n)) ≡ true
    by Equal e more = refl
    by Less e more = let below = int_ranked x first Less (sym e) in absurd (omega (arith, ints, low, below))
    by Greater e more = let above = int_ranked x first Greater (sym e) in more (omega (arith, ints, above)) (omega (arith, ints, high))

lies : (n : ℕ) (first x : ℤ) → list_any (eq_by_cmp int_cmp x) (numbers_from first n) ≡ true → (first ≤ℤ x) × (x <ℤ (first +ℤ pos n))
lies zero first x e = absurd (true≢false (sym e))
lies (suc n) first x e = by (int_cmp x first) refl e (lies n (first +ℤ pos 1) x)
  where
    by : (r : Ordering) → int_cmp x first ≡ r → (is_eq r || list_any (eq_by_cmp int_cmp x) (numbers_from (first +ℤ pos 1) n)) ≡ true
        → (list_any (eq_by_cmp int_cmp x) (numbers_from (first +ℤ pos 1) n) ≡ true → ((first +ℤ pos 1) ≤ℤ x) × (x <ℤ ((first +ℤ pos 1) +ℤ pos n)))
        → (first ≤ℤ x) × (x <ℤ (first +ℤ pos (suc n)))
    by Equal f g more = let same = int_ranked x first Equal (sym f) in (omega (arith, ints, same), omega (arith, ints, same))
    by Less f g more = let there = more g in (omega (arith, ints, there.0), omega (arith, ints, there.1))
    by Greater f g more = let there = more g in (omega (arith, ints, there.0), omega (arith, ints, there.1))

-- a number within two bounds is in their range
inside : (range : ℤ × ℤ) (x : ℤ) → range.0 ≤ℤ x → x ≤ℤ range.1 → is_within range x ≡ true
inside range x low high =
    let above : int_le range.0 x ≡ true = true_of (int_le range.0 x) low.le in
    let below : int_le x range.1 ≡ true = true_of (int_le x range.1) high.le in
    rw (above, below) refl

-- a number in a range is within its bounds
bounds : (range : ℤ × ℤ) (x : ℤ) → is_within range x ≡ true → (range.0 ≤ℤ x) × (x ≤ℤ range.1)
bounds range x e =
    (at_least range.0 x (first_so (int_le range.0 x) (int_le x range.1) e), at_least x range.1 (second_so (int_le range.0 x) (int_le x range.1) e))

-- the numbers of a range are those that are in it
pub numbers_of_range : (range : ℤ × ℤ) (x : ℤ) → list_any (eq_by_cmp int_cmp x) (numbers_within range) ≡ is_within range x
numbers_of_range range x = by (range.1 -ℤ range.0) refl
  where
    by : (d : ℤ) → range.1 -ℤ range.0 ≡ d → list_any (eq_by_cmp int_cmp x) (numbers_up range.0 d) ≡ is_within range x
    by (pos n) e = both_ways (list_any (eq_by_cmp int_cmp x) (numbers_from range.0 (suc n))) (is_within range x)
        (λ f. let there = lies (suc n) range.0 x f in inside range x there.0 (omega (arith, ints, there.1, e)))
        (λ f. let there = bounds range x f in found (suc n) range.0 x there.0 (omega (arith, ints, there.1, e)))
    by (negsuc n) e = both_ways false (is_within range x)
        (λ f. absurd (true≢false (sym f)))
        (λ f. let there = bounds range x f in absurd (omega (arith, ints, there.0, there.1, e)))

-- A test of numbers answers by those of its range that pass what it says.
pub answers_by_passing : (test : ℤ → Bool) (range : ℤ × ℤ) (answers : ℤ → Bool → Type 0)
    → ((x : ℤ) → is_within range x ≡ true → (answer : Bool) → answers x answer → answer ≡ test x)
    → ((x : ℤ) → is_within range x ≡ true → answers x (test x)) → AnswersBy (is_within range) answers (passing test range)
answers_by_passing test range answers =
    answers_by_retained int_cmp_total int_cmp-IsAntisymmetric (is_within range) (numbers_within range) (numbers_of_range range) test answers

-- which numbers these are
pub contains_passing : (test : ℤ → Bool) (range : ℤ × ℤ) (x : ℤ) → contains (passing test range) x ≡ (is_within range x && test x)
contains_passing test range =
    contains_retained int_cmp_total int_cmp-IsAntisymmetric (is_within range) (numbers_within range) (numbers_of_range range) test

-- ---- the pairs of a rectangle

tied_pair : (a b : ℤ) (x y : ℤ) → eq_by_cmp pair_cmp (a, b) (x, y) ≡ (eq_by_cmp int_cmp a x && eq_by_cmp int_cmp b y)
tied_pair a b x y = sym (tied_then (int_cmp a x) (int_cmp b y))

spread : (s t u : Bool) → ((s && t) || (s && u)) ≡ (s && (t || u))
spread true t u = refl
spread false t u = refl

-- a pair among those of one first number
in_row : (a b x : ℤ) (ys : List ℤ)
    → list_any (eq_by_cmp pair_cmp (a, b)) (map (λ y. (x, y)) ys) ≡ (eq_by_cmp int_cmp a x && list_any (eq_by_cmp int_cmp b) ys)
in_row a b x [] = by (eq_by_cmp int_cmp a x)
  where
    by : (s : Bool) → false ≡ (s && false)
    by true = refl
    by false = refl
in_row a b x (y ∷ ys) =
    (λ i. tied_pair a b x y i || in_row a b x ys i) ∙ spread (eq_by_cmp int_cmp a x) (eq_by_cmp int_cmp b y) (list_any (eq_by_cmp int_cmp b) ys)

gathered : (s t u : Bool) → ((s && u) || (t && u)) ≡ ((s || t) && u)
gathered true true true = refl
gathered true true false = refl
gathered true false true = refl
gathered true false false = refl
gathered false t u = refl

in_rows : (a b : ℤ) (xs ys : List ℤ)
    → list_any (eq_by_cmp pair_cmp (a, b)) (flat_map (λ x. map (λ y. (x, y)) ys) xs) ≡ (list_any (eq_by_cmp int_cmp a) xs && list_any (eq_by_cmp int_cmp b) ys)
in_rows a b [] ys = refl
in_rows a b (x ∷ xs) ys =
    list_any-append (eq_by_cmp pair_cmp (a, b)) (map (λ y. (x, y)) ys) (flat_map (λ x. map (λ y. (x, y)) ys) xs)
    ∙ (λ i. in_row a b x ys i || in_rows a b xs ys i)
    ∙ gathered (eq_by_cmp int_cmp a x) (list_any (eq_by_cmp int_cmp a) xs) (list_any (eq_by_cmp int_cmp b) ys)

-- the pairs of a rectangle are those that are in it
pub pairs_of_ranges : (ranges : (ℤ × ℤ) × (ℤ × ℤ)) (pair : ℤ × ℤ)
    → list_any (eq_by_cmp pair_cmp pair) (flat_map (λ x. map (λ y. (x, y)) (numbers_within ranges.1)) (numbers_within ranges.0)) ≡ is_within_both ranges pair
pairs_of_ranges ranges pair =
    in_rows pair.0 pair.1 (numbers_within ranges.0) (numbers_within ranges.1)
    ∙ (λ i. numbers_of_range ranges.0 pair.0 i && numbers_of_range ranges.1 pair.1 i)

-- A test of pairs answers by those of its rectangle that pass what it says.
pub answers_by_passing_pairs : (test : ℤ × ℤ → Bool) (ranges : (ℤ × ℤ) × (ℤ × ℤ)) (answers : ℤ × ℤ → Bool → Type 0)
    → ((x : ℤ × ℤ) → is_within_both ranges x ≡ true → (answer : Bool) → answers x answer → answer ≡ test x)
    → ((x : ℤ × ℤ) → is_within_both ranges x ≡ true → answers x (test x)) → AnswersBy (is_within_both ranges) answers (passing_pairs test ranges)
answers_by_passing_pairs test ranges answers =
    answers_by_retained pair_cmp_total pair_cmp-IsAntisymmetric (is_within_both ranges) (flat_map (λ x. map (λ y. (x, y)) (numbers_within ranges.1)) (numbers_within ranges.0))
    (pairs_of_ranges ranges) test answers

-- ---- numbers that are listed

-- A test of numbers that is true on listed ones, all of them in its range, answers by these.
pub answers_by_list : (range : ℤ × ℤ) (numbers : List ℤ) (answers : ℤ → Bool → Type 0)
    → ((x : ℤ) → list_any (eq_by_cmp int_cmp x) numbers ≡ true → is_within range x ≡ true)
    → ((x : ℤ) → is_within range x ≡ true → (answer : Bool) → answers x answer → answer ≡ list_any (eq_by_cmp int_cmp x) numbers)
    → ((x : ℤ) → is_within range x ≡ true → answers x (list_any (eq_by_cmp int_cmp x) numbers))
    → AnswersBy (is_within range) answers (from_list {R = int_cmp} numbers)
answers_by_list range numbers answers listed tells gives = (
  λ x within answer given. tells x within answer given ∙ sym (contains-from_list int_cmp_total numbers x),
  λ x within. ∣ subst (answers x) (sym (contains-from_list int_cmp_total numbers x)) (gives x within) ∣₁,
  λ x is. listed x (sym (contains-from_list int_cmp_total numbers x) ∙ is),
)
