-- Sums, counts and the best of numbers, item by item.
use Rattle.std.proofs.Common.{◌≡◌, ◌∷◌, ◌+◌, ◌<◌, ◌≤◌, if◌then◌else◌, List, [], ℕ, suc, ℤ, pos, ◌+ℤ◌, Bool, true, false, Option, Some, None, Result, Ok, Err, map, drop, drop-cons, get_or, length, ap, ◌∙◌, sym, refl, arith, SFits, w32}
use Rattle.std.specs.List.{cons_option}
use Rattle.std.proofs.lemmas.List.{drop_all}
use Rattle.std.proofs.lemmas.Option.{none-some, same_Some}
use Rattle.lq_language.proofs.IntLaws.{fit_is, is_fit}
use Rattle.lq_value.specs.declared.scalar.Scalar.{Scalar}
use Rattle.lq_value.specs.declared.scalar.Scalar.TheVariants as scalar
use Rattle.lq_value.specs.declared.ty.Ty.{Ty}
use Rattle.lq_value.specs.declared.value.End.{End}
use Rattle.lq_value.specs.declared.value.Fault.{Fault}
use Rattle.lq_value.specs.declared.value.Fault.TheVariants as fault
use Rattle.lq_value.specs.declared.value.Value.{Value, out-Value}
use Rattle.lq_value.specs.declared.value.Value.TheOpen.{Value-F}
use Rattle.lq_value.specs.declared.value.Value.TheVariants as value
use Rattle.lq_language.specs.Enumerable.{at_end, in_front, summed}
use Rattle.lq_language.specs.declared.methods.Simple.{Simple}
use Rattle.lq_language.specs.declared.methods.Simple.TheVariants as simple
use Rattle.lq_language.specs.OperandMeaning.{as_value}
use Rattle.lq_language.specs.Operations.{is_int, on_ok}
use Rattle.lq_language.specs.Stream.{Stream}
use Rattle.lq_language.specs.Meaning.{no_number, number_in, numbers, simple_meaning}
use Rattle.lq_operators.specs.Numbers.{best_more, best_with, sum_more}
use Rattle.lq_operators.specs.Tallies.{begins, goes_on, int_in, tallied, tally_result, tally_with}
use Rattle.lq_operators.specs.declared.numbers.Extreme.{Extreme}
use Rattle.lq_operators.specs.declared.numbers.Tally.{Tally}
use Rattle.lq_operators.specs.declared.numbers.Tally.TheVariants as tally

-- ---- sums

-- a number more, where checked arithmetic gave the sum, and where it gave none
pub sum_held : (total n more : ℤ) → SFits w32 (total +ℤ n) × (more ≡ total +ℤ n) → Ok more ≡ sum_more total n
sum_held total n more h =
    ap (λ m. Ok m) h.1 ∙ ap (λ (b : Bool). if b then Ok (total +ℤ n) else Err fault.Overflow) (sym (fit_is (total +ℤ n) h.0))

pub sum_past : (total n : ℤ) → (SFits w32 (total +ℤ n) → ⊥) → Err fault.Overflow ≡ sum_more total n
sum_past total n h = by (is_int (total +ℤ n)) refl where
  by : (b : Bool) → is_int (total +ℤ n) ≡ b → Err fault.Overflow ≡ (if b then Ok (total +ℤ n) else Err fault.Overflow)
  by true is = absurd (h (is_fit (total +ℤ n) is))
  by false is = refl

pub ruleset sums = (sum_held, sum_past)

-- ---- tallies

summed_by : (b : Bool) (m : ℤ) (ns : List ℤ) (e : End)
    → (if b then summed m ns e else Err fault.Overflow) ≡ on_ok (if b then Ok m else Err fault.Overflow) (λ k. summed k ns e)
summed_by true m ns e = refl
summed_by false m ns e = refl

-- a sum goes on from what it is with the next number
summed_on : (total n : ℤ) (ns : List ℤ) (e : End) (found : Result ℤ Fault) → found ≡ sum_more total n → summed total (n ∷ ns) e ≡ on_ok found (λ m. summed m ns e)
summed_on total n ns e found is = summed_by (is_int (total +ℤ n)) (total +ℤ n) ns e ∙ ap (λ m. on_ok m (λ k. summed k ns e)) (sym is)

best_by : (which : Extreme) (none : Result Scalar Fault) (best found : Option ℤ) (ns : List ℤ)
    → best_with which none best (cons_option found ns) ≡ best_with which none (best_more which best found) ns
best_by which none None None ns = refl
best_by which none None (Some n) ns = refl
best_by which none (Some m) None ns = refl
best_by which none (Some m) (Some n) ns = refl

pub told_is : (R : Type 0) (t : Ty) (k : Tally) (e : End) → tally_result t k e ≡ tallied {R = R} t k ([], e)
told_is R t (tally.Count n) e = refl
told_is R t (tally.Sum n) e = refl
told_is R t (tally.Best which best) e = refl

scalar_layer : (R : Type 0) (c : Scalar) → int_in c ≡ number_in {R = R} (Value-F.Scalar c)
scalar_layer R (scalar.Int n) = refl
scalar_layer R scalar.Null = refl
scalar_layer R (scalar.Bool b) = refl
scalar_layer R (scalar.Text x) = refl

pub scalar_number : (R : Type 0) (c : Scalar) → int_in c ≡ number_in (out-Value R (value.Scalar c))
scalar_number R c = scalar_layer R c ∙ ap number_in (sym (value.outs-Scalar c))

module _ {R : Type 0} where
  numbers_on : (x : Value R) (xs : List (Value R)) (found : Option ℤ) → found ≡ number_in (out-Value R x) → numbers (x ∷ xs) ≡ cons_option found (numbers xs)
  numbers_on x xs found is = ap (λ o. cons_option o (numbers xs)) (sym is)

  -- after a step, or the fault of it
  goes_by : {A : Type 0} (t : Ty) (k : A → Tally) (found : Result A Fault) (s : Stream (Value R))
      → goes_on t (on_ok found (λ n. Ok (k n))) s ≡ on_ok found (λ n. tallied t (k n) s)
  goes_by t k (Ok n) s = refl
  goes_by t k (Err f) s = refl

  -- an item that is this number, or none, is one step
  numbered : (k : Tally) (x : Value R) (number : Option ℤ) → number ≡ number_in (out-Value R x) → (t : Ty) (s : Stream (Value R))
      → tallied t k (in_front x s) ≡ goes_on t (tally_with k number) s
  numbered (tally.Count n) x number is t s =
      summed_on n (pos 1) (map (λ y. pos 1) s.0) s.1 (sum_more n (pos 1)) refl ∙ sym (goes_by t (λ m. tally.Count m) (sum_more n (pos 1)) s)
  numbered (tally.Sum n) x (Some m) is t s =
      ap (λ ns. summed n ns s.1) (numbers_on x s.0 (Some m) is) ∙ summed_on n m (numbers s.0) s.1 (sum_more n m) refl
      ∙ sym (goes_by t (λ k. tally.Sum k) (sum_more n m) s)
  numbered (tally.Sum n) x None is t s = ap (λ ns. summed n ns s.1) (numbers_on x s.0 None is)
  numbered (tally.Best which best) x number is t s =
      ap (λ ns. at_end s.1 (best_with which (no_number t) best ns)) (numbers_on x s.0 number is)
      ∙ ap (at_end s.1) (best_by which (no_number t) best number (numbers s.0))

  pub item_on : (k : Tally) (x : Value R) (number : Option ℤ) (found : Result Tally Fault) → number ≡ number_in (out-Value R x) → found ≡ tally_with k number
      → (t : Ty) (s : Stream (Value R)) → tallied t k (in_front x s) ≡ goes_on t found s
  item_on k x number found is found_is t s = numbered k x number is t s ∙ ap (λ o. goes_on t o s) (sym found_is)

  -- so is a scalar, and a row is no number
  pub scalar_on : (k : Tally) (c : Scalar) (found : Result Tally Fault) → found ≡ tally_with k (int_in c)
      → (t : Ty) (s : Stream (Value R)) → tallied t k (in_front (value.Scalar c) s) ≡ goes_on t found s
  scalar_on k c found is = item_on k (value.Scalar c) (int_in c) found (scalar_number R c) is

  pub row_on : (k : Tally) (r : R) (found : Result Tally Fault) → found ≡ tally_with k None
      → (t : Ty) (s : Stream (Value R)) → tallied t k (in_front (value.Row r) s) ≡ goes_on t found s
  row_on k r found is = item_on k (value.Row r) None found (ap number_in (sym (value.outs-Row r))) is

  -- one item more, and all of them
  pub tallied_next : (t : Ty) (k : Tally) (found : Result Tally Fault) (x : Value R) (items : List (Value R)) (i : ℕ) (e : End) (all : Result Scalar Fault)
      → x ≡ get_or items i x → i < length items → ((u : Ty) (s : Stream (Value R)) → tallied u k (in_front x s) ≡ goes_on u found s)
      → tallied t k (drop i items, e) ≡ all → goes_on t found (drop (i + 1) items, e) ≡ all
  tallied_next t k found x items i e all is below steps goes =
      let next : suc i ≡ i + 1 = omega arith in
      ap (λ n. goes_on t found (drop n items, e)) (sym next) ∙ sym (steps t (drop (suc i) items, e))
      ∙ ap (λ y. tallied t k (y ∷ drop (suc i) items, e)) is ∙ ap (λ l. tallied t k (l, e)) (sym (drop-cons items i x below)) ∙ goes

  pub tallied_whole : (t : Ty) (k : Tally) (items : List (Value R)) (i : ℕ) (e : End) (answer all : Result Scalar Fault) → length items ≤ i
      → answer ≡ tally_result t k e → tallied t k (drop i items, e) ≡ all → answer ≡ all
  tallied_whole t k items i e answer all over is goes = is ∙ told_is R t k e ∙ ap (λ l. tallied t k (l, e)) (sym (drop_all i items over)) ∙ goes

  -- a method's answer is its tally's
  pub begun : (method : Simple) (tally : Tally) → begins method ≡ Some tally → (t : Ty) (s : Stream (Value R))
      → simple_meaning method t s ≡ as_value (tallied t tally s)
  begun simple.Count tally is t s = ap (λ k. as_value (tallied t k s)) (same_Some _ _ is)
  begun simple.Sum tally is t s = ap (λ k. as_value (tallied t k s)) (same_Some _ _ is)
  begun simple.Min tally is t s = ap (λ k. as_value (tallied t k s)) (same_Some _ _ is)
  begun simple.Max tally is t s = ap (λ k. as_value (tallied t k s)) (same_Some _ _ is)
  begun simple.Distinct tally is t s = absurd (none-some _ is)
  begun simple.Reverse tally is t s = absurd (none-some _ is)
  begun simple.DefaultIfEmpty tally is t s = absurd (none-some _ is)
  begun simple.Any tally is t s = absurd (none-some _ is)
  begun simple.First tally is t s = absurd (none-some _ is)
  begun simple.FirstOrDefault tally is t s = absurd (none-some _ is)
  begun simple.Last tally is t s = absurd (none-some _ is)
  begun simple.Single tally is t s = absurd (none-some _ is)
  begun simple.SingleOrDefault tally is t s = absurd (none-some _ is)

pub ruleset items_on = (item_on)
