-- «Operator meaning» of the methods of sequences, each a function on streams, item by item (.NET, Enumerable). A fault that ends the
-- source is met where its items end, and not at all where an operator has stopped before. `Where` and `Select` are in `Stream`.
use Rattle.std.specs.Prelude.{◌∷◌, ◌||◌, if◌then◌else◌, not, List, [], map, filter, fold, ℕ, zero, suc, ℤ, pos, negsuc, ◌+ℤ◌, Bool, true, false, Result, Ok, Err, int_le, drop, reverse}
use Rattle.lq_value.specs.declared.scalar.Scalar.{Scalar}
use Rattle.lq_value.specs.declared.scalar.Scalar.TheVariants as scalar
use Rattle.lq_value.specs.declared.value.End.{End}
use Rattle.lq_value.specs.declared.value.End.TheVariants as end
use Rattle.lq_value.specs.declared.value.Fault.{Fault}
use Rattle.lq_value.specs.declared.value.Fault.TheVariants as fault
use Rattle.lq_language.specs.Operations.{is_int, on_ok}
use Rattle.lq_language.specs.Stream.{Stream, first_keys, then_stream, whole}

-- ---- what follows

-- one item, and after it the rest
abbrev pub in_front : {A : Type 0} → A → Stream A → Stream A
in_front x rest = (x ∷ rest.0, rest.1)

-- what is found where a source comes to its end; the fault that ends it comes before that
abbrev pub at_end : {B : Type 0} → End → Result B Fault → Result B Fault
at_end end.Done found = found
at_end (end.Fault f) found = Err f

-- how many items a number asks for: none where it is below 1
abbrev pub as_count : ℤ → ℕ
as_count (pos n) = n
as_count (negsuc n) = 0

-- ---- sequences

-- Concat: the first, and where it comes to its end the second
abbrev pub concat : {A : Type 0} → Stream A → Stream A → Stream A
concat = then_stream

-- Distinct: each item at its first appearance
abbrev pub distinct : {A : Type 0} → (A → A → Bool) → List A → End → Stream A
distinct same xs e = (first_keys same xs, e)

-- Union: the distinct items of both, one after the other
abbrev pub union : {A : Type 0} → (A → A → Bool) → Stream A → Stream A → Stream A
union same xs ys = let both = concat xs ys in distinct same both.0 both.1

-- whether an item is the same as one of these
abbrev pub is_among : {A : Type 0} → (A → A → Bool) → A → List A → Bool
is_among same x [] = false
is_among same x (y ∷ ys) = same x y || is_among same x ys

-- Intersect and Except: the second is read whole first; then the distinct items of the first that are in it, or are not
abbrev pub intersect : {A : Type 0} → (A → A → Bool) → Stream A → Stream A → Stream A
intersect same xs ys = whole ys.0 ys.1 (λ zs. (filter (λ x. is_among same x zs) (first_keys same xs.0), xs.1))

abbrev pub except : {A : Type 0} → (A → A → Bool) → Stream A → Stream A → Stream A
except same xs ys = whole ys.0 ys.1 (λ zs. (filter (λ x. not (is_among same x zs)) (first_keys same xs.0), xs.1))

-- Reverse: the source is read whole
abbrev pub reversed : {A : Type 0} → List A → End → Stream A
reversed xs e = whole xs e (λ ys. (reverse ys, end.Done))

-- Skip: what comes after so many items
abbrev pub skip : {A : Type 0} → ℕ → List A → End → Stream A
skip n xs e = (drop n xs, e)

-- Take: so many items; nothing is read for none, and nothing after the last of them
abbrev pub take_first : {A : Type 0} → ℕ → List A → End → Stream A
take_first zero xs e = ([], end.Done)
take_first (suc n) [] e = ([], e)
take_first (suc n) (x ∷ xs) e = in_front x (take_first n xs e)

-- DefaultIfEmpty: where the source comes to its end without an item, the default
abbrev pub default_if_empty : {A : Type 0} → A → List A → End → Stream A
default_if_empty default [] end.Done = (default ∷ [], end.Done)
default_if_empty default [] (end.Fault f) = ([], end.Fault f)
default_if_empty default (x ∷ xs) e = (x ∷ xs, e)

-- ---- truth values

-- Any: stops at the first item
abbrev pub any : {A : Type 0} → List A → End → Result Bool Fault
any [] e = at_end e (Ok false)
any (x ∷ xs) e = Ok true

-- All: stops at the first item on which the condition is false, or faults
abbrev pub all : {A : Type 0} → (A → Result Bool Fault) → List A → End → Result Bool Fault
all condition [] e = at_end e (Ok true)
all condition (x ∷ xs) e = on_ok (condition x) (λ holds. if holds then all condition xs e else Ok false)

-- Contains: stops at the first item that is the same
abbrev pub contains : {A : Type 0} → (A → A → Bool) → A → List A → End → Result Bool Fault
contains same v [] e = at_end e (Ok false)
contains same v (x ∷ xs) e = if same v x then Ok true else contains same v xs e

-- ---- items

-- First and FirstOrDefault: stop at the first item. `none` is the answer where there is none: a fault, or the default.
abbrev pub first : {A : Type 0} → Result A Fault → List A → End → Result A Fault
first none [] e = at_end e none
first none (x ∷ xs) e = Ok x

-- Last: reads all
abbrev pub last_of : {A : Type 0} → Result A Fault → List A → Result A Fault
last_of none [] = none
last_of none (x ∷ xs) = last_of (Ok x) xs

abbrev pub last : {A : Type 0} → Result A Fault → List A → End → Result A Fault
last none xs e = at_end e (last_of none xs)

-- Single and SingleOrDefault: stop at a second item, which is a fault
abbrev pub single : {A : Type 0} → Result A Fault → List A → End → Result A Fault
single none [] e = at_end e none
single none (x ∷ []) e = at_end e (Ok x)
single none (x ∷ y ∷ ys) e = Err fault.InvalidOperation

-- ElementAt: stops at the item after so many
abbrev pub item_behind : {A : Type 0} → ℕ → List A → End → Result A Fault
item_behind n [] e = at_end e (Err fault.ArgumentOutOfRange)
item_behind zero (x ∷ xs) e = Ok x
item_behind (suc n) (x ∷ xs) e = item_behind n xs e

-- nothing is read for a number below 0
abbrev pub element_at : {A : Type 0} → ℤ → List A → End → Result A Fault
element_at (pos n) xs e = item_behind n xs e
element_at (negsuc n) xs e = Err fault.ArgumentOutOfRange

-- ---- numbers

-- Sum: the running sum, which may leave int at an item, before what comes after it
abbrev pub summed : ℤ → List ℤ → End → Result Scalar Fault
summed total [] e = at_end e (Ok (scalar.Int total))
summed total (n ∷ ns) e = if is_int (total +ℤ n) then summed (total +ℤ n) ns e else Err fault.Overflow

-- Count: a one for each item
abbrev pub count : {A : Type 0} → List A → End → Result Scalar Fault
count xs e = summed (pos 0) (map (λ x. pos 1) xs) e

-- the lesser and the greater of two numbers
abbrev pub lesser : ℤ → ℤ → ℤ
lesser m n = if int_le m n then m else n

abbrev pub greater : ℤ → ℤ → ℤ
greater m n = if int_le m n then n else m

-- Min and Max read all
abbrev pub extreme : (ℤ → ℤ → ℤ) → Result Scalar Fault → List ℤ → Result Scalar Fault
extreme choose none [] = none
extreme choose none (n ∷ ns) = Ok (scalar.Int (fold choose n ns))

abbrev pub least : Result Scalar Fault → List ℤ → End → Result Scalar Fault
least none ns e = at_end e (extreme lesser none ns)

abbrev pub greatest : Result Scalar Fault → List ℤ → End → Result Scalar Fault
greatest none ns e = at_end e (extreme greater none ns)
