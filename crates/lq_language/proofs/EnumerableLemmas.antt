-- Methods of sequences stop, read and fault as their laws say.
use Rattle.std.proofs.Common.{◌≡◌, ◌∷◌, ◌++◌, if◌then◌else◌, List, [], filter, pos, ◌+ℤ◌, Bool, true, false, not, Result, Ok, Err, ap, refl, length}
use Rattle.lq_value.specs.declared.value.End.{End}
use Rattle.lq_value.specs.declared.value.End.TheVariants as end
use Rattle.lq_value.specs.declared.value.Fault.{Fault}
use Rattle.lq_value.specs.declared.value.Fault.TheVariants as fault
use Rattle.lq_language.specs.Enumerable.{all, contains, distinct, element_at, in_front, summed, take_first}
use Rattle.lq_language.specs.EnumerableLaws.{AnswersNone, ComparesAll, KeepsFirstAppearances, MeetsTheEnding, ReadsNothing, StopsAtItems, SumsInTurn}
use Rattle.lq_language.specs.ValuesOfTypes.{Every}
use Rattle.lq_language.specs.Operations.{on_ok}
use Rattle.lq_language.proofs.ItemLaws.{every_more, every_none}

element_there : {A : Type 0} (x : A) (xs ys : List A) (e : End) → element_at (pos (length xs)) (xs ++ x ∷ ys) e ≡ Ok x
element_there x [] ys e = refl
element_there x (y ∷ xs) ys e = element_there x xs ys e

all_taken : {A : Type 0} (xs ys : List A) (e : End) → take_first (length xs) (xs ++ ys) e ≡ (xs, end.Done)
all_taken [] ys e = refl
all_taken (x ∷ xs) ys e = ap (in_front x) (all_taken xs ys e)

pub stops_at_items : {A : Type 0} → StopsAtItems A
stops_at_items x y xs ys e none = (
  refl,
  refl,
  refl,
  element_there x xs ys e,
  all_taken xs ys e,
  (λ c fails. ap (λ (o : Result Bool Fault). on_ok o (λ holds. if holds then all c xs e else Ok false)) fails),
  (λ same v is. ap (λ (b : Bool). if b then Ok true else contains same v xs e) is),
)

pub meets_the_ending : {A : Type 0} → MeetsTheEnding A
meets_the_ending x xs s f none same = (refl, refl, refl, refl, refl, refl, refl, refl, refl)

pub reads_nothing : {A : Type 0} → ReadsNothing A
reads_nothing xs e n = (refl, refl, refl, refl)

pub answers_none : {A : Type 0} → AnswersNone A
answers_none x none n = (refl, refl, refl, refl, refl, refl)

one_left : {A : Type 0} (P : A → Type 0) (y : A) (rest : List A) → Every P rest → (b : Bool) → (b ≡ false → P y) → Every P (if not b then y ∷ rest else rest)
one_left P y rest ps true p = ps
one_left P y rest ps false p = every_more P y rest (p refl) ps

others_left : {A : Type 0} (same : A → A → Bool) (x : A) (ys : List A) → Every (λ y. same x y ≡ false) (filter (λ y. not (same x y)) ys)
others_left same x [] = every_none (λ y. same x y ≡ false)
others_left same x (y ∷ ys) = one_left (λ z. same x z ≡ false) y (filter (λ z. not (same x z)) ys) (others_left same x ys) (same x y) (λ is. is)

pub keeps_first_appearances : {A : Type 0} → KeepsFirstAppearances A
keeps_first_appearances same x xs ys d e = (refl, refl, others_left same x (distinct same xs e).0)

pub sums_in_turn : SumsInTurn
sums_in_turn total n ns e = (
  (λ out. ap (λ (b : Bool). if b then summed (total +ℤ n) ns e else Err fault.Overflow) out),
  (λ within. ap (λ (b : Bool). if b then summed (total +ℤ n) ns e else Err fault.Overflow) within),
  refl,
)

pub compares_all : ComparesAll
compares_all none ns f = (refl, refl, refl, refl)
