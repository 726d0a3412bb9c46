-- The steps that the functions of `Parsing` are made of, forwards: what each reads.
use Rattle.std.proofs.Common.{arith, ◌≡◌, ◌≤◌, ◌<◌, ◌+◌, ℕ, suc, zero, true, false, List, ◌∷◌, ◌++◌, refl, ap, length}
use Rattle.std.specs.Prelude.{Some, option_and_then}
use Rattle.std.proofs.lemmas.List.{append_assoc, length-append}
use denote.Enum.Bare.{true_same, false_same}
use Rattle.lq_grammar.specs.Parsing.{Parser, pure, ◌>>=◌, same_kind, expect, begins_with, begins_with_two, after, name}
use Rattle.lq_grammar.specs.Tokens.{text_of}
use Rattle.lq_grammar.specs.contracts.token.Kind.{the_type}
use Rattle.lq_grammar.specs.declared.token.Kind.{Kind}
use Rattle.lq_grammar.specs.declared.token.Kind.TheVariants as k
use Rattle.lq_grammar.specs.declared.token.Token.{Token}

-- ---- kinds

pub same_kind_true : (a b : Kind) → a ≡ b → same_kind a b ≡ true
unfolding same_kind
same_kind_true a b is = true_same the_type a b is

pub same_kind_false : (a b : Kind) → (a ≡ b → ⊥) → same_kind a b ≡ false
unfolding same_kind
same_kind_false a b differ = false_same the_type tt a b differ

-- ---- steps

pub bind_step : {A B : Type 0} (p : Parser A) (f : A → Parser B) (ts mid : List Token) (x : A) → p ts ≡ Some (x, mid) → (p >>= f) ts ≡ f x mid
bind_step p f ts mid x e = ap (λ o. option_and_then (λ r. f r.0 r.1) o) e

pub expect_reads : (kind : Kind) (t : Token) (rest : List Token) → t.kind ≡ kind → expect kind (t ∷ rest) ≡ Some (t, rest)
unfolding expect
expect_reads kind t rest is = let same : same_kind t.kind kind ≡ true = same_kind_true t.kind kind is in rw same refl

-- a token of a kind that is expected, and what reads the tokens after it
pub expect_step : {B : Type 0} (kind : Kind) (f : Token → Parser B) (t : Token) (rest : List Token) → t.kind ≡ kind → (expect kind >>= f) (t ∷ rest) ≡ f t rest
expect_step kind f t rest is = bind_step (expect kind) f (t ∷ rest) rest t (expect_reads kind t rest is)

pub begins_true : (kind : Kind) (t : Token) (rest : List Token) → t.kind ≡ kind → begins_with kind (t ∷ rest) ≡ true
unfolding begins_with
begins_true kind t rest is = same_kind_true t.kind kind is

pub begins_false : (kind : Kind) (t : Token) (rest : List Token) → (t.kind ≡ kind → ⊥) → begins_with kind (t ∷ rest) ≡ false
unfolding begins_with
begins_false kind t rest differ = same_kind_false t.kind kind differ

pub pair_true : (first second : Kind) (t u : Token) (rest : List Token) → t.kind ≡ first → u.kind ≡ second → begins_with_two first second (t ∷ u ∷ rest) ≡ true
unfolding begins_with_two
pair_true first second t u rest t_is u_is = rw (same_kind_true t.kind first t_is) (begins_true second u rest u_is)

-- not a pair, since the first token is of another kind
pub pair_false : (first second : Kind) (t : Token) (rest : List Token) → (t.kind ≡ first → ⊥) → begins_with_two first second (t ∷ rest) ≡ false
unfolding begins_with_two
pair_false first second t rest differ = rw (same_kind_false t.kind first differ) refl

-- not a pair, since what follows the first token is of another kind
pub pair_half : (first second : Kind) (t : Token) (rest : List Token) → t.kind ≡ first → begins_with second rest ≡ false → begins_with_two first second (t ∷ rest) ≡ false
unfolding begins_with_two
pair_half first second t rest t_is other = rw (same_kind_true t.kind first t_is) other

pub after_sees : {A : Type 0} (kind : Kind) (found other : Parser A) (t : Token) (rest : List Token) → t.kind ≡ kind → after kind found other (t ∷ rest) ≡ found rest
unfolding after
after_sees kind found other t rest is = rw (begins_true kind t rest is) (expect_step kind (λ token. found) t rest is)

pub after_skips : {A : Type 0} (kind : Kind) (found other : Parser A) (ts : List Token) → begins_with kind ts ≡ false → after kind found other ts ≡ other ts
unfolding after
after_skips kind found other ts skips = rw skips refl

pub name_step : {B : Type 0} (line : List ℕ) (f : List ℕ → Parser B) (t : Token) (rest : List Token) → t.kind ≡ k.Name → (name line >>= f) (t ∷ rest) ≡ f (text_of line t) rest
unfolding name
name_step line f t rest is = bind_step (name line) f (t ∷ rest) rest (text_of line t) (expect_step k.Name (λ token. pure (text_of line token)) t rest is)

-- ---- lists

-- what is in front, between and after
pub split_middle : (xs : List Token) (t : Token) (ys rest : List Token) → (xs ++ t ∷ ys) ++ rest ≡ xs ++ t ∷ (ys ++ rest)
split_middle xs t ys rest = append_assoc xs (t ∷ ys) rest

pub fits_left : (xs ys : List Token) (n : ℕ) → length (xs ++ ys) ≤ n → length xs ≤ n
fits_left xs ys n le = let both : length (xs ++ ys) ≡ length xs + length ys = length-append xs ys in omega arith

pub fits_right : (xs ys : List Token) (n : ℕ) → length (xs ++ ys) ≤ n → length ys ≤ n
fits_right xs ys n le = let both : length (xs ++ ys) ≡ length xs + length ys = length-append xs ys in omega arith

pub shorter : (ts rest : List Token) → length rest ≤ length (ts ++ rest)
shorter ts rest = let both : length (ts ++ rest) ≡ length ts + length rest = length-append ts rest in omega arith

-- one more turn, after a front and a token
pub turn : (turns : ℕ) (t : Token) (ys rest : List Token) → length (t ∷ (ys ++ rest)) ≤ turns → (less : ℕ) × (turns ≡ suc less) × (length rest ≤ less)
turn zero t ys rest le = absurd (omega arith)
turn (suc less) t ys rest le = let longer : length rest ≤ length (ys ++ rest) = shorter ys rest in (less, refl, omega arith)

-- one more turn, after a row that isn't empty
pub turn_row : (turns : ℕ) (ys rest : List Token) → 1 ≤ length ys → length (ys ++ rest) ≤ turns → (less : ℕ) × (turns ≡ suc less) × (length rest ≤ less)
turn_row zero ys rest some le = let both : length (ys ++ rest) ≡ length ys + length rest = length-append ys rest in absurd (omega arith)
turn_row (suc less) ys rest some le = let both : length (ys ++ rest) ≡ length ys + length rest = length-append ys rest in (less, refl, omega arith)

pub less_left : (xs ys : List Token) (n : ℕ) → length (xs ++ ys) < n → length xs < n
less_left xs ys n less = let both : length (xs ++ ys) ≡ length xs + length ys = length-append xs ys in omega arith

pub less_right : (xs ys : List Token) (n : ℕ) → length (xs ++ ys) < n → length ys < n
less_right xs ys n less = let both : length (xs ++ ys) ≡ length xs + length ys = length-append xs ys in omega arith

-- the tokens after a row and one token more
pub less_behind : (xs : List Token) (t : Token) (ys : List Token) (n : ℕ) → length (xs ++ t ∷ ys) ≤ n → length ys < n
less_behind xs t ys n le = let both : length (xs ++ t ∷ ys) ≡ length xs + length (t ∷ ys) = length-append xs (t ∷ ys) in omega arith
