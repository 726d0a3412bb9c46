-- The names of tables, by those of files.
use Rattle.std.proofs.Common.{arith, ◌≡◌, ◌≢◌, ◌<◌, ◌-◌, ◌==◌, ◌||◌, ◌∷◌, ◌++◌, ℕ, suc, Bool, true, false, List, [], length, take, get_or, codes, refl, sym, ◌∙◌, ap}
use Rattle.std.specs.List.{ends_with}
use Rattle.std.proofs.lemmas.Bool.Decides.{Decides-eqb, nat_tests}
use Rattle.std.proofs.lemmas.Slice.Eq.{ends_is}
use Rattle.lq_serve.specs.Loading.{has_slash, without_ending, without_folders}

either : (a b : Bool) → b ≡ true → (a || b) ≡ true
either true b e = refl
either false b e = e

has_slash-there : (front behind : List ℕ) → has_slash (front ++ 47 ∷ behind) ≡ true
has_slash-there [] behind = refl
has_slash-there (c ∷ rest) behind = either (c == 47) (has_slash (rest ++ 47 ∷ behind)) (has_slash-there rest behind)

-- what comes in front of a slash and the slash make no difference
pub without_folders-split : (front behind : List ℕ) → without_folders (front ++ 47 ∷ behind) ≡ without_folders behind
without_folders-split [] behind = refl
without_folders-split (c ∷ rest) behind = rw (has_slash-there (c ∷ rest) behind) (without_folders-split rest behind)

has_slash-none : (text : List ℕ) → ((i : ℕ) → i < length text → get_or text i 0 ≢ 47) → has_slash text ≡ false
has_slash-none [] none = refl
has_slash-none (c ∷ rest) none =
    let first : c ≢ 47 = none 0 (omega arith) in
    let others : has_slash rest ≡ false = has_slash-none rest (λ i below. none (suc i) (omega (arith, below))) in
    grind (arith, nat_tests, first, others)

-- a name without a slash stays as it is
pub without_folders-none : (text : List ℕ) → ((i : ℕ) → i < length text → get_or text i 0 ≢ 47) → without_folders text ≡ text
without_folders-none [] none = refl
without_folders-none (c ∷ rest) none = rw (has_slash-none (c ∷ rest) none) refl

pub without_ending-cut : (text front : List ℕ) (n : ℕ) → n ≡ 4 → text ≡ take (length text - n) text ++ codes ".csv" → front ≡ take (length text - n) text
    → front ≡ without_ending text
without_ending-cut text front n size split is =
    let ends : true ≡ ends_with (λ a b. a == b) text (codes ".csv") = sym ((ends_is Decides-eqb text (codes ".csv") _ refl).1 _ split) in
    rw (← ends) (is ∙ ap (λ k. take (length text - k) text) size)
