-- The last clause of a body is the only one whose call may produce the value of a `select`.
use Rattle.std.proofs.Common.{◌≡◌, ◌∷◌, ◌++◌, ◌&&◌, if◌then◌else◌, List, [], map, ℕ, Bool, true, false, not, Option, None, ap, ◌∙◌, refl}
use Rattle.lq_language.specs.declared.calls.Operator.{Operator}
use Rattle.lq_grammar.specs.declared.syntax.Clause.{Clause}
use Rattle.lq_grammar.specs.declared.syntax.Clause.TheVariants as clause
use Rattle.lq_grammar.specs.declared.syntax.Last.{Last}
use Rattle.lq_translate.specs.Translation.{fused_value, keeps_sole, operators_of, paired_operator, widens, with_clause}

module _ {X : Type 0} (is_name : X → List ℕ → Bool) (n : List ℕ) (d : Clause X) (l : Last X) where
  -- a clause that another one follows makes pairs
  pairs_first : (c : Clause X) (xs : List (Clause X)) → fused_value c (xs ++ d ∷ []) l ≡ None
  pairs_first (clause.From m f) [] = refl
  pairs_first (clause.From m f) (x ∷ xs) = refl
  pairs_first (clause.Join j) [] = refl
  pairs_first (clause.Join j) (x ∷ xs) = refl
  pairs_first (clause.Let m f) xs = refl
  pairs_first (clause.Where c) xs = refl
  pairs_first (clause.OrderBy ks) xs = refl

  sole_behind : (c : Clause X) (xs : List (Clause X)) (sole : Bool) → ((sole && not (widens c)) && keeps_sole xs) ≡ (sole && keeps_sole (c ∷ xs))
  sole_behind c xs false = refl
  sole_behind c xs true = by (widens c) where
    by : (b : Bool) → (not b && keeps_sole xs) ≡ (if b then false else keeps_sole xs)
    by true = refl
    by false = refl

  up_to_last : (xs : List (Clause X)) (used sole : Bool)
      → operators_of is_name n used sole (xs ++ d ∷ []) l ≡ map paired_operator xs ++ operators_of is_name n true (sole && keeps_sole xs) (d ∷ []) l
  up_to_last [] used false = refl
  up_to_last [] used true = refl
  up_to_last (c ∷ xs) used sole =
      ap (λ (o : Option X). with_clause o c (operators_of is_name n true (sole && not (widens c)) (xs ++ d ∷ []) l)) (pairs_first c xs)
      ∙ ap (λ (ops : List (Operator X)). paired_operator c ∷ ops)
      (up_to_last xs true (sole && not (widens c))
      ∙ ap (λ (s : Bool). map paired_operator xs ++ operators_of is_name n true s (d ∷ []) l) (sole_behind c xs sole))

  pub body_up_to_last : (xs : List (Clause X)) (clauses : List (Clause X)) → clauses ≡ xs ++ d ∷ []
      → operators_of is_name n false true clauses l ≡ map paired_operator xs ++ operators_of is_name n true (keeps_sole xs) (d ∷ []) l
  body_up_to_last xs clauses is = ap (λ (cs : List (Clause X)). operators_of is_name n false true cs l) is ∙ up_to_last xs false true
