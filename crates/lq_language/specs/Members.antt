-- The members of an int? and of a text, and the methods that look for a text in another, by their names (.NET, Nullable<int> and String).
use Rattle.std.specs.Prelude.{◌≡◌, ◌∷◌, ◌||◌, if◌then◌else◌, List, [], ℕ, Bool, Option, Some, None, codes}
use Rattle.std.specs.Str.{bytes_eq}
use Rattle.lq_language.specs.declared.operation.Op.{Op}
use Rattle.lq_language.specs.declared.operation.Op.TheVariants as op
use Rattle.lq_grammar.specs.declared.syntax.Argument.{Argument}
use Rattle.lq_grammar.specs.declared.syntax.Argument.TheVariants as argument

-- The methods that look for a text in another.
pub data IsSearch (method : List ℕ) : Type 0 where
  starts : method ≡ codes "StartsWith" → IsSearch method
  ends : method ≡ codes "EndsWith" → IsSearch method
  contains : method ≡ codes "Contains" → IsSearch method

abbrev pub is_search : List ℕ → Bool
is_search m = bytes_eq m (codes "StartsWith") || bytes_eq m (codes "EndsWith") || bytes_eq m (codes "Contains")

-- what a member of this name is of a scalar, and a method of this name of a text
abbrev pub member_named : List ℕ → Option Op
member_named m =
    if bytes_eq m (codes "HasValue") then Some op.HasValue
    else (if bytes_eq m (codes "Value") then Some op.Value else (if bytes_eq m (codes "Length") then Some op.Length else None))

abbrev pub search_named : List ℕ → Option Op
search_named m =
    if bytes_eq m (codes "StartsWith") then Some op.StartsWith
    else (if bytes_eq m (codes "EndsWith") then Some op.EndsWith else (if bytes_eq m (codes "Contains") then Some op.Contains else None))

-- the one argument of a method that takes one and no lambda
abbrev pub sole_argument : {X : Type 0} → List (Argument X) → Option X
sole_argument (argument.Value a ∷ []) = Some a
sole_argument arguments = None
