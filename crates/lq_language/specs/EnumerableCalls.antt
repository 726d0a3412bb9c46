-- Which methods of sequences there are, by their names and arguments (.NET, Enumerable).
use Rattle.std.specs.Prelude.{◌∷◌, if◌then◌else◌, List, [], ℕ, Option, Some, None, codes, option_map}
use Rattle.std.specs.Str.{bytes_eq}
use Rattle.lq_grammar.specs.declared.syntax.Argument.{Argument}
use Rattle.lq_grammar.specs.declared.syntax.Argument.TheVariants as argument
pub use Rattle.lq_language.specs.declared.methods.Simple.{Simple}
pub use Rattle.lq_language.specs.declared.methods.Simple.TheVariants.{Distinct, Reverse, DefaultIfEmpty, Any, Count, First, FirstOrDefault, Last, Single, SingleOrDefault, Sum, Min, Max}
pub use Rattle.lq_language.specs.declared.methods.Given.{Given}
pub use Rattle.lq_language.specs.declared.methods.Given.TheVariants.{Concat, Union, Intersect, Except, Skip, Take, ElementAt, Contains}
pub use Rattle.lq_language.specs.declared.methods.Through.{Through}
pub use Rattle.lq_language.specs.declared.methods.Through.TheVariants.{Where, Select, All, Those, Values}

-- A method of a sequence with its argument: none, a value, or a lambda with its parameter and its body.
pub data EnumerableCall (X : Type 0) : Type 0 where
  Plain : Simple → EnumerableCall X
  With : Given → X → EnumerableCall X
  By : Through → List ℕ → X → EnumerableCall X

-- what is known by a name
abbrev pub by_name : {A : Type 0} → List ℕ → List (List ℕ × A) → Option A
by_name m [] = None
by_name m (entry ∷ entries) = if bytes_eq m entry.0 then Some entry.1 else by_name m entries

unfoldable pub simple_method : List ℕ → Option Simple
simple_method m =
    by_name m
    ((codes "Distinct", Distinct) ∷ (codes "Reverse", Reverse) ∷ (codes "DefaultIfEmpty", DefaultIfEmpty) ∷ (codes "Any", Any) ∷ (codes "Count", Count)
    ∷ (codes "First", First) ∷ (codes "FirstOrDefault", FirstOrDefault) ∷ (codes "Last", Last) ∷ (codes "Single", Single)
    ∷ (codes "SingleOrDefault", SingleOrDefault) ∷ (codes "Sum", Sum) ∷ (codes "Min", Min) ∷ (codes "Max", Max) ∷ [])

unfoldable pub method_with_value : List ℕ → Option Given
method_with_value m =
    by_name m
    ((codes "Concat", Concat) ∷ (codes "Union", Union) ∷ (codes "Intersect", Intersect) ∷ (codes "Except", Except)
    ∷ (codes "Skip", Skip) ∷ (codes "Take", Take) ∷ (codes "ElementAt", ElementAt) ∷ (codes "Contains", Contains) ∷ [])

unfoldable pub method_with_lambda : List ℕ → Option Through
method_with_lambda m =
    by_name m
    ((codes "Where", Where) ∷ (codes "Select", Select) ∷ (codes "All", All) ∷ (codes "Any", Those Any) ∷ (codes "Count", Those Count)
    ∷ (codes "First", Those First) ∷ (codes "FirstOrDefault", Those FirstOrDefault) ∷ (codes "Last", Those Last)
    ∷ (codes "Single", Those Single) ∷ (codes "SingleOrDefault", Those SingleOrDefault)
    ∷ (codes "Sum", Values Sum) ∷ (codes "Min", Values Min) ∷ (codes "Max", Values Max) ∷ [])

-- the method of this name that takes these arguments
abbrev pub enumerable_call : {X : Type 0} → List ℕ → List (Argument X) → Option (EnumerableCall X)
enumerable_call m [] = option_map Plain (simple_method m)
enumerable_call m (argument.Value x ∷ []) = option_map (λ given. With given x) (method_with_value m)
enumerable_call m (argument.Lambda n x ∷ []) = option_map (λ through. By through n x) (method_with_lambda m)
enumerable_call m arguments = None
