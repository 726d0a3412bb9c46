-- The names of methods of sequences, in lists (.NET, Enumerable).
use Rattle.std.specs.Prelude.{◌∷◌, List, [], ℕ, codes}
use Rattle.lq_language.specs.declared.methods.Given.{Given}
use Rattle.lq_language.specs.declared.methods.Given.TheVariants as given
use Rattle.lq_language.specs.declared.methods.Simple.{Simple}
use Rattle.lq_language.specs.declared.methods.Simple.TheVariants as simple
use Rattle.lq_language.specs.declared.methods.Through.{Through}
use Rattle.lq_language.specs.declared.methods.Through.TheVariants as through

abbrev pub simple_names : List (List ℕ × Simple)
simple_names =
    (codes "Distinct", simple.Distinct) ∷ (codes "Reverse", simple.Reverse) ∷ (codes "DefaultIfEmpty", simple.DefaultIfEmpty) ∷ (codes "Any", simple.Any) ∷ (codes "Count", simple.Count)
    ∷ (codes "First", simple.First) ∷ (codes "FirstOrDefault", simple.FirstOrDefault) ∷ (codes "Last", simple.Last) ∷ (codes "Single", simple.Single)
    ∷ (codes "SingleOrDefault", simple.SingleOrDefault) ∷ (codes "Sum", simple.Sum) ∷ (codes "Min", simple.Min) ∷ (codes "Max", simple.Max) ∷ []

abbrev pub names_with_values : List (List ℕ × Given)
names_with_values =
    (codes "Concat", given.Concat) ∷ (codes "Union", given.Union) ∷ (codes "Intersect", given.Intersect) ∷ (codes "Except", given.Except)
    ∷ (codes "Skip", given.Skip) ∷ (codes "Take", given.Take) ∷ (codes "ElementAt", given.ElementAt) ∷ (codes "Contains", given.Contains) ∷ []

abbrev pub names_with_lambdas : List (List ℕ × Through)
names_with_lambdas =
    (codes "Where", through.Where) ∷ (codes "Select", through.Select) ∷ (codes "All", through.All) ∷ (codes "Any", through.Those simple.Any) ∷ (codes "Count", through.Those simple.Count)
    ∷ (codes "First", through.Those simple.First) ∷ (codes "FirstOrDefault", through.Those simple.FirstOrDefault) ∷ (codes "Last", through.Those simple.Last)
    ∷ (codes "Single", through.Those simple.Single) ∷ (codes "SingleOrDefault", through.Those simple.SingleOrDefault)
    ∷ (codes "Sum", through.Values simple.Sum) ∷ (codes "Min", through.Values simple.Min) ∷ (codes "Max", through.Values simple.Max) ∷ []
