-- Which method a call is doesn't depend on what its argument is.
use Rattle.std.proofs.Common.{◌≡◌, ◌∷◌, List, [], map, ℕ, Option, Some, None, refl, option_map}
use Rattle.lq_language.specs.EnumerableCalls.{Given, Simple, Through, By, Plain, With, enumerable_call, method_with_lambda, method_with_value, simple_method}
use Rattle.lq_language.specs.Maps.{map_argument, map_enumerable}
use Rattle.lq_grammar.specs.declared.syntax.Argument.{Argument}
use Rattle.lq_grammar.specs.declared.syntax.Argument.TheVariants as argument

module _ {X Y : Type 0} (f : X → Y) where
  plain_maps : (o : Option Simple) → option_map Plain o ≡ option_map (map_enumerable f) (option_map Plain o)
  plain_maps None = refl
  plain_maps (Some method) = refl

  given_maps : (x : X) (o : Option Given) → option_map (λ given. With given (f x)) o ≡ option_map (map_enumerable f) (option_map (λ given. With given x) o)
  given_maps x None = refl
  given_maps x (Some method) = refl

  through_maps : (n : List ℕ) (x : X) (o : Option Through)
      → option_map (λ through. By through n (f x)) o ≡ option_map (map_enumerable f) (option_map (λ through. By through n x) o)
  through_maps n x None = refl
  through_maps n x (Some method) = refl

  pub call_maps : (m : List ℕ) (xs : List (Argument X)) → enumerable_call m (map (map_argument f) xs) ≡ option_map (map_enumerable f) (enumerable_call m xs)
  call_maps m [] = plain_maps (simple_method m)
  call_maps m (argument.Value x ∷ []) = given_maps x (method_with_value m)
  call_maps m (argument.Lambda n x ∷ []) = through_maps n x (method_with_lambda m)
  call_maps m (argument.Value x ∷ y ∷ xs) = refl
  call_maps m (argument.Lambda n x ∷ y ∷ xs) = refl
