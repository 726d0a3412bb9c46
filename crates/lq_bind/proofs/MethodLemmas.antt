-- Methods by their names, in lists.
use Rattle.std.proofs.Common.{◌≡◌, List, ℕ, refl}
use Rattle.lq_language.specs.EnumerableCalls.{by_name, method_with_lambda, method_with_value, simple_method}
use Rattle.lq_bind.specs.MethodNames.{names_with_lambdas, names_with_values, simple_names}

pub simple_is : (m : List ℕ) → simple_method m ≡ by_name m simple_names
unfolding simple_method
simple_is m = refl

pub value_is : (m : List ℕ) → method_with_value m ≡ by_name m names_with_values
unfolding method_with_value
value_is m = refl

pub lambda_is : (m : List ℕ) → method_with_lambda m ≡ by_name m names_with_lambdas
unfolding method_with_lambda
lambda_is m = refl

pub ruleset simple_methods = (simple_is)

pub ruleset methods_with_values = (value_is)

pub ruleset methods_with_lambdas = (lambda_is)
