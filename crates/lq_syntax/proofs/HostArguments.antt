-- What a host predicate is asked of, as a list.
use Rattle.std.proofs.Common.{◌≡◌, refl}
use Rattle.std.specs.Prelude.{Option, Some, None}
use Rattle.lq_grammar.specs.Grammar.{arguments_of}
use Rattle.lq_grammar.specs.declared.syntax.Expr.{Expr}
use Rattle.lq_syntax.specs.Parts.{one_or_two}

pub arguments_are_one_or_two : (x : Expr) (second : Option Expr) → one_or_two x second ≡ arguments_of x second
arguments_are_one_or_two x None = refl
arguments_are_one_or_two x (Some y) = refl
