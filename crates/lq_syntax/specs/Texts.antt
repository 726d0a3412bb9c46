-- What the reading of a text says of it.
use Rattle.std.specs.Prelude.{◌≡◌, Option, Some, None, Result, Ok, Err}
use Rattle.lq_grammar.specs.Reading.{Reading, Nothing, Says, IsNoSyntax, IsTooDeep}
use Rattle.lq_syntax.specs.declared.error.SyntaxError.{SyntaxError}
use Rattle.lq_syntax.specs.declared.error.SyntaxError.TheVariants as syntax

-- what a line says from which a statement was read, or none
abbrev pub said : {A : Type 0} → Option A → Reading A
said None = Nothing
said (Some tree) = Says tree

-- what was read is what the line says; where memory was refused nothing is known
abbrev pub ReadsLine : {A : Type 0} → Reading A → Result (Option A) SyntaxError → Type 0
ReadsLine reading (Ok read) = reading ≡ said read
ReadsLine reading (Err syntax.Syntax) = reading ≡ IsNoSyntax
ReadsLine reading (Err syntax.TooDeep) = reading ≡ IsTooDeep
ReadsLine reading (Err syntax.Memory) = Unit {0}

-- the same of a rule, which is a tree or is refused
abbrev pub ReadsRule : {A : Type 0} → Reading A → Result A SyntaxError → Type 0
ReadsRule reading (Ok tree) = reading ≡ Says tree
ReadsRule reading (Err syntax.Syntax) = reading ≡ IsNoSyntax
ReadsRule reading (Err syntax.TooDeep) = reading ≡ IsTooDeep
ReadsRule reading (Err syntax.Memory) = Unit {0}
