-- Laws of the grammar: what is read is what is spelled, and tokens spell one tree at most.
use Rattle.std.specs.Prelude.{◌≡◌, ◌↔◌, List, ℕ, Some}
use Rattle.lq_grammar.specs.Grammar.{Spells, Line, Conditional}
use Rattle.lq_grammar.specs.Parsing.{statement_of, rule_of}
use Rattle.lq_grammar.specs.declared.syntax.Expr.{Expr}
use Rattle.lq_grammar.specs.declared.syntax.Statement.{Statement}
use Rattle.lq_grammar.specs.declared.token.Token.{Token}

-- no tokens spell two statements
abbrev pub IsOneStatement : Type 0
IsOneStatement = (line : List ℕ) (tokens : List Token) (a b : Statement) → Spells line (Line a) tokens → Spells line (Line b) tokens → a ≡ b

-- no tokens spell two conditions
abbrev pub IsOneCondition : Type 0
IsOneCondition = (line : List ℕ) (tokens : List Token) (a b : Expr) → Spells line (Conditional a) tokens → Spells line (Conditional b) tokens → a ≡ b

-- the function on tokens reads a statement exactly where they spell it
abbrev pub ReadsSpelledStatements : Type 0
ReadsSpelledStatements = (line : List ℕ) (tokens : List Token) (a : Statement) → (statement_of line tokens ≡ Some a) ↔ Spells line (Line a) tokens

-- the function on tokens reads a rule exactly where they spell it as a condition
abbrev pub ReadsSpelledConditions : Type 0
ReadsSpelledConditions = (line : List ℕ) (tokens : List Token) (a : Expr) → (rule_of line tokens ≡ Some a) ↔ Spells line (Conditional a) tokens
