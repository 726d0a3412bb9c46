-- Parts of the grammar's functions that the code reads in a function of its own.
use Rattle.std.specs.Prelude.{◌∷◌, if◌then◌else◌, List, [], ℕ, Option, Some, None, Result, Ok, Err, ℤ, length}
use Rattle.lq_value.specs.declared.scalar.Scalar.{Scalar}
use Rattle.lq_value.specs.declared.scalar.Scalar.TheVariants as scalar
use Rattle.lq_grammar.specs.Grammar.{host_call}
use Rattle.lq_grammar.specs.Parsing.{◌>>=◌, Parser, cell_below_zero, cells, clause_by, clauses, continuations, expect, field_by, fields, group_name, host_arguments, last_before, name, pure, refuse, same_kind, source, value_and_end}
use Rattle.lq_grammar.specs.Tokens.{decimal_value, text_of}
use Rattle.lq_grammar.specs.declared.syntax.Clause.{Clause}
use Rattle.lq_grammar.specs.declared.syntax.Clause.TheVariants as clause
use Rattle.lq_grammar.specs.declared.syntax.Continuation.{Continuation}
use Rattle.lq_grammar.specs.declared.syntax.Expr.{Expr}
use Rattle.lq_grammar.specs.declared.syntax.Expr.TheVariants as expr
use Rattle.lq_grammar.specs.declared.syntax.Field.{Field}
use Rattle.lq_grammar.specs.declared.syntax.Level.{Level}
use Rattle.lq_grammar.specs.declared.syntax.Level.TheVariants as level
use Rattle.lq_grammar.specs.declared.syntax.Node.TheVariants as node
use Rattle.lq_grammar.specs.declared.syntax.Statement.{Statement}
use Rattle.lq_grammar.specs.declared.syntax.Statement.TheVariants as statement
use Rattle.lq_grammar.specs.declared.token.Kind.{Kind}
use Rattle.lq_grammar.specs.declared.token.Kind.TheVariants as k
use Rattle.lq_grammar.specs.declared.token.Token.{Token}
use Rattle.lq_syntax.specs.declared.error.ParseError.{ParseError}
use Rattle.lq_syntax.specs.declared.error.ParseError.TheVariants as parse

-- the token that comes next, whatever its kind
abbrev pub any_token : Parser Token
any_token [] = None
any_token (token ∷ tokens) = Some (token, tokens)

-- what was read, where a token of this kind comes next, which is taken too
abbrev pub closed_by : {A : Type 0} → Kind → A → Parser A
closed_by kind x = expect kind >>= (λ token. pure x)

-- one item or two
abbrev pub one_or_two : {A : Type 0} → A → Option A → List A
one_or_two x None = x ∷ []
one_or_two x (Some y) = x ∷ y ∷ []

-- a reading function, if there is one
abbrev pub found_or_refuse : {A : Type 0} → Option (Parser A) → Parser A
found_or_refuse None = refuse
found_or_refuse (Some found) = found

-- a member whose name was read, or the refusal of the name
abbrev pub field_as : {A : Type 0} → Result (List ℕ) ParseError → A → Result (Field A) ParseError
field_as (Ok x) value = Ok (record { name = x; value = value })
field_as (Err stopped) value = Err stopped

-- the name that a token is
abbrev pub named_by : List ℕ → Option Token → Parser (List ℕ)
named_by line None tokens = None
named_by line (Some token) tokens = if same_kind token.kind k.Name then Some (text_of line token, tokens) else None

module _ (line : List ℕ) (inner : Level → Parser Expr) where
  -- after "("
  abbrev pub parenthesized : Parser Expr
  parenthesized = inner level.Top >>= (λ x. expect k.RightParenthesis >>= (λ closing. pure x))

  -- after "Host"
  abbrev pub host : Parser Expr
  host =
      expect k.Dot >>= (λ dot. name line >>= (λ p. expect k.LeftParenthesis >>= (λ opening. host_arguments line inner >>= (λ xs.
      expect k.RightParenthesis >>= (λ closing. pure (host_call p xs.0 xs.1))))))

  -- after "new"
  abbrev pub record_of : Parser Expr
  record_of = expect k.LeftBrace >>= (λ opening. fields line inner >>= (λ fs. pure (expr.Node (node.New fs))))

  -- name "=" cond
  abbrev pub assigned : Parser (Field Expr)
  assigned = name line >>= (λ x. expect k.Assign >>= (λ assign. inner level.Conditional >>= (λ v. pure (record { name = x; value = v }))))

  -- a member that ends in its name
  abbrev pub named_last : Parser (Field Expr)
  named_last tokens = (inner level.Primary >>= (λ x left. field_by line inner x (last_before line inner tokens left) left)) tokens

  -- after "from"
  abbrev pub from_clause : Parser (Clause Expr)
  from_clause = name line >>= (λ x. source line inner >>= (λ s. pure (clause.From x s)))

  -- after "join" name "in" cond
  abbrev pub join_behind : List ℕ → Expr → Parser (Clause Expr)
  join_behind x s =
      expect k.On >>= (λ on. inner level.Conditional >>= (λ outer. expect k.Equals >>= (λ equals. inner level.Conditional >>= (λ own. group_name line inner >>= (λ g.
      pure (clause.Join (record { name = x; source = s; outer_key = outer; inner_key = own; into = g })))))))

  -- after "let"
  abbrev pub let_clause : Parser (Clause Expr)
  let_clause = name line >>= (λ x. expect k.Assign >>= (λ assign. inner level.Conditional >>= (λ v. pure (clause.Let x v))))

  -- after "var"
  abbrev pub definition : Parser Statement
  definition = name line >>= (λ n. expect k.Assign >>= (λ assign. value_and_end line inner >>= (λ x. pure (statement.Define n x))))

  -- after a name
  abbrev pub assignment : Token → Parser Statement
  assignment token = expect k.Assign >>= (λ assign. value_and_end line inner >>= (λ x. pure (statement.Assign (text_of line token) x)))

  -- after "as"
  abbrev pub role : Parser Statement
  role = name line >>= (λ r. expect k.Semicolon >>= (λ semicolon. pure (statement.As r)))

  -- after "insert"
  abbrev pub insertion : Parser Statement
  insertion =
      name line >>= (λ t. expect k.LeftParenthesis >>= (λ opening. cells line >>= (λ cs. expect k.RightParenthesis >>= (λ closing. expect k.Semicolon >>= (λ semicolon.
      pure (statement.Insert t cs))))))

  -- after "delete"
  abbrev pub deletion : Parser Statement
  deletion =
      name line >>= (λ t. name line >>= (λ x. expect k.Arrow >>= (λ arrow. inner level.Conditional >>= (λ c. expect k.Semicolon >>= (λ semicolon. pure (statement.Delete t x c))))))

  -- a clause after its first word
  abbrev pub clause_behind : Kind → Parser (Clause Expr)
  clause_behind word = found_or_refuse (clause_by line inner word)

  abbrev pub all_clauses : Parser (List (Clause Expr))
  all_clauses tokens = clauses line inner (length tokens) [] tokens

  abbrev pub all_continuations : Parser (List (Continuation Expr))
  all_continuations tokens = continuations line inner (length tokens) [] tokens

-- after a minus sign in a cell
abbrev pub cell_behind_minus : List ℕ → Parser Scalar
cell_behind_minus line = expect k.Integer >>= (λ digits. cell_below_zero line (decimal_value (text_of line digits)))

abbrev pub number_or_refusal : Option ℤ → Result Scalar ParseError
number_or_refusal None = Err parse.Syntax
number_or_refusal (Some value) = Ok (scalar.Int value)
