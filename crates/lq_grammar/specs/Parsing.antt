-- The one tree that tokens spell, as functions that read it from the front. A line of the grammar that leads back to an
-- earlier one calls `inner`, so that no function here reaches itself but through the number that bounds how deep.
use Rattle.std.specs.Prelude.{◌+◌, ◌-◌, ◌∷◌, ◌++◌, ◌==◌, if◌then◌else◌, List, [], ℕ, zero, suc, Bool, true, false, Option, Some, None, pos, neg_ℤ, length, nat_lt, nat_le, option_and_then, slice_get}
use denote.Enum.Bare.{sameb}
use Rattle.lq_value.specs.declared.scalar.Scalar.{Scalar}
use Rattle.lq_value.specs.declared.scalar.Scalar.TheVariants as scalar
use Rattle.lq_grammar.specs.Grammar.{host_call, integer, least, levels, member_of, named, operation_of, operator}
use Rattle.lq_grammar.specs.TextLiterals.{text_value}
use Rattle.lq_grammar.specs.Tokens.{decimal_value, text_of}
use Rattle.lq_grammar.specs.contracts.token.Kind.{the_type}
use Rattle.lq_grammar.specs.declared.syntax.Argument.{Argument}
use Rattle.lq_grammar.specs.declared.syntax.Argument.TheVariants as argument
use Rattle.lq_grammar.specs.declared.syntax.Body.{Body}
use Rattle.lq_grammar.specs.declared.syntax.Clause.{Clause}
use Rattle.lq_grammar.specs.declared.syntax.Clause.TheVariants as clause
use Rattle.lq_grammar.specs.declared.syntax.Continuation.{Continuation}
use Rattle.lq_grammar.specs.declared.syntax.Expr.{Expr}
use Rattle.lq_grammar.specs.declared.syntax.Expr.TheVariants as expr
use Rattle.lq_grammar.specs.declared.syntax.Field.{Field}
use Rattle.lq_grammar.specs.declared.syntax.Infix.{Infix}
use Rattle.lq_grammar.specs.declared.syntax.Last.{Last}
use Rattle.lq_grammar.specs.declared.syntax.Last.TheVariants as last
use Rattle.lq_grammar.specs.declared.syntax.Level.{Level}
use Rattle.lq_grammar.specs.declared.syntax.Level.TheVariants as level
use Rattle.lq_grammar.specs.declared.syntax.Node.TheVariants as node
use Rattle.lq_grammar.specs.declared.syntax.Query.{Query}
use Rattle.lq_grammar.specs.declared.syntax.SortKey.{SortKey}
use Rattle.lq_grammar.specs.declared.syntax.Statement.{Statement}
use Rattle.lq_grammar.specs.declared.syntax.Statement.TheVariants as statement
use Rattle.lq_grammar.specs.declared.syntax.Unary.TheVariants as unary
use Rattle.lq_grammar.specs.declared.token.Kind.{Kind}
use Rattle.lq_grammar.specs.declared.token.Kind.TheVariants as k
use Rattle.lq_grammar.specs.declared.token.Token.{Token}

-- ---- steps

-- what a reader finds at the front of the tokens, with the tokens after it
abbrev pub Parser : Type 0 → Type 0
Parser A = List Token → Option (A × List Token)

abbrev pub pure : {A : Type 0} → A → Parser A
pure x tokens = Some (x, tokens)

abbrev pub refuse : {A : Type 0} → Parser A
refuse tokens = None

infixl 10 ◌>>=◌
abbrev pub ◌>>=◌ : {A B : Type 0} → Parser A → (A → Parser B) → Parser B
p >>= f = λ tokens. option_and_then (λ r. f r.0 r.1) (p tokens)

-- `==` on kinds
unfoldable pub same_kind : Kind → Kind → Bool
same_kind = sameb the_type

-- a token of this kind
unfoldable pub expect : Kind → Parser Token
expect kind [] = None
expect kind (token ∷ tokens) = if same_kind token.kind kind then Some (token, tokens) else None

-- whether a token of this kind comes next
unfoldable pub begins_with : Kind → List Token → Bool
begins_with kind [] = false
begins_with kind (token ∷ tokens) = same_kind token.kind kind

-- whether tokens of these kinds come next
unfoldable pub begins_with_two : Kind → Kind → List Token → Bool
begins_with_two first second [] = false
begins_with_two first second (token ∷ tokens) = if same_kind token.kind first then begins_with second tokens else false

-- the first reader after a token of this kind, and the second one where another token comes next
unfoldable pub after : {A : Type 0} → Kind → Parser A → Parser A → Parser A
after kind found other tokens = if begins_with kind tokens then (expect kind >>= (λ token. found)) tokens else other tokens

-- the kind of the token that comes next; a semicolon ends each statement, so it is the answer where no token is left
unfoldable pub peek : List Token → Kind
peek [] = k.Semicolon
peek (token ∷ tokens) = token.kind

-- the tokens after the one that comes next
unfoldable pub behind : List Token → List Token
behind [] = []
behind (token ∷ tokens) = tokens

-- what was read, where nothing comes after it
unfoldable pub to_the_end : {A : Type 0} → Option (A × List Token) → Option A
to_the_end None = None
to_the_end (Some (x, [])) = Some x
to_the_end (Some (x, token ∷ tokens)) = None

module _ (line : List ℕ) where
  -- a name
  unfoldable pub name : Parser (List ℕ)
  name = expect k.Name >>= (λ token. pure (text_of line token))

  -- an integer literal, which is below 2147483648
  abbrev pub literal : ℕ → Parser Expr
  literal value tokens = if nat_lt value 2147483648 then Some (integer value, tokens) else None

  -- ---- the cells of `insert`

  abbrev pub cell_literal : ℕ → Parser Scalar
  cell_literal value tokens = if nat_lt value 2147483648 then Some (scalar.Int (pos value), tokens) else None

  abbrev pub cell_below_zero : ℕ → Parser Scalar
  cell_below_zero value tokens = if nat_le value 2147483648 then Some (scalar.Int (neg_ℤ (pos value)), tokens) else None

  abbrev pub cell_by : Kind → Token → Parser Scalar
  cell_by k.Integer token = cell_literal (decimal_value (text_of line token))
  cell_by k.Minus token = expect k.Integer >>= (λ digits. cell_below_zero (decimal_value (text_of line digits)))
  cell_by k.Text token = pure (scalar.Text (text_value (text_of line token)))
  cell_by k.True token = pure (scalar.Bool true)
  cell_by k.False token = pure (scalar.Bool false)
  cell_by k.Null token = pure scalar.Null
  cell_by kind token = refuse

  unfoldable pub cell : Parser Scalar
  cell [] = None
  cell (token ∷ tokens) = cell_by token.kind token tokens

  -- more cells after some, each after a comma; the number bounds how many
  unfoldable pub more_cells : ℕ → List Scalar → Parser (List Scalar)
  more_cells zero cs = pure cs
  more_cells (suc n) cs = after k.Comma (cell >>= (λ c. more_cells n (cs ++ c ∷ []))) (pure cs)

  unfoldable pub cells : Parser (List Scalar)
  cells = cell >>= (λ c tokens. more_cells (length tokens) (c ∷ []) tokens)

  -- ---- expressions, over what reads the lines that lead back

  module _ (inner : Level → Parser Expr) where
    -- an expression, or a lambda where a name and an arrow come next
    unfoldable pub argument_at : Parser (Argument Expr)
    argument_at tokens =
        if begins_with_two k.Name k.Arrow tokens then (name >>= (λ x. expect k.Arrow >>= (λ arrow. inner level.Conditional >>= (λ b. pure (argument.Lambda x b))))) tokens
        else (inner level.Conditional >>= (λ x. pure (argument.Value x))) tokens

    unfoldable pub more_arguments : ℕ → List (Argument Expr) → Parser (List (Argument Expr))
    more_arguments zero args = pure args
    more_arguments (suc n) args = after k.Comma (argument_at >>= (λ a. more_arguments n (args ++ a ∷ []))) (pure args)

    unfoldable pub some_arguments : Parser (List (Argument Expr))
    some_arguments = argument_at >>= (λ a tokens. more_arguments (length tokens) (a ∷ []) tokens)

    -- the arguments of a method, up to the parenthesis that closes them
    unfoldable pub arguments : Parser (List (Argument Expr))
    arguments = after k.RightParenthesis (pure []) (some_arguments >>= (λ args. expect k.RightParenthesis >>= (λ closing. pure args)))

    -- a member whose value is a name or ends in one, which is then its name
    abbrev pub field_by : Expr → Option Token → Parser (Field Expr)
    field_by x None tokens = None
    field_by x (Some token) tokens = if same_kind token.kind k.Name then Some (record { name = text_of line token; value = x }, tokens) else None

    -- the last token that was in front of the tokens that are left
    abbrev pub last_before : List Token → List Token → Option Token
    last_before all left = slice_get all (length all - length left - 1)

    unfoldable pub field : Parser (Field Expr)
    field tokens =
        if begins_with_two k.Name k.Assign tokens then (name >>= (λ x. expect k.Assign >>= (λ assign. inner level.Conditional >>= (λ v. pure (record { name = x; value = v }))))) tokens
        else (inner level.Primary >>= (λ x left. field_by x (last_before tokens left) left)) tokens

    -- more members after some, up to the brace that closes them, before which a comma may be
    unfoldable pub more_fields : ℕ → List (Field Expr) → Parser (List (Field Expr))
    more_fields zero fs = refuse
    more_fields (suc n) fs = after k.RightBrace (pure fs) (expect k.Comma >>= (λ comma. after k.RightBrace (pure fs) (field >>= (λ f. more_fields n (fs ++ f ∷ [])))))

    unfoldable pub fields : Parser (List (Field Expr))
    fields = after k.RightBrace (pure []) (field >>= (λ f tokens. more_fields (length tokens) (f ∷ []) tokens))

    -- what a host predicate is asked of: an expression, or two with a comma between them
    unfoldable pub host_arguments : Parser (Expr × Option Expr)
    host_arguments = inner level.Conditional >>= (λ x. after k.Comma (inner level.Conditional >>= (λ y. pure (x, Some y))) (pure (x, None)))

    -- a primary expression, up to its first dot, by the kind of its first token
    abbrev pub start_by : Kind → Token → Parser Expr
    start_by k.Integer token = literal (decimal_value (text_of line token))
    start_by k.Text token = pure (expr.Node (node.Text (text_value (text_of line token))))
    start_by k.True token = pure (expr.Node (node.Bool true))
    start_by k.False token = pure (expr.Node (node.Bool false))
    start_by k.Null token = pure (expr.Node node.Null)
    start_by k.Name token = pure (named (text_of line token))
    start_by k.LeftParenthesis token = inner level.Top >>= (λ x. expect k.RightParenthesis >>= (λ closing. pure x))
    start_by k.Host token =
        expect k.Dot >>= (λ dot. name >>= (λ p. expect k.LeftParenthesis >>= (λ opening. host_arguments >>= (λ xs.
        expect k.RightParenthesis >>= (λ closing. pure (host_call p xs.0 xs.1))))))
    start_by k.New token = expect k.LeftBrace >>= (λ opening. fields >>= (λ fs. pure (expr.Node (node.New fs))))
    start_by kind token = refuse

    unfoldable pub start : Parser Expr
    start [] = None
    start (token ∷ tokens) = start_by token.kind token tokens

    -- the members and methods after an expression
    unfoldable pub selections : ℕ → Expr → Parser Expr
    selections zero x = pure x
    selections (suc n) x =
        after k.Dot (name >>= (λ m. after k.LeftParenthesis (arguments >>= (λ args. selections n (expr.Node (node.Method x m args)))) (selections n (member_of x m)))) (pure x)

    unfoldable pub primary : Parser Expr
    primary = start >>= (λ x tokens. selections (length tokens) x tokens)

    -- after a minus sign: 2147483648, or a unary expression
    abbrev pub is_least : List Token → Bool
    is_least [] = false
    is_least (token ∷ tokens) = if same_kind token.kind k.Integer then decimal_value (text_of line token) == 2147483648 else false

    unfoldable pub below_zero : Parser Expr
    below_zero tokens =
        if is_least tokens then (expect k.Integer >>= (λ digits. pure least)) tokens
        else (inner level.Unary >>= (λ x. pure (expr.Node (node.Unary unary.Minus x)))) tokens

    unfoldable pub prefix : Parser Expr
    prefix = after k.Not (inner level.Unary >>= (λ x. pure (expr.Node (node.Unary unary.Not x)))) (after k.Minus below_zero primary)

    -- the operations of a level after its first operand
    abbrev pub operation_by : Parser Expr → (Expr → Parser Expr) → Expr → Option Infix → Parser Expr
    operation_by operand more x None tokens = Some (x, tokens)
    operation_by operand more x (Some op) tokens = (operand >>= (λ y. more (operation_of op x y))) (behind tokens)

    unfoldable pub operations : Parser Expr → ℕ → ℕ → Expr → Parser Expr
    operations operand l zero x = pure x
    operations operand l (suc n) x = λ tokens. operation_by operand (operations operand l n) x (operator l (peek tokens)) tokens

    unfoldable pub chain : ℕ → Parser Expr
    chain zero = prefix
    chain (suc l) = chain l >>= (λ x tokens. operations (chain l) l (length tokens) x tokens)

    unfoldable pub coalescing : Parser Expr
    coalescing = chain levels >>= (λ x. after k.Coalesce (inner level.Coalescing >>= (λ y. pure (expr.Node (node.Coalesce x y)))) (pure x))

    unfoldable pub conditional : Parser Expr
    conditional =
        coalescing >>= (λ x. after k.Question (inner level.Conditional >>= (λ y. expect k.Colon >>= (λ colon. inner level.Conditional >>= (λ z.
        pure (expr.Node (node.Conditional x y z)))))) (pure x))

    -- ---- queries

    -- "in" cond
    unfoldable pub source : Parser Expr
    source = expect k.In >>= (λ within. inner level.Conditional)

    unfoldable pub key : Parser (SortKey Expr)
    key =
        inner level.Conditional >>= (λ x. after k.Ascending (pure (record { value = x; descending = false }))
        (after k.Descending (pure (record { value = x; descending = true })) (pure (record { value = x; descending = false }))))

    unfoldable pub more_keys : ℕ → List (SortKey Expr) → Parser (List (SortKey Expr))
    more_keys zero ks = pure ks
    more_keys (suc n) ks = after k.Comma (key >>= (λ x. more_keys n (ks ++ x ∷ []))) (pure ks)

    unfoldable pub keys : Parser (List (SortKey Expr))
    keys = key >>= (λ x tokens. more_keys (length tokens) (x ∷ []) tokens)

    -- "into" name, where it is there
    unfoldable pub group_name : Parser (Option (List ℕ))
    group_name = after k.Into (name >>= (λ g. pure (Some g))) (pure None)

    unfoldable pub join : Parser (Clause Expr)
    join =
        name >>= (λ x. source >>= (λ s. expect k.On >>= (λ on. inner level.Conditional >>= (λ outer. expect k.Equals >>= (λ equals. inner level.Conditional >>= (λ own. group_name >>= (λ g.
        pure (clause.Join (record { name = x; source = s; outer_key = outer; inner_key = own; into = g })))))))))

    -- a clause after its first word; None where the word begins no clause
    abbrev pub clause_by : Kind → Option (Parser (Clause Expr))
    clause_by k.From = Some (name >>= (λ x. source >>= (λ s. pure (clause.From x s))))
    clause_by k.Let = Some (name >>= (λ x. expect k.Assign >>= (λ assign. inner level.Conditional >>= (λ v. pure (clause.Let x v)))))
    clause_by k.Where = Some (inner level.Conditional >>= (λ c. pure (clause.Where c)))
    clause_by k.Join = Some join
    clause_by k.OrderBy = Some (keys >>= (λ ks. pure (clause.OrderBy ks)))
    clause_by kind = None

    abbrev pub clauses_by : (List (Clause Expr) → Parser (List (Clause Expr))) → List (Clause Expr) → Option (Parser (Clause Expr)) → Parser (List (Clause Expr))
    clauses_by more cs None tokens = Some (cs, tokens)
    clauses_by more cs (Some found) tokens = (found >>= (λ c. more (cs ++ c ∷ []))) (behind tokens)

    unfoldable pub clauses : ℕ → List (Clause Expr) → Parser (List (Clause Expr))
    clauses zero cs = pure cs
    clauses (suc n) cs = λ tokens. clauses_by (clauses n) cs (clause_by (peek tokens)) tokens

    unfoldable pub ending : Parser (Last Expr)
    ending =
        after k.Select (inner level.Conditional >>= (λ x. pure (last.Select x)))
        (expect k.Group >>= (λ word. inner level.Conditional >>= (λ x. expect k.By >>= (λ by. inner level.Conditional >>= (λ y. pure (last.Group x y))))))

    unfoldable pub body : Parser (Body Expr)
    body = (λ tokens. clauses (length tokens) [] tokens) >>= (λ cs. ending >>= (λ l. pure (record { clauses = cs; last = l })))

    unfoldable pub continuations : ℕ → List (Continuation Expr) → Parser (List (Continuation Expr))
    continuations zero rest = pure rest
    continuations (suc n) rest = after k.Into (name >>= (λ x. body >>= (λ b. continuations n (rest ++ record { name = x; body = b } ∷ [])))) (pure rest)

    unfoldable pub query : Parser (Query Expr)
    query =
        expect k.From >>= (λ from. name >>= (λ x. source >>= (λ s. body >>= (λ b. (λ tokens. continuations (length tokens) [] tokens) >>= (λ rest.
        pure (record { name = x; source = s; body = b; rest = rest }))))))

    unfoldable pub top : Parser Expr
    top tokens = if begins_with k.From tokens then (query >>= (λ q. pure (expr.Query q))) tokens else conditional tokens

    -- the line of the grammar that is led back to
    unfoldable pub rule : Level → Parser Expr
    rule level.Top = top
    rule level.Conditional = conditional
    rule level.Coalescing = coalescing
    rule level.Unary = prefix
    rule level.Primary = primary

    -- ---- statements

    -- top ";"
    unfoldable pub value_and_end : Parser Expr
    value_and_end = inner level.Top >>= (λ x. expect k.Semicolon >>= (λ semicolon. pure x))

    abbrev pub statement_by : Kind → Token → Parser Statement
    statement_by k.Run token = value_and_end >>= (λ x. pure (statement.Run x))
    statement_by k.Var token = name >>= (λ n. expect k.Assign >>= (λ assign. value_and_end >>= (λ x. pure (statement.Define n x))))
    statement_by k.Name token = expect k.Assign >>= (λ assign. value_and_end >>= (λ x. pure (statement.Assign (text_of line token) x)))
    statement_by k.As token = name >>= (λ r. expect k.Semicolon >>= (λ semicolon. pure (statement.As r)))
    statement_by k.Insert token =
        name >>= (λ t. expect k.LeftParenthesis >>= (λ opening. cells >>= (λ cs. expect k.RightParenthesis >>= (λ closing. expect k.Semicolon >>= (λ semicolon.
        pure (statement.Insert t cs))))))
    statement_by k.Delete token =
        name >>= (λ t. name >>= (λ x. expect k.Arrow >>= (λ arrow. inner level.Conditional >>= (λ c. expect k.Semicolon >>= (λ semicolon. pure (statement.Delete t x c))))))
    statement_by kind token = refuse

    unfoldable pub statement_line : Parser Statement
    statement_line [] = None
    statement_line (token ∷ tokens) = statement_by token.kind token tokens

  -- a line of the grammar, where the lines lead back at most so often
  unfoldable pub expression : ℕ → Level → Parser Expr
  expression zero l = refuse
  expression (suc n) l = rule (expression n) l

  -- the statement that all the tokens of a line spell
  unfoldable pub statement_of : List Token → Option Statement
  statement_of tokens = to_the_end (statement_line (expression (length tokens + 1)) tokens)

  -- the rule of a row policy that all the tokens of a text spell
  unfoldable pub rule_of : List Token → Option Expr
  rule_of tokens = to_the_end (expression (length tokens + 1) level.Conditional tokens)
