-- The syntactic grammar: which tokens spell which tree, one case for each line of the grammar (ECMA-334, expressions and
-- query expressions). `{x}` of the grammar is a case that leads back to its own part from the left.
use Rattle.std.specs.Prelude.{◌≡◌, ◌<◌, ◌≤◌, ◌==◌, ◌∷◌, ◌++◌, if◌then◌else◌, List, [], ℕ, zero, suc, pos, neg_ℤ, true, false, Option, Some, None, option_and_then, option_map}
use Rattle.std.specs.Str.{bytes_eq}
use Rattle.lq_value.specs.declared.scalar.Scalar.{Scalar}
use Rattle.lq_value.specs.declared.scalar.Scalar.TheVariants as scalar
use Rattle.lq_grammar.specs.TextLiterals.{text_value}
use Rattle.lq_grammar.specs.Tokens.{decimal_value, text_of}
use Rattle.lq_grammar.specs.declared.syntax.Argument.{Argument}
use Rattle.lq_grammar.specs.declared.syntax.Argument.TheVariants as argument
use Rattle.lq_grammar.specs.declared.syntax.Binary.TheVariants as binary
use Rattle.lq_grammar.specs.declared.syntax.Body.{Body}
use Rattle.lq_grammar.specs.declared.syntax.Clause.{Clause}
use Rattle.lq_grammar.specs.declared.syntax.Clause.TheVariants as clause
use Rattle.lq_grammar.specs.declared.syntax.Continuation.{Continuation}
use Rattle.lq_grammar.specs.declared.syntax.Expr.{Expr, out-Expr}
use Rattle.lq_grammar.specs.declared.syntax.Expr.TheOpen.{Expr-F}
use Rattle.lq_grammar.specs.declared.syntax.Expr.TheVariants as expr
use Rattle.lq_grammar.specs.declared.syntax.Field.{Field}
use Rattle.lq_grammar.specs.declared.syntax.Infix.{Infix}
use Rattle.lq_grammar.specs.declared.syntax.Infix.TheVariants as between
use Rattle.lq_grammar.specs.declared.syntax.Last.{Last}
use Rattle.lq_grammar.specs.declared.syntax.Last.TheVariants as last
use Rattle.lq_grammar.specs.declared.syntax.Node.TheVariants as node
use Rattle.lq_grammar.specs.declared.syntax.Picked.TheVariants as picked
use Rattle.lq_grammar.specs.declared.syntax.Query.{Query}
use Rattle.lq_grammar.specs.declared.syntax.SortKey.{SortKey}
use Rattle.lq_grammar.specs.declared.syntax.Statement.{Statement}
use Rattle.lq_grammar.specs.declared.syntax.Statement.TheVariants as statement
use Rattle.lq_grammar.specs.declared.syntax.Unary.TheVariants as unary
use Rattle.lq_grammar.specs.declared.token.Kind.{Kind}
use Rattle.lq_grammar.specs.declared.token.Kind.TheVariants as k
use Rattle.lq_grammar.specs.declared.token.Token.{Token}

-- ---- operators by their levels, the tightest first

-- the level of a sign between two operands, and its operator: 0 is that of `*`, 5 that of `||`
abbrev pub infix_of : Kind → Option (ℕ × Infix)
infix_of k.Star = Some (0, between.Binary binary.Multiply)
infix_of k.Slash = Some (0, between.Binary binary.Divide)
infix_of k.Percent = Some (0, between.Binary binary.Remainder)
infix_of k.Plus = Some (1, between.Binary binary.Add)
infix_of k.Minus = Some (1, between.Binary binary.Subtract)
infix_of k.Less = Some (2, between.Binary binary.Less)
infix_of k.Greater = Some (2, between.Binary binary.Greater)
infix_of k.LessOrEqual = Some (2, between.Binary binary.LessOrEqual)
infix_of k.GreaterOrEqual = Some (2, between.Binary binary.GreaterOrEqual)
infix_of k.Equal = Some (3, between.Binary binary.Equal)
infix_of k.NotEqual = Some (3, between.Binary binary.NotEqual)
infix_of k.And = Some (4, between.And)
infix_of k.Or = Some (5, between.Or)
infix_of kind = None

-- how many levels there are
abbrev pub levels : ℕ
levels = 6

-- the operator of a level that a sign spells
abbrev pub operator : ℕ → Kind → Option Infix
operator level kind = option_and_then (λ found. if found.0 == level then Some found.1 else None) (infix_of kind)

-- ---- trees

abbrev pub integer : ℕ → Expr
integer value = expr.Node (node.Integer (pos value))

-- the least int, which no digits alone spell
abbrev pub least : Expr
least = expr.Node (node.Integer (neg_ℤ (pos 2147483648)))

abbrev pub named : List ℕ → Expr
named name = expr.Node (node.Name name)

abbrev pub member_of : Expr → List ℕ → Expr
member_of x name = expr.Node (node.Member x name)

-- the name that an expression is
abbrev pub name_in : Expr-F Expr → Option (List ℕ)
name_in (Expr-F.Node (node.Name x)) = Some x
name_in layer = None

-- the name and the column, of a column of what a name refers to
abbrev pub column_in : Expr-F Expr → Option (List ℕ × List ℕ)
column_in (Expr-F.Node (node.Member row c)) = option_map (λ x. (x, c)) (name_in (out-Expr row))
column_in layer = None

-- the arguments, one or two
abbrev pub arguments_of : Expr → Option Expr → List Expr
arguments_of x None = x ∷ []
arguments_of x (Some y) = x ∷ y ∷ []

-- A host predicate that is asked of one expression: of a column of what an expression gives, or of anything else.
abbrev pub host_of_one : List ℕ → Expr → Expr-F Expr → Expr
host_of_one p x (Expr-F.Node (node.Member row c)) = expr.Node (node.Host p row (picked.One c))
host_of_one p x layer = expr.Node (node.HostOther p (x ∷ []))

-- And of two: of two columns of what one name refers to, or of anything else.
abbrev pub host_of_two : List ℕ → Expr → Expr → Option (List ℕ × List ℕ) → Option (List ℕ × List ℕ) → Expr
host_of_two p x y (Some a) (Some b) =
    if bytes_eq a.0 b.0 then expr.Node (node.Host p (named a.0) (picked.Two a.1 b.1)) else expr.Node (node.HostOther p (x ∷ y ∷ []))
host_of_two p x y a b = expr.Node (node.HostOther p (x ∷ y ∷ []))

abbrev pub host_call : List ℕ → Expr → Option Expr → Expr
host_call p x None = host_of_one p x (out-Expr x)
host_call p x (Some y) = host_of_two p x y (column_in (out-Expr x)) (column_in (out-Expr y))

-- two operands under an operator
abbrev pub operation_of : Infix → Expr → Expr → Expr
operation_of (between.Binary op) x y = expr.Node (node.Binary op x y)
operation_of between.And x y = expr.Node (node.And x y)
operation_of between.Or x y = expr.Node (node.Or x y)

-- ---- the grammar

-- a line of the grammar, with the tree that it spells
pub data Part : Type 0 where
  Line : Statement → Part
  Cells : List Scalar → Part
  Cell : Scalar → Part
  Top : Expr → Part
  Conditional : Expr → Part
  Coalescing : Expr → Part
  -- operators of the levels below the number: none is a unary expression
  Chain : ℕ → Expr → Part
  Prefix : Expr → Part
  Primary : Expr → Part
  -- what a host predicate is asked of
  HostArguments : Expr → Option Expr → Part
  Fields : List (Field Expr) → Part
  SomeFields : List (Field Expr) → Part
  OneField : Field Expr → Part
  Arguments : List (Argument Expr) → Part
  SomeArguments : List (Argument Expr) → Part
  OneArgument : Argument Expr → Part
  Queried : Query Expr → Part
  Continuations : List (Continuation Expr) → Part
  Bodied : Body Expr → Part
  Clauses : List (Clause Expr) → Part
  OneClause : Clause Expr → Part
  Keys : List (SortKey Expr) → Part
  OneKey : SortKey Expr → Part
  Ending : Last Expr → Part

-- these tokens of the line spell this tree
pub data Spells (line : List ℕ) : Part → List Token → Type 0 where
  -- ---- statements
  -- "run" top ";"
  run : {x : Expr} {ts : List Token} (word semicolon : Token) → word.kind ≡ k.Run → Spells line (Top x) ts → semicolon.kind ≡ k.Semicolon
      → Spells line (Line (statement.Run x)) (word ∷ (ts ++ semicolon ∷ []))
  -- "var" name "=" top ";"
  define : {x : Expr} {ts : List Token} (word name assign semicolon : Token) → word.kind ≡ k.Var → name.kind ≡ k.Name → assign.kind ≡ k.Assign → Spells line (Top x) ts
      → semicolon.kind ≡ k.Semicolon → Spells line (Line (statement.Define (text_of line name) x)) (word ∷ name ∷ assign ∷ (ts ++ semicolon ∷ []))
  -- name "=" top ";"
  assignment : {x : Expr} {ts : List Token} (name assign semicolon : Token) → name.kind ≡ k.Name → assign.kind ≡ k.Assign → Spells line (Top x) ts → semicolon.kind ≡ k.Semicolon
      → Spells line (Line (statement.Assign (text_of line name) x)) (name ∷ assign ∷ (ts ++ semicolon ∷ []))
  -- "as" name ";"
  role : (word name semicolon : Token) → word.kind ≡ k.As → name.kind ≡ k.Name → semicolon.kind ≡ k.Semicolon
      → Spells line (Line (statement.As (text_of line name))) (word ∷ name ∷ semicolon ∷ [])
  -- "insert" name "(" cells ")" ";"
  insertion : {cells : List Scalar} {ts : List Token} (word table opening closing semicolon : Token) → word.kind ≡ k.Insert → table.kind ≡ k.Name → opening.kind ≡ k.LeftParenthesis
      → Spells line (Cells cells) ts → closing.kind ≡ k.RightParenthesis → semicolon.kind ≡ k.Semicolon
      → Spells line (Line (statement.Insert (text_of line table) cells)) (word ∷ table ∷ opening ∷ (ts ++ closing ∷ semicolon ∷ []))
  -- "delete" name name "=>" cond ";"
  deletion : {x : Expr} {ts : List Token} (word table row arrow semicolon : Token) → word.kind ≡ k.Delete → table.kind ≡ k.Name → row.kind ≡ k.Name → arrow.kind ≡ k.Arrow
      → Spells line (Conditional x) ts → semicolon.kind ≡ k.Semicolon
      → Spells line (Line (statement.Delete (text_of line table) (text_of line row) x)) (word ∷ table ∷ row ∷ arrow ∷ (ts ++ semicolon ∷ []))
  -- cell {"," cell}
  one_cell : {c : Scalar} {ts : List Token} → Spells line (Cell c) ts → Spells line (Cells (c ∷ [])) ts
  another_cell : {cs : List Scalar} {c : Scalar} {xs ys : List Token} (comma : Token) → Spells line (Cells cs) xs → comma.kind ≡ k.Comma → Spells line (Cell c) ys
      → Spells line (Cells (cs ++ c ∷ [])) (xs ++ comma ∷ ys)
  -- ["-"] integer; 2147483648 is allowed only after a minus sign
  cell_integer : (digits : Token) → digits.kind ≡ k.Integer → decimal_value (text_of line digits) < 2147483648
      → Spells line (Cell (scalar.Int (pos (decimal_value (text_of line digits))))) (digits ∷ [])
  cell_minus : (minus digits : Token) → minus.kind ≡ k.Minus → digits.kind ≡ k.Integer → decimal_value (text_of line digits) ≤ 2147483648
      → Spells line (Cell (scalar.Int (neg_ℤ (pos (decimal_value (text_of line digits)))))) (minus ∷ digits ∷ [])
  -- text, "true", "false", "null"
  cell_text : (word : Token) → word.kind ≡ k.Text → Spells line (Cell (scalar.Text (text_value (text_of line word)))) (word ∷ [])
  cell_true : (word : Token) → word.kind ≡ k.True → Spells line (Cell (scalar.Bool true)) (word ∷ [])
  cell_false : (word : Token) → word.kind ≡ k.False → Spells line (Cell (scalar.Bool false)) (word ∷ [])
  cell_null : (word : Token) → word.kind ≡ k.Null → Spells line (Cell scalar.Null) (word ∷ [])
  -- ---- expressions
  -- top: a query or a conditional expression
  top_query : {q : Query Expr} {ts : List Token} → Spells line (Queried q) ts → Spells line (Top (expr.Query q)) ts
  top_other : {x : Expr} {ts : List Token} → Spells line (Conditional x) ts → Spells line (Top x) ts
  -- coal ["?" cond ":" cond]
  unconditional : {x : Expr} {ts : List Token} → Spells line (Coalescing x) ts → Spells line (Conditional x) ts
  choice : {x y z : Expr} {xs ys zs : List Token} (question colon : Token) → Spells line (Coalescing x) xs → question.kind ≡ k.Question → Spells line (Conditional y) ys
      → colon.kind ≡ k.Colon → Spells line (Conditional z) zs
      → Spells line (Conditional (expr.Node (node.Conditional x y z))) (xs ++ question ∷ (ys ++ colon ∷ zs))
  -- or ["??" coal]
  present : {x : Expr} {ts : List Token} → Spells line (Chain levels x) ts → Spells line (Coalescing x) ts
  coalescing : {x y : Expr} {xs ys : List Token} (sign : Token) → Spells line (Chain levels x) xs → sign.kind ≡ k.Coalesce → Spells line (Coalescing y) ys
      → Spells line (Coalescing (expr.Node (node.Coalesce x y))) (xs ++ sign ∷ ys)
  -- or, and, eq, rel, add, mul: operands of the next level, joined by the operators of this one from the left
  prefixed : {x : Expr} {ts : List Token} → Spells line (Prefix x) ts → Spells line (Chain zero x) ts
  tighter : {l : ℕ} {x : Expr} {ts : List Token} → Spells line (Chain l x) ts → Spells line (Chain (suc l) x) ts
  operation : {l : ℕ} {x y : Expr} {xs ys : List Token} (sign : Token) (op : Infix) → Spells line (Chain (suc l) x) xs → operator l sign.kind ≡ Some op → Spells line (Chain l y) ys
      → Spells line (Chain (suc l) (operation_of op x y)) (xs ++ sign ∷ ys)
  -- primary | ("!" | "-") unary; a minus sign and 2147483648 are the least int
  primary : {x : Expr} {ts : List Token} → Spells line (Primary x) ts → Spells line (Prefix x) ts
  negation : {x : Expr} {ts : List Token} (sign : Token) → sign.kind ≡ k.Not → Spells line (Prefix x) ts → Spells line (Prefix (expr.Node (node.Unary unary.Not x))) (sign ∷ ts)
  minus : {x : Expr} {ts : List Token} (sign : Token) → sign.kind ≡ k.Minus → Spells line (Prefix x) ts → Spells line (Prefix (expr.Node (node.Unary unary.Minus x))) (sign ∷ ts)
  least_int : (sign digits : Token) → sign.kind ≡ k.Minus → digits.kind ≡ k.Integer → decimal_value (text_of line digits) ≡ 2147483648
      → Spells line (Prefix least) (sign ∷ digits ∷ [])
  -- integer | text | "true" | "false" | "null" | name
  digits : (word : Token) → word.kind ≡ k.Integer → decimal_value (text_of line word) < 2147483648 → Spells line (Primary (integer (decimal_value (text_of line word)))) (word ∷ [])
  text : (word : Token) → word.kind ≡ k.Text → Spells line (Primary (expr.Node (node.Text (text_value (text_of line word))))) (word ∷ [])
  truth : (word : Token) → word.kind ≡ k.True → Spells line (Primary (expr.Node (node.Bool true))) (word ∷ [])
  falsehood : (word : Token) → word.kind ≡ k.False → Spells line (Primary (expr.Node (node.Bool false))) (word ∷ [])
  null : (word : Token) → word.kind ≡ k.Null → Spells line (Primary (expr.Node node.Null)) (word ∷ [])
  name : (word : Token) → word.kind ≡ k.Name → Spells line (Primary (named (text_of line word))) (word ∷ [])
  -- "(" top ")"
  parentheses : {x : Expr} {ts : List Token} (opening closing : Token) → opening.kind ≡ k.LeftParenthesis → Spells line (Top x) ts → closing.kind ≡ k.RightParenthesis
      → Spells line (Primary x) (opening ∷ (ts ++ closing ∷ []))
  -- "Host" "." name "(" cond ["," cond] ")"
  host : {x : Expr} {second : Option Expr} {ts : List Token} (word dot predicate opening closing : Token) → word.kind ≡ k.Host → dot.kind ≡ k.Dot → predicate.kind ≡ k.Name
      → opening.kind ≡ k.LeftParenthesis → Spells line (HostArguments x second) ts → closing.kind ≡ k.RightParenthesis
      → Spells line (Primary (host_call (text_of line predicate) x second)) (word ∷ dot ∷ predicate ∷ opening ∷ (ts ++ closing ∷ []))
  asked_of_one : {x : Expr} {ts : List Token} → Spells line (Conditional x) ts → Spells line (HostArguments x None) ts
  asked_of_two : {x y : Expr} {xs ys : List Token} (comma : Token) → Spells line (Conditional x) xs → comma.kind ≡ k.Comma → Spells line (Conditional y) ys
      → Spells line (HostArguments x (Some y)) (xs ++ comma ∷ ys)
  -- "new" "{" [member {"," member} [","]] "}"
  record_of : {fs : List (Field Expr)} {ts : List Token} (word opening closing : Token) → word.kind ≡ k.New → opening.kind ≡ k.LeftBrace → Spells line (Fields fs) ts
      → closing.kind ≡ k.RightBrace → Spells line (Primary (expr.Node (node.New fs))) (word ∷ opening ∷ (ts ++ closing ∷ []))
  no_fields : Spells line (Fields []) []
  some_fields : {fs : List (Field Expr)} {ts : List Token} → Spells line (SomeFields fs) ts → Spells line (Fields fs) ts
  fields_and_comma : {fs : List (Field Expr)} {ts : List Token} (comma : Token) → Spells line (SomeFields fs) ts → comma.kind ≡ k.Comma → Spells line (Fields fs) (ts ++ comma ∷ [])
  one_field : {f : Field Expr} {ts : List Token} → Spells line (OneField f) ts → Spells line (SomeFields (f ∷ [])) ts
  another_field : {fs : List (Field Expr)} {f : Field Expr} {xs ys : List Token} (comma : Token) → Spells line (SomeFields fs) xs → comma.kind ≡ k.Comma → Spells line (OneField f) ys
      → Spells line (SomeFields (fs ++ f ∷ [])) (xs ++ comma ∷ ys)
  -- name "=" cond | name | primary "." name
  field_assigned : {x : Expr} {ts : List Token} (word assign : Token) → word.kind ≡ k.Name → assign.kind ≡ k.Assign → Spells line (Conditional x) ts
      → Spells line (OneField (record { name = text_of line word; value = x })) (word ∷ assign ∷ ts)
  field_name : (word : Token) → word.kind ≡ k.Name → Spells line (OneField (record { name = text_of line word; value = named (text_of line word) })) (word ∷ [])
  field_member : {x : Expr} {ts : List Token} (dot word : Token) → Spells line (Primary x) ts → dot.kind ≡ k.Dot → word.kind ≡ k.Name
      → Spells line (OneField (record { name = text_of line word; value = member_of x (text_of line word) })) (ts ++ dot ∷ word ∷ [])
  -- primary "." name
  member : {x : Expr} {ts : List Token} (dot word : Token) → Spells line (Primary x) ts → dot.kind ≡ k.Dot → word.kind ≡ k.Name
      → Spells line (Primary (member_of x (text_of line word))) (ts ++ dot ∷ word ∷ [])
  -- primary "." name "(" [arg {"," arg}] ")"
  method : {x : Expr} {args : List (Argument Expr)} {xs ys : List Token} (dot word opening closing : Token) → Spells line (Primary x) xs → dot.kind ≡ k.Dot → word.kind ≡ k.Name
      → opening.kind ≡ k.LeftParenthesis → Spells line (Arguments args) ys → closing.kind ≡ k.RightParenthesis
      → Spells line (Primary (expr.Node (node.Method x (text_of line word) args))) (xs ++ dot ∷ word ∷ opening ∷ (ys ++ closing ∷ []))
  no_arguments : Spells line (Arguments []) []
  some_arguments : {args : List (Argument Expr)} {ts : List Token} → Spells line (SomeArguments args) ts → Spells line (Arguments args) ts
  one_argument : {a : Argument Expr} {ts : List Token} → Spells line (OneArgument a) ts → Spells line (SomeArguments (a ∷ [])) ts
  another_argument : {args : List (Argument Expr)} {a : Argument Expr} {xs ys : List Token} (comma : Token) → Spells line (SomeArguments args) xs → comma.kind ≡ k.Comma
      → Spells line (OneArgument a) ys → Spells line (SomeArguments (args ++ a ∷ [])) (xs ++ comma ∷ ys)
  -- cond | name "=>" cond
  argument_value : {x : Expr} {ts : List Token} → Spells line (Conditional x) ts → Spells line (OneArgument (argument.Value x)) ts
  argument_lambda : {x : Expr} {ts : List Token} (word arrow : Token) → word.kind ≡ k.Name → arrow.kind ≡ k.Arrow → Spells line (Conditional x) ts
      → Spells line (OneArgument (argument.Lambda (text_of line word) x)) (word ∷ arrow ∷ ts)
  -- ---- queries
  -- "from" name "in" cond body {"into" name body}
  query : {s : Expr} {b : Body Expr} {rest : List (Continuation Expr)} {xs ys zs : List Token} (from word within : Token) → from.kind ≡ k.From → word.kind ≡ k.Name → within.kind ≡ k.In
      → Spells line (Conditional s) xs → Spells line (Bodied b) ys → Spells line (Continuations rest) zs
      → Spells line (Queried (record { name = text_of line word; source = s; body = b; rest = rest })) (from ∷ word ∷ within ∷ (xs ++ (ys ++ zs)))
  no_continuation : Spells line (Continuations []) []
  another_continuation : {rest : List (Continuation Expr)} {b : Body Expr} {xs ys : List Token} (into word : Token) → Spells line (Continuations rest) xs → into.kind ≡ k.Into
      → word.kind ≡ k.Name → Spells line (Bodied b) ys
      → Spells line (Continuations (rest ++ record { name = text_of line word; body = b } ∷ [])) (xs ++ into ∷ word ∷ ys)
  -- {clause} ("select" cond | "group" cond "by" cond)
  body : {cs : List (Clause Expr)} {l : Last Expr} {xs ys : List Token} → Spells line (Clauses cs) xs → Spells line (Ending l) ys
      → Spells line (Bodied (record { clauses = cs; last = l })) (xs ++ ys)
  select : {x : Expr} {ts : List Token} (word : Token) → word.kind ≡ k.Select → Spells line (Conditional x) ts → Spells line (Ending (last.Select x)) (word ∷ ts)
  group : {x y : Expr} {xs ys : List Token} (word by : Token) → word.kind ≡ k.Group → Spells line (Conditional x) xs → by.kind ≡ k.By → Spells line (Conditional y) ys
      → Spells line (Ending (last.Group x y)) (word ∷ (xs ++ by ∷ ys))
  no_clause : Spells line (Clauses []) []
  another_clause : {cs : List (Clause Expr)} {c : Clause Expr} {xs ys : List Token} → Spells line (Clauses cs) xs → Spells line (OneClause c) ys → Spells line (Clauses (cs ++ c ∷ [])) (xs ++ ys)
  -- "from" name "in" cond
  from_clause : {x : Expr} {ts : List Token} (word variable within : Token) → word.kind ≡ k.From → variable.kind ≡ k.Name → within.kind ≡ k.In → Spells line (Conditional x) ts
      → Spells line (OneClause (clause.From (text_of line variable) x)) (word ∷ variable ∷ within ∷ ts)
  -- "let" name "=" cond
  let_clause : {x : Expr} {ts : List Token} (word variable assign : Token) → word.kind ≡ k.Let → variable.kind ≡ k.Name → assign.kind ≡ k.Assign → Spells line (Conditional x) ts
      → Spells line (OneClause (clause.Let (text_of line variable) x)) (word ∷ variable ∷ assign ∷ ts)
  -- "where" cond
  where_clause : {x : Expr} {ts : List Token} (word : Token) → word.kind ≡ k.Where → Spells line (Conditional x) ts → Spells line (OneClause (clause.Where x)) (word ∷ ts)
  -- "join" name "in" cond "on" cond "equals" cond ["into" name]
  join_clause : {s x y : Expr} {ss xs ys : List Token} (word variable within on equals : Token) → word.kind ≡ k.Join → variable.kind ≡ k.Name → within.kind ≡ k.In → Spells line (Conditional s) ss
      → on.kind ≡ k.On → Spells line (Conditional x) xs → equals.kind ≡ k.Equals → Spells line (Conditional y) ys
      → Spells line (OneClause (clause.Join (record { name = text_of line variable; source = s; outer_key = x; inner_key = y; into = None })))
      (word ∷ variable ∷ within ∷ (ss ++ on ∷ (xs ++ equals ∷ ys)))
  group_join_clause : {s x y : Expr} {ss xs ys : List Token} (word variable within on equals into group : Token) → word.kind ≡ k.Join → variable.kind ≡ k.Name → within.kind ≡ k.In
      → Spells line (Conditional s) ss → on.kind ≡ k.On → Spells line (Conditional x) xs → equals.kind ≡ k.Equals → Spells line (Conditional y) ys → into.kind ≡ k.Into → group.kind ≡ k.Name
      → Spells line (OneClause (clause.Join (record { name = text_of line variable; source = s; outer_key = x; inner_key = y; into = Some (text_of line group) })))
      (word ∷ variable ∷ within ∷ (ss ++ on ∷ (xs ++ equals ∷ (ys ++ into ∷ group ∷ []))))
  -- "orderby" key {"," key}
  orderby_clause : {ks : List (SortKey Expr)} {ts : List Token} (word : Token) → word.kind ≡ k.OrderBy → Spells line (Keys ks) ts → Spells line (OneClause (clause.OrderBy ks)) (word ∷ ts)
  one_key : {key : SortKey Expr} {ts : List Token} → Spells line (OneKey key) ts → Spells line (Keys (key ∷ [])) ts
  another_key : {ks : List (SortKey Expr)} {key : SortKey Expr} {xs ys : List Token} (comma : Token) → Spells line (Keys ks) xs → comma.kind ≡ k.Comma → Spells line (OneKey key) ys
      → Spells line (Keys (ks ++ key ∷ [])) (xs ++ comma ∷ ys)
  -- cond ["ascending" | "descending"]
  key_alone : {x : Expr} {ts : List Token} → Spells line (Conditional x) ts → Spells line (OneKey (record { value = x; descending = false })) ts
  key_ascending : {x : Expr} {ts : List Token} (word : Token) → Spells line (Conditional x) ts → word.kind ≡ k.Ascending → Spells line (OneKey (record { value = x; descending = false })) (ts ++ word ∷ [])
  key_descending : {x : Expr} {ts : List Token} (word : Token) → Spells line (Conditional x) ts → word.kind ≡ k.Descending → Spells line (OneKey (record { value = x; descending = true })) (ts ++ word ∷ [])
