-- Which rules name only what is there: they are looked through whole, also where they have no type.
use Rattle.std.specs.Prelude.{◌∷◌, ◌&&◌, ◌||◌, not, List, [], ℕ, Bool, true, Option, Some, None, codes}
use Rattle.std.specs.List.{list_all, list_any}
use Rattle.std.specs.Str.{bytes_eq}
use Rattle.lq_value.specs.declared.table.Column.{Column}
use Rattle.lq_language.specs.declared.host_name.HostName.{HostName}
use Rattle.lq_security.specs.Totality.{is_row}
use Rattle.lq_grammar.specs.declared.syntax.Argument.{Argument}
use Rattle.lq_grammar.specs.declared.syntax.Argument.TheVariants as argument
use Rattle.lq_grammar.specs.declared.syntax.Body.{Body}
use Rattle.lq_grammar.specs.declared.syntax.Clause.{Clause}
use Rattle.lq_grammar.specs.declared.syntax.Clause.TheVariants as clause
use Rattle.lq_grammar.specs.declared.syntax.Continuation.{Continuation}
use Rattle.lq_grammar.specs.declared.syntax.Expr.{Expr, out-Expr, para-Expr}
use Rattle.lq_grammar.specs.declared.syntax.Expr.TheOpen.{Expr-F}
use Rattle.lq_grammar.specs.declared.syntax.Join.{Join}
use Rattle.lq_grammar.specs.declared.syntax.Last.{Last}
use Rattle.lq_grammar.specs.declared.syntax.Last.TheVariants as last
use Rattle.lq_grammar.specs.declared.syntax.Node.{Node}
use Rattle.lq_grammar.specs.declared.syntax.Node.TheVariants as node
use Rattle.lq_grammar.specs.declared.syntax.Picked.{Picked}
use Rattle.lq_grammar.specs.declared.syntax.Picked.TheVariants as picked
use Rattle.lq_grammar.specs.declared.syntax.Query.{Query}

-- a table has a column of this name
abbrev pub has_column : List Column → List ℕ → Bool
has_column columns name = list_any (λ column. bytes_eq column.name name) columns

-- and columns of these names
abbrev pub has_columns : List Column → Picked → Bool
has_columns columns (picked.One c) = has_column columns c
has_columns columns (picked.Two c d) = has_column columns c && has_column columns d

-- there is a host predicate of this name, whatever it takes
abbrev pub is_predicate : List HostName → List ℕ → Bool
is_predicate hosts name = list_any (λ host. bytes_eq host.name name) hosts

-- whether the row is hidden where this local name is in scope: a local name `row` hides it
abbrev pub is_hidden_by : List ℕ → Bool → Bool
is_hidden_by name hidden = hidden || bytes_eq name (codes "row")

-- the name that a `join` brings into scope for what follows it
abbrev pub joined_name : List ℕ → Option (List ℕ) → List ℕ
joined_name name None = name
joined_name name (Some group) = group

-- whether the row is hidden after a clause
abbrev pub is_hidden_after : {X : Type 0} → Bool → Clause X → Bool
is_hidden_after hidden (clause.From name x) = is_hidden_by name hidden
is_hidden_after hidden (clause.Let name x) = is_hidden_by name hidden
is_hidden_after hidden (clause.Join join) = is_hidden_by (joined_name join.name join.into) hidden
is_hidden_after hidden clause = hidden

-- What is known of the expressions of a query, each where the row is hidden or not. Range variables may hide it.
module _ {X : Type 0} (knows : X → Bool → Bool) where
  abbrev pub argument_knows : Bool → Argument X → Bool
  argument_knows hidden (argument.Value x) = knows x hidden
  argument_knows hidden (argument.Lambda name x) = knows x (is_hidden_by name hidden)

  -- the inner sequence sees no range variable of its query, and the inner key no other than its own
  abbrev pub join_knows : Bool → Bool → Join X → Bool
  join_knows outer hidden join = knows join.source outer && knows join.outer_key hidden && knows join.inner_key (is_hidden_by join.name outer)

  -- in a query at whose place the row is hidden or not, and a clause at whose place it is
  abbrev pub clause_knows : Bool → Bool → Clause X → Bool
  clause_knows outer hidden (clause.From name x) = knows x hidden
  clause_knows outer hidden (clause.Let name x) = knows x hidden
  clause_knows outer hidden (clause.Where x) = knows x hidden
  clause_knows outer hidden (clause.Join join) = join_knows outer hidden join
  clause_knows outer hidden (clause.OrderBy keys) = list_all (λ key. knows key.value hidden) keys

  abbrev pub last_knows : Bool → Last X → Bool
  last_knows hidden (last.Select x) = knows x hidden
  last_knows hidden (last.Group x key) = knows x hidden && knows key hidden

  abbrev pub clauses_know : Bool → Bool → List (Clause X) → Last X → Bool
  clauses_know outer hidden [] end = last_knows hidden end
  clauses_know outer hidden (c ∷ cs) end = clause_knows outer hidden c && clauses_know outer (is_hidden_after hidden c) cs end

  abbrev pub body_knows : Bool → Bool → Body X → Bool
  body_knows outer hidden body = clauses_know outer hidden body.clauses body.last

  -- what follows by `into` sees no earlier range variable
  abbrev pub continuation_knows : Bool → Continuation X → Bool
  continuation_knows outer next = body_knows outer (is_hidden_by next.name outer) next.body

  abbrev pub query_knows : Bool → Query X → Bool
  query_knows outer q =
      knows q.source outer && body_knows outer (is_hidden_by q.name outer) q.body && list_all (continuation_knows outer) q.rest

-- an expression, and what is known of it
abbrev pub ExprKnowing : Type 0
ExprKnowing = Expr × (Bool → Bool)

abbrev pub knowing : ExprKnowing → Bool → Bool
knowing x = x.1

-- a column of the row is there, and so is a host predicate
abbrev pub node_knows : List HostName → List Column → Node ExprKnowing → Bool → Bool
node_knows hosts columns (node.Member a c) hidden = a.1 hidden && (hidden || not (is_row (out-Expr a.0)) || has_column columns c)
node_knows hosts columns (node.Unary op a) hidden = a.1 hidden
node_knows hosts columns (node.Binary op a b) hidden = a.1 hidden && b.1 hidden
node_knows hosts columns (node.And a b) hidden = a.1 hidden && b.1 hidden
node_knows hosts columns (node.Or a b) hidden = a.1 hidden && b.1 hidden
node_knows hosts columns (node.Coalesce a b) hidden = a.1 hidden && b.1 hidden
node_knows hosts columns (node.Conditional c a b) hidden = c.1 hidden && a.1 hidden && b.1 hidden
node_knows hosts columns (node.Host p a cs) hidden =
    is_predicate hosts p && a.1 hidden && (hidden || not (is_row (out-Expr a.0)) || has_columns columns cs)
node_knows hosts columns (node.HostOther p xs) hidden = is_predicate hosts p && list_all (λ x. knowing x hidden) xs
node_knows hosts columns (node.New fields) hidden = list_all (λ field. field.value.1 hidden) fields
node_knows hosts columns (node.Method a m arguments) hidden = a.1 hidden && list_all (argument_knows knowing hidden) arguments
node_knows hosts columns node hidden = true

abbrev pub knows_step : List HostName → List Column → Expr-F ExprKnowing → Bool → Bool
knows_step hosts columns (Expr-F.Node n) hidden = node_knows hosts columns n hidden
knows_step hosts columns (Expr-F.Query q) hidden = query_knows knowing hidden q

-- whether an expression names only columns of these where it names columns of the row, which is hidden or not, and only these host predicates
unfoldable pub knows : List HostName → List Column → Expr → Bool → Bool
knows hosts columns = para-Expr (Bool → Bool) (knows_step hosts columns)
