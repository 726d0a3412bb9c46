-- «Uses»: which tables, columns and host predicates an expression names, in the order of its text; and the columns of a type, all of which a reply
-- shows.
use Rattle.std.specs.Prelude.{◌∷◌, ◌++◌, ◌+◌, List, [], flat_map, ℕ, Option, Some, None, slice_get}
use Rattle.lq_value.specs.declared.table.Schema.{Schema}
use Rattle.lq_value.specs.declared.ty.Ty.{Ty, fold-Ty, out-Ty}
use Rattle.lq_value.specs.declared.ty.Ty.TheOpen.{Ty-F}
use Rattle.lq_language.specs.ClauseTyping.{body_items, expression_type, names_after, sole_name, source_type}
use Rattle.lq_host.specs.declared.call.Pick.{Pick}
use Rattle.lq_language.specs.HostNames.{column_numbers, predicate_number}
use Rattle.lq_language.specs.Mentions.{Mention, Table, Column, HostAt, columns_named}
use Rattle.lq_language.specs.Names.{Names, column_number, local_type, session_name, table_number, with_local}
use Rattle.lq_language.specs.declared.rights.Use.{Use}
use Rattle.lq_language.specs.declared.rights.Use.TheVariants as of
use Rattle.lq_grammar.specs.declared.syntax.Argument.{Argument}
use Rattle.lq_grammar.specs.declared.syntax.Argument.TheVariants as argument
use Rattle.lq_grammar.specs.declared.syntax.Body.{Body}
use Rattle.lq_grammar.specs.declared.syntax.Clause.{Clause}
use Rattle.lq_grammar.specs.declared.syntax.Clause.TheVariants as clause
use Rattle.lq_grammar.specs.declared.syntax.Continuation.{Continuation}
use Rattle.lq_grammar.specs.declared.syntax.Expr.{Expr, para-Expr}
use Rattle.lq_grammar.specs.declared.syntax.Expr.TheOpen.{Expr-F}
use Rattle.lq_grammar.specs.declared.syntax.Last.{Last}
use Rattle.lq_grammar.specs.declared.syntax.Last.TheVariants as last
use Rattle.lq_grammar.specs.declared.syntax.Node.{Node}
use Rattle.lq_grammar.specs.declared.syntax.Node.TheVariants as node
use Rattle.lq_grammar.specs.declared.syntax.Picked.{Picked}
use Rattle.lq_grammar.specs.declared.syntax.Query.{Query}

-- what is named under what is found; nothing where nothing is found, as in what has no type
abbrev pub under : {A B : Type 0} → Option A → (A → List B) → List B
under None used = []
under (Some x) used = used x

-- ---- names and members

-- a table is a use, and a name of the session uses what the expression uses that it refers to
abbrev pub global_uses : Names → List ℕ → Option ℕ → List Mention
global_uses names x (Some t) = Table t ∷ []
global_uses names x None = under (session_name x names.session) (λ known. known.uses)

-- a local name isn't a use
abbrev pub name_uses : Option Ty → List ℕ → Names → List Mention
name_uses (Some t) x names = []
name_uses None x names = global_uses names x (table_number x names.tables)

-- a member of a row is a column; a member of anything else isn't a use
abbrev pub member_uses : Names → List ℕ → Ty-F Ty → List Mention
member_uses names m (Ty-F.Row t) = under (column_number m (slice_get names.tables t)) (λ c. Column t c ∷ [])
member_uses names m layer = []

-- A predicate is named before the row that it is asked about, and that before its columns.
abbrev pub host_named : ℕ → ℕ → List Mention → Pick → List Mention
host_named p t row columns = HostAt p t columns ∷ (row ++ columns_named t columns)

-- what is named by a predicate that is asked about a row, which is of this type and names this
abbrev pub host_uses : Names → List ℕ → Picked → List Mention → Ty-F Ty → List Mention
host_uses names p columns row (Ty-F.Row t) =
    under (predicate_number names.predicates p columns) (λ k. under (column_numbers (slice_get names.tables t) columns) (host_named k t row))
host_uses names p columns row layer = []

-- ---- what holds expressions: `typed` gives the type of each, and `uses` what it uses

module _ {X : Type 0} (typed : X → Names → Option Ty) (uses : X → Names → List Mention) where
  -- an argument of a method on items of this type
  abbrev pub argument_uses : Names → Option Ty → Argument X → List Mention
  argument_uses names item (argument.Value x) = uses x names
  argument_uses names item (argument.Lambda n body) = under item (λ t. uses body (with_local names n t))

  -- an expression that isn't a query
  abbrev pub node_uses : Node X → Names → List Mention
  node_uses (node.Name x) names = name_uses (local_type x names.locals) x names
  node_uses (node.Member a m) names = uses a names ++ under (typed a names) (λ t. member_uses names m (out-Ty t))
  node_uses (node.Unary sign a) names = uses a names
  node_uses (node.Binary sign a b) names = uses a names ++ uses b names
  node_uses (node.And a b) names = uses a names ++ uses b names
  node_uses (node.Or a b) names = uses a names ++ uses b names
  node_uses (node.Coalesce a b) names = uses a names ++ uses b names
  node_uses (node.Conditional c a b) names = uses c names ++ (uses a names ++ uses b names)
  node_uses (node.New fields) names = flat_map (λ field. uses field.value names) fields
  node_uses (node.Method a m arguments) names = uses a names ++ flat_map (argument_uses names (source_type typed a names)) arguments
  node_uses (node.Host p row columns) names = under (typed row names) (λ t. host_uses names p columns (uses row names) (out-Ty t))
  node_uses literal names = []

  -- a clause of a query at the place of the first names, under those before it
  abbrev pub clause_uses : Names → Clause X → Names → List Mention
  clause_uses outer (clause.From n f) names = uses f names
  clause_uses outer (clause.Let n f) names = uses f names
  clause_uses outer (clause.Where c) names = uses c names
  clause_uses outer (clause.Join j) names =
      uses j.source outer ++ (uses j.outer_key names ++ under (source_type typed j.source outer) (λ t. uses j.inner_key (with_local outer j.name t)))
  clause_uses outer (clause.OrderBy ks) names = flat_map (λ k. uses k.value names) ks

  -- an element comes before its key
  abbrev pub last_uses : Last X → Names → List Mention
  last_uses (last.Select v) names = uses v names
  last_uses (last.Group v key) names = uses v names ++ uses key names

  -- the clauses of a body in turn, each under the names after those before it, and its end
  abbrev pub clauses_uses : Names → List (Clause X) → Last X → Names → List Mention
  clauses_uses outer [] l names = last_uses l names
  clauses_uses outer (c ∷ cs) l names = clause_uses outer c names ++ under (names_after typed outer c names) (clauses_uses outer cs l)

  abbrev pub body_uses : Names → Body X → Names → List Mention
  body_uses outer body names = clauses_uses outer body.clauses body.last names

  -- what follows by `into`, where the items before it are of this type
  abbrev pub continued_uses : Names → List (Continuation X) → Ty → List Mention
  continued_uses outer [] t = []
  continued_uses outer (next ∷ rest) t =
      under (sole_name typed outer next.name t)
      (λ names. body_uses outer next.body names ++ under (body_items typed outer next.body names) (continued_uses outer rest))

  -- a query: its source, its body, and what follows
  unfoldable pub query_uses : Query X → Names → List Mention
  query_uses q outer =
      uses q.source outer
      ++ under (source_type typed q.source outer)
      (λ t. under (sole_name typed outer q.name t)
      (λ names. body_uses outer q.body names ++ under (body_items typed outer q.body names) (continued_uses outer q.rest)))

-- ---- expressions

-- an expression with what it uses
abbrev pub Used : Type 0
Used = Expr × (Names → List Mention)

abbrev pub uses_step : Expr-F Used → Names → List Mention
uses_step (Expr-F.Node n) names = node_uses (λ x. expression_type x.0) (λ x. x.1) n names
uses_step (Expr-F.Query q) names = query_uses (λ x. expression_type x.0) (λ x. x.1) q names

-- the tables, columns and host predicates that an expression names, in the order of its text
unfoldable pub expression_uses : Expr → Names → List Mention
expression_uses = para-Expr (Names → List Mention) uses_step

-- ---- results

-- the columns of a table, from this number on
abbrev pub columns_from : {A : Type 0} → ℕ → ℕ → List A → List Use
columns_from t c [] = []
columns_from t c (column ∷ columns) = of.Column t c ∷ columns_from t (c + 1) columns

-- all of them, in the order of the schema
abbrev pub all_columns : ℕ → Option Schema → List Use
all_columns t table = under table (λ schema. columns_from t 0 schema.columns)

-- a record's members as written, and a group's key before its items
abbrev pub shown_step : List Schema → Ty-F (List Use) → List Use
shown_step schemas (Ty-F.Row t) = all_columns t (slice_get schemas t)
shown_step schemas (Ty-F.Rec members) = flat_map (λ member. member.1) members
shown_step schemas (Ty-F.Group key item) = key ++ item
shown_step schemas (Ty-F.Seq item) = item
shown_step schemas layer = []

-- the columns of each row in a value of this type
unfoldable pub shown_columns : List Schema → Ty → List Use
shown_columns schemas = fold-Ty (List Use) (shown_step schemas)
