-- Parts of trees with each expression in them replaced, so that all else stays as it is.
use Rattle.std.specs.Prelude.{map}
use Rattle.lq_language.specs.EnumerableCalls.{EnumerableCall, By, Plain, With}
use Rattle.lq_grammar.specs.declared.syntax.Argument.{Argument}
use Rattle.lq_grammar.specs.declared.syntax.Argument.TheVariants as argument
use Rattle.lq_grammar.specs.declared.syntax.Body.{Body}
use Rattle.lq_grammar.specs.declared.syntax.Clause.{Clause}
use Rattle.lq_grammar.specs.declared.syntax.Clause.TheVariants as clause
use Rattle.lq_grammar.specs.declared.syntax.Continuation.{Continuation}
use Rattle.lq_grammar.specs.declared.syntax.Field.{Field}
use Rattle.lq_grammar.specs.declared.syntax.Join.{Join}
use Rattle.lq_grammar.specs.declared.syntax.Last.{Last}
use Rattle.lq_grammar.specs.declared.syntax.Last.TheVariants as last
use Rattle.lq_grammar.specs.declared.syntax.Node.{Node}
use Rattle.lq_grammar.specs.declared.syntax.Node.TheVariants as node
use Rattle.lq_grammar.specs.declared.syntax.Query.{Query}
use Rattle.lq_grammar.specs.declared.syntax.SortKey.{SortKey}

module _ {X Y : Type 0} (f : X → Y) where
  -- ---- expressions other than queries

  abbrev pub map_field : Field X → Field Y
  map_field field = record { name = field.name; value = f field.value }

  abbrev pub map_argument : Argument X → Argument Y
  map_argument (argument.Value x) = argument.Value (f x)
  map_argument (argument.Lambda n x) = argument.Lambda n (f x)

  abbrev pub map_node : Node X → Node Y
  map_node (node.Integer n) = node.Integer n
  map_node (node.Text t) = node.Text t
  map_node (node.Bool b) = node.Bool b
  map_node node.Null = node.Null
  map_node (node.Name n) = node.Name n
  map_node (node.Member x m) = node.Member (f x) m
  map_node (node.Unary op x) = node.Unary op (f x)
  map_node (node.Binary op x y) = node.Binary op (f x) (f y)
  map_node (node.And x y) = node.And (f x) (f y)
  map_node (node.Or x y) = node.Or (f x) (f y)
  map_node (node.Coalesce x y) = node.Coalesce (f x) (f y)
  map_node (node.Conditional c x y) = node.Conditional (f c) (f x) (f y)
  map_node (node.Host p x columns) = node.Host p (f x) columns
  map_node (node.HostOther p xs) = node.HostOther p (map f xs)
  map_node (node.New fields) = node.New (map map_field fields)
  map_node (node.Method x m arguments) = node.Method (f x) m (map map_argument arguments)

  -- a method of a sequence
  abbrev pub map_enumerable : EnumerableCall X → EnumerableCall Y
  map_enumerable (Plain method) = Plain method
  map_enumerable (With method x) = With method (f x)
  map_enumerable (By method n x) = By method n (f x)

  -- ---- queries

  abbrev pub map_key : SortKey X → SortKey Y
  map_key k = record { value = f k.value; descending = k.descending }

  abbrev pub map_join : Join X → Join Y
  map_join j = record { name = j.name; source = f j.source; outer_key = f j.outer_key; inner_key = f j.inner_key; into = j.into }

  abbrev pub map_clause : Clause X → Clause Y
  map_clause (clause.From n x) = clause.From n (f x)
  map_clause (clause.Let n x) = clause.Let n (f x)
  map_clause (clause.Where x) = clause.Where (f x)
  map_clause (clause.Join j) = clause.Join (map_join j)
  map_clause (clause.OrderBy ks) = clause.OrderBy (map map_key ks)

  abbrev pub map_last : Last X → Last Y
  map_last (last.Select x) = last.Select (f x)
  map_last (last.Group x key) = last.Group (f x) (f key)

  abbrev pub map_body : Body X → Body Y
  map_body body = record { clauses = map map_clause body.clauses; last = map_last body.last }

  abbrev pub map_next : Continuation X → Continuation Y
  map_next next = record { name = next.name; body = map_body next.body }

  abbrev pub map_query : Query X → Query Y
  map_query q = record { name = q.name; source = f q.source; body = map_body q.body; rest = map map_next q.rest }
