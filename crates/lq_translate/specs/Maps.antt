-- Parts of trees with each expression in them replaced, so that all else stays as it is: those of expressions, as `lq_grammar` has them,
-- and those of calls.
use Rattle.std.specs.Prelude.{map, option_map}
pub use Rattle.lq_language.specs.Maps.{map_argument, map_body, map_clause, map_enumerable, map_field, map_join, map_key, map_last, map_next, map_node, map_query}
use Rattle.lq_language.specs.declared.calls.Call.{Call}
use Rattle.lq_language.specs.declared.calls.Operator.{Operator}
use Rattle.lq_language.specs.declared.calls.Operator.TheVariants as operator
use Rattle.lq_language.specs.declared.calls.Paired.{Paired}
use Rattle.lq_language.specs.declared.calls.Paired.TheVariants as paired
use Rattle.lq_language.specs.declared.calls.Part.{Part}

module _ {X Y : Type 0} (f : X → Y) where
  abbrev pub map_paired : Paired X → Paired Y
  map_paired paired.Pair = paired.Pair
  map_paired (paired.Value x) = paired.Value (f x)

  abbrev pub map_operator : Operator X → Operator Y
  map_operator (operator.Where x) = operator.Where (f x)
  map_operator (operator.Select x) = operator.Select (f x)
  map_operator (operator.Let n x) = operator.Let n (f x)
  map_operator (operator.SelectMany n x result) = operator.SelectMany n (f x) (map_paired result)
  map_operator (operator.Join j result) = operator.Join (map_join f j) (map_paired result)
  map_operator (operator.OrderBy ks) = operator.OrderBy (map (map_key f) ks)
  map_operator (operator.GroupBy key element) = operator.GroupBy (f key) (option_map f element)

  abbrev pub map_part : Part X → Part Y
  map_part part = record { name = part.name; operators = map map_operator part.operators }

  abbrev pub map_call : Call X → Call Y
  map_call c = record { name = c.name; source = f c.source; operators = map map_operator c.operators; rest = map map_part c.rest }
