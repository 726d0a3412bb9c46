-- Whole expressions translated: each query, wherever it is, is replaced by the calls that it is translated to.
use Rattle.std.specs.Prelude.{List, ℕ, Bool, false}
use Rattle.std.specs.Str.{bytes_eq}
use Rattle.lq_language.specs.declared.calls.Call.{Call}
use Rattle.lq_language.specs.declared.calls.Term.{Term, out-Term}
use Rattle.lq_language.specs.declared.calls.Term.TheOpen.{Term-F}
use Rattle.lq_language.specs.declared.calls.Term.TheVariants as term
use Rattle.lq_grammar.specs.declared.syntax.Expr.{Expr, fold-Expr}
use Rattle.lq_grammar.specs.declared.syntax.Expr.TheOpen.{Expr-F}
use Rattle.lq_grammar.specs.declared.syntax.Node.{Node}
use Rattle.lq_grammar.specs.declared.syntax.Node.TheVariants as node
use Rattle.lq_grammar.specs.declared.syntax.Query.{Query}
use Rattle.lq_translate.specs.Maps.{map_query}
use Rattle.lq_translate.specs.Translation.{call_of}

abbrev pub node_is_name : Node Term → List ℕ → Bool
node_is_name (node.Name used) n = bytes_eq n used
node_is_name other n = false

abbrev pub layer_is_name : Term-F Term → List ℕ → Bool
layer_is_name (Term-F.Node t) n = node_is_name t n
layer_is_name (Term-F.Call c) n = false

-- whether a term is nothing but this name
abbrev pub is_name : Term → List ℕ → Bool
is_name t n = layer_is_name (out-Term t) n

abbrev pub translated_step : Expr-F Term → Term
translated_step (Expr-F.Node n) = term.Node n
translated_step (Expr-F.Query q) = term.Call (call_of is_name q)

unfoldable pub translated : Expr → Term
translated = fold-Expr Term translated_step

-- the calls that a query is translated to, with those of the queries in it
abbrev pub translated_query : Query Expr → Call Term
translated_query q = call_of is_name (map_query translated q)
