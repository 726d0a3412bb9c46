-- What terms are bound to, layer by layer; the names of tables; and operands that are bound together.
use Rattle.std.proofs.Common.{◌≡◌, ◌∷◌, if◌then◌else◌, List, [], ℕ, ◌+◌, Bool, true, false, Option, Some, None, ap, ◌∙◌, refl, sym, option_and_then, option_map}
use Rattle.std.proofs.lemmas.Option.{none-some}
use Rattle.std.specs.List.{position_from}
use Rattle.std.specs.Str.{bytes_eq}
use Rattle.lq_value.specs.Tables.{Table, first_named}
use Rattle.lq_value.specs.declared.table.Schema.{Schema}
use Rattle.lq_value.specs.declared.ty.Ty.{Ty}
use Rattle.lq_machine.specs.States.{schemas_of}
use Rattle.lq_language.specs.Names.{table_number}
use Rattle.lq_language.specs.Operators.{Pattern}
use Rattle.lq_language.specs.declared.calls.Call.{Call}
use Rattle.lq_language.specs.declared.calls.Paired.{Paired}
use Rattle.lq_language.specs.declared.calls.Term.{Term}
use Rattle.lq_language.specs.declared.calls.Term.TheVariants as term
use Rattle.lq_grammar.specs.declared.syntax.Join.{Join}
use Rattle.lq_grammar.specs.declared.syntax.Node.{Node}
use Rattle.lq_store.specs.Rules.{name_of}
use Rattle.lq_tree.specs.Binding.{Binds, PipelineForm, call_items_tree, call_tree, global_tree, if_fresh, join_keys, join_stage, joined_stage, matched_type, name_tree, node_tree, query_tree, source_tree, term_tree}
use Rattle.lq_tree.specs.Places.{Place, Places, with_item}
use Rattle.lq_tree.specs.declared.tree.Form.{Form}
use Rattle.lq_tree.specs.declared.tree.Tree.{Tree}
use Rattle.lq_tree.proofs.TreePullLaws.{tree_of_call, tree_of_node}
use Rattle.lq_bind.specs.Bound.{inner_side, joined_type, rows_tree, session_tree, side_by_keys, side_in}
use Rattle.lq_bind.specs.Frames.{place_tree}
use Rattle.lq_bind.specs.declared.pairs.InnerSide.{InnerSide}

-- ---- terms

pub node_bound : (schemas : List Schema) (n : Node Term) (places : Places)
    → term_tree schemas (term.Node n) places ≡ node_tree schemas (term_tree schemas) n places
node_bound schemas n places = λ i. tree_of_node schemas n i places

pub call_bound : (schemas : List Schema) (c : Call Term) (places : Places)
    → term_tree schemas (term.Call c) places ≡ call_tree schemas (term_tree schemas) c places
call_bound schemas c places = λ i. tree_of_call schemas c i places

pub ruleset terms = (node_bound, call_bound)

-- ---- tables

position_mapped : (name : List ℕ) (tables : List Table) (n : ℕ)
    → position_from (λ (schema : Schema). bytes_eq schema.name name) n (schemas_of tables) ≡ position_from (λ (t : Table). bytes_eq (name_of t) name) n tables
position_mapped name [] n = refl
position_mapped name (t ∷ ts) n = at (bytes_eq t.schema.name name) (position_mapped name ts (n + 1)) where
  at : (b : Bool) → position_from (λ (schema : Schema). bytes_eq schema.name name) (n + 1) (schemas_of ts)
      ≡ position_from (λ (t : Table). bytes_eq (name_of t) name) (n + 1) ts
      → (if b then Some n else position_from (λ (schema : Schema). bytes_eq schema.name name) (n + 1) (schemas_of ts))
      ≡ (if b then Some n else position_from (λ (t : Table). bytes_eq (name_of t) name) (n + 1) ts)
  at true e = refl
  at false e = e

pub table_found : (name : List ℕ) (tables : List Table) → table_number name (schemas_of tables) ≡ first_named name_of name tables
table_found name tables = position_mapped name tables 0

pub ruleset tables = (table_found)

-- a local name hides all others
pub name_found : (schemas : List Schema) (places : Places) (name : List ℕ) (place : Option Place) (local : Tree) → Some local ≡ option_map place_tree place
    → name_tree schemas places name place ≡ Some local
name_found schemas places name None local e = absurd (none-some local (sym e))
name_found schemas places name (Some place) local e = sym e

pub name_missed : (schemas : List Schema) (places : Places) (name : List ℕ) (place : Option Place) → None ≡ option_map place_tree place
    → name_tree schemas places name place ≡ global_tree schemas places name (table_number name schemas)
name_missed schemas places name None e = refl
name_missed schemas places name (Some place) e = absurd (none-some (place_tree place) e)

pub ruleset local_names = (name_found, name_missed)

-- and a table those of the session
pub rows_found : (schemas : List Schema) (places : Places) (name : List ℕ) (table : Option ℕ) (rows : Tree) → Some rows ≡ option_map rows_tree table
    → global_tree schemas places name table ≡ Some rows
rows_found schemas places name None rows e = absurd (none-some rows (sym e))
rows_found schemas places name (Some n) rows e = sym e

pub rows_missed : (schemas : List Schema) (places : Places) (name : List ℕ) (table : Option ℕ) → None ≡ option_map rows_tree table
    → global_tree schemas places name table ≡ session_tree places.session name places.depth
rows_missed schemas places name None e = refl
rows_missed schemas places name (Some n) e = absurd (none-some (rows_tree n) e)

pub ruleset globals = (rows_found, rows_missed)

-- ---- calls

pub call_query : (schemas : List Schema) (tree : Term → Binds) (c : Call Term) (places : Places)
    → call_tree schemas tree c places ≡ option_map (query_tree schemas tree) (call_items_tree schemas tree c places)
unfolding call_tree
call_query schemas tree c places = refl

pub ruleset calls = (call_query)

-- ---- joins

type_by : (stage_by : Form → Form × Form → Ty → Option PipelineForm) (inner : Tree) (keys : Form × Form) (t : Option Ty)
    → option_and_then (stage_by inner.form keys) t ≡ option_and_then (λ (side : InnerSide). stage_by side.items side.keys side.ty) (option_map (inner_side inner keys) t)
type_by stage_by inner keys None = refl
type_by stage_by inner keys (Some t) = refl

keys_by : (stage_by : Form → Form × Form → Ty → Option PipelineForm) (type : Ty → Option Ty) (inner : Tree) (keys : Option (Form × Form))
    → option_and_then (λ ks. option_and_then (stage_by inner.form ks) (type inner.ty)) keys
    ≡ option_and_then (λ (side : InnerSide). stage_by side.items side.keys side.ty) (option_and_then (λ ks. option_map (inner_side inner ks) (type inner.ty)) keys)
keys_by stage_by type inner None = refl
keys_by stage_by type inner (Some ks) = type_by stage_by inner ks (type inner.ty)

join_by : (stage_by : Form → Form × Form → Ty → Option PipelineForm) (keys : Ty → Option (Form × Form)) (type : Ty → Option Ty) (inner : Option Tree)
    → option_and_then (λ (x : Tree). option_and_then (λ ks. option_and_then (stage_by x.form ks) (type x.ty)) (keys x.ty)) inner
    ≡ option_and_then (λ (side : InnerSide). stage_by side.items side.keys side.ty) (option_and_then (side_by_keys keys type) inner)
join_by stage_by keys type None = refl
join_by stage_by keys type (Some x) = keys_by stage_by type x (keys x.ty)

type_at : (schemas : List Schema) (tree : Term → Binds) (places : Places) (p : Pattern) (into : Option (List ℕ)) (t : Ty)
    → matched_type schemas tree places p into t ≡ joined_type (with_item places p) into t
type_at schemas tree places p None t = refl
type_at schemas tree places p (Some g) t = refl

-- a join is its inner side, and what comes of the pairs then
pub join_by_sides : (schemas : List Schema) (tree : Term → Binds) (places : Places) (j : Join Term) (result : Paired Term) (stage : PipelineForm)
    → join_stage schemas tree places j result stage
    ≡ option_and_then (λ (side : InnerSide). joined_stage schemas tree places j result stage side.items side.keys side.ty) (side_in schemas tree places stage.pattern j)
join_by_sides schemas tree places j result stage =
    ap (λ (type : Ty → Option Ty). option_and_then (λ (x : Tree). option_and_then (λ ks. option_and_then (joined_stage schemas tree places j result stage x.form ks) (type x.ty))
    (join_keys schemas tree places stage.pattern j x.ty)) (if_fresh schemas tree places stage.pattern j.name (source_tree schemas tree j.source places)))
    (λ i t. type_at schemas tree places stage.pattern j.into t i)
    ∙ join_by (joined_stage schemas tree places j result stage) (join_keys schemas tree places stage.pattern j) (joined_type (with_item places stage.pattern) j.into)
    (if_fresh schemas tree places stage.pattern j.name (source_tree schemas tree j.source places))

pub ruleset joins = (join_by_sides)
