-- Guarded trees: for which action each leaf of a tree is guarded, and what a tree means whose leaves are.
use Rattle.std.specs.Prelude.{List, map}
use Rattle.lq_value.specs.Tables.{Table}
use Rattle.lq_language.specs.Maps.{map_field, map_key}
use Rattle.lq_language.specs.TableRows.{TableRow}
use Rattle.lq_language.specs.Worlds.{World}
use Rattle.lq_security.specs.declared.policy.Action.{Action}
use Rattle.lq_security.specs.declared.policy.Action.TheVariants as action
use Rattle.lq_security.specs.declared.policy.PolicyParts.{PolicyParts}
use Rattle.lq_policy.specs.Roles.{number_of}
use Rattle.lq_tree.specs.FormMeaning.{Means, form_step}
use Rattle.lq_tree.specs.declared.tree.Form.{Form, fold-Form}
use Rattle.lq_tree.specs.declared.tree.Form.TheOpen.{Form-F}
use Rattle.lq_tree.specs.declared.tree.Joined.{Joined}
use Rattle.lq_guard.specs.SeenRows.{visible_tables}
use Rattle.lq_guard.specs.declared.guarded_trees.GuardedTree.{GuardedTree}

-- Parts of forms are functions of the action for which the leaf at the head of their chain of sources is guarded.
module _ {A : Type 0} where
  -- what is not in the chain of sources is read
  abbrev pub for_select : (Action → A) → A
  for_select part = part action.Select

  abbrev pub join_for_select : Joined (Action → A) → Joined A
  join_for_select j = record {
    inner = for_select j.inner;
    outer_key = for_select j.outer_key;
    inner_key = for_select j.inner_key;
    grouped = j.grouped;
    result = for_select j.result;
  }

  -- The parts of a form that is guarded for an action. What an operator takes its items from is next in the chain of sources, and is guarded for
  -- the same action; all other parts are guarded for select. A leaf has no parts: it is itself the head of its chain.
  abbrev pub guarded_parts : Form-F (Action → A) → Action → Form-F A
  guarded_parts (Form-F.Literal s) act = Form-F.Literal s
  guarded_parts (Form-F.Slot n) act = Form-F.Slot n
  guarded_parts (Form-F.First a) act = Form-F.First (for_select a)
  guarded_parts (Form-F.Second a) act = Form-F.Second (for_select a)
  guarded_parts (Form-F.Table n) act = Form-F.Table n
  guarded_parts (Form-F.Column a table c) act = Form-F.Column (for_select a) table c
  guarded_parts (Form-F.Host p a table columns) act = Form-F.Host p (for_select a) table columns
  guarded_parts (Form-F.Member a place) act = Form-F.Member (for_select a) place
  guarded_parts (Form-F.Key a) act = Form-F.Key (for_select a)
  guarded_parts (Form-F.Unary o a) act = Form-F.Unary o (for_select a)
  guarded_parts (Form-F.Binary o a b) act = Form-F.Binary o (for_select a) (for_select b)
  guarded_parts (Form-F.And a b) act = Form-F.And (for_select a) (for_select b)
  guarded_parts (Form-F.Or a b) act = Form-F.Or (for_select a) (for_select b)
  guarded_parts (Form-F.Coalesce a b) act = Form-F.Coalesce (for_select a) (for_select b)
  guarded_parts (Form-F.Conditional c a b) act = Form-F.Conditional (for_select c) (for_select a) (for_select b)
  guarded_parts (Form-F.IsNull wanted a) act = Form-F.IsNull wanted (for_select a)
  guarded_parts (Form-F.Record fields) act = Form-F.Record (map (map_field for_select) fields)
  guarded_parts (Form-F.Pair a b) act = Form-F.Pair (for_select a) (for_select b)
  -- operators, each of which takes its items from what comes first
  guarded_parts (Form-F.Sequence a) act = Form-F.Sequence (a act)
  guarded_parts (Form-F.Simple method t a) act = Form-F.Simple method t (a act)
  guarded_parts (Form-F.Given method a b) act = Form-F.Given method (a act) (for_select b)
  guarded_parts (Form-F.Where a f) act = Form-F.Where (a act) (for_select f)
  guarded_parts (Form-F.Select a f) act = Form-F.Select (a act) (for_select f)
  guarded_parts (Form-F.All a f) act = Form-F.All (a act) (for_select f)
  guarded_parts (Form-F.SelectMany a inner result) act = Form-F.SelectMany (a act) (for_select inner) (for_select result)
  guarded_parts (Form-F.Join a j) act = Form-F.Join (a act) (join_for_select j)
  guarded_parts (Form-F.OrderBy a ks) act = Form-F.OrderBy (a act) (map (map_key for_select) ks)
  guarded_parts (Form-F.GroupBy a key element) act = Form-F.GroupBy (a act) (for_select key) (for_select element)

-- what is read where the rows of tables are those with which this may be done
module _ {R : Type 0} (world : World R) (rows : Action → List (List R)) where
  abbrev pub world_for : Action → World R
  world_for act = record world { rows = rows act }

  -- a form over the meanings of its parts, each for the action for which it is guarded
  abbrev pub guarded_step : Form-F (Action → Means R) → Action → Means R
  guarded_step layer act = form_step (world_for act) (guarded_parts layer act)

  -- what a form means that is guarded for an action: a leaf means the rows of its table with which this may be done
  unfoldable pub guarded_meaning : Form → Action → Means R
  guarded_meaning = fold-Form (Action → Means R) guarded_step

-- what a guarded tree means over tables, under policies: a leaf means the rows of its table with which the tree's role may do what the leaf is
-- guarded for
abbrev pub tree_meaning : World TableRow → PolicyParts → List Table → GuardedTree → Means TableRow
tree_meaning world policies tables g = guarded_meaning world (visible_tables policies (number_of g.role) tables) g.tree.form g.action
