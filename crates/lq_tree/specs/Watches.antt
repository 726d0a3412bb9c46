-- Watches: which rows may be read and which host predicates may be asked while a form is run. A log grows by watched calls alone where the
-- watch covers the form that is run and passes the rows in its slots.
use Rattle.std.specs.Prelude.{◌≡◌, ◌++◌, ◌&&◌, List, ℕ, Bool, true, Option, Some, None, Result, Ok, Err, slice_get}
use Rattle.std.specs.List.{list_all}
use Rattle.lq_value.specs.declared.scalar.Scalar.{Scalar}
use Rattle.lq_value.specs.declared.value.Fault.{Fault}
use Rattle.lq_value.specs.declared.value.Value.{Value, fold-Value}
use Rattle.lq_value.specs.declared.value.Value.TheOpen.{Value-F}
use Rattle.lq_host.specs.Calls.{arguments_at}
use Rattle.lq_host.specs.Predicates.{answer_in}
use Rattle.lq_host.specs.declared.call.Call.{Call}
use Rattle.lq_host.specs.declared.call.Pick.{Pick}
use Rattle.lq_language.specs.ValuesOfTypes.{Every}
use Rattle.lq_language.specs.Worlds.{World}
use Rattle.lq_grammar.specs.declared.syntax.Field.{Field}
use Rattle.lq_grammar.specs.declared.syntax.SortKey.{SortKey}
use Rattle.lq_tree.specs.declared.tree.Form.{Form, fold-Form, para-Form}
use Rattle.lq_tree.specs.declared.tree.Form.TheOpen.{Form-F}
use Rattle.lq_tree.specs.declared.tree.Joined.{Joined}

-- a test of rows, and one of a host predicate, a table and the columns of its rows that the predicate is asked of
pub record Watch (R : Type 0) : Type 0 where
  pub row : R → Bool
  pub host : ℕ → ℕ → Pick → Bool

-- what rows tell: the number of their table, their own number there, and their cells
pub record RowFacts (R : Type 0) : Type 0 where
  pub table : R → ℕ
  pub number : R → ℕ
  pub cells : R → List Scalar

-- ---- logs

module _ {R : Type 0} (world : World R) (facts : RowFacts R) (w : Watch R) where
  -- A watched call: it asks a predicate that passes, of columns of a row that passes; its arguments are the row's cells there, within the
  -- predicate's range, and its answer is the predicate's.
  pub record IsWatched (call : Call) : Type 0 where
    pub row : R
    pub passes : w.row row ≡ true
    pub host : w.host call.predicate call.table call.columns ≡ true
    pub table : facts.table row ≡ call.table
    pub number : facts.number row ≡ call.row
    pub arguments : arguments_at (facts.cells row) call.columns ≡ Some call.arguments
    pub answer : answer_in world.predicates call.predicate call.arguments ≡ Some call.answer

  -- the log has the calls that it had at the start, and behind them watched calls alone
  pub record HasGrown (start log : List Call) : Type 0 where
    pub calls : List Call
    pub is : log ≡ start ++ calls
    pub are_watched : Every IsWatched calls

-- ---- values

module _ {R : Type 0} (w : Watch R) where
  abbrev pub watched_step : Value-F R Bool → Bool
  watched_step (Value-F.Scalar s) = true
  watched_step (Value-F.Row r) = w.row r
  watched_step (Value-F.Rec members) = list_all (λ member. member.1) members
  watched_step (Value-F.Group key items) = key && list_all (λ b. b) items
  watched_step (Value-F.Seq items e) = list_all (λ b. b) items

  -- whether each row in a value passes
  unfoldable pub has_watched_rows : Value R → Bool
  has_watched_rows = fold-Value R Bool watched_step

  -- and each row in these values
  abbrev pub have_watched_rows : List (Value R) → Bool
  have_watched_rows values = list_all has_watched_rows values

  -- in a value, if there is one
  abbrev pub has_watched_result : Result (Value R) Fault → Bool
  has_watched_result (Ok v) = has_watched_rows v
  has_watched_result (Err f) = true

  -- whether the rows of a table pass, if there is one
  abbrev pub is_watched_table : Option (List R) → Bool
  is_watched_table (Some rows) = list_all w.row rows
  is_watched_table None = true

-- ---- forms

-- the parts of a join are covered
abbrev pub join_covered : Joined Bool → Bool
join_covered j = j.inner && (j.outer_key && (j.inner_key && j.result))

module _ {R : Type 0} (world : World R) (w : Watch R) where
  -- a form over what is covered of the forms in it
  abbrev pub covered_step : Form-F Bool → Bool
  covered_step (Form-F.Literal s) = true
  covered_step (Form-F.Slot n) = true
  covered_step (Form-F.First a) = a
  covered_step (Form-F.Second a) = a
  covered_step (Form-F.Table n) = is_watched_table w (slice_get world.rows n)
  covered_step (Form-F.Column a table c) = a
  covered_step (Form-F.Host p a table columns) = w.host p table columns && a
  covered_step (Form-F.Member a place) = a
  covered_step (Form-F.Key a) = a
  covered_step (Form-F.Unary o a) = a
  covered_step (Form-F.Binary o a b) = a && b
  covered_step (Form-F.And a b) = a && b
  covered_step (Form-F.Or a b) = a && b
  covered_step (Form-F.Coalesce a b) = a && b
  covered_step (Form-F.Conditional c a b) = c && (a && b)
  covered_step (Form-F.IsNull wanted a) = a
  covered_step (Form-F.Record fields) = list_all (λ field. field.value) fields
  covered_step (Form-F.Pair a b) = a && b
  covered_step (Form-F.Sequence a) = a
  covered_step (Form-F.Simple method t a) = a
  covered_step (Form-F.Given method a b) = a && b
  covered_step (Form-F.Where a f) = a && f
  covered_step (Form-F.Select a f) = a && f
  covered_step (Form-F.All a f) = a && f
  covered_step (Form-F.SelectMany a inner result) = a && (inner && result)
  covered_step (Form-F.Join a j) = a && join_covered j
  covered_step (Form-F.OrderBy a ks) = a && list_all (λ k. k.value) ks
  covered_step (Form-F.GroupBy a key element) = a && (key && element)

  -- whether a watch covers a form: the rows of the form's tables pass, and so do its host predicates, each with its table and columns
  unfoldable pub is_covered : Form → Bool
  is_covered = fold-Form Bool covered_step

  -- the values of fields, the values of keys, and the parts of a join
  abbrev pub are_covered_fields : List (Field Form) → Bool
  are_covered_fields fields = list_all (λ field. is_covered field.value) fields

  abbrev pub are_covered_keys : List (SortKey Form) → Bool
  are_covered_keys ks = list_all (λ k. is_covered k.value) ks

  abbrev pub is_covered_join : Joined Form → Bool
  is_covered_join j = is_covered j.inner && (is_covered j.outer_key && (is_covered j.inner_key && is_covered j.result))

  abbrev pub above_step : Form-F (Form × Bool) → Bool
  above_step (Form-F.Where a f) = a.1 && is_covered f.0
  above_step (Form-F.Select a f) = a.1 && is_covered f.0
  above_step (Form-F.Sequence a) = a.1
  above_step layer = true

  -- whether it covers what an item of a form's base goes through: the conditions and lambdas above the base, and not the base itself
  unfoldable pub is_covered_above : Form → Bool
  is_covered_above = para-Form Bool above_step

-- ---- pulls

module _ {R : Type 0} (world : World R) (facts : RowFacts R) (test : Watch R → Bool) where
  -- A pull: it takes items from the front of those that a base has left, and the log grows by watched calls alone for each watch that passes
  -- this test and the rows in the items that were taken.
  pub record HasPulled (old : List (Value R)) (log : List Call) (new : List (Value R)) (more : List Call) : Type 0 where
    pub front : List (Value R)
    pub is : old ≡ front ++ new
    pub grows : (w : Watch R) (start : List Call) → test w ≡ true → have_watched_rows w front ≡ true → HasGrown world facts w start log
        → HasGrown world facts w start more
