-- Which calls the run of a form may add to a log: of the host predicates in the form, each with its table and columns, about rows that a role sees.
use Rattle.std.specs.Prelude.{◌≡◌, ◌==◌, ◌++◌, ◌&&◌, List, map, ℕ, Bool, true, false, Option, Some, None, slice_get}
use Rattle.std.specs.List.{list_all, list_any}
use Rattle.std.specs.Cmp.Lexicographic.{pointwise}
use Rattle.lq_value.specs.SameAndOrder.{same_scalars}
use Rattle.lq_host.specs.declared.call.Call.{Call}
use Rattle.lq_host.specs.declared.call.Pick.{Pick}
use Rattle.lq_host.specs.declared.call.Pick.TheVariants as numbers
use Rattle.lq_language.specs.Mentions.{Mention, Column, HostAt, Table}
use Rattle.lq_language.specs.TableRows.{TableRow}
use Rattle.lq_language.specs.ValuesOfTypes.{Every}
use Rattle.lq_language.specs.Worlds.{World}
use Rattle.lq_machine.specs.HostCalls.{IsAllowed}
use Rattle.lq_machine.specs.States.{State, seen_by_role}
use Rattle.lq_tree.specs.UsesOfForms.{form_uses}
use Rattle.lq_tree.specs.Watches.{HasGrown, RowFacts, Watch, is_watched_table}
use Rattle.lq_tree.specs.declared.tree.Form.{Form}

-- ---- host predicates

-- whether two predicates are asked of the same columns
abbrev pub same_columns : Pick → Pick → Bool
same_columns (numbers.One a) (numbers.One b) = a == b
same_columns (numbers.Two a b) (numbers.Two c d) = (a == c) && (b == d)
same_columns columns others = false

-- whether what is mentioned is this predicate, of these columns of this table
abbrev pub is_host : ℕ → ℕ → Pick → Mention → Bool
is_host p t columns (HostAt q u others) = (p == q) && ((t == u) && same_columns columns others)
is_host p t columns (Table u) = false
is_host p t columns (Column u c) = false

-- whether it is one of those that are mentioned
abbrev pub is_mentioned : List Mention → ℕ → ℕ → Pick → Bool
is_mentioned named p t columns = list_any (is_host p t columns) named

-- the rows that pass a test, and the host predicates in a form
abbrev pub watch_of : {R : Type 0} → (R → Bool) → Form → Watch R
watch_of seen f = record { row = seen; host = is_mentioned (form_uses f) }

-- The run of a form adds calls of the form's host predicates alone. They are about rows that pass each test which all rows of all tables pass,
-- and these rows, which are put into its slots.
abbrev pub AddsOwnCalls : {R : Type 0} → World R → RowFacts R → Form → List R → List Call → List Call → Type 0
AddsOwnCalls {R} world facts f rows old new =
    (seen : R → Bool) → ((n : ℕ) → is_watched_table (watch_of seen f) (slice_get world.rows n) ≡ true) → list_all seen rows ≡ true
    → HasGrown world facts (watch_of seen f) old new

-- ---- rows

module _ {R : Type 0} (s : State) (facts : RowFacts R) where
  -- the role sees the row: one of its table has its number and its cells
  pub record IsSeen (r : R) : Type 0 where
    pub rows : List TableRow
    pub table : slice_get (seen_by_role s) (facts.table r) ≡ Some rows
    pub position : ℕ
    pub row : TableRow
    pub there : slice_get rows position ≡ Some row
    pub number : row.row.number ≡ facts.number r
    pub cells : row.row.cells ≡ facts.cells r

  abbrev pub is_row : R → TableRow → Bool
  is_row r other = (other.row.number == facts.number r) && pointwise same_scalars other.row.cells (facts.cells r)

  abbrev pub is_in_table : R → Option (List TableRow) → Bool
  is_in_table r None = false
  is_in_table r (Some rows) = list_any (is_row r) rows

  -- whether it does
  abbrev pub is_seen : R → Bool
  is_seen r = is_in_table r (slice_get (seen_by_role s) (facts.table r))

  -- what the facts of a row say of it, where it is this row of a table
  pub record Tells (row : TableRow) (r : R) : Type 0 where
    pub table : facts.table r ≡ row.table
    pub number : facts.number r ≡ row.row.number
    pub cells : facts.cells r ≡ row.row.cells

-- ---- laws

-- a row is seen exactly where the test says so
abbrev pub SeenRowsPass : Type 0 → Type 0
SeenRowsPass R =
    (s : State) (facts : RowFacts R) (r : R) → (is_seen s facts r ≡ true → IsSeen s facts r) × (IsSeen s facts r → is_seen s facts r ≡ true)

-- over the tables as the role sees them, whatever represents a row, all rows of all tables pass
abbrev pub SeenTablesPass : Type 0 → Type 0
SeenTablesPass R =
    (s : State) (facts : RowFacts R) (shown : R → TableRow) → ((r : R) → Tells s facts (shown r) r) → (world : World R)
    → map (map shown) world.rows ≡ seen_by_role s → (f : Form) (n : ℕ)
    → is_watched_table (watch_of (is_seen s facts) f) (slice_get world.rows n) ≡ true

-- Over these tables and the state's host predicates, what the run of a form adds are calls that a statement may make which names what the form
-- uses. The rows that are put into its slots are to be seen, too.
abbrev pub OwnCallsAreAllowed : Type 0 → Type 0
OwnCallsAreAllowed R =
    (s : State) (facts : RowFacts R) (shown : R → TableRow) → ((r : R) → Tells s facts (shown r) r) → (world : World R)
    → map (map shown) world.rows ≡ seen_by_role s → world.predicates ≡ s.predicates → (f : Form) (rows : List R)
    → list_all (is_seen s facts) rows ≡ true
    → (old new : List Call) → AddsOwnCalls world facts f rows old new
    → (calls : List Call) × (new ≡ old ++ calls) × Every (IsAllowed s (form_uses f)) calls
