-- Groups of which a record of their keys and tallies is selected, as the items that are grouped are pulled.
use Rattle.std.specs.Prelude.{◌≡◌, List, [], map, ℤ, Option, Some, None, Result, Ok}
use Rattle.std.specs.List.{AllByRecursion}
use Rattle.lq_value.specs.declared.value.End.{End}
use Rattle.lq_value.specs.declared.value.End.TheVariants as end
use Rattle.lq_value.specs.declared.value.Fault.{Fault}
use Rattle.lq_value.specs.declared.value.RowRef as Cells
use Rattle.lq_value.specs.declared.value.Value.{Value}
use Rattle.lq_value.specs.declared.value.Value.TheVariants as value
use Rattle.lq_host.specs.declared.asks.Asks as Hosts
use Rattle.lq_language.specs.Operations.{on_ok}
use Rattle.lq_language.specs.Stream.{Stream, select_by, then_ending, then_stream}
use Rattle.lq_language.specs.Worlds.{World}
use Rattle.lq_operators.specs.GroupTallies.{group_tallies, tallies_in}
use Rattle.lq_operators.specs.declared.group_tallies.GroupTallies.{GroupTallies}
use Rattle.lq_operators.specs.declared.numbers.Tally.{Tally}
use Rattle.lq_tree.specs.FormMeaning as tree
use Rattle.lq_tree.specs.FormMeaning.{form_meaning}
use Rattle.lq_tree.specs.declared.tree.Form.{Form}
use Rattle.lq_plan.specs.Aggregates as plans
use Rattle.lq_plan.specs.Aggregates.{AreNumbersOf, begins_in, members_of_group}
use Rattle.lq_plan.specs.declared.aggregates.GroupMember.{GroupMember}
use Rattle.lq_plan.specs.declared.aggregates.GroupTally.{GroupTally}
use Rattle.lq_plan.specs.declared.aggregates.SelectedGroups.{SelectedGroups}
use Rattle.lq_plan.specs.declared.rows.Rows as Readers
use Rattle.lq_plan.specs.declared.slots.Slots.{Slots}
use Rattle.lq_plan.specs.declared.tables.TableRow as Rows
use Rattle.lq_pipe.specs.declared.running.Running.{Running}

module _ {R : Type 0} (tallies : List GroupTally) (members : List GroupMember) where
  -- the record that is selected of a group, or the first fault of its members
  abbrev pub record_of_group : Value R × List (Result Tally Fault) → Result (Value R) Fault
  record_of_group g = on_ok (members_of_group tallies g.0 g.1 members) (λ l. Ok (value.Rec l))

  -- those of all groups, up to the first fault
  abbrev pub records_of : List (Value R × List (Result Tally Fault)) → Stream (Value R)
  records_of groups = select_by record_of_group groups end.Done

module _ {R : Type 0} (tallies : List GroupTally) (members : List GroupMember) (groups : List (Value R × List (Result Tally Fault))) where
  -- those of all groups where the items come to their end; where they end in a fault, there is nothing but that fault
  abbrev pub records_until : End → Stream (Value R)
  records_until end.Done = records_of tallies members groups
  records_until (end.Fault f) = ([], end.Fault f)

module _ {R : Type 0} (world : World R) (slots : tree.Slots R) (key : Form) (of : List GroupTally) where
  -- an item, which stands last, with its key and its numbers
  abbrev pub HasNumbers : Value R × (List (Option ℤ) × Value R) → Type 0
  HasNumbers row = (form_meaning world key (tree.with_item world slots row.1.1) ≡ Ok row.0) × AreNumbersOf world slots of row.1.1 row.1.0

  -- Of all items these are left, and the tallies are those of the items before, by their keys.
  pub record HasTallies (tallies : GroupTallies R) (left all : Stream (Value R)) : Type 0 where
    pub rows : List (Value R × (List (Option ℤ) × Value R))
    pub have : AllByRecursion HasNumbers rows
    pub are : tallies_in tallies ≡ group_tallies (begins_in of) (map (λ row. (row.0, row.1.0)) rows)
    pub goes : then_ending (map (λ row. row.1.1) rows) end.Done left ≡ all

  -- With what came of an item the tallies go on, or it is a fault that ends them; where it is none, nothing is said.
  abbrev pub TalliesOn : GroupTallies R → Stream (Value R) → Option End → GroupTallies R → Type 0
  TalliesOn old made (Some end.Done) new =
      (left all : Stream (Value R)) → HasTallies old (then_stream made left) all → HasTallies new left all
  TalliesOn old made (Some (end.Fault f)) new =
      (left all : Stream (Value R)) → HasTallies old (then_stream made left) all → HasTallies new ([], end.Fault f) all
  TalliesOn old made None new = Unit {0}

module _ {R S H : Type 0} {t : Rows.Ghosts R} {r : Cells.Ghosts R} {s : Readers.Ghosts S R} {h : Hosts.Ghosts H} (run : Running R S H t r s h) where
  -- what is known of groups of which a record is selected
  abbrev pub AreSelected : Slots R → Form → Form → SelectedGroups → Type 0
  AreSelected = plans.AreSelected run.sources
