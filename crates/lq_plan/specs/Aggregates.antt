-- What is selected of groups where it is their keys and tallies of their items; and the numbers that are read of rows for these tallies.
use Rattle.std.specs.Prelude.{◌≡◌, ◌∷◌, ◌≤◌, List, [], map, length, ℕ, ℤ, Option, None, Some, IfSome, Result, Ok, slice_get}
use Rattle.std.specs.List.{AllByRecursion}
use Rattle.lq_value.specs.declared.scalar.Scalar.{Scalar}
use Rattle.lq_value.specs.declared.scalar.Scalar.TheVariants as scalar
use Rattle.lq_value.specs.declared.value.End.TheVariants as end
use Rattle.lq_value.specs.declared.value.Fault.{Fault}
use Rattle.lq_value.specs.declared.value.RowRef as Cells
use Rattle.lq_value.specs.declared.value.Value.{Value, out-Value}
use Rattle.lq_value.specs.declared.value.Value.TheVariants as value
use Rattle.lq_host.specs.declared.asks.Asks as Hosts
use Rattle.lq_grammar.specs.declared.syntax.Field.{Field}
use Rattle.lq_language.specs.Meaning.{number_in}
use Rattle.lq_language.specs.OperandMeaning.{as_value}
use Rattle.lq_language.specs.Operations.{on_ok}
use Rattle.lq_language.specs.Worlds.{World}
use Rattle.lq_language.specs.declared.methods.Simple.{Simple}
use Rattle.lq_operators.specs.GroupTallies.{AddsRow, tallies_in}
use Rattle.lq_operators.specs.Tallies.{begins, int_in, tally_result}
use Rattle.lq_operators.specs.declared.group_tallies.GroupTallies.{GroupTallies}
use Rattle.lq_operators.specs.declared.numbers.Tally.{Tally}
use Rattle.lq_tree.specs.FormMeaning as tree
use Rattle.lq_tree.specs.FormMeaning.{form_meaning}
use Rattle.lq_tree.specs.declared.tree.Form.{Form}
use Rattle.lq_tree.specs.declared.tree.Form.TheVariants as form
use Rattle.lq_plan.specs.Plans as plans
use Rattle.lq_plan.specs.Prepared as prepared
use Rattle.lq_plan.specs.Slots.{values_in}
use Rattle.lq_plan.specs.declared.aggregates.GroupColumns.{GroupColumns}
use Rattle.lq_plan.specs.declared.aggregates.GroupMember.{GroupMember}
use Rattle.lq_plan.specs.declared.aggregates.GroupRead.{GroupRead}
use Rattle.lq_plan.specs.declared.aggregates.GroupRead.TheVariants as read
use Rattle.lq_plan.specs.declared.aggregates.GroupTally.{GroupTally}
use Rattle.lq_plan.specs.declared.aggregates.SelectedGroups.{SelectedGroups}
use Rattle.lq_plan.specs.declared.lambdas.Lambda.{Lambda}
use Rattle.lq_plan.specs.declared.rows.Rows as Readers
use Rattle.lq_plan.specs.declared.slots.Slots.{Slots}
use Rattle.lq_plan.specs.declared.sources.Sources.{Sources}
use Rattle.lq_plan.specs.declared.tables.TableRow as Rows

-- ---- what is read of a group that stands in a slot

-- the items of the group in the slot of this number, or what a lambda gives of each
abbrev pub items_by : ℕ → Option Lambda → Form
items_by d None = form.Slot d
items_by d (Some l) = form.Select (form.Slot d) l.body.now

-- a form is the number that a tally comes to over such items
abbrev pub IsTallyOf : ℕ → Form → GroupTally → Type 0
IsTallyOf d f t = (m : Simple) × (begins m ≡ Some t.begins) × (f ≡ form.Simple m t.of.now (items_by d t.by))

-- a form is the key of the group, or comes to one of these tallies
abbrev pub IsReadOf : ℕ → List GroupTally → Form → GroupRead → Type 0
IsReadOf d tallies f read.Key = f ≡ form.Key (form.Slot d)
IsReadOf d tallies f (read.Tally place) = (t : GroupTally) × (slice_get tallies place ≡ Some t) × IsTallyOf d f t

-- and so it is of each member of a record, under its name
abbrev pub AreReadOf : ℕ → List GroupTally → List (Field Form) → List GroupMember → Type 0
AreReadOf d tallies [] [] = Unit {0}
AreReadOf d tallies (f ∷ fs) (m ∷ ms) = (m.name.now ≡ f.name) × IsReadOf d tallies f.value m.read × AreReadOf d tallies fs ms
AreReadOf d tallies fs ms = ⊥

abbrev pub begins_in : List GroupTally → List Tally
begins_in tallies = map (λ t. t.begins) tallies

module _ {R : Type 0} (tallies : List GroupTally) (k : Value R) (kept : List (Result Tally Fault)) where
  -- what a tally answers that has come so far, or met a fault
  abbrev pub answer_of : Option GroupTally → Option (Result Tally Fault) → Result (Value R) Fault
  answer_of (Some t) (Some so_far) = as_value (on_ok so_far (λ u. tally_result t.of.now u end.Done))
  answer_of t so_far = Ok (value.Scalar scalar.Null)

  -- a member of what is selected of a group with this key and these tallies
  abbrev pub member_of : GroupRead → Result (Value R) Fault
  member_of read.Key = Ok k
  member_of (read.Tally place) = answer_of (slice_get tallies place) (slice_get kept place)

  -- all members in their order, or the first fault
  abbrev pub members_of_group : List GroupMember → Result (List (List ℕ × Value R)) Fault
  members_of_group [] = Ok []
  members_of_group (m ∷ ms) = on_ok (member_of m.read) (λ v. on_ok (members_of_group ms) (λ members. Ok ((m.name.now, v) ∷ members)))

-- ---- the numbers of an item

module _ {R : Type 0} (world : World R) (slots : tree.Slots R) where
  -- whatever group stands in the next slot, this is the number that one of its items is, or a lambda gives of it; none, where that isn't an int
  abbrev pub IsNumberBy : Option Lambda → Value R → Option ℤ → Type 0
  IsNumberBy None x n = n ≡ number_in (out-Value R x)
  IsNumberBy (Some l) x n =
      (s : Scalar) × ((g : Value R) → form_meaning world l.body.now (tree.with_item world (tree.with_item world slots g) x) ≡ Ok (value.Scalar s))
      × (n ≡ int_in s)

  -- one for each tally
  abbrev pub AreNumbersOf : List GroupTally → Value R → List (Option ℤ) → Type 0
  AreNumbersOf [] x [] = Unit {0}
  AreNumbersOf (t ∷ ts) x (n ∷ ns) = IsNumberBy t.by x n × AreNumbersOf ts x ns
  AreNumbersOf ts x ns = ⊥

  -- an item is put to the tallies of its key, with its numbers
  abbrev pub AddsItem : Form → List GroupTally → GroupTallies R → Value R → GroupTallies R → Type 0
  AddsItem key tallies old x new =
      (k : Value R) × (ns : List (Option ℤ)) × (form_meaning world key (tree.with_item world slots x) ≡ Ok k) × AreNumbersOf tallies x ns
      × AddsRow (begins_in tallies) (tallies_in old) (tallies_in new) k ns

module _ {R : Type 0} (table_of : R → ℕ) (shown : R → List Scalar) (world : World R) (slots : tree.Slots R) where
  -- where the lambda of a tally is known to give a cell, it gives this whatever group stands in the next slot
  abbrev pub LambdaGivesCell : Option Lambda → Type 0
  LambdaGivesCell by = IfSome by (λ l. (g : Value R) → prepared.GivesCell table_of shown world (tree.with_item world slots g) l)

  abbrev pub TallyGivesCell : GroupTally → Type 0
  TallyGivesCell t = LambdaGivesCell t.by

  abbrev pub TalliesGiveCells : List GroupTally → Type 0
  TalliesGiveCells tallies = AllByRecursion TallyGivesCell tallies

-- ---- columns

-- the place of the cell whose number a tally has, in rows of a table, up to the last place that is read; none where it is one of the row itself
abbrev pub IsColumnOf : ℕ → ℕ → Option Lambda → Option ℕ → Type 0
IsColumnOf table most None place = place ≡ None
IsColumnOf table most (Some l) place = (l.table ≡ table) × (at : ℕ) × (l.place ≡ Some at) × (place ≡ Some at) × (at ≤ most)

abbrev pub AreColumnsOf : ℕ → ℕ → List GroupTally → List (Option ℕ) → Type 0
AreColumnsOf table most [] [] = Unit {0}
AreColumnsOf table most (t ∷ ts) (place ∷ places) = IsColumnOf table most t.by place × AreColumnsOf table most ts places
AreColumnsOf table most ts places = ⊥

-- the columns are those of the cells that the lambdas of a key and of tallies give
abbrev pub AreColumns : Lambda → List GroupTally → GroupColumns → Type 0
AreColumns key tallies columns =
    (key.table ≡ columns.table) × (key.place ≡ Some columns.key) × (columns.key ≤ columns.most)
    × AreColumnsOf columns.table columns.most tallies columns.places.items

module _ {R S H : Type 0} {t : Rows.Ghosts R} {r : Cells.Ghosts R} {s : Readers.Ghosts S R} {h : Hosts.Ghosts H} (sources : Sources R S H t r s h) where
  abbrev pub GiveNumbers : Slots R → List GroupTally → Type 0
  GiveNumbers slots tallies = TalliesGiveCells t.table_of r.shown (plans.world sources) (values_in slots) tallies

  -- groups of items by a key, each its own element; and of each group a record of its key and tallies, by these columns of the rows
  pub record AreSelected (slots : Slots R) (source body : Form) (selected : SelectedGroups) : Type 0 where
    pub key : Lambda
    pub element : Form
    pub fields : List (Field Form)
    pub source_is : source ≡ form.GroupBy selected.items.now key.body.now element
    pub body_is : body ≡ form.Record fields
    pub item : prepared.IsItem (plans.world sources) (values_in slots) element
    pub cell : plans.GivesCell sources slots key
    pub read : AreReadOf (length (values_in slots)) selected.reads.tallies.items fields selected.reads.members.items
    pub columns : AreColumns key selected.reads.tallies.items selected.columns
    pub numbers : GiveNumbers slots selected.reads.tallies.items
