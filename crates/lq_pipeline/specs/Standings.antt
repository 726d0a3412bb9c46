-- Where the state of a pipe stands.
use Rattle.std.specs.Prelude.{◌≡◌, ◌⊎◌, List, [], ℕ, Bool, true, Option, Some, None, Result, Ok, Err, reverse}
use Rattle.std.specs.List.{list_all}
use Rattle.std.specs.declared.alloc.AllocError.{AllocError}
use Rattle.lq_value.specs.declared.value.End.TheVariants as end
use Rattle.lq_value.specs.declared.value.Fault.{Fault}
use Rattle.lq_value.specs.declared.value.Value.{Value}
use Rattle.lq_host.specs.declared.call.Call.{Call}
use Rattle.lq_language.specs.Stream.{Stream}
use Rattle.lq_language.specs.TableRows.{TableRow}
use Rattle.lq_language.specs.Worlds.{World}
use Rattle.lq_language.specs.declared.methods.Given.{Given}
use Rattle.lq_tree.specs.Watches.{HasGrown, RowFacts, Watch}
use Rattle.lq_tree.specs.declared.tree.Form.{Form}
use Rattle.lq_tree.specs.declared.tree.Form.TheVariants as form
use Rattle.lq_guard.specs.Handing.{counted}
use Rattle.lq_plan.specs.Counts.{read_first}
use Rattle.lq_plan.specs.Handing.{handed_out, items_to_come, rows_to_come}
use Rattle.lq_plan.specs.Pulling.{base_stream, items_at}
use Rattle.lq_plan.specs.declared.bases.Base.{Base}
use Rattle.lq_pull.specs.Views.{row_facts}
use Rattle.lq_pull.specs.declared.readers.Reader.{Reader}
use Rattle.lq_pipeline.specs.Chains.{items_of_result, leaf_of}
use Rattle.lq_pipeline.specs.Heads.{one_by_one, unwrapped}
use Rattle.lq_pipeline.specs.Places.{Gives, GoesOn, Place, Pulls, standing, start_of}
use Rattle.lq_pipeline.specs.declared.steps.Opened.{Opened}
use Rattle.lq_pipeline.specs.declared.steps.Standing.{Standing}
use Rattle.lq_pipeline.specs.declared.steps.Standing.TheVariants as stands
use Rattle.lq_pipeline.specs.declared.steps.Step.{Step}

-- how many rows the leaf has handed out
abbrev pub handed_by : Option (Base TableRow Reader) → ℕ
handed_by None = 0
handed_by (Some base) = handed_out base

-- nothing but rows is left of it
abbrev pub IsOfRows : Option (Base TableRow Reader) → Type 0
IsOfRows None = Unit {0}
IsOfRows (Some base) = items_to_come base ≡ []

-- a form is this chain, or a method with an argument over it
abbrev pub IsOver : Form → Form → Type 0
IsOver f chain = (n : ℕ) × (leaf_of chain ≡ Some n) × ((unwrapped f ≡ chain) ⊎ ((method : Given) × (b : Form) × (unwrapped f ≡ form.Given method chain b)))

-- something was pulled of a form
abbrev pub IsBegunBy : Form → Standing → Option (Base TableRow Reader) → Type 0
IsBegunBy f stands.New leaf = ⊥
IsBegunBy f (stands.Rows chain limit) leaf = IsOfRows leaf × IsOver f chain.now
IsBegunBy f (stands.Items items e) leaf = IsOfRows leaf
IsBegunBy f (stands.Over e) leaf = IsOfRows leaf
IsBegunBy f stands.Lost leaf = IsOfRows leaf

abbrev pub IsBegun : Form → Opened → Type 0
IsBegun f opened = IsBegunBy f opened.standing opened.leaf

-- or nothing, and no row was asked for
abbrev pub IsStateBy : Form → Standing → Option (Base TableRow Reader) → Type 0
IsStateBy f stands.New leaf = leaf ≡ None
IsStateBy f (stands.Rows chain limit) leaf = IsOfRows leaf × IsOver f chain.now
IsStateBy f (stands.Items items e) leaf = IsOfRows leaf
IsStateBy f (stands.Over e) leaf = IsOfRows leaf
IsStateBy f stands.Lost leaf = IsOfRows leaf

abbrev pub IsState : Form → Opened → Type 0
IsState f opened = IsStateBy f opened.standing opened.leaf

module _ (world : World TableRow) where
  -- behind a leaf, at the end of a chain, up to a limit
  abbrev pub rows_place : Form → Option ℕ → Option (Base TableRow Reader) → Place TableRow
  rows_place chain limit None = record { left = ([], end.Done); needs = one_by_one world chain limit [] }
  rows_place chain limit (Some base) = record {
    left = read_first limit (items_at world [] chain (base_stream base));
    needs = one_by_one world chain limit (rows_to_come base);
  }

  abbrev pub place_by : Form → Option (Base TableRow Reader) → Standing → Option (Place TableRow)
  place_by f leaf stands.New = Some (start_of world f)
  place_by f leaf (stands.Rows chain limit) = Some (rows_place chain.now limit leaf)
  place_by f leaf (stands.Items items e) = Some (standing (reverse items.items, e))
  place_by f leaf (stands.Over e) = Some (standing ([], e))
  place_by f leaf stands.Lost = None

  abbrev pub place_of : Form → Opened → Option (Place TableRow)
  place_of f opened = place_by f opened.leaf opened.standing

  -- these items are given from now on, and no row is handed out any more
  abbrev pub GivesOn : Form → Stream (Value TableRow) → Step TableRow → Opened → Type 0
  GivesOn f s answer new = (t : Stream (Value TableRow)) × (place_of f new ≡ Some (standing t)) × Gives s answer t

  -- a pull, where each watch that passes a test and the rows that are handed out has the log grow by watched calls alone
  pub record Pulled (facts : RowFacts TableRow) (test : Watch TableRow → Bool) (old : Place TableRow) (n : ℕ) (log : List Call)
      (answer : Result (Step TableRow) AllocError) (new : Option (Place TableRow)) (m : ℕ) (more : List Call) : Type 0 where
    pub front : List TableRow
    pub goes : GoesOn old answer front new
    pub count : m ≡ counted n front
    pub grows : (w : Watch TableRow) (start : List Call) → test w ≡ true → list_all w.row front ≡ true → HasGrown world facts w start log
        → HasGrown world facts w start more

  -- what was found is given, or a growth was refused
  abbrev pub AnswersWith : Form → Result (Result (Value TableRow) Fault) AllocError → Result (Step TableRow) AllocError → Opened → Type 0
  AnswersWith f (Ok found) (Ok answer) new = GivesOn f (items_of_result found) answer new
  AnswersWith f (Err e) (Err d) new = new.standing ≡ stands.Lost
  AnswersWith f found result new = ⊥

  -- a pull from the state of a pipe over a form
  abbrev pub PullsState : Form → Opened → List Call → Result (Step TableRow) AllocError → Opened → List Call → Type 0
  PullsState f old log answer new more =
      Pulls world row_facts f (place_of f old) (handed_by old.leaf) log answer (place_of f new) (handed_by new.leaf) more × IsState f new

  -- the first one
  abbrev pub PullsFirst : Form → List Call → Result (Step TableRow) AllocError → Opened → List Call → Type 0
  PullsFirst f log answer new more = Pulls world row_facts f (Some (start_of world f)) 0 log answer (place_of f new) (handed_by new.leaf) more
