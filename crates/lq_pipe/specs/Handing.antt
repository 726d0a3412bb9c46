-- Which rows the base of a pipe hands out as its items are pulled.
use Rattle.std.specs.Prelude.{◌≡◌, ◌∷◌, ◌++◌, ◌⊎◌, List, [], ℕ, Result, Ok, Err}
use Rattle.lq_value.specs.declared.value.End.{End}
use Rattle.lq_value.specs.declared.value.End.TheVariants as end
use Rattle.lq_value.specs.declared.value.Value.{Value}
use Rattle.lq_value.specs.declared.value.Value.TheVariants as value
use Rattle.lq_language.specs.Stream.{Stream}
use Rattle.lq_language.specs.ValuesOfTypes.{Every}
use Rattle.lq_language.specs.Worlds.{World}
use Rattle.lq_tree.specs.FormMeaning.{Slots}
use Rattle.lq_guard.specs.Handing.{counted, one_more}
use Rattle.lq_plan.specs.Pulling.{item_at, through_stage}
use Rattle.lq_plan.specs.declared.pipes.Pipe.{Pipe}

module _ {R : Type 0} (world : World R) (slots : Slots R) (pipe : Pipe) where
  -- what comes of a row of the base
  abbrev pub comes_of : R → Stream (Value R)
  comes_of r = through_stage world slots pipe.stage (item_at world slots pipe.source.now (value.Row r))

  abbrev pub GivesNothing : R → Type 0
  GivesNothing r = comes_of r ≡ ([], end.Done)

  -- of rows, these are left; nothing comes of each one before them; and so many are counted then
  pub record Passes (rows : List R) (n : ℕ) (left : List R) (m : ℕ) : Type 0 where
    pub before : List R
    pub is : rows ≡ before ++ left
    pub count : m ≡ counted n before
    pub give_nothing : Every GivesNothing before

  -- a row of which this comes is handed out behind such rows, and counted with them
  abbrev pub Settles : List R → ℕ → Stream (Value R) → List R → ℕ → Type 0
  Settles rows n made left m = (r : R) × (comes_of r ≡ made) × ((k : ℕ) × Passes rows n (r ∷ left) k × (m ≡ one_more k))

  -- nothing comes of the rows, and none is left
  abbrev pub PassesAll : List R → ℕ → List R → ℕ → Type 0
  PassesAll rows n left m = Passes rows n [] m × (left ≡ [])

  -- The rows that are handed out for a step are those up to the first one of which anything comes, which is the step's item or fault. All rows are,
  -- where the items end well, or where what comes isn't of a row.
  abbrev pub HandsUpTo : List R → ℕ → Result (Value R) End → List R → ℕ → Type 0
  HandsUpTo rows n (Ok x) left m = Settles rows n (x ∷ [], end.Done) left m ⊎ PassesAll rows n left m
  HandsUpTo rows n (Err (end.Fault f)) left m = Settles rows n ([], end.Fault f) left m ⊎ PassesAll rows n left m
  HandsUpTo rows n (Err end.Done) left m = PassesAll rows n left m

  -- Whatever comes of the rows, and where a growth is refused: nothing comes of those that are handed out, but perhaps of the last one.
  abbrev pub HandsAtMost : List R → ℕ → List R → ℕ → Type 0
  HandsAtMost rows n left m = ((r : R) × ((k : ℕ) × Passes rows n (r ∷ left) k × (m ≡ one_more k))) ⊎ PassesAll rows n left m
