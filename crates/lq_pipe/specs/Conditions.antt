-- The rows on which a condition is true (.NET, Enumerable.Where).
use Rattle.std.specs.Prelude.{◌∷◌, ◌++◌, List, [], map, ℕ, Bool, true, false, Result}
use Rattle.lq_value.specs.declared.value.End.{End}
use Rattle.lq_value.specs.declared.value.End.TheVariants as end
use Rattle.lq_value.specs.declared.value.Fault.{Fault}
use Rattle.lq_value.specs.declared.value.Value.TheVariants as value
use Rattle.lq_language.specs.Worlds.{World}
use Rattle.lq_language.specs.Stream.{Stream, where_by}
use Rattle.lq_tree.specs.FormMeaning.{form_meaning, is_true}
use Rattle.lq_tree.specs.declared.tree.Form.{Form}

module _ {R : Type 0} (world : World R) where
  -- whether a condition is true on a row, which stands in its first slot
  abbrev pub holds_on : Form → R → Result Bool Fault
  holds_on condition r = is_true world (form_meaning world condition) (value.Row r ∷ [])

  -- those of the rows, up to the first fault
  abbrev pub rows_true : Form → List R → Stream R
  rows_true condition rows = where_by (holds_on condition) rows end.Done

  -- their numbers, as rows tell them, and how they end
  abbrev pub numbers_true : (R → ℕ) → Form → List R → List ℕ × End
  numbers_true number condition rows = (map number (rows_true condition rows).0, (rows_true condition rows).1)

-- a selection so far, and this behind it where a condition is true
abbrev pub selection_with : {A : Type 0} → Bool → A → List A → List A
selection_with true x xs = xs ++ x ∷ []
selection_with false x xs = xs
