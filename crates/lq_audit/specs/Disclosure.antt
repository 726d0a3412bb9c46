-- What is disclosed about a row, and to whom.
use Rattle.std.specs.Prelude.{◌≡◌, ◌==◌, ◌||◌, List, ℕ, Bool, true, Option, Some, None, find, option_and_then, slice_get}
use Rattle.lq_value.specs.Tables.{Table}
use Rattle.lq_value.specs.declared.table.Row.{Row}
use Rattle.lq_security.specs.Visible.{visible_to}
use Rattle.lq_security.specs.declared.policy.Action.{Action}
use Rattle.lq_security.specs.declared.policy.Action.TheVariants as action
use Rattle.lq_security.specs.declared.policy.PolicyParts.{PolicyParts}
use Rattle.lq_policy.specs.Explanations.{explanation_of}
use Rattle.lq_policy.specs.Roles.{is_bypassing}
use Rattle.lq_audit.specs.declared.answers.Why.{Why}
use Rattle.lq_audit.specs.declared.answers.Why.TheVariants as why

-- the row of a table that has a number
abbrev pub row_numbered : List Table → ℕ → ℕ → Option Row
row_numbered tables table number = option_and_then (λ t. find (λ row. row.number == number) t.rows) (slice_get tables table)

-- whether whoever asks may know of a row: the role that the session began with bypasses row security, or the present role sees the row
abbrev pub may_know : PolicyParts → ℕ → ℕ → ℕ → Row → Bool
may_know parts role starting table row = is_bypassing (slice_get parts.roles starting) || visible_to parts role action.Select table row.cells

module _ (tables : List Table) (parts : PolicyParts) (role : ℕ) where
  -- There is a row of this number of which whoever asks may know, and it is this one.
  abbrev pub IsKnown : ℕ → ℕ → ℕ → Row → Type 0
  IsKnown starting table number row = (row_numbered tables table number ≡ Some row) × (may_know parts role starting table row ≡ true)

  -- What is found is such a row; where nothing is, there is none.
  abbrev pub FindsKnown : ℕ → ℕ → ℕ → Option Row → Type 0
  FindsKnown starting table number (Some row) = IsKnown starting table number row
  FindsKnown starting table number None = (row : Row) → IsKnown starting table number row → ⊥

  -- A row of which whoever asks may know is explained, by the policies for the present role. Any other is a secret: a row that is hidden
  -- and one that isn't there are answered alike.
  abbrev pub Discloses : ℕ → Action → ℕ → ℕ → Why → Type 0
  Discloses starting act table number (why.Explained found) =
      (row : Row) × IsKnown starting table number row × (found ≡ explanation_of parts role act table row.cells)
  Discloses starting act table number why.Secret = FindsKnown starting table number None
