-- Why a row is seen or hidden: the policies that apply, and the outcome.
use Rattle.std.specs.Prelude.{◌||◌, if◌then◌else◌, List, map, filter, ℕ, Bool, Option, Some, None, is_none, slice_get}
use Rattle.lq_value.specs.declared.scalar.Scalar.{Scalar}
use Rattle.lq_security.specs.Visible.{RowForUser, applies, holds_on, refuser_of, rule_for, visible_to}
use Rattle.lq_security.specs.declared.policy.Action.{Action}
use Rattle.lq_security.specs.declared.policy.Action.TheVariants as action
use Rattle.lq_security.specs.declared.policy.Policy.{Policy}
use Rattle.lq_security.specs.declared.policy.PolicyParts.{PolicyParts}
use Rattle.lq_security.specs.declared.policy.Role.{Role}
use Rattle.lq_security.specs.declared.policy.TablePart.{TablePart}
use Rattle.lq_policy.specs.declared.explaining.ExplainedPolicy.{ExplainedPolicy}
use Rattle.lq_policy.specs.declared.explaining.Explanation.{Explanation}
use Rattle.lq_policy.specs.declared.explaining.Explanation.TheVariants as explanation

-- ---- the policies

-- a policy has a say in a role's action on a table: it applies to the action; or to the reading of the row, which a removal needs, too
abbrev pub has_a_say : List Role → ℕ → Action → ℕ → Policy → Bool
has_a_say roles role action.Delete table policy = applies roles role action.Select table policy || applies roles role action.Delete table policy
has_a_say roles role act table policy = applies roles role act table policy

-- what is reported of a policy: its name, its kind, and whether its rule for the action is true on the row
abbrev pub explained : Action → RowForUser → Policy → ExplainedPolicy
explained act asked policy = record { name = policy.name; is_restrictive = policy.restrictive; is_true = holds_on asked (rule_for act policy) }

-- of each policy that has a say, and of no other, in their order
abbrev pub explained_policies : PolicyParts → ℕ → Action → ℕ → RowForUser → List ExplainedPolicy
explained_policies parts role act table asked = map (explained act asked) (filter (has_a_say parts.roles role act table) parts.policies)

-- ---- the outcome

-- the name of what refuses a new row; nothing else is refused by name
abbrev pub refused_by : PolicyParts → ℕ → Action → ℕ → List Scalar → Option (List ℕ)
refused_by parts role action.Insert table cells = refuser_of parts role table cells
refused_by parts role act table cells = None

-- a new row is allowed where nothing refuses it, and whatever is done with another where the row is visible for it
abbrev pub is_allowed : PolicyParts → ℕ → Action → ℕ → List Scalar → Bool
is_allowed parts role action.Insert table cells = is_none (refuser_of parts role table cells)
is_allowed parts role act table cells = visible_to parts role act table cells

-- ---- the explanation

-- the policies decide for a role of theirs that doesn't bypass them
abbrev pub explanation_for : PolicyParts → ℕ → Action → ℕ → List (List ℕ) → List Scalar → Option Role → Explanation
explanation_for parts role act table columns cells None = explanation.NoRole
explanation_for parts role act table columns cells (Some asking) =
    if asking.bypass then explanation.Bypass
    else explanation.Policies (explained_policies parts role act table (record { user = asking.name; columns = columns; cells = cells }))
    (is_allowed parts role act table cells) (refused_by parts role act table cells)

-- and on a table of theirs whose row security is on
abbrev pub explanation_in : PolicyParts → ℕ → Action → ℕ → List Scalar → Option TablePart → Explanation
explanation_in parts role act table cells None = explanation.NoTable
explanation_in parts role act table cells (Some part) =
    if part.secured then explanation_for parts role act table part.columns cells (slice_get parts.roles role) else explanation.RowSecurityOff

-- why a role may or may not do this with the row of the table that has these cells
abbrev pub explanation_of : PolicyParts → ℕ → Action → ℕ → List Scalar → Explanation
explanation_of parts role act table cells = explanation_in parts role act table cells (slice_get parts.tables table)
