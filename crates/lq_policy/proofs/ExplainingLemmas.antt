-- Policies that have a say are about the table at hand.
use Rattle.std.proofs.Common.{◌≡◌, ℕ, true, inl, inr, List}
use Rattle.std.proofs.lemmas.Bool.{or_cases}
use Rattle.lq_security.specs.Visible.{applies}
use Rattle.lq_security.specs.declared.policy.Action.TheVariants as action
use Rattle.lq_security.specs.declared.policy.Action.{Action}
use Rattle.lq_security.specs.declared.policy.Policy.{Policy}
use Rattle.lq_security.specs.declared.policy.Role.{Role}
use Rattle.lq_security.specs.declared.policy.TablePart.{TablePart}
use Rattle.lq_policy.specs.Explanations.{has_a_say}
use Rattle.lq_policy.specs.Guards.{columns_at}
use Rattle.lq_policy.specs.Roles.{number_of}
use Rattle.lq_policy.specs.declared.access.Access.{Access}
use Rattle.lq_policy.specs.declared.access.RoleId.{RoleId}
use Rattle.lq_policy.proofs.GuardLemmas.{same_columns}

-- by the action
columns_by : (tables : List TablePart) (roles : List Role) (role : RoleId) (act : Action) (table : ℕ) (policy : Policy)
    → has_a_say roles (number_of role) act table policy ≡ true → columns_at tables policy.table ≡ columns_at tables table
columns_by tables roles role action.Select table policy says = same_columns tables roles (record { role = role; action = action.Select; table = table }) policy says
columns_by tables roles role action.Insert table policy says = same_columns tables roles (record { role = role; action = action.Insert; table = table }) policy says
columns_by tables roles role action.Delete table policy says =
    elim (or_cases (applies roles (number_of role) action.Select table policy) (applies roles (number_of role) action.Delete table policy) says) [
      | inl reads ↦ same_columns tables roles (record { role = role; action = action.Select; table = table }) policy reads
      | inr removes ↦ same_columns tables roles (record { role = role; action = action.Delete; table = table }) policy removes
    ]

pub columns_of_concerned : (tables : List TablePart) (roles : List Role) (access : Access) (policy : Policy)
    → has_a_say roles (number_of access.role) access.action access.table policy ≡ true
    → columns_at tables policy.table ≡ columns_at tables access.table
columns_of_concerned tables roles access policy says = columns_by tables roles access.role access.action access.table policy says
