-- Accesses, the policies that apply to them, and rows as rules are asked about them.
use Rattle.std.specs.Prelude.{List, Bool}
use Rattle.lq_security.specs.Visible.{RowForUser, applies}
use Rattle.lq_security.specs.declared.policy.Policy.{Policy}
use Rattle.lq_security.specs.declared.policy.PolicyParts.{PolicyParts}
use Rattle.lq_security.specs.declared.policy.Role.{Role}
use Rattle.lq_policy.specs.Guards.{asked_at}
use Rattle.lq_policy.specs.Roles.{number_of}
use Rattle.lq_policy.specs.declared.access.Access.{Access}
use Rattle.lq_policy.specs.declared.row_and_user.RowAndUser.{RowAndUser}

-- a policy applies to an access
abbrev pub bears_on : List Role → Access → Policy → Bool
bears_on roles access policy = applies roles (number_of access.role) access.action access.table policy

-- a row of the table that is accessed
abbrev pub asked_of : PolicyParts → Access → RowAndUser → RowForUser
asked_of parts access asked = asked_at parts.tables access.table asked.cells.now asked.user.now
