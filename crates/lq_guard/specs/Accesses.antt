-- Which rows a role may do something with.
use Rattle.std.specs.Prelude.{List, Bool}
use Rattle.lq_value.specs.declared.scalar.Scalar.{Scalar}
use Rattle.lq_security.specs.Visible.{visible_to}
use Rattle.lq_policy.specs.Roles.{number_of}
use Rattle.lq_guard.specs.declared.access.Access.{Access}

-- whether the policies let the role do this with the row of the table that has these cells
abbrev pub is_visible_to : Access → List Scalar → Bool
is_visible_to access cells = visible_to access.policies.now (number_of access.role) access.action access.table cells
