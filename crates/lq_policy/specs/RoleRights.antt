-- What a role may use, worked out once.
use Rattle.std.specs.Prelude.{◌≡◌, ◌&&◌, not, List, ℕ, Bool, Option, Some, None}
use Rattle.std.specs.List.{list_any}
use Rattle.lq_security.specs.Rights.{is_column_of, is_same_use, may_use}
use Rattle.lq_security.specs.Visible.{is_listed}
use Rattle.lq_security.specs.declared.policy.PolicyParts.{PolicyParts}
use Rattle.lq_security.specs.declared.policy.Role.{Role}
use Rattle.lq_language.specs.declared.rights.RightRule.{RightRule}
use Rattle.lq_language.specs.declared.rights.Use.{Use}
use Rattle.lq_language.specs.declared.rights.Use.TheVariants as of
use Rattle.lq_policy.specs.Roles.{number_of}
use Rattle.lq_policy.specs.declared.role_rights.RoleRights.{RoleRights}
use Rattle.lq_policy.specs.declared.use_set.UseSet.{UseSet}

-- whether a set has a use
abbrev pub is_among : UseSet → Use → Bool
is_among set used = list_any (is_same_use used) set.uses.keys

-- whether a right that isn't withheld is one to this use: of a table, a right to a column of it
abbrev pub gives : Use → Use → Bool
gives (of.Table t) right = is_column_of t right
gives used right = is_same_use used right

-- whether a grant that applies gives a use by a right that isn't in a set of what is withheld
abbrev pub grants_by : List Role → ℕ → UseSet → Use → RightRule → Bool
grants_by roles role withheld used rule =
    is_listed roles role rule.to && list_any (λ right. gives used right && not (is_among withheld right)) rule.rights

-- The set of a role's rights has what the role may use, and no more. They may be those of no role.
abbrev pub TellsRights : PolicyParts → Option RoleRights → Type 0
TellsRights parts None = Unit {0}
TellsRights parts (Some rights) = (used : Use) → is_among rights.allowed used ≡ may_use parts (number_of rights.role) used
