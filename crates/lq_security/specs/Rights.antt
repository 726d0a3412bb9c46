-- Rights and «Denial»: what a role may use, and under which rule's name it is refused what it may not.
use Rattle.std.specs.Prelude.{◌∷◌, ◌==◌, ◌&&◌, not, if◌then◌else◌, List, [], ℕ, Bool, false, Option, Some, None, codes}
use Rattle.std.specs.List.{Contains, list_any}
use Rattle.lq_security.specs.Visible.{IsListed, is_listed}
use Rattle.lq_security.specs.declared.policy.PolicyParts.{PolicyParts}
use Rattle.lq_security.specs.declared.policy.Role.{Role}
use Rattle.lq_language.specs.declared.rights.RightRule.{RightRule}
use Rattle.lq_language.specs.declared.rights.Use.{Use}
use Rattle.lq_language.specs.declared.rights.Use.TheVariants as of

abbrev pub is_same_use : Use → Use → Bool
is_same_use (of.Table t) (of.Table u) = t == u
is_same_use (of.Column t c) (of.Column u d) = (t == u) && (c == d)
is_same_use (of.Insert t) (of.Insert u) = t == u
is_same_use (of.Delete t) (of.Delete u) = t == u
is_same_use (of.Host p) (of.Host q) = p == q
is_same_use a b = false

-- ---- rights

abbrev pub covers : Use → RightRule → Bool
covers used rule = list_any (is_same_use used) rule.rights

-- a rule bears on a role's use where it applies to the role and covers the use
abbrev pub bears : List Role → ℕ → Use → RightRule → Bool
bears roles role used rule = is_listed roles role rule.to && covers used rule

-- whether some withhold that applies covers a use
abbrev pub is_withheld : PolicyParts → ℕ → Use → Bool
is_withheld parts role used = list_any (bears parts.roles role used) parts.withholds

-- a right: some grant that applies covers it, and no withhold that applies does
abbrev pub has_right : PolicyParts → ℕ → Use → Bool
has_right parts role used = list_any (bears parts.roles role used) parts.grants && not (is_withheld parts role used)

abbrev pub is_column_of : ℕ → Use → Bool
is_column_of t (of.Column u c) = t == u
is_column_of t used = false

-- a rule that applies covers a column of the table to which the role has a right, if the rule is a grant
abbrev pub opens : PolicyParts → ℕ → ℕ → RightRule → Bool
opens parts role t rule =
    is_listed parts.roles role rule.to && list_any (λ right. is_column_of t right && not (is_withheld parts role right)) rule.rights

-- a table has a right where one of its columns has
unfoldable pub may_use : PolicyParts → ℕ → Use → Bool
may_use parts role (of.Table t) = list_any (opens parts role t) parts.grants
may_use parts role used = has_right parts role used

-- ---- denials

-- whether a rule bears on a use, and on a table where it does on any of its columns
abbrev pub concerns : List Role → ℕ → Use → RightRule → Bool
concerns roles role (of.Table t) rule = is_listed roles role rule.to && list_any (is_column_of t) rule.rights
concerns roles role used rule = bears roles role used rule

-- the name of the first withhold that bears on the use, or that of none
abbrev pub first_concerning : List Role → ℕ → Use → List RightRule → List ℕ
first_concerning roles role used [] = codes "no-grant"
first_concerning roles role used (rule ∷ rules) = if concerns roles role used rule then rule.name else first_concerning roles role used rules

-- the name under which a use is denied, where the role has no right to it
unfoldable pub denier_of : PolicyParts → ℕ → Use → Option (List ℕ)
denier_of parts role used = if may_use parts role used then None else Some (first_concerning parts.roles role used parts.withholds)

-- a use that is denied, and the name of the rule that denies it
pub record Denied : Type 0 where
  pub used : Use
  pub rule : List ℕ

abbrev pub denied_or : Use → Option (List ℕ) → Option Denied → Option Denied
denied_or used (Some rule) rest = Some (record { used = used; rule = rule })
denied_or used None rest = rest

-- «Denial»: the first of these uses to which the role has no right
unfoldable pub denial : PolicyParts → ℕ → List Use → Option Denied
denial parts role [] = None
denial parts role (used ∷ uses) = denied_or used (denier_of parts role used) (denial parts role uses)

-- ---- the same as relations

-- A rule bears on a role's use.
pub record BearsOn (roles : List Role) (role : ℕ) (used : Use) (rule : RightRule) : Type 0 where
  pub to_role : IsListed roles role rule.to
  pub covering : Contains rule.rights used

-- Some grant bears on the use, and no withhold does.
pub record HasRight (parts : PolicyParts) (role : ℕ) (used : Use) : Type 0 where
  pub grant : RightRule
  pub among : Contains parts.grants grant
  pub granting : BearsOn parts.roles role used grant
  pub unwithheld : (rule : RightRule) → Contains parts.withholds rule → BearsOn parts.roles role used rule → ⊥

-- A role may use what it has a right to, and a table of which it has a right to one column.
pub data MayUse (parts : PolicyParts) (role : ℕ) : Use → Type 0 where
  column : (t c : ℕ) → HasRight parts role (of.Column t c) → MayUse parts role (of.Column t c)
  insertion : (t : ℕ) → HasRight parts role (of.Insert t) → MayUse parts role (of.Insert t)
  removal : (t : ℕ) → HasRight parts role (of.Delete t) → MayUse parts role (of.Delete t)
  predicate : (p : ℕ) → HasRight parts role (of.Host p) → MayUse parts role (of.Host p)
  table : (t c : ℕ) → HasRight parts role (of.Column t c) → MayUse parts role (of.Table t)
