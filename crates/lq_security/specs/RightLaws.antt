-- Laws of rights: who may use what, and what one rule more does.
use Rattle.std.specs.Prelude.{◌≡◌, ◌↔◌, ◌∷◌, ◌++◌, List, ℕ, true, None}
use Rattle.std.specs.List.{Contains}
use Rattle.lq_security.specs.Rights.{MayUse, denial, may_use}
use Rattle.lq_security.specs.Visible.{IsListed}
use Rattle.lq_security.specs.declared.policy.PolicyParts.{PolicyParts}
use Rattle.lq_language.specs.declared.rights.RightRule.{RightRule}
use Rattle.lq_language.specs.declared.rights.Use.{Use}

-- the function gives exactly what a role may use
abbrev pub TellsUses : Type 0
TellsUses = (parts : PolicyParts) (role : ℕ) (used : Use) → (may_use parts role used ≡ true) ↔ MayUse parts role used

-- nothing is denied exactly where the role may use each of the uses
abbrev pub DeniesTheRest : Type 0
DeniesTheRest =
    (parts : PolicyParts) (role : ℕ) (uses : List Use) → (denial parts role uses ≡ None) ↔ ((used : Use) → Contains uses used → MayUse parts role used)

-- The second list has one rule more than the first, somewhere among the others.
pub record HasOneRule (fewer more : List RightRule) (rule : RightRule) : Type 0 where
  pub front : List RightRule
  pub rest : List RightRule
  pub without : fewer ≡ front ++ rest
  pub within : more ≡ front ++ rule ∷ rest

-- one withhold more never turns a denial into an answer
abbrev pub WithholdsMore : Type 0
WithholdsMore =
    (fewer more : PolicyParts) (rule : RightRule) → more.roles ≡ fewer.roles → more.grants ≡ fewer.grants
    → HasOneRule fewer.withholds more.withholds rule
    → (role : ℕ) (uses : List Use) → denial more role uses ≡ None → denial fewer role uses ≡ None

-- one grant more never turns an answer into a denial
abbrev pub GrantsMore : Type 0
GrantsMore =
    (fewer more : PolicyParts) (rule : RightRule) → more.roles ≡ fewer.roles → more.withholds ≡ fewer.withholds
    → HasOneRule fewer.grants more.grants rule
    → (role : ℕ) (uses : List Use) → denial fewer role uses ≡ None → denial more role uses ≡ None

-- a role to which no grant applies is denied whatever uses a table or a column
abbrev pub DeniesWithoutGrants : Type 0
DeniesWithoutGrants =
    (parts : PolicyParts) (role : ℕ) → ((rule : RightRule) → Contains parts.grants rule → IsListed parts.roles role rule.to → ⊥)
    → (uses : List Use) (used : Use) → Contains uses used → denial parts role uses ≡ None → ⊥
