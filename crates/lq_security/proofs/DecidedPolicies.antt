-- The relations of row policies by the truth values that rows are decided by. `ReadPolicies` shows where they are those of `Visible`.
use Rattle.std.specs.Prelude.{◌≡◌, ◌∷◌, ◌++◌, List, ℕ, true, false, Some, codes, slice_get}
use Rattle.std.specs.List.{Contains}
use Rattle.lq_value.specs.declared.scalar.Scalar.{Scalar}
use Rattle.lq_security.specs.Visible.{Applies, RowForUser, HasRule, rule_holds}
use Rattle.lq_security.specs.declared.policy.Action.{Action}
use Rattle.lq_security.specs.declared.policy.Action.TheVariants as action
use Rattle.lq_security.specs.declared.policy.Policy.{Policy}
use Rattle.lq_security.specs.declared.policy.PolicyParts.{PolicyParts}
use Rattle.lq_security.specs.declared.policy.Role.{Role}
use Rattle.lq_security.specs.declared.policy.TablePart.{TablePart}
use Rattle.lq_grammar.specs.declared.syntax.Expr.{Expr}

abbrev pub IsTrueOn : RowForUser → Expr → Type 0
IsTrueOn asked rule = rule_holds asked.columns rule asked.cells asked.user ≡ true

pub record IsSatisfied (act : Action) (asked : RowForUser) (policy : Policy) : Type 0 where
  pub rule : Expr
  pub has : HasRule act policy rule
  pub true_on : IsTrueOn asked rule

pub record IsAdmitted (parts : PolicyParts) (role : ℕ) (act : Action) (table : ℕ) (asked : RowForUser) : Type 0 where
  pub permitting : Policy
  pub among : Contains parts.policies permitting
  pub permissive : permitting.restrictive ≡ false
  pub applying : Applies parts.roles role act table permitting
  pub permitted : IsSatisfied act asked permitting
  pub unrestricted : (policy : Policy) → Contains parts.policies policy → policy.restrictive ≡ true → Applies parts.roles role act table policy
      → IsSatisfied act asked policy

pub data Admits (parts : PolicyParts) (role : ℕ) (table : ℕ) (asked : RowForUser) : Action → Type 0 where
  read : IsAdmitted parts role action.Select table asked → Admits parts role table asked action.Select
  put_in : IsAdmitted parts role action.Insert table asked → Admits parts role table asked action.Insert
  removed : IsAdmitted parts role action.Select table asked → IsAdmitted parts role action.Delete table asked → Admits parts role table asked action.Delete

pub data IsVisible (parts : PolicyParts) (role : ℕ) (act : Action) (table : ℕ) (cells : List Scalar) : Type 0 where
  unsecured : (part : TablePart) → slice_get parts.tables table ≡ Some part → part.secured ≡ false → IsVisible parts role act table cells
  bypassing : (part : TablePart) (asking : Role) → slice_get parts.tables table ≡ Some part → slice_get parts.roles role ≡ Some asking
      → asking.bypass ≡ true → IsVisible parts role act table cells
  admitted : (part : TablePart) (asking : Role) → slice_get parts.tables table ≡ Some part → slice_get parts.roles role ≡ Some asking
      → Admits parts role table (record { user = asking.name; columns = part.columns; cells = cells }) act
      → IsVisible parts role act table cells

abbrev pub IsUnpermitted : PolicyParts → ℕ → ℕ → RowForUser → Type 0
IsUnpermitted parts role table asked =
    (policy : Policy) → Contains parts.policies policy → policy.restrictive ≡ false → Applies parts.roles role action.Insert table policy
    → IsSatisfied action.Insert asked policy → ⊥

pub record IsFirstRefusing (parts : PolicyParts) (role : ℕ) (table : ℕ) (asked : RowForUser) (refusing : Policy) : Type 0 where
  pub front : List Policy
  pub rest : List Policy
  pub split : parts.policies ≡ front ++ refusing ∷ rest
  pub restrictive : refusing.restrictive ≡ true
  pub applying : Applies parts.roles role action.Insert table refusing
  pub unsatisfied : IsSatisfied action.Insert asked refusing → ⊥
  pub first : (policy : Policy) → Contains front policy → policy.restrictive ≡ true → Applies parts.roles role action.Insert table policy
      → IsSatisfied action.Insert asked policy

pub data IsRefusedBy (parts : PolicyParts) (role : ℕ) (table : ℕ) (asked : RowForUser) : List ℕ → Type 0 where
  default : IsUnpermitted parts role table asked → IsRefusedBy parts role table asked (codes "default-deny")
  restriction : (permitting : Policy) → Contains parts.policies permitting → permitting.restrictive ≡ false
      → Applies parts.roles role action.Insert table permitting → IsSatisfied action.Insert asked permitting
      → (refusing : Policy) → IsFirstRefusing parts role table asked refusing → IsRefusedBy parts role table asked refusing.name
