-- Roles by number and by name.
use Rattle.std.specs.Prelude.{◌≡◌, List, ℕ, Bool, true, false, MatchBool, Option, Some, None, Result, Ok, Err, slice_get}
use Rattle.std.specs.Borrow.{Bor}
use Rattle.std.specs.List.{list_any}
use Rattle.lq_value.specs.Tables.{first_named}
use Rattle.lq_security.specs.Visible.{goes_by, is_named}
use Rattle.lq_security.specs.declared.policy.PolicyParts.{PolicyParts}
use Rattle.lq_security.specs.declared.policy.Role.{Role}
use Rattle.lq_policy.specs.declared.access.RoleId.{RoleId}

-- the number of a role
abbrev pub number_of : RoleId → ℕ
number_of role = role.number

-- the number of the first role of a name
abbrev pub role_number : PolicyParts → List ℕ → Option ℕ
role_number parts name = first_named (λ role. role.name) name parts.roles

-- whether row security doesn't bear on a role; it does on one that isn't there
abbrev pub is_bypassing : Option Role → Bool
is_bypassing None = false
is_bypassing (Some role) = role.bypass

-- whether a role has one of this name
abbrev pub goes_by_name : List Role → ℕ → List ℕ → Bool
goes_by_name roles role name = list_any (λ n. is_named name (slice_get roles n)) (goes_by roles role)

-- The answer is whether some number passes a test.
abbrev pub IsAnyNumber : (ℕ → Bool) → Bool → Type 0
IsAnyNumber test answer = MatchBool answer ((n : ℕ) × (test n ≡ true)) ((n : ℕ) → test n ≡ false)

-- the name that a row is refused under, if it is
abbrev pub refused_under : Result (Unit {0}) (Bor (List ℕ)) → Option (List ℕ)
refused_under (Ok accepted) = None
refused_under (Err name) = Some name.now
