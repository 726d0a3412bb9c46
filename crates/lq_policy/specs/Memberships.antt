-- The roles that a role has, as bits of words.
use Rattle.std.specs.Prelude.{◌≡◌, ◌==◌, ◌||◌, ◌/◌, ◌%◌, List, [], ℕ, Bool, false, Option, Some, None, slice_get}
use Rattle.std.specs.Int.{bit_at}
use Rattle.std.specs.List.{list_any, slice_index_or}
use Rattle.lq_policy.specs.declared.role_set.RoleSet.{RoleSet}

-- whether a number is in a list
abbrev pub is_in : List ℕ → ℕ → Bool
is_in numbers n = list_any (λ m. m == n) numbers

-- whether a role is in a set: bit n % 64 of word n / 64
abbrev pub is_marked : RoleSet → ℕ → Bool
is_marked set n = bit_at (slice_index_or set.words.items (n / 64) 0) (n % 64) == 1

-- whether a role has another: it has itself, and those in its set
abbrev pub goes_by_marks : ℕ → Option RoleSet → ℕ → Bool
goes_by_marks role None n = false
goes_by_marks role (Some set) n = (role == n) || is_marked set n

-- The sets of roles decide which roles each of them has.
abbrev pub DecideMemberships : List (List ℕ) → List RoleSet → Type 0
DecideMemberships memberships sets = (role n : ℕ) → is_in (slice_index_or memberships role []) n ≡ goes_by_marks role (slice_get sets role) n
