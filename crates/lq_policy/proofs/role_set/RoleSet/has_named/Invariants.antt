use Rattle.std.proofs.Common.{◌≡◌, ◌&&◌, ◌<◌, ℕ, false, slice_get}
use Rattle.lq_security.specs.Visible.{is_named}
use Rattle.lq_policy.specs.Memberships.{is_marked}
use Rattle.lq_policy.proofs.role_set.RoleSet.has_named.Given as goal

-- no role so far is in the set and has the name
abbrev pub invariant-loop-number : goal.invariant-loop-number
invariant-loop-number l = (n : ℕ) → n < l.number → (is_marked l.self n && is_named l.name (slice_get l.roles n)) ≡ false
