use Rattle.std.proofs.Common.{◌≡◌, ◌||◌, ℕ, drop, slice_get}
use Rattle.std.specs.List.{list_any}
use Rattle.lq_policy.specs.Memberships.{goes_by_marks, is_marked}
use Rattle.lq_policy.proofs.role_set.groups_of.Given as goal

-- the set so far, and the roles that those to come have
abbrev pub invariant-loop-number : goal.invariant-loop-number
invariant-loop-number l =
    (n : ℕ) → list_any (λ other. goes_by_marks other (slice_get l.sets other) n) (drop l.number-index l.member_of) || is_marked l.groups n
    ≡ list_any (λ other. goes_by_marks other (slice_get l.sets other) n) l.member_of
