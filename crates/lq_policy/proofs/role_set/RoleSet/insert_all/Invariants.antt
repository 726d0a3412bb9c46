use Rattle.std.proofs.Common.{◌≡◌, ◌&&◌, ◌||◌, ◌/◌, ◌≤◌, ℕ, length, nat_lt}
use Rattle.lq_policy.specs.Memberships.{is_marked}
use Rattle.lq_policy.proofs.role_set.RoleSet.insert_all.Given as goal

-- there is a word for each of the others', and the words so far hold what the others mark there, beside what was marked
abbrev pub invariant-loop-place : goal.invariant-loop-place
invariant-loop-place l =
    (length l.others.words.items ≤ length l.self.words.items)
    × ((n : ℕ) → is_marked l.self n ≡ (nat_lt (n / 64) l.place && is_marked l.others n) || is_marked l.fn.self n)
