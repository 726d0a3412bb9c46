-- Whether a role has one of a name: one of the numbers in a list is that of a role with the name.
use Rattle.std.proofs.Common.{◌≡◌, ◌∙◌, ℕ, Bool, true, false, ◌&&◌, ◌||◌, ◌==◌, List, [], ◌∷◌, Option, Some, None, slice_get, refl, ap, sym, inl, inr}
use Rattle.std.specs.List.{list_any}
use Rattle.std.proofs.lemmas.Bool.{eq-eqb, eqb-true, or_cases, or_right}
use Rattle.lq_security.specs.Visible.{goes_by, is_named, memberships_after}
use Rattle.lq_security.specs.declared.policy.Role.{Role}
use Rattle.lq_policy.specs.Memberships.{DecideMemberships, goes_by_marks, is_in, is_marked}
use Rattle.lq_policy.specs.Roles.{IsAnyNumber, goes_by_name}
use Rattle.lq_policy.specs.declared.role_set.RoleSet.{RoleSet}

or_left : (a b : Bool) → a ≡ true → (a || b) ≡ true
or_left a b h = ap (λ x. x || b) h

or_none : (a b : Bool) → a ≡ false → b ≡ false → (a || b) ≡ false
or_none a b h k = ap (λ x. x || b) h ∙ k

and_cases : (a b : Bool) → (a && b) ≡ true → (a ≡ true) × (b ≡ true)
and_cases true b h = (refl, h)
and_cases false b h = absurd (cc)

and_both : (a b : Bool) → a ≡ true → (a && b) ≡ false → b ≡ false
and_both a b h k = ap (λ x. x && b) (sym h) ∙ k

-- a number in the list passes the test
any_at : (test : ℕ → Bool) (numbers : List ℕ) (n : ℕ) → is_in numbers n ≡ true → test n ≡ true → list_any test numbers ≡ true
any_at test [] n among passes = absurd (cc)
any_at test (m ∷ numbers) n among passes =
    elim (or_cases (m == n) (is_in numbers n) among) [
      | inl here ↦ or_left (test m) (list_any test numbers) (ap test (eqb-true m n here) ∙ passes)
      | inr later ↦ or_right (test m) (list_any test numbers) (any_at test numbers n later passes)
    ]

-- no number in the list does
any_nowhere : (test : ℕ → Bool) (numbers : List ℕ) → ((n : ℕ) → is_in numbers n ≡ true → test n ≡ false) → list_any test numbers ≡ false
any_nowhere test [] none = refl
any_nowhere test (m ∷ numbers) none =
    or_none (test m) (list_any test numbers) (none m (or_left (m == m) (is_in numbers m) (eq-eqb m m refl)))
    (any_nowhere test numbers (λ n among. none n (or_right (m == n) (is_in numbers n) among)))

-- ---- the numbers that marks give

-- a role's own name
found_itself : (test marked : ℕ → Bool) (numbers : List ℕ) (role : ℕ) → ((n : ℕ) → is_in numbers n ≡ (role == n) || marked n)
    → test role ≡ true → list_any test numbers ≡ true
found_itself test marked numbers role told is =
    any_at test numbers role (told role ∙ or_left (role == role) (marked role) (eq-eqb role role refl)) is

-- the name of a role in its set, where its own is another
found_other : (test marked : ℕ → Bool) (numbers : List ℕ) (role : ℕ) → ((n : ℕ) → is_in numbers n ≡ (role == n) || marked n)
    → test role ≡ false → (answer : Bool) → IsAnyNumber (λ n. marked n && test n) answer → list_any test numbers ≡ answer
found_other test marked numbers role told is true any =
    let both = and_cases (marked any.0) (test any.0) any.1 in
    any_at test numbers any.0 (told any.0 ∙ or_right (role == any.0) (marked any.0) both.0) both.1
found_other test marked numbers role told is false any =
    any_nowhere test numbers (λ n among. elim (or_cases (role == n) (marked n) (sym (told n) ∙ among)) [
      | inl itself ↦ ap test (sym (eqb-true role n itself)) ∙ is
      | inr other ↦ and_both (marked n) (test n) other (any n)
    ])

-- the numbers of the roles that a role has, as its set gives them
told_of : (roles : List Role) (sets : List RoleSet) (role : ℕ) (set : RoleSet)
    → DecideMemberships (memberships_after [] roles) sets → slice_get sets role ≡ Some set
    → (n : ℕ) → is_in (goes_by roles role) n ≡ (role == n) || is_marked set n
unfolding goes_by
told_of roles sets role set told is n = told role n ∙ ap (λ (found : Option RoleSet). goes_by_marks role found n) is

pub own_name : (roles : List Role) (sets : List RoleSet) (role : ℕ) (name : List ℕ) (set : RoleSet)
    → DecideMemberships (memberships_after [] roles) sets → slice_get sets role ≡ Some set
    → is_named name (slice_get roles role) ≡ true → goes_by_name roles role name ≡ true
own_name roles sets role name set told is named =
    found_itself (λ n. is_named name (slice_get roles n)) (is_marked set) (goes_by roles role) role (told_of roles sets role set told is) named

pub other_name : (roles : List Role) (sets : List RoleSet) (role : ℕ) (name : List ℕ) (set : RoleSet)
    → DecideMemberships (memberships_after [] roles) sets → slice_get sets role ≡ Some set
    → is_named name (slice_get roles role) ≡ false
    → (answer : Bool) → IsAnyNumber (λ n. is_marked set n && is_named name (slice_get roles n)) answer → goes_by_name roles role name ≡ answer
other_name roles sets role name set told is named answer any =
    found_other (λ n. is_named name (slice_get roles n)) (is_marked set) (goes_by roles role) role (told_of roles sets role set told is) named answer any

pub untold_name : (roles : List Role) (sets : List RoleSet) (role : ℕ) (name : List ℕ)
    → DecideMemberships (memberships_after [] roles) sets → slice_get sets role ≡ None → goes_by_name roles role name ≡ false
unfolding goes_by
untold_name roles sets role name told is =
    any_nowhere (λ n. is_named name (slice_get roles n)) (goes_by roles role)
    (λ n among. let not_among = told role n ∙ ap (λ (found : Option RoleSet). goes_by_marks role found n) is in absurd (cc))
