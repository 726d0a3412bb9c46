-- Memberships of roles, worked out from the first role on.
use Rattle.std.proofs.Common.{◌≡◌, ◌∙◌, ℕ, zero, suc, ◌+◌, ◌<◌, Bool, ◌||◌, ◌==◌, List, [], ◌∷◌, ◌++◌, length, get_or, slice_get, flat_map, Option, Some, refl, ap, sym, subst, ◌⊎◌, inl, inr, length-append, drop, arith}
use Rattle.std.proofs.Math.Bool.{or_assoc}
use Rattle.std.specs.List.{list_any}
use Rattle.std.proofs.lemmas.List.{drop_more}
use Rattle.lq_security.specs.Visible.{goes_by_after, memberships_after}
use Rattle.lq_security.specs.declared.policy.Role.{Role}
use Rattle.lq_policy.specs.Memberships.{DecideMemberships, goes_by_marks, is_in, is_marked}
use Rattle.lq_policy.specs.declared.role_set.RoleSet.{RoleSet}

-- The roles that the roles before these have, and the sets that decide them.
pub record AreSoFar (roles left : List Role) (sets : List RoleSet) : Type 0 where
  pub earlier : List (List ℕ)
  pub as_many : length earlier ≡ length sets
  pub told : DecideMemberships earlier sets
  pub rest : memberships_after earlier left ≡ memberships_after [] roles

-- ---- numbers in lists

is_in-append : (xs ys : List ℕ) (n : ℕ) → is_in (xs ++ ys) n ≡ is_in xs n || is_in ys n
is_in-append [] ys n = refl
is_in-append (x ∷ xs) ys n = ap (λ b. (x == n) || b) (is_in-append xs ys n) ∙ sym (or_assoc (x == n) (is_in xs n) (is_in ys n))

is_in-flat_map : (f : ℕ → List ℕ) (xs : List ℕ) (n : ℕ) → is_in (flat_map f xs) n ≡ list_any (λ x. is_in (f x) n) xs
is_in-flat_map f [] n = refl
is_in-flat_map f (x ∷ xs) n = is_in-append (f x) (flat_map f xs) n ∙ ap (λ b. is_in (f x) n || b) (is_in-flat_map f xs n)

any_same : (p q : ℕ → Bool) → ((x : ℕ) → p x ≡ q x) → (xs : List ℕ) → list_any p xs ≡ list_any q xs
any_same p q same [] = refl
any_same p q same (x ∷ xs) = ap (λ b. b || list_any p xs) (same x) ∙ ap (λ b. q x || b) (any_same p q same xs)

-- ---- one more role

-- the roles that the next role has, as the sets so far and its own decide
next_told : (earlier : List (List ℕ)) (sets : List RoleSet) (role : Role) (set : RoleSet) (n : ℕ)
    → DecideMemberships earlier sets
    → ((n : ℕ) → is_marked set n ≡ list_any (λ other. goes_by_marks other (slice_get sets other) n) role.member_of)
    → is_in (goes_by_after earlier role) n ≡ (length earlier == n) || is_marked set n
next_told earlier sets role set n told groups =
    ap (λ b. (length earlier == n) || b)
    (is_in-flat_map (λ other. get_or earlier other []) role.member_of n
    ∙ any_same (λ other. is_in (get_or earlier other []) n) (λ other. goes_by_marks other (slice_get sets other) n) (λ other. told other n) role.member_of
    ∙ sym (groups n))

-- the new sets after the ones so far, at the places of the new numbers
told_at_the_end : (earlier : List (List ℕ)) (sets : List RoleSet) (numbers : List ℕ) (set : RoleSet) (role : ℕ)
    → length earlier ≡ length sets
    → (get_or (earlier ++ numbers ∷ []) role [] ≡ get_or earlier role []) × (slice_get (sets ++ set ∷ []) role ≡ slice_get sets role)
    ⊎ (role ≡ length earlier) × (get_or (earlier ++ numbers ∷ []) role [] ≡ numbers) × (slice_get (sets ++ set ∷ []) role ≡ Some set)
told_at_the_end [] [] numbers set zero long = inr (refl, refl, refl)
told_at_the_end [] [] numbers set (suc role) long = inl (refl, refl)
told_at_the_end [] (s ∷ sets) numbers set role long = absurd (omega arith)
told_at_the_end (e ∷ earlier) [] numbers set role long = absurd (omega arith)
told_at_the_end (e ∷ earlier) (s ∷ sets) numbers set zero long = inl (refl, refl)
told_at_the_end (e ∷ earlier) (s ∷ sets) numbers set (suc role) long =
    elim (told_at_the_end earlier sets numbers set role (omega arith)) [ inl same ↦ inl same | inr new ↦ inr (ap suc new.0, new.1, new.2) ]

told_more : (earlier : List (List ℕ)) (sets : List RoleSet) (role : Role) (set : RoleSet)
    → length earlier ≡ length sets
    → DecideMemberships earlier sets
    → ((n : ℕ) → is_marked set n ≡ list_any (λ other. goes_by_marks other (slice_get sets other) n) role.member_of)
    → DecideMemberships (earlier ++ goes_by_after earlier role ∷ []) (sets ++ set ∷ [])
told_more earlier sets role set long told groups number n =
    elim (told_at_the_end earlier sets (goes_by_after earlier role) set number long) [
      | inl same ↦ ap (λ (numbers : List ℕ). is_in numbers n) same.0 ∙ told number n ∙ ap (λ (found : Option RoleSet). goes_by_marks number found n) (sym same.1)
      | inr new ↦ ap (λ (numbers : List ℕ). is_in numbers n) new.1 ∙ next_told earlier sets role set n told groups
          ∙ ap (λ (k : ℕ). (k == n) || is_marked set n) (sym new.0) ∙ ap (λ (found : Option RoleSet). goes_by_marks number found n) (sym new.2)
    ]

pub none_so_far : (roles : List Role) → AreSoFar roles roles []
none_so_far roles = record { earlier = []; as_many = refl; told = λ role n. refl; rest = refl }

pub one_more : (roles : List Role) (role : Role) (left : List Role) (sets : List RoleSet) (set : RoleSet)
    → AreSoFar roles (role ∷ left) sets
    → ((n : ℕ) → is_marked set n ≡ list_any (λ other. goes_by_marks other (slice_get sets other) n) role.member_of)
    → AreSoFar roles left (sets ++ set ∷ [])
one_more roles role left sets set so_far groups = record {
  earlier = so_far.earlier ++ goes_by_after so_far.earlier role ∷ [];
  as_many = omega (arith, length-append {A = List ℕ}, length-append {A = RoleSet}, so_far.as_many);
  told = told_more so_far.earlier sets role set so_far.as_many so_far.told groups;
  rest = so_far.rest;
}

-- the role at a place, and its set pushed
pub one_more_at : (roles : List Role) (at : ℕ) (role : Role) (sets : List RoleSet) (set : RoleSet) (pushed : List RoleSet)
    → at < length roles → role ≡ get_or roles at role → pushed ≡ sets ++ set ∷ []
    → AreSoFar roles (drop at roles) sets
    → ((n : ℕ) → is_marked set n ≡ list_any (λ other. goes_by_marks other (slice_get sets other) n) role.member_of)
    → AreSoFar roles (drop (at + 1) roles) pushed
one_more_at roles at role sets set pushed within is more so_far groups =
    let left : drop at roles ≡ role ∷ drop (at + 1) roles = drop_more roles at role within ∙ ap (λ (r : Role). r ∷ drop (at + 1) roles) (sym is) in
    let here = subst (λ (rest : List Role). AreSoFar roles rest sets) left so_far in
    subst (λ (found : List RoleSet). AreSoFar roles (drop (at + 1) roles) found) (sym more) (one_more roles role (drop (at + 1) roles) sets set here groups)

pub all_told : (roles : List Role) (sets : List RoleSet) → AreSoFar roles [] sets → DecideMemberships (memberships_after [] roles) sets
all_told roles sets so_far = subst (λ (earlier : List (List ℕ)). DecideMemberships earlier sets) so_far.rest so_far.told
