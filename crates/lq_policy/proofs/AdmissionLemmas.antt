-- Rules that are put after others, policy by policy.
use Rattle.std.proofs.Common.{◌≡◌, ◌∙◌, ℕ, zero, suc, ◌+◌, ◌<◌, Bool, true, false, ◌&&◌, ◌||◌, cond, not, List, [], ◌∷◌, filter, length, get_or, slice_get, Some, drop, ap, sym, subst, arith}
use Rattle.std.proofs.Math.Bool.{and-true, and_assoc, or-false, or_assoc}
use Rattle.std.specs.List.{list_all, list_any}
use Rattle.std.proofs.lemmas.List.{drop_more}
use Rattle.lq_value.specs.declared.scalar.Scalar.{Scalar}
use Rattle.lq_security.specs.Visible.{admit, allows, permits}
use Rattle.lq_security.specs.declared.policy.Policy.{Policy}
use Rattle.lq_security.specs.declared.policy.Role.{Role}
use Rattle.lq_security.specs.declared.policy.TablePart.{TablePart}
use Rattle.lq_policy.specs.Asking.{bears_on}
use Rattle.lq_policy.specs.Guards.{asked_at}
use Rattle.lq_policy.specs.RowRules.{admits_by, allowed_by, permitted_by}
use Rattle.lq_policy.specs.declared.access.Access.{Access}
use Rattle.lq_policy.specs.declared.admission.Admission.{Admission}

any_if : (test : Policy → Bool) (policy : Policy) (rest : List Policy) (so_far applies : Bool)
    → (so_far || (applies && test policy)) || list_any test rest ≡ so_far || list_any test (cond applies (policy ∷ rest) rest)
any_if test policy rest so_far true = or_assoc so_far (test policy) (list_any test rest)
any_if test policy rest so_far false = ap (λ b. b || list_any test rest) (or-false so_far)

all_if : (test : Policy → Bool) (policy : Policy) (rest : List Policy) (so_far applies : Bool)
    → (so_far && (not applies || test policy)) && list_all test rest ≡ so_far && list_all test (cond applies (policy ∷ rest) rest)
all_if test policy rest so_far true = and_assoc so_far (test policy) (list_all test rest)
all_if test policy rest so_far false = ap (λ b. b && list_all test rest) (and-true so_far)

-- one more policy, of which some one passes a test if it applies
any_more : (test applies : Policy → Bool) (policy : Policy) (left : List Policy) (so_far now : Bool) → now ≡ so_far || (applies policy && test policy)
    → now || list_any test (filter applies left) ≡ so_far || list_any test (filter applies (policy ∷ left))
any_more test applies policy left so_far now is =
    ap (λ b. b || list_any test (filter applies left)) is ∙ any_if test policy (filter applies left) so_far (applies policy)

-- one more policy, of which each passes a test if it applies
all_more : (test applies : Policy → Bool) (policy : Policy) (left : List Policy) (so_far now : Bool) → now ≡ so_far && (not (applies policy) || test policy)
    → now && list_all test (filter applies left) ≡ so_far && list_all test (filter applies (policy ∷ left))
all_more test applies policy left so_far now is =
    ap (λ b. b && list_all test (filter applies left)) is ∙ all_if test policy (filter applies left) so_far (applies policy)

-- the policy at a place
pub there : (policies all : List Policy) (at : ℕ) (policy : Policy) → policies ≡ all → at < length policies → policy ≡ get_or policies at policy
    → slice_get all at ≡ Some policy
there policies all at policy same within is = ap (λ (ps : List Policy). slice_get ps at) (sym same) ∙ found policies at within is where
  found : (ps : List Policy) (n : ℕ) → n < length ps → policy ≡ get_or ps n policy → slice_get ps n ≡ Some policy
  found [] n within is = absurd (omega arith)
  found (p ∷ ps) zero within is = ap Some (sym is)
  found (p ∷ ps) (suc n) within is = found ps n (omega arith) is

module _ (tables : List TablePart) (roles : List Role) (access : Access) where
  abbrev permitting : List Scalar → List ℕ → Policy → Bool
  permitting cells user = permits access.action (asked_at tables access.table cells user)

  abbrev allowing : List Scalar → List ℕ → Policy → Bool
  allowing cells user = allows access.action (asked_at tables access.table cells user)

  -- What the rules so far and the policies to come decide is what all policies do.
  pub record AreSoFar (policies left : List Policy) (rules : Admission) : Type 0 where
    pub permitted : (cells : List Scalar) (user : List ℕ) → permitted_by cells user rules || list_any (permitting cells user) (filter (bears_on roles access) left)
        ≡ list_any (permitting cells user) (filter (bears_on roles access) policies)
    pub allowed : (cells : List Scalar) (user : List ℕ) → allowed_by cells user rules && list_all (allowing cells user) (filter (bears_on roles access) left)
        ≡ list_all (allowing cells user) (filter (bears_on roles access) policies)

  pub none_so_far : (policies : List Policy) (rules : Admission)
      → ((cells : List Scalar) (user : List ℕ) → permitted_by cells user rules ≡ false)
      → ((cells : List Scalar) (user : List ℕ) → allowed_by cells user rules ≡ true)
      → AreSoFar policies policies rules
  none_so_far policies rules permitted allowed = record {
    permitted = λ cells user. ap (λ b. b || list_any (permitting cells user) (filter (bears_on roles access) policies)) (permitted cells user);
    allowed = λ cells user. ap (λ b. b && list_all (allowing cells user) (filter (bears_on roles access) policies)) (allowed cells user);
  }

  -- the rule of the policy at a place
  pub one_more : (policies : List Policy) (at : ℕ) (policy : Policy) (rules now : Admission)
      → at < length policies → policy ≡ get_or policies at policy
      → AreSoFar policies (drop at policies) rules
      → ((cells : List Scalar) (user : List ℕ) → permitted_by cells user now ≡ permitted_by cells user rules || (bears_on roles access policy && permitting cells user policy))
      → ((cells : List Scalar) (user : List ℕ) → allowed_by cells user now ≡ allowed_by cells user rules && (not (bears_on roles access policy) || allowing cells user policy))
      → AreSoFar policies (drop (at + 1) policies) now
  one_more policies at policy rules now within is so_far permitted allowed =
      let left : drop at policies ≡ policy ∷ drop (at + 1) policies = drop_more policies at policy within ∙ ap (λ (p : Policy). p ∷ drop (at + 1) policies) (sym is) in
      let here = subst (λ (rest : List Policy). AreSoFar policies rest rules) left so_far in
      record {
        permitted = λ cells user. any_more (permitting cells user) (bears_on roles access) policy (drop (at + 1) policies) (permitted_by cells user rules)
            (permitted_by cells user now) (permitted cells user) ∙ here.permitted cells user;
        allowed = λ cells user. all_more (allowing cells user) (bears_on roles access) policy (drop (at + 1) policies) (allowed_by cells user rules)
            (allowed_by cells user now) (allowed cells user) ∙ here.allowed cells user;
      }

  pub all_so_far : (policies : List Policy) (rules : Admission) → AreSoFar policies [] rules → (cells : List Scalar) (user : List ℕ)
      → admits_by cells user rules ≡ admit access.action (filter (bears_on roles access) policies) (asked_at tables access.table cells user)
  all_so_far policies rules so_far cells user =
      ap (λ b. b && allowed_by cells user rules) (sym (or-false (permitted_by cells user rules)) ∙ so_far.permitted cells user)
      ∙ ap (λ b. list_any (permitting cells user) (filter (bears_on roles access) policies) && b) (sym (and-true (allowed_by cells user rules)) ∙ so_far.allowed cells user)
