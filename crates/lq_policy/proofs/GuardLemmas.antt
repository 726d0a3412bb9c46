-- The prepared rules of policies decide as the policies' own.
use Rattle.std.proofs.Common.{◌≡◌, ℕ, zero, suc, Bool, true, false, ◌&&◌, ◌||◌, ◌==◌, List, [], ◌∷◌, Option, Some, None, slice_get, ◌+◌, ◌<◌, ◌++◌, length, get_or, take, add-one, refl, ap, subst, sym, arith}
use Rattle.std.specs.List.{AllZip}
use Rattle.std.specs.Option.{option_or}
use Rattle.std.proofs.lemmas.Bool.{eqb-true}
use Rattle.lq_value.specs.declared.scalar.Scalar.{Scalar}
use Rattle.lq_security.specs.Visible.{check_or_using, holds_on, is_listed, is_same_action, rule_for}
use Rattle.lq_security.specs.declared.policy.Action.{Action}
use Rattle.lq_security.specs.declared.policy.Action.TheVariants as action
use Rattle.lq_security.specs.declared.policy.Policy.{Policy}
use Rattle.lq_security.specs.declared.policy.Role.{Role}
use Rattle.lq_security.specs.declared.policy.TablePart.{TablePart}
use Rattle.lq_grammar.specs.declared.syntax.Expr.{Expr}
use Rattle.lq_rule.specs.declared.rule.PreparedRule.{PreparedRule}
use Rattle.lq_policy.specs.Asking.{bears_on}
use Rattle.lq_policy.specs.Guards.{Guards, IsGuarded, IsPrepared, IsRuleOf, columns_at, decides_on, prepared_for, rule_in}
use Rattle.lq_policy.specs.Roles.{number_of}
use Rattle.lq_policy.specs.declared.access.Access.{Access}
use Rattle.lq_policy.specs.declared.guard.Guard.{Guard}

prepared_decides : (columns : List (List ℕ)) (rule : Option Expr) (prepared : Option PreparedRule) → IsPrepared columns rule prepared
    → (cells : List Scalar) (user : List ℕ) → decides_on cells user prepared ≡ holds_on (record { user = user; columns = columns; cells = cells }) rule
prepared_decides columns None None is cells user = refl
prepared_decides columns None (Some prepared) is cells user = absurd is
prepared_decides columns (Some rule) None is cells user = absurd is
prepared_decides columns (Some rule) (Some prepared) is cells user = is cells user

checked : (columns : List (List ℕ)) (check using : Option Expr) (prepared_check prepared_using : Option PreparedRule)
    → IsPrepared columns check prepared_check → IsPrepared columns using prepared_using
    → IsPrepared columns (check_or_using check using) (option_or prepared_check prepared_using)
checked columns None using None prepared_using is_check is_using = is_using
checked columns None using (Some prepared) prepared_using is_check is_using = absurd is_check
checked columns (Some check) using None prepared_using is_check is_using = absurd is_check
checked columns (Some check) using (Some prepared) prepared_using is_check is_using = is_check

for_action : (columns : List (List ℕ)) (policy : Policy) (guard : Guard) → Guards columns policy guard
    → (act : Action) → IsPrepared columns (rule_for act policy) (prepared_for act guard)
for_action columns policy guard is action.Select = is.using
for_action columns policy guard is action.Insert = checked columns policy.check policy.using guard.check guard.using is.check is.using
for_action columns policy guard is action.Delete = is.using

-- the rule of the policy with a number
pub rule_is : (tables : List TablePart) (policies : List Policy) (guards : List Guard) → AllZip (IsGuarded tables) policies guards
    → (number : ℕ) (act : Action) → IsRuleOf tables act (slice_get policies number) (rule_in act (slice_get guards number))
rule_is tables [] guards are number act = tt
rule_is tables (policy ∷ policies) [] are number act = absurd are
rule_is tables (policy ∷ policies) (guard ∷ guards) are zero act =
    prepared_decides (columns_at tables policy.table) (rule_for act policy) (prepared_for act guard) (for_action (columns_at tables policy.table) policy guard are.0 act)
rule_is tables (policy ∷ policies) (guard ∷ guards) are (suc number) act = rule_is tables policies guards are.1 number act

and_first : (a b : Bool) → (a && b) ≡ true → a ≡ true
and_first true b both = refl
and_first false b both = both

-- a policy that applies is about the table at hand
pub same_columns : (tables : List TablePart) (roles : List Role) (access : Access) (policy : Policy) → bears_on roles access policy ≡ true
    → columns_at tables policy.table ≡ columns_at tables access.table
same_columns tables roles access policy bears =
    let for_action = and_first ((policy.table == access.table) && (policy.for_all || is_same_action policy.action access.action))
    (is_listed roles (number_of access.role) policy.to) bears in
    let on_table = and_first (policy.table == access.table) (policy.for_all || is_same_action policy.action access.action) for_action in
    ap (columns_at tables) (eqb-true policy.table access.table on_table)

-- one more policy, and its guard
zip_more : (Fact : Policy → Guard → Type 0) (policies : List Policy) (guards : List Guard) (at : ℕ) (policy : Policy) (guard : Guard)
    → at < length policies → policy ≡ get_or policies at policy → AllZip Fact (take at policies) guards → Fact policy guard
    → AllZip Fact (take (suc at) policies) (guards ++ guard ∷ [])
zip_more Fact [] guards at policy guard within is so_far holds = absurd (omega arith)
zip_more Fact (p ∷ policies) [] zero policy guard within is so_far holds = (subst (λ (x : Policy). Fact x guard) is holds, tt)
zip_more Fact (p ∷ policies) (g ∷ guards) zero policy guard within is so_far holds = absurd so_far
zip_more Fact (p ∷ policies) [] (suc at) policy guard within is so_far holds = absurd so_far
zip_more Fact (p ∷ policies) (g ∷ guards) (suc at) policy guard within is so_far holds =
    (so_far.0, zip_more Fact policies guards at policy guard (omega arith) is so_far.1 holds)

pub one_more : (tables : List TablePart) (policies : List Policy) (guards pushed : List Guard) (at : ℕ) (policy : Policy) (guard : Guard) (columns : List (List ℕ))
    → at < length policies → policy ≡ get_or policies at policy → AllZip (IsGuarded tables) (take at policies) guards
    → columns ≡ columns_at tables policy.table → Guards columns policy guard → pushed ≡ guards ++ guard ∷ []
    → AllZip (IsGuarded tables) (take (at + 1) policies) pushed
one_more tables policies guards pushed at policy guard columns within is so_far same guarded more =
    let here = subst (λ (names : List (List ℕ)). Guards names policy guard) same guarded in
    subst (λ (gs : List Guard). AllZip (IsGuarded tables) (take (at + 1) policies) gs) (sym more)
    (subst (λ (n : ℕ). AllZip (IsGuarded tables) (take n policies) (guards ++ guard ∷ [])) (sym (add-one at))
    (zip_more (IsGuarded tables) policies guards at policy guard within is so_far here))
