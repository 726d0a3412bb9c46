-- What a role may use, by the set of what unwithheld rights give it.
use Rattle.std.proofs.Common.{◌≡◌, ◌&&◌, ◌||◌, not, List, [], ◌∷◌, ℕ, Bool, true, false, Result, Ok, Err, IfOk, ap, ◌∙◌, sym, refl}
use Rattle.std.specs.declared.alloc.AllocError.{AllocError}
use Rattle.std.specs.List.{list_any}
use Rattle.std.proofs.Math.Bool.{and_assoc}
use Rattle.lq_security.proofs.RightLaws.{same_use}
use Rattle.lq_security.specs.Rights.{bears, covers, is_same_use, is_withheld, may_use}
use Rattle.lq_security.specs.Visible.{is_listed}
use Rattle.lq_security.specs.declared.policy.PolicyParts.{PolicyParts}
use Rattle.lq_security.specs.declared.policy.Role.{Role}
use Rattle.lq_language.specs.declared.rights.RightRule.{RightRule}
use Rattle.lq_language.specs.declared.rights.Use.{Use}
use Rattle.lq_language.specs.declared.rights.Use.TheVariants as of
use Rattle.lq_policy.specs.RoleRights.{gives, grants_by, is_among}
use Rattle.lq_policy.specs.declared.use_set.UseSet.{UseSet}

-- ---- what one right gives

pub by_no_table : (other : Use) (t : ℕ) → gives other (of.Table t) ≡ false
by_no_table (of.Table u) t = refl
by_no_table (of.Column u c) t = refl
by_no_table (of.Insert u) t = refl
by_no_table (of.Delete u) t = refl
by_no_table (of.Host p) t = refl

pub by_a_column : (other : Use) (t c : ℕ) (so_far : Bool)
    → is_same_use other (of.Column t c) || (is_same_use other (of.Table t) || so_far) ≡ gives other (of.Column t c) || so_far
by_a_column (of.Table u) t c so_far = refl
by_a_column (of.Column u d) t c so_far = refl
by_a_column (of.Insert u) t c so_far = refl
by_a_column (of.Delete u) t c so_far = refl
by_a_column (of.Host p) t c so_far = refl

-- a column is put into a set after its table
pub column_added : (added : Result (Unit {0}) AllocError) (before between after : UseSet) (right : Use) (t c : ℕ) → right ≡ of.Column t c
    → ((other : Use) → is_among between other ≡ is_same_use other (of.Table t) || is_among before other)
    → IfOk added (λ _. (other : Use) → is_among after other ≡ is_same_use other (of.Column t c) || is_among between other)
    → IfOk added (λ _. (other : Use) → is_among after other ≡ gives other right || is_among before other)
column_added (Err refused) before between after right t c is first second = second
column_added (Ok done) before between after right t c is first second = λ other.
    second other
    ∙ ap (λ (b : Bool). is_same_use other (of.Column t c) || b) (first other)
    ∙ by_a_column other t c (is_among before other)
    ∙ ap (λ (u : Use). gives other u || is_among before other) (sym is)

pub by_an_insertion : (other : Use) (t : ℕ) → is_same_use other (of.Insert t) ≡ gives other (of.Insert t)
by_an_insertion (of.Table u) t = refl
by_an_insertion (of.Column u c) t = refl
by_an_insertion (of.Insert u) t = refl
by_an_insertion (of.Delete u) t = refl
by_an_insertion (of.Host p) t = refl

pub by_a_removal : (other : Use) (t : ℕ) → is_same_use other (of.Delete t) ≡ gives other (of.Delete t)
by_a_removal (of.Table u) t = refl
by_a_removal (of.Column u c) t = refl
by_a_removal (of.Insert u) t = refl
by_a_removal (of.Delete u) t = refl
by_a_removal (of.Host p) t = refl

pub by_a_predicate : (other : Use) (p : ℕ) → is_same_use other (of.Host p) ≡ gives other (of.Host p)
by_a_predicate (of.Table u) p = refl
by_a_predicate (of.Column u c) p = refl
by_a_predicate (of.Insert u) p = refl
by_a_predicate (of.Delete u) p = refl
by_a_predicate (of.Host q) p = refl

-- ---- what all rights give

and_over_or : (a b c : Bool) → (a && c) || (b && c) ≡ (a || b) && c
and_over_or true true true = refl
and_over_or true true false = refl
and_over_or true false true = refl
and_over_or true false false = refl
and_over_or false b c = refl

module _ (withheld : Use → Bool) (used : Use) where
  -- a right to the use itself is withheld where the use is
  by_itself : (right : Use) → is_same_use used right && not (withheld right) ≡ is_same_use used right && not (withheld used)
  by_itself right = by (is_same_use used right) refl where
    by : (same : Bool) → is_same_use used right ≡ same → same && not (withheld right) ≡ same && not (withheld used)
    by true h = ap (λ (u : Use). not (withheld u)) (sym (same_use used right h))
    by false h = refl

  by_rights : (rights : List Use)
      → list_any (λ right. is_same_use used right && not (withheld right)) rights ≡ list_any (is_same_use used) rights && not (withheld used)
  by_rights [] = refl
  by_rights (right ∷ rest) =
      (λ i. by_itself right i || by_rights rest i) ∙ and_over_or (is_same_use used right) (list_any (is_same_use used) rest) (not (withheld used))

  by_rules : (roles : List Role) (role : ℕ) (rules : List RightRule)
      → list_any (λ rule. is_listed roles role rule.to && list_any (λ right. is_same_use used right && not (withheld right)) rule.rights) rules
      ≡ list_any (bears roles role used) rules && not (withheld used)
  by_rules roles role [] = refl
  by_rules roles role (rule ∷ rest) =
      (λ i. (is_listed roles role rule.to && by_rights rule.rights i) || by_rules roles role rest i)
      ∙ ap (λ (b : Bool). b || (list_any (bears roles role used) rest && not (withheld used))) (sym (and_assoc (is_listed roles role rule.to) (covers used rule) (not (withheld used))))
      ∙ and_over_or (bears roles role used rule) (list_any (bears roles role used) rest) (not (withheld used))

module _ (parts : PolicyParts) (role : ℕ) (withheld allowed : UseSet)
    (is_withheld_by : (used : Use) → is_among withheld used ≡ is_withheld parts role used)
    (is_allowed_by : (used : Use) → is_among allowed used ≡ list_any (grants_by parts.roles role withheld used) parts.grants) where
  by_parts : (used : Use) → is_among allowed used
      ≡ list_any (λ rule. is_listed parts.roles role rule.to && list_any (λ right. gives used right && not (is_withheld parts role right)) rule.rights) parts.grants
  by_parts used =
      is_allowed_by used
      ∙ (λ i. list_any (λ rule. is_listed parts.roles role rule.to && list_any (λ right. gives used right && not (is_withheld_by right i)) rule.rights) parts.grants)

  pub allowed_alike : (used : Use) → is_among allowed used ≡ may_use parts role used
  unfolding may_use
  allowed_alike (of.Table t) = by_parts (of.Table t)
  allowed_alike (of.Column t c) = by_parts (of.Column t c) ∙ by_rules (is_withheld parts role) (of.Column t c) parts.roles role parts.grants
  allowed_alike (of.Insert t) = by_parts (of.Insert t) ∙ by_rules (is_withheld parts role) (of.Insert t) parts.roles role parts.grants
  allowed_alike (of.Delete t) = by_parts (of.Delete t) ∙ by_rules (is_withheld parts role) (of.Delete t) parts.roles role parts.grants
  allowed_alike (of.Host p) = by_parts (of.Host p) ∙ by_rules (is_withheld parts role) (of.Host p) parts.roles role parts.grants
