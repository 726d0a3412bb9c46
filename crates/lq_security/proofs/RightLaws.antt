-- Proofs of the laws of rights: the function gives exactly what a role may use.
use Rattle.std.proofs.Common.{◌≡◌, ◌==◌, ◌&&◌, ◌∷◌, ◌++◌, not, if◌then◌else◌, List, [], ℕ, Bool, true, false, Option, Some, None, ap, ◌∙◌, sym, refl, subst, inl, inr, true≢false}
use Rattle.std.specs.List.{Contains, list_any}
use Rattle.std.proofs.lemmas.Bool.{and_from, and_parts, eqb-true}
use Rattle.std.proofs.lemmas.Bool.Decides.{Decides-eqb}
use Rattle.std.proofs.lemmas.List.Elements.{Contains-append_cases, Contains-append_left, Contains-append_right}
use Rattle.std.proofs.lemmas.List.Folds.{Any-from_list_any}
use Rattle.std.proofs.lemmas.Option.{none-some}
use Rattle.lq_security.proofs.MembershipLaws.{has_cases, has_first, has_later, none_in_nil}
use Rattle.lq_security.proofs.PolicyLemmas.{found_at, found_where_listed, listed_where_found, not_false, not_true}
use Rattle.lq_security.specs.RightLaws.{DeniesTheRest, DeniesWithoutGrants, GrantsMore, HasOneRule, TellsUses, WithholdsMore}
use Rattle.lq_security.specs.Rights.{BearsOn, Denied, HasRight, MayUse, column, insertion, predicate, removal, table, bears, covers, denial, denied_or, denier_of, first_concerning, has_right, is_column_of, is_same_use, is_withheld, may_use, opens}
use Rattle.lq_security.specs.Visible.{is_listed}
use Rattle.lq_security.specs.declared.policy.PolicyParts.{PolicyParts}
use Rattle.lq_security.specs.declared.policy.Role.{Role}
use Rattle.lq_language.specs.declared.rights.RightRule.{RightRule}
use Rattle.lq_language.specs.declared.rights.Use.{Use}
use Rattle.lq_language.specs.declared.rights.Use.TheVariants as of

-- ---- uses

pub same_use : (a b : Use) → is_same_use a b ≡ true → a ≡ b
same_use (of.Table t) (of.Table u) h = ap of.Table (eqb-true t u h)
same_use (of.Column t c) (of.Column u d) h =
    let both = and_parts (t == u) (c == d) h in
    λ i. of.Column (eqb-true t u both.0 i) (eqb-true c d both.1 i)
same_use (of.Insert t) (of.Insert u) h = ap of.Insert (eqb-true t u h)
same_use (of.Delete t) (of.Delete u) h = ap of.Delete (eqb-true t u h)
same_use (of.Host p) (of.Host q) h = ap of.Host (eqb-true p q h)
same_use a b h = absurd (true≢false (sym h))

pub same_itself : (a : Use) → is_same_use a a ≡ true
same_itself (of.Table t) = (Decides-eqb t t).1 refl
same_itself (of.Column t c) = and_from (t == t) (c == c) ((Decides-eqb t t).1 refl) ((Decides-eqb c c).1 refl)
same_itself (of.Insert t) = (Decides-eqb t t).1 refl
same_itself (of.Delete t) = (Decides-eqb t t).1 refl
same_itself (of.Host p) = (Decides-eqb p p).1 refl

-- an item that passes a test
pub passing : {A : Type 0} (test : A → Bool) (xs : List A) → list_any test xs ≡ true → (x : A) × Contains xs x × (test x ≡ true)
passing test xs h = let found = Any-from_list_any test xs h in (found.1, (found.0, found.2, found.3), found.4)

-- no item passes a test that fails
failing : {A : Type 0} (test : A → Bool) (xs : List A) → list_any test xs ≡ false → (x : A) → Contains xs x → test x ≡ false
failing test xs h x has = not_true (test x) (λ is. true≢false (sym (found_at test xs x has is) ∙ h))

-- ---- rules

module _ (roles : List Role) (role : ℕ) (used : Use) where
  pub covering_told : (rule : RightRule) → covers used rule ≡ true → Contains rule.rights used
  covering_told rule h =
      let found = passing (is_same_use used) rule.rights h in
      subst (λ u. Contains rule.rights u) (sym (same_use used found.0 found.2)) found.1

  pub bearing_told : (rule : RightRule) → bears roles role used rule ≡ true → BearsOn roles role used rule
  bearing_told rule h =
      let both = and_parts (is_listed roles role rule.to) (covers used rule) h in
      record { to_role = listed_where_found roles role rule.to both.0; covering = covering_told rule both.1 }

  pub bearing_given : (rule : RightRule) → BearsOn roles role used rule → bears roles role used rule ≡ true
  bearing_given rule h =
      and_from (is_listed roles role rule.to) (covers used rule) (found_where_listed roles role rule.to h.to_role)
      (found_at (is_same_use used) rule.rights used h.covering (same_itself used))

module _ (parts : PolicyParts) (role : ℕ) where
  right_told : (used : Use) → has_right parts role used ≡ true → HasRight parts role used
  right_told used h =
      let both = and_parts (list_any (bears parts.roles role used) parts.grants) (not (list_any (bears parts.roles role used) parts.withholds)) h in
      let found = passing (bears parts.roles role used) parts.grants both.0 in
      record {
        grant = found.0;
        among = found.1;
        granting = bearing_told parts.roles role used found.0 found.2;
        unwithheld = λ rule has on. true≢false (sym (bearing_given parts.roles role used rule on)
            ∙ failing (bears parts.roles role used) parts.withholds (not_false _ both.1) rule has);
      }

  right_given : (used : Use) → HasRight parts role used → has_right parts role used ≡ true
  right_given used h =
      and_from (list_any (bears parts.roles role used) parts.grants) (not (list_any (bears parts.roles role used) parts.withholds))
      (found_at (bears parts.roles role used) parts.grants h.grant h.among (bearing_given parts.roles role used h.grant h.granting))
      (ap not (not_true (list_any (bears parts.roles role used) parts.withholds)
      (λ is. let found = passing (bears parts.roles role used) parts.withholds is in
      h.unwithheld found.0 found.1 (bearing_told parts.roles role used found.0 found.2))))

-- ---- what a role may use

pub is_column : (t : ℕ) (used : Use) → is_column_of t used ≡ true → (c : ℕ) × (of.Column t c ≡ used)
is_column t (of.Column u c) h = (c, λ i. of.Column (eqb-true t u h i) c)
is_column t used h = absurd (true≢false (sym h))

module _ (parts : PolicyParts) (role : ℕ) where
  -- whether a right is to a column of the table, which isn't withheld
  abbrev is_open : ℕ → Use → Bool
  is_open t right = is_column_of t right && not (is_withheld parts role right)

  not_withheld : (used : Use) → not (is_withheld parts role used) ≡ true → (rule : RightRule) → Contains parts.withholds rule
      → BearsOn parts.roles role used rule → ⊥
  not_withheld used h rule has on =
      true≢false (sym (bearing_given parts.roles role used rule on) ∙ failing (bears parts.roles role used) parts.withholds (not_false _ h) rule has)

  table_told : (t : ℕ) → list_any (opens parts role t) parts.grants ≡ true → MayUse parts role (of.Table t)
  table_told t h =
      let found = passing (opens parts role t) parts.grants h in
      let both = and_parts (is_listed parts.roles role found.0.to) (list_any (is_open t) found.0.rights) found.2 in
      let right = passing (is_open t) found.0.rights both.1 in
      let kinds = and_parts (is_column_of t right.0) (not (is_withheld parts role right.0)) right.2 in
      let named = is_column t right.0 kinds.0 in
      table t named.0 (subst (HasRight parts role) (sym named.1) (record {
        grant = found.0;
        among = found.1;
        granting = record { to_role = listed_where_found parts.roles role found.0.to both.0; covering = right.1 };
        unwithheld = not_withheld right.0 kinds.1;
      }))

  table_given : (t c : ℕ) → HasRight parts role (of.Column t c) → list_any (opens parts role t) parts.grants ≡ true
  table_given t c right =
      found_at (opens parts role t) parts.grants right.grant right.among
      (and_from (is_listed parts.roles role right.grant.to) (list_any (is_open t) right.grant.rights)
      (found_where_listed parts.roles role right.grant.to right.granting.to_role)
      (found_at (is_open t) right.grant.rights (of.Column t c) right.granting.covering
      (and_from (t == t) (not (is_withheld parts role (of.Column t c))) ((Decides-eqb t t).1 refl)
      (and_parts (list_any (bears parts.roles role (of.Column t c)) parts.grants) (not (is_withheld parts role (of.Column t c)))
      (right_given parts role (of.Column t c) right)).1)))

  pub use_told : (used : Use) → may_use parts role used ≡ true → MayUse parts role used
  unfolding may_use
  use_told (of.Table t) h = table_told t h
  use_told (of.Column t c) h = column t c (right_told parts role (of.Column t c) h)
  use_told (of.Insert t) h = insertion t (right_told parts role (of.Insert t) h)
  use_told (of.Delete t) h = removal t (right_told parts role (of.Delete t) h)
  use_told (of.Host p) h = predicate p (right_told parts role (of.Host p) h)

  pub use_given : (used : Use) → MayUse parts role used → may_use parts role used ≡ true
  unfolding may_use
  use_given used (table t c right) = table_given t c right
  use_given used (column t c right) = right_given parts role (of.Column t c) right
  use_given used (insertion t right) = right_given parts role (of.Insert t) right
  use_given used (removal t right) = right_given parts role (of.Delete t) right
  use_given used (predicate p right) = right_given parts role (of.Host p) right

pub tells_uses : TellsUses
tells_uses parts role used = (use_told parts role used, use_given parts role used)

-- ---- denials

module _ (parts : PolicyParts) (role : ℕ) where
  -- a use that is not denied is one that the role may use
  allowed_one : (used : Use) (rest : Option Denied) → denied_or used (denier_of parts role used) rest ≡ None → (may_use parts role used ≡ true) × (rest ≡ None)
  unfolding denier_of
  allowed_one used rest h = by (may_use parts role used) h where
    by : (b : Bool) → denied_or used (if b then None else Some (first_concerning parts.roles role used parts.withholds)) rest ≡ None → (b ≡ true) × (rest ≡ None)
    by true is = (refl, is)
    by false is = absurd (none-some _ (sym is))

  one_allowed : (used : Use) (rest : Option Denied) → may_use parts role used ≡ true → denied_or used (denier_of parts role used) rest ≡ rest
  unfolding denier_of
  one_allowed used rest h =
      ap (λ (b : Bool). denied_or used (if b then None else Some (first_concerning parts.roles role used parts.withholds)) rest) h

  pub none_denied : (uses : List Use) → denial parts role uses ≡ None → (used : Use) → Contains uses used → may_use parts role used ≡ true
  unfolding denial
  none_denied [] h used has = absurd (none_in_nil used has)
  none_denied (first ∷ uses) h used has =
      let both = allowed_one first (denial parts role uses) h in
      elim (has_cases first uses used has) [
        | inl same ↦ subst (λ u. may_use parts role u ≡ true) same both.0
        | inr later ↦ none_denied uses both.1 used later
      ]

  pub all_allowed : (uses : List Use) → ((used : Use) → Contains uses used → may_use parts role used ≡ true) → denial parts role uses ≡ None
  unfolding denial
  all_allowed [] each = refl
  all_allowed (used ∷ uses) each =
      one_allowed used (denial parts role uses) (each used (has_first used uses))
      ∙ all_allowed uses (λ other has. each other (has_later used uses other has))

pub denies_the_rest : DeniesTheRest
denies_the_rest parts role uses = (
  λ h used has. use_told parts role used (none_denied parts role uses h used has),
  λ each. all_allowed parts role uses (λ used has. use_given parts role used (each used has)),
)

-- ---- one rule more

module _ (fewer more : List RightRule) (rule : RightRule) (one : HasOneRule fewer more rule) where
  pub had : (other : RightRule) → Contains fewer other → Contains more other
  had other has =
      let within : Contains (one.front ++ one.rest) other = subst (λ l. Contains l other) one.without has in
      subst (λ l. Contains l other) (sym one.within) (elim (Contains-append_cases one.front one.rest other within) [
        | inl before ↦ Contains-append_left one.front (rule ∷ one.rest) other before
        | inr after ↦ Contains-append_right one.front (rule ∷ one.rest) other (has_later rule one.rest other after)
      ])

-- what a role may use under some parts it may use under others, where its rights are kept
module _ (here there : PolicyParts) (role : ℕ) (kept : (used : Use) → HasRight here role used → HasRight there role used) where
  use_kept : (used : Use) → MayUse here role used → MayUse there role used
  use_kept used (table t c right) = table t c (kept (of.Column t c) right)
  use_kept used (column t c right) = column t c (kept (of.Column t c) right)
  use_kept used (insertion t right) = insertion t (kept (of.Insert t) right)
  use_kept used (removal t right) = removal t (kept (of.Delete t) right)
  use_kept used (predicate p right) = predicate p (kept (of.Host p) right)

  none_denied_there : (uses : List Use) → denial here role uses ≡ None → denial there role uses ≡ None
  none_denied_there uses h =
      all_allowed there role uses (λ used has. use_given there role used (use_kept used (use_told here role used (none_denied here role uses h used has))))

bears_there : (here there : List Role) (role : ℕ) (used : Use) (rule : RightRule) → there ≡ here → BearsOn here role used rule → BearsOn there role used rule
bears_there here there role used rule same on = subst (λ roles. BearsOn roles role used rule) (sym same) on

pub withholds_more : WithholdsMore
withholds_more fewer more rule roles grants one role uses h = none_denied_there more fewer role kept uses h where
  kept : (used : Use) → HasRight more role used → HasRight fewer role used
  kept used right = record {
    grant = right.grant;
    among = subst (λ l. Contains l right.grant) grants right.among;
    granting = bears_there more.roles fewer.roles role used right.grant (sym roles) right.granting;
    unwithheld = λ other has on. right.unwithheld other (had fewer.withholds more.withholds rule one other has) (bears_there fewer.roles more.roles role used other roles on);
  }

pub grants_more : GrantsMore
grants_more fewer more rule roles withholds one role uses h = none_denied_there fewer more role kept uses h where
  kept : (used : Use) → HasRight fewer role used → HasRight more role used
  kept used right = record {
    grant = right.grant;
    among = had fewer.grants more.grants rule one right.grant right.among;
    granting = bears_there fewer.roles more.roles role used right.grant roles right.granting;
    unwithheld = λ other has on. right.unwithheld other (subst (λ l. Contains l other) withholds has) (bears_there more.roles fewer.roles role used other (sym roles) on);
  }

-- ---- no grant

pub denies_without_grants : DeniesWithoutGrants
denies_without_grants parts role none uses used has h = by used (use_told parts role used (none_denied parts role uses h used has)) where
  no_right : (u : Use) → HasRight parts role u → ⊥
  no_right u right = none right.grant right.among right.granting.to_role

  by : (u : Use) → MayUse parts role u → ⊥
  by u (table t c right) = no_right (of.Column t c) right
  by u (column t c right) = no_right (of.Column t c) right
  by u (insertion t right) = no_right (of.Insert t) right
  by u (removal t right) = no_right (of.Delete t) right
  by u (predicate p right) = no_right (of.Host p) right
