-- Proofs of the laws of policies: the function that decides on a row gives exactly the visible rows.
use Rattle.std.proofs.Common.{◌≡◌, ◌≢◌, ◌==◌, ◌&&◌, ◌||◌, ◌<◌, ◌∷◌, ◌++◌, not, List, ℕ, length, Bool, true, false, Option, Some, None, codes, slice_get, bytes_eq, ap, ◌∙◌, sym, refl, subst, inl, inr}
use Rattle.std.specs.List.{Contains, list_any, list_all, slice_index_or}
use Rattle.std.proofs.lemmas.Bool.{and_from, and_parts, cases_Bool, eqb-true, or_left, or_right}
use Rattle.std.proofs.lemmas.Bool.Decides.{Decides-eqb}
use Rattle.std.proofs.lemmas.List.Elements.{All-contains, All-contains_itself, Contains-append_cases, Contains-append_left, Contains-append_right}
use Rattle.std.proofs.lemmas.List.Folds.{Any-from_list_any, list_any_at}
use Rattle.std.proofs.lemmas.List.Sums.{AllPass-from_list_all, list_all-from_AllPass}
use Rattle.std.proofs.lemmas.Option.{same_Some}
use Rattle.std.proofs.lemmas.Slice.Eq.{bytes_eq-Decides}
use Rattle.lq_value.specs.declared.scalar.Scalar.{Scalar}
use Rattle.lq_security.proofs.MembershipLaws.{has_cases, has_later, has_where_kept, kept_where_it_passes, tells_memberships}
use Rattle.lq_security.specs.PolicyLaws.{HasOneMore, IsDeniedByDefault, IsDeniedToStrangers, IsOpenToBypass, IsOpenWithoutSecurity, LacksPermission, NarrowsByRestriction, ReadsWhatItRemoves, WidensByPermission}
use Rattle.lq_security.proofs.DecidedPolicies.{Admits, read, put_in, removed, IsAdmitted, IsSatisfied, IsVisible, unsecured, bypassing, admitted}
use Rattle.lq_security.specs.Visible.{Applies, RowForUser, GoesBy, HasRule, using, check, using_for_check, IsFor, every, this, IsListed, all, named, admitted_by, admitted_for, admitted_to, allows, applies, applying, check_or_using, goes_by, holds_on, is_admitted, is_listed, is_named, is_same_action, permits, rule_for, visible_to}
use Rattle.lq_security.specs.declared.policy.Action.{Action}
use Rattle.lq_security.specs.declared.policy.Action.TheVariants as action
use Rattle.lq_security.specs.declared.policy.Policy.{Policy}
use Rattle.lq_security.specs.declared.policy.PolicyParts.{PolicyParts}
use Rattle.lq_security.specs.declared.policy.Role.{Role}
use Rattle.lq_security.specs.declared.policy.TablePart.{TablePart}
use Rattle.lq_grammar.specs.declared.syntax.Expr.{Expr}

-- ---- tests on items, and truth values

pub found_at : {A : Type 0} (test : A → Bool) (xs : List A) (x : A) → Contains xs x → test x ≡ true → list_any test xs ≡ true
found_at test xs x has h = list_any_at test xs has.0 x has.1 (ap test has.2 ∙ h)

all_pass : {A : Type 0} (test : A → Bool) (xs : List A) → ((x : A) → Contains xs x → test x ≡ true) → list_all test xs ≡ true
all_pass test xs each = list_all-from_AllPass test xs (λ k d within. each (slice_index_or xs k d) (All-contains_itself xs k d within))

or_other : (a b : Bool) → a ≡ false → (a || b) ≡ true → b ≡ true
or_other true b isnt h = absurd (cc)
or_other false b isnt h = h

pub not_false : (b : Bool) → not b ≡ true → b ≡ false
not_false true h = absurd (cc)
not_false false h = refl

pub not_true : (b : Bool) → (b ≡ true → ⊥) → b ≡ false
not_true true h = absurd (h refl)
not_true false h = refl

-- ---- lists of roles

module _ (roles : List Role) (role : ℕ) where
  -- one of the roles of the role has this name
  abbrev is_one : List ℕ → Bool
  is_one name = list_any (λ n. is_named name (slice_get roles n)) (goes_by roles role)

  named_where_one : (to : List (List ℕ)) (name : List ℕ) → Contains to name → is_one name ≡ true → IsListed roles role to
  named_where_one to name has h = by (slice_get roles found.1) refl found.4 where
    found : (k : ℕ) × (n : ℕ) × (k < length (goes_by roles role)) × (slice_index_or (goes_by roles role) k n ≡ n) × (is_named name (slice_get roles n) ≡ true)
    found = Any-from_list_any (λ n. is_named name (slice_get roles n)) (goes_by roles role) h

    goes : GoesBy roles role found.1
    goes = (tells_memberships roles role found.1).0 (found.0, found.2, found.3)

    by : (o : Option Role) → slice_get roles found.1 ≡ o → is_named name o ≡ true → IsListed roles role to
    by None none is = absurd (cc)
    by (Some other) some is = named found.1 other goes some (subst (λ n. Contains to n) (sym ((bytes_eq-Decides other.name name).0 is)) has)

  pub listed_where_found : (to : List (List ℕ)) → is_listed roles role to ≡ true → IsListed roles role to
  listed_where_found to h =
      let found = Any-from_list_any (λ name. bytes_eq name (codes "public") || is_one name) to h in
      elim (cases_Bool (bytes_eq found.1 (codes "public"))) [
        | inl same ↦ all (subst (λ n. Contains to n) ((bytes_eq-Decides found.1 (codes "public")).0 same) (found.0, found.2, found.3))
        | inr differ ↦ named_where_one to found.1 (found.0, found.2, found.3) (or_other (bytes_eq found.1 (codes "public")) (is_one found.1) differ found.4)
      ]

  pub found_where_listed : (to : List (List ℕ)) → IsListed roles role to → is_listed roles role to ≡ true
  found_where_listed to (all has) =
      found_at (λ name. bytes_eq name (codes "public") || is_one name) to (codes "public") has (or_left (bytes_eq (codes "public") (codes "public")) (is_one (codes "public")) refl)
  found_where_listed to (named number other goes some has) =
      let itself : is_named other.name (slice_get roles number) ≡ true = ap (is_named other.name) some ∙ (bytes_eq-Decides other.name other.name).1 refl in
      let one : is_one other.name ≡ true = found_at (λ n. is_named other.name (slice_get roles n)) (goes_by roles role) number ((tells_memberships roles role number).1 goes) itself in
      found_at (λ name. bytes_eq name (codes "public") || is_one name) to other.name has (or_right (bytes_eq other.name (codes "public")) (is_one other.name) one)

-- ---- policies that apply

same_action : (a b : Action) → is_same_action a b ≡ true → a ≡ b
same_action action.Select action.Select h = refl
same_action action.Insert action.Insert h = refl
same_action action.Delete action.Delete h = refl
same_action action.Select action.Insert h = absurd (cc)
same_action action.Select action.Delete h = absurd (cc)
same_action action.Insert action.Select h = absurd (cc)
same_action action.Insert action.Delete h = absurd (cc)
same_action action.Delete action.Select h = absurd (cc)
same_action action.Delete action.Insert h = absurd (cc)

same_as_itself : (a : Action) → is_same_action a a ≡ true
same_as_itself action.Select = refl
same_as_itself action.Insert = refl
same_as_itself action.Delete = refl

for_where_found : (act : Action) (policy : Policy) → (policy.for_all || is_same_action policy.action act) ≡ true → IsFor act policy
for_where_found act policy h =
    elim (cases_Bool policy.for_all) [
      | inl for_all ↦ every for_all
      | inr for_one ↦ this (same_action policy.action act (or_other policy.for_all (is_same_action policy.action act) for_one h))
    ]

found_where_for : (act : Action) (policy : Policy) → IsFor act policy → (policy.for_all || is_same_action policy.action act) ≡ true
found_where_for act policy (every is) = or_left policy.for_all (is_same_action policy.action act) is
found_where_for act policy (this is) = or_right policy.for_all (is_same_action policy.action act) (ap (λ a. is_same_action a act) is ∙ same_as_itself act)

module _ (roles : List Role) (role : ℕ) (act : Action) (table : ℕ) (policy : Policy) where
  pub applies_where_found : applies roles role act table policy ≡ true → Applies roles role act table policy
  applies_where_found h =
      let outer = and_parts ((policy.table == table) && (policy.for_all || is_same_action policy.action act)) (is_listed roles role policy.to) h in
      let inner = and_parts (policy.table == table) (policy.for_all || is_same_action policy.action act) outer.0 in
      record { on_table = eqb-true policy.table table inner.0; for_action = for_where_found act policy inner.1; to_role = listed_where_found roles role policy.to outer.1 }

  pub found_where_it_applies : Applies roles role act table policy → applies roles role act table policy ≡ true
  found_where_it_applies is =
      and_from ((policy.table == table) && (policy.for_all || is_same_action policy.action act)) (is_listed roles role policy.to)
      (and_from (policy.table == table) (policy.for_all || is_same_action policy.action act) ((Decides-eqb policy.table table).1 is.on_table) (found_where_for act policy is.for_action))
      (found_where_listed roles role policy.to is.to_role)

-- ---- a policy's rule

rule_where_found : (act : Action) (policy : Policy) (rule : Expr) → rule_for act policy ≡ Some rule → HasRule act policy rule
rule_where_found action.Select policy rule h = using (λ same. absurd (cc)) h
rule_where_found action.Delete policy rule h = using (λ same. absurd (cc)) h
rule_where_found action.Insert policy rule h = by policy.check refl h where
  by : (own : Option Expr) → policy.check ≡ own → check_or_using own policy.using ≡ Some rule → HasRule action.Insert policy rule
  by None none is = using_for_check refl none is
  by (Some own) some is = check refl (some ∙ is)

rule_of_others : (act : Action) (policy : Policy) → act ≢ action.Insert → rule_for act policy ≡ policy.using
rule_of_others action.Select policy other = refl
rule_of_others action.Delete policy other = refl
rule_of_others action.Insert policy other = absurd (other refl)

found_where_rule : (act : Action) (policy : Policy) (rule : Expr) → HasRule act policy rule → rule_for act policy ≡ Some rule
found_where_rule act policy rule (using other is) = rule_of_others act policy other ∙ is
found_where_rule act policy rule (check same is) = ap (λ a. rule_for a policy) same ∙ ap (λ own. check_or_using own policy.using) is
found_where_rule act policy rule (using_for_check same none is) = ap (λ a. rule_for a policy) same ∙ ap (λ own. check_or_using own policy.using) none ∙ is

module _ (act : Action) (asked : RowForUser) (policy : Policy) where
  pub satisfied_where_it_holds : holds_on asked (rule_for act policy) ≡ true → IsSatisfied act asked policy
  satisfied_where_it_holds h = by (rule_for act policy) refl h where
    by : (o : Option Expr) → rule_for act policy ≡ o → holds_on asked o ≡ true → IsSatisfied act asked policy
    by None none is = absurd (cc)
    by (Some rule) some is = record { rule = rule; has = rule_where_found act policy rule some; true_on = is }

  pub holds_where_satisfied : IsSatisfied act asked policy → holds_on asked (rule_for act policy) ≡ true
  holds_where_satisfied is = ap (holds_on asked) (found_where_rule act policy is.rule is.has) ∙ is.true_on

  -- a policy that permits the row is permissive, and its rule is true on it
  pub permits_parts : permits act asked policy ≡ true → (policy.restrictive ≡ false) × IsSatisfied act asked policy
  permits_parts h =
      let both = and_parts (not policy.restrictive) (holds_on asked (rule_for act policy)) h in
      (not_false policy.restrictive both.0, satisfied_where_it_holds both.1)

  pub permits_by_parts : policy.restrictive ≡ false → IsSatisfied act asked policy → permits act asked policy ≡ true
  permits_by_parts permissive satisfied = and_from (not policy.restrictive) (holds_on asked (rule_for act policy)) (ap not permissive) (holds_where_satisfied satisfied)

  -- a policy that allows the row has a rule that is true on it, where it is restrictive
  pub allows_parts : allows act asked policy ≡ true → policy.restrictive ≡ true → IsSatisfied act asked policy
  allows_parts h restrictive = satisfied_where_it_holds (or_other (not policy.restrictive) (holds_on asked (rule_for act policy)) (ap not restrictive) h)

  pub allows_by_parts : (policy.restrictive ≡ true → IsSatisfied act asked policy) → allows act asked policy ≡ true
  allows_by_parts rule =
      elim (cases_Bool policy.restrictive) [
        | inl is ↦ or_right (not policy.restrictive) (holds_on asked (rule_for act policy)) (holds_where_satisfied (rule is))
        | inr isnt ↦ or_left (not policy.restrictive) (holds_on asked (rule_for act policy)) (ap not isnt)
      ]

-- ---- rows that are admitted

module _ (parts : PolicyParts) (role table : ℕ) (asked : RowForUser) (act : Action) where
  among_applying : (policy : Policy) → Contains parts.policies policy → Applies parts.roles role act table policy → Contains (applying parts role act table) policy
  among_applying policy has is = kept_where_it_passes (applies parts.roles role act table) parts.policies policy has (found_where_it_applies parts.roles role act table policy is)

  pub some_permit : (policy : Policy) → Contains parts.policies policy → policy.restrictive ≡ false → Applies parts.roles role act table policy → IsSatisfied act asked policy
      → list_any (permits act asked) (applying parts role act table) ≡ true
  some_permit policy has permissive is satisfied =
      found_at (permits act asked) (applying parts role act table) policy (among_applying policy has is) (permits_by_parts act asked policy permissive satisfied)

  pub permitting_one : list_any (permits act asked) (applying parts role act table) ≡ true
      → (policy : Policy) × Contains parts.policies policy × (policy.restrictive ≡ false) × Applies parts.roles role act table policy × IsSatisfied act asked policy
  permitting_one h =
      let found = Any-from_list_any (permits act asked) (applying parts role act table) h in
      let kept = has_where_kept (applies parts.roles role act table) parts.policies found.1 (found.0, found.2, found.3) in
      let facts = permits_parts act asked found.1 found.4 in
      (found.1, kept.0, facts.0, applies_where_found parts.roles role act table found.1 kept.1, facts.1)

  all_allow : ((policy : Policy) → Contains parts.policies policy → policy.restrictive ≡ true → Applies parts.roles role act table policy → IsSatisfied act asked policy)
      → list_all (allows act asked) (applying parts role act table) ≡ true
  all_allow each = all_pass (allows act asked) (applying parts role act table) one where
    one : (policy : Policy) → Contains (applying parts role act table) policy → allows act asked policy ≡ true
    one policy has =
        let kept = has_where_kept (applies parts.roles role act table) parts.policies policy has in
        allows_by_parts act asked policy (λ restrictive. each policy kept.0 restrictive (applies_where_found parts.roles role act table policy kept.1))

  each_allows : list_all (allows act asked) (applying parts role act table) ≡ true
      → (policy : Policy) → Contains parts.policies policy → policy.restrictive ≡ true → Applies parts.roles role act table policy → IsSatisfied act asked policy
  each_allows h policy has restrictive is =
      let passing = All-contains (λ p. allows act asked p ≡ true) (applying parts role act table) policy (AllPass-from_list_all (allows act asked) (applying parts role act table) h) in
      allows_parts act asked policy (passing (among_applying policy has is)) restrictive

  admitted_where_told : admitted_by parts role table asked act ≡ true → IsAdmitted parts role act table asked
  admitted_where_told h =
      let both = and_parts (list_any (permits act asked) (applying parts role act table)) (list_all (allows act asked) (applying parts role act table)) h in
      let one = permitting_one both.0 in
      record { permitting = one.0; among = one.1; permissive = one.2; applying = one.3; permitted = one.4; unrestricted = each_allows both.1 }

  told_where_admitted : IsAdmitted parts role act table asked → admitted_by parts role table asked act ≡ true
  told_where_admitted is =
      and_from (list_any (permits act asked) (applying parts role act table)) (list_all (allows act asked) (applying parts role act table))
      (some_permit is.permitting is.among is.permissive is.applying is.permitted) (all_allow is.unrestricted)

module _ (parts : PolicyParts) (role table : ℕ) (asked : RowForUser) where
  admits_where_told : (act : Action) → admitted_for parts role act table asked ≡ true → Admits parts role table asked act
  admits_where_told action.Select h = read (admitted_where_told parts role table asked action.Select h)
  admits_where_told action.Insert h = put_in (admitted_where_told parts role table asked action.Insert h)
  admits_where_told action.Delete h =
      let both = and_parts (admitted_by parts role table asked action.Select) (admitted_by parts role table asked action.Delete) h in
      removed (admitted_where_told parts role table asked action.Select both.0) (admitted_where_told parts role table asked action.Delete both.1)

  told_where_it_admits : (act : Action) → Admits parts role table asked act → admitted_for parts role act table asked ≡ true
  told_where_it_admits act (read is) = told_where_admitted parts role table asked action.Select is
  told_where_it_admits act (put_in is) = told_where_admitted parts role table asked action.Insert is
  told_where_it_admits act (removed seen is) =
      and_from (admitted_by parts role table asked action.Select) (admitted_by parts role table asked action.Delete)
      (told_where_admitted parts role table asked action.Select seen) (told_where_admitted parts role table asked action.Delete is)

  pub admitted_itself : (act : Action) → Admits parts role table asked act → IsAdmitted parts role act table asked
  admitted_itself act (read is) = is
  admitted_itself act (put_in is) = is
  admitted_itself act (removed seen is) = is

-- ---- visible rows

abbrev pub asked_by : Role → TablePart → List Scalar → RowForUser
asked_by asking part cells = record { user = asking.name; columns = part.columns; cells = cells }

module _ (parts : PolicyParts) (role : ℕ) (act : Action) (table : ℕ) (cells : List Scalar) where
  seen_by_role : (part : TablePart) → slice_get parts.tables table ≡ Some part → (o : Option Role) → slice_get parts.roles role ≡ o
      → admitted_to parts role act table part.columns cells o ≡ true → IsVisible parts role act table cells
  seen_by_role part is None none h = absurd (cc)
  seen_by_role part is (Some asking) some h =
      elim (cases_Bool asking.bypass) [
        | inl bypasses ↦ bypassing part asking is some bypasses
        | inr doesnt ↦ admitted part asking is some (admits_where_told parts role table (asked_by asking part cells) act (or_other asking.bypass (admitted_for parts role act table (asked_by asking part cells)) doesnt h))
      ]

  seen_in : (o : Option TablePart) → slice_get parts.tables table ≡ o → is_admitted parts role act table cells o ≡ true → IsVisible parts role act table cells
  seen_in None none h = absurd (cc)
  seen_in (Some part) some h =
      elim (cases_Bool part.secured) [
        | inr off ↦ unsecured part some off
        | inl on ↦ seen_by_role part some (slice_get parts.roles role) refl (or_other (not part.secured) (admitted_to parts role act table part.columns cells (slice_get parts.roles role)) (ap not on) h)
      ]

  pub visible_where_told : visible_to parts role act table cells ≡ true → IsVisible parts role act table cells
  unfolding visible_to
  visible_where_told h = seen_in (slice_get parts.tables table) refl h

  told_by_role : (part : TablePart) (asking : Role) → slice_get parts.tables table ≡ Some part → slice_get parts.roles role ≡ Some asking
      → (asking.bypass || admitted_for parts role act table (asked_by asking part cells)) ≡ true → visible_to parts role act table cells ≡ true
  unfolding visible_to
  told_by_role part asking is some h =
      ap (is_admitted parts role act table cells) is
      ∙ or_right (not part.secured) (admitted_to parts role act table part.columns cells (slice_get parts.roles role)) (ap (admitted_to parts role act table part.columns cells) some ∙ h)

  pub told_where_visible : IsVisible parts role act table cells → visible_to parts role act table cells ≡ true
  unfolding visible_to
  told_where_visible (unsecured part is off) =
      ap (is_admitted parts role act table cells) is ∙ or_left (not part.secured) (admitted_to parts role act table part.columns cells (slice_get parts.roles role)) (ap not off)
  told_where_visible (bypassing part asking is some bypasses) =
      told_by_role part asking is some (or_left asking.bypass (admitted_for parts role act table (asked_by asking part cells)) bypasses)
  told_where_visible (admitted part asking is some admits) =
      told_by_role part asking is some
      (or_right asking.bypass (admitted_for parts role act table (asked_by asking part cells)) (told_where_it_admits parts role table (asked_by asking part cells) act admits))

-- ---- what follows for whoever writes policies

module _ (parts : PolicyParts) (role : ℕ) (act : Action) (table : ℕ) (cells : List Scalar) (part : TablePart) (is_part : slice_get parts.tables table ≡ Some part) where
  pub denied_by_default : (asking : Role) → part.secured ≡ true → slice_get parts.roles role ≡ Some asking → asking.bypass ≡ false → LacksPermission parts role act table
      → visible_to parts role act table cells ≡ false
  denied_by_default asking secured some bound lacks = not_true (visible_to parts role act table cells) (λ told. none (visible_where_told parts role act table cells told)) where
    none : IsVisible parts role act table cells → ⊥
    none (unsecured other also off) = let same : other ≡ part = same_Some _ _ (sym also ∙ is_part) in absurd (cc)
    none (bypassing other another also who bypasses) = let same : another ≡ asking = same_Some _ _ (sym who ∙ some) in absurd (cc)
    none (admitted other another also who admits) =
        let is = admitted_itself parts role table (asked_by another other cells) act admits in
        lacks is.permitting is.among is.permissive is.applying

  pub denied_to_strangers : part.secured ≡ true → ((asking : Role) → slice_get parts.roles role ≡ Some asking → ⊥) → visible_to parts role act table cells ≡ false
  denied_to_strangers secured stranger = not_true (visible_to parts role act table cells) (λ told. none (visible_where_told parts role act table cells told)) where
    none : IsVisible parts role act table cells → ⊥
    none (unsecured other also off) = let same : other ≡ part = same_Some _ _ (sym also ∙ is_part) in absurd (cc)
    none (bypassing other another also who bypasses) = stranger another who
    none (admitted other another also who admits) = stranger another who

pub is_denied_by_default : IsDeniedByDefault
is_denied_by_default parts role act table part asking is secured some bound lacks cells = denied_by_default parts role act table cells part is asking secured some bound lacks

pub is_denied_to_strangers : IsDeniedToStrangers
is_denied_to_strangers parts role act table part is secured stranger cells = denied_to_strangers parts role act table cells part is secured stranger

pub is_open_without_security : IsOpenWithoutSecurity
is_open_without_security parts role act table part is off cells = told_where_visible parts role act table cells (unsecured part is off)

pub is_open_to_bypass : IsOpenToBypass
is_open_to_bypass parts role act table part asking is some bypasses cells = told_where_visible parts role act table cells (bypassing part asking is some bypasses)

pub reads_what_it_removes : ReadsWhatItRemoves
reads_what_it_removes parts role table cells told = told_where_visible parts role action.Select table cells (seen (visible_where_told parts role action.Delete table cells told)) where
  seen_too : (asked : RowForUser) (act : Action) → act ≡ action.Delete → Admits parts role table asked act → Admits parts role table asked action.Select
  seen_too asked act is (read admits) = absurd (cc)
  seen_too asked act is (put_in admits) = absurd (cc)
  seen_too asked act is (removed seen admits) = read seen

  seen : IsVisible parts role action.Delete table cells → IsVisible parts role action.Select table cells
  seen (unsecured part is off) = unsecured part is off
  seen (bypassing part asking is some bypasses) = bypassing part asking is some bypasses
  seen (admitted part asking is some admits) = admitted part asking is some (seen_too (asked_by asking part cells) action.Delete refl admits)

-- what some policies admit, others do
module _ (here there : PolicyParts) (role : ℕ) (table : ℕ) (cells : List Scalar) (roles : here.roles ≡ there.roles) (tables : here.tables ≡ there.tables)
    (admit_too : (asked : RowForUser) (act : Action) → IsAdmitted here role act table asked → IsAdmitted there role act table asked) where
  admits_too : (asked : RowForUser) (act : Action) → Admits here role table asked act → Admits there role table asked act
  admits_too asked act (read is) = read (admit_too asked action.Select is)
  admits_too asked act (put_in is) = put_in (admit_too asked action.Insert is)
  admits_too asked act (removed seen is) = removed (admit_too asked action.Select seen) (admit_too asked action.Delete is)

  visible_too : (act : Action) → IsVisible here role act table cells → IsVisible there role act table cells
  visible_too act (unsecured part is off) = unsecured part (ap (λ l. slice_get l table) (sym tables) ∙ is) off
  visible_too act (bypassing part asking is some bypasses) = bypassing part asking (ap (λ l. slice_get l table) (sym tables) ∙ is) (ap (λ l. slice_get l role) (sym roles) ∙ some) bypasses
  visible_too act (admitted part asking is some admits) =
      admitted part asking (ap (λ l. slice_get l table) (sym tables) ∙ is) (ap (λ l. slice_get l role) (sym roles) ∙ some) (admits_too (asked_by asking part cells) act admits)

module _ (fewer more : PolicyParts) (policy : Policy) (one : HasOneMore fewer more policy) where
  had : (p : Policy) → Contains fewer.policies p → Contains more.policies p
  had p has =
      let within : Contains (one.front ++ one.rest) p = subst (λ l. Contains l p) one.without has in
      subst (λ l. Contains l p) (sym one.within) (elim (Contains-append_cases one.front one.rest p within) [
        | inl before ↦ Contains-append_left one.front (policy ∷ one.rest) p before
        | inr after ↦ Contains-append_right one.front (policy ∷ one.rest) p (has_later policy one.rest p after)
      ])

  has_unless : (p : Policy) → (policy ≡ p → ⊥) → Contains more.policies p → Contains fewer.policies p
  has_unless p other has =
      let within : Contains (one.front ++ policy ∷ one.rest) p = subst (λ l. Contains l p) one.within has in
      subst (λ l. Contains l p) (sym one.without) (elim (Contains-append_cases one.front (policy ∷ one.rest) p within) [
        | inl before ↦ Contains-append_left one.front one.rest p before
        | inr after ↦ elim (has_cases policy one.rest p after) [
          | inl same ↦ absurd (other same)
          | inr later ↦ Contains-append_right one.front one.rest p later
        ]
      ])

  applies_to_fewer : (role : ℕ) (act : Action) (table : ℕ) (p : Policy) → Applies more.roles role act table p → Applies fewer.roles role act table p
  applies_to_fewer role act table p = subst (λ roles. Applies roles role act table p) one.roles

  applies_to_more : (role : ℕ) (act : Action) (table : ℕ) (p : Policy) → Applies fewer.roles role act table p → Applies more.roles role act table p
  applies_to_more role act table p = subst (λ roles. Applies roles role act table p) (sym one.roles)

  -- the one more is restrictive, so the permitting one is another
  fewer_admit : policy.restrictive ≡ true → (role : ℕ) (act : Action) (table : ℕ) (asked : RowForUser) → IsAdmitted more role act table asked → IsAdmitted fewer role act table asked
  fewer_admit restrictive role act table asked is =
      let permissive = is.permissive in
      record {
        permitting = is.permitting;
        among = has_unless is.permitting (λ same. let too : is.permitting.restrictive ≡ true = subst (λ (p : Policy). p.restrictive ≡ true) same restrictive in absurd (cc)) is.among;
        permissive = is.permissive;
        applying = applies_to_fewer role act table is.permitting is.applying;
        permitted = is.permitted;
        unrestricted = λ p has bound applying. is.unrestricted p (had p has) bound (applies_to_more role act table p applying);
      }

  more_admit : policy.restrictive ≡ false → (role : ℕ) (act : Action) (table : ℕ) (asked : RowForUser) → IsAdmitted fewer role act table asked → IsAdmitted more role act table asked
  more_admit permissive role act table asked is = record {
    permitting = is.permitting;
    among = had is.permitting is.among;
    permissive = is.permissive;
    applying = applies_to_more role act table is.permitting is.applying;
    permitted = is.permitted;
    unrestricted = λ p has bound applying. is.unrestricted p (has_unless p (λ same. let too : p.restrictive ≡ false = subst (λ (q : Policy). q.restrictive ≡ false) same permissive in absurd (cc)) has) bound (applies_to_fewer role act table p applying);
  }

pub narrows_by_restriction : NarrowsByRestriction
narrows_by_restriction fewer more policy one restrictive role act table cells told =
    told_where_visible fewer role act table cells
    (visible_too more fewer role table cells one.roles one.tables (λ asked a. fewer_admit fewer more policy one restrictive role a table asked) act (visible_where_told more role act table cells told))

pub widens_by_permission : WidensByPermission
widens_by_permission fewer more policy one permissive role act table cells told =
    told_where_visible more role act table cells
    (visible_too fewer more role table cells (sym one.roles) (sym one.tables) (λ asked a. more_admit fewer more policy one permissive role a table asked) act (visible_where_told fewer role act table cells told))
