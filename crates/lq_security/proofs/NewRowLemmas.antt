-- Proofs of the laws of new rows: where they are accepted, and under which name they are refused.
use Rattle.std.proofs.Common.{◌≡◌, ◌↔◌, ◌&&◌, ◌||◌, if◌then◌else◌, ◌∷◌, ◌++◌, not, List, [], ℕ, Bool, true, false, Option, Some, None, codes, filter, slice_get, ap, ◌∙◌, sym, refl, subst, inl, inr}
use Rattle.std.specs.List.{Contains, list_any, list_all}
use Rattle.std.proofs.lemmas.Option.{none-some, same_Some}
use Rattle.lq_value.specs.declared.scalar.Scalar.{Scalar}
use Rattle.lq_security.proofs.MembershipLaws.{has_cases, has_first, has_later, none_in_nil}
use Rattle.lq_security.proofs.PolicyLemmas.{allows_by_parts, allows_parts, applies_where_found, asked_by, found_where_it_applies, not_true, permitting_one, some_permit, told_where_visible, visible_where_told}
use Rattle.lq_security.proofs.DecidedPolicies.{IsFirstRefusing, IsRefusedBy, IsVisible, default, restriction}
use Rattle.lq_security.specs.Visible.{RowForUser, admit, allows, applies, applying, first_refusing, is_admitted, permits, admitted_to, refuser_among, refuser_for, refuser_in, refuser_of, visible_to}
use Rattle.lq_security.specs.declared.policy.Action.TheVariants as action
use Rattle.lq_security.specs.declared.policy.Policy.{Policy}
use Rattle.lq_security.specs.declared.policy.PolicyParts.{PolicyParts}
use Rattle.lq_security.specs.declared.policy.Role.{Role}
use Rattle.lq_security.specs.declared.policy.TablePart.{TablePart}

-- ---- rows that are accepted

abbrev no_refuser : Option (List ℕ) → Bool
no_refuser None = true
no_refuser (Some name) = false

none_where_no_refuser : (o : Option (List ℕ)) → no_refuser o ≡ true → o ≡ None
none_where_no_refuser None h = refl
none_where_no_refuser (Some name) h = absurd (cc)

-- all policies allow the row where none refuses it first
all_where_none_refuses : (asked : RowForUser) (policies : List Policy) → list_all (allows action.Insert asked) policies ≡ no_refuser (first_refusing asked policies)
all_where_none_refuses asked [] = refl
all_where_none_refuses asked (policy ∷ policies) = by (allows action.Insert asked policy) (all_where_none_refuses asked policies) where
  by : (b : Bool) → list_all (allows action.Insert asked) policies ≡ no_refuser (first_refusing asked policies)
      → (b && list_all (allows action.Insert asked) policies) ≡ no_refuser (if b then first_refusing asked policies else Some policy.name)
  by true rest = rest
  by false rest = refl

admitted_where_none_refuses : (policies : List Policy) (asked : RowForUser) → admit action.Insert policies asked ≡ no_refuser (refuser_among policies asked)
admitted_where_none_refuses policies asked = by (list_any (permits action.Insert asked) policies) where
  by : (b : Bool) → (b && list_all (allows action.Insert asked) policies) ≡ no_refuser (if b then first_refusing asked policies else Some (codes "default-deny"))
  by true = all_where_none_refuses asked policies
  by false = refl

module _ (parts : PolicyParts) (role table : ℕ) (cells : List Scalar) where
  open_to_role : (part : TablePart) (o : Option Role) → admitted_to parts role action.Insert table part.columns cells o ≡ no_refuser (refuser_for parts role table part.columns cells o)
  open_to_role part None = refl
  open_to_role part (Some asking) = by asking.bypass where
    by : (b : Bool) → (b || admit action.Insert (applying parts role action.Insert table) (asked_by asking part cells))
        ≡ no_refuser (if b then None else refuser_among (applying parts role action.Insert table) (asked_by asking part cells))
    by true = refl
    by false = admitted_where_none_refuses (applying parts role action.Insert table) (asked_by asking part cells)

  open_in : (o : Option TablePart) → is_admitted parts role action.Insert table cells o ≡ no_refuser (refuser_in parts role table cells o)
  open_in None = refl
  open_in (Some part) = by part.secured where
    by : (b : Bool) → (not b || admitted_to parts role action.Insert table part.columns cells (slice_get parts.roles role))
        ≡ no_refuser (if b then refuser_for parts role table part.columns cells (slice_get parts.roles role) else None)
    by false = refl
    by true = open_to_role part (slice_get parts.roles role)

  open_where_none_refuses : visible_to parts role action.Insert table cells ≡ no_refuser (refuser_of parts role table cells)
  unfolding visible_to refuser_of
  open_where_none_refuses = open_in (slice_get parts.tables table)

  accepted_where_none : (o : Option (List ℕ)) → refuser_of parts role table cells ≡ o → o ≡ None → visible_to parts role action.Insert table cells ≡ true
  accepted_where_none o is none = open_where_none_refuses ∙ ap no_refuser (is ∙ none)

pub accepts_decided : (parts : PolicyParts) (role table : ℕ) (cells : List Scalar)
    → (refuser_of parts role table cells ≡ None) ↔ IsVisible parts role action.Insert table cells
accepts_decided parts role table cells = (
  λ none. visible_where_told parts role action.Insert table cells (accepted_where_none parts role table cells (refuser_of parts role table cells) refl none),
  λ visible. none_where_no_refuser (refuser_of parts role table cells) (sym (open_where_none_refuses parts role table cells) ∙ told_where_visible parts role action.Insert table cells visible),
)

-- ---- the first that refuses

module _ (asked : RowForUser) (test : Policy → Bool) where
  -- the first policy that passes the test and doesn't allow the row
  abbrev IsFirst : List Policy → Policy → List Policy → Type 0
  IsFirst front refusing rest = (test refusing ≡ true) × (allows action.Insert asked refusing ≡ false) × ((policy : Policy) → Contains front policy → test policy ≡ true → allows action.Insert asked policy ≡ true)

  abbrev Found : List Policy → List ℕ → Type 0
  Found policies name = (front : List Policy) × (refusing : Policy) × (rest : List Policy) × (policies ≡ front ++ refusing ∷ rest) × (refusing.name ≡ name) × IsFirst front refusing rest

  found_later : (policy : Policy) (policies : List Policy) (name : List ℕ) → (test policy ≡ true → allows action.Insert asked policy ≡ true) → Found policies name → Found (policy ∷ policies) name
  found_later policy policies name passes found = (policy ∷ found.0, found.1, found.2, ap (λ l. policy ∷ l) found.3, found.4, (found.5.0, found.5.1, each)) where
    each : (p : Policy) → Contains (policy ∷ found.0) p → test p ≡ true → allows action.Insert asked p ≡ true
    each p has =
        elim (has_cases policy found.0 p has) [
          | inl same ↦ subst (λ q. test q ≡ true → allows action.Insert asked q ≡ true) same passes
          | inr later ↦ found.5.2 p later
        ]

  found_first : (policies : List Policy) (name : List ℕ) → first_refusing asked (filter test policies) ≡ Some name → Found policies name
  found_first [] name h = absurd (none-some name h)
  found_first (policy ∷ policies) name h = by (test policy) refl (found_first policies name) h where
    of_own : test policy ≡ true → (b : Bool) → allows action.Insert asked policy ≡ b → (first_refusing asked (filter test policies) ≡ Some name → Found policies name)
        → (if b then first_refusing asked (filter test policies) else Some policy.name) ≡ Some name → Found (policy ∷ policies) name
    of_own is true allowed rest here = found_later policy policies name (λ tested. allowed) (rest here)
    of_own is false refused rest here = ([], policy, policies, refl, same_Some _ _ here, (is, refused, λ p has. absurd (none_in_nil p has)))

    by : (b : Bool) → test policy ≡ b → (first_refusing asked (filter test policies) ≡ Some name → Found policies name)
        → first_refusing asked (if b then policy ∷ filter test policies else filter test policies) ≡ Some name → Found (policy ∷ policies) name
    by true is rest here = of_own is (allows action.Insert asked policy) refl rest here
    by false isnt rest here = found_later policy policies name (λ is. absurd (cc)) (rest here)

  first_found : (front : List Policy) (refusing : Policy) (rest : List Policy) → IsFirst front refusing rest → first_refusing asked (filter test (front ++ refusing ∷ rest)) ≡ Some refusing.name
  first_found [] refusing rest is =
      ap (λ b. first_refusing asked (if b then refusing ∷ filter test rest else filter test rest)) is.0 ∙ ap (λ b. if b then first_refusing asked (filter test rest) else Some refusing.name) is.1
  first_found (policy ∷ front) refusing rest is = by (test policy) refl (first_found front refusing rest (is.0, is.1, λ p has. is.2 p (has_later policy front p has))) where
    by : (b : Bool) → test policy ≡ b → first_refusing asked (filter test (front ++ refusing ∷ rest)) ≡ Some refusing.name
        → first_refusing asked (if b then policy ∷ filter test (front ++ refusing ∷ rest) else filter test (front ++ refusing ∷ rest)) ≡ Some refusing.name
    by true tested later = ap (λ b. if b then first_refusing asked (filter test (front ++ refusing ∷ rest)) else Some policy.name) (is.2 policy (has_first policy front) tested) ∙ later
    by false untested later = later

-- ---- the name of the rule that refuses

-- what a policy is that doesn't allow the row
not_allowed : (b : Bool) (holds : Bool) → (not b || holds) ≡ false → b ≡ true
not_allowed true holds h = refl
not_allowed false holds h = absurd (cc)

module _ (parts : PolicyParts) (role table : ℕ) (asked : RowForUser) where
  abbrev bears : Policy → Bool
  bears = applies parts.roles role action.Insert table

  refused_by_first : (name : List ℕ) (permitted : list_any (permits action.Insert asked) (applying parts role action.Insert table) ≡ true) → Found asked bears parts.policies name
      → IsRefusedBy parts role table asked name
  refused_by_first name permitted found =
      let one = permitting_one parts role table asked action.Insert permitted in
      subst (IsRefusedBy parts role table asked) found.4 (restriction one.0 one.1 one.2 one.3 one.4 found.1 is_first) where
        is_first : IsFirstRefusing parts role table asked found.1
        is_first = record {
          front = found.0;
          rest = found.2;
          split = found.3;
          restrictive = not_allowed found.1.restrictive _ found.5.1;
          applying = applies_where_found parts.roles role action.Insert table found.1 found.5.0;
          unsatisfied = λ satisfied. let allowed : allows action.Insert asked found.1 ≡ true = allows_by_parts action.Insert asked found.1 (λ restrictive. satisfied) in absurd (cc);
          first = λ policy has restrictive bearing. allows_parts action.Insert asked policy (found.5.2 policy has (found_where_it_applies parts.roles role action.Insert table policy bearing)) restrictive;
        }

  refused_where_told : (name : List ℕ) → refuser_among (applying parts role action.Insert table) asked ≡ Some name → IsRefusedBy parts role table asked name
  refused_where_told name h = by (list_any (permits action.Insert asked) (applying parts role action.Insert table)) refl h where
    by : (b : Bool) → list_any (permits action.Insert asked) (applying parts role action.Insert table) ≡ b
        → (if b then first_refusing asked (applying parts role action.Insert table) else Some (codes "default-deny")) ≡ Some name → IsRefusedBy parts role table asked name
    by true permitted here = refused_by_first name permitted (found_first asked bears parts.policies name here)
    by false unpermitted here =
        subst (IsRefusedBy parts role table asked) (same_Some _ _ here)
        (default (λ policy has permissive bearing satisfied.
        let permitted : list_any (permits action.Insert asked) (applying parts role action.Insert table) ≡ true = some_permit parts role table asked action.Insert policy has permissive bearing satisfied in
        absurd (cc)))

  told_where_refused : (name : List ℕ) → IsRefusedBy parts role table asked name → refuser_among (applying parts role action.Insert table) asked ≡ Some name
  told_where_refused name (default unpermitted) =
      ap (λ b. if b then first_refusing asked (applying parts role action.Insert table) else Some (codes "default-deny"))
      (not_true (list_any (permits action.Insert asked) (applying parts role action.Insert table)) (λ permitted.
      let one = permitting_one parts role table asked action.Insert permitted in unpermitted one.0 one.1 one.2 one.3 one.4))
  told_where_refused name (restriction permitting has permissive bearing satisfied refusing is) =
      ap (λ b. if b then first_refusing asked (applying parts role action.Insert table) else Some (codes "default-deny")) (some_permit parts role table asked action.Insert permitting has permissive bearing satisfied)
      ∙ ap (λ l. first_refusing asked (filter bears l)) is.split
      ∙ first_found asked bears is.front refusing is.rest (
        found_where_it_applies parts.roles role action.Insert table refusing is.applying,
        not_true (allows action.Insert asked refusing) (λ allowed. is.unsatisfied (allows_parts action.Insert asked refusing allowed is.restrictive)),
        λ policy within bears_too. allows_by_parts action.Insert asked policy (λ restrictive. is.first policy within restrictive (applies_where_found parts.roles role action.Insert table policy bears_too)),
      )

pub tells_decided : (parts : PolicyParts) (role table : ℕ) (part : TablePart) (asking : Role) → slice_get parts.tables table ≡ Some part → part.secured ≡ true
    → slice_get parts.roles role ≡ Some asking → asking.bypass ≡ false → (cells : List Scalar) (name : List ℕ)
    → (refuser_of parts role table cells ≡ Some name) ↔ IsRefusedBy parts role table (asked_by asking part cells) name
unfolding refuser_of
tells_decided parts role table part asking is secured some bound cells name = (λ h. refused_where_told parts role table asked name (sym same ∙ h), λ refused. same ∙ told_where_refused parts role table asked name refused) where
  asked : RowForUser
  asked = asked_by asking part cells

  same : refuser_of parts role table cells ≡ refuser_among (applying parts role action.Insert table) asked
  same =
      ap (refuser_in parts role table cells) is
      ∙ ap (λ b. if b then refuser_for parts role table part.columns cells (slice_get parts.roles role) else None) secured
      ∙ ap (refuser_for parts role table part.columns cells) some
      ∙ ap (λ b. if b then None else refuser_among (applying parts role action.Insert table) asked) bound
