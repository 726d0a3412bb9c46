-- Proofs of the laws of denials: the name under which a use is denied, and the first use that is.
use Rattle.std.proofs.Common.{◌≡◌, ◌∷◌, ◌++◌, ◌⊎◌, if◌then◌else◌, List, [], ℕ, Bool, true, false, Option, Some, None, codes, ap, ◌∙◌, sym, refl, subst, inl, inr, true≢false}
use Rattle.std.specs.List.{Contains, list_any}
use Rattle.std.proofs.lemmas.Bool.{and_from, and_parts}
use Rattle.std.proofs.lemmas.Bool.Decides.{Decides-eqb}
use Rattle.std.proofs.lemmas.Option.{none-some, same_Some}
use Rattle.lq_security.proofs.MembershipLaws.{has_cases, has_first, has_later, none_in_nil}
use Rattle.lq_security.proofs.PolicyLemmas.{found_at, found_where_listed, listed_where_found, not_true}
use Rattle.lq_security.proofs.RightLaws.{bearing_given, bearing_told, is_column, passing, use_given, use_told}
use Rattle.lq_security.specs.DenialLaws.{Concerns, of_column, of_insertion, of_predicate, of_removal, of_table, IsDeniedUnder, ungranted, withheld, IsFirstDenied, DeniesFirst, NamesDenier}
use Rattle.lq_security.specs.Rights.{Denied, MayUse, concerns, denial, denied_or, denier_of, first_concerning, is_column_of, may_use}
use Rattle.lq_security.specs.Visible.{is_listed}
use Rattle.lq_security.specs.declared.policy.PolicyParts.{PolicyParts}
use Rattle.lq_security.specs.declared.policy.Role.{Role}
use Rattle.lq_language.specs.declared.rights.RightRule.{RightRule}
use Rattle.lq_language.specs.declared.rights.Use.{Use}
use Rattle.lq_language.specs.declared.rights.Use.TheVariants as of

-- ---- rules

module _ (roles : List Role) (role : ℕ) where
  concerning_told : (used : Use) (rule : RightRule) → concerns roles role used rule ≡ true → Concerns roles role rule used
  concerning_told (of.Column t c) rule h = of_column t c (bearing_told roles role (of.Column t c) rule h)
  concerning_told (of.Insert t) rule h = of_insertion t (bearing_told roles role (of.Insert t) rule h)
  concerning_told (of.Delete t) rule h = of_removal t (bearing_told roles role (of.Delete t) rule h)
  concerning_told (of.Host p) rule h = of_predicate p (bearing_told roles role (of.Host p) rule h)
  concerning_told (of.Table t) rule h =
      let both = and_parts (is_listed roles role rule.to) (list_any (is_column_of t) rule.rights) h in
      let right = passing (is_column_of t) rule.rights both.1 in
      let named = is_column t right.0 right.2 in
      of_table t named.0 (record {
        to_role = listed_where_found roles role rule.to both.0;
        covering = subst (λ (u : Use). Contains rule.rights u) (sym named.1) right.1;
      })

  concerning_given : (used : Use) (rule : RightRule) → Concerns roles role rule used → concerns roles role used rule ≡ true
  concerning_given used rule (of_column t c bears) = bearing_given roles role (of.Column t c) rule bears
  concerning_given used rule (of_insertion t bears) = bearing_given roles role (of.Insert t) rule bears
  concerning_given used rule (of_removal t bears) = bearing_given roles role (of.Delete t) rule bears
  concerning_given used rule (of_predicate p bears) = bearing_given roles role (of.Host p) rule bears
  concerning_given used rule (of_table t c bears) =
      and_from (is_listed roles role rule.to) (list_any (is_column_of t) rule.rights) (found_where_listed roles role rule.to bears.to_role)
      (found_at (is_column_of t) rule.rights (of.Column t c) bears.covering ((Decides-eqb t t).1 refl))

  -- ---- the first that concerns a use

  module _ (used : Use) where
    abbrev IsFree : List RightRule → Type 0
    IsFree rules = (rule : RightRule) → Contains rules rule → Concerns roles role rule used → ⊥

    abbrev IsFirst : List RightRule → List ℕ → Type 0
    IsFirst rules name =
        (front : List RightRule) × (rule : RightRule) × (rest : List RightRule) × (rules ≡ front ++ rule ∷ rest) × (rule.name ≡ name)
        × Concerns roles role rule used × IsFree front

    free_still : (rule : RightRule) (rules : List RightRule) → concerns roles role used rule ≡ false → IsFree rules → IsFree (rule ∷ rules)
    free_still rule rules isnt free other has concerning =
        elim (has_cases rule rules other has) [
          | inl same ↦ true≢false (sym (concerning_given used rule (subst (λ (r : RightRule). Concerns roles role r used) (sym same) concerning)) ∙ isnt)
          | inr later ↦ free other later concerning
        ]

    later_too : (rule : RightRule) (rules : List RightRule) (name : List ℕ) → concerns roles role used rule ≡ false
        → IsFirst rules name ⊎ (IsFree rules × (codes "no-grant" ≡ name)) → IsFirst (rule ∷ rules) name ⊎ (IsFree (rule ∷ rules) × (codes "no-grant" ≡ name))
    later_too rule rules name isnt (inl found) =
        inl (rule ∷ found.0, found.1, found.2, ap (λ (l : List RightRule). rule ∷ l) found.3, found.4, found.5, free_still rule found.0 isnt found.6)
    later_too rule rules name isnt (inr none) = inr (free_still rule rules isnt none.0, none.1)

    first_told : (rules : List RightRule) (name : List ℕ) → first_concerning roles role used rules ≡ name → IsFirst rules name ⊎ (IsFree rules × (codes "no-grant" ≡ name))
    first_told [] name h = inr (λ rule has concerning. none_in_nil rule has, h)
    first_told (rule ∷ rules) name h = by (concerns roles role used rule) refl (first_told rules name) h where
      by : (b : Bool) → concerns roles role used rule ≡ b
          → (first_concerning roles role used rules ≡ name → IsFirst rules name ⊎ (IsFree rules × (codes "no-grant" ≡ name)))
          → (if b then rule.name else first_concerning roles role used rules) ≡ name → IsFirst (rule ∷ rules) name ⊎ (IsFree (rule ∷ rules) × (codes "no-grant" ≡ name))
      by true is rest here = inl ([], rule, rules, refl, here, concerning_told used rule is, λ other has concerning. none_in_nil other has)
      by false isnt rest here = later_too rule rules name isnt (rest here)

    not_concerning : (rule : RightRule) → (Concerns roles role rule used → ⊥) → concerns roles role used rule ≡ false
    not_concerning rule free = not_true (concerns roles role used rule) (λ is. free (concerning_told used rule is))

    first_given : (front : List RightRule) (rule : RightRule) (rest : List RightRule) → Concerns roles role rule used → IsFree front
        → first_concerning roles role used (front ++ rule ∷ rest) ≡ rule.name
    first_given [] rule rest concerning free =
        ap (λ (b : Bool). if b then rule.name else first_concerning roles role used rest) (concerning_given used rule concerning)
    first_given (other ∷ front) rule rest concerning free =
        ap (λ (b : Bool). if b then other.name else first_concerning roles role used (front ++ rule ∷ rest)) (not_concerning other (free other (has_first other front)))
        ∙ first_given front rule rest concerning (λ earlier has. free earlier (has_later other front earlier has))

    none_given : (rules : List RightRule) → IsFree rules → first_concerning roles role used rules ≡ codes "no-grant"
    none_given [] free = refl
    none_given (rule ∷ rules) free =
        ap (λ (b : Bool). if b then rule.name else first_concerning roles role used rules) (not_concerning rule (free rule (has_first rule rules)))
        ∙ none_given rules (λ other has. free other (has_later rule rules other has))

-- ---- the name under which a use is denied

module _ (parts : PolicyParts) (role : ℕ) where
  under_told : (used : Use) (name : List ℕ) → first_concerning parts.roles role used parts.withholds ≡ name → IsDeniedUnder parts role used name
  under_told used name h = by (first_told parts.roles role used parts.withholds name h) where
    by : IsFirst parts.roles role used parts.withholds name ⊎ (IsFree parts.roles role used parts.withholds × (codes "no-grant" ≡ name)) → IsDeniedUnder parts role used name
    by (inl found) =
        subst (IsDeniedUnder parts role used) found.4
        (withheld found.1 (record { front = found.0; rest = found.2; split = found.3; concerning = found.5; first = found.6 }))
    by (inr none) = subst (IsDeniedUnder parts role used) none.1 (ungranted none.0)

  under_given : (used : Use) (name : List ℕ) → IsDeniedUnder parts role used name → first_concerning parts.roles role used parts.withholds ≡ name
  under_given used name (withheld rule is) =
      ap (first_concerning parts.roles role used) is.split ∙ first_given parts.roles role used is.front rule is.rest is.concerning is.first
  under_given used name (ungranted free) = none_given parts.roles role used parts.withholds free

  -- where the role may use it, nothing denies it
  undenied : (used : Use) → MayUse parts role used → denier_of parts role used ≡ None
  unfolding denier_of
  undenied used may = ap (λ (b : Bool). if b then None else Some (first_concerning parts.roles role used parts.withholds)) (use_given parts role used may)

  denier_told : (used : Use) (name : List ℕ) → denier_of parts role used ≡ Some name → (MayUse parts role used → ⊥) × IsDeniedUnder parts role used name
  unfolding denier_of
  denier_told used name h = (λ may. none-some name (sym (undenied used may) ∙ h), by (may_use parts role used) h) where
    by : (b : Bool) → (if b then None else Some (first_concerning parts.roles role used parts.withholds)) ≡ Some name → IsDeniedUnder parts role used name
    by true here = absurd (none-some name here)
    by false here = under_told used name (same_Some _ _ here)

  denier_given : (used : Use) (name : List ℕ) → (MayUse parts role used → ⊥) → IsDeniedUnder parts role used name → denier_of parts role used ≡ Some name
  unfolding denier_of
  denier_given used name may_not under =
      ap (λ (b : Bool). if b then None else Some (first_concerning parts.roles role used parts.withholds))
      (not_true (may_use parts role used) (λ may. may_not (use_told parts role used may)))
      ∙ ap Some (under_given used name under)

pub names_denier : NamesDenier
names_denier parts role used name = (denier_told parts role used name, λ both. denier_given parts role used name both.0 both.1)

-- ---- the first use that is denied

module _ (parts : PolicyParts) (role : ℕ) where
  first_denied_here : (used : Use) (uses : List Use) (name : List ℕ) (denied : Denied) → denier_of parts role used ≡ Some name
      → Some (record { used = used; rule = name }) ≡ Some denied → IsFirstDenied parts role (used ∷ uses) denied
  first_denied_here used uses name denied is h =
      let told = denier_told parts role used name is in
      subst (IsFirstDenied parts role (used ∷ uses)) (same_Some _ _ h)
      (record { front = []; rest = uses; split = refl; allowed = λ other has. absurd (none_in_nil other has); unallowed = told.0; under = told.1 })

  first_denied_later : (used : Use) (uses : List Use) (denied : Denied) → MayUse parts role used → IsFirstDenied parts role uses denied
      → IsFirstDenied parts role (used ∷ uses) denied
  first_denied_later used uses denied may is = record {
    front = used ∷ is.front;
    rest = is.rest;
    split = ap (λ (l : List Use). used ∷ l) is.split;
    allowed = λ other has. elim (has_cases used is.front other has) [
      | inl same ↦ subst (MayUse parts role) same may
      | inr later ↦ is.allowed other later
    ];
    unallowed = is.unallowed;
    under = is.under;
  }

  -- what isn't denied the role may use
  may_where_undenied : (used : Use) → denier_of parts role used ≡ None → MayUse parts role used
  unfolding denier_of
  may_where_undenied used h = use_told parts role used (by (may_use parts role used) h) where
    by : (b : Bool) → (if b then None else Some (first_concerning parts.roles role used parts.withholds)) ≡ None → b ≡ true
    by true here = refl
    by false here = absurd (none-some _ (sym here))

  denied_told : (uses : List Use) (denied : Denied) → denial parts role uses ≡ Some denied → IsFirstDenied parts role uses denied
  unfolding denial
  denied_told [] denied h = absurd (none-some denied h)
  denied_told (used ∷ uses) denied h = by (denier_of parts role used) refl (denied_told uses denied) h where
    by : (o : Option (List ℕ)) → denier_of parts role used ≡ o → (denial parts role uses ≡ Some denied → IsFirstDenied parts role uses denied)
        → denied_or used o (denial parts role uses) ≡ Some denied → IsFirstDenied parts role (used ∷ uses) denied
    by None is rest here = first_denied_later used uses denied (may_where_undenied used is) (rest here)
    by (Some name) is rest here = first_denied_here used uses name denied is here

  denied_given : (front : List Use) (denied : Denied) (rest : List Use) → ((used : Use) → Contains front used → MayUse parts role used)
      → denier_of parts role denied.used ≡ Some denied.rule → denial parts role (front ++ denied.used ∷ rest) ≡ Some denied
  unfolding denial
  denied_given [] denied rest allowed is = ap (λ (o : Option (List ℕ)). denied_or denied.used o (denial parts role rest)) is
  denied_given (used ∷ front) denied rest allowed is =
      ap (λ (o : Option (List ℕ)). denied_or used o (denial parts role (front ++ denied.used ∷ rest))) (undenied parts role used (allowed used (has_first used front)))
      ∙ denied_given front denied rest (λ other has. allowed other (has_later used front other has)) is

pub denies_first : DeniesFirst
denies_first parts role uses denied = (
  denied_told parts role uses denied,
  λ is. ap (denial parts role) is.split
      ∙ denied_given parts role is.front denied is.rest is.allowed (denier_given parts role denied.used denied.rule is.unallowed is.under),
)
