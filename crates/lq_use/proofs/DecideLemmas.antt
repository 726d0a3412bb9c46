-- Uses that are decided one by one: those so far are allowed.
use Rattle.std.proofs.Common.{◌≡◌, ◌∷◌, ◌+◌, ◌<◌, ◌≤◌, if◌then◌else◌, List, [], ℕ, suc, zero, Bool, true, false, Option, Some, None, drop, drop-cons, length, option_map, slice_get, slice_index_or, ap, ◌∙◌, sym, refl, subst, inl, inr, arith}
use Rattle.std.proofs.lemmas.Bool.{cases_lt}
use Rattle.std.proofs.lemmas.Option.{get_or_from_slice_get, none-some, slice_get_within}
use Rattle.std.specs.Borrow.{Bor}
use Rattle.lq_security.specs.Rights.{denial, denied_or, denier_of, first_concerning, may_use}
use Rattle.lq_security.specs.declared.policy.PolicyParts.{PolicyParts}
use Rattle.lq_language.specs.declared.rights.Use.{Use}
use Rattle.lq_use.specs.Decisions.{AreAllowedBefore}

module _ (parts : PolicyParts) (role : ℕ) where
  -- what has no denier may be used
  pub undenied : (used : Use) → denier_of parts role used ≡ None → may_use parts role used ≡ true
  unfolding denier_of
  undenied used h = by (may_use parts role used) h where
    by : (b : Bool) → (if b then None else Some (first_concerning parts.roles role used parts.withholds)) ≡ None → b ≡ true
    by true is = refl
    by false is = absurd (none-some _ (sym is))

  allowed_first : (used : Use) (rest : List Use) → may_use parts role used ≡ true → denial parts role (used ∷ rest) ≡ denial parts role rest
  unfolding denial denier_of
  allowed_first used rest h =
      ap (λ (b : Bool). denied_or used (if b then None else Some (first_concerning parts.roles role used parts.withholds)) (denial parts role rest)) h

  denied_first : (used : Use) (rest : List Use) (rule : List ℕ) → denier_of parts role used ≡ Some rule
      → denial parts role (used ∷ rest) ≡ Some (record { used = used; rule = rule })
  unfolding denial
  denied_first used rest rule h = ap (λ (o : Option (List ℕ)). denied_or used o (denial parts role rest)) h

  next_use : (uses : List Use) (place : ℕ) (used : Use) → slice_get uses place ≡ Some used → drop place uses ≡ used ∷ drop (place + 1) uses
  next_use uses place used h =
      let within : place < length uses = slice_get_within uses place used h in
      let after : suc place ≡ place + 1 = omega arith in
      drop-cons uses place used within ∙ (λ i. get_or_from_slice_get uses place used used h i ∷ drop (after i) uses)

  drop_past : (uses : List Use) (place : ℕ) → length uses ≤ place → drop place uses ≡ []
  drop_past [] zero past = refl
  drop_past [] (suc place) past = refl
  drop_past (u ∷ uses) zero past = absurd (omega (arith, past))
  drop_past (u ∷ uses) (suc place) past = let rest : length uses ≤ place = omega (arith, past) in drop_past uses place rest

  nothing_denied : denial parts role [] ≡ None
  unfolding denial
  nothing_denied = refl

  -- the uses from a place on decide as all of them do, and those before it are allowed
  pub record AreAllowed (uses : List Use) (place : ℕ) : Type 0 where
    pub left : denial parts role (drop place uses) ≡ denial parts role uses
    pub before : AreAllowedBefore parts role uses place

  pub none_yet : (uses : List Use) → AreAllowed uses 0
  none_yet uses = record { left = refl; before = λ earlier other within at. absurd (omega (arith, within)) }

  pub one_more : (uses : List Use) (place : ℕ) (used : Use) → slice_get uses place ≡ Some used → AreAllowed uses place
      → may_use parts role used ≡ true → AreAllowed uses (place + 1)
  one_more uses place used at so_far may = record {
    left = sym (allowed_first used (drop (place + 1) uses) may) ∙ ap (denial parts role) (sym (next_use uses place used at)) ∙ so_far.left;
    before = λ earlier other within there.
        elim (cases_lt earlier place) [
          | inl before ↦ so_far.before earlier other before there
          | inr past ↦
              let here : place ≡ earlier = omega (arith, within, past) in
              let same : Some used ≡ Some other = sym at ∙ ap (slice_get uses) here ∙ there in
              let it : used ≡ other = cc in
              subst (λ (u : Use). may_use parts role u ≡ true) it may
        ];
  }

  pub first_denied : (uses : List Use) (place : ℕ) (used : Use) (rule : List ℕ) → slice_get uses place ≡ Some used
      → AreAllowed uses place → denier_of parts role used ≡ Some rule → denial parts role uses ≡ Some (record { used = used; rule = rule })
  first_denied uses place used rule at so_far denied =
      sym so_far.left ∙ ap (denial parts role) (next_use uses place used at) ∙ denied_first used (drop (place + 1) uses) rule denied

  -- no use is left after the last
  pub no_more : (uses : List Use) (place : ℕ) → length uses ≤ place → AreAllowed uses place → denial parts role uses ≡ None
  no_more uses place past so_far = sym so_far.left ∙ ap (denial parts role) (drop_past uses place past) ∙ nothing_denied

-- the use at a place
pub found : (uses : List Use) (place : ℕ) (other : Use) → place < length uses → slice_get uses place ≡ Some (slice_index_or uses place other)
found [] place other within = absurd (omega (arith, within))
found (u ∷ uses) zero other within = refl
found (u ∷ uses) (suc place) other within = let later : place < length uses = omega (arith, within) in found uses place other later

-- a denier that is given, and one that isn't
pub denied_by : (told : Option (Bor (List ℕ))) (rule : Bor (List ℕ)) (meant : Option (List ℕ)) → told ≡ Some rule → option_map (λ r. r.now) told ≡ meant
    → meant ≡ Some rule.now
denied_by told rule meant is same = sym same ∙ ap (option_map (λ r. r.now)) is

pub unlisted : (parts : PolicyParts) (role : ℕ) (used : Use) (told : Option (Bor (List ℕ))) → told ≡ None → option_map (λ r. r.now) told ≡ denier_of parts role used
    → may_use parts role used ≡ true
unlisted parts role used told is same = undenied parts role used (sym same ∙ ap (option_map (λ r. r.now)) is)
