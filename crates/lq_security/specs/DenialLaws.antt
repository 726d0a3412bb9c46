-- Laws of denials: under which rule's name a role is refused what it may not use, and which use of
-- a statement that is.
use Rattle.std.specs.Prelude.{◌≡◌, ◌↔◌, ◌∷◌, ◌++◌, List, ℕ, Some, codes}
use Rattle.std.specs.List.{Contains}
use Rattle.lq_security.specs.Rights.{BearsOn, Denied, MayUse, denial, denier_of}
use Rattle.lq_security.specs.declared.policy.PolicyParts.{PolicyParts}
use Rattle.lq_security.specs.declared.policy.Role.{Role}
use Rattle.lq_language.specs.declared.rights.RightRule.{RightRule}
use Rattle.lq_language.specs.declared.rights.Use.{Use}
use Rattle.lq_language.specs.declared.rights.Use.TheVariants as of

module _ (roles : List Role) (role : ℕ) (rule : RightRule) where
  -- A rule concerns a use that it bears on, and the use of a table where it bears on a column of it.
  pub data Concerns : Use → Type 0 where
    of_column : (t c : ℕ) → BearsOn roles role (of.Column t c) rule → Concerns (of.Column t c)
    of_insertion : (t : ℕ) → BearsOn roles role (of.Insert t) rule → Concerns (of.Insert t)
    of_removal : (t : ℕ) → BearsOn roles role (of.Delete t) rule → Concerns (of.Delete t)
    of_predicate : (p : ℕ) → BearsOn roles role (of.Host p) rule → Concerns (of.Host p)
    of_table : (t c : ℕ) → BearsOn roles role (of.Column t c) rule → Concerns (of.Table t)

module _ (parts : PolicyParts) (role : ℕ) where
  -- A withhold concerns the use, and none in front of it does.
  pub record IsFirstConcerning (used : Use) (rule : RightRule) : Type 0 where
    pub front : List RightRule
    pub rest : List RightRule
    pub split : parts.withholds ≡ front ++ rule ∷ rest
    pub concerning : Concerns parts.roles role rule used
    pub first : (earlier : RightRule) → Contains front earlier
        → Concerns parts.roles role earlier used → ⊥

  -- A use is denied under the name of the first withhold that concerns it, and where no withhold does,
  -- as one without a grant.
  pub data IsDeniedUnder (used : Use) : List ℕ → Type 0 where
    withheld : (rule : RightRule) → IsFirstConcerning used rule → IsDeniedUnder used rule.name
    ungranted : ((rule : RightRule) → Contains parts.withholds rule
        → Concerns parts.roles role rule used → ⊥) → IsDeniedUnder used (codes "no-grant")

  -- Of these uses the role may not use this one, which is denied under this name, and may use each
  -- in front of it.
  pub record IsFirstDenied (uses : List Use) (denied : Denied) : Type 0 where
    pub front : List Use
    pub rest : List Use
    pub split : uses ≡ front ++ denied.used ∷ rest
    pub allowed : (used : Use) → Contains front used → MayUse parts role used
    pub unallowed : MayUse parts role denied.used → ⊥
    pub under : IsDeniedUnder denied.used denied.rule

-- a use is denied where the role may not use it, under that name
abbrev pub NamesDenier : Type 0
NamesDenier =
    (parts : PolicyParts) (role : ℕ) (used : Use) (name : List ℕ)
    → (denier_of parts role used ≡ Some name)
    ↔ (MayUse parts role used → ⊥) × IsDeniedUnder parts role used name

-- what is denied of some uses is the first that the role may not use
abbrev pub DeniesFirst : Type 0
DeniesFirst =
    (parts : PolicyParts) (role : ℕ) (uses : List Use) (denied : Denied)
    → (denial parts role uses ≡ Some denied) ↔ IsFirstDenied parts role uses denied
