-- What a decision on uses answers: nothing is denied, or the first use to which the role has no right.
use Rattle.std.specs.Prelude.{◌≡◌, ◌<◌, ℕ, List, true, Some, None, Result, Ok, Err, slice_get}
use Rattle.lq_security.specs.Rights.{denial, may_use}
use Rattle.lq_security.specs.declared.policy.PolicyParts.{PolicyParts}
use Rattle.lq_language.specs.declared.rights.Use.{Use}
use Rattle.lq_use.specs.declared.decisions.Denied.{Denied}

-- The role may use each use before the place.
abbrev pub AreAllowedBefore : PolicyParts → ℕ → List Use → ℕ → Type 0
AreAllowedBefore parts role uses place =
    (earlier : ℕ) (used : Use) → earlier < place → slice_get uses earlier ≡ Some used → may_use parts role used ≡ true

-- The use at the place is the first one that is denied, under that name.
pub record Tells (parts : PolicyParts) (role : ℕ) (uses : List Use) (place : ℕ) (rule : List ℕ) : Type 0 where
  pub used : Use
  pub at : slice_get uses place ≡ Some used
  pub earlier : AreAllowedBefore parts role uses place
  pub denied : denial parts role uses ≡ Some (record { used = used; rule = rule })

abbrev pub Decides : PolicyParts → ℕ → List Use → Result (Unit {0}) Denied → Type 0
Decides parts role uses (Ok allowed) = denial parts role uses ≡ None
Decides parts role uses (Err denied) = Tells parts role uses denied.place denied.rule.now
