-- Predicates that are made and put into a set, by their names and their tests.
use Rattle.std.proofs.Common.{◌≡◌, ◌∙◌, ◌∷◌, ◌++◌, List, [], ℕ, ℤ, false, None, Result, Ok, ap, refl, subst, sym}
use Rattle.std.specs.Prelude.{OnOk, int_lt}
use Rattle.std.specs.declared.alloc.AllocError.{AllocError}
use Rattle.lq_host.specs.AcceptedSets.{Numbers}
use Rattle.lq_host.specs.Hosts.{addition_refusal_of}
use Rattle.lq_host.specs.Predicates.{Domain, OfOne, Predicate, made_of}
use Rattle.lq_host.specs.declared.error.HostError.{HostError}

pub of_name : (p : Predicate) (name given : List ℕ) (domain : Domain) → ◌≡◌ {A = Result Predicate HostError} (Ok p) (Ok (record { name = name; domain = domain }))
    → name ≡ given → p ≡ record { name = given; domain = domain }
of_name p name given domain made same =
    let is : p ≡ record { name = name; domain = domain } = cc in
    is ∙ ap (λ (n : List ℕ). record { name = n; domain = domain }) same

module _ (p : Predicate) (name given : List ℕ) (range passed : ℤ × ℤ) (set : Numbers) where
  not_empty : int_lt range.1 range.0 ≡ false → made_of name (OfOne range set) ≡ Ok (record { name = name; domain = OfOne range set })
  not_empty some = rw some refl

  -- a predicate that was made over a range with a number
  pub of_range : Ok p ≡ made_of name (OfOne passed set) → passed ≡ range → int_lt range.1 range.0 ≡ false → name ≡ given
      → p ≡ record { name = given; domain = OfOne range set }
  of_range made same some named =
      of_name p name given (OfOne range set) (made ∙ ap (λ (r : ℤ × ℤ). made_of name (OfOne r set)) same ∙ not_empty some) named

-- what equals a new predicate is new, and what is added is what it equals
pub as_new : (predicates : List Predicate) (p q : Predicate) → p ≡ q → addition_refusal_of predicates q ≡ None → addition_refusal_of predicates p ≡ None
as_new predicates p q same new = subst (λ (x : Predicate). addition_refusal_of predicates x ≡ None) (sym same) new

pub as_added : (r : Result (Unit {0}) AllocError) (old new : List Predicate) (p q : Predicate) → p ≡ q → OnOk r (new ≡ old ++ p ∷ []) → OnOk r (new ≡ old ++ q ∷ [])
as_added r old new p q same added = subst (λ (x : Predicate). OnOk r (new ≡ old ++ x ∷ [])) same added
