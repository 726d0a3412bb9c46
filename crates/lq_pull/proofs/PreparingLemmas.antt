-- Tables that are prepared one after the other.
use Rattle.std.proofs.Common.{◌≡◌, ◌∷◌, ◌++◌, ◌∙◌, ◌+◌, ◌⊎◌, inl, inr, List, [], ℕ, zero, suc, Some, ap, sym, refl, subst, arith, length, slice_get}
use Rattle.std.proofs.lemmas.Option.{none-some, same_Some}
use Rattle.lq_pull.specs.Readers.{ArePrepared, IsPrepared}
use Rattle.lq_pull.specs.Views.{Sight}
use Rattle.lq_pull.specs.declared.preparing.Prepared.{Prepared}

module _ {A : Type 0} where
  -- an item of a list with one more is one of the list, or that one
  before_or_last : (before : List A) (last : A) (k : ℕ) (x : A) → slice_get (before ++ last ∷ []) k ≡ Some x
      → (slice_get before k ≡ Some x) ⊎ ((k ≡ length before) × (x ≡ last))
  before_or_last [] last zero x is = inr (refl, sym (same_Some last x is))
  before_or_last [] last (suc k) x is = absurd (none-some x is)
  before_or_last (y ∷ ys) last zero x is = inl is
  before_or_last (y ∷ ys) last (suc k) x is = by (before_or_last ys last k x is) where
    by : (slice_get ys k ≡ Some x) ⊎ ((k ≡ length ys) × (x ≡ last)) → (slice_get ys k ≡ Some x) ⊎ ((suc k ≡ suc (length ys)) × (x ≡ last))
    by (inl there) = inl there
    by (inr same) = inr (ap suc same.0, same.1)

  longer : (before : List A) (last : A) → length (before ++ last ∷ []) ≡ length before + 1
  longer [] last = refl
  longer (y ∷ ys) last = let rest : length (ys ++ last ∷ []) ≡ length ys + 1 = longer ys last in omega (arith, rest)

  pub longer_by_one : (n : ℕ) (before after : List A) (last : A) → length before ≡ n → after ≡ before ++ last ∷ [] → length after ≡ n + 1
  longer_by_one n before after last many is = ap length is ∙ longer before last ∙ ap (λ (m : ℕ). m + 1) many

-- one table more
pub prepared_more : (s : Sight) (n : ℕ) (before after : List Prepared) (last : Prepared) → ArePrepared s before → length before ≡ n
    → after ≡ before ++ last ∷ [] → IsPrepared s n last → ArePrepared s after
prepared_more s n before after last all many is this k x at =
    by (before_or_last before last k x (ap (λ (l : List Prepared). slice_get l k) (sym is) ∙ at)) where
      by : (slice_get before k ≡ Some x) ⊎ ((k ≡ length before) × (x ≡ last)) → IsPrepared s k x
      by (inl there) = all k x there
      by (inr same) = subst (λ (m : ℕ). IsPrepared s m x) (sym (same.0 ∙ many)) (subst (λ (one : Prepared). IsPrepared s n one) (sym same.1) this)

-- at first none is
pub none_prepared : (s : Sight) → ArePrepared s []
none_prepared s k x at = absurd (none-some x at)

pub ruleset prepares = (prepared_more, longer_by_one, none_prepared)
