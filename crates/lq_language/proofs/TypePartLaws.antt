-- How many parts a type has, over those of the types in it.
use Rattle.std.proofs.Common.{◌≡◌, ℕ, ap, ◌∙◌}
use Rattle.lq_value.specs.declared.ty.Ty.{Ty, fold_out-Ty, map-Ty, out-Ty}
use Rattle.lq_value.specs.declared.ty.Ty.TheOpen.{Ty-F}
use Rattle.lq_language.specs.Types.{parts_of, parts_step}

pub parts_out : (t : Ty) → parts_of t ≡ parts_step (map-Ty Ty ℕ parts_of (out-Ty t))
unfolding parts_of
parts_out t = fold_out-Ty ℕ parts_step t

pub parts_at : (t : Ty) (layer : Ty-F Ty) → out-Ty t ≡ layer → parts_of t ≡ parts_step (map-Ty Ty ℕ parts_of layer)
parts_at t layer is = parts_out t ∙ ap (λ (l : Ty-F Ty). parts_step (map-Ty Ty ℕ parts_of l)) is
