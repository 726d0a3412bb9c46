-- A value whose rows are replaced, layer by layer; it is the same key as it was.
use Rattle.std.proofs.Common.{◌≡◌, ◌∷◌, ◌&&◌, List, [], map, ℕ, Bool, ap, ap₂, ◌∙◌, sym, refl, subst, bytes_eq}
use Rattle.std.specs.Cmp.Lexicographic.{pointwise}
use Rattle.lq_value.specs.SameAndOrder.{same_layers, same_values, tested_member}
use Rattle.lq_value.specs.declared.scalar.Scalar.{Scalar}
use Rattle.lq_value.specs.declared.value.End.{End}
use Rattle.lq_value.specs.declared.value.Value.{Value, fold_out-Value, ind-Value, map-Value, out-Value, roll-Value}
use Rattle.lq_value.specs.declared.value.Value.TheOpen.{Value-F}
use Rattle.lq_value.specs.declared.value.Value.TheVariants as value
use Rattle.lq_value.specs.declared.value.Value.TheVariants.{outs-Group, outs-Rec, outs-Row, outs-Scalar, outs-Seq}
use Rattle.lq_value.specs.declared.value.Value.TheViews.{out-roll-Value, roll-out-Value}
use Rattle.lq_value.proofs.SamenessLaws.{same_at}
use Rattle.lq_tree.specs.Rows.{mapped, mapped_step}

-- ---- induction

module _ {R : Type 0} (P : Value R → Type 0) where
  abbrev pub Such : Type 0
  Such = (v : Value R) × P v

  abbrev pub plain : Value-F R Such → Value-F R (Value R)
  plain layer = map-Value R Such (Value R) (λ z. z.0) layer

  -- what holds of a layer where it holds of all values in it holds of every value
  pub of_every : ((y : Value-F R Such) → P (roll-Value R (plain y))) → (v : Value R) → P v
  of_every h v = ind-Value R P (λ x y e. subst (λ (d : Value-F R (Value R)). P (roll-Value R d)) e (h y)) v

module _ {R S : Type 0} (f : R → S) where
  -- a value with its rows replaced
  abbrev pub m : Value R → Value S
  m = mapped f

  -- a member of a record whose value's rows are replaced
  abbrev pub mapped_member : List ℕ × Value R → List ℕ × Value S
  mapped_member n = (n.0, m n.1)

  abbrev pub mapped_layer : Value-F R (Value R) → Value-F S (Value S)
  mapped_layer (Value-F.Scalar s) = Value-F.Scalar s
  mapped_layer (Value-F.Row r) = Value-F.Row (f r)
  mapped_layer (Value-F.Rec members) = Value-F.Rec (map mapped_member members)
  mapped_layer (Value-F.Group key items) = Value-F.Group (m key) (map m items)
  mapped_layer (Value-F.Seq items e) = Value-F.Seq (map m items) e

  made : (layer : Value-F R (Value R)) → out-Value S (mapped_step f (map-Value R (Value R) (Value S) m layer)) ≡ mapped_layer layer
  made (Value-F.Scalar s) = outs-Scalar s
  made (Value-F.Row r) = outs-Row (f r)
  made (Value-F.Rec members) = outs-Rec (map mapped_member members)
  made (Value-F.Group key items) = outs-Group (m key) (map m items)
  made (Value-F.Seq items e) = outs-Seq (map m items) e

  stepped : (v : Value R) → m v ≡ mapped_step f (map-Value R (Value R) (Value S) m (out-Value R v))
  unfolding mapped
  stepped v = fold_out-Value R (Value S) (mapped_step f) v

  pub mapped_out : (v : Value R) → out-Value S (m v) ≡ mapped_layer (out-Value R v)
  mapped_out v = ap (out-Value S) (stepped v) ∙ made (out-Value R v)

  at_layer : (v : Value R) (layer : Value-F R (Value R)) → out-Value R v ≡ layer → m v ≡ mapped_step f (map-Value R (Value R) (Value S) m layer)
  at_layer v layer h = stepped v ∙ ap (λ (l : Value-F R (Value R)). mapped_step f (map-Value R (Value R) (Value S) m l)) h

  pub mapped_Scalar : (s : Scalar) → m (value.Scalar s) ≡ value.Scalar s
  mapped_Scalar s = at_layer (value.Scalar s) (Value-F.Scalar s) (outs-Scalar s)

  pub mapped_Row : (r : R) → m (value.Row r) ≡ value.Row (f r)
  mapped_Row r = at_layer (value.Row r) (Value-F.Row r) (outs-Row r)

  pub mapped_Rec : (members : List (List ℕ × Value R)) → m (value.Rec members) ≡ value.Rec (map mapped_member members)
  mapped_Rec members = at_layer (value.Rec members) (Value-F.Rec members) (outs-Rec members)

  pub mapped_Group : (key : Value R) (items : List (Value R)) → m (value.Group key items) ≡ value.Group (m key) (map m items)
  mapped_Group key items = at_layer (value.Group key items) (Value-F.Group key items) (outs-Group key items)

  pub mapped_Seq : (items : List (Value R)) (e : End) → m (value.Seq items e) ≡ value.Seq (map m items) e
  mapped_Seq items e = at_layer (value.Seq items e) (Value-F.Seq items e) (outs-Seq items e)

  -- ---- sameness

  abbrev KeepsSame : Value R → Type 0
  KeepsSame v = (w : Value R) → same_values (m v) (m w) ≡ same_values v w

  abbrev bare : List (List ℕ × Such KeepsSame) → List (List ℕ × Value R)
  bare members = map (λ (n : List ℕ × Such KeepsSame). (n.0, n.1.0)) members

  members_same : (ms : List (List ℕ × Such KeepsSame)) (ns : List (List ℕ × Value R))
      → pointwise tested_member (map (λ (n : List ℕ × Value S). (n.0, same_values n.1)) (map mapped_member (bare ms))) (map mapped_member ns)
      ≡ pointwise tested_member (map (λ (n : List ℕ × Value R). (n.0, same_values n.1)) (bare ms)) ns
  members_same [] [] = refl
  members_same [] (n ∷ ns) = refl
  members_same (k ∷ ms) [] = refl
  members_same (k ∷ ms) (n ∷ ns) = ap₂ (λ here rest. (bytes_eq k.0 n.0 && here) && rest) (k.1.1 n.1) (members_same ms ns)

  abbrev tests : {Q : Type 0} → Value-F Q (Value Q) → Value-F Q (Value Q → Bool)
  tests {Q} layer = map-Value Q (Value Q) (Value Q → Bool) same_values layer

  layers_same : (y : Value-F R (Such KeepsSame)) (z : Value-F R (Value R))
      → same_layers (tests (mapped_layer (plain KeepsSame y))) (mapped_layer z) ≡ same_layers (tests (plain KeepsSame y)) z
  layers_same (Value-F.Scalar s) (Value-F.Scalar t) = refl
  layers_same (Value-F.Scalar s) (Value-F.Row r) = refl
  layers_same (Value-F.Scalar s) (Value-F.Rec ns) = refl
  layers_same (Value-F.Scalar s) (Value-F.Group key items) = refl
  layers_same (Value-F.Scalar s) (Value-F.Seq items e) = refl
  layers_same (Value-F.Rec ms) (Value-F.Rec ns) = members_same ms ns
  layers_same (Value-F.Rec ms) (Value-F.Scalar t) = refl
  layers_same (Value-F.Rec ms) (Value-F.Row r) = refl
  layers_same (Value-F.Rec ms) (Value-F.Group key items) = refl
  layers_same (Value-F.Rec ms) (Value-F.Seq items e) = refl
  layers_same (Value-F.Row r) z = refl
  layers_same (Value-F.Group key items) z = refl
  layers_same (Value-F.Seq items e) z = refl

  keeps_layer : (y : Value-F R (Such KeepsSame)) → KeepsSame (roll-Value R (plain KeepsSame y))
  keeps_layer y w =
      let layer = plain KeepsSame y in
      let here = out-roll-Value R layer in
      same_at S (m (roll-Value R layer)) (m w) _ _ (mapped_out (roll-Value R layer) ∙ ap mapped_layer here) (mapped_out w)
      ∙ layers_same y (out-Value R w)
      ∙ sym (same_at R (roll-Value R layer) w layer (out-Value R w) here refl)

  -- values are the same keys as they were
  pub same_kept : (v w : Value R) → same_values (m v) (m w) ≡ same_values v w
  same_kept v w = of_every KeepsSame keeps_layer v w

-- ---- no row replaced

module _ {R : Type 0} where
  abbrev Unchanged : Value R → Type 0
  Unchanged v = mapped (λ r. r) v ≡ v

  values_unchanged : (vs : List (Such Unchanged)) → map (mapped (λ r. r)) (map (λ z. z.0) vs) ≡ map (λ z. z.0) vs
  values_unchanged [] = refl
  values_unchanged (z ∷ vs) = ap₂ (λ (v : Value R) (more : List (Value R)). v ∷ more) z.1 (values_unchanged vs)

  members_unchanged : (ms : List (List ℕ × Such Unchanged))
      → map (mapped_member (λ r. r)) (map (λ (n : List ℕ × Such Unchanged). (n.0, n.1.0)) ms) ≡ map (λ (n : List ℕ × Such Unchanged). (n.0, n.1.0)) ms
  members_unchanged [] = refl
  members_unchanged (n ∷ ms) =
      ap₂ (λ (v : Value R) (more : List (List ℕ × Value R)). (n.0, v) ∷ more) n.1.1 (members_unchanged ms)

  layer_unchanged : (y : Value-F R (Such Unchanged)) → mapped_layer (λ r. r) (plain Unchanged y) ≡ plain Unchanged y
  layer_unchanged (Value-F.Scalar s) = refl
  layer_unchanged (Value-F.Row r) = refl
  layer_unchanged (Value-F.Rec ms) = ap (λ (members : List (List ℕ × Value R)). Value-F.Rec members) (members_unchanged ms)
  layer_unchanged (Value-F.Group key items) = ap₂ (λ (k : Value R) (vs : List (Value R)). Value-F.Group k vs) key.1 (values_unchanged items)
  layer_unchanged (Value-F.Seq items e) = ap (λ (vs : List (Value R)). Value-F.Seq vs e) (values_unchanged items)

  keeps_unchanged : (y : Value-F R (Such Unchanged)) → Unchanged (roll-Value R (plain Unchanged y))
  keeps_unchanged y =
      let v = roll-Value R (plain Unchanged y) in
      sym (roll-out-Value R (mapped (λ r. r) v))
      ∙ ap (roll-Value R) (mapped_out (λ r. r) v ∙ ap (mapped_layer (λ r. r)) (out-roll-Value R (plain Unchanged y)) ∙ layer_unchanged y)

  -- a value whose rows stay is the same
  pub mapped_same : (v : Value R) → mapped (λ r. r) v ≡ v
  mapped_same v = of_every Unchanged keeps_unchanged v
