-- The reply of values whose rows are replaced by rows with the same cells.
use Rattle.std.proofs.Common.{◌≡◌, ◌∷◌, List, [], map, ℕ, Option, Result, Ok, Err, ap, ap₂, ◌∙◌, sym, refl, subst}
use Rattle.lq_value.specs.declared.scalar.Scalar.{Scalar}
use Rattle.lq_value.specs.declared.table.Schema.{Schema}
use Rattle.lq_value.specs.declared.ty.Ty.{Ty, ind-Ty, map-Ty, roll-Ty}
use Rattle.lq_value.specs.declared.ty.Ty.TheOpen.{Ty-F}
use Rattle.lq_value.specs.declared.ty.Ty.TheViews.{out-roll-Ty}
use Rattle.lq_value.specs.declared.value.Fault.{Fault}
use Rattle.lq_value.specs.declared.value.Value.{Value, map-Value, out-Value, roll-Value}
use Rattle.lq_value.specs.declared.value.Value.TheOpen.{Value-F}
use Rattle.lq_value.specs.declared.value.Value.TheViews.{out-roll-Value}
use Rattle.lq_machine.specs.Served.{fault_at, fault_step, first_member, first_of, group_data, item_data, layer_data, nested_fault, or_next, record_data, record_members, row_data, sequence_data, served_item, served_stream, stream_data, unless_fault, value_data}
use Rattle.lq_language.specs.Stream.{Stream, each, one}
use Rattle.lq_machine.proofs.ServedLaws.{fault_out, item_out}
use Rattle.lq_language.proofs.StreamLaws.{each_map}
use Rattle.lq_tree.specs.RowLaws.{ServesAlikeOverRows}
use Rattle.lq_tree.specs.Rows.{mapped, result_map, stream_map}
use Rattle.lq_tree.proofs.MappedValueLaws.{Such, mapped_layer, mapped_member, mapped_out, of_every, plain}

-- ---- faults inside of a value

module _ {R S : Type 0} (f : R → S) where
  -- a value with its rows replaced
  abbrev m : Value R → Value S
  m = mapped f

  abbrev KeepsFault : Value R → Type 0
  KeepsFault v = nested_fault (m v) ≡ nested_fault v

  abbrev With : Type 0
  With = Such KeepsFault

  abbrev faults : {Q : Type 0} → Value-F Q (Value Q) → Value-F Q (Option Fault)
  faults {Q} layer = map-Value Q (Value Q) (Option Fault) nested_fault layer

  members_fault : (ns : List (List ℕ × With))
      → first_member (map (λ (n : List ℕ × Value S). (n.0, nested_fault n.1)) (map (mapped_member f) (map (λ (n : List ℕ × With). (n.0, n.1.0)) ns)))
      ≡ first_member (map (λ (n : List ℕ × Value R). (n.0, nested_fault n.1)) (map (λ (n : List ℕ × With). (n.0, n.1.0)) ns))
  members_fault [] = refl
  members_fault (n ∷ ns) = ap₂ or_next n.1.1 (members_fault ns)

  items_fault : (vs : List With) → first_of (map nested_fault (map m (map (λ (v : With). v.0) vs))) ≡ first_of (map nested_fault (map (λ (v : With). v.0) vs))
  items_fault [] = refl
  items_fault (v ∷ vs) = ap₂ or_next v.1 (items_fault vs)

  layers_fault : (y : Value-F R With) → fault_step (faults (mapped_layer f (plain KeepsFault y))) ≡ fault_step (faults (plain KeepsFault y))
  layers_fault (Value-F.Scalar s) = refl
  layers_fault (Value-F.Row r) = refl
  layers_fault (Value-F.Rec ns) = members_fault ns
  layers_fault (Value-F.Group key vs) = ap₂ or_next key.1 (items_fault vs)
  layers_fault (Value-F.Seq vs e) = ap (λ (o : Option Fault). or_next o (fault_at e)) (items_fault vs)

  keeps_fault : (y : Value-F R With) → KeepsFault (roll-Value R (plain KeepsFault y))
  keeps_fault y =
      let layer = plain KeepsFault y in
      fault_out S (m (roll-Value R layer))
      ∙ ap (λ (l : Value-F S (Value S)). fault_step (faults l)) (mapped_out f (roll-Value R layer) ∙ ap (mapped_layer f) (out-roll-Value R layer))
      ∙ layers_fault y
      ∙ sym (fault_out R (roll-Value R layer) ∙ ap (λ (l : Value-F R (Value R)). fault_step (faults l)) (out-roll-Value R layer))

  pub fault_kept : (v : Value R) → nested_fault (m v) ≡ nested_fault v
  fault_kept v = of_every KeepsFault keeps_fault v

-- ---- data

-- a type with what holds of it
abbrev Typed : (Ty → Type 0) → Type 0
Typed P = (t : Ty) × P t

abbrev bare : (P : Ty → Type 0) → Ty-F (Typed P) → Ty-F Ty
bare P layer = map-Ty (Typed P) Ty (λ z. z.0) layer

of_every_type : (P : Ty → Type 0) → ((y : Ty-F (Typed P)) → P (roll-Ty (bare P y))) → (t : Ty) → P t
of_every_type P h t = ind-Ty P (λ x y e. subst (λ (d : Ty-F Ty). P (roll-Ty d)) e (h y)) t

module _ {R S : Type 0} (f : R → S) (schemas : List Schema) (cells_r : R → List Scalar) (cells_s : S → List Scalar)
    (same : (r : R) → cells_s (f r) ≡ cells_r r) where
  abbrev KeepsData : Ty → Type 0
  KeepsData t = (v : Value R) → item_data schemas cells_s t (mapped f v) ≡ item_data schemas cells_r t v

  abbrev Kept : Type 0
  Kept = Typed KeepsData

  members_data : (ts : List (List ℕ × Kept)) (ns : List (List ℕ × Value R))
      → record_members (map (λ (t : List ℕ × Ty). (t.0, item_data schemas cells_s t.1)) (map (λ (t : List ℕ × Kept). (t.0, t.1.0)) ts))
      (map (mapped_member f) ns)
      ≡ record_members (map (λ (t : List ℕ × Ty). (t.0, item_data schemas cells_r t.1)) (map (λ (t : List ℕ × Kept). (t.0, t.1.0)) ts)) ns
  members_data [] ns = refl
  members_data (t ∷ ts) [] = let others = members_data ts [] in cc
  members_data (t ∷ ts) (n ∷ ns) = let here = t.1.1 n.1 in let others = members_data ts ns in cc

  items_data : (t : Kept) (vs : List (Value R)) → map (item_data schemas cells_s t.0) (map (mapped f) vs) ≡ map (item_data schemas cells_r t.0) vs
  items_data t [] = refl
  items_data t (v ∷ vs) = ap₂ (λ d ds. d ∷ ds) (t.1 v) (items_data t vs)

  row_by : (cells : List Scalar) (y : Ty-F Kept)
      → row_data schemas cells (map-Ty Ty _ (item_data schemas cells_s) (bare KeepsData y))
      ≡ row_data schemas cells (map-Ty Ty _ (item_data schemas cells_r) (bare KeepsData y))
  row_by cells (Ty-F.Row n) = refl
  row_by cells y = refl

  record_by : (ns : List (List ℕ × Value R)) (y : Ty-F Kept)
      → record_data (map (mapped_member f) ns) (map-Ty Ty _ (item_data schemas cells_s) (bare KeepsData y))
      ≡ record_data ns (map-Ty Ty _ (item_data schemas cells_r) (bare KeepsData y))
  record_by ns (Ty-F.Rec ts) = let here = members_data ts ns in cc
  record_by ns y = refl

  group_by : (key : Value R) (vs : List (Value R)) (y : Ty-F Kept)
      → group_data (mapped f key) (map (mapped f) vs) (map-Ty Ty _ (item_data schemas cells_s) (bare KeepsData y))
      ≡ group_data key vs (map-Ty Ty _ (item_data schemas cells_r) (bare KeepsData y))
  group_by key vs (Ty-F.Group k t) = let first = k.1 key in let others = items_data t vs in cc
  group_by key vs y = refl

  sequence_by : (vs : List (Value R)) (y : Ty-F Kept)
      → sequence_data (map (mapped f) vs) (map-Ty Ty _ (item_data schemas cells_s) (bare KeepsData y))
      ≡ sequence_data vs (map-Ty Ty _ (item_data schemas cells_r) (bare KeepsData y))
  sequence_by vs (Ty-F.Seq t) = let here = items_data t vs in cc
  sequence_by vs y = refl

  layers_data : (y : Ty-F Kept) (layer : Value-F R (Value R))
      → layer_data schemas cells_s (map-Ty Ty _ (item_data schemas cells_s) (bare KeepsData y)) (mapped_layer f layer)
      ≡ layer_data schemas cells_r (map-Ty Ty _ (item_data schemas cells_r) (bare KeepsData y)) layer
  layers_data y (Value-F.Scalar s) = refl
  layers_data y (Value-F.Row r) =
      ap (λ (cells : List Scalar). row_data schemas cells (map-Ty Ty _ (item_data schemas cells_s) (bare KeepsData y))) (same r) ∙ row_by (cells_r r) y
  layers_data y (Value-F.Rec ns) = record_by ns y
  layers_data y (Value-F.Group key vs) = group_by key vs y
  layers_data y (Value-F.Seq vs e) = sequence_by vs y

  keeps_data : (y : Ty-F Kept) → KeepsData (roll-Ty (bare KeepsData y))
  keeps_data y v =
      let t = roll-Ty (bare KeepsData y) in
      item_out schemas cells_s t (mapped f v)
      ∙ (λ i. layer_data schemas cells_s (map-Ty Ty _ (item_data schemas cells_s) (out-roll-Ty (bare KeepsData y) i)) (mapped_out f v i))
      ∙ layers_data y (out-Value R v)
      ∙ sym (item_out schemas cells_r t v
      ∙ (λ i. layer_data schemas cells_r (map-Ty Ty _ (item_data schemas cells_r) (out-roll-Ty (bare KeepsData y) i)) (out-Value R v)))

  pub data_kept : (t : Ty) (v : Value R) → item_data schemas cells_s t (mapped f v) ≡ item_data schemas cells_r t v
  data_kept t v = of_every_type KeepsData keeps_data t v

  -- ---- replies

  served_kept : (t : Ty) (v : Value R) → served_item schemas cells_s t (mapped f v) ≡ served_item schemas cells_r t v
  served_kept t v = ap₂ unless_fault (fault_kept f v) (data_kept t v)

  stream_kept : (t : Ty) (s : Stream (Value R)) → served_stream schemas cells_s t (stream_map (mapped f) s) ≡ served_stream schemas cells_r t s
  stream_kept t s =
      each_map (mapped f) (λ v. one (served_item schemas cells_s t v)) s.0 s.1 ∙ (λ i. each (λ v. one (served_kept t v i)) s.0 s.1)

  stream_replies : (t : Ty) (s : Stream (Value R)) → stream_data schemas cells_s t (stream_map (mapped f) s) ≡ stream_data schemas cells_r t s
  stream_replies t s = let here = stream_kept t s in cc

  value_replies : (t : Ty) (found : Result (Value R) Fault) → value_data schemas cells_s t (result_map (mapped f) found) ≡ value_data schemas cells_r t found
  value_replies t (Ok v) = let here = served_kept t v in cc
  value_replies t (Err e) = refl

pub serves_alike : {R S : Type 0} → ServesAlikeOverRows R S
serves_alike f schemas cells_r cells_s same t = (stream_replies f schemas cells_r cells_s same t, value_replies f schemas cells_r cells_s same t)
