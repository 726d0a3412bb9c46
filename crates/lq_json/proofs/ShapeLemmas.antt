-- The shape of a type makes of values what the type does.
use Rattle.std.proofs.Common.{codes, Option, Some, None, Ok, ◌≡◌, ◌∷◌, List, [], map, ℕ, zero, suc, drop, ap, ap₂, ◌∙◌, sym, refl, slice_get, subst}
use Rattle.std.specs.Cmp.Lexicographic.{slice_cmp}
use Rattle.std.specs.Ordering.{match_ordering, nat_cmp}
use Rattle.std.specs.declared.cmp.Ordering.{Ordering}
use Rattle.std.specs.declared.cmp.Ordering.TheVariants as ordering
use Rattle.serde_json.specs.Data.{Data, Members, member, no_members, null, object, put, string}
use Rattle.lq_value.specs.declared.scalar.Scalar.{Scalar}
use Rattle.lq_value.specs.declared.table.Schema.{Schema}
use Rattle.lq_value.specs.declared.ty.Ty.{Ty, ind-Ty, map-Ty, roll-Ty}
use Rattle.lq_value.specs.declared.ty.Ty.TheOpen.{Ty-F}
use Rattle.lq_value.specs.declared.ty.Ty.TheViews.{out-roll-Ty}
use Rattle.lq_value.specs.declared.value.Fault.{Fault}
use Rattle.lq_value.specs.declared.value.Value.{Value, out-Value}
use Rattle.lq_value.specs.declared.value.Value.TheOpen.{Value-F}
use Rattle.lq_machine.specs.Served.{columns_in, fault_name, group_data, item_data, layer_data, nested_fault, record_data, record_members, row_data, row_members, sequence_data, stream_data, unless_fault, value_data, value_members}
use Rattle.lq_language.specs.Stream.{Stream, select_each}
use Rattle.lq_machine.proofs.ServedLaws.{item_out}
use Rattle.lq_json.specs.Shapes.{cell_data, cells_in, columns_from, data_by, fields_by, fields_from, fields_in, layer_by, member_data, place_in, shape_of, shape_step}
use Rattle.lq_json.specs.Replies.{served_by, stream_reply}
use Rattle.lq_json.specs.declared.shape.Shape.{Shape, map-Shape, out-Shape}
use Rattle.lq_json.specs.declared.shape.Shape.TheOpen.{Shape-F}
use Rattle.lq_json.specs.declared.shape.Shape.TheVariants as shape
use Rattle.lq_json.specs.declared.shape.Shape.TheVariants.{outs-Group, outs-Rec, outs-Row, outs-Scalar, outs-Seq}
use Rattle.lq_json.proofs.Opens.{data_out, fields_mapped, shape_out}

-- ---- members in order

-- a column put among others is its member put among theirs
placed_cell : (name : List ℕ) (i : ℕ) (cs : List (List ℕ × ℕ)) (cells : List Scalar)
    → cells_in (place_in name i cs) cells ≡ put name (cell_data (slice_get cells i)) (cells_in cs cells)
placed_cell name i [] cells = refl
placed_cell name i (c ∷ cs) cells = by (slice_cmp nat_cmp name c.0) (placed_cell name i cs cells) where
  others : Members
  others = cells_in cs cells

  by : (o : Ordering) → cells_in (place_in name i cs) cells ≡ put name (cell_data (slice_get cells i)) others
      → cells_in (match_ordering o ((name, i) ∷ (c ∷ cs)) ((c.0, i) ∷ cs) (c ∷ place_in name i cs)) cells
      ≡ match_ordering o (member name (cell_data (slice_get cells i)) (member c.0 (cell_data (slice_get cells c.1)) others)) (member c.0 (cell_data (slice_get cells i)) others)
      (member c.0 (cell_data (slice_get cells c.1)) (put name (cell_data (slice_get cells i)) others))
  by ordering.Less h = refl
  by ordering.Equal h = refl
  by ordering.Greater h = ap (member c.0 (cell_data (slice_get cells c.1))) h

-- the cell at a place and those after it are those from the place on
cells_from : (name : List ℕ) (names : List (List ℕ)) (i : ℕ) (cells : List Scalar)
    → put name (cell_data (slice_get cells i)) (row_members names (drop (suc i) cells)) ≡ row_members (name ∷ names) (drop i cells)
cells_from name names zero [] = refl
cells_from name names zero (c ∷ cells) = refl
cells_from name names (suc i) [] = refl
cells_from name names (suc i) (c ∷ cells) = cells_from name names i cells

-- the columns in order make of a row what their names do
columns_make : (i : ℕ) (names : List (List ℕ)) (cells : List Scalar) → cells_in (columns_from i names) cells ≡ row_members names (drop i cells)
columns_make i [] cells = refl
columns_make i (name ∷ names) cells =
    placed_cell name i (columns_from (suc i) names) cells ∙ ap (put name (cell_data (slice_get cells i))) (columns_make (suc i) names cells)
    ∙ cells_from name names i cells

module _ {R : Type 0} where
  placed_field : (makes : Shape → Value R → Data) (name : List ℕ) (i : ℕ) (f : Shape) (fs : List (List ℕ × (ℕ × Shape))) (ms : List (List ℕ × Value R))
      → fields_by makes (place_in name (i, f) fs) ms ≡ put name (member_data (makes f) (slice_get ms i)) (fields_by makes fs ms)
  placed_field makes name i f [] ms = refl
  placed_field makes name i f (g ∷ fs) ms = by (slice_cmp nat_cmp name g.0) (placed_field makes name i f fs ms) where
    others : Members
    others = fields_by makes fs ms

    this : Data
    this = member_data (makes f) (slice_get ms i)

    that : Data
    that = member_data (makes g.1.1) (slice_get ms g.1.0)

    by : (o : Ordering) → fields_by makes (place_in name (i, f) fs) ms ≡ put name this others
        → fields_by makes (match_ordering o ((name, (i, f)) ∷ (g ∷ fs)) ((g.0, (i, f)) ∷ fs) (g ∷ place_in name (i, f) fs)) ms
        ≡ match_ordering o (member name this (member g.0 that others)) (member g.0 this others) (member g.0 that (put name this others))
    by ordering.Less h = refl
    by ordering.Equal h = refl
    by ordering.Greater h = ap (member g.0 that) h

  members_from : (makes : Value R → Data) (name : List ℕ) (ts : List (List ℕ × (Value R → Data))) (i : ℕ) (ms : List (List ℕ × Value R))
      → put name (member_data makes (slice_get ms i)) (record_members ts (drop (suc i) ms)) ≡ record_members ((name, makes) ∷ ts) (drop i ms)
  members_from makes name ts zero [] = refl
  members_from makes name ts zero (m ∷ ms) = refl
  members_from makes name ts (suc i) [] = refl
  members_from makes name ts (suc i) (m ∷ ms) = members_from makes name ts i ms

  fields_make : (makes : Shape → Value R → Data) (i : ℕ) (fields : List (List ℕ × Shape)) (ms : List (List ℕ × Value R))
      → fields_by makes (fields_from i fields) ms ≡ record_members (map (λ m. (m.0, makes m.1)) fields) (drop i ms)
  fields_make makes i [] ms = refl
  fields_make makes i (f ∷ fs) ms =
      placed_field makes f.0 i f.1 (fields_from (suc i) fs) ms ∙ ap (put f.0 (member_data (makes f.1) (slice_get ms i))) (fields_make makes (suc i) fs ms)
      ∙ members_from (makes f.1) f.0 (map (λ m. (m.0, makes m.1)) fs) i ms

-- ---- the shape of a type

module _ {R : Type 0} (schemas : List Schema) (cells_of : R → List Scalar) where
  abbrev by_shape : Ty → Value R → Data
  by_shape t = data_by cells_of (shape_of schemas t)

  abbrev by_type : Ty → Value R → Data
  by_type t = item_data schemas cells_of t

  abbrev IsMade : Ty → Type 0
  IsMade t = by_shape t ≡ by_type t

  abbrev Made : Type 0
  Made = (t : Ty) × IsMade t

  -- a layer's shape, and what it makes of values
  layered_shape : (layer : Ty-F Ty) (shaped : Shape-F (Value R → Data))
      → map-Shape Shape (Value R → Data) (data_by cells_of) (out-Shape (shape_step schemas (map-Ty Ty Shape (shape_of schemas) layer))) ≡ shaped
      → ((w : Value-F R (Value R)) → layer_by cells_of shaped w ≡ layer_data schemas cells_of (map-Ty Ty (Value R → Data) by_type layer) w)
      → IsMade (roll-Ty layer)
  layered_shape layer shaped is same = λ i v. at v i where
    of_shape : shape_of schemas (roll-Ty layer) ≡ shape_step schemas (map-Ty Ty Shape (shape_of schemas) layer)
    of_shape = shape_out schemas (roll-Ty layer) ∙ ap (λ l. shape_step schemas (map-Ty Ty Shape (shape_of schemas) l)) (out-roll-Ty layer)

    at : (v : Value R) → by_shape (roll-Ty layer) v ≡ by_type (roll-Ty layer) v
    at v =
        ap (λ f. data_by cells_of f v) of_shape ∙ data_out cells_of (shape_step schemas (map-Ty Ty Shape (shape_of schemas) layer)) v
        ∙ ap (λ l. layer_by cells_of l (out-Value R v)) is ∙ same (out-Value R v)
        ∙ sym (item_out schemas cells_of (roll-Ty layer) v ∙ ap (λ l. layer_data schemas cells_of (map-Ty Ty (Value R → Data) by_type l) (out-Value R v)) (out-roll-Ty layer))

  -- a scalar's type makes null of all but scalars
  of_scalars : (layer : Ty-F (Value R → Data)) → ((cells : List Scalar) → row_data schemas cells layer ≡ null) → ((ms : List (List ℕ × Value R)) → record_data ms layer ≡ null)
      → ((k : Value R) (vs : List (Value R)) → group_data k vs layer ≡ null) → ((vs : List (Value R)) → sequence_data vs layer ≡ null)
      → (w : Value-F R (Value R)) → layer_by cells_of Shape-F.Scalar w ≡ layer_data schemas cells_of layer w
  of_scalars layer rows records groups sequences (Value-F.Scalar s) = refl
  of_scalars layer rows records groups sequences (Value-F.Row r) = sym (rows (cells_of r))
  of_scalars layer rows records groups sequences (Value-F.Rec ms) = sym (records ms)
  of_scalars layer rows records groups sequences (Value-F.Group k vs) = sym (groups k vs)
  of_scalars layer rows records groups sequences (Value-F.Seq vs e) = sym (sequences vs)

  of_rows : (n : ℕ) (w : Value-F R (Value R))
      → layer_by cells_of (Shape-F.Row (columns_from 0 (columns_in (slice_get schemas n)))) w ≡ layer_data schemas cells_of (Ty-F.Row n) w
  of_rows n (Value-F.Scalar s) = refl
  of_rows n (Value-F.Row r) = ap object (columns_make 0 (columns_in (slice_get schemas n)) (cells_of r))
  of_rows n (Value-F.Rec ms) = refl
  of_rows n (Value-F.Group k vs) = refl
  of_rows n (Value-F.Seq vs e) = refl

  of_records : (fs : List (List ℕ × (ℕ × (Value R → Data)))) (ts : List (List ℕ × (Value R → Data)))
      → ((ms : List (List ℕ × Value R)) → fields_in fs ms ≡ record_members ts ms)
      → (w : Value-F R (Value R)) → layer_by cells_of (Shape-F.Rec fs) w ≡ layer_data schemas cells_of (Ty-F.Rec ts) w
  of_records fs ts same (Value-F.Scalar s) = refl
  of_records fs ts same (Value-F.Row r) = refl
  of_records fs ts same (Value-F.Rec ms) = ap object (same ms)
  of_records fs ts same (Value-F.Group k vs) = refl
  of_records fs ts same (Value-F.Seq vs e) = refl

  of_groups : (key item : Value R → Data) (w : Value-F R (Value R)) → layer_by cells_of (Shape-F.Group key item) w ≡ layer_data schemas cells_of (Ty-F.Group key item) w
  of_groups key item (Value-F.Scalar s) = refl
  of_groups key item (Value-F.Row r) = refl
  of_groups key item (Value-F.Rec ms) = refl
  of_groups key item (Value-F.Group k vs) = refl
  of_groups key item (Value-F.Seq vs e) = refl

  of_sequences : (item : Value R → Data) (w : Value-F R (Value R)) → layer_by cells_of (Shape-F.Seq item) w ≡ layer_data schemas cells_of (Ty-F.Seq item) w
  of_sequences item (Value-F.Scalar s) = refl
  of_sequences item (Value-F.Row r) = refl
  of_sequences item (Value-F.Rec ms) = refl
  of_sequences item (Value-F.Group k vs) = refl
  of_sequences item (Value-F.Seq vs e) = refl

  -- the types of a record's members, without what is known of them
  abbrev types_of : List (List ℕ × Made) → List (List ℕ × Ty)
  types_of ps = map (λ p. (p.0, p.1.0)) ps

  -- types as shapes, and shapes and types as what they make of values
  abbrev shaped : List (List ℕ × Ty) → List (List ℕ × Shape)
  shaped ts = map (λ m. (m.0, shape_of schemas m.1)) ts

  abbrev of_shapes : List (List ℕ × Shape) → List (List ℕ × (Value R → Data))
  of_shapes fs = map (λ m. (m.0, data_by cells_of m.1)) fs

  abbrev of_types : List (List ℕ × Ty) → List (List ℕ × (Value R → Data))
  of_types ts = map (λ m. (m.0, by_type m.1)) ts

  abbrev of_fields : List (List ℕ × (ℕ × Shape)) → List (List ℕ × (ℕ × (Value R → Data)))
  of_fields fs = map (λ f. (f.0, (f.1.0, data_by cells_of f.1.1))) fs

  members_alike : (ps : List (List ℕ × Made)) → of_shapes (shaped (types_of ps)) ≡ of_types (types_of ps)
  members_alike [] = refl
  members_alike (p ∷ ps) = ap₂ (λ (f : Value R → Data) (rest : List (List ℕ × (Value R → Data))). (p.0, f) ∷ rest) p.1.1 (members_alike ps)

  record_alike : (ps : List (List ℕ × Made)) (ms : List (List ℕ × Value R))
      → fields_in (of_fields (fields_from 0 (shaped (types_of ps)))) ms ≡ record_members (of_types (types_of ps)) ms
  record_alike ps ms =
      fields_mapped cells_of (fields_from 0 (shaped (types_of ps))) ms ∙ fields_make (data_by cells_of) 0 (shaped (types_of ps)) ms
      ∙ ap (λ (ts : List (List ℕ × (Value R → Data))). record_members ts ms) (members_alike ps)

  scalar_layer : (layer : Ty-F Ty) → shape_step schemas (map-Ty Ty Shape (shape_of schemas) layer) ≡ shape.Scalar
      → ((w : Value-F R (Value R)) → layer_by cells_of Shape-F.Scalar w ≡ layer_data schemas cells_of (map-Ty Ty (Value R → Data) by_type layer) w) → IsMade (roll-Ty layer)
  scalar_layer layer is same = layered_shape layer Shape-F.Scalar (ap (λ f. map-Shape Shape (Value R → Data) (data_by cells_of) (out-Shape f)) is ∙ ap (map-Shape Shape (Value R → Data) (data_by cells_of)) outs-Scalar) same

  made_layer : (y : Ty-F Made) → IsMade (roll-Ty (map-Ty Made Ty (λ p. p.0) y))
  made_layer Ty-F.Int = scalar_layer Ty-F.Int refl (of_scalars Ty-F.Int (λ cells. refl) (λ ms. refl) (λ k vs. refl) (λ vs. refl))
  made_layer Ty-F.IntN = scalar_layer Ty-F.IntN refl (of_scalars Ty-F.IntN (λ cells. refl) (λ ms. refl) (λ k vs. refl) (λ vs. refl))
  made_layer Ty-F.Bool = scalar_layer Ty-F.Bool refl (of_scalars Ty-F.Bool (λ cells. refl) (λ ms. refl) (λ k vs. refl) (λ vs. refl))
  made_layer Ty-F.Str = scalar_layer Ty-F.Str refl (of_scalars Ty-F.Str (λ cells. refl) (λ ms. refl) (λ k vs. refl) (λ vs. refl))
  made_layer Ty-F.Null = scalar_layer Ty-F.Null refl (of_scalars Ty-F.Null (λ cells. refl) (λ ms. refl) (λ k vs. refl) (λ vs. refl))
  made_layer (Ty-F.Row n) = layered_shape (Ty-F.Row n) (Shape-F.Row (columns_from 0 (columns_in (slice_get schemas n)))) (ap (map-Shape Shape (Value R → Data) (data_by cells_of)) (outs-Row _)) (of_rows n)
  made_layer (Ty-F.Rec ps) =
      layered_shape (Ty-F.Rec (types_of ps)) (Shape-F.Rec (of_fields (fields_from 0 (shaped (types_of ps)))))
      (ap (map-Shape Shape (Value R → Data) (data_by cells_of)) (outs-Rec _)) (of_records _ _ (record_alike ps))
  made_layer (Ty-F.Group k e) =
      layered_shape (Ty-F.Group k.0 e.0) (Shape-F.Group (by_type k.0) (by_type e.0))
      (ap (map-Shape Shape (Value R → Data) (data_by cells_of)) (outs-Group _ _) ∙ ap₂ Shape-F.Group k.1 e.1) (of_groups (by_type k.0) (by_type e.0))
  made_layer (Ty-F.Seq t) =
      layered_shape (Ty-F.Seq t.0) (Shape-F.Seq (by_type t.0)) (ap (map-Shape Shape (Value R → Data) (data_by cells_of)) (outs-Seq _) ∙ ap Shape-F.Seq t.1) (of_sequences (by_type t.0))

  -- the shape of a type makes of each value what the type does
  pub shape_makes : (t : Ty) → IsMade t
  shape_makes t = ind-Ty IsMade (λ x y h. subst (λ l. IsMade (roll-Ty l)) h (made_layer y)) t

  pub stream_made : (t : Ty) (s : Stream (Value R)) → stream_reply (served_by cells_of (shape_of schemas t) s) ≡ stream_data schemas cells_of t s
  stream_made t s = ap (λ (f : Value R → Data). stream_reply (select_each (λ v. unless_fault (nested_fault v) (f v)) s)) (shape_makes t)

  pub value_made : (t : Ty) (v : Value R) → nested_fault v ≡ None
      → object (put (codes "value") (data_by cells_of (shape_of schemas t) v) no_members) ≡ value_data schemas cells_of t (Ok v)
  value_made t v none =
      ap (λ (f : Value R → Data). object (put (codes "value") (f v) no_members)) (shape_makes t)
      ∙ ap (λ (o : Option Fault). object (value_members (unless_fault o (item_data schemas cells_of t v)))) (sym none)

  pub value_faulted : (t : Ty) (v : Value R) (f : Fault) → nested_fault v ≡ Some f
      → object (put (codes "fault") (string (fault_name f)) no_members) ≡ value_data schemas cells_of t (Ok v)
  value_faulted t v f found = ap (λ (o : Option Fault). object (value_members (unless_fault o (item_data schemas cells_of t v)))) (sym found)
