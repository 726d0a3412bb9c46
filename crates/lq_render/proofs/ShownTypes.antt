-- Items by their type, one layer at a time.
use Rattle.std.proofs.Common.{◌≡◌, ◌∷◌, ◌⊎◌, inl, inr, List, [], ℕ, ap, append_assoc, refl, sym, subst, flat_map, map}
use Rattle.serde_json.specs.Data.{Data}
use Rattle.lq_value.specs.declared.table.Schema.{Schema}
use Rattle.lq_value.specs.declared.ty.Ty.{Ty, fold_out-Ty, map-Ty, out-Ty}
use Rattle.lq_value.specs.declared.ty.Ty as of_ty
use Rattle.lq_value.specs.declared.ty.Ty.TheOpen.{Ty-F}
use Rattle.lq_value.specs.declared.ty.Ty.TheVariants as ty
use Rattle.lq_value.specs.declared.ty.Ty.TheVariants.{outs-Bool, outs-Group, outs-Int, outs-IntN, outs-Null, outs-Rec, outs-Row, outs-Seq, outs-Str}
use Rattle.lq_render.specs.Layouts.{items_by_type, items_layer, shown_by_type, shown_layer}
use Rattle.lq_render.specs.Parts.{ItemsText, group_text, none_or_first, sequence_text, shown_by_columns}
use Rattle.lq_render.specs.Types.{member_names}

-- items of a type are the first of those that the type shows
pub items_out : (schemas : List Schema) (most : ℕ) (t : Ty) (indent : List ℕ) (items : List Data)
    → items_by_type schemas most t indent items ≡ none_or_first most indent (shown_by_type schemas most t indent) items
unfolding items_by_type shown_by_type
items_out schemas most t indent items = ap (λ (f : ItemsText). f indent items) (fold_out-Ty ItemsText (items_layer schemas most) t)

-- the text of a layer whose parts have theirs
abbrev layer_shown : List Schema → ℕ → List ℕ → List Data → Ty-F Ty → List ℕ
layer_shown schemas most indent items layer = shown_layer schemas (map-Ty Ty ItemsText (items_by_type schemas most) layer) indent items

pub sequences_shown : (schemas : List Schema) (most : ℕ) (item : Ty) (indent : List ℕ) (items : List Data)
    → shown_by_type schemas most (ty.Seq item) indent items ≡ flat_map (sequence_text (items_by_type schemas most item) indent) items
unfolding shown_by_type
sequences_shown schemas most item indent items = ap (layer_shown schemas most indent items) (outs-Seq item)

pub groups_shown : (schemas : List Schema) (most : ℕ) (key element : Ty) (indent : List ℕ) (items : List Data)
    → shown_by_type schemas most (ty.Group key element) indent items ≡ flat_map (group_text (items_by_type schemas most element) indent) items
unfolding shown_by_type
groups_shown schemas most key element indent items = ap (layer_shown schemas most indent items) (outs-Group key element)

-- ---- other types have the columns of their members

-- the names of members, whatever is made of their types
names_mapped : (f : Ty → ItemsText) (fields : List (List ℕ × Ty)) → map (λ (m : List ℕ × ItemsText). m.0) (map (λ (m : List ℕ × Ty). (m.0, f m.1)) fields) ≡ map (λ (m : List ℕ × Ty). m.0) fields
names_mapped f [] = refl
names_mapped f (m ∷ fields) = ap (λ (names : List (List ℕ)). m.0 ∷ names) (names_mapped f fields)

-- a type that is neither a sequence nor a group
abbrev pub IsPlain : Ty-F Ty → Type 0
IsPlain (Ty-F.Seq item) = ⊥
IsPlain (Ty-F.Group key element) = ⊥
IsPlain layer = Unit {0}

plain_layer : (schemas : List Schema) (most : ℕ) (indent : List ℕ) (items : List Data) (layer : Ty-F Ty) → IsPlain layer
    → layer_shown schemas most indent items layer ≡ shown_by_columns indent (member_names schemas layer) items
plain_layer schemas most indent items Ty-F.Int h = refl
plain_layer schemas most indent items Ty-F.IntN h = refl
plain_layer schemas most indent items Ty-F.Bool h = refl
plain_layer schemas most indent items Ty-F.Str h = refl
plain_layer schemas most indent items Ty-F.Null h = refl
plain_layer schemas most indent items (Ty-F.Row t) h = refl
plain_layer schemas most indent items (Ty-F.Rec fields) h = ap (λ (names : List (List ℕ)). shown_by_columns indent names items) (names_mapped (items_by_type schemas most) fields)
plain_layer schemas most indent items (Ty-F.Seq item) h = absurd h
plain_layer schemas most indent items (Ty-F.Group key element) h = absurd h

pub plain_shown : (schemas : List Schema) (most : ℕ) (t : Ty) (indent : List ℕ) (items : List Data) → IsPlain (out-Ty t)
    → shown_by_type schemas most t indent items ≡ shown_by_columns indent (member_names schemas (out-Ty t)) items
unfolding shown_by_type
plain_shown schemas most t indent items h = plain_layer schemas most indent items (out-Ty t) h

-- what each type is that is neither a sequence nor a group
abbrev pub IsPlainType : Ty → Type 0
IsPlainType t =
    (t ≡ ty.Int) ⊎ ((t ≡ ty.IntN) ⊎ ((t ≡ ty.Bool) ⊎ ((t ≡ ty.Str) ⊎ ((t ≡ ty.Null)
    ⊎ (((n : ℕ) × (t ≡ ty.Row n)) ⊎ ((fields : List (List ℕ × Ty)) × (t ≡ ty.Rec fields)))))))

pub plain_out : (t : Ty) → IsPlainType t → IsPlain (out-Ty t)
plain_out t (inl is) = subst (λ x. IsPlain (out-Ty x)) (sym is) (subst IsPlain (sym outs-Int) tt)
plain_out t (inr (inl is)) = subst (λ x. IsPlain (out-Ty x)) (sym is) (subst IsPlain (sym outs-IntN) tt)
plain_out t (inr (inr (inl is))) = subst (λ x. IsPlain (out-Ty x)) (sym is) (subst IsPlain (sym outs-Bool) tt)
plain_out t (inr (inr (inr (inl is)))) = subst (λ x. IsPlain (out-Ty x)) (sym is) (subst IsPlain (sym outs-Str) tt)
plain_out t (inr (inr (inr (inr (inl is))))) = subst (λ x. IsPlain (out-Ty x)) (sym is) (subst IsPlain (sym outs-Null) tt)
plain_out t (inr (inr (inr (inr (inr (inl (n, is))))))) = subst (λ x. IsPlain (out-Ty x)) (sym is) (subst IsPlain (sym (outs-Row n)) tt)
plain_out t (inr (inr (inr (inr (inr (inr (fields, is))))))) = subst (λ x. IsPlain (out-Ty x)) (sym is) (subst IsPlain (sym (outs-Rec fields)) tt)

pub ruleset nested = (sequences_shown, groups_shown, items_out, of_ty.the_lemmas, append_assoc)
