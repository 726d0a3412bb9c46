-- The fault that is named in a value's place is the first one inside of it.
use Rattle.std.proofs.Common.{◌≡◌, ◌∷◌, ◌++◌, List, [], map, ℕ, Option, Some, None, ap, ap₂, ◌∙◌, sym, refl, subst}
use Rattle.std.proofs.lemmas.Option.{none-some, same_Some}
use Rattle.lq_value.specs.declared.value.End.{End}
use Rattle.lq_value.specs.declared.value.End.TheVariants as end
use Rattle.lq_value.specs.declared.value.Fault.{Fault}
use Rattle.lq_value.specs.declared.value.Value.{Value, ind-Value, map-Value, out-Value, roll-Value}
use Rattle.lq_value.specs.declared.value.Value.TheOpen.{Value-F}
use Rattle.lq_value.specs.declared.value.Value.TheVariants as value
use Rattle.lq_value.specs.declared.value.Value.TheVariants.{outs-Group, outs-Rec, outs-Row, outs-Scalar, outs-Seq, rolls-Group, rolls-Rec, rolls-Row, rolls-Scalar, rolls-Seq}
use Rattle.lq_language.specs.ValuesOfTypes.{Every}
use Rattle.lq_machine.specs.NestedFaults.{HasNoFault, IsFirstFault, NamesFirstFault, ServesFaultless}
use Rattle.lq_machine.specs.NestedFaults as law
use Rattle.lq_machine.specs.Served.{fault_at, fault_step, first_member, first_of, nested_fault, or_next}
use Rattle.lq_language.proofs.ItemLaws.{every_more, every_none, first_of as head_such, others_of}
use Rattle.lq_machine.proofs.ServedLaws.{fault_out}

-- ---- the first of several faults

module _ {A : Type 0} (found : A → Option Fault) where
  abbrev IsFree : A → Type 0
  IsFree x = found x ≡ None

  -- an item with this fault, before which none has any
  record First (xs : List A) (f : Fault) : Type 0 where
    before : List A
    item : A
    behind : List A
    split : xs ≡ before ++ item ∷ behind
    free : Every IsFree before
    is : found item ≡ Some f

  -- no item has any
  free_of : (xs : List A) → Every IsFree xs → first_of (map found xs) ≡ None
  free_of [] h = refl
  free_of (x ∷ xs) h = ap₂ or_next (head_such IsFree x xs h) (free_of xs (others_of IsFree x xs h))

  all_free : (xs : List A) → first_of (map found xs) ≡ None → Every IsFree xs
  all_free [] e = every_none IsFree
  all_free (x ∷ xs) e = by (all_free xs) (found x) refl e where
    by : (first_of (map found xs) ≡ None → Every IsFree xs) → (o : Option Fault) → found x ≡ o → or_next o (first_of (map found xs)) ≡ None
        → Every IsFree (x ∷ xs)
    by others None h e = every_more IsFree x xs h (others e)
    by others (Some g) h e = absurd (cc)

  first_is : (before : List A) (item : A) (behind : List A) (f : Fault) → Every IsFree before → found item ≡ Some f
      → first_of (map found (before ++ item ∷ behind)) ≡ Some f
  first_is [] item behind f free is = ap (λ (o : Option Fault). or_next o (first_of (map found behind))) is
  first_is (x ∷ before) item behind f free is =
      ap₂ or_next (head_such IsFree x before free) (first_is before item behind f (others_of IsFree x before free) is)

  find_first : (xs : List A) (f : Fault) → first_of (map found xs) ≡ Some f → First xs f
  find_first [] f e = absurd (cc)
  find_first (x ∷ xs) f e = by (find_first xs f) (found x) refl e where
    by : (first_of (map found xs) ≡ Some f → First xs f) → (o : Option Fault) → found x ≡ o → or_next o (first_of (map found xs)) ≡ Some f
        → First (x ∷ xs) f
    by others (Some g) h e = record { before = []; item = x; behind = xs; split = refl; free = every_none IsFree; is = h ∙ e }
    by others None h e =
        let later = others e in
        record {
          before = x ∷ later.before;
          item = later.item;
          behind = later.behind;
          split = ap (λ rest. x ∷ rest) later.split;
          free = every_more IsFree x later.before h later.free;
          is = later.is;
        }

-- what holds of all items holds of those before one, and of it
parts_of : {A : Type 0} (P : A → Type 0) (before : List A) (item : A) (behind : List A) → Every P (before ++ item ∷ behind) → Every P before × P item
parts_of P [] item behind all = (every_none P, head_such P item behind all)
parts_of P (x ∷ before) item behind all =
    let rest = parts_of P before item behind (others_of P x (before ++ item ∷ behind) all) in
    (every_more P x before (head_such P x (before ++ item ∷ behind) all) rest.0, rest.1)

-- ---- one layer

module _ {R : Type 0} where
  -- the fault inside of a member
  abbrev in_it : List ℕ × Value R → Option Fault
  in_it m = nested_fault m.1

  members_as : (ms : List (List ℕ × Value R)) → first_member (map (λ (m : List ℕ × Value R). (m.0, nested_fault m.1)) ms) ≡ first_of (map in_it ms)
  members_as [] = refl
  members_as (m ∷ ms) = ap (or_next (nested_fault m.1)) (members_as ms)

  at_layer : (v : Value R) (x : Value-F R (Value R)) → out-Value R v ≡ x → nested_fault v ≡ fault_step (map-Value R (Value R) (Option Fault) nested_fault x)
  at_layer v x h = fault_out R v ∙ ap (λ (layer : Value-F R (Value R)). fault_step (map-Value R (Value R) (Option Fault) nested_fault layer)) h

  of_record : (ms : List (List ℕ × Value R)) → nested_fault (value.Rec ms) ≡ first_of (map in_it ms)
  of_record ms = at_layer (value.Rec ms) _ (outs-Rec ms) ∙ members_as ms

  of_group : (key : Value R) (items : List (Value R)) → nested_fault (value.Group key items) ≡ or_next (nested_fault key) (first_of (map nested_fault items))
  of_group key items = at_layer (value.Group key items) _ (outs-Group key items)

  of_sequence : (items : List (Value R)) (e : End) → nested_fault (value.Seq items e) ≡ or_next (first_of (map nested_fault items)) (fault_at e)
  of_sequence items e = at_layer (value.Seq items e) _ (outs-Seq items e)

  -- ---- what the relations say is found

  none_found : {v : Value R} → HasNoFault v → nested_fault v ≡ None
  none_found (law.scalar s) = at_layer (value.Scalar s) _ (outs-Scalar s)
  none_found (law.row r) = at_layer (value.Row r) _ (outs-Row r)
  none_found (law.in_record ms h) = of_record ms ∙ free_of in_it ms (λ k m e. none_found (h k m e))
  none_found (law.in_group key items h hs) =
      of_group key items ∙ ap₂ or_next (none_found h) (free_of nested_fault items (λ k v e. none_found (hs k v e)))
  none_found (law.in_sequence items hs) =
      of_sequence items end.Done ∙ ap (λ (o : Option Fault). or_next o None) (free_of nested_fault items (λ k v e. none_found (hs k v e)))

  none_before : (items : List (Value R)) → Every HasNoFault items → Every (IsFree nested_fault) items
  none_before items h k v e = none_found (h k v e)

  is_found : {v : Value R} {f : Fault} → IsFirstFault v f → nested_fault v ≡ Some f
  is_found {f = f} (law.in_member before m behind free h) =
      of_record (before ++ m ∷ behind) ∙ first_is in_it before m behind f (λ k n e. none_found (free k n e)) (is_found h)
  is_found {f = f} (law.in_key key items h) = of_group key items ∙ ap (λ (o : Option Fault). or_next o (first_of (map nested_fault items))) (is_found h)
  is_found {f = f} (law.in_element key before v behind free none h) =
      of_group key (before ++ v ∷ behind) ∙ ap₂ or_next (none_found free) (first_is nested_fault before v behind f (none_before before none) (is_found h))
  is_found {f = f} (law.in_item before v behind e none h) =
      of_sequence (before ++ v ∷ behind) e
      ∙ ap (λ (o : Option Fault). or_next o (fault_at e)) (first_is nested_fault before v behind f (none_before before none) (is_found h))
  is_found {f = f} (law.at_end items none) =
      of_sequence items (end.Fault f) ∙ ap (λ (o : Option Fault). or_next o (Some f)) (free_of nested_fault items (none_before items none))

  -- ---- what is found is what the relations say

  abbrev Tells : Value R → Type 0
  Tells v = (nested_fault v ≡ None → HasNoFault v) × ((f : Fault) → nested_fault v ≡ Some f → IsFirstFault v f)

  -- what the relations say of all values in a layer
  abbrev Below : Value-F R (Value R) → Type 0
  Below (Value-F.Scalar s) = Unit {0}
  Below (Value-F.Row r) = Unit {0}
  Below (Value-F.Rec ms) = Every (λ m. Tells m.1) ms
  Below (Value-F.Group key items) = Tells key × Every Tells items
  Below (Value-F.Seq items e) = Every Tells items

  such : (P : Value R → Type 0) (vs : List ((v : Value R) × P v)) → Every P (map (λ z. z.0) vs)
  such P [] = every_none P
  such P (v ∷ vs) = every_more P v.0 (map (λ z. z.0) vs) v.1 (such P vs)

  such_members : (P : Value R → Type 0) (ms : List (List ℕ × ((v : Value R) × P v))) → Every (λ (m : List ℕ × Value R). P m.1) (map (λ m. (m.0, m.1.0)) ms)
  such_members P [] = every_none (λ (m : List ℕ × Value R). P m.1)
  such_members P (m ∷ ms) = every_more (λ (m : List ℕ × Value R). P m.1) (m.0, m.1.0) (map (λ m. (m.0, m.1.0)) ms) m.1.1 (such_members P ms)

  abbrev plain : Value-F R ((v : Value R) × Tells v) → Value-F R (Value R)
  plain layer = map-Value R ((v : Value R) × Tells v) (Value R) (λ z. z.0) layer

  below : (y : Value-F R ((v : Value R) × Tells v)) → Below (plain y)
  below (Value-F.Scalar s) = tt
  below (Value-F.Row r) = tt
  below (Value-F.Rec ms) = such_members Tells ms
  below (Value-F.Group key items) = (key.1, such Tells items)
  below (Value-F.Seq items e) = such Tells items

  without : (items : List (Value R)) → Every Tells items → Every (IsFree nested_fault) items → Every HasNoFault items
  without items told free k v e = (told k v e).0 (free k v e)

  record_tells : (ms : List (List ℕ × Value R)) → Every (λ m. Tells m.1) ms → Tells (value.Rec ms)
  record_tells ms told = (
    λ e. let free = all_free in_it ms (sym (of_record ms) ∙ e) in law.in_record ms (λ k m at. (told k m at).0 (free k m at)),
    λ f e.
        let w = find_first in_it ms f (sym (of_record ms) ∙ e) in
        let parts = parts_of (λ (m : List ℕ × Value R). Tells m.1) w.before w.item w.behind (subst (Every (λ m. Tells m.1)) w.split told) in
        subst (λ (ns : List (List ℕ × Value R)). IsFirstFault (value.Rec ns) f) (sym w.split)
        (law.in_member w.before w.item w.behind (λ k m at. (parts.0 k m at).0 (w.free k m at)) (parts.1.1 f w.is)),
  )

  group_tells : (key : Value R) (items : List (Value R)) → Tells key → Every Tells items → Tells (value.Group key items)
  group_tells key items key_told told = by (nested_fault key) refl where
    by : (o : Option Fault) → nested_fault key ≡ o → Tells (value.Group key items)
    by None h =
        let all : nested_fault (value.Group key items) ≡ first_of (map nested_fault items)
        = of_group key items ∙ ap (λ (o : Option Fault). or_next o (first_of (map nested_fault items))) h in (
          λ e. law.in_group key items (key_told.0 h) (without items told (all_free nested_fault items (sym all ∙ e))),
          λ f e.
              let w = find_first nested_fault items f (sym all ∙ e) in
              let parts = parts_of Tells w.before w.item w.behind (subst (Every Tells) w.split told) in
              subst (λ (vs : List (Value R)). IsFirstFault (value.Group key vs) f) (sym w.split)
              (law.in_element key w.before w.item w.behind (key_told.0 h) (without w.before parts.0 w.free) (parts.1.1 f w.is)),
        )
    by (Some g) h =
        let all : nested_fault (value.Group key items) ≡ Some g
        = of_group key items ∙ ap (λ (o : Option Fault). or_next o (first_of (map nested_fault items))) h in
        (λ e. absurd (none-some g (sym e ∙ all)), λ f e. law.in_key key items (key_told.1 f (h ∙ sym all ∙ e)))

  end_tells : (items : List (Value R)) (e : End) → Every HasNoFault items → nested_fault (value.Seq items e) ≡ fault_at e → Tells (value.Seq items e)
  end_tells items end.Done free all = (λ h. law.in_sequence items free, λ f h. absurd (none-some f (sym all ∙ h)))
  end_tells items (end.Fault g) free all = (
    λ h. absurd (none-some g (sym h ∙ all)),
    λ f h. subst (λ (x : Fault). IsFirstFault (value.Seq items (end.Fault g)) x) (same_Some g f (sym all ∙ h)) (law.at_end items free),
  )

  sequence_tells : (items : List (Value R)) (e : End) → Every Tells items → Tells (value.Seq items e)
  sequence_tells items e told = by (first_of (map nested_fault items)) refl where
    by : (o : Option Fault) → first_of (map nested_fault items) ≡ o → Tells (value.Seq items e)
    by None h = end_tells items e (without items told (all_free nested_fault items h)) (of_sequence items e ∙ ap (λ (o : Option Fault). or_next o (fault_at e)) h)
    by (Some g) h =
        let all : nested_fault (value.Seq items e) ≡ Some g = of_sequence items e ∙ ap (λ (o : Option Fault). or_next o (fault_at e)) h in (
          λ n. absurd (none-some g (sym n ∙ all)),
          λ f n.
              let w = find_first nested_fault items f (h ∙ sym all ∙ n) in
              let parts = parts_of Tells w.before w.item w.behind (subst (Every Tells) w.split told) in
              subst (λ (vs : List (Value R)). IsFirstFault (value.Seq vs e) f) (sym w.split)
              (law.in_item w.before w.item w.behind e (without w.before parts.0 w.free) (parts.1.1 f w.is)),
        )

  layer_tells : (x : Value-F R (Value R)) → Below x → Tells (roll-Value R x)
  layer_tells (Value-F.Scalar s) told =
      subst Tells (sym (rolls-Scalar s))
      (λ e. law.scalar s, λ f e. absurd (none-some f (sym (at_layer (value.Scalar s) _ (outs-Scalar s)) ∙ e)))
  layer_tells (Value-F.Row r) told =
      subst Tells (sym (rolls-Row r)) (λ e. law.row r, λ f e. absurd (none-some f (sym (at_layer (value.Row r) _ (outs-Row r)) ∙ e)))
  layer_tells (Value-F.Rec ms) told = subst Tells (sym (rolls-Rec ms)) (record_tells ms told)
  layer_tells (Value-F.Group key items) told = subst Tells (sym (rolls-Group key items)) (group_tells key items told.0 told.1)
  layer_tells (Value-F.Seq items e) told = subst Tells (sym (rolls-Seq items e)) (sequence_tells items e told)

  tells : (v : Value R) → Tells v
  tells v = ind-Value R Tells (λ x y e. subst (λ (d : Value-F R (Value R)). Tells (roll-Value R d)) e (layer_tells (plain y) (below y))) v

pub names_first_fault : (R : Type 0) → NamesFirstFault R
names_first_fault R v f = ((tells v).1 f, is_found)

pub serves_faultless : (R : Type 0) → ServesFaultless R
serves_faultless R v = ((tells v).0, none_found)
