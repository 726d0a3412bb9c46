-- What is read of values whose rows are replaced, and methods of sequences on such values.
use Rattle.std.proofs.Common.{◌≡◌, ◌∷◌, if◌then◌else◌, List, [], map, ℤ, pos, Bool, true, false, Result, Ok, Err, ap, ◌∙◌, sym, refl}
use Rattle.lq_value.specs.SameAndOrder.{same_values as same_keys}
use Rattle.lq_value.specs.declared.scalar.Scalar.{Scalar}
use Rattle.lq_value.specs.declared.scalar.Scalar.TheVariants as scalar
use Rattle.lq_value.specs.declared.ty.Ty.{Ty, out-Ty}
use Rattle.lq_value.specs.declared.ty.Ty.TheOpen.{Ty-F}
use Rattle.lq_value.specs.declared.value.Fault.{Fault}
use Rattle.lq_value.specs.declared.value.Value.{Value, out-Value}
use Rattle.lq_value.specs.declared.value.Value.TheOpen.{Value-F}
use Rattle.lq_language.specs.Enumerable.{any, count, default_if_empty, first, greatest, least, reversed, single, summed}
use Rattle.lq_language.specs.OperandMeaning.{as_value, sequence, truth_value}
use Rattle.lq_language.specs.ClauseMeaning.{as_group, is_null_layer, matches}
use Rattle.lq_language.specs.Operators.{first as first_part, first_member, pair, second, second_member}
use Rattle.lq_language.specs.Stream.{Stream, elements_of, first_keys}
use Rattle.lq_language.specs.Meaning.{as_sequence, as_truth, default_layer, default_of, no_number, none_there, number_in, numbers, simple_meaning}
use Rattle.lq_language.specs.declared.methods.Simple.{Simple}
use Rattle.lq_language.specs.declared.methods.Simple.TheVariants as simple
use Rattle.lq_tree.specs.Rows.{mapped, result_map, stream_map}
use Rattle.lq_tree.proofs.MappedMethods.{any_natural, count_natural, default_natural, distinct_natural, filter_map_natural, first_natural, last_natural, reversed_natural, single_natural}
use Rattle.lq_tree.proofs.MappedStreamLaws.{elements_natural, pair_map}
use Rattle.lq_tree.proofs.MappedValueLaws.{mapped_Group, mapped_Rec, mapped_Scalar, mapped_Seq, mapped_layer, mapped_out, same_kept}

module _ {R S : Type 0} (f : R → S) where
  -- a value with its rows replaced
  abbrev m : Value R → Value S
  m = mapped f

  -- ---- values that hold no row

  pub value_kept : (o : Result Scalar Fault) → as_value o ≡ result_map m (as_value o)
  value_kept (Ok s) = ap Ok (sym (mapped_Scalar f s))
  value_kept (Err e) = refl

  pub truth_kept : (b : Bool) → truth_value b ≡ m (truth_value b)
  truth_kept b = sym (mapped_Scalar f (scalar.Bool b))

  pub answer_kept : (o : Result Bool Fault) → as_truth o ≡ result_map m (as_truth o)
  answer_kept (Ok b) = ap Ok (truth_kept b)
  answer_kept (Err e) = refl

  default_by : (layer : Ty-F Ty) → m (default_layer layer) ≡ default_layer layer
  default_by Ty-F.Int = mapped_Scalar f (scalar.Int (pos 0))
  default_by Ty-F.Bool = mapped_Scalar f (scalar.Bool false)
  default_by layer = mapped_Scalar f scalar.Null

  pub default_kept : (t : Ty) → m (default_of t) ≡ default_of t
  default_kept t = default_by (out-Ty t)

  -- ---- pairs

  first_by : (v : Value R) (layer : Value-F R (Value R)) → first_member (m v) (mapped_layer f layer) ≡ m (first_member v layer)
  first_by v (Value-F.Rec []) = refl
  first_by v (Value-F.Rec (x ∷ xs)) = refl
  first_by v (Value-F.Scalar s) = refl
  first_by v (Value-F.Row r) = refl
  first_by v (Value-F.Group key items) = refl
  first_by v (Value-F.Seq items e) = refl

  pub first_kept : (v : Value R) → first_part (m v) ≡ m (first_part v)
  first_kept v = ap (first_member (m v)) (mapped_out f v) ∙ first_by v (out-Value R v)

  second_by : (v : Value R) (layer : Value-F R (Value R)) → second_member (m v) (mapped_layer f layer) ≡ m (second_member v layer)
  second_by v (Value-F.Rec []) = refl
  second_by v (Value-F.Rec (x ∷ [])) = refl
  second_by v (Value-F.Rec (x ∷ y ∷ ys)) = refl
  second_by v (Value-F.Scalar s) = refl
  second_by v (Value-F.Row r) = refl
  second_by v (Value-F.Group key items) = refl
  second_by v (Value-F.Seq items e) = refl

  pub second_kept : (v : Value R) → second (m v) ≡ m (second v)
  second_kept v = ap (second_member (m v)) (mapped_out f v) ∙ second_by v (out-Value R v)

  pub pair_kept : (v w : Value R) → pair (m v) (m w) ≡ m (pair v w)
  pair_kept v w = sym (mapped_Rec f (([], v) ∷ ([], w) ∷ []))

  -- ---- sequences and groups

  pub sequence_kept : (s : Stream (Value R)) → sequence (stream_map m s) ≡ m (sequence s)
  sequence_kept s = sym (mapped_Seq f s.0 s.1)

  pub items_kept : (s : Stream (Value R)) → as_sequence (stream_map m s) ≡ result_map m (as_sequence s)
  items_kept s = ap Ok (sequence_kept s)

  pub group_kept : (g : Value R × List (Value R)) → as_group (m g.0, map m g.1) ≡ m (as_group g)
  group_kept g = sym (mapped_Group f g.0 g.1)

  number_by : (layer : Value-F R (Value R)) → number_in (mapped_layer f layer) ≡ number_in layer
  number_by (Value-F.Scalar (scalar.Int n)) = refl
  number_by (Value-F.Scalar s) = refl
  number_by (Value-F.Row r) = refl
  number_by (Value-F.Rec members) = refl
  number_by (Value-F.Group key items) = refl
  number_by (Value-F.Seq items e) = refl

  pub numbers_kept : (vs : List (Value R)) → numbers (map m vs) ≡ numbers vs
  numbers_kept vs =
      filter_map_natural m (λ v. number_in (out-Value R v)) (λ v. number_in (out-Value S v)) (λ v. ap number_in (mapped_out f v) ∙ number_by (out-Value R v))
      vs

  -- ---- matches of a key

  null_by : (layer : Value-F R (Value R)) → is_null_layer (mapped_layer f layer) ≡ is_null_layer layer
  null_by (Value-F.Scalar s) = refl
  null_by (Value-F.Row r) = refl
  null_by (Value-F.Rec members) = refl
  null_by (Value-F.Group key items) = refl
  null_by (Value-F.Seq items e) = refl

  unless_null : (b : Bool) (vs : List (Value R)) (ws : List (Value S)) → ws ≡ map m vs → (if b then [] else ws) ≡ map m (if b then [] else vs)
  unless_null true vs ws h = refl
  unless_null false vs ws h = h

  pub matches_kept : (key : Value R) (qs : List (Value R × Value R)) → matches (m key) (map (pair_map m m) qs) ≡ map m (matches key qs)
  matches_kept key qs =
      ap (λ (b : Bool). if b then [] else elements_of same_keys (m key) (map (pair_map m m) qs))
      (ap is_null_layer (mapped_out f key) ∙ null_by (out-Value R key))
      ∙ unless_null (is_null_layer (out-Value R key)) (elements_of same_keys key qs) (elements_of same_keys (m key) (map (pair_map m m) qs))
      (elements_natural m same_keys same_keys (same_kept f) m key qs)

  -- ---- methods without an argument

  pub simple_natural : (method : Simple) (t : Ty) (s : Stream (Value R)) → simple_meaning method t (stream_map m s) ≡ result_map m (simple_meaning method t s)
  simple_natural simple.Distinct t s =
      ap as_sequence (distinct_natural m same_keys same_keys (same_kept f) s.0 s.1) ∙ items_kept (first_keys same_keys s.0, s.1)
  simple_natural simple.Reverse t s = ap as_sequence (reversed_natural m s.0 s.1) ∙ items_kept (reversed s.0 s.1)
  simple_natural simple.DefaultIfEmpty t s =
      ap (λ (d : Value S). as_sequence (default_if_empty d (map m s.0) s.1)) (sym (default_kept t))
      ∙ ap as_sequence (default_natural m (default_of t) s.0 s.1)
      ∙ items_kept (default_if_empty (default_of t) s.0 s.1)
  simple_natural simple.Any t s = ap as_truth (any_natural m s.0 s.1) ∙ answer_kept (any s.0 s.1)
  simple_natural simple.Count t s = ap as_value (count_natural m s.0 s.1) ∙ value_kept (count s.0 s.1)
  simple_natural simple.First t s = first_natural m none_there s.0 s.1
  simple_natural simple.FirstOrDefault t s =
      ap (λ (d : Value S). first (Ok d) (map m s.0) s.1) (sym (default_kept t)) ∙ first_natural m (Ok (default_of t)) s.0 s.1
  simple_natural simple.Last t s = last_natural m none_there s.0 s.1
  simple_natural simple.Single t s = single_natural m none_there s.0 s.1
  simple_natural simple.SingleOrDefault t s =
      ap (λ (d : Value S). single (Ok d) (map m s.0) s.1) (sym (default_kept t)) ∙ single_natural m (Ok (default_of t)) s.0 s.1
  simple_natural simple.Sum t s = ap (λ (ns : List ℤ). as_value (summed (pos 0) ns s.1)) (numbers_kept s.0) ∙ value_kept (summed (pos 0) (numbers s.0) s.1)
  simple_natural simple.Min t s =
      ap (λ (ns : List ℤ). as_value (least (no_number t) ns s.1)) (numbers_kept s.0) ∙ value_kept (least (no_number t) (numbers s.0) s.1)
  simple_natural simple.Max t s =
      ap (λ (ns : List ℤ). as_value (greatest (no_number t) ns s.1)) (numbers_kept s.0) ∙ value_kept (greatest (no_number t) (numbers s.0) s.1)
