-- Laws of the types that clauses take: keys of one type, types of bounded size, and names that hide tables.
use Rattle.std.proofs.Common.{arith, if◌then◌else◌, ◌≡◌, ◌∷◌, ◌+◌, ◌&&◌, ◌||◌, ◌<◌, ◌⊎◌, inl, inr, List, [], map, ℕ, Bool, true, false, not, Option, Some, None, ap, ap₂, ◌∙◌, sym, refl, option_and_then, option_map}
use Rattle.std.specs.Prelude.{is_some, nat_le}
use Rattle.std.specs.List.{sum_by}
use Rattle.std.proofs.lemmas.List.Sums.{sum_by-cons}
use Rattle.std.proofs.lemmas.Bool.{le-leb, leb-true}
use Rattle.std.specs.Cmp.{first_so, second_so}
use Rattle.lq_value.specs.declared.ty.Ty.{Ty, map-Ty, out-Ty, roll-Ty}
use Rattle.lq_value.specs.declared.ty.Ty.TheOpen.{Ty-F}
use Rattle.lq_value.specs.declared.ty.Ty.TheVariants as ty
use Rattle.lq_value.specs.declared.ty.Ty.TheVariants.{outs-Group, outs-Int, outs-IntN, outs-Rec, outs-Row, outs-Seq, rolls-Int, rolls-IntN}
use Rattle.lq_value.specs.declared.ty.Ty.TheViews.{roll-out-Ty}
use Rattle.lq_value.specs.SameAndOrder.{same_values}
use Rattle.lq_value.specs.declared.value.Value.{Value}
use Rattle.lq_value.specs.declared.value.Value.TheOpen.{Value-F}
use Rattle.lq_value.specs.declared.value.Value.TheVariants as value
use Rattle.lq_language.specs.ClauseLaws.{RecordsMatch, TakesAllElse, AreIntAndNullable, BoundsParts, ComparesOneType, CountsParts, HidesTables, ReturnsItsName}
use Rattle.lq_language.specs.ClauseTyping.{matched_type, source_type}
use Rattle.lq_language.specs.Typing.{type_of_name}
use Rattle.lq_language.specs.ClauseMeaning.{is_null_layer}
use Rattle.lq_language.specs.Stream.{elements_of}
use Rattle.lq_language.specs.Types.{are_join_keys, are_widened, element_type, fresh_type, has_place, if_key, if_placed, is_fresh, is_key, parts_of, parts_step, same_types, sum_of_members, when}
use Rattle.lq_language.specs.Names.{Names, local_type, with_local}
use Rattle.lq_grammar.specs.declared.syntax.Node.TheVariants as node
use Rattle.lq_language.proofs.ExpressionTypeLaws.{type_of_node}
use Rattle.lq_language.proofs.SameTypeLaws.{same_itself, same_type}
use Rattle.lq_language.proofs.TypePartLaws.{parts_at}

-- ---- the keys of a `join`

typed_as : (t : Ty) (layer : Ty-F Ty) → out-Ty t ≡ layer → t ≡ roll-Ty layer
typed_as t layer h = sym (roll-out-Ty t) ∙ ap roll-Ty h

widened : (s t : Ty) (x y : Ty-F Ty) → out-Ty s ≡ x → out-Ty t ≡ y → are_widened x y ≡ true → AreIntAndNullable s t
widened s t Ty-F.Int Ty-F.IntN e f h = inl (typed_as s _ e ∙ rolls-Int, typed_as t _ f ∙ rolls-IntN)
widened s t Ty-F.IntN Ty-F.Int e f h = inr (typed_as s _ e ∙ rolls-IntN, typed_as t _ f ∙ rolls-Int)
widened s t x y e f h = absurd (cc h)

either_key : (s t : Ty) (alike : Bool) → (is_key s && same_types s t) ≡ alike → (alike || are_widened (out-Ty s) (out-Ty t)) ≡ true
    → ((is_key s ≡ true) × (s ≡ t)) ⊎ AreIntAndNullable s t
either_key s t true e h = inl (first_so (is_key s) (same_types s t) e, same_type s t (second_so (is_key s) (same_types s t) e))
either_key s t false e h = inr (widened s t (out-Ty s) (out-Ty t) refl refl h)

or_first : (a b : Bool) → a ≡ true → (a || b) ≡ true
or_first a b h = ap (λ (x : Bool). x || b) h

or_second : (a b : Bool) → b ≡ true → (a || b) ≡ true
or_second true b h = refl
or_second false b h = h

are_keys : (s t : Ty) → ((is_key s ≡ true) × (s ≡ t)) ⊎ AreIntAndNullable s t → are_join_keys (Some s) (Some t) ≡ true
are_keys s t (inl h) =
    or_first (is_key s && same_types s t) (are_widened (out-Ty s) (out-Ty t))
    (ap₂ (λ (a b : Bool). a && b) h.0 (ap (λ (u : Ty). same_types s u) (sym h.1) ∙ same_itself s))
are_keys s t (inr (inl h)) =
    or_second (is_key s && same_types s t) (are_widened (out-Ty s) (out-Ty t)) (ap₂ are_widened (ap out-Ty h.0 ∙ outs-Int) (ap out-Ty h.1 ∙ outs-IntN))
are_keys s t (inr (inr h)) =
    or_second (is_key s && same_types s t) (are_widened (out-Ty s) (out-Ty t)) (ap₂ are_widened (ap out-Ty h.0 ∙ outs-IntN) (ap out-Ty h.1 ∙ outs-Int))

pub compares_one_type : ComparesOneType
compares_one_type s t = (either_key s t (is_key s && same_types s t) refl, are_keys s t)

-- ---- what is bound, selected and grouped

fresh_by : (names : Names) (n : List ℕ) (o : Option Ty) → local_type n names.locals ≡ None → fresh_type names n o ≡ o
fresh_by names n o h = ap (λ (found : Option Ty). when (not (is_some found)) o) h

placed : (found : Option Ty) (t : Ty) → found ≡ Some t → has_place (out-Ty t) ≡ true → if_placed found ≡ Some t
placed found t is h = ap if_placed is ∙ ap (λ (b : Bool). when b (Some t)) h

grouped : (k : Option Ty) (found : Option Ty) (s t : Ty) → k ≡ Some s → is_key s ≡ true → if_placed found ≡ Some t
    → option_and_then (λ u. option_map (ty.Group u) (if_placed found)) (if_key k) ≡ Some (ty.Group s t)
grouped k found s t is key h =
    ap (λ (o : Option Ty). option_and_then (λ u. option_map (ty.Group u) (if_placed found)) o) (ap if_key is ∙ ap (λ (b : Bool). when b (Some s)) key)
    ∙ ap (λ (o : Option Ty). option_map (ty.Group s) o) h

pub takes_all_else : {X : Type 0} → TakesAllElse X
takes_all_else typed outer names f t is h = (
  (λ n free. ap (option_map (with_local names n)) (fresh_by names n (if_placed (typed f names)) free ∙ placed (typed f names) t is h)),
  placed (typed f names) t is h,
  (λ k s key_is key. grouped (typed k names) (typed f names) s t key_is key (placed (typed f names) t is h)),
)

pub records_match : {R : Type 0} → RecordsMatch R
records_match {R} ms qs =
    ap (λ (layer : Value-F R (Value R)). if is_null_layer layer then [] else elements_of same_values (value.Rec ms) qs) (value.outs-Rec ms)

-- ---- the size of types

within_by : (t : Ty) (b c : Bool) → b ≡ c → when b (Some t) ≡ when c (Some t)
within_by t b c h = ap (λ (x : Bool). when x (Some t)) h

too_great : (n : ℕ) (b : Bool) → nat_le n 4096 ≡ b → 4096 < n → b ≡ false
too_great n true e h = absurd (omega (arith, leb-true n 4096 e, h))
too_great n false e h = refl

pub bounds_parts : {X : Type 0} → BoundsParts X
bounds_parts typed t = (
  (λ h. within_by t (nat_le (parts_of (ty.Seq t)) 4096) true (le-leb (parts_of (ty.Seq t)) 4096 h)),
  (λ h. within_by t (nat_le (parts_of (ty.Seq t)) 4096) false (too_great (parts_of (ty.Seq t)) (nat_le (parts_of (ty.Seq t)) 4096) refl h)),
)

summed : (ms : List (List ℕ × Ty)) → sum_of_members (map (λ (m : List ℕ × Ty). (m.0, parts_of m.1)) ms) ≡ sum_by (λ m. parts_of m.1) ms
summed [] = refl
summed (m ∷ ms) = ap (λ (n : ℕ). parts_of m.1 + n) (summed ms) ∙ sym (sum_by-cons (λ (x : List ℕ × Ty). parts_of x.1) m ms)

members_sum : (ms : List (List ℕ × Ty)) → parts_step (map-Ty Ty ℕ parts_of (Ty-F.Rec ms)) ≡ 1 + sum_by (λ m. parts_of m.1) ms
members_sum ms = ap (λ (n : ℕ). 1 + n) (summed ms)

pub counts_parts : CountsParts
counts_parts = (
  (λ t. parts_at (ty.Seq t) _ (outs-Seq t)),
  (λ k t. parts_at (ty.Group k t) _ (outs-Group k t)),
  (λ ms. parts_at (ty.Rec ms) _ (outs-Rec ms) ∙ members_sum ms),
  (λ n. parts_at (ty.Row n) _ (outs-Row n)),
)

-- ---- names

module _ {X : Type 0} (typed : X → Names → Option Ty) (outer names : Names) (n : List ℕ) (k l : X) where
  abbrev compared : Option Ty → Option Ty
  compared found =
      option_and_then (λ t. when (are_join_keys (typed k names) (typed l (with_local outer n t))) (matched_type typed names (Some n) t)) found

  matched : (t u : Ty) → local_type n names.locals ≡ None → typed k names ≡ Some u → typed l (with_local outer n t) ≡ Some u → is_key u ≡ true
      → compared (Some t) ≡ Some (ty.Seq t)
  matched t u free outer_key inner_key key =
      ap (λ (b : Bool). when b (fresh_type names n (Some (ty.Seq t)))) (ap₂ are_join_keys outer_key inner_key ∙ are_keys u u (inl (key, refl)))
      ∙ fresh_by names n (Some (ty.Seq t)) free

pub returns_its_name : {X : Type 0} → ReturnsItsName X
returns_its_name typed outer names n f k l t u free source outer_key inner_key key =
    ap (λ (found : Option Ty). option_map (with_local names n) (compared typed outer names n k l found)) (fresh_by names n (source_type typed f outer) free ∙ source)
    ∙ ap (option_map (with_local names n)) (matched typed outer names n k l t u free outer_key inner_key key)

abbrev none_there : Option Ty
none_there = None

no_name : (b : Bool) → when b none_there ≡ none_there
no_name true = refl
no_name false = refl

pub hides_tables : HidesTables
hides_tables outer names n m table there =
    ap (λ (found : Option Ty). option_map (with_local names m) (fresh_type names m (option_and_then (λ t. element_type (out-Ty t)) found)))
    (type_of_node (node.Name n) names ∙ ap (type_of_name names n) there)
    ∙ ap (λ (layer : Ty-F Ty). option_map (with_local names m) (fresh_type names m (element_type layer))) (outs-Row table)
    ∙ ap (option_map (with_local names m)) (no_name (is_fresh names m))
