-- Slots that hold a scope: what a name's place reaches, and what holds where an item is in one slot more.
use Rattle.std.proofs.Common.{◌≡◌, ◌∷◌, ◌++◌, ◌+◌, arith, if◌then◌else◌, List, [], map, ℕ, Bool, true, false, Option, Some, None, Result, Ok, ap, ap₂, ◌∙◌, sym, refl, subst, bytes_eq, length, slice_get}
use Rattle.lq_value.specs.declared.ty.Ty.{Ty}
use Rattle.lq_value.specs.declared.ty.Ty.TheVariants as ty
use Rattle.lq_value.specs.declared.ty.Ty.TheVariants.{outs-Rec}
use Rattle.lq_value.specs.declared.value.Fault.{Fault}
use Rattle.lq_value.specs.declared.value.Value.{Value}
use Rattle.lq_value.specs.declared.value.Value.TheVariants.{outs-Rec as outs-value-Rec}
use Rattle.lq_language.specs.Worlds.{Binding, Scope, World, binding_of, names_at, typed_locals, SessionValue, session_names}
use Rattle.lq_language.specs.Operations.{on_ok}
use Rattle.lq_language.specs.Operators.{Pattern, One, With, bind, first, first_member, pair, pair_type, pattern_type, second, second_member}
use Rattle.lq_language.specs.MeaningLaws.{by_record, IsScopeOfValues, IsValueOf, no_member, one_member}
use Rattle.lq_language.proofs.ItemLaws.{every_more, first_of, others_of}
use Rattle.lq_tree.specs.BindingLaws.{Holds, Reaches, ReachesAll, GivesAll}
use Rattle.lq_tree.specs.FormMeaning.{Slots, form_meaning, if_there}
use Rattle.lq_tree.specs.Places.{Place, Places, names_of_places, place_of, places_of, with_item, SessionPlace}
use Rattle.lq_tree.specs.declared.tree.Form.{Form}
use Rattle.lq_tree.specs.declared.tree.Form.TheVariants as form
use Rattle.lq_tree.proofs.FormSteps.{meaning_at}
use Rattle.lq_language.specs.Names.{SessionName}

-- ---- slots

pub append_none : {A : Type 0} (xs : List A) → xs ++ [] ≡ xs
append_none [] = refl
append_none (x ∷ xs) = ap (λ more. x ∷ more) (append_none xs)

pub append_behind : {A : Type 0} (xs ys zs : List A) → (xs ++ ys) ++ zs ≡ xs ++ (ys ++ zs)
append_behind [] ys zs = refl
append_behind (x ∷ xs) ys zs = ap (λ more. x ∷ more) (append_behind xs ys zs)

pub length_one_more : {A : Type 0} (xs : List A) (x : A) → length (xs ++ x ∷ []) ≡ length xs + 1
length_one_more [] x = refl
length_one_more (y ∷ ys) x = let rest = length_one_more ys x in omega (arith, rest)

pub at_end : {A : Type 0} (xs : List A) (x : A) (more : List A) → slice_get ((xs ++ x ∷ []) ++ more) (length xs) ≡ Some x
at_end [] x more = refl
at_end (y ∷ ys) x more = at_end ys x more

module _ {R : Type 0} (world : World R) where
  abbrev Val : Ty → Value R → Type 0
  Val = IsValueOf world

  -- ---- what names refer to

  pub locals_same : (slots : Slots R) (places : List Place) (scope : Scope R) → ReachesAll world slots places scope
      → typed_locals scope ≡ map (λ place. (place.name, place.ty)) places
  locals_same slots [] [] reach = refl
  locals_same slots (place ∷ places) (b ∷ scope) reach =
      let here : (b.name, b.ty) ≡ (place.name, place.ty) = λ i. (sym reach.0.0 i, sym reach.0.1 i) in
      ap₂ (λ (l : List ℕ × Ty) (ls : List (List ℕ × Ty)). l ∷ ls) here (locals_same slots places scope reach.1)
  locals_same slots [] (b ∷ scope) reach = absurd reach
  locals_same slots (place ∷ places) [] reach = absurd reach

  pub session_same : (places : List SessionPlace) (session : List (SessionValue R)) → GivesAll world places session
      → session_names session ≡ map (λ place. place.known) places
  session_same [] [] gives = refl
  session_same (place ∷ places) (s ∷ others) gives =
      ap₂ (λ (known : SessionName) (more : List SessionName). known ∷ more) (sym gives.0.0) (session_same places others gives.1)
  session_same [] (s ∷ others) gives = absurd gives
  session_same (place ∷ places) [] gives = absurd gives

  pub names_same : (slots : Slots R) (places : Places) (scope : Scope R) → Holds world slots places scope → names_at world scope
      ≡ names_of_places world.schemas places
  names_same slots places scope holds =
      λ i. record {
        tables = world.schemas;
        predicates = sym holds.3 i;
        session = session_same places.session world.session holds.2 i;
        locals = locals_same slots places.locals scope holds.1 i;
      }

  -- a place and a binding that are found by one name, or neither
  abbrev pub Found : Slots R → Option Place → Option (Binding R) → Type 0
  Found slots None None = Unit {0}
  Found slots (Some place) (Some b) = Reaches world slots place b × Val b.ty b.value
  Found slots o p = ⊥

  found_by : (slots : Slots R) (c : Bool) (place : Place) (b : Binding R) (o : Option Place) (p : Option (Binding R))
      → Reaches world slots place b × Val b.ty b.value → Found slots o p
      → Found slots (if c then Some place else o) (if c then Some b else p)
  found_by slots true place b o p here rest = here
  found_by slots false place b o p here rest = rest

  pub name_there : (slots : Slots R) (x : List ℕ) (places : List Place) (scope : Scope R) → ReachesAll world slots places scope → IsScopeOfValues world scope
      → Found slots (place_of x places) (binding_of x scope)
  name_there slots x [] [] reach fits = tt
  name_there slots x (place ∷ places) (b ∷ scope) reach fits =
      subst (λ (n : List ℕ). Found slots (if bytes_eq place.name x then Some place else place_of x places)
      (if bytes_eq n x then Some b else binding_of x scope)) reach.0.0
      (found_by slots (bytes_eq place.name x) place b (place_of x places) (binding_of x scope) (reach.0, first_of (λ d. Val d.ty d.value) b scope fits)
      (name_there slots x places scope reach.1 (others_of (λ d. Val d.ty d.value) b scope fits)))
  name_there slots x [] (b ∷ scope) reach fits = absurd reach
  name_there slots x (place ∷ places) [] reach fits = absurd reach

  -- ---- one slot more

  wider : (slots : Slots R) (v : Value R) (places : List Place) (scope : Scope R) → ReachesAll world slots places scope
      → ReachesAll world (slots ++ v ∷ []) places scope
  wider slots v [] [] reach = tt
  wider slots v (place ∷ places) (b ∷ scope) reach = (
    (reach.0.0, reach.0.1, λ more. ap (form_meaning world place.form) (append_behind slots (v ∷ []) more) ∙ reach.0.2 (v ∷ more)),
    wider slots v places scope reach.1,
  )
  wider slots v [] (b ∷ scope) reach = absurd reach
  wider slots v (place ∷ places) [] reach = absurd reach

  -- a form that reaches an item reaches its parts
  abbrev At : Slots R → Form → Value R → Type 0
  At slots item v = (more : Slots R) → form_meaning world item (slots ++ more) ≡ Ok v

  parts_reached : (slots : Slots R) (p : Pattern) (item : Form) (v : Value R) (places : List Place) (scope : Scope R) → At slots item v
      → ReachesAll world slots places scope
      → ReachesAll world slots (places_of p item places) (bind p scope v)
  parts_reached slots (One n t) item v places scope here reach = ((refl, refl, here), reach)
  parts_reached slots (With p n t) item v places scope here reach = (
    (
      refl,
      refl,
      λ more. meaning_at world (slots ++ more) _ (form.outs-Second item)
          ∙ ap (λ (o : Result (Value R) Fault). on_ok o (λ w. Ok (second w))) (here more),
    ),
    parts_reached slots p (form.First item) (first v) places scope
        (λ more. meaning_at world (slots ++ more) _ (form.outs-First item)
        ∙ ap (λ (o : Result (Value R) Fault). on_ok o (λ w. Ok (first w))) (here more)) reach,
  )

  -- ---- parts of pairs

  pub first_of_pair : (v w : Value R) → first (pair v w) ≡ v
  first_of_pair v w = ap (first_member (pair v w)) (outs-value-Rec (([], v) ∷ ([], w) ∷ []))

  pub second_of_pair : (v w : Value R) → second (pair v w) ≡ w
  second_of_pair v w = ap (second_member (pair v w)) (outs-value-Rec (([], v) ∷ ([], w) ∷ []))

  -- ---- items

  -- an item of a pattern: a value of the name's type, or a pair of an item and one more name's value
  abbrev pub IsItem : Pattern → Value R → Type 0
  IsItem (One n t) v = Val t v
  IsItem (With p n t) v = (a : Value R) × (b : Value R) × (v ≡ pair a b) × IsItem p a × Val t b

  pub item_value : (p : Pattern) (v : Value R) → IsItem p v → Val (pattern_type p) v
  item_value (One n t) v item = item
  item_value (With p n t) v item =
      let members : List (List ℕ × Ty) = ([], pattern_type p) ∷ ([], t) ∷ [] in
      subst (Val (pair_type (pattern_type p) t)) (sym item.2)
      (by_record (ty.Rec members) members _ (outs-Rec members)
      (one_member [] (pattern_type p) item.0 _ _ (item_value p item.0 item.3) (one_member [] t item.1 _ _ item.4 no_member)))

  pub bound_values : (p : Pattern) (scope : Scope R) (v : Value R) → IsItem p v → IsScopeOfValues world scope → IsScopeOfValues world (bind p scope v)
  bound_values (One n t) scope v item fits = every_more (λ (b : Binding R). Val b.ty b.value) (record { name = n; ty = t; value = v }) scope item fits
  bound_values (With p n t) scope v item fits =
      every_more (λ (b : Binding R). Val b.ty b.value) (record { name = n; ty = t; value = second v }) (bind p scope (first v))
      (subst (Val t) (sym (ap second item.2 ∙ second_of_pair item.0 item.1)) item.4)
      (bound_values p scope (first v) (subst (IsItem p) (sym (ap first item.2 ∙ first_of_pair item.0 item.1)) item.3) fits)

  -- ---- places

  -- the slots and the scope of a place
  abbrev pub Stands : Slots R → Places → Scope R → Type 0
  Stands slots places scope = IsScopeOfValues world scope × Holds world slots places scope

  pub types_at : (slots : Slots R) (places : Places) (scope : Scope R) → Stands slots places scope → names_at world scope ≡ names_of_places world.schemas places
  types_at slots places scope at = names_same slots places scope at.1

  pub slot_reached : (slots : Slots R) (n : ℕ) (v : Value R) → length slots ≡ n → At (slots ++ v ∷ []) (form.Slot n) v
  slot_reached slots n v is more =
      meaning_at world ((slots ++ v ∷ []) ++ more) _ (form.outs-Slot n)
      ∙ ap (λ (k : ℕ). if_there world (slice_get ((slots ++ v ∷ []) ++ more) k)) (sym is) ∙ ap (if_there world) (at_end slots v more)

  -- where an item is in one slot more
  pub item_stands : (slots : Slots R) (places : Places) (scope : Scope R) (p : Pattern) (v : Value R) → Stands slots places scope → IsItem p v
      → Stands (slots ++ v ∷ []) (with_item places p) (bind p scope v)
  item_stands slots places scope p v at item = (
    bound_values p scope v item at.0,
    (
      length_one_more slots v ∙ ap (λ n. n + 1) at.1.0,
      parts_reached (slots ++ v ∷ []) p (form.Slot places.depth) v places.locals scope (slot_reached slots places.depth v at.1.0)
          (wider slots v places.locals scope at.1.1),
      at.1.2,
      at.1.3,
    ),
  )

  -- what the slot of an item holds
  pub slot_means : (slots : Slots R) (places : Places) (scope : Scope R) (v : Value R) → Stands slots places scope
      → form_meaning world (form.Slot places.depth) (slots ++ v ∷ []) ≡ Ok v
  slot_means slots places scope v at =
      ap (form_meaning world (form.Slot places.depth)) (sym (append_none (slots ++ v ∷ []))) ∙ slot_reached slots places.depth v at.1.0 []
