-- What comes of an outer item and of the inner ones that its key matches, behind what came of the items before.
use Rattle.std.proofs.Common.{◌≡◌, ◌∷◌, ◌++◌, ◌+◌, ◌<◌, ◌≤◌, List, [], ℕ, zero, suc, Bor, Bool, true, false, Option, Some, None, IfOk, Result, Ok, Err, ap, ◌∙◌, sym, refl, subst, append_assoc, append-nil, drop, drop-cons, get_or, length, arith}
use Rattle.std.specs.Cmp.{first_so, second_so}
use Rattle.std.specs.List.{list_all}
use Rattle.std.specs.Option.{option_map, option_to_list}
use Rattle.std.proofs.lemmas.List.{drop_all}
use Rattle.lq_value.specs.declared.value.End.{End}
use Rattle.lq_value.specs.declared.value.End.TheVariants as end
use Rattle.lq_value.specs.declared.value.Fault.{Fault}
use Rattle.lq_value.specs.declared.value.Value.{Value}
use Rattle.lq_value.specs.declared.value.Value.TheVariants as value
use Rattle.lq_language.specs.ClauseMeaning.{matches}
use Rattle.lq_language.specs.Enumerable.{in_front}
use Rattle.lq_language.specs.Stream.{Stream, on_value, one, select_by, select_each, then_ending, then_stream}
use Rattle.lq_language.specs.Worlds.{World}
use Rattle.lq_language.proofs.StreamLaws.{then_assoc}
use Rattle.lq_operators.specs.Matching.{item_at, items_at, pairs_of}
use Rattle.lq_operators.specs.declared.matches.Matches.{Matches}
use Rattle.lq_tree.specs.FormMeaning.{Slots, form_meaning, matched, with_item, with_items}
use Rattle.lq_tree.specs.Watches.{Watch, has_watched_rows, have_watched_rows}
use Rattle.lq_tree.specs.declared.tree.Form.{Form}
use Rattle.lq_tree.specs.declared.tree.Joined.{Joined}
use Rattle.lq_tree.proofs.WatchedValueLaws.{all_one}
use Rattle.lq_plan.specs.Watching.{matches_pass}
use Rattle.lq_pipe.specs.Items.{item_join}
use Rattle.lq_pipe.specs.Joins.{match_at}
use Rattle.lq_pipe.proofs.LogLemmas.{matched_pass}
use Rattle.lq_pipe.proofs.PullLaws.{Comes, comes_on, comes_stopped}

-- what comes of an item stands behind what was made before, and ends so
module _ {A B : Type 0} (f : A → Stream B) where
  pub behind_on : (old new : Stream A) (x : A) (all : Stream B) (made more : List B) (e : End) → old ≡ in_front x new
      → (more, e) ≡ then_ending made end.Done (f x) → e ≡ end.Done → Comes f old all made → Comes f new all more
  behind_on old new x all made more e is behind done comes =
      comes_on f old new x all made more (f x).0 is (ap (λ (d : End). ((f x).0, d)) (sym (ap (λ (s : Stream B). s.1) behind) ∙ done))
      (ap (λ (s : Stream B). s.0) behind) comes

  pub behind_stopped : (old new : Stream A) (x : A) (all : Stream B) (made more : List B) (e : End) (g : Fault) → old ≡ in_front x new
      → (more, e) ≡ then_ending made end.Done (f x) → e ≡ end.Fault g → Comes f old all made → (more, end.Fault g) ≡ all
  behind_stopped old new x all made more e g is behind stops comes =
      comes_stopped f old new x all made more (f x).0 g is (ap (λ (d : End). ((f x).0, d)) (sym (ap (λ (s : Stream B). s.1) behind) ∙ stops))
      (ap (λ (s : Stream B). s.0) behind) comes

-- ---- items at places

module _ {R : Type 0} (m : Matches R) (k : Value R) where
  -- the item that is read at a place, if there is one
  found_at : (p : ℕ) (o : Option (Bor (Value R))) (x : Bor (Value R)) → option_map (λ (b : Bor (Value R)). b.now) o ≡ item_at m k p → o ≡ Some x
      → item_at m k p ≡ Some x.now
  found_at p o x at is = sym at ∙ ap (option_map (λ (b : Bor (Value R)). b.now)) is

  found_none : (p : ℕ) (o : Option (Bor (Value R))) → option_map (λ (b : Bor (Value R)). b.now) o ≡ item_at m k p → o ≡ None → item_at m k p ≡ None
  found_none p o at is = sym at ∙ ap (option_map (λ (b : Bor (Value R)). b.now)) is

  -- where its rows pass, whatever there is, those of the item that is there do
  pub watched_there : (w : Watch R) (p : ℕ) (o : Option (Bor (Value R))) (x : Bor (Value R)) → option_map (λ (b : Bor (Value R)). b.now) o ≡ item_at m k p → o ≡ Some x
      → have_watched_rows w (match_at m k p) ≡ true → has_watched_rows w x.now ≡ true
  watched_there w p o x at is h =
      first_so (has_watched_rows w x.now) true (ap (λ (t : Option (Value R)). have_watched_rows w (option_to_list t)) (sym (found_at p o x at is)) ∙ h)

  -- what a lambda gives of it, behind what was made before
  module _ {B : Type 0} (f : Value R → Result B Fault) (made : List B) where
    alone : (met : Result B Fault) → one met ≡ then_stream (one met) ([], end.Done)
    alone (Ok v) = refl
    alone (Err g) = refl

    pub met_there : (p : ℕ) (o : Option (Bor (Value R))) (x : Bor (Value R)) (met : Result B Fault) (more : List B) (E : Type 0) (answer : Result End E)
        → option_map (λ (b : Bor (Value R)). b.now) o ≡ item_at m k p → o ≡ Some x → met ≡ f x.now → IfOk answer (λ e. (more, e) ≡ then_ending made end.Done (one met))
        → IfOk answer (λ e. (more, e) ≡ then_ending made end.Done (select_by f (match_at m k p) end.Done))
    met_there p o x met more E answer at is gives h =
        subst (λ (t : Stream B). IfOk answer (λ e. (more, e) ≡ then_ending made end.Done t))
        (ap one gives ∙ alone (f x.now) ∙ ap (λ (t : Option (Value R)). select_by f (option_to_list t) end.Done) (sym (found_at p o x at is))) h

    pub none_there : (p : ℕ) (o : Option (Bor (Value R))) → option_map (λ (b : Bor (Value R)). b.now) o ≡ item_at m k p → o ≡ None
        → ◌≡◌ {A = Stream B} (made, end.Done) (then_ending made end.Done (select_by f (match_at m k p) end.Done))
    none_there p o at is =
        ap (λ l. (l, end.Done)) (sym (append-nil made))
        ∙ ap (λ (t : Option (Value R)). then_ending made end.Done (select_by f (option_to_list t) end.Done)) (sym (found_none p o at is))

    -- the same of the sequence of all items that the key matches
    pub met_group : (world : World R) (items : List (Value R)) (met : Result B Fault) (more : List B) (E : Type 0) (answer : Result End E)
        → items ≡ matches k (pairs_of m) → met ≡ f (value.Seq items end.Done) → IfOk answer (λ e. (more, e) ≡ then_ending made end.Done (one met))
        → IfOk answer (λ e. (more, e) ≡ then_ending made end.Done (select_by f (matched world true k (pairs_of m)) end.Done))
    met_group world items met more E answer are gives h =
        subst (λ (t : Stream B). IfOk answer (λ e. (more, e) ≡ then_ending made end.Done t))
        (ap one gives ∙ alone (f (value.Seq items end.Done)) ∙ ap (λ l. select_by f (value.Seq l end.Done ∷ []) end.Done) are) h

  items_left_at : (places : List ℕ) (i : ℕ) → i < length places
      → items_at m k (drop i places) ≡ match_at m k (get_or places i 0) ++ items_at m k (drop (suc i) places)
  items_left_at places i below = ap (items_at m k) (drop-cons places i 0 below)

  -- what is so of all items at places is so of what is at any of them
  module _ (q : Value R → Bool) where
    behind_all : (o : Option (Value R)) (xs : List (Value R)) → list_all q (option_to_list o ++ xs) ≡ true → list_all q xs ≡ true
    behind_all (Some x) xs h = second_so (q x) (list_all q xs) h
    behind_all None xs h = h

    front_all : (o : Option (Value R)) (xs : List (Value R)) → list_all q (option_to_list o ++ xs) ≡ true → list_all q (option_to_list o) ≡ true
    front_all (Some x) xs h = all_one q x (first_so (q x) (list_all q xs) h)
    front_all None xs h = refl

    left_all : (i : ℕ) (places : List ℕ) → list_all q (items_at m k places) ≡ true → list_all q (items_at m k (drop i places)) ≡ true
    left_all zero places h = h
    left_all (suc i) [] h = refl
    left_all (suc i) (p ∷ places) h = left_all i places (behind_all (item_at m k p) (items_at m k places) h)

    at_place : (places : List ℕ) (i : ℕ) → list_all q (items_at m k places) ≡ true → i < length places → list_all q (match_at m k (get_or places i 0)) ≡ true
    at_place places i h below =
        front_all (item_at m k (get_or places i 0)) (items_at m k (drop (suc i) places)) (ap (list_all q) (sym (items_left_at places i below)) ∙ left_all i places h)

  -- where the rows in the items that keys match pass, those of what is at a place of a key do
  pub watched_at : (world : World R) (w : Watch R) (places : List ℕ) (i : ℕ) → items_at m k places ≡ matches k (pairs_of m)
      → matches_pass w (pairs_of m) ≡ true → i < length places → have_watched_rows w (match_at m k (get_or places i 0)) ≡ true
  watched_at world w places i are h below =
      at_place (has_watched_rows w) places i (ap (have_watched_rows w) are ∙ matched_pass w world false k (pairs_of m) h) below

  -- what was made of the items before, with what a lambda gives of those at the places that are left
  module _ {B : Type 0} (f : Value R → Result B Fault) (places : List ℕ) (all : Stream B) where
    abbrev pub GivesAt : List B → ℕ → Type 0
    GivesAt made i = then_ending made end.Done (select_by f (items_at m k (drop i places)) end.Done) ≡ all

    abbrev here : ℕ → Stream B
    here i = select_by f (match_at m k (get_or places i 0)) end.Done

    abbrev rest : ℕ → Stream B
    rest i = select_by f (items_at m k (drop (suc i) places)) end.Done

    next_of : (i : ℕ) → suc i ≡ i + 1
    next_of i = omega arith

    -- what is at a place comes before what is left
    in_turn : (o : Option (Value R)) (xs : List (Value R)) → select_by f (option_to_list o ++ xs) end.Done ≡ then_stream (select_by f (option_to_list o) end.Done) (select_by f xs end.Done)
    in_turn (Some x) xs = then_here (f x) where
      then_here : (met : Result B Fault) → then_stream (one met) (select_by f xs end.Done) ≡ then_stream (then_stream (one met) ([], end.Done)) (select_by f xs end.Done)
      then_here (Ok v) = refl
      then_here (Err g) = refl
    in_turn None xs = refl

    -- so much is made with what is at a place, and ends so
    abbrev Made : (Value R → Result B Fault) → List B → List B → ℕ → End → Type 0
    Made g made more i e = (more, e) ≡ then_ending made end.Done (select_by g (match_at m k (get_or places i 0)) end.Done)

    given_here : (g : Value R → Result B Fault) (made more : List B) (i : ℕ) (e : End) → i < length places → g ≡ f → Made g made more i e → GivesAt made i
        → then_ending more e (rest i) ≡ all
    given_here g made more i e below same is goes =
        ap (λ (s : Stream B). then_stream s (rest i)) (subst (λ h. Made h made more i e) same is)
        ∙ sym (then_assoc made end.Done (here i).0 (here i).1 (rest i))
        ∙ ap (then_ending made end.Done) (sym (in_turn (item_at m k (get_or places i 0)) (items_at m k (drop (suc i) places))))
        ∙ ap (λ l. then_ending made end.Done (select_by f l end.Done)) (sym (items_left_at places i below)) ∙ goes

    pub given_on : (g : Value R → Result B Fault) (made more : List B) (i : ℕ) (e : End) → i < length places → g ≡ f → Made g made more i e → e ≡ end.Done
        → GivesAt made i → GivesAt more (i + 1)
    given_on g made more i e below same is done goes =
        subst (λ n. GivesAt more n) (next_of i) (ap (λ d. then_ending more d (rest i)) (sym done) ∙ given_here g made more i e below same is goes)

    pub given_stopped : (g : Value R → Result B Fault) (made more : List B) (i : ℕ) (e : End) (fault : Fault) → i < length places → g ≡ f → Made g made more i e
        → e ≡ end.Fault fault → GivesAt made i → (more, end.Fault fault) ≡ all
    given_stopped g made more i e fault below same is stops goes =
        ap (λ d. then_ending more d (rest i)) (sym stops) ∙ given_here g made more i e below same is goes

    pub given_ended : (made : List B) (i : ℕ) → length places ≤ i → GivesAt made i → (made, end.Done) ≡ all
    given_ended made i over goes =
        ap (λ l. (l, end.Done)) (sym (append-nil made))
        ∙ ap (λ l. then_ending made end.Done (select_by f (items_at m k l) end.Done)) (sym (drop_all i places over)) ∙ goes

-- the rows in the sequence of all items that a key matches pass
pub group_passes : {R : Type 0} → (w : Watch R) (world : World R) (k : Value R) (qs : List (Value R × Value R)) (items : List (Value R)) → items ≡ matches k qs
    → matches_pass w qs ≡ true → has_watched_rows w (value.Seq items end.Done) ≡ true
group_passes w world k qs items are h =
    ap (λ (l : List _). has_watched_rows w (value.Seq l end.Done)) are
    ∙ first_so (has_watched_rows w (value.Seq (matches k qs) end.Done)) true (matched_pass w world true k qs h)

-- ---- an outer item

module _ {R : Type 0} (world : World R) (slots : Slots R) (j : Joined Form) (qs : List (Value R × Value R)) (x : Value R) where
  -- a slot for the outer item and one for the inner one are two slots
  two_slots : (vs : List (Value R))
      → select_by (λ v. form_meaning world j.result (with_item world (slots ++ x ∷ []) v)) vs end.Done
      ≡ select_each (λ v. form_meaning world j.result (with_items world slots x v)) (vs, end.Done)
  two_slots vs = λ i. select_by (λ v. form_meaning world j.result (append_assoc slots (x ∷ []) (v ∷ []) i)) vs end.Done

  -- what comes of an outer item whose key is met
  joined_met : (deeper : Slots R) (k : Value R) (made more : List (Value R)) (E : Type 0) (answer : Result End E) → deeper ≡ slots ++ x ∷ []
      → Ok k ≡ form_meaning world j.outer_key (with_item world slots x)
      → IfOk answer (λ e. (more, e) ≡ then_ending made end.Done (select_by (λ v. form_meaning world j.result (with_item world deeper v)) (matched world j.grouped k qs) end.Done))
      → IfOk answer (λ e. (more, e) ≡ then_ending made end.Done (item_join world slots j qs x))
  joined_met deeper k made more E answer slots_are met h =
      subst (λ (t : Stream (Value R)). IfOk answer (λ e. (more, e) ≡ then_ending made end.Done t))
      (ap (λ (d : Slots R). select_by (λ v. form_meaning world j.result (with_item world d v)) (matched world j.grouped k qs) end.Done) slots_are
      ∙ two_slots (matched world j.grouped k qs)
      ∙ ap (λ (o : Result (Value R) Fault). on_value o (λ y. select_each (λ v. form_meaning world j.result (with_items world slots x v)) (matched world j.grouped y qs, end.Done))) met) h

  -- the same by a lambda that is the join's, where it is known whether the matches are to be grouped
  pub joined_by : (deeper : Slots R) (k : Value R) (body : Form) (b : Bool) (made more : List (Value R)) (E : Type 0) (answer : Result End E) → deeper ≡ slots ++ x ∷ []
      → Ok k ≡ form_meaning world j.outer_key (with_item world slots x) → body ≡ j.result → j.grouped ≡ b
      → IfOk answer (λ e. (more, e) ≡ then_ending made end.Done (select_by (λ v. form_meaning world body (with_item world deeper v)) (matched world b k qs) end.Done))
      → IfOk answer (λ e. (more, e) ≡ then_ending made end.Done (item_join world slots j qs x))
  joined_by deeper k body b made more E answer slots_are met is told h =
      joined_met deeper k made more E answer slots_are met
      (subst (λ (t : Stream (Value R)). IfOk answer (λ e. (more, e) ≡ then_ending made end.Done t))
      (λ i. select_by (λ v. form_meaning world (is i) (with_item world deeper v)) (matched world (sym told i) k qs) end.Done) h)

  -- and of one whose key is a fault
  pub joined_unmet : (g : Fault) (made : List (Value R)) → Err g ≡ form_meaning world j.outer_key (with_item world slots x)
      → ◌≡◌ {A = Stream (Value R)} (made, end.Fault g) (then_ending made end.Done (item_join world slots j qs x))
  joined_unmet g made unmet =
      ap (λ l. (l, end.Fault g)) (sym (append-nil made))
      ∙ ap (λ (o : Result (Value R) Fault). then_ending made end.Done (on_value o (λ y. select_each (λ v. form_meaning world j.result (with_items world slots x v)) (matched world j.grouped y qs, end.Done)))) unmet
