-- Tallies as the items that are grouped are pulled, and the records that are selected of their groups.
use Rattle.std.proofs.Common.{◌≡◌, ◌∷◌, ◌++◌, List, [], ℕ, ℤ, Bool, true, false, Option, Some, IfSome, Result, Ok, Err, ap, ◌∙◌, sym, refl, subst, append-nil, append_assoc, if◌then◌else◌, filter, length, map, ◌+◌, ◌<◌, ◌≤◌, suc, arith, drop, drop-cons, get_or}
use Rattle.std.specs.List.{AllByRecursion}
use Rattle.std.proofs.lemmas.List.{drop_all, map-append}
use Rattle.lq_value.specs.SameAndOrder.{same_values}
use Rattle.lq_value.specs.declared.value.End.{End}
use Rattle.lq_value.specs.declared.value.End.TheVariants as end
use Rattle.lq_value.specs.declared.value.Fault.{Fault}
use Rattle.lq_value.specs.declared.value.RowRef as Cells
use Rattle.lq_value.specs.declared.value.Value.{Value}
use Rattle.lq_value.specs.declared.value.Value.TheVariants as value
use Rattle.lq_host.specs.declared.asks.Asks as Hosts
use Rattle.lq_grammar.specs.declared.syntax.Field.{Field}
use Rattle.lq_language.specs.ClauseMeaning.{as_group}
use Rattle.lq_language.specs.OperandMeaning.{stream_of}
use Rattle.lq_language.specs.Operations.{on_ok}
use Rattle.lq_language.specs.Stream.{Stream, both, each, elements_of, first_keys, group_by, groups_of, one, select_by, then_ending, then_stream, whole}
use Rattle.lq_language.specs.Worlds.{World}
use Rattle.lq_operators.specs.GroupTallies.{group_tallies, tallies_in, tallies_of}
use Rattle.lq_operators.specs.declared.group_tallies.GroupTallies.{GroupTallies}
use Rattle.lq_operators.specs.declared.numbers.Tally.{Tally}
use Rattle.lq_tree.specs.FormMeaning.{Slots, form_meaning, with_item}
use Rattle.lq_tree.specs.Watches.{Watch, is_covered}
use Rattle.lq_tree.specs.declared.tree.Form.{Form}
use Rattle.lq_tree.specs.declared.tree.Form.TheVariants as form
use Rattle.lq_plan.specs.Aggregates.{AddsItem, AreNumbersOf, AreReadOf, AreSelected, begins_in, member_of, members_of_group}
use Rattle.lq_tree.proofs.CoveredLaws.{covered_group_by_source}
use Rattle.lq_plan.specs.Plans as plans
use Rattle.lq_plan.specs.Prepared.{IsItem}
use Rattle.lq_plan.specs.Pulling.{stream_behind, through_select}
use Rattle.lq_plan.specs.declared.aggregates.GroupMember.{GroupMember}
use Rattle.lq_plan.specs.declared.aggregates.GroupTally.{GroupTally}
use Rattle.lq_plan.specs.declared.aggregates.SelectedGroups.{SelectedGroups}
use Rattle.lq_plan.specs.declared.rows.Rows as Readers
use Rattle.lq_plan.specs.declared.slots.Slots as values
use Rattle.lq_plan.specs.declared.sources.Sources.{Sources}
use Rattle.lq_plan.specs.declared.tables.TableRow as Rows
use Rattle.lq_plan.specs.declared.stages.Stage.TheVariants as stage
use Rattle.lq_plan.proofs.AggregateLaws.{every_so, record_is}
use Rattle.lq_plan.proofs.FormLaws.{form_group_by}
use Rattle.lq_plan.proofs.LeadingLaws.{all_behind}
use Rattle.lq_plan.proofs.PullLaws.{stream_sequence}
use Rattle.lq_pipe.specs.SelectedGroups.{HasNumbers, HasTallies, TalliesOn, record_of_group, records_of, records_until}
use Rattle.std.specs.Borrow.{Bor}
use Rattle.lq_pipe.proofs.PullLaws.{drained_on, selects_begin, selects_ended, selects_on, selects_stopped}

-- ---- as items are pulled

module _ {R : Type 0} (world : World R) (slots : Slots R) (key : Form) (of : List GroupTally) where
  pub tallies_with : (old new : GroupTallies R) (x : Value R) → AddsItem world slots key of old x new
      → TalliesOn world slots key of old (x ∷ [], end.Done) (Some end.Done) new
  tallies_with old new x adds left all h =
      let row : Value R × (List (Option ℤ) × Value R) = (adds.0, (adds.1, x)) in
      record {
        rows = h.rows ++ row ∷ [];
        have = all_behind (HasNumbers world slots key of) h.rows row h.have (adds.2, adds.3);
        are =
            adds.4 (map (λ (r : Value R × (List (Option ℤ) × Value R)). (r.0, r.1.0)) h.rows) h.are
            ∙ ap (group_tallies (begins_in of))
            (sym (map-append (λ (r : Value R × (List (Option ℤ) × Value R)). (r.0, r.1.0)) h.rows (row ∷ [])));
        goes =
            drained_on (then_stream (x ∷ [], end.Done) left) left all x (map (λ (r : Value R × (List (Option ℤ) × Value R)). r.1.1) h.rows) (map (λ (r : Value R × (List (Option ℤ) × Value R)). r.1.1) (h.rows ++ row ∷ [])) refl
            (map-append (λ (r : Value R × (List (Option ℤ) × Value R)). r.1.1) h.rows (row ∷ [])) h.goes;
      }

  pub tallies_begin : (tallies : GroupTallies R) (left all : Stream (Value R)) → tallies_in tallies ≡ [] → left ≡ all
      → HasTallies world slots key of tallies left all
  tallies_begin tallies left all none is = record { rows = []; have = tt; are = none; goes = is }

  -- what was pulled is what comes first of the items that are left
  pub tallies_pulled : (old new : GroupTallies R) (made before left all : Stream (Value R)) (next : Option End) → before ≡ then_stream made left
      → TalliesOn world slots key of old made next new → next ≡ Some end.Done → HasTallies world slots key of old before all
      → HasTallies world slots key of new left all
  tallies_pulled old new made before left all next is on so h =
      subst (λ o. TalliesOn world slots key of old made o new) so on left all (subst (λ (s : Stream (Value R)). HasTallies world slots key of old s all) is h)

  pub tallies_stopped : (old new : GroupTallies R) (made before left all : Stream (Value R)) (next : Option End) (f : Fault) → before ≡ then_stream made left
      → TalliesOn world slots key of old made next new → next ≡ Some (end.Fault f) → HasTallies world slots key of old before all
      → HasTallies world slots key of new ([], end.Fault f) all
  tallies_stopped old new made before left all next f is on so h =
      subst (λ o. TalliesOn world slots key of old made o new) so on left all (subst (λ (s : Stream (Value R)). HasTallies world slots key of old s all) is h)

  pub tallies_ended : (tallies : GroupTallies R) (before all : Stream (Value R)) (e : End) → before ≡ ([], e)
      → HasTallies world slots key of tallies before all → HasTallies world slots key of tallies ([], e) all
  tallies_ended tallies before all e is h = subst (λ (s : Stream (Value R)). HasTallies world slots key of tallies s all) is h

-- ---- groups of what belongs to items

-- what belongs to the elements of groups belongs to the groups' elements
module _ {K V W : Type 0} (same : K → K → Bool) (f : V → W) where
  abbrev turned : K × V → K × W
  turned q = (q.0, f q.1)

  elements_turned : (k : K) (qs : List (K × V)) → elements_of same k (map turned qs) ≡ map f (elements_of same k qs)
  elements_turned k [] = refl
  elements_turned k (q ∷ qs) = by (same k q.0) (elements_turned k qs) where
    by : (b : Bool) → map (λ p. p.1) (filter (λ p. same k p.0) (map turned qs)) ≡ map f (map (λ p. p.1) (filter (λ p. same k p.0) qs))
        → map (λ p. p.1) (if b then turned q ∷ filter (λ p. same k p.0) (map turned qs) else filter (λ p. same k p.0) (map turned qs))
        ≡ map f (map (λ p. p.1) (if b then q ∷ filter (λ p. same k p.0) qs else filter (λ p. same k p.0) qs))
    by true rest = ap (λ l. f q.1 ∷ l) rest
    by false rest = rest

  keys_turned : (qs : List (K × V)) → map (λ q. q.0) (map turned qs) ≡ map (λ q. q.0) qs
  keys_turned [] = refl
  keys_turned (q ∷ qs) = ap (λ l. q.0 ∷ l) (keys_turned qs)

  abbrev group_turned : K × List V → K × List W
  group_turned g = (g.0, map f g.1)

  of_keys : (ks : List K) (qs : List (K × V)) → map (λ k. (k, elements_of same k (map turned qs))) ks ≡ map group_turned (map (λ k. (k, elements_of same k qs)) ks)
  of_keys [] qs = refl
  of_keys (k ∷ ks) qs = λ i. (k, elements_turned k qs i) ∷ of_keys ks qs i

  pub groups_turned : (qs : List (K × V)) → groups_of same (map turned qs) ≡ map group_turned (groups_of same qs)
  groups_turned qs =
      ap (λ l. map (λ k. (k, elements_of same k (map turned qs))) (first_keys same l)) (keys_turned qs) ∙ of_keys (first_keys same (map (λ q. q.0) qs)) qs

-- ---- what is selected of groups

module _ {K V : Type 0} (same : K → K → Bool) (P : V → Type 0) where
  elements_all : (k : K) (qs : List (K × V)) → AllByRecursion (λ (q : K × V). P q.1) qs → AllByRecursion P (elements_of same k qs)
  elements_all k [] all = tt
  elements_all k (q ∷ qs) all = by (same k q.0) (elements_all k qs all.1) where
    by : (b : Bool) → AllByRecursion P (map (λ p. p.1) (filter (λ p. same k p.0) qs))
        → AllByRecursion P (map (λ p. p.1) (if b then q ∷ filter (λ p. same k p.0) qs else filter (λ p. same k p.0) qs))
    by true rest = (all.0, rest)
    by false rest = rest

  groups_all : (ks : List K) (qs : List (K × V)) → AllByRecursion (λ (q : K × V). P q.1) qs
      → AllByRecursion (λ (g : K × List V). AllByRecursion P g.1) (map (λ k. (k, elements_of same k qs)) ks)
  groups_all [] qs all = tt
  groups_all (k ∷ ks) qs all = (elements_all k qs all, groups_all ks qs all)

module _ {R : Type 0} (world : World R) (slots : Slots R) (of : List GroupTally) (fs : List (Field Form)) (ms : List GroupMember)
    (read : AreReadOf (length slots) of fs ms) where
  abbrev Row : Type 0
  Row = List (Option ℤ) × Value R

  abbrev selects : Value R → Result (Value R) Fault
  selects v = form_meaning world (form.Record fs) (with_item world slots v)

  selected : (gs : List (Value R × List Row))
      → AllByRecursion (λ (g : Value R × List Row). AllByRecursion (λ (v : Row). AreNumbersOf world slots of v.1 v.0) g.1) gs
      → select_by selects (map as_group (map (λ (g : Value R × List Row). (g.0, map (λ (v : Row). v.1) g.1)) gs)) end.Done
      ≡ records_of of ms (map (λ (g : Value R × List (List (Option ℤ))). (g.0, tallies_of (begins_in of) g.1))
      (map (λ (g : Value R × List Row). (g.0, map (λ (v : Row). v.0) g.1)) gs))
  selected [] all = refl
  selected (g ∷ gs) all =
      λ i. then_stream (one (record_is world slots g.0 (map (λ (v : Row). v.1) g.1) g.1 refl of all.0 fs ms read i)) (selected gs all.1 i)

  module _ (a key element : Form) (item : IsItem world slots element) where
    abbrev key_of : Value R → Result (Value R) Fault
    key_of x = form_meaning world key (with_item world slots x)

    abbrev element_of : Value R → Result (Value R) Fault
    element_of x = form_meaning world element (with_item world slots x)

    keyed_is : (rows : List (Value R × Row)) (e : End) → AllByRecursion (HasNumbers world slots key of) rows
        → each (λ x. one (both (key_of x) (element_of x))) (map (λ (r : Value R × Row). r.1.1) rows) e ≡ (map (λ (r : Value R × Row). (r.0, r.1.1)) rows, e)
    keyed_is [] e all = refl
    keyed_is (r ∷ rows) e all = λ i. then_stream (one (both (all.0.0 i) (item.at r.1.1 i))) (keyed_is rows e all.1 i)

    abbrev grouped : Stream (Value R) → Stream (Value R)
    grouped s = group_by same_values key_of element_of as_group s.0 s.1

    grouped_is : (rows : List (Value R × Row)) (e : End) → AllByRecursion (HasNumbers world slots key of) rows
        → grouped (map (λ (r : Value R × Row). r.1.1) rows, e) ≡ whole (map (λ (r : Value R × Row). (r.0, r.1.1)) rows) e (λ qs. (map as_group (groups_of same_values qs), end.Done))
    grouped_is rows e all = ap (λ (s : Stream (Value R × Value R)). whole s.0 s.1 (λ qs. (map as_group (groups_of same_values qs), end.Done))) (keyed_is rows e all)

    source_is : (source : Form) → source ≡ form.GroupBy a key element
        → stream_of world (form_meaning world source slots) ≡ grouped (stream_of world (form_meaning world a slots))
    source_is source is =
        ap (λ f. stream_of world (form_meaning world f slots)) is ∙ ap (stream_of world) (form_group_by world a key element slots)
        ∙ stream_sequence world slots (grouped (stream_of world (form_meaning world a slots)))

    all_is : (tallies : GroupTallies R) (e : End) (all : Stream (Value R)) (h : HasTallies world slots key of tallies ([], e) all)
        → all ≡ (map (λ (r : Value R × Row). r.1.1) h.rows, e)
    all_is tallies e all h = sym h.goes ∙ ap (λ l. (l, e)) (append-nil (map (λ (r : Value R × Row). r.1.1) h.rows))

    pub groups_selected : (source : Form) (body : Bor Form) (tallies : GroupTallies R) (e : End) (all items : Stream (Value R)) → source ≡ form.GroupBy a key element
        → body.now ≡ form.Record fs → all ≡ stream_of world (form_meaning world a slots) → e ≡ end.Done → HasTallies world slots key of tallies ([], e) all
        → items ≡ records_of of ms (tallies_in tallies) → items ≡ stream_behind world slots (stage.Select body) source
    groups_selected source body tallies e all items source_are body_is all_are done h are =
        are ∙ ap (records_of of ms) (h.are ∙ ap (map (λ (g : Value R × List (List (Option ℤ))). (g.0, tallies_of (begins_in of) g.1))) (groups_turned same_values (λ (v : Row). v.0) h.rows))
        ∙ sym (selected (groups_of same_values h.rows)
        (groups_all same_values (λ (v : Row). AreNumbersOf world slots of v.1 v.0) (first_keys same_values (map (λ (q : Value R × Row). q.0) h.rows)) h.rows
        (every_so (HasNumbers world slots key of) (λ (r : Value R × Row). AreNumbersOf world slots of r.1.1 r.1.0) (λ r has. has.1) h.rows h.have)))
        ∙ ap (λ l. select_by selects (map as_group l) end.Done) (sym (groups_turned same_values (λ (v : Row). v.1) h.rows))
        ∙ ap (λ (s : Stream (Value R)). select_by selects s.0 s.1)
        (sym (source_is source source_are ∙ ap grouped (sym all_are ∙ all_is tallies e all h ∙ ap (λ d. (map (λ (r : Value R × Row). r.1.1) h.rows, d)) done)
        ∙ grouped_is h.rows end.Done h.have))
        ∙ ap (λ f. through_select world slots f (stream_of world (form_meaning world source slots))) (sym body_is)

    pub groups_stopped : (source : Form) (body : Bor Form) (tallies : GroupTallies R) (e : End) (f : Fault) (all : Stream (Value R)) (made : List (Value R))
        → source ≡ form.GroupBy a key element → all ≡ stream_of world (form_meaning world a slots) → e ≡ end.Fault f → made ≡ []
        → HasTallies world slots key of tallies ([], e) all → (made, end.Fault f) ≡ stream_behind world slots (stage.Select body) source
    groups_stopped source body tallies e f all made source_are all_are stops none h =
        ap (λ l. (l, end.Fault f)) none
        ∙ ap (through_select world slots body.now)
        (sym (source_is source source_are ∙ ap grouped (sym all_are ∙ all_is tallies e all h ∙ ap (λ d. (map (λ (r : Value R × Row). r.1.1) h.rows, d)) stops)
        ∙ grouped_is h.rows (end.Fault f) h.have))

    pub groups_until : (source : Form) (body : Bor Form) (tallies : GroupTallies R) (e : End) (all items : Stream (Value R)) → source ≡ form.GroupBy a key element
        → body.now ≡ form.Record fs → all ≡ stream_of world (form_meaning world a slots) → HasTallies world slots key of tallies ([], e) all
        → items ≡ records_until of ms (tallies_in tallies) e → items ≡ stream_behind world slots (stage.Select body) source
    groups_until source body tallies end.Done all items source_are body_is all_are h are =
        groups_selected source body tallies end.Done all items source_are body_is all_are refl h are
    groups_until source body tallies (end.Fault f) all items source_are body_is all_are h are =
        are ∙ groups_stopped source body tallies (end.Fault f) f all [] source_are all_are refl refl h

-- ---- the record of a group, one member after another

module _ {R : Type 0} (of : List GroupTally) (k : Value R) (kept : List (Result Tally Fault)) where
  abbrev rest : List GroupMember → Result (List (List ℕ × Value R)) Fault
  rest ms = members_of_group of k kept ms

  next_place : (n : ℕ) → suc n ≡ n + 1
  next_place n = omega arith

  -- the members so far, and those that are left, are all members
  abbrev pub MembersLeft : List GroupMember → ℕ → List (List ℕ × Value R) → Type 0
  MembersLeft items i made = on_ok (members_of_group of k kept (drop i items)) (λ ms. Ok (made ++ ms)) ≡ members_of_group of k kept items

  one_more : (made : List (List ℕ × Value R)) (name : List ℕ) (v : Value R) (found : Result (List (List ℕ × Value R)) Fault)
      → on_ok found (λ ms. Ok ((made ++ (name, v) ∷ []) ++ ms)) ≡ on_ok (on_ok found (λ ms. Ok ((name, v) ∷ ms))) (λ ms. Ok (made ++ ms))
  one_more made name v (Ok ms) = ap (λ l. Ok l) (append_assoc made ((name, v) ∷ []) ms)
  one_more made name v (Err f) = refl

  members_none : (found : Result (List (List ℕ × Value R)) Fault) → on_ok found (λ ms. Ok ([] ++ ms)) ≡ found
  members_none (Ok ms) = refl
  members_none (Err f) = refl

  pub members_begin : (items : List GroupMember) (made : List (List ℕ × Value R)) → made ≡ [] → MembersLeft items 0 made
  members_begin items made none =
      ap (λ l. on_ok (members_of_group of k kept items) (λ ms. Ok (l ++ ms))) none ∙ members_none (members_of_group of k kept items)

  pub members_on : (items : List GroupMember) (made more : List (List ℕ × Value R)) (i : ℕ) (m : GroupMember) (v : Value R) → m ≡ get_or items i m → i < length items
      → Ok v ≡ member_of of k kept m.read → more ≡ made ++ (m.name.now, v) ∷ [] → MembersLeft items i made → MembersLeft items (i + 1) more
  members_on items made more i m v is below gives more_is goes =
      subst (λ n. MembersLeft items n more) (next_place i)
      (ap (λ l. on_ok (rest (drop (suc i) items)) (λ ms. Ok (l ++ ms))) more_is
      ∙ one_more made m.name.now v (rest (drop (suc i) items))
      ∙ ap (λ r. on_ok (on_ok r (λ w. on_ok (rest (drop (suc i) items)) (λ ms. Ok ((m.name.now, w) ∷ ms)))) (λ ms. Ok (made ++ ms))) gives
      ∙ ap (λ f. on_ok (rest (f ∷ drop (suc i) items)) (λ ms. Ok (made ++ ms))) is
      ∙ ap (λ l. on_ok (rest l) (λ ms. Ok (made ++ ms))) (sym (drop-cons items i m below)) ∙ goes)

  pub members_ended : (items : List GroupMember) (made : List (List ℕ × Value R)) (i : ℕ) → length items ≤ i → MembersLeft items i made
      → Ok (value.Rec made) ≡ record_of_group of items (k, kept)
  members_ended items made i over goes =
      ap (λ r. on_ok r (λ ms. Ok (value.Rec ms)))
      (sym (ap (λ l. Ok l) (append-nil made)) ∙ sym (ap (λ l. on_ok (rest l) (λ ms. Ok (made ++ ms))) (drop_all i items over)) ∙ goes)

  pub members_stopped : (items : List GroupMember) (made : List (List ℕ × Value R)) (i : ℕ) (m : GroupMember) (f : Fault) → m ≡ get_or items i m → i < length items
      → Err f ≡ member_of of k kept m.read → MembersLeft items i made → Err f ≡ record_of_group of items (k, kept)
  members_stopped items made i m f is below stops goes =
      ap (λ r. on_ok r (λ ms. Ok (value.Rec ms)))
      (ap (λ r. on_ok (on_ok r (λ w. on_ok (rest (drop (suc i) items)) (λ ms. Ok ((m.name.now, w) ∷ ms)))) (λ ms. Ok (made ++ ms))) stops
      ∙ ap (λ x. on_ok (rest (x ∷ drop (suc i) items)) (λ ms. Ok (made ++ ms))) is
      ∙ ap (λ l. on_ok (rest l) (λ ms. Ok (made ++ ms))) (sym (drop-cons items i m below)) ∙ goes)

pub ruleset members = (members_begin, members_on, members_ended, members_stopped)

-- ---- the records of groups, one after another

module _ {R : Type 0} (of : List GroupTally) (ms : List GroupMember) (items : List (Value R × List (Result Tally Fault))) where
  following : (n : ℕ) → suc n ≡ n + 1
  following n = omega arith

  here : (g : Value R × List (Result Tally Fault)) (i : ℕ) → g ≡ get_or items i g → i < length items → drop i items ≡ g ∷ drop (suc i) items
  here g i is below = drop-cons items i g below ∙ ap (λ x. x ∷ drop (suc i) items) (sym is)

  -- the records so far, and those of the groups that are left, are those of all groups
  abbrev pub RecordsLeft : ℕ → List (Value R) → Type 0
  RecordsLeft i made = then_ending made end.Done (records_of of ms (drop i items)) ≡ records_of of ms items

  pub records_begin : (made : List (Value R)) → made ≡ [] → RecordsLeft 0 made
  records_begin made none = selects_begin (record_of_group of ms) (items, end.Done) (items, end.Done) made none refl

  pub records_on : (made more : List (Value R)) (i : ℕ) (g : Value R × List (Result Tally Fault)) (v : Value R) → g ≡ get_or items i g → i < length items
      → Ok v ≡ record_of_group of ms g → more ≡ made ++ v ∷ [] → RecordsLeft i made → RecordsLeft (i + 1) more
  records_on made more i g v is below gives more_is goes =
      subst (λ n. RecordsLeft n more) (following i)
      (selects_on (record_of_group of ms) (drop i items, end.Done) (drop (suc i) items, end.Done) g v (records_of of ms items) made more
      (λ j. (here g i is below j, end.Done)) gives more_is goes)

  pub records_stopped : (made : List (Value R)) (i : ℕ) (g : Value R × List (Result Tally Fault)) (f : Fault) → g ≡ get_or items i g → i < length items
      → Err f ≡ record_of_group of ms g → RecordsLeft i made → (made, end.Fault f) ≡ records_of of ms items
  records_stopped made i g f is below gives goes =
      selects_stopped (record_of_group of ms) (drop i items, end.Done) (drop (suc i) items, end.Done) g f (records_of of ms items) made
      (λ j. (here g i is below j, end.Done)) gives goes

  pub records_ended : (made : List (Value R)) (i : ℕ) → length items ≤ i → RecordsLeft i made → (made, end.Done) ≡ records_of of ms items
  records_ended made i over goes =
      selects_ended (record_of_group of ms) (drop i items, end.Done) end.Done (records_of of ms items) made (λ j. (drop_all i items over j, end.Done)) goes

pub ruleset records = (records_begin, records_on, records_stopped, records_ended)

-- ---- the items that are grouped are part of the source

module _ {R S H : Type 0} {t : Rows.Ghosts R} {r : Cells.Ghosts R} {s : Readers.Ghosts S R} {h : Hosts.Ghosts H} (sources : Sources R S H t r s h) where
  pub selects_covered : (w : Watch R) (slots : values.Slots R) (source body : Form) (found : Option SelectedGroups) (selected : SelectedGroups) (part : Form)
      → found ≡ Some selected → IfSome found (AreSelected sources slots source body) → part ≡ selected.items.now
      → is_covered (plans.world sources) w source ≡ true → is_covered (plans.world sources) w part ≡ true
  selects_covered w slots source body found selected part is so same covered =
      let a : AreSelected sources slots source body selected = subst (λ o. IfSome o (AreSelected sources slots source body)) is so in
      covered_group_by_source (plans.world sources) w source selected.items.now a.key.body.now a.element part a.source_is same covered
