-- The numbers that are read in columns are those of a group's members, and what is selected of a group is what comes of its tallies.
use Rattle.std.proofs.Common.{◌≡◌, ◌<◌, ◌≤◌, ◌∷◌, ◌++◌, List, [], ◌+◌, ℕ, ℤ, zero, suc, Option, None, Some, Result, Ok, Err, IfSome, ap, ◌∙◌, sym, refl, subst, fold, get_or, length, map, slice_get, take, arith}
use Rattle.std.specs.List.{AllByRecursion}
use Rattle.std.specs.Prelude.{option_and_then}
use Rattle.std.proofs.lemmas.List.{map-append, take_all, take_more}
use Rattle.std.proofs.lemmas.Option.{none-some, same_Some, slice_get-get_or}
use Rattle.lq_value.specs.declared.scalar.Scalar.{Scalar}
use Rattle.lq_value.specs.declared.scalar.Scalar.TheVariants as scalar
use Rattle.lq_value.specs.declared.ty.Ty.{Ty}
use Rattle.lq_value.specs.declared.value.End.{End}
use Rattle.lq_value.specs.declared.value.End.TheVariants as end
use Rattle.lq_value.specs.declared.value.Fault.{Fault}
use Rattle.lq_value.specs.declared.value.Value.{Value, out-Value}
use Rattle.lq_value.specs.declared.value.Value.TheVariants as value
use Rattle.lq_grammar.specs.declared.syntax.Field.{Field}
use Rattle.lq_language.specs.Meaning.{number_in, simple_meaning}
use Rattle.lq_language.specs.OperandMeaning.{as_value, items_of, stream_of}
use Rattle.lq_language.specs.Operations.{on_ok}
use Rattle.lq_language.specs.Stream.{Stream, one, select_by, then_stream}
use Rattle.lq_language.specs.Worlds.{World}
use Rattle.lq_language.specs.declared.methods.Simple.{Simple}
use Rattle.lq_language.specs.declared.methods.Simple.TheVariants as simple
use Rattle.lq_operators.specs.GroupTallies.{more, number_at, numbers_at, row_more, tallies_of}
use Rattle.lq_operators.specs.Tallies.{begins, int_in, tallied, tally_result}
use Rattle.lq_operators.specs.TallyLaws.{ints_in}
use Rattle.lq_operators.specs.declared.numbers.Tally.{Tally}
use Rattle.lq_operators.proofs.GroupTallyLaws.{scalar_is, tally_answers, tally_at}
use Rattle.lq_tree.specs.FormMeaning.{Slots, form_meaning, if_there, key_in, members_of, with_item}
use Rattle.lq_tree.specs.declared.tree.Form.{Form}
use Rattle.lq_tree.specs.declared.tree.Form.TheVariants as form
use Rattle.lq_plan.specs.Aggregates.{AreColumnsOf, AreNumbersOf, AreReadOf, IsColumnOf, IsNumberBy, IsReadOf, IsTallyOf, LambdaGivesCell, TalliesGiveCells, answer_of, begins_in, items_by, member_of, members_of_group}
use Rattle.lq_plan.specs.declared.aggregates.GroupTally.{GroupTally}
use Rattle.lq_plan.specs.Lists.{field_means}
use Rattle.lq_plan.specs.Prepared.{GivesCell, IsCell}
use Rattle.lq_plan.specs.Pulling.{through_select}
use Rattle.std.specs.Borrow.{Bor}
use Rattle.lq_plan.specs.declared.lambdas.Lambda.{Lambda}
use Rattle.lq_plan.specs.declared.aggregates.GroupMember.{GroupMember}
use Rattle.lq_plan.specs.declared.aggregates.GroupRead.{GroupRead}
use Rattle.lq_plan.specs.declared.aggregates.GroupRead.TheVariants as read
use Rattle.lq_plan.proofs.FormLaws.{form_key, form_record, form_select, form_simple, form_slot}
use Rattle.lq_plan.proofs.PullLaws.{stream_sequence}
use Rattle.lq_plan.proofs.SlotLaws.{last_found}

-- ---- members, tallies and columns, one after another

more_there : {A : Type 0} (xs ys : List A) (n : ℕ) (x : A) → slice_get xs n ≡ Some x → slice_get (xs ++ ys) n ≡ Some x
more_there [] ys n x is = absurd (none-some x is)
more_there (y ∷ xs) ys zero x is = is
more_there (y ∷ xs) ys (suc n) x is = more_there xs ys n x is

pub all_after : {A : Type 0} (P : A → Type 0) (xs ys : List A) → AllByRecursion P xs → AllByRecursion P ys → AllByRecursion P (xs ++ ys)
all_after P [] ys all others = others
all_after P (x ∷ xs) ys all others = (all.0, all_after P xs ys all.1 others)

read_still : (d : ℕ) (ts us : List GroupTally) (f : Form) (read : GroupRead) → IsReadOf d ts f read → IsReadOf d (ts ++ us) f read
read_still d ts us f read.Key is = is
read_still d ts us f (read.Tally place) is = (is.0, more_there ts us place is.0 is.1, is.2)

reads_still : (d : ℕ) (ts us : List GroupTally) (fs : List (Field Form)) (ms : List GroupMember) → AreReadOf d ts fs ms → AreReadOf d (ts ++ us) fs ms
reads_still d ts us [] [] are = tt
reads_still d ts us [] (m ∷ ms) are = absurd are
reads_still d ts us (f ∷ fs) [] are = absurd are
reads_still d ts us (f ∷ fs) (m ∷ ms) are = (are.0, read_still d ts us f.value m.read are.1, reads_still d ts us fs ms are.2)

reads_more : (d : ℕ) (ts : List GroupTally) (fs : List (Field Form)) (ms : List GroupMember) (f : Field Form) (m : GroupMember) → AreReadOf d ts fs ms
    → m.name.now ≡ f.name → IsReadOf d ts f.value m.read → AreReadOf d ts (fs ++ f ∷ []) (ms ++ m ∷ [])
reads_more d ts [] [] f m are name is = (name, is, tt)
reads_more d ts [] (n ∷ ms) f m are name is = absurd are
reads_more d ts (g ∷ fs) [] f m are name is = absurd are
reads_more d ts (g ∷ fs) (n ∷ ms) f m are name is = (are.0, are.1, reads_more d ts fs ms f m are.2 name is)

-- a member for each field so far, and one more, with which tallies may come
pub reads_on : (d : ℕ) (fs : List (Field Form)) (ts us all : List GroupTally) (ms more : List GroupMember) (m : GroupMember) (i : ℕ) (f : Field Form)
    → f ≡ get_or fs i f → i < length fs → all ≡ ts ++ us → more ≡ ms ++ m ∷ [] → m.name.now ≡ f.name → IsReadOf d all f.value m.read
    → AreReadOf d ts (take i fs) ms → AreReadOf d all (take (i + 1) fs) more
reads_on d fs ts us all ms more m i f at below all_are more_is name is are =
    let here : take (i + 1) fs ≡ take i fs ++ f ∷ [] = take_more fs i f below ∙ ap (λ g. take i fs ++ g ∷ []) (sym at) in
    subst (λ l. AreReadOf d all l more) (sym here)
    (subst (AreReadOf d all (take i fs ++ f ∷ [])) (sym more_is)
    (reads_more d all (take i fs) ms f m (subst (λ l. AreReadOf d l (take i fs) ms) (sym all_are) (reads_still d ts us (take i fs) ms are)) name is))

pub reads_all : (d : ℕ) (ts : List GroupTally) (fs : List (Field Form)) (ms : List GroupMember) (i : ℕ) → length fs ≤ i → AreReadOf d ts (take i fs) ms
    → AreReadOf d ts fs ms
reads_all d ts fs ms i over are = subst (λ l. AreReadOf d ts l ms) (take_all i fs over) are

-- the tally that is put behind the others stands at their number
pub tally_put : (d : ℕ) (f : Form) (ts all : List GroupTally) (t : GroupTally) (place : ℕ) → all ≡ ts ++ t ∷ [] → place ≡ length ts → IsTallyOf d f t
    → IsReadOf d all f (read.Tally place)
tally_put d f ts all t place all_are at is = (t, (λ i. slice_get (all_are i) (at i)) ∙ last_found ts t, is)

-- the tallies that were gone over, and one more, as they begin
pub begins_on : (ts : List GroupTally) (made further : List Tally) (i : ℕ) (t : GroupTally) → t ≡ get_or ts i t → i < length ts → further ≡ made ++ t.begins ∷ []
    → made ≡ begins_in (take i ts) → further ≡ begins_in (take (i + 1) ts)
begins_on ts made further i t at below is so_far =
    is ∙ (λ j. so_far j ++ t.begins ∷ []) ∙ sym (map-append (λ (u : GroupTally). u.begins) (take i ts) (t ∷ []))
    ∙ ap (λ u. begins_in (take i ts ++ u ∷ [])) at ∙ ap begins_in (sym (take_more ts i t below))

pub begins_all : (ts : List GroupTally) (made : List Tally) (i : ℕ) → length ts ≤ i → made ≡ begins_in (take i ts) → made ≡ begins_in ts
begins_all ts made i over so_far = so_far ∙ ap begins_in (take_all i ts over)

column_still : (table most last : ℕ) (by : Option Lambda) (place : Option ℕ) → most ≤ last → IsColumnOf table most by place → IsColumnOf table last by place
column_still table most last None place below is = is
column_still table most last (Some l) place below is = (is.0, is.1, is.2, is.3, let within : is.1 ≤ most = is.4 in omega (arith, within, below))

columns_more : (table most last : ℕ) (ts : List GroupTally) (places : List (Option ℕ)) (t : GroupTally) (place : Option ℕ) → most ≤ last
    → AreColumnsOf table most ts places → IsColumnOf table last t.by place → AreColumnsOf table last (ts ++ t ∷ []) (places ++ place ∷ [])
columns_more table most last [] [] t place below are is = (is, tt)
columns_more table most last [] (p ∷ places) t place below are is = absurd are
columns_more table most last (u ∷ ts) [] t place below are is = absurd are
columns_more table most last (u ∷ ts) (p ∷ places) t place below are is =
    (column_still table most last u.by p below are.0, columns_more table most last ts places t place below are.1 is)

pub columns_on : (table most last : ℕ) (ts : List GroupTally) (places others : List (Option ℕ)) (i : ℕ) (t : GroupTally) (place : Option ℕ) → t ≡ get_or ts i t
    → i < length ts → others ≡ places ++ place ∷ [] → most ≤ last → IsColumnOf table last t.by place → AreColumnsOf table most (take i ts) places
    → AreColumnsOf table last (take (i + 1) ts) others
columns_on table most last ts places others i t place at below others_are up is are =
    let here : take (i + 1) ts ≡ take i ts ++ t ∷ [] = take_more ts i t below ∙ ap (λ u. take i ts ++ u ∷ []) (sym at) in
    subst (λ l. AreColumnsOf table last l others) (sym here)
    (subst (AreColumnsOf table last (take i ts ++ t ∷ [])) (sym others_are) (columns_more table most last (take i ts) places t place up are is))

pub columns_all : (table most : ℕ) (ts : List GroupTally) (places : List (Option ℕ)) (i : ℕ) → length ts ≤ i → AreColumnsOf table most (take i ts) places
    → AreColumnsOf table most ts places
columns_all table most ts places i over are = subst (λ l. AreColumnsOf table most l places) (take_all i ts over) are

-- ---- the numbers in columns

module _ {R : Type 0} (table_of : R → ℕ) (shown : R → List Scalar) (world : World R) where
  -- the cell of a row at the place that a lambda is known to give
  pub cell_given : (slots : Slots R) (place : Option ℕ) (table at : ℕ) (body : Form) (r : R) (s : Scalar) → IfSome place (λ p. IsCell table_of shown world slots table body p)
      → table_of r ≡ table → place ≡ Some at → slice_get (shown r) at ≡ Some s → form_meaning world body (with_item world slots (value.Row r)) ≡ Ok (value.Scalar s)
  cell_given slots None table at body r s cell here is there = absurd (none-some at is)
  cell_given slots (Some p) table at body r s cell here is there =
      subst (λ o. IfOf o) (ap (slice_get (shown r)) (same_Some p at is) ∙ there) (cell.at r here) where
        IfOf : Option Scalar → Type 0
        IfOf o = IfSome o (λ c. form_meaning world body (with_item world slots (value.Row r)) ≡ Ok (value.Scalar c))

  module _ (slots : Slots R) (r : R) (table most : ℕ) (here : table_of r ≡ table) (wide : most < length (shown r)) where
    number_read : (by : Option Lambda) (place : Option ℕ) → IsColumnOf table most by place → LambdaGivesCell table_of shown world slots by
        → IsNumberBy world slots by (value.Row r) (number_at (shown r) place)
    number_read None place is gives = ap (number_at (shown r)) is ∙ sym (ap number_in (value.outs-Row r))
    number_read (Some l) place is gives =
        let within : is.1 ≤ most = is.4 in
        let below : is.1 < length (shown r) = omega (arith, within, wide) in
        let there : slice_get (shown r) is.1 ≡ Some (get_or (shown r) is.1 scalar.Null) = slice_get-get_or (shown r) is.1 scalar.Null below in (
          get_or (shown r) is.1 scalar.Null,
          (λ g. cell_given (with_item world slots g) l.place l.table is.1 l.body.now r (get_or (shown r) is.1 scalar.Null) (gives g).cell (here ∙ sym is.0) is.2 there),
          ap (number_at (shown r)) is.3 ∙ ap (option_and_then int_in) there,
        )

    pub numbers_read : (ts : List GroupTally) (places : List (Option ℕ)) → AreColumnsOf table most ts places → TalliesGiveCells table_of shown world slots ts
        → AreNumbersOf world slots ts (value.Row r) (numbers_at (shown r) places)
    numbers_read [] [] are give = tt
    numbers_read [] (p ∷ places) are give = absurd are
    numbers_read (t ∷ ts) [] are give = absurd are
    numbers_read (t ∷ ts) (p ∷ places) are give = (number_read t.by p are.0 give.0, numbers_read ts places are.1 give.1)

-- ---- what is selected of a group

pub every_so : {A : Type 0} (P Q : A → Type 0) → ((x : A) → P x → Q x) → (xs : List A) → AllByRecursion P xs → AllByRecursion Q xs
every_so P Q so [] all = tt
every_so P Q so (x ∷ xs) all = (so x all.0, every_so P Q so xs all.1)

-- the method with which a tally begins answers what the tally comes to
begun : {R : Type 0} (method : Simple) (t : Tally) → begins method ≡ Some t → (ty : Ty) (s : Stream (Value R)) → simple_meaning method ty s ≡ as_value (tallied ty t s)
begun simple.Count t is ty s = ap (λ (k : Tally). as_value (tallied ty k s)) (same_Some _ t is)
begun simple.Sum t is ty s = ap (λ (k : Tally). as_value (tallied ty k s)) (same_Some _ t is)
begun simple.Min t is ty s = ap (λ (k : Tally). as_value (tallied ty k s)) (same_Some _ t is)
begun simple.Max t is ty s = ap (λ (k : Tally). as_value (tallied ty k s)) (same_Some _ t is)
begun simple.Distinct t is ty s = absurd (none-some t is)
begun simple.Reverse t is ty s = absurd (none-some t is)
begun simple.DefaultIfEmpty t is ty s = absurd (none-some t is)
begun simple.Any t is ty s = absurd (none-some t is)
begun simple.First t is ty s = absurd (none-some t is)
begun simple.FirstOrDefault t is ty s = absurd (none-some t is)
begun simple.Last t is ty s = absurd (none-some t is)
begun simple.Single t is ty s = absurd (none-some t is)
begun simple.SingleOrDefault t is ty s = absurd (none-some t is)

module _ {R : Type 0} (world : World R) (slots : Slots R) (k : Value R) (items : List (Value R)) where
  abbrev group : Value R
  group = value.Group k items

  abbrev there : Slots R
  there = with_item world slots group

  abbrev d : ℕ
  d = length slots

  -- the slot behind these holds the group
  slot_holds : form_meaning world (form.Slot d) there ≡ Ok group
  slot_holds = form_slot world d there ∙ ap (if_there world) (last_found slots group)

  items_there : stream_of world (form_meaning world (form.Slot d) there) ≡ (items, end.Done)
  items_there = ap (stream_of world) slot_holds ∙ ap (items_of world) (value.outs-Group k items)

  -- the items, or what a lambda gives of each, are values with these numbers
  abbrev Have : Option Lambda → List (Option ℤ) → Type 0
  Have by ns = (vs : List (Value R)) × (stream_of world (form_meaning world (items_by d by) there) ≡ (vs, end.Done)) × (ints_in vs ≡ ns)

  module _ (rows : List (List (Option ℤ) × Value R)) (are : items ≡ map (λ row. row.1) rows) where
    -- of each row the number at a place
    abbrev At : Option Lambda → ℕ → List (Option ℤ) → List (List (Option ℤ) × Value R) → Type 0
    At by j [] [] = Unit {0}
    At by j (n ∷ ns) (row ∷ others) = (slice_get row.0 j ≡ Some n) × IsNumberBy world slots by row.1 n × At by j ns others
    At by j ns others = ⊥

    ints_of : (j : ℕ) (ns : List (Option ℤ)) (others : List (List (Option ℤ) × Value R)) → At None j ns others → ints_in (map (λ row. row.1) others) ≡ ns
    ints_of j [] [] all = refl
    ints_of j [] (row ∷ others) all = absurd all
    ints_of j (n ∷ ns) [] all = absurd all
    ints_of j (n ∷ ns) (row ∷ others) all = λ i. sym all.1 i ∷ ints_of j ns others all.2 i

    module _ (l : Lambda) where
      cells_of : (j : ℕ) (ns : List (Option ℤ)) (others : List (List (Option ℤ) × Value R)) → At (Some l) j ns others
          → (vs : List (Value R)) × (through_select world there l.body.now (map (λ row. row.1) others, end.Done) ≡ (vs, end.Done)) × (ints_in vs ≡ ns)
      cells_of j [] [] all = ([], refl, refl)
      cells_of j [] (row ∷ others) all = absurd all
      cells_of j (n ∷ ns) [] all = absurd all
      cells_of j (n ∷ ns) (row ∷ others) all =
          let rest = cells_of j ns others all.2 in (
            value.Scalar all.1.0 ∷ rest.0,
            (λ i. then_stream (one (all.1.1 group i)) (rest.1 i)),
            (λ i. (scalar_is R all.1.0 ∙ sym all.1.2) i ∷ rest.2 i),
          )

    have_numbers : (by : Option Lambda) (j : ℕ) (ns : List (Option ℤ)) → At by j ns rows → Have by ns
    have_numbers None j ns all = (items, items_there, ap ints_in are ∙ ints_of j ns rows all)
    have_numbers (Some l) j ns all =
        let given = cells_of l j ns rows all in (
          given.0,
          ap (stream_of world) (form_select world (form.Slot d) l.body.now there)
              ∙ stream_sequence world there (through_select world there l.body.now (stream_of world (form_meaning world (form.Slot d) there)))
              ∙ ap (through_select world there l.body.now) (items_there ∙ ap (λ xs. (xs, end.Done)) are) ∙ given.1,
          given.2,
        )

    -- where each row has its numbers, each has that of the tally at a place
    abbrev Placed : GroupTally → ℕ → List (List (Option ℤ) × Value R) → Type 0
    Placed t j others = (ns : List (Option ℤ)) × At t.by j ns others

    number_placed : (ts : List GroupTally) (j : ℕ) (t : GroupTally) (x : Value R) (l : List (Option ℤ)) → slice_get ts j ≡ Some t → AreNumbersOf world slots ts x l
        → (n : Option ℤ) × (slice_get l j ≡ Some n) × IsNumberBy world slots t.by x n
    number_placed [] j t x l at all = absurd (none-some t at)
    number_placed (u ∷ ts) j t x [] at all = absurd all
    number_placed (u ∷ ts) zero t x (n ∷ ns) at all = (n, refl, subst (λ (v : GroupTally). IsNumberBy world slots v.by x n) (same_Some u t at) all.0)
    number_placed (u ∷ ts) (suc j) t x (n ∷ ns) at all = number_placed ts j t x ns at all.1

    placed : (ts : List GroupTally) (j : ℕ) (t : GroupTally) → slice_get ts j ≡ Some t → (others : List (List (Option ℤ) × Value R))
        → AllByRecursion (λ row. AreNumbersOf world slots ts row.1 row.0) others → Placed t j others
    placed ts j t at [] all = ([], tt)
    placed ts j t at (row ∷ others) all =
        let here = number_placed ts j t row.1 row.0 at all.0 in
        let rest = placed ts j t at others all.1 in
        (here.0 ∷ rest.0, (here.1, here.2, rest.1))

    places_are : (by : Option Lambda) (j : ℕ) (ns : List (Option ℤ)) (others : List (List (Option ℤ) × Value R)) → At by j ns others
        → map (λ l. slice_get l j) (map (λ row. row.0) others) ≡ map (λ n. Some n) ns
    places_are by j [] [] all = refl
    places_are by j [] (row ∷ others) all = absurd all
    places_are by j (n ∷ ns) [] all = absurd all
    places_are by j (n ∷ ns) (row ∷ others) all = λ i. all.0 i ∷ places_are by j ns others all.2 i

    module _ (ts : List GroupTally) (all : AllByRecursion (λ row. AreNumbersOf world slots ts row.1 row.0) rows) where
      abbrev kept : List (Result Tally Fault)
      kept = tallies_of (begins_in ts) (map (λ row. row.0) rows)

      begins_at : (us : List GroupTally) (j : ℕ) (t : GroupTally) → slice_get us j ≡ Some t → slice_get (begins_in us) j ≡ Some t.begins
      begins_at [] j t at = absurd (none-some t at)
      begins_at (u ∷ us) zero t at = ap (λ (v : GroupTally). Some v.begins) (same_Some u t at)
      begins_at (u ∷ us) (suc j) t at = begins_at us j t at

      -- a form that is a tally of the group is what that tally comes to
      tally_is : (f : Form) (j : ℕ) (t : GroupTally) → slice_get ts j ≡ Some t → IsTallyOf d f t
          → form_meaning world f there ≡ answer_of ts k kept (slice_get ts j) (slice_get kept j)
      tally_is f j t at is =
          let there_are = placed ts j t at rows all in
          let have = have_numbers t.by j there_are.0 there_are.1 in
          ap (λ g. form_meaning world g there) is.2 ∙ form_simple world is.0 t.of.now (items_by d t.by) there ∙ ap (simple_meaning is.0 t.of.now) have.1
          ∙ begun is.0 t.begins is.1 t.of.now (have.0, end.Done) ∙ ap as_value (sym (tally_answers t.of.now t.begins have.0))
          ∙ ap (λ l. as_value (on_ok (fold more (Ok t.begins) l) (λ u. tally_result t.of.now u end.Done))) have.2
          ∙ sym (λ i. answer_of ts k kept (at i)
          (tally_at (begins_in ts) (map (λ row. row.0) rows) j t.begins there_are.0 (begins_at ts j t at) (places_are t.by j there_are.0 rows there_are.1) i))

      member_is : (f : Form) (read : GroupRead) → IsReadOf d ts f read → form_meaning world f there ≡ member_of ts k kept read
      member_is f read.Key is =
          ap (λ g. form_meaning world g there) is ∙ form_key world (form.Slot d) there ∙ ap (λ o. on_ok o (λ v. key_in world (out-Value R v))) slot_holds
          ∙ ap (key_in world) (value.outs-Group k items)
      member_is f (read.Tally j) is = tally_is f j is.0 is.1 is.2

      members_are : (fs : List (Field Form)) (ms : List GroupMember) → AreReadOf d ts fs ms
          → members_of world (map (field_means world) fs) there ≡ members_of_group ts k kept ms
      members_are [] [] are_read = refl
      members_are [] (m ∷ ms) are_read = absurd are_read
      members_are (f ∷ fs) [] are_read = absurd are_read
      members_are (f ∷ fs) (m ∷ ms) are_read =
          λ i. on_ok (member_is f.value m.read are_read.1 i) (λ v. on_ok (members_are fs ms are_read.2 i) (λ l. Ok ((sym are_read.0 i, v) ∷ l)))

      -- the record that is selected of a group is that of its key and tallies
      pub record_is : (fs : List (Field Form)) (ms : List GroupMember) → AreReadOf d ts fs ms
          → form_meaning world (form.Record fs) there ≡ on_ok (members_of_group ts k kept ms) (λ l. Ok (value.Rec l))
      record_is fs ms are_read = form_record world fs there ∙ ap (λ o. on_ok o (λ l. Ok (value.Rec l))) (members_are fs ms are_read)
