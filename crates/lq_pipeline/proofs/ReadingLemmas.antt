-- What a pull takes, and what a reading has taken after so many pulls.
use Rattle.std.proofs.Common.{◌≡◌, ◌∷◌, ◌++◌, ◌||◌, inl, inr, if◌then◌else◌, List, [], ℕ, Bool, true, false, Option, Some, None, Result, Ok, Err, IfOk, map, filter, reverse, ap, ◌∙◌, sym, refl, subst, append_assoc, append-nil}
use Rattle.std.specs.List.{list_all}
use Rattle.std.specs.Cmp.{first_so, second_so}
use Rattle.std.specs.declared.alloc.AllocError.{AllocError}
use Rattle.std.proofs.lemmas.List.{append_cancel_right}
use Rattle.std.proofs.lemmas.List.Elements.{filter-append}
use Rattle.lq_value.specs.declared.scalar.Scalar.{Scalar}
use Rattle.lq_value.specs.declared.value.End.{End}
use Rattle.lq_value.specs.declared.value.End.TheVariants as end
use Rattle.lq_value.specs.declared.value.Fault.{Fault}
use Rattle.lq_value.specs.declared.value.Value.{Value}
use Rattle.lq_value.specs.declared.value.Value.TheVariants as value
use Rattle.lq_host.specs.declared.call.Call.{Call}
use Rattle.lq_language.specs.Stream.{Stream}
use Rattle.lq_language.specs.Worlds.{World}
use Rattle.lq_tree.specs.Watches.{HasGrown, HasPulled, RowFacts, Watch, has_watched_rows, have_watched_rows}
use Rattle.lq_tree.proofs.WatchedValueLaws.{all_before, all_behind, both_so, passing_row}
use Rattle.lq_guard.specs.Handing.{counted, one_more}
use Rattle.lq_guard.proofs.HandingLaws.{counted_append}
use Rattle.lq_plan.specs.Counts.{one_less}
use Rattle.lq_plan.specs.Handing.{handed_out, items_to_come, rows_to_come}
use Rattle.lq_plan.specs.PlannedRows.{is_kept_by, kept_stream, row_verdict}
use Rattle.lq_plan.specs.Watching.{is_covered_pipe}
use Rattle.lq_plan.specs.declared.bases.Base.{Base}
use Rattle.lq_plan.specs.declared.pipes.Pipe.{Pipe}
use Rattle.lq_pipe.specs.Handing.{HandsAtMost, HandsUpTo, Passes, comes_of}
use Rattle.lq_pipeline.specs.Reading.{AreNeededFor, Handed, Reads, Takes}
use Rattle.lq_pipeline.specs.Settling.{is_settled, needed, over, reaches, shortest}
use Rattle.lq_pipeline.proofs.SettlingLaws.{fault_comes, fewer_wanted, first_row, item_comes, needs_none, open_limit, passed_by, reached}

-- maps of appended lists
map_append : {A B : Type 0} (f : A → B) (xs ys : List A) → map f (xs ++ ys) ≡ map f xs ++ map f ys
map_append f [] ys = refl
map_append f (x ∷ xs) ys = ap (λ (l : List _). f x ∷ l) (map_append f xs ys)

module _ {R : Type 0} (world : World R) (facts : RowFacts R) (pipe : Pipe) where
  abbrev C : R → Stream (Value R)
  C = comes_of world [] pipe

  abbrev pub covered : Watch R → Bool
  covered w = is_covered_pipe world w [] pipe

  abbrev N : (List (Value R) → Bool) → List R → List R
  N = needed C

  -- the rows that are handed out, whatever comes
  pub record Front (rows : List R) (n : ℕ) (left : List R) (m : ℕ) (fact : List R → Type 0) : Type 0 where
    pub front : List R
    pub is : rows ≡ front ++ left
    pub count : m ≡ counted n front
    pub needs : fact front

  abbrev NeedsFor : List R → Result (Result (Value R) End) AllocError → List R → List R → Type 0
  NeedsFor rows result left front = (decide : List (Value R) → Bool) → decide [] ≡ false → AreNeededFor C decide rows front result left

  module _ (rows : List R) (n : ℕ) (left : List R) (m : ℕ) where
    -- behind rows of which nothing comes, and to the row behind them
    module _ (r : R) (k : ℕ) (passes : Passes world [] pipe rows n (r ∷ left) k) (last : m ≡ one_more k) where
      abbrev up_to : List R
      up_to = passes.before ++ r ∷ []

      rows_are : rows ≡ up_to ++ left
      rows_are = passes.is ∙ sym (append_assoc passes.before (r ∷ []) left)

      count_is : m ≡ counted n up_to
      count_is = last ∙ ap one_more passes.count ∙ sym (counted_append n passes.before (r ∷ []))

      needed_is : (decide : List (Value R) → Bool) → decide [] ≡ false → N decide rows ≡ passes.before ++ N decide (r ∷ left)
      needed_is decide wants = ap (N decide) passes.is ∙ passed_by C decide passes.before (r ∷ left) passes.give_nothing wants

      of_item : (x : Value R) → C r ≡ (x ∷ [], end.Done) → Front rows n left m (NeedsFor rows (Ok (Ok x)) left)
      of_item x comes = record {
        front = up_to;
        is = rows_are;
        count = count_is;
        needs = λ decide wants. needed_is decide wants
            ∙ ap (λ (l : List R). passes.before ++ l) (item_comes C decide r left x comes wants)
            ∙ sym (append_assoc passes.before (r ∷ []) (N (λ xs. decide (x ∷ xs)) left));
      }

      of_fault : (f : Fault) → C r ≡ ([], end.Fault f) → Front rows n left m (NeedsFor rows (Ok (Err (end.Fault f))) left)
      of_fault f comes = record {
        front = up_to;
        is = rows_are;
        count = count_is;
        needs = λ decide wants. needed_is decide wants ∙ ap (λ (l : List R). passes.before ++ l) (fault_comes C decide r left f comes wants);
      }

      of_refusal : (e : AllocError) → Front rows n left m (NeedsFor rows (Err e) left)
      of_refusal e = record {
        front = up_to;
        is = rows_are;
        count = count_is;
        needs = λ decide wants.
            let others = shortest (λ front. is_settled decide (over C (r ∷ front))) left in (
              others,
              needed_is decide wants
                  ∙ ap (λ (l : List R). passes.before ++ l) (first_row C decide r left (C r) refl wants)
                  ∙ sym (append_assoc passes.before (r ∷ []) others),
            );
      }

    -- where all rows are handed out and nothing comes of them
    module _ (passes : Passes world [] pipe rows n [] m) (none : left ≡ []) where
      all_are : rows ≡ passes.before ++ left
      all_are = passes.is ∙ ap (λ (l : List R). passes.before ++ l) (sym none)

      all_needed : (decide : List (Value R) → Bool) → decide [] ≡ false → N decide rows ≡ passes.before ++ []
      all_needed decide wants = ap (N decide) passes.is ∙ passed_by C decide passes.before [] passes.give_nothing wants

      item_of_none : (x : Value R) → Front rows n left m (NeedsFor rows (Ok (Ok x)) left)
      item_of_none x = record {
        front = passes.before;
        is = all_are;
        count = passes.count;
        needs = λ decide wants. all_needed decide wants
            ∙ ap (λ (l : List R). passes.before ++ N (λ xs. decide (x ∷ xs)) l) (sym none);
      }

      end_of_all : (e : End) → Front rows n left m (NeedsFor rows (Ok (Err e)) left)
      end_of_all e = record {
        front = passes.before;
        is = all_are;
        count = passes.count;
        needs = λ decide wants. all_needed decide wants ∙ append-nil passes.before;
      }

      refusal_of_all : (e : AllocError) → Front rows n left m (NeedsFor rows (Err e) left)
      refusal_of_all e = record {
        front = passes.before;
        is = all_are;
        count = passes.count;
        needs = λ decide wants. ([], all_needed decide wants);
      }

    fronts_item : (x : Value R) → HandsUpTo world [] pipe rows n (Ok x) left m → Front rows n left m (NeedsFor rows (Ok (Ok x)) left)
    fronts_item x (inl settles) = of_item settles.0 settles.2.0 settles.2.1 settles.2.2 x settles.1
    fronts_item x (inr all) = item_of_none all.0 all.1 x

    fronts_end : (e : End) → HandsUpTo world [] pipe rows n (Err e) left m → Front rows n left m (NeedsFor rows (Ok (Err e)) left)
    fronts_end end.Done all = end_of_all all.0 all.1 end.Done
    fronts_end (end.Fault f) (inl settles) = of_fault settles.0 settles.2.0 settles.2.1 settles.2.2 f settles.1
    fronts_end (end.Fault f) (inr all) = end_of_all all.0 all.1 (end.Fault f)

    fronts_refusal : (e : AllocError) → HandsAtMost world [] pipe rows n left m → Front rows n left m (NeedsFor rows (Err e) left)
    fronts_refusal e (inl one) = of_refusal one.0 one.1.0 one.1.1 one.1.2 e
    fronts_refusal e (inr all) = refusal_of_all all.0 all.1 e

    pub fronts : (result : Result (Result (Value R) End) AllocError) → IfOk result (λ step. HandsUpTo world [] pipe rows n step left m)
        → HandsAtMost world [] pipe rows n left m → Front rows n left m (NeedsFor rows result left)
    fronts (Ok (Ok x)) hands within = fronts_item x hands
    fronts (Ok (Err e)) hands within = fronts_end e hands
    fronts (Err e) hands within = fronts_refusal e within

  -- ---- calls

  module _ (keep : R → Bool) (w : Watch R) where
    kept_one : (b : Bool) (r : R) (rest : List R) → w.row r ≡ true → have_watched_rows w (map value.Row rest) ≡ true
        → have_watched_rows w (map value.Row (if b then r ∷ rest else rest)) ≡ true
    kept_one true r rest passes others =
        both_so (has_watched_rows w (value.Row r)) (have_watched_rows w (map value.Row rest)) (passing_row w (value.Row r) r refl passes) others
    kept_one false r rest passes others = others

    kept_pass : (rows : List R) → list_all w.row rows ≡ true → have_watched_rows w (map value.Row (filter keep rows)) ≡ true
    kept_pass [] all = refl
    kept_pass (r ∷ rows) all =
        kept_one (keep r) r (filter keep rows) (first_so (w.row r) (list_all w.row rows) all) (kept_pass rows (second_so (w.row r) (list_all w.row rows) all))

  module _ (table_of : R → ℕ) (shown : R → List Scalar) {S : Type 0} (old new : Base R S) (alone : items_to_come old ≡ []) (still : items_to_come new ≡ []) where
    abbrev keep : R → Bool
    keep r = is_kept_by (row_verdict table_of shown pipe.plan r)

    abbrev kept : List R → List (Value R)
    kept rows = map value.Row (filter keep rows)

    kept_alone : (base : Base R S) → items_to_come base ≡ [] → (kept_stream table_of shown pipe.plan base).0 ≡ kept base.rows
    kept_alone base none = ap (λ (items : List (Value R)). kept base.rows ++ reverse items) none ∙ append-nil (kept base.rows)

    -- the items that a pull took are rows that were handed out
    taken_are : (front : List R) (items : List (Value R)) → rows_to_come old ≡ front ++ rows_to_come new
        → (kept_stream table_of shown pipe.plan old).0 ≡ items ++ (kept_stream table_of shown pipe.plan new).0 → items ≡ kept front
    taken_are front items is taken =
        append_cancel_right items (kept front) (kept new.rows)
        (ap (λ (l : List (Value R)). items ++ l) (sym (kept_alone new still))
        ∙ sym taken ∙ kept_alone old alone ∙ ap kept is
        ∙ ap (map value.Row) (filter-append keep front new.rows) ∙ map_append value.Row (filter keep front) (filter keep new.rows))

    pub calls_grow : (front : List R) (log more : List Call) → rows_to_come old ≡ front ++ rows_to_come new
        → HasPulled world facts (λ w. is_covered_pipe world w [] pipe) (kept_stream table_of shown pipe.plan old).0 log (kept_stream table_of shown pipe.plan new).0 more
        → (w : Watch R) (start : List Call) → is_covered_pipe world w [] pipe ≡ true → list_all w.row front ≡ true → HasGrown world facts w start log
        → HasGrown world facts w start more
    calls_grow front log more is pulled w start covered pass grown =
        pulled.grows w start covered
        (ap (have_watched_rows w) (taken_are front pulled.front is pulled.is) ∙ kept_pass keep w front pass)
        grown

    pub takes : (log more : List Call) (result : Result (Result (Value R) End) AllocError)
        → HasPulled world facts (λ w. is_covered_pipe world w [] pipe) (kept_stream table_of shown pipe.plan old).0 log (kept_stream table_of shown pipe.plan new).0 more
        → IfOk result (λ step. HandsUpTo world [] pipe (rows_to_come old) (handed_out old) step (rows_to_come new) (handed_out new))
        → HandsAtMost world [] pipe (rows_to_come old) (handed_out old) (rows_to_come new) (handed_out new)
        → Takes world facts covered C (rows_to_come old) (handed_out old) log result (rows_to_come new) (handed_out new) more
    takes log more result pulled hands within =
        let f = fronts (rows_to_come old) (handed_out old) (rows_to_come new) (handed_out new) result hands within in
        (record { front = f.front; is = f.is; count = f.count; grows = calls_grow f.front log more f.is pulled }, f.needs)

-- ---- readings

module _ {R : Type 0} (world : World R) (facts : RowFacts R) (test : Watch R → Bool) (come : R → Stream (Value R)) where
  abbrev needs : (List (Value R) → Bool) → List R → List R
  needs = needed come

  module _ (first : List (Value R) → Bool) (rows : List R) (n : ℕ) (log : List Call) where
    -- so far: what was handed out is what was needed, but for what is still needed for what is decided by the items to come
    abbrev pub Goes : (List (Value R) → Bool) → List R → ℕ → List Call → Type 0
    Goes decide left m more = (handed : Handed world facts test rows n log left m more) × (needs first rows ≡ handed.front ++ needs decide left)

    pub begins : Goes first rows n log
    begins = (record { front = []; is = refl; count = refl; grows = λ w start covered pass grown. grown }, refl)

    module _ (decide : List (Value R) → Bool) (left : List R) (m : ℕ) (more : List Call) (goes : Goes decide left m more) where
      module _ (left' : List R) (m' : ℕ) (more' : List Call) (next : Handed world facts test left m more left' m' more') where
        abbrev pub both : Handed world facts test rows n log left' m' more'
        both = record {
          front = goes.0.front ++ next.front;
          is = goes.0.is ∙ ap (λ (l : List R). goes.0.front ++ l) next.is ∙ sym (append_assoc goes.0.front next.front left');
          count = next.count ∙ ap (λ (c : ℕ). counted c next.front) goes.0.count ∙ sym (counted_append n goes.0.front next.front);
          grows = λ w start covered pass grown.
              next.grows w start covered (all_behind w.row goes.0.front next.front pass)
              (goes.0.grows w start covered (all_before w.row goes.0.front next.front pass) grown);
        }

        needs_both : (others : List R) → needs decide left ≡ next.front ++ others → needs first rows ≡ (goes.0.front ++ next.front) ++ others
        needs_both others is = goes.1 ∙ ap (λ (l : List R). goes.0.front ++ l) is ∙ sym (append_assoc goes.0.front next.front others)

        pub goes_on : (x : Value R) → AreNeededFor come decide left next.front (Ok (Ok x)) left' → Goes (λ xs. decide (x ∷ xs)) left' m' more'
        goes_on x are = (both, needs_both (needs (λ xs. decide (x ∷ xs)) left') are)

        pub ends : {A : Type 0} (e : End) (a : A) → AreNeededFor come decide left next.front (Ok (Err e)) left'
            → Reads world facts test come first rows n log (Ok a) left' m' more'
        ends e a are = (both, goes.1 ∙ ap (λ (l : List R). goes.0.front ++ l) are)

        pub is_refused : (A : Type 0) (e d : AllocError) → AreNeededFor come decide left next.front (Err e) left'
            → Reads world facts test come {A = A} first rows n log (Err d) left' m' more'
        is_refused A e d are = (both, (are.0, needs_both are.0 are.1))

      -- where it is decided, and where a growth is refused before anything more is read
      pub is_decided : {A : Type 0} (a : A) → decide [] ≡ true → Reads world facts test come first rows n log (Ok a) left m more
      is_decided a wants = (goes.0, goes.1 ∙ ap (λ (l : List R). goes.0.front ++ l) (needs_none come decide left wants) ∙ append-nil goes.0.front)

      pub is_refused_there : (A : Type 0) (d : AllocError) → Reads world facts test come {A = A} first rows n log (Err d) left m more
      is_refused_there A d = (goes.0, (needs decide left, goes.1))

    -- ---- up to a limit

    abbrev Taking : List R → ℕ → List Call → Result (Result (Value R) End) AllocError → List R → ℕ → List Call → Type 0
    Taking = Takes world facts test come

    module _ (limit less : Option ℕ) (wanted : one_less limit ≡ Some less) (left : List R) (m : ℕ) (more : List Call) (goes : Goes (reaches limit) left m more)
        (left' : List R) (m' : ℕ) (more' : List Call) where
      pub reads_item : (x : Value R) → Taking left m more (Ok (Ok x)) left' m' more' → Goes (reaches less) left' m' more'
      reads_item x takes =
          subst (λ (d : List (Value R) → Bool). Goes d left' m' more') (fewer_wanted (Value R) limit less x wanted)
          (goes_on (reaches limit) left m more goes left' m' more' takes.0 x (takes.1 (reaches limit) (open_limit (Value R) limit less wanted)))

      pub reads_end : {A : Type 0} (e : End) (a : A) → Taking left m more (Ok (Err e)) left' m' more' → Reads world facts test come first rows n log (Ok a) left' m' more'
      reads_end e a takes = ends (reaches limit) left m more goes left' m' more' takes.0 e a (takes.1 (reaches limit) (open_limit (Value R) limit less wanted))

      pub reads_refused : (A : Type 0) (e d : AllocError) → Taking left m more (Err e) left' m' more'
          → Reads world facts test come {A = A} first rows n log (Err d) left' m' more'
      reads_refused A e d takes = is_refused (reaches limit) left m more goes left' m' more' takes.0 A e d (takes.1 (reaches limit) (open_limit (Value R) limit less wanted))

      pub reads_full : (A : Type 0) (x : Value R) (d : AllocError) → Taking left m more (Ok (Ok x)) left' m' more'
          → Reads world facts test come {A = A} first rows n log (Err d) left' m' more'
      reads_full A x d takes = is_refused_there (reaches less) left' m' more' (reads_item x takes) A d

    pub reads_over : {A : Type 0} (limit : Option ℕ) (left : List R) (m : ℕ) (more : List Call) (a : A) → one_less limit ≡ None → Goes (reaches limit) left m more
        → Reads world facts test come first rows n log (Ok a) left m more
    reads_over limit left m more a is goes = is_decided (reaches limit) left m more goes a (reached (Value R) limit is)

    -- ---- up to the first item that passes a test

    module _ (passes : Value R → Bool) (decide : List (Value R) → Bool) (none : decide [] ≡ false)
        (one : (x : Value R) (xs : List (Value R)) → decide (x ∷ xs) ≡ (passes x || decide xs))
        (left : List R) (m : ℕ) (more : List Call) (goes : Goes decide left m more) (left' : List R) (m' : ℕ) (more' : List Call) where
      behind : (x : Value R) → Taking left m more (Ok (Ok x)) left' m' more' → Goes (λ xs. decide (x ∷ xs)) left' m' more'
      behind x takes = goes_on decide left m more goes left' m' more' takes.0 x (takes.1 decide none)

      pub looks_on : (x : Value R) → Taking left m more (Ok (Ok x)) left' m' more' → passes x ≡ false → Goes decide left' m' more'
      looks_on x takes is =
          subst (λ (d : List (Value R) → Bool). Goes d left' m' more') (λ i xs. (one x xs ∙ ap (λ (b : Bool). b || decide xs) is) i) (behind x takes)

      pub finds : {A : Type 0} (x : Value R) (a : A) → Taking left m more (Ok (Ok x)) left' m' more' → passes x ≡ true
          → Reads world facts test come first rows n log (Ok a) left' m' more'
      finds x a takes is =
          is_decided (λ (xs : List (Value R)). decide (x ∷ xs)) left' m' more' (behind x takes) a (one x [] ∙ ap (λ (b : Bool). b || decide []) is)

      pub finds_none : {A : Type 0} (e : End) (a : A) → Taking left m more (Ok (Err e)) left' m' more' → Reads world facts test come first rows n log (Ok a) left' m' more'
      finds_none e a takes = ends decide left m more goes left' m' more' takes.0 e a (takes.1 decide none)

      pub looking_refused : (A : Type 0) (e d : AllocError) → Taking left m more (Err e) left' m' more'
          → Reads world facts test come {A = A} first rows n log (Err d) left' m' more'
      looking_refused A e d takes = is_refused decide left m more goes left' m' more' takes.0 A e d (takes.1 decide none)

      pub testing_refused : (A : Type 0) (x : Value R) (d : AllocError) → Taking left m more (Ok (Ok x)) left' m' more'
          → Reads world facts test come {A = A} first rows n log (Err d) left' m' more'
      testing_refused A x d takes = is_refused_there (λ (xs : List (Value R)). decide (x ∷ xs)) left' m' more' (behind x takes) A d
