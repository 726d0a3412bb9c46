-- Bases: what is left of them as items are taken.
use Rattle.std.proofs.Common.{◌≡◌, ◌∷◌, ◌++◌, if◌then◌else◌, inl, inr, List, [], ℕ, Bool, true, false, Option, Some, None, Result, Ok, Err, ap, ◌∙◌, sym, refl, append-nil, filter, map, reverse}
use Rattle.std.proofs.lemmas.List.{reverse-append, reverse-reverse}
use Rattle.lq_value.specs.declared.scalar.Scalar.{Scalar}
use Rattle.lq_value.specs.declared.value.End.{End}
use Rattle.lq_value.specs.declared.value.Value.{Value}
use Rattle.lq_value.specs.declared.value.Value.TheVariants as value
use Rattle.lq_language.proofs.ItemLaws.{first_of, others_of}
use Rattle.lq_language.specs.Enumerable.{in_front}
use Rattle.lq_language.specs.Stream.{Stream}
use Rattle.lq_language.specs.ValuesOfTypes.{Every}
use Rattle.lq_guard.specs.Handing.{Drops, DropsAll, Finds, one_more}
use Rattle.lq_guard.proofs.HandingLaws.{drops_more, drops_none, drops_same, drops_then, hands_row}
use Rattle.lq_plan.specs.Handing.{HandsOut}
use Rattle.lq_plan.specs.PlannedRows.{is_kept_by, row_verdict}
use Rattle.lq_plan.specs.declared.bases.Pulled.{Pulled}
use Rattle.lq_plan.specs.declared.bases.Pulled.TheVariants as pulled
use Rattle.lq_plan.specs.declared.plans.Plan.{Plan}

module _ {R : Type 0} where
  pub rows_alone : (rows : List R) (items : List (Value R)) (e : End) → items ≡ []
      → ◌≡◌ {A = Stream (Value R)} (map value.Row rows ++ reverse items, e) (map value.Row rows, e)
  rows_alone rows items e none =
      ap (λ (l : List (Value R)). (map value.Row rows ++ reverse l, e)) none ∙ ap (λ (l : List (Value R)). (l, e)) (append-nil (map value.Row rows))

  pub turned : (xs ys : List (Value R)) (e : End) → ys ≡ reverse xs → ◌≡◌ {A = Stream (Value R)} (reverse ys, e) (xs, e)
  turned xs ys e is = ap (λ (l : List (Value R)). (reverse l, e)) is ∙ ap (λ (l : List (Value R)). (l, e)) (reverse-reverse xs)

-- ---- by a plan

module _ {R : Type 0} (table_of : R → ℕ) (shown : R → List Scalar) (plan : Plan) where
  abbrev kept_rows : List R → List R
  kept_rows rows = filter (λ r. is_kept_by (row_verdict table_of shown plan r)) rows

  abbrev kept : List R → List (Value R) → End → Stream (Value R)
  kept rows items e = (map value.Row (kept_rows rows) ++ reverse items, e)

  abbrev kept_if : Bool → R → List R → List (Value R) → End → Stream (Value R)
  kept_if b r further items e = (map value.Row (if b then r ∷ kept_rows further else kept_rows further) ++ reverse items, e)

  at_front : (r : R) (further : List R) (items : List (Value R)) (e : End) (t : Option Bool) → row_verdict table_of shown plan r ≡ t → is_kept_by t ≡ true
      → kept (r ∷ further) items e ≡ in_front (value.Row r) (kept further items e)
  at_front r further items e t is keeps =
      ap (λ (b : Bool). kept_if b r further items e) (ap is_kept_by is ∙ keeps)

  -- a row that passes, or of which nothing is said, comes next
  pub row_passes : (rows : List R) (r : R) (further : List R) (items : List (Value R)) (e : End) → rows ≡ r ∷ further → row_verdict table_of shown plan r ≡ Some true
      → kept rows items e ≡ in_front (value.Row r) (kept further items e)
  row_passes rows r further items e is says = ap (λ l. kept l items e) is ∙ at_front r further items e (Some true) says refl

  pub row_open : (rows : List R) (r : R) (further : List R) (items : List (Value R)) (e : End) → rows ≡ r ∷ further → row_verdict table_of shown plan r ≡ None
      → kept rows items e ≡ in_front (value.Row r) (kept further items e)
  row_open rows r further items e is says = ap (λ l. kept l items e) is ∙ at_front r further items e None says refl

  -- and one that doesn't pass is left out
  pub row_dropped : (rows : List R) (r : R) (further : List R) (items : List (Value R)) (e : End) → rows ≡ r ∷ further → row_verdict table_of shown plan r ≡ Some false
      → kept further items e ≡ kept rows items e
  row_dropped rows r further items e is says =
      sym (ap (λ l. kept l items e) is
      ∙ ap (λ (o : Option Bool). kept_if (is_kept_by o) r further items e) says)

  pub last_kept : (rows : List R) (old new : List (Value R)) (x : Value R) (e : End) → rows ≡ [] → old ≡ new ++ x ∷ []
      → kept rows old e ≡ in_front x (kept rows new e)
  last_kept rows old new x e none is =
      ap (λ (l : List R). kept l old e) none
      ∙ ap (λ (l : List (Value R)). (reverse l, e)) is ∙ ap (λ (l : List (Value R)). (l, e)) (reverse-append new (x ∷ []))
      ∙ ap (λ (l : List R). in_front x (kept l new e)) (sym none)

  -- ---- rows that are handed out

  abbrev says : R → Option Bool
  says = row_verdict table_of shown plan

  abbrev IsDropped : R → Type 0
  IsDropped r = says r ≡ Some false

  pub hands_open : (rows : List R) (n : ℕ) (left : List R) (m : ℕ) (r : R) (further : List R) (k : ℕ) → Drops says rows n left m → left ≡ r ∷ further
      → k ≡ one_more m → HandsOut table_of shown plan rows n (Ok (pulled.Item (value.Row r))) further k
  hands_open rows n left m r further k drops is more = inl (r, refl, hands_row says rows n left m r further k drops is more)

  -- where no row is left: an item, and the end
  pub hands_item : (rows : List R) (n : ℕ) (left : List R) (x : Value R) → rows ≡ [] → left ≡ [] → HandsOut table_of shown plan rows n (Ok (pulled.Item x)) left n
  hands_item rows n left x none over = inr (drops_none says rows [] n none, over)

  pub hands_end : (rows : List R) (n : ℕ) (left : List R) (e : End) → rows ≡ [] → left ≡ [] → HandsOut table_of shown plan rows n (Err e) left n
  hands_end rows n left e none over = (drops_none says rows [] n none, over)

  -- what is handed out behind dropped rows
  pub hands_then : (rows : List R) (n : ℕ) (left : List R) (m : ℕ) (further : List R) (k : ℕ) (result : Result (Pulled R) End) → Drops says rows n left m
      → HandsOut table_of shown plan left m result further k → HandsOut table_of shown plan rows n result further k
  hands_then rows n left m further k (Ok (pulled.Row r)) drops hands = (hands.0, drops_then says rows n left m (r ∷ further) hands.0 drops hands.1, hands.2)
  hands_then rows n left m further k (Ok (pulled.Item x)) drops (inl row) =
      inl (row.0, row.1, (row.2.0, drops_then says rows n left m (row.0 ∷ further) row.2.0 drops row.2.1, row.2.2))
  hands_then rows n left m further k (Ok (pulled.Item x)) drops (inr none) = inr (drops_then says rows n left m [] k drops none.0, none.1)
  hands_then rows n left m further k (Err e) drops hands = (drops_then says rows n left m [] k drops hands.0, hands.1)

  -- nothing is kept of dropped rows
  kept_behind : (dropped left : List R) (items : List (Value R)) (e : End) → Every IsDropped dropped → kept (dropped ++ left) items e ≡ kept left items e
  kept_behind [] left items e ds = refl
  kept_behind (r ∷ rs) left items e ds =
      sym (row_dropped (r ∷ (rs ++ left)) r (rs ++ left) items e refl (first_of IsDropped r rs ds))
      ∙ kept_behind rs left items e (others_of IsDropped r rs ds)

  kept_left : (rows : List R) (n : ℕ) (left : List R) (m : ℕ) (items : List (Value R)) (e : End) → Drops says rows n left m → kept rows items e ≡ kept left items e
  kept_left rows n left m items e drops = ap (λ (l : List R). kept l items e) drops.is ∙ kept_behind drops.dropped left items e drops.do_not_pass

  -- the row that is found comes next, where the plan says that it passes, and where it says nothing
  pub found_passing : (rows : List R) (n : ℕ) (r : R) (left : List R) (m : ℕ) (items : List (Value R)) (e : End)
      → Finds says rows n (Some (r, true)) left m → kept rows items e ≡ in_front (value.Row r) (kept left items e)
  found_passing rows n r left m items e found =
      kept_left rows n (r ∷ left) found.1.0 items e found.1.1 ∙ at_front r left items e (Some true) found.0 refl

  pub found_open : (rows : List R) (n : ℕ) (r : R) (left : List R) (m : ℕ) (items : List (Value R)) (e : End)
      → Finds says rows n (Some (r, false)) left m → kept rows items e ≡ in_front (value.Row r) (kept left items e)
  found_open rows n r left m items e found =
      kept_left rows n (r ∷ left) found.1.0 items e found.1.1 ∙ at_front r left items e None found.0 refl

  -- and where none is found none is kept
  pub found_none : (rows : List R) (n : ℕ) (left : List R) (m : ℕ) (items : List (Value R)) (e : End) → DropsAll says rows n left m
      → kept rows items e ≡ kept left items e
  found_none rows n left m items e none = kept_left rows n [] m items e none.0 ∙ ap (λ (l : List R). kept l items e) (sym none.1)

pub ruleset finds = (drops_none, drops_more, drops_same, hands_row)

pub ruleset items_pulled = (last_kept, hands_item, hands_end)

pub ruleset pulls = (row_passes, row_open, row_dropped, drops_none, drops_more, hands_row, hands_open, hands_then)
