-- Rows that are dropped one after the other, and counted, before one is handed out.
use Rattle.std.proofs.Common.{◌≡◌, ◌∷◌, ◌++◌, ◌∙◌, List, [], ℕ, Bool, true, false, Option, Some, None, ap, append_assoc, refl, subst, sym}
use Rattle.lq_language.specs.ValuesOfTypes.{Every}
use Rattle.lq_language.proofs.AlikeStreamLaws.{every_append}
use Rattle.lq_language.proofs.ItemLaws.{every_more, every_none, first_of, others_of}
use Rattle.lq_guard.specs.Handing.{Drops, Finds, Hands, counted, one_more}

-- some are counted, and then the others
pub counted_append : {R : Type 0} (n : ℕ) (rows others : List R) → counted n (rows ++ others) ≡ counted (counted n rows) others
counted_append n [] others = refl
counted_append n (r ∷ rows) others = counted_append (one_more n) rows others

module _ {R : Type 0} (says : R → Option Bool) where
  abbrev IsDropped : R → Type 0
  IsDropped r = says r ≡ Some false

  -- at first none is dropped
  pub drops_none : (rows left : List R) (n : ℕ) → rows ≡ left → Drops says rows n left n
  drops_none rows left n is = record { dropped = []; is = is; count = refl; do_not_pass = every_none IsDropped }

  -- some, and then some more
  pub drops_then : (rows : List R) (n : ℕ) (left : List R) (m : ℕ) (further : List R) (k : ℕ) → Drops says rows n left m → Drops says left m further k
      → Drops says rows n further k
  drops_then rows n left m further k first more = record {
    dropped = first.dropped ++ more.dropped;
    is = first.is ∙ ap (λ (l : List R). first.dropped ++ l) more.is ∙ sym (append_assoc first.dropped more.dropped further);
    count = more.count ∙ ap (λ (c : ℕ). counted c more.dropped) first.count ∙ sym (counted_append n first.dropped more.dropped);
    do_not_pass = every_append IsDropped first.dropped more.dropped first.do_not_pass more.do_not_pass;
  }

  pub drops_more : (rows : List R) (n : ℕ) (left : List R) (m : ℕ) (r : R) (further : List R) (k : ℕ) → Drops says rows n left m → left ≡ r ∷ further
      → k ≡ one_more m → says r ≡ Some false → Drops says rows n further k
  drops_more rows n left m r further k drops is more fails =
      drops_then rows n left m further k drops
      (record { dropped = r ∷ []; is = is; count = more; do_not_pass = every_more IsDropped r [] fails (every_none IsDropped) })

  -- the same rows are left where one isn't handed out
  pub drops_same : (rows : List R) (n : ℕ) (left others : List R) (m : ℕ) → Drops says rows n left m → left ≡ others → Drops says rows n others m
  drops_same rows n left others m drops is = subst (λ (l : List R). Drops says rows n l m) is drops

  -- a row that is answered
  pub hands_row : (rows : List R) (n : ℕ) (left : List R) (m : ℕ) (r : R) (further : List R) (k : ℕ) → Drops says rows n left m → left ≡ r ∷ further
      → k ≡ one_more m → Hands says rows n r further k
  hands_row rows n left m r further k drops is more = (m, subst (λ (l : List R). Drops says rows n l m) is drops, more)

pub ruleset finds = (drops_none, drops_more, drops_same, hands_row)

-- ---- by two tests that say the same

every_front : {R : Type 0} (P : R → Type 0) (rows left : List R) → Every P (rows ++ left) → Every P rows
every_front P [] left ps = every_none P
every_front P (r ∷ rows) left ps = every_more P r rows (first_of P r (rows ++ left) ps) (every_front P rows left (others_of P r (rows ++ left) ps))

every_left : {R : Type 0} (P : R → Type 0) (rows left : List R) → Every P (rows ++ left) → Every P left
every_left P [] left ps = ps
every_left P (r ∷ rows) left ps = every_left P rows left (others_of P r (rows ++ left) ps)

module _ {R : Type 0} (says others : R → Option Bool) where
  abbrev Same : R → Type 0
  Same r = says r ≡ others r

  drops_alike : (rows : List R) (n : ℕ) (left : List R) (m : ℕ) → Every Same rows → Drops says rows n left m → Drops others rows n left m
  drops_alike rows n left m same drops = record {
    dropped = drops.dropped;
    is = drops.is;
    count = drops.count;
    do_not_pass = λ (k : ℕ) (r : R) at.
        sym (every_front Same drops.dropped left (subst (λ (l : List R). Every Same l) drops.is same) k r at) ∙ drops.do_not_pass k r at;
  }

  hands_alike : (rows : List R) (n : ℕ) (r : R) (left : List R) (m : ℕ) → Every Same rows → Hands says rows n r left m → Hands others rows n r left m
  hands_alike rows n r left m same hands = (hands.0, drops_alike rows n (r ∷ left) hands.0 same hands.1, hands.2)

  same_found : (rows : List R) (n : ℕ) (r : R) (left : List R) (m : ℕ) → Every Same rows → Hands says rows n r left m → Same r
  same_found rows n r left m same hands =
      first_of Same r left (every_left Same hands.1.dropped (r ∷ left) (subst (λ (l : List R). Every Same l) hands.1.is same))

  -- what is found by the one is found by the other
  pub finds_alike : (rows : List R) (n : ℕ) (result : Option (R × Bool)) (left : List R) (m : ℕ) → Every Same rows → Finds says rows n result left m
      → Finds others rows n result left m
  finds_alike rows n (Some (r, true)) left m same found =
      (sym (same_found rows n r left m same found.1) ∙ found.0, hands_alike rows n r left m same found.1)
  finds_alike rows n (Some (r, false)) left m same found =
      (sym (same_found rows n r left m same found.1) ∙ found.0, hands_alike rows n r left m same found.1)
  finds_alike rows n None left m same found = (drops_alike rows n [] m same found.0, found.1)
