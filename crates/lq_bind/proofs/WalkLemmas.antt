-- Lists that are gone through with something in hand, item by item, where an item may be refused.
use Rattle.std.proofs.Common.{◌≡◌, ◌∷◌, ◌++◌, ◌+◌, ◌<◌, ◌≤◌, List, [], ℕ, suc, Option, Some, None, Err, ap, ◌∙◌, sym, subst, drop, drop-cons, get_or, length, arith, option_map}
use Rattle.std.proofs.lemmas.List.{drop_all}
use Rattle.std.specs.List.{fold}
use Rattle.lq_tree.specs.Binding.{gather_step, walk_step}
use Rattle.lq_tree.proofs.WalkLaws.{walk_none}
use Rattle.lq_bind.specs.Outcomes.{Gives}
use Rattle.lq_bind.specs.declared.error.TermError.{TermError}
use Rattle.lq_bind.specs.declared.error.TermError.TheVariants as term

-- what comes of the items that are left, behind what is in hand, is what comes of all of them
module _ {A S : Type 0} (step : A → S → Option S) (xs : List A) (all : Option S) where
  abbrev pub Walks : S → ℕ → Type 0
  Walks s i = fold (walk_step step) (Some s) (drop i xs) ≡ all

  next_of : (i : ℕ) → suc i ≡ i + 1
  next_of i = omega arith

  left_at : (s : S) (i : ℕ) (x : A) → x ≡ get_or xs i x → i < length xs → Walks s i → fold (walk_step step) (step x s) (drop (suc i) xs) ≡ all
  left_at s i x is below walks =
      ap (λ y. fold (walk_step step) (step y s) (drop (suc i) xs)) is ∙ ap (λ l. fold (walk_step step) (Some s) l) (sym (drop-cons xs i x below)) ∙ walks

  -- one item more
  pub walk_goes : (s t : S) (i : ℕ) (x : A) → x ≡ get_or xs i x → i < length xs → step x s ≡ Some t → Walks s i → Walks t (i + 1)
  walk_goes s t i x is below gives walks =
      subst (λ n. Walks t n) (next_of i) (ap (λ o. fold (walk_step step) o (drop (suc i) xs)) (sym gives) ∙ left_at s i x is below walks)

  -- where an item is refused, all are
  pub walk_stops : (s : S) (i : ℕ) (x : A) → x ≡ get_or xs i x → i < length xs → (e : TermError) → Gives (step x s) (Err e) → Walks s i → Gives all (Err e)
  walk_stops s i x is below term.Memory none walks = tt
  walk_stops s i x is below term.IllTyped none walks =
      sym (left_at s i x is below walks) ∙ ap (λ o. fold (walk_step step) o (drop (suc i) xs)) none ∙ walk_none step (drop (suc i) xs)

  -- behind the last item
  pub walk_ends : (s : S) (i : ℕ) → length xs ≤ i → Walks s i → all ≡ Some s
  walk_ends s i over walks = sym walks ∙ ap (λ l. fold (walk_step step) (Some s) l) (drop_all i xs over)

-- where a part is refused, so is what comes of it
pub stops_beyond : {A B : Type 0} (result : Option A → Option B) (part : Option A) → result None ≡ None → (e : TermError) → Gives part (Err e) → Gives (result part) (Err e)
stops_beyond result part nothing term.Memory none = tt
stops_beyond result part nothing term.IllTyped none = ap result none ∙ nothing

-- the same where the results are put behind one another
module _ {A B : Type 0} (result : A → Option B) (xs : List A) (all : Option (List B)) where
  pub gather_goes : (ys zs : List B) (y : B) (i : ℕ) (x : A) → x ≡ get_or xs i x → i < length xs → result x ≡ Some y → zs ≡ ys ++ y ∷ []
      → Walks (gather_step result) xs all ys i → Walks (gather_step result) xs all zs (i + 1)
  gather_goes ys zs y i x is below gives more walks =
      walk_goes (gather_step result) xs all ys zs i x is below (ap (λ o. option_map (λ y. ys ++ y ∷ []) o) gives ∙ ap Some (sym more)) walks

  pub gather_stops : (ys : List B) (i : ℕ) (x : A) → x ≡ get_or xs i x → i < length xs → (e : TermError) → Gives (result x) (Err e)
      → Walks (gather_step result) xs all ys i → Gives all (Err e)
  gather_stops ys i x is below term.Memory none walks = tt
  gather_stops ys i x is below term.IllTyped none walks =
      walk_stops (gather_step result) xs all ys i x is below term.IllTyped (ap (λ o. option_map (λ y. ys ++ y ∷ []) o) none) walks
