-- Lists that are gone through with something in hand: what they give where it is given up, item by item, and where the items are replaced.
use Rattle.std.proofs.Common.{◌≡◌, ◌∷◌, ◌++◌, List, [], map, Option, Some, None, ap, ◌∙◌, sym, refl, option_and_then, option_map}
use Rattle.std.specs.List.{fold}
use Rattle.lq_tree.specs.Binding.{gather_step, gathered, walk_step}

-- what comes of each item, from the last to the first
abbrev pub traversed : {A B : Type 0} → (A → Option B) → List A → Option (List B)
traversed made [] = Some []
traversed made (x ∷ xs) = option_and_then (λ y. option_map (λ ys. y ∷ ys) (traversed made xs)) (made x)

module _ {A S : Type 0} (step : A → S → Option S) where
  pub walk_none : (xs : List A) → fold (walk_step step) None xs ≡ None
  walk_none [] = refl
  walk_none (x ∷ xs) = walk_none xs

module _ {A B S : Type 0} (f : A → B) (step : B → S → Option S) where
  pub walk_map : (xs : List A) (o : Option S) → fold (walk_step step) o (map f xs) ≡ fold (walk_step (λ x. step (f x))) o xs
  walk_map [] o = refl
  walk_map (x ∷ xs) o = walk_map xs (option_and_then (step (f x)) o)

module _ {A B : Type 0} (made : A → Option B) where
  abbrev behind : List B → Option (List B) → Option (List B)
  behind ys o = option_map (λ zs. ys ++ zs) o

  append_assoc : (xs ys zs : List B) → (xs ++ ys) ++ zs ≡ xs ++ (ys ++ zs)
  append_assoc [] ys zs = refl
  append_assoc (x ∷ xs) ys zs = ap (λ more. x ∷ more) (append_assoc xs ys zs)

  append_one : (ys : List B) (y : B) (o : Option (List B)) → behind (ys ++ y ∷ []) o ≡ behind ys (option_map (λ zs. y ∷ zs) o)
  append_one ys y None = refl
  append_one ys y (Some zs) = ap Some (append_assoc ys (y ∷ []) zs)

  append_none : (ys : List B) → ys ++ [] ≡ ys
  append_none [] = refl
  append_none (y ∷ ys) = ap (λ more. y ∷ more) (append_none ys)

  gather_by : (xs : List A) (ys : List B) → ((zs : List B) → fold (walk_step (gather_step made)) (Some zs) xs ≡ behind zs (traversed made xs)) → (o : Option B)
      → fold (walk_step (gather_step made)) (option_map (λ y. ys ++ y ∷ []) o) xs
      ≡ behind ys (option_and_then (λ y. option_map (λ zs. y ∷ zs) (traversed made xs)) o)
  gather_by xs ys rest None = walk_none (gather_step made) xs
  gather_by xs ys rest (Some y) = rest (ys ++ y ∷ []) ∙ append_one ys y (traversed made xs)

  gather_from : (xs : List A) (ys : List B) → fold (walk_step (gather_step made)) (Some ys) xs ≡ behind ys (traversed made xs)
  gather_from [] ys = ap Some (sym (append_none ys))
  gather_from (x ∷ xs) ys = gather_by xs ys (gather_from xs) (made x)

  front_none : (o : Option (List B)) → behind [] o ≡ o
  front_none None = refl
  front_none (Some zs) = refl

  pub gathered_all : (xs : List A) → gathered made xs ≡ traversed made xs
  gathered_all xs = gather_from xs [] ∙ front_none (traversed made xs)
