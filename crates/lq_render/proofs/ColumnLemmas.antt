-- The columns of a table have the names of all members.
use Rattle.std.proofs.Common.{◌≡◌, ◌++◌, ◌∷◌, ◌⊎◌, [], Bool, List, ℕ, zero, suc, true, false, cond, Contains, bytes_eq, get_or, inl, inr, fold, ap, arith, append-nil, append_assoc, refl, sym, subst, ◌∙◌}
use Rattle.std.specs.List.{list_any}
use Rattle.std.proofs.lemmas.List.{length-take}
use Rattle.std.proofs.lemmas.List.Elements.{Contains-append_left, Contains-push}
use Rattle.std.proofs.lemmas.List.Folds.{Any-from_list_any}
use Rattle.std.proofs.lemmas.Slice.Eq.{bytes_eq-Decides}
use Rattle.serde_json.specs.Data.{Data}
use Rattle.lq_render.specs.Parts.{names_in, with_name, with_names}
use Rattle.lq_render.specs.TableLaws.{BeginsWithNames, CountsAllItems, HasEachCell}

cons_cases : {A : Type 0} (y : A) (ys : List A) (x : A) → Contains (y ∷ ys) x → (y ≡ x) ⊎ Contains ys x
cons_cases y ys x (zero, within, at) = inl at
cons_cases y ys x (suc k, within, at) = inr (k, omega arith, at)

-- ---- one name more

module _ (names : List (List ℕ)) (name : List ℕ) where
  kept_by : (b : Bool) (other : List ℕ) → Contains names other → Contains (cond b names (names ++ name ∷ [])) other
  kept_by true other h = h
  kept_by false other h = Contains-append_left names (name ∷ []) other h

  added_by : (b : Bool) → list_any (λ other. bytes_eq other name) names ≡ b → Contains (cond b names (names ++ name ∷ [])) name
  added_by true h =
      let found = Any-from_list_any (λ other. bytes_eq other name) names h in
      let same : found.1 ≡ name = (bytes_eq-Decides found.1 name).0 found.4 in
      (found.0, found.2, subst (λ (x : List ℕ). get_or names found.0 x ≡ x) same found.3)
  added_by false h = Contains-push names name

  more_by : (b : Bool) → (others : List (List ℕ)) × (cond b names (names ++ name ∷ []) ≡ names ++ others)
  more_by true = ([], sym (append-nil names))
  more_by false = (name ∷ [], refl)

name_kept : (names : List (List ℕ)) (name other : List ℕ) → Contains names other → Contains (with_name names name) other
name_kept names name other h = kept_by names name (list_any (λ n. bytes_eq n name) names) other h

name_added : (names : List (List ℕ)) (name : List ℕ) → Contains (with_name names name) name
name_added names name = added_by names name (list_any (λ n. bytes_eq n name) names) refl

name_more : (names : List (List ℕ)) (name : List ℕ) → (others : List (List ℕ)) × (with_name names name ≡ names ++ others)
name_more names name = more_by names name (list_any (λ n. bytes_eq n name) names)

-- ---- names one after another

names_kept : (more names : List (List ℕ)) (name : List ℕ) → Contains names name → Contains (fold with_name names more) name
names_kept [] names name h = h
names_kept (n ∷ more) names name h = names_kept more (with_name names n) name (name_kept names n name h)

names_added : (more names : List (List ℕ)) (name : List ℕ) → Contains more name → Contains (fold with_name names more) name
names_added [] names name (k, within, at) = absurd (omega arith)
names_added (n ∷ more) names name h =
    elim (cons_cases n more name h) [
      | inl same ↦ names_kept more (with_name names n) name (subst (λ (x : List ℕ). Contains (with_name names n) x) same (name_added names n))
      | inr later ↦ names_added more (with_name names n) name later
    ]

names_more : (more names : List (List ℕ)) → (others : List (List ℕ)) × (fold with_name names more ≡ names ++ others)
names_more [] names = ([], sym (append-nil names))
names_more (n ∷ more) names =
    let one = name_more names n in
    let rest = names_more more (with_name names n) in
    (one.0 ++ rest.0, rest.1 ∙ ap (λ ns. ns ++ rest.0) one.1 ∙ append_assoc names one.0 rest.0)

-- ---- items one after another

items_kept : (items : List Data) (names : List (List ℕ)) (name : List ℕ) → Contains names name → Contains (fold with_names names items) name
items_kept [] names name h = h
items_kept (d ∷ items) names name h = items_kept items (with_names names d) name (names_kept (names_in d) names name h)

cells_kept : (items : List Data) (names : List (List ℕ)) (d : Data) (name : List ℕ) → Contains items d → Contains (names_in d) name → Contains (fold with_names names items) name
cells_kept [] names d name (k, within, at) has = absurd (omega arith)
cells_kept (e ∷ items) names d name h has =
    elim (cons_cases e items d h) [
      | inl same ↦ items_kept items (with_names names e) name (names_added (names_in e) names name (subst (λ (x : Data). Contains (names_in x) name) (sym same) has))
      | inr later ↦ cells_kept items (with_names names e) d name later has
    ]

items_more : (items : List Data) (names : List (List ℕ)) → (others : List (List ℕ)) × (fold with_names names items ≡ names ++ others)
items_more [] names = ([], sym (append-nil names))
items_more (d ∷ items) names =
    let one = names_more (names_in d) names in
    let rest = items_more items (with_names names d) in
    (one.0 ++ rest.0, rest.1 ∙ ap (λ ns. ns ++ rest.0) one.1 ∙ append_assoc names one.0 rest.0)

pub has_each_cell : HasEachCell
has_each_cell names items d name h has = cells_kept items names d name h has

pub begins_with_names : BeginsWithNames
begins_with_names names items = items_more items names

pub counts_all_items : CountsAllItems
counts_all_items most items = omega (arith, length-take most items)
