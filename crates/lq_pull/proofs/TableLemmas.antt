-- Tables with the rows that are seen of them, one table after the other.
use Rattle.std.proofs.Common.{◌≡◌, ◌∙◌, ◌∷◌, ◌++◌, ◌+◌, ◌<◌, ◌≤◌, List, [], map, take, ℕ, zero, suc, Option, Some, IfSome, length, ◌⊎◌, inl, inr, option_map, slice_get, ap, sym, refl, arith, subst}
use Rattle.std.proofs.Math.Numerals.{suc-eq-add-one}
use Rattle.std.proofs.lemmas.List.{map-append, take_all}
use Rattle.std.proofs.lemmas.Option.{none-some, same_Some, slice_get_within}
use Rattle.lq_value.specs.Tables.{Table}
use Rattle.lq_store.specs.Rules.{IsTable}
use Rattle.lq_machine.specs.States.{schemas_of}
use Rattle.lq_language.specs.ValuesOfTypes.{Every}
use Rattle.lq_plan.specs.Worlds.{rows_in, schemas_in}
use Rattle.lq_plan.specs.declared.tables.TableRows.{TableRows}
use Rattle.lq_pull.specs.Readers.{AreSeen, rows_left}
use Rattle.lq_pull.specs.Views.{Sight, seen_tables}
use Rattle.lq_pull.specs.declared.readers.Reader.{Reader}

-- one item more of a list, each as another
pub taken : {A B : Type 0} (f : A → B) (xs : List A) (n : ℕ) (y : B) → option_map f (slice_get xs n) ≡ Some y → map f (take n xs) ++ y ∷ [] ≡ map f (take (suc n) xs)
taken f [] n y is = absurd (none-some y is)
taken f (x ∷ xs) zero y is = ap (λ z. z ∷ []) (sym (same_Some (f x) y is))
taken f (x ∷ xs) (suc n) y is = ap (λ rest. f x ∷ rest) (taken f xs n y is)

-- a list built so far, and one item more
pub one_more : {A B C : Type 0} (g : C → B) (f : A → B) (xs : List A) (n : ℕ) (before after : List C) (c : C) → map g before ≡ map f (take n xs)
    → after ≡ before ++ c ∷ [] → option_map f (slice_get xs n) ≡ Some (g c) → map g after ≡ map f (take (n + 1) xs)
one_more g f xs n before after c so_far is there =
    ap (map g) is ∙ map-append g before (c ∷ []) ∙ ap (λ l. l ++ g c ∷ []) so_far ∙ taken f xs n (g c) there ∙ ap (λ m. map f (take m xs)) (suc-eq-add-one n)

-- the first tables of the store keep their rules
abbrev pub KeptBelow : ℕ → List Table → Type 0
KeptBelow n store = (k : ℕ) → k < n → IfSome (slice_get store k) IsTable

below_or_at : (n k : ℕ) → k < n + 1 → (k < n) ⊎ (k ≡ n)
below_or_at zero zero lt = inr refl
below_or_at zero (suc k) lt = absurd (omega (arith, lt))
below_or_at (suc n) zero lt = inl (omega (arith))
below_or_at (suc n) (suc k) lt = by (below_or_at n k (omega (arith, lt))) where
  by : (k < n) ⊎ (k ≡ n) → (suc k < suc n) ⊎ (suc k ≡ suc n)
  by (inl less) = inl (omega (arith, less))
  by (inr same) = inr (ap suc same)

-- and one table more
pub kept_more : (n : ℕ) (store : List Table) → KeptBelow n store → IfSome (slice_get store n) IsTable → KeptBelow (n + 1) store
kept_more n store kept at k lt = by (below_or_at n k lt) where
  by : (k < n) ⊎ (k ≡ n) → IfSome (slice_get store k) IsTable
  by (inl less) = kept k less
  by (inr same) = subst (λ m. IfSome (slice_get store m) IsTable) (sym same) at

-- all tables
pub kept_all : (n : ℕ) (store : List Table) → KeptBelow n store → length store ≤ n → Every IsTable store
kept_all n store kept all k table is =
    let less : k < length store = slice_get_within store k table is in
    subst (λ (o : Option Table). IfSome o IsTable) is (kept k (omega (arith, less, all)))

-- the tables so far are those with their rows
pub all_seen : (n : ℕ) (s : Sight) (tables : List (TableRows Reader)) → length s.tables ≤ n → schemas_in tables ≡ map (λ table. table.schema) (take n s.tables)
    → rows_in rows_left tables ≡ seen_tables s → KeptBelow n s.tables → AreSeen s tables
all_seen n s tables all schemas rows kept =
    record { schemas = schemas ∙ ap schemas_of (take_all n s.tables all); rows = rows; are_tables = kept_all n s.tables kept all }

-- one table more, with its schema
pub schemas_more : (n : ℕ) (store : List Table) (before after : List (TableRows Reader)) (one : TableRows Reader) → schemas_in before ≡ map (λ table. table.schema) (take n store)
    → after ≡ before ++ one ∷ [] → option_map (λ table. table.schema) (slice_get store n) ≡ Some one.schema.now
    → schemas_in after ≡ map (λ table. table.schema) (take (n + 1) store)
schemas_more n store before after one so_far is there = one_more (λ t. t.schema.now) (λ table. table.schema) store n before after one so_far is there
