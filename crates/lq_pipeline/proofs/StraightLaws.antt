-- Straight queries ask about rows that were handed out, and about no others.
use Rattle.std.proofs.Common.{◌≡◌, ◌==◌, ◌∷◌, ◌++◌, ◌&&◌, ◌||◌, List, [], ℕ, zero, suc, Bool, true, false, true≢false, Option, Some, ap, ◌∙◌, sym, refl, subst, slice_get}
use Rattle.std.specs.Cmp.{first_so, second_so, unsigned_Decides}
use Rattle.std.specs.List.{list_all, list_any}
use Rattle.std.proofs.lemmas.Map.Keys.{any_passes_from_place}
use Rattle.std.proofs.lemmas.Option.{none-some, same_Some}
use Rattle.lq_host.specs.declared.call.Call.{Call}
use Rattle.lq_language.specs.Mentions.{Mention, Column, HostAt, Table}
use Rattle.lq_language.specs.TableRows.{TableRow}
use Rattle.lq_language.specs.Worlds.{World}
use Rattle.lq_tree.specs.AllowedCalls.{is_mentioned, watch_of}
use Rattle.lq_tree.specs.UsesOfForms.{form_uses}
use Rattle.lq_tree.specs.Watches.{IsWatched, Watch, is_covered, is_covered_above}
use Rattle.lq_tree.specs.declared.tree.Form.{Form, ind-Form, map-Form, out-Form, roll-Form}
use Rattle.lq_tree.specs.declared.tree.Form.TheOpen.{Form-F}
use Rattle.lq_tree.specs.declared.tree.Form.TheViews.{out-roll-Form}
use Rattle.lq_tree.proofs.CoveredLaws.{above_roll}
use Rattle.lq_tree.proofs.FormUseLaws.{uses_at}
use Rattle.lq_tree.proofs.OwnWatchLaws.{all_own, any_table, covered_without_tables, is_one_of, no_table}
use Rattle.lq_tree.proofs.WatchedValueLaws.{all_before, all_behind, all_places, both_so}
use Rattle.lq_pull.specs.Views.{row_facts}
use Rattle.lq_pipeline.specs.Chains.{leaf_of, leaf_step}
use Rattle.lq_pipeline.specs.Heads.{leaf_under, unwrapped}
use Rattle.lq_pipeline.specs.Laziness.{CallsAreOnHanded, IsOnOne, tables_named}
use Rattle.lq_pipeline.specs.Places.{OthersPass, covered_layer}
use Rattle.lq_pipeline.proofs.ChainLemmas.{leaf_at}
use Rattle.lq_pipeline.proofs.TakeLemmas.{unwrapped_uses}

-- ---- lists

module _ {A : Type 0} where
  none_is_one : {x : A} {xs : List A} → [] ≡ x ∷ xs → ⊥
  none_is_one is = subst (λ (l : List A). is_none l) is tt where
    is_none : List A → Type 0
    is_none [] = Unit {0}
    is_none (y ∷ ys) = ⊥

  none_before : (xs ys : List A) → xs ++ ys ≡ [] → xs ≡ []
  none_before [] ys is = refl
  none_before (x ∷ xs) ys is = absurd (none_is_one (sym is))

  none_behind : (xs ys : List A) → xs ++ ys ≡ [] → ys ≡ []
  none_behind [] ys is = is
  none_behind (x ∷ xs) ys is = absurd (none_is_one (sym is))

  abbrev rest_of : List A → List A
  rest_of [] = []
  rest_of (x ∷ xs) = xs

  -- one of them passes
  abbrev Found : (A → Bool) → List A → Type 0
  Found q xs = (place : ℕ) × (x : A) × (slice_get xs place ≡ Some x) × (q x ≡ true)

  found_by : (q : A → Bool) (x : A) (xs : List A) (b : Bool) → q x ≡ b → (list_any q xs ≡ true → Found q xs) → (b || list_any q xs) ≡ true → Found q (x ∷ xs)
  found_by q x xs true is later h = (zero, x, refl, is)
  found_by q x xs false is later h = let found = later h in (suc found.0, found.1, found.2, found.3)

  found_in : (q : A → Bool) (xs : List A) → list_any q xs ≡ true → Found q xs
  found_in q [] h = absurd (true≢false (sym h))
  found_in q (x ∷ xs) h = found_by q x xs (q x) refl (found_in q xs) h

-- ---- tables that are named

tables_split : (xs ys : List Mention) → tables_named (xs ++ ys) ≡ tables_named xs ++ tables_named ys
tables_split [] ys = refl
tables_split (Table t ∷ xs) ys = ap (λ (l : List ℕ). t ∷ l) (tables_split xs ys)
tables_split (Column t c ∷ xs) ys = tables_split xs ys
tables_split (HostAt p t columns ∷ xs) ys = tables_split xs ys

no_tables : (named xs : List Mention) → tables_named xs ≡ [] → list_all (is_one_of any_table named) xs ≡ true → list_all (is_one_of no_table named) xs ≡ true
no_tables named [] none h = refl
no_tables named (Table t ∷ xs) none h = absurd (none_is_one (sym none))
no_tables named (Column t c ∷ xs) none h = no_tables named xs none h
no_tables named (HostAt p t columns ∷ xs) none h =
    both_so (is_mentioned named p t columns) (list_all (is_one_of no_table named) xs)
    (first_so (is_mentioned named p t columns) (list_all (is_one_of any_table named) xs) h)
    (no_tables named xs none (second_so (is_mentioned named p t columns) (list_all (is_one_of any_table named) xs) h))

-- ---- chains

module _ {R : Type 0} (world : World R) (seen : R → Bool) (named : List Mention) where
  abbrev w : Watch R
  w = record { row = seen; host = is_mentioned named }

  abbrev are_own : List Mention → Bool
  are_own uses = list_all (is_one_of any_table named) uses

  -- the tables that a chain names begin with the one at its end; where that is all, what stands above it is covered
  record OfChain (f : Form) (n : ℕ) : Type 0 where
    others : List ℕ
    is : tables_named (form_uses f) ≡ n ∷ others
    covers : others ≡ [] → are_own (form_uses f) ≡ true → is_covered_above world w f ≡ true

  abbrev Chain : Form → Type 0
  Chain f = (n : ℕ) → leaf_of f ≡ Some n → OfChain f n

  stage_chain : (g a c : Form) → form_uses g ≡ form_uses a ++ form_uses c → leaf_of g ≡ leaf_of a
      → is_covered_above world w g ≡ (is_covered_above world w a && is_covered world w c) → Chain a → Chain g
  stage_chain g a c uses leaf above chain n at =
      let of = chain n (sym leaf ∙ at) in
      record {
        others = of.others ++ tables_named (form_uses c);
        is = ap tables_named uses ∙ tables_split (form_uses a) (form_uses c) ∙ ap (λ (l : List ℕ). l ++ tables_named (form_uses c)) of.is;
        covers = λ none own.
            let parts : are_own (form_uses a ++ form_uses c) ≡ true = sym (ap are_own uses) ∙ own in
            above ∙ both_so (is_covered_above world w a) (is_covered world w c)
            (of.covers (none_before of.others (tables_named (form_uses c)) none) (all_before (is_one_of any_table named) (form_uses a) (form_uses c) parts))
            (covered_without_tables world seen named c (no_tables named (form_uses c) (none_behind of.others (tables_named (form_uses c)) none)
            (all_behind (is_one_of any_table named) (form_uses a) (form_uses c) parts)));
      }

  same_chain : (g a : Form) → form_uses g ≡ form_uses a → leaf_of g ≡ leaf_of a → is_covered_above world w g ≡ is_covered_above world w a → Chain a → Chain g
  same_chain g a uses leaf above chain n at =
      let of = chain n (sym leaf ∙ at) in
      record { others = of.others; is = ap tables_named uses ∙ of.is; covers = λ none own. above ∙ of.covers none (sym (ap are_own uses) ∙ own) }

  abbrev Such : Type 0
  Such = (f : Form) × Chain f

  abbrev plain : Form-F Such → Form-F Form
  plain layer = map-Form Such Form (λ z. z.0) layer

  rolled_leaf : (layer : Form-F Form) → leaf_of (roll-Form layer) ≡ leaf_step (map-Form Form (Option ℕ) leaf_of layer)
  rolled_leaf layer = leaf_at (roll-Form layer) layer (out-roll-Form layer)

  rolled_chain : (y : Form-F Such) → Chain (roll-Form (plain y))
  rolled_chain (Form-F.Where a c) =
      stage_chain (roll-Form (Form-F.Where a.0 c.0)) a.0 c.0 (uses_at (roll-Form (Form-F.Where a.0 c.0)) (out-roll-Form (Form-F.Where a.0 c.0)))
      (rolled_leaf (Form-F.Where a.0 c.0)) (above_roll world w (Form-F.Where a.0 c.0)) a.1
  rolled_chain (Form-F.Select a c) =
      stage_chain (roll-Form (Form-F.Select a.0 c.0)) a.0 c.0 (uses_at (roll-Form (Form-F.Select a.0 c.0)) (out-roll-Form (Form-F.Select a.0 c.0)))
      (rolled_leaf (Form-F.Select a.0 c.0)) (above_roll world w (Form-F.Select a.0 c.0)) a.1
  rolled_chain (Form-F.Sequence a) =
      same_chain (roll-Form (Form-F.Sequence a.0)) a.0 (uses_at (roll-Form (Form-F.Sequence a.0)) (out-roll-Form (Form-F.Sequence a.0)))
      (rolled_leaf (Form-F.Sequence a.0)) (above_roll world w (Form-F.Sequence a.0)) a.1
  rolled_chain (Form-F.Table m) = λ n at.
      let same = same_Some m n (sym (rolled_leaf (Form-F.Table m)) ∙ at) in
      record {
        others = [];
        is = ap tables_named (uses_at (roll-Form (Form-F.Table m)) (out-roll-Form (Form-F.Table m))) ∙ ap (λ (k : ℕ). k ∷ []) same;
        covers = λ none own. above_roll world w (Form-F.Table m);
      }
  rolled_chain layer = λ n at. absurd (none-some n (sym (rolled_leaf (plain layer)) ∙ at))

  chain : (f : Form) → Chain f
  chain f = ind-Form Chain (λ x y e. subst (λ (d : Form-F Form). Chain (roll-Form d)) e (rolled_chain y)) f

  -- ---- heads

  alone : (f : Form) (n : ℕ) (leaf : leaf_of f ≡ Some n) → tables_named (form_uses f) ≡ n ∷ [] → are_own (form_uses f) ≡ true → is_covered_above world w f ≡ true
  alone f n leaf tables own = let of = chain f n leaf in of.covers (ap rest_of (sym of.is ∙ tables)) own

  alone_with : (f a b : Form) (n : ℕ) → form_uses f ≡ form_uses a ++ form_uses b → leaf_of a ≡ Some n → tables_named (form_uses f) ≡ n ∷ [] → are_own (form_uses f) ≡ true
      → (is_covered_above world w a && is_covered world w b) ≡ true
  alone_with f a b n uses leaf tables own =
      let of = chain a n leaf in
      let parts : are_own (form_uses a ++ form_uses b) ≡ true = sym (ap are_own uses) ∙ own in
      let none : of.others ++ tables_named (form_uses b) ≡ [] =
      ap rest_of (sym (ap tables_named uses ∙ tables_split (form_uses a) (form_uses b) ∙ ap (λ (l : List ℕ). l ++ tables_named (form_uses b)) of.is) ∙ tables) in
      both_so (is_covered_above world w a) (is_covered world w b)
      (of.covers (none_before of.others (tables_named (form_uses b)) none) (all_before (is_one_of any_table named) (form_uses a) (form_uses b) parts))
      (covered_without_tables world seen named b (no_tables named (form_uses b) (none_behind of.others (tables_named (form_uses b)) none)
      (all_behind (is_one_of any_table named) (form_uses a) (form_uses b) parts)))

  straight_under : (f : Form) (layer : Form-F Form) → out-Form f ≡ layer → (n : ℕ) → leaf_under f layer ≡ Some n → tables_named (form_uses f) ≡ n ∷ []
      → are_own (form_uses f) ≡ true → covered_layer world w f layer ≡ true
  straight_under f (Form-F.Simple method t a) is n leaf tables own =
      alone a n leaf (sym (ap tables_named (uses_at f is)) ∙ tables) (sym (ap are_own (uses_at f is)) ∙ own)
  straight_under f (Form-F.Given method a b) is n leaf tables own = alone_with f a b n (uses_at f is) leaf tables own
  straight_under f (Form-F.All a c) is n leaf tables own = alone_with f a c n (uses_at f is) leaf tables own
  straight_under f layer is n leaf tables own = alone f n leaf tables own

-- ---- calls

module _ (front : List TableRow) where
  abbrev is_same_row : TableRow → TableRow → Bool
  is_same_row r q = (q.table == r.table) && (q.row.number == r.row.number)

  abbrev is_in_front : TableRow → Bool
  is_in_front r = list_any (is_same_row r) front

  all_in_front : list_all is_in_front front ≡ true
  all_in_front = all_places is_in_front front (λ k r at.
      any_passes_from_place (is_same_row r) front k r at
      (both_so (r.table == r.table) (r.row.number == r.row.number) ((unsigned_Decides r.table r.table).1 refl) ((unsigned_Decides r.row.number r.row.number).1 refl)))

  on_one : (world : World TableRow) (f : Form) (call : Call) → IsWatched world row_facts (watch_of is_in_front f) call → IsOnOne front call
  on_one world f call watched =
      let found = found_in (is_same_row watched.row) front watched.passes in
      let q = found.1 in
      let same_table = (unsigned_Decides q.table watched.row.table).0 (first_so (q.table == watched.row.table) (q.row.number == watched.row.row.number) found.3) in
      let same_number =
      (unsigned_Decides q.row.number watched.row.row.number).0 (second_so (q.table == watched.row.table) (q.row.number == watched.row.row.number) found.3) in
      (found.0, q, found.2, same_table ∙ watched.table, same_number ∙ watched.number)

pub calls_are_on_handed : CallsAreOnHanded
calls_are_on_handed world f n (leaf, tables) front old new adds =
    let g = unwrapped f in
    let uses = unwrapped_uses world f in
    let covered = straight_under world (is_in_front front) (form_uses f) g (out-Form g) refl n leaf (ap tables_named uses ∙ tables)
    (ap (λ (named : List Mention). list_all (is_one_of any_table (form_uses f)) named) uses ∙ all_own (form_uses f)) in
    let grown = adds (is_in_front front) (all_in_front front)
    (subst (λ (o : Option ℕ). OthersPass world o (watch_of (is_in_front front) f) f) (sym leaf) covered) in
    (grown.calls, grown.is, λ k call at. on_one front world f call (grown.are_watched k call at))
