-- The calls that a form's own watch allows over the rows that a role sees are those that a statement may make which names the form's host predicates.
use Rattle.std.proofs.Common.{◌≡◌, ◌∷◌, ◌==◌, ◌&&◌, ◌||◌, if◌then◌else◌, List, [], map, filter, ℕ, zero, suc, Bool, true, false, Option, Some, None, ap, ◌∙◌, sym, refl, subst, slice_get, option_map, true≢false, zero-add}
use Rattle.std.specs.Cmp.{first_so, second_so, unsigned_Decides}
use Rattle.std.specs.Cmp.Lexicographic.{pointwise, pointwise_decides}
use Rattle.std.specs.List.{list_any}
use Rattle.std.proofs.lemmas.Map.Keys.{any_passes_from_place}
use Rattle.std.proofs.lemmas.Option.{none-some, same_Some, slice_get-map}
use Rattle.lq_value.specs.KeyTests.{scalars_decide}
use Rattle.lq_value.specs.SameAndOrder.{same_scalars}
use Rattle.lq_value.specs.Tables.{Table}
use Rattle.lq_value.specs.declared.scalar.Scalar.{Scalar}
use Rattle.lq_value.specs.declared.table.Row.{Row}
use Rattle.lq_value.specs.declared.ty.Ty.TheVariants as ty
use Rattle.lq_host.specs.Calls.{arguments_at}
use Rattle.lq_host.specs.Predicates.{Predicate, answer_in}
use Rattle.lq_host.specs.declared.call.Call.{Call}
use Rattle.lq_host.specs.declared.call.Pick.{Pick}
use Rattle.lq_host.specs.declared.call.Pick.TheVariants as numbers
use Rattle.lq_language.specs.Mentions.{Mention, HostAt}
use Rattle.lq_language.specs.Mentions as mention
use Rattle.lq_language.specs.Names.{with_local}
use Rattle.lq_language.specs.TableRows.{TableRow}
use Rattle.lq_language.specs.Uses.{expression_uses}
use Rattle.lq_language.specs.ValuesOfTypes.{Every}
use Rattle.lq_language.specs.Worlds.{World}
use Rattle.lq_language.specs.declared.rights.Use.{Use}
use Rattle.lq_language.proofs.ItemLaws.{every_map}
use Rattle.lq_machine.specs.DefinitionLaws.{AreDefined}
use Rattle.lq_machine.specs.HostCalls.{IsAllowed, named_if_allowed, named_unless}
use Rattle.lq_machine.specs.States.{State, host_names, names_in, schemas_of, seen_by_role}
use Rattle.lq_machine.proofs.SeenTableLaws.{seen_at}
use Rattle.lq_security.specs.Rights.{Denied, denial}
use Rattle.lq_security.specs.Visible.{seen_rows, tables_as_seen, visible_to}
use Rattle.lq_security.specs.declared.policy.Action.TheVariants as action
use Rattle.lq_grammar.specs.declared.syntax.Expr.{Expr}
use Rattle.lq_translate.specs.Translated.{translated}
use Rattle.lq_tree.specs.AllowedCalls.{IsSeen, OwnCallsAreAllowed, SeenRowsPass, SeenTablesPass, Tells, is_host, is_in_table, is_row, is_seen, same_columns, watch_of}
use Rattle.lq_tree.specs.Binding.{term_tree}
use Rattle.lq_tree.specs.SessionPlaces.{condition_places, statement_places}
use Rattle.lq_tree.specs.UsesOfForms.{form_uses}
use Rattle.lq_tree.specs.Watches.{IsWatched, RowFacts, is_watched_table}
use Rattle.lq_tree.specs.declared.tree.Form.{Form}
use Rattle.lq_tree.specs.declared.tree.Tree.{Tree}
use Rattle.lq_tree.proofs.SessionPlaceLaws.{uses_of_statements}
use Rattle.lq_tree.proofs.StatementTrees.{uses_of_conditions}
use Rattle.lq_tree.proofs.WatchedValueLaws.{all_places, both_so}

-- ---- what is found in a list

abbrev Found : {A : Type 0} → (A → Bool) → List A → Type 0
Found {A} q xs = (k : ℕ) × (x : A) × (slice_get xs k ≡ Some x) × (q x ≡ true)

found_by : {A : Type 0} (q : A → Bool) (x : A) (xs : List A) (b : Bool) → q x ≡ b → (list_any q xs ≡ true → Found q xs) → (b || list_any q xs) ≡ true
    → Found q (x ∷ xs)
found_by q x xs true is rest h = (zero, x, refl, is)
found_by q x xs false is rest h = let found = rest h in (suc found.0, found.1, found.2, found.3)

found_in : {A : Type 0} (q : A → Bool) (xs : List A) → list_any q xs ≡ true → Found q xs
found_in q [] h = absurd (true≢false (sym h))
found_in q (x ∷ xs) h = found_by q x xs (q x) refl (found_in q xs) h

-- what passes a test is among those that are kept
abbrev IsKept : {A : Type 0} → (A → Bool) → List A → A → Type 0
IsKept q xs x = (k : ℕ) × (slice_get (filter q xs) k ≡ Some x)

kept_first : {A : Type 0} (q : A → Bool) (x : A) (xs : List A) (b : Bool) → b ≡ true
    → (k : ℕ) × (slice_get (if b then x ∷ filter q xs else filter q xs) k ≡ Some x)
kept_first q x xs true h = (zero, refl)
kept_first q x xs false h = absurd (true≢false (sym h))

kept_later : {A : Type 0} (q : A → Bool) (y x : A) (xs : List A) (b : Bool) → IsKept q xs x
    → (k : ℕ) × (slice_get (if b then y ∷ filter q xs else filter q xs) k ≡ Some x)
kept_later q y x xs true at = (suc at.0, at.1)
kept_later q y x xs false at = at

kept_at : {A : Type 0} (q : A → Bool) (xs : List A) (k : ℕ) (x : A) → slice_get xs k ≡ Some x → q x ≡ true → IsKept q xs x
kept_at q [] k x is h = absurd (none-some x is)
kept_at q (y ∷ xs) zero x is h = subst (λ z. q z ≡ true → IsKept q (y ∷ xs) z) (same_Some y x is) (λ g. kept_first q y xs (q y) g) h
kept_at q (y ∷ xs) (suc k) x is h = kept_later q y x xs (q y) (kept_at q xs k x is h)

-- ---- host predicates

same_numbers : (columns others : Pick) → same_columns columns others ≡ true → columns ≡ others
same_numbers (numbers.One a) (numbers.One b) h = ap numbers.One ((unsigned_Decides a b).0 h)
same_numbers (numbers.Two a b) (numbers.Two c d) h =
    let first = (unsigned_Decides a c).0 (first_so (a == c) (b == d) h) in
    let second = (unsigned_Decides b d).0 (second_so (a == c) (b == d) h) in
    λ i. numbers.Two (first i) (second i)
same_numbers (numbers.One a) (numbers.Two c d) h = absurd (true≢false (sym h))
same_numbers (numbers.Two a b) (numbers.One c) h = absurd (true≢false (sym h))

same_host : (p t : ℕ) (columns : Pick) (m : Mention) → is_host p t columns m ≡ true → m ≡ HostAt p t columns
same_host p t columns (HostAt q u others) h =
    let rest = second_so (p == q) ((t == u) && same_columns columns others) h in
    let predicate = (unsigned_Decides p q).0 (first_so (p == q) ((t == u) && same_columns columns others) h) in
    let table = (unsigned_Decides t u).0 (first_so (t == u) (same_columns columns others) rest) in
    let picked = same_numbers columns others (second_so (t == u) (same_columns columns others) rest) in
    sym (λ i. HostAt (predicate i) (table i) (picked i))
same_host p t columns (mention.Table u) h = absurd (true≢false (sym h))
same_host p t columns (mention.Column u c) h = absurd (true≢false (sym h))

-- ---- rows

module _ {R : Type 0} (s : State) (facts : RowFacts R) where
  same_row : (r : R) (other : TableRow) → is_row s facts r other ≡ true → (other.row.number ≡ facts.number r) × (other.row.cells ≡ facts.cells r)
  same_row r other h =
      let number = other.row.number == facts.number r in
      let cells = pointwise same_scalars other.row.cells (facts.cells r) in (
        (unsigned_Decides other.row.number (facts.number r)).0 (first_so number cells h),
        (pointwise_decides scalars_decide other.row.cells (facts.cells r)).0 (second_so number cells h),
      )

  seen_by : (r : R) (o : Option (List TableRow)) → slice_get (seen_by_role s) (facts.table r) ≡ o → is_in_table s facts r o ≡ true → IsSeen s facts r
  seen_by r None is h = absurd (true≢false (sym h))
  seen_by r (Some rows) is h =
      let found = found_in (is_row s facts r) rows h in
      let same = same_row r found.1 found.3 in
      record { rows = rows; table = is; position = found.0; row = found.1; there = found.2; number = same.0; cells = same.1 }

  -- a row that passes is seen
  pub seen_where_passes : (r : R) → is_seen s facts r ≡ true → IsSeen s facts r
  seen_where_passes r h = seen_by r (slice_get (seen_by_role s) (facts.table r)) refl h

  -- and one that is seen passes
  pub passes_where_seen : (r : R) → IsSeen s facts r → is_seen s facts r ≡ true
  passes_where_seen r seen =
      ap (is_in_table s facts r) seen.table
      ∙ any_passes_from_place (is_row s facts r) seen.rows seen.position seen.row seen.there
      (both_so (seen.row.row.number == facts.number r) (pointwise same_scalars seen.row.row.cells (facts.cells r))
      ((unsigned_Decides seen.row.row.number (facts.number r)).1 seen.number)
      ((pointwise_decides scalars_decide seen.row.row.cells (facts.cells r)).1 seen.cells))

  -- ---- tables

  table_by : (n : ℕ) (o : Option Table) (rows : List TableRow) → option_map (λ table. seen_rows s.policies s.role n table.rows) o ≡ Some rows
      → Every (λ row. row.table ≡ n) rows
  table_by n None rows h = absurd (none-some rows h)
  table_by n (Some table) rows h =
      subst (λ (l : List TableRow). Every (λ row. row.table ≡ n) l) (same_Some (seen_rows s.policies s.role n table.rows) rows h)
      (every_map (λ (row : Row). Unit {0}) (λ (row : TableRow). row.table ≡ n) (λ (row : Row). record { table = n; row = row }) (λ row here. refl)
      (filter (λ row. visible_to s.policies s.role action.Select n row.cells) table.rows) (λ k row is. tt))

  -- the rows that are seen of a table, by its number
  pub seen_of_table : (n : ℕ) → slice_get (seen_by_role s) n ≡ option_map (λ table. seen_rows s.policies s.role n table.rows) (slice_get s.tables n)
  unfolding tables_as_seen
  seen_of_table n =
      seen_at s.policies s.role 0 n s.tables
      ∙ ap (λ m. option_map (λ (table : Table). seen_rows s.policies s.role m table.rows) (slice_get s.tables n)) (zero-add n)

  -- each of them tells the table's number
  pub tells_table : (n : ℕ) (rows : List TableRow) → slice_get (seen_by_role s) n ≡ Some rows → Every (λ row. row.table ≡ n) rows
  tells_table n rows is = table_by n (slice_get s.tables n) rows (sym (seen_of_table n) ∙ is)

  -- a row of a table that the role may read passes
  pub admitted_passes : (n k : ℕ) (table : Table) (row : Row) (r : R) → slice_get s.tables n ≡ Some table → slice_get table.rows k ≡ Some row
      → visible_to s.policies s.role action.Select n row.cells ≡ true → Tells s facts (record { table = n; row = row }) r → is_seen s facts r ≡ true
  admitted_passes n k table row r there at visible tells =
      let kept = kept_at (λ (other : Row). visible_to s.policies s.role action.Select n other.cells) table.rows k row at visible in
      passes_where_seen r (record {
        rows = seen_rows s.policies s.role n table.rows;
        table = ap (slice_get (seen_by_role s)) tells.table ∙ seen_of_table n
            ∙ ap (option_map (λ (t : Table). seen_rows s.policies s.role n t.rows)) there;
        position = kept.0;
        row = record { table = n; row = row };
        there =
            slice_get-map (λ (other : Row). record { table = n; row = other })
            (filter (λ (other : Row). visible_to s.policies s.role action.Select n other.cells) table.rows) kept.0
            ∙ ap (option_map (λ (other : Row). record { table = n; row = other })) kept.1;
        number = sym tells.number;
        cells = sym tells.cells;
      })

  module _ (shown : R → TableRow) (tells : (r : R) → Tells s facts (shown r) r) (world : World R)
      (rows_are : map (map shown) world.rows ≡ seen_by_role s) where
    table_shown : (n : ℕ) (rows : List R) → slice_get world.rows n ≡ Some rows → slice_get (seen_by_role s) n ≡ Some (map shown rows)
    table_shown n rows is =
        ap (λ (l : List (List TableRow)). slice_get l n) (sym rows_are) ∙ slice_get-map (map shown) world.rows n ∙ ap (option_map (map shown)) is

    row_shown : (rows : List R) (k : ℕ) (r : R) → slice_get rows k ≡ Some r → slice_get (map shown rows) k ≡ Some (shown r)
    row_shown rows k r at = slice_get-map shown rows k ∙ ap (option_map shown) at

    row_seen : (n : ℕ) (rows : List R) → slice_get world.rows n ≡ Some rows → (k : ℕ) (r : R) → slice_get rows k ≡ Some r → IsSeen s facts r
    row_seen n rows is k r at =
        let there = row_shown rows k r at in
        let table = table_shown n rows is in
        record {
          rows = map shown rows;
          table = ap (slice_get (seen_by_role s)) ((tells r).table ∙ tells_table n (map shown rows) table k (shown r) there) ∙ table;
          position = k;
          row = shown r;
          there = there;
          number = sym (tells r).number;
          cells = sym (tells r).cells;
        }

    table_passes : (f : Form) (n : ℕ) (o : Option (List R)) → slice_get world.rows n ≡ o → is_watched_table (watch_of (is_seen s facts) f) o ≡ true
    table_passes f n None is = refl
    table_passes f n (Some rows) is = all_places (is_seen s facts) rows (λ k r at. passes_where_seen r (row_seen n rows is k r at))

    pub tables_pass : (f : Form) (n : ℕ) → is_watched_table (watch_of (is_seen s facts) f) (slice_get world.rows n) ≡ true
    tables_pass f n = table_passes f n (slice_get world.rows n) refl

  -- ---- calls

  -- a watched call is allowed where the form's host predicates are named
  pub watched_is_allowed : (world : World R) → world.predicates ≡ s.predicates → (f : Form) (call : Call)
      → IsWatched world facts (watch_of (is_seen s facts) f) call → IsAllowed s (form_uses f) call
  watched_is_allowed world predicates f call watched =
      let seen = seen_where_passes watched.row watched.passes in
      let named = found_in (is_host call.predicate call.table call.columns) (form_uses f) watched.host in
      record {
        place = named.0;
        mention = named.2 ∙ ap Some (same_host call.predicate call.table call.columns named.1 named.3);
        rows = seen.rows;
        seen = ap (slice_get (seen_by_role s)) (sym watched.table) ∙ seen.table;
        position = seen.position;
        row = seen.row;
        there = seen.there;
        number = seen.number ∙ watched.number;
        arguments = ap (λ (cells : List Scalar). arguments_at cells call.columns) seen.cells ∙ watched.arguments;
        answer = ap (λ (known : List Predicate). answer_in known call.predicate call.arguments) (sym predicates) ∙ watched.answer;
      }

-- ---- the laws

pub seen_rows_pass : {R : Type 0} → SeenRowsPass R
seen_rows_pass s facts r = (seen_where_passes s facts r, passes_where_seen s facts r)

pub seen_tables_pass : {R : Type 0} → SeenTablesPass R
seen_tables_pass s facts shown tells world rows_are f n = tables_pass s facts shown tells world rows_are f n

pub own_calls_are_allowed : {R : Type 0} → OwnCallsAreAllowed R
own_calls_are_allowed s facts shown tells world rows_are predicates f rows pass old new adds =
    let grown = adds (is_seen s facts) (tables_pass s facts shown tells world rows_are f) pass in
    (grown.calls, grown.is, λ k call at. watched_is_allowed s facts world predicates f call (grown.are_watched k call at))

-- what the tree of a statement's expression names is what the expression names
pub allowed_in_statement : (s : State) → AreDefined (schemas_of s.tables) (host_names s) s.definitions → (e : Expr) (tree : Tree)
    → term_tree (schemas_of s.tables) (translated e) (statement_places (schemas_of s.tables) (host_names s) s.definitions) ≡ Some tree
    → (calls : List Call) → Every (IsAllowed s (form_uses tree.form)) calls → Every (IsAllowed s (expression_uses e (names_in s))) calls
allowed_in_statement s defined e tree bound calls allowed =
    subst (λ (named : List Mention). Every (IsAllowed s named) calls)
    (uses_of_statements (schemas_of s.tables) (host_names s) s.definitions defined e tree bound) allowed

-- and so is what that of a condition on the rows of a table names
pub allowed_in_condition : (s : State) → AreDefined (schemas_of s.tables) (host_names s) s.definitions → (x : List ℕ) (n : ℕ) (e : Expr) (tree : Tree)
    → term_tree (schemas_of s.tables) (translated e) (condition_places (schemas_of s.tables) (host_names s) s.definitions x n) ≡ Some tree
    → (calls : List Call) → Every (IsAllowed s (form_uses tree.form)) calls
    → Every (IsAllowed s (expression_uses e (with_local (names_in s) x (ty.Row n)))) calls
allowed_in_condition s defined x n e tree bound calls allowed =
    subst (λ (named : List Mention). Every (IsAllowed s named) calls)
    (uses_of_conditions (schemas_of s.tables) (host_names s) s.definitions defined x n e tree bound) allowed

-- and what is named is evaluated where it is allowed
pub named_where_allowed : (s : State) (uses : List Use) (named : List Mention) → denial s.policies s.role uses ≡ None
    → named_if_allowed s uses named ≡ named
named_where_allowed s uses named none = ap (λ (o : Option Denied). named_unless o named) none
