-- The rows that a role sees, table by table.
use Rattle.std.proofs.Common.{◌≡◌, ◌∷◌, ◌++◌, ◌+◌, List, [], take, ℕ, suc, zero, Some, ap, ◌∙◌, sym, arith, add-zero, zero-add, length, ◌≤◌, option_map, slice_get}
use Rattle.std.proofs.Math.Numerals.{suc-eq-add-one}
use Rattle.std.proofs.lemmas.List.{map-append, take_all}
use Rattle.std.proofs.lemmas.Option.{none-some, same_Some}
use Rattle.lq_value.specs.Tables.{Table}
use Rattle.lq_language.specs.TableRows.{TableRow}
use Rattle.lq_security.specs.Visible.{seen_from, seen_rows, tables_as_seen}
use Rattle.lq_security.specs.declared.policy.PolicyParts.{PolicyParts}
use Rattle.lq_plan.specs.Worlds.{rows_in}
use Rattle.lq_plan.specs.declared.tables.TableRows.{TableRows}
use Rattle.lq_pull.specs.Readers.{rows_left}
use Rattle.lq_pull.specs.declared.readers.Reader.{Reader}

same_place : (start n : ℕ) → start + suc n ≡ (start + 1) + n
same_place start n = omega (arith)

module _ (parts : PolicyParts) (role : ℕ) where
  -- one table more
  pub one_more : (start n : ℕ) (tables : List Table) (seen : List TableRow)
      → Some seen ≡ option_map (λ t. seen_rows parts role (start + n) t.rows) (slice_get tables n)
      → seen_from parts role start (take n tables) ++ seen ∷ [] ≡ seen_from parts role start (take (suc n) tables)
  one_more start n [] seen is = absurd (none-some seen (sym is))
  one_more start zero (t ∷ tables) seen is =
      ap (λ (rows : List TableRow). rows ∷ []) (same_Some seen (seen_rows parts role (start + 0) t.rows) is ∙ ap (λ (n : ℕ). seen_rows parts role n t.rows) (add-zero start))
  one_more start (suc n) (t ∷ tables) seen is =
      ap (λ (rest : List (List TableRow)). seen_rows parts role start t.rows ∷ rest)
      (one_more (start + 1) n tables seen (is ∙ ap (λ (m : ℕ). option_map (λ (u : Table). seen_rows parts role m u.rows) (slice_get tables n)) (same_place start n)))

  -- the tables so far, and one more, the rows of which are what a reader has left
  pub more : (n : ℕ) (tables : List Table) (before after : List (TableRows Reader)) (one : TableRows Reader)
      → rows_in rows_left before ≡ seen_from parts role 0 (take n tables) → after ≡ before ++ one ∷ []
      → Some (rows_left one.rows) ≡ option_map (λ t. seen_rows parts role n t.rows) (slice_get tables n)
      → rows_in rows_left after ≡ seen_from parts role 0 (take (n + 1) tables)
  more n tables before after one so_far is seen =
      ap (rows_in rows_left) is ∙ map-append (λ (t : TableRows Reader). rows_left t.rows) before (one ∷ [])
      ∙ ap (λ (l : List (List TableRow)). l ++ rows_left one.rows ∷ []) so_far
      ∙ one_more 0 n tables (rows_left one.rows) (seen ∙ ap (λ (m : ℕ). option_map (λ (t : Table). seen_rows parts role m t.rows) (slice_get tables n)) (sym (zero-add n)))
      ∙ ap (λ (m : ℕ). seen_from parts role 0 (take m tables)) (suc-eq-add-one n)

  -- all tables
  pub whole : (n : ℕ) (tables : List Table) (made : List (List TableRow)) → made ≡ seen_from parts role 0 (take n tables) → length tables ≤ n
      → made ≡ tables_as_seen parts role tables
  unfolding tables_as_seen
  whole n tables made is all = is ∙ ap (seen_from parts role 0) (take_all n tables all)
