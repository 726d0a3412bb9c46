-- The row of a number is known to whoever sees it exactly where it is found among the rows that are seen.
use Rattle.std.proofs.Common.{◌≡◌, ◌∙◌, ◌+◌, ◌∷◌, ◌==◌, ◌||◌, ◌<◌, List, [], ℕ, Bool, true, false, if◌then◌else◌, Option, Some, None, filter, map, ap, sym, refl, arith, slice_get, option_and_then, option_map, true≢false, zero-add}
use Rattle.std.specs.Prelude.{find}
use Rattle.std.proofs.lemmas.Bool.{eqb-true}
use Rattle.std.proofs.lemmas.Option.{none-some, same_Some}
use Rattle.lq_value.specs.Tables.{Table}
use Rattle.lq_value.specs.declared.table.Row.{Row}
use Rattle.lq_language.specs.TableRows.{TableRow}
use Rattle.lq_language.specs.ValuesOfTypes.{Every}
use Rattle.lq_security.specs.Visible.{seen_rows, tables_as_seen, visible_to}
use Rattle.lq_security.specs.declared.policy.Action.{Action}
use Rattle.lq_security.specs.declared.policy.Action.TheVariants as action
use Rattle.lq_security.specs.declared.policy.PolicyParts.{PolicyParts}
use Rattle.lq_store.specs.Rules.{AreNumbered, IsTable}
use Rattle.lq_machine.specs.SessionLaws.{LooksSame}
use Rattle.lq_machine.specs.States.{State, seen_by_role}
use Rattle.lq_machine.proofs.SeenTableLaws.{seen_at}
use Rattle.lq_policy.specs.Explanations.{explanation_of}
use Rattle.lq_policy.specs.Roles.{is_bypassing}
use Rattle.lq_audit.specs.Disclosure.{Discloses, IsKnown, may_know}
use Rattle.lq_audit.specs.declared.answers.Why.{Why}
use Rattle.lq_audit.specs.declared.answers.Why.TheVariants as why

-- ---- rows by their number, among those that pass a test

module _ (number : ℕ) (passes : Row → Bool) where
  abbrev is_it : Row → Bool
  is_it row = row.number == number

  -- a row that passes is found among those that do
  found_among : (rows : List Row) (row : Row) → passes row ≡ true → find is_it rows ≡ Some row → find is_it (filter passes rows) ≡ Some row
  found_among [] row pass found = found
  found_among (first ∷ rows) row pass found = by (is_it first) (passes first) refl refl (found_among rows row pass) found where
    by : (it pass_first : Bool) → is_it first ≡ it → passes first ≡ pass_first
        → (find is_it rows ≡ Some row → find is_it (filter passes rows) ≡ Some row)
        → (if it then Some first else find is_it rows) ≡ Some row
        → find is_it (if pass_first then first ∷ filter passes rows else filter passes rows) ≡ Some row
    by true true is p rest here = ap (λ b. if b then Some first else find is_it (filter passes rows)) is ∙ here
    by true false is p rest here =
        let same : first ≡ row = same_Some first row here in
        absurd (true≢false (sym pass ∙ ap passes (sym same) ∙ p))
    by false true is p rest later = ap (λ b. if b then Some first else find is_it (filter passes rows)) is ∙ rest later
    by false false is p rest later = rest later

  -- no row from a greater number on has it
  none_from : (low next : ℕ) (rows : List Row) → AreNumbered low rows next → number < low → find is_it (filter passes rows) ≡ None
  none_from low next [] numbered above = refl
  none_from low next (first ∷ rows) numbered above = by (is_it first) (passes first) refl (none_from (first.number + 1) next rows numbered.1 (omega (arith, numbered.0))) where
    by : (it pass_first : Bool) → is_it first ≡ it → find is_it (filter passes rows) ≡ None
        → find is_it (if pass_first then first ∷ filter passes rows else filter passes rows) ≡ None
    by true pass_first is rest = let same : first.number ≡ number = eqb-true first.number number is in absurd (omega (arith, numbered.0, above, same))
    by false true is rest = ap (λ b. if b then Some first else find is_it (filter passes rows)) is ∙ rest
    by false false is rest = rest

  -- one that is found among those that pass is the row of the number, and passes
  found_whole : (low next : ℕ) (rows : List Row) (row : Row) → AreNumbered low rows next → find is_it (filter passes rows) ≡ Some row
      → (find is_it rows ≡ Some row) × (passes row ≡ true)
  found_whole low next [] row numbered found = absurd (none-some row found)
  found_whole low next (first ∷ rows) row numbered found =
      by (is_it first) (passes first) refl refl (found_whole (first.number + 1) next rows row numbered.1) found where
        Shows : Bool → Type 0
        Shows it = ((if it then Some first else find is_it rows) ≡ Some row) × (passes row ≡ true)

        by : (it pass_first : Bool) → is_it first ≡ it → passes first ≡ pass_first
            → (find is_it (filter passes rows) ≡ Some row → (find is_it rows ≡ Some row) × (passes row ≡ true))
            → find is_it (if pass_first then first ∷ filter passes rows else filter passes rows) ≡ Some row → Shows (is_it first)
        by true true is p rest here =
            let there : Some first ≡ Some row = sym (ap (λ b. if b then Some first else find is_it (filter passes rows)) is) ∙ here in
            (ap (λ b. if b then Some first else find is_it rows) is ∙ there, ap passes (sym (same_Some first row there)) ∙ p)
        by true false is p rest later =
            let same : first.number ≡ number = eqb-true first.number number is in
            absurd (none-some row (sym (none_from (first.number + 1) next rows numbered.1 (omega (arith, same))) ∙ later))
        by false true is p rest later =
            let whole = rest (sym (ap (λ b. if b then Some first else find is_it (filter passes rows)) is) ∙ later) in
            (ap (λ b. if b then Some first else find is_it rows) is ∙ whole.0, whole.1)
        by false false is p rest later =
            let whole = rest later in (ap (λ b. if b then Some first else find is_it rows) is ∙ whole.0, whole.1)

-- ---- rows that are seen

module _ (number : ℕ) where
  -- the row of the number, among rows that are seen
  abbrev seen_row : List TableRow → Option Row
  seen_row rows = option_map (λ r. r.row) (find (λ r. r.row.number == number) rows)

  seen_of_rows : (table : ℕ) (rows : List Row) → seen_row (map (λ row. record { table = table; row = row }) rows) ≡ find (λ row. row.number == number) rows
  seen_of_rows table [] = refl
  seen_of_rows table (first ∷ rows) = by (first.number == number) (seen_of_rows table rows) where
    this : TableRow
    this = record { table = table; row = first }

    others : Option TableRow
    others = find (λ r. r.row.number == number) (map (λ row. record { table = table; row = row }) rows)

    by : (it : Bool) → option_map (λ r. r.row) others ≡ find (λ row. row.number == number) rows
        → option_map (λ (r : TableRow). r.row) (if it then Some this else others) ≡ (if it then Some first else find (λ row. row.number == number) rows)
    by true rest = refl
    by false rest = rest

  module _ (s : State) (starting table : ℕ) (hidden : is_bypassing (slice_get s.policies.roles starting) ≡ false) where
    sees : Row → Bool
    sees row = visible_to s.policies s.role action.Select table row.cells

    may : (row : Row) → may_know s.policies s.role starting table row ≡ visible_to s.policies s.role action.Select table row.cells
    may row = ap (λ b. b || visible_to s.policies s.role action.Select table row.cells) hidden

    seen_table : slice_get (seen_by_role s) table ≡ option_map (λ t. seen_rows s.policies s.role table t.rows) (slice_get s.tables table)
    unfolding tables_as_seen
    seen_table =
        seen_at s.policies s.role 0 table s.tables
        ∙ ap (λ (n : ℕ). option_map (λ (t : Table). seen_rows s.policies s.role n t.rows) (slice_get s.tables table)) (zero-add table)

    -- the row that may be known, among those that the role sees
    abbrev known_row : Option Row
    known_row = option_and_then seen_row (slice_get (seen_by_role s) table)

    known_in : (t : Table) → slice_get s.tables table ≡ Some t
        → known_row ≡ find (λ row. row.number == number) (filter (λ row. visible_to s.policies s.role action.Select table row.cells) t.rows)
    known_in t is =
        ap (option_and_then seen_row) (seen_table ∙ ap (option_map (λ (x : Table). seen_rows s.policies s.role table x.rows)) is)
        ∙ seen_of_rows table (filter (λ row. visible_to s.policies s.role action.Select table row.cells) t.rows)

    known_nowhere : slice_get s.tables table ≡ None → known_row ≡ None
    known_nowhere is = ap (option_and_then seen_row) (seen_table ∙ ap (option_map (λ (x : Table). seen_rows s.policies s.role table x.rows)) is)

    pub known_is_seen : (row : Row) → IsKnown s.tables s.policies s.role starting table number row → known_row ≡ Some row
    known_is_seen row known = by (slice_get s.tables table) refl known.0 where
      by : (o : Option Table) → slice_get s.tables table ≡ o → option_and_then (λ t. find (λ r. r.number == number) t.rows) o ≡ Some row → known_row ≡ Some row
      by None is found = absurd (none-some row found)
      by (Some t) is found =
          known_in t is
          ∙ found_among number (λ r. visible_to s.policies s.role action.Select table r.cells) t.rows row (sym (may row) ∙ known.1) found

    pub seen_is_known : Every IsTable s.tables → (row : Row) → known_row ≡ Some row → IsKnown s.tables s.policies s.role starting table number row
    seen_is_known are row seen = by (slice_get s.tables table) refl where
      by : (o : Option Table) → slice_get s.tables table ≡ o → (option_and_then (λ t. find (λ r. r.number == number) t.rows) o ≡ Some row) × (may_know s.policies s.role starting table row ≡ true)
      by None is = absurd (none-some row (sym (known_nowhere is) ∙ seen))
      by (Some t) is =
          let whole = found_whole number (λ r. visible_to s.policies s.role action.Select table r.cells) 1 t.next t.rows row
          (are table t is).numbered (sym (known_in t is) ∙ seen) in
          (whole.0, may row ∙ whole.1)

-- ---- states that look the same

module _ (a b : State) (same : LooksSame a b) (a_kept : Every IsTable a.tables) (b_kept : Every IsTable b.tables) (starting table number : ℕ)
    (hidden : is_bypassing (slice_get a.policies.roles starting) ≡ false) where
  hidden_too : is_bypassing (slice_get b.policies.roles starting) ≡ false
  hidden_too = ap (λ (p : PolicyParts). is_bypassing (slice_get p.roles starting)) (sym same.policies) ∙ hidden

  known_alike : known_row number a starting table hidden ≡ known_row number b starting table hidden_too
  known_alike = ap (λ (rows : List (List TableRow)). option_and_then (seen_row number) (slice_get rows table)) same.seen

  known_in_b : (row : Row) → IsKnown a.tables a.policies a.role starting table number row → IsKnown b.tables b.policies b.role starting table number row
  known_in_b row known = seen_is_known number b starting table hidden_too b_kept row (sym known_alike ∙ known_is_seen number a starting table hidden row known)

  known_in_a : (row : Row) → IsKnown b.tables b.policies b.role starting table number row → IsKnown a.tables a.policies a.role starting table number row
  known_in_a row known = seen_is_known number a starting table hidden a_kept row (known_alike ∙ known_is_seen number b starting table hidden_too row known)

  explained_alike : (act : Action) (row other : Row) → IsKnown a.tables a.policies a.role starting table number row → IsKnown b.tables b.policies b.role starting table number other
      → explanation_of a.policies a.role act table row.cells ≡ explanation_of b.policies b.role act table other.cells
  explained_alike act row other known known_other =
      let one : row ≡ other =
      same_Some row other (sym (known_is_seen number a starting table hidden row known) ∙ known_alike ∙ known_is_seen number b starting table hidden_too other known_other) in
      ap (λ (p : PolicyParts). explanation_of p a.role act table row.cells) same.policies
      ∙ ap (λ (role : ℕ). explanation_of b.policies role act table row.cells) same.role
      ∙ ap (λ (r : Row). explanation_of b.policies b.role act table r.cells) one

  pub alike : (act : Action) (from_a from_b : Why) → Discloses a.tables a.policies a.role starting act table number from_a → Discloses b.tables b.policies b.role starting act table number from_b → from_a ≡ from_b
  alike act (why.Explained found) (why.Explained other) in_a in_b = ap why.Explained (in_a.2 ∙ explained_alike act in_a.0 in_b.0 in_a.1 in_b.1 ∙ sym in_b.2)
  alike act (why.Explained found) why.Secret in_a in_b = absurd (in_b in_a.0 (known_in_b in_a.0 in_a.1))
  alike act why.Secret (why.Explained other) in_a in_b = absurd (in_a in_b.0 (known_in_a in_b.0 in_b.1))
  alike act why.Secret why.Secret in_a in_b = refl
