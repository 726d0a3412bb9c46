-- Tables by their names, as a store finds them.
use Rattle.std.proofs.Common.{◌≡◌, ◌∙◌, ◌∷◌, ◌<◌, List, [], ℕ, zero, suc, Option, Some, ap, sym, refl, subst, arith, length, slice_get}
use Rattle.lq_value.specs.Tables.{Table, first_named}
use Rattle.lq_store.specs.Rules.{name_of}
use Rattle.lq_machine.specs.States.{State, schemas_of}
use Rattle.lq_language.specs.Names.{table_number}
use Rattle.lq_bind.proofs.TermLaws.{table_found}

there : (tables : List Table) (n : ℕ) → n < length tables → (table : Table) × (slice_get tables n ≡ Some table)
there [] n within = absurd (omega (arith, within))
there (t ∷ ts) zero within = (t, refl)
there (t ∷ ts) (suc n) within = there ts n (omega (arith, within))

module _ (s : State) (tables : List Table) (are : tables ≡ s.tables) where
  -- the store finds a table exactly where the machine does
  pub number_same : (name : List ℕ) (o : Option ℕ) → o ≡ first_named name_of name tables → o ≡ table_number name (schemas_of s.tables)
  number_same name o found = found ∙ ap (first_named name_of name) are ∙ sym (table_found name s.tables)

  -- a number below the number of tables is one of a table
  pub table_there : (n : ℕ) → n < length tables → (table : Table) × (slice_get s.tables n ≡ Some table)
  table_there n within = there s.tables n (subst (λ (ts : List Table). n < length ts) are within)
