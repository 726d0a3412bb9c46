-- What the rights of a file are for: the uses that each means, and the rules that grant or withhold them.
use Rattle.std.specs.Prelude.{◌∷◌, List, [], ℕ, flat_map, unwrap_or}
use Rattle.lq_value.specs.Tables.{Table, first_named}
use Rattle.lq_value.specs.declared.table.Column.{Column}
use Rattle.lq_store.specs.Rules.{name_of}
use Rattle.lq_language.specs.Uses.{columns_from}
use Rattle.lq_language.specs.declared.host_name.HostName.{HostName}
use Rattle.lq_language.specs.declared.rights.RightRule.{RightRule}
use Rattle.lq_language.specs.declared.rights.Use.{Use}
use Rattle.lq_language.specs.declared.rights.Use.TheVariants as of
use Rattle.lq_policyfile.specs.Names.{columns_of}
use Rattle.lq_policyfile.specs.declared.entry.RightEntry.{RightEntry}
use Rattle.lq_policyfile.specs.declared.entry.RightForm.{RightForm}
use Rattle.lq_policyfile.specs.declared.entry.RightForm.TheVariants as form

-- the number of the table of this name, which is there
abbrev pub table_number : List Table → List ℕ → ℕ
table_number tables name = unwrap_or (first_named name_of name tables) 0

-- the number of the column of this name, which is there
abbrev pub column_number : List Column → List ℕ → ℕ
column_number columns name = unwrap_or (first_named (λ column. column.name) name columns) 0

-- the number of the host predicate of this name, which is there
abbrev pub host_number : List HostName → List ℕ → ℕ
host_number hosts name = unwrap_or (first_named (λ host. host.name) name hosts) 0

-- What a right is for. All columns of a table are in the order of its schema.
abbrev pub uses_of : List Table → List HostName → RightForm → List Use
uses_of tables hosts (form.Column t c) = of.Column (table_number tables t) (column_number (columns_of tables t) c) ∷ []
uses_of tables hosts (form.AllColumns t) = columns_from (table_number tables t) 0 (columns_of tables t)
uses_of tables hosts (form.Insert t) = of.Insert (table_number tables t) ∷ []
uses_of tables hosts (form.Delete t) = of.Delete (table_number tables t) ∷ []
uses_of tables hosts (form.Host p) = of.Host (host_number hosts p) ∷ []

-- the rule of an entry, with what its rights are for in their order
abbrev pub right_rule : List Table → List HostName → RightEntry → RightRule
right_rule tables hosts entry = record { name = entry.name; to = entry.to; rights = flat_map (uses_of tables hosts) entry.rights }
