-- Which entries name only what is there.
use Rattle.std.specs.Prelude.{◌∷◌, ◌++◌, ◌&&◌, ◌||◌, List, [], map, ℕ, Bool, true, false, Option, Some, None, codes, is_some, slice_get}
use Rattle.std.specs.List.{list_all, list_any}
use Rattle.std.specs.Str.{bytes_eq}
use Rattle.lq_value.specs.Tables.{Table, first_named}
use Rattle.lq_value.specs.declared.table.Column.{Column}
use Rattle.lq_store.specs.Rules.{name_of}
use Rattle.lq_language.specs.declared.host_name.HostName.{HostName}
use Rattle.lq_grammar.specs.declared.syntax.Expr.{Expr}
use Rattle.lq_policyfile.specs.RuleNames.{has_column, is_predicate, knows}
use Rattle.lq_policyfile.specs.declared.entry.FileEntries.{FileEntries}
use Rattle.lq_policyfile.specs.declared.entry.PolicyEntry.{PolicyEntry}
use Rattle.lq_policyfile.specs.declared.entry.RightEntry.{RightEntry}
use Rattle.lq_policyfile.specs.declared.entry.RightForm.{RightForm}
use Rattle.lq_policyfile.specs.declared.entry.RightForm.TheVariants as form
use Rattle.lq_policyfile.specs.declared.entry.RoleEntry.{RoleEntry}
use Rattle.lq_policyfile.specs.declared.entry.Rules.{Rules}
use Rattle.lq_policyfile.specs.declared.entry.TableEntry.{TableEntry}

-- a name is one of these
abbrev pub is_among : List (List ℕ) → List ℕ → Bool
is_among names name = list_any (bytes_eq name) names

abbrev pub role_names : List RoleEntry → List (List ℕ)
role_names roles = map (λ role. role.name) roles

-- each role is a member of roles that come before it
abbrev pub are_memberships_known : List (List ℕ) → List RoleEntry → Bool
are_memberships_known earlier [] = true
are_memberships_known earlier (role ∷ roles) = list_all (is_among earlier) role.member_of && are_memberships_known (earlier ++ role.name ∷ []) roles

-- ---- tables

abbrev pub is_table : List Table → List ℕ → Bool
is_table tables name = is_some (first_named name_of name tables)

abbrev pub columns_in : Option Table → List Column
columns_in None = []
columns_in (Some table) = table.schema.columns

abbrev pub columns_at : List Table → Option ℕ → List Column
columns_at tables None = []
columns_at tables (Some number) = columns_in (slice_get tables number)

-- the columns of the table of this name, none where it isn't there
abbrev pub columns_of : List Table → List ℕ → List Column
columns_of tables name = columns_at tables (first_named name_of name tables)

abbrev pub is_table_known : List Table → TableEntry → Bool
is_table_known tables entry = is_table tables entry.name

-- ---- policies

-- a rule that is there passes a test, and so do all
abbrev pub passes : (Expr → Bool) → Option Expr → Bool
passes test None = true
passes test (Some rule) = test rule

abbrev pub all_pass : (Expr → Bool) → Rules → Bool
all_pass test rules = passes test rules.using && passes test rules.check

-- a policy may apply to all roles
abbrev pub is_addressee : List (List ℕ) → List ℕ → Bool
is_addressee roles name = bytes_eq name (codes "public") || is_among roles name

-- the table of a policy, the roles that it applies to, and what its rules name
abbrev pub is_policy_known : List Table → List HostName → List (List ℕ) → PolicyEntry → Bool
is_policy_known tables hosts roles entry =
    is_table tables entry.table && list_all (is_addressee roles) entry.to
    && all_pass (λ rule. knows hosts (columns_of tables entry.table) rule false) entry.rules

-- ---- rights

-- a right names a table that is there, and a column that the table has, or a host predicate that is there
abbrev pub is_right_known : List Table → List HostName → RightForm → Bool
is_right_known tables hosts (form.Column t c) = is_table tables t && has_column (columns_of tables t) c
is_right_known tables hosts (form.AllColumns t) = is_table tables t
is_right_known tables hosts (form.Insert t) = is_table tables t
is_right_known tables hosts (form.Delete t) = is_table tables t
is_right_known tables hosts (form.Host p) = is_predicate hosts p

-- the roles that a grant or a withhold applies to, and its rights
abbrev pub is_entry_known : List Table → List HostName → List (List ℕ) → RightEntry → Bool
is_entry_known tables hosts roles entry = list_all (is_addressee roles) entry.to && list_all (is_right_known tables hosts) entry.rights

-- ---- files

abbrev pub are_rules_known : List Table → List HostName → List (List ℕ) → FileEntries → Bool
are_rules_known tables hosts roles file =
    list_all (is_policy_known tables hosts roles) file.policies && list_all (is_entry_known tables hosts roles) file.grants
    && list_all (is_entry_known tables hosts roles) file.withholds

unfoldable pub are_names_known : List Table → List HostName → FileEntries → Bool
are_names_known tables hosts file =
    are_memberships_known [] file.roles && list_all (is_table_known tables) file.tables && are_rules_known tables hosts (role_names file.roles) file
