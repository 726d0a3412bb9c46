-- What a policy file says: its policies, or the least refusal that applies.
use Rattle.std.specs.Prelude.{◌&&◌, not, if◌then◌else◌, List, map, ℕ, Bool, true, false, Option, Some, None, Result, Ok, Err, length, nat_le, position, unwrap_or}
use Rattle.std.specs.List.{list_any}
use Rattle.std.specs.Str.{bytes_eq, is_utf8}
use Rattle.toml.specs.Data.{Members}
use Rattle.toml.specs.Parse.{parse_document}
use Rattle.lq_value.specs.Tables.{Table}
use Rattle.lq_value.specs.declared.table.Schema.{Schema}
use Rattle.lq_language.specs.declared.host_name.HostName.{HostName}
use Rattle.lq_security.specs.declared.policy.Action.{Action}
use Rattle.lq_security.specs.declared.policy.Action.TheVariants as action
use Rattle.lq_security.specs.declared.policy.Policy.{Policy}
use Rattle.lq_security.specs.declared.policy.PolicyParts.{PolicyParts}
use Rattle.lq_security.specs.declared.policy.Role.{Role}
use Rattle.lq_security.specs.declared.policy.TablePart.{TablePart}
use Rattle.lq_policyfile.specs.Duplicates.{has_no_duplicates}
use Rattle.lq_policyfile.specs.Names.{are_names_known, role_names}
use Rattle.lq_policyfile.specs.RightUses.{right_rule, table_number}
use Rattle.lq_policyfile.specs.RuleChecks.{are_rules_total, are_rules_typed}
use Rattle.lq_policyfile.specs.Shape.{entries_of}
use Rattle.lq_policyfile.specs.declared.entry.Actions.{Actions}
use Rattle.lq_policyfile.specs.declared.entry.Actions.TheVariants as actions
use Rattle.lq_policyfile.specs.declared.entry.FileEntries.{FileEntries}
use Rattle.lq_policyfile.specs.declared.entry.Kind.{Kind}
use Rattle.lq_policyfile.specs.declared.entry.Kind.TheVariants as kind
use Rattle.lq_policyfile.specs.declared.entry.PolicyEntry.{PolicyEntry}
use Rattle.lq_policyfile.specs.declared.entry.RoleEntry.{RoleEntry}
use Rattle.lq_policyfile.specs.declared.entry.TableEntry.{TableEntry}
use Rattle.lq_policyfile.specs.declared.error.PolicyFileError.{PolicyFileError}
use Rattle.lq_policyfile.specs.declared.error.PolicyFileError.TheVariants as error

-- ---- the parts of entries whose names are known

-- the number of a name among these
abbrev pub number_among : List (List ℕ) → List ℕ → ℕ
number_among names name = unwrap_or (position (bytes_eq name) names) 0

abbrev pub role_part : List (List ℕ) → RoleEntry → Role
role_part names entry = record { name = entry.name; member_of = map (number_among names) entry.member_of; bypass = entry.bypass }

-- row security is on where the file has an entry of the table that says so
abbrev pub is_secured : List TableEntry → List ℕ → Bool
is_secured entries name = list_any (λ entry. bytes_eq entry.name name && entry.row_security) entries

abbrev pub table_part : List TableEntry → Schema → TablePart
table_part entries schema = record { columns = map (λ column. column.name) schema.columns; secured = is_secured entries schema.name }

abbrev pub is_restrictive : Kind → Bool
is_restrictive kind.Permissive = false
is_restrictive kind.Restrictive = true

abbrev pub is_for_all : Actions → Bool
is_for_all actions.All = true
is_for_all (actions.Only act) = false

-- the action of a policy for one; where it is for every action any would do
abbrev pub action_of : Actions → Action
action_of actions.All = action.Select
action_of (actions.Only act) = act

abbrev pub policy_part : List Table → PolicyEntry → Policy
policy_part tables entry =
    record {
      name = entry.name;
      table = table_number tables entry.table;
      restrictive = is_restrictive entry.kind;
      for_all = is_for_all entry.rules.actions;
      action = action_of entry.rules.actions;
      to = entry.to;
      using = entry.rules.using;
      check = entry.rules.check;
    }

-- the roles, policies, grants and withholds in the order of the file, and the tables and host predicates by their numbers
abbrev pub parts_of : List Table → List HostName → FileEntries → PolicyParts
parts_of tables hosts file =
    record {
      roles = map (role_part (role_names file.roles)) file.roles;
      tables = map (λ table. table_part file.tables table.schema) tables;
      predicates = hosts;
      policies = map (policy_part tables) file.policies;
      grants = map (right_rule tables hosts) file.grants;
      withholds = map (right_rule tables hosts) file.withholds;
    }

-- ---- files

-- the least refusal that applies to entries, if one does
unfoldable pub refusal_of : List Table → List HostName → FileEntries → Option PolicyFileError
refusal_of tables hosts file =
    if not (are_names_known tables hosts file) then Some error.UnknownName
    else (if not (has_no_duplicates file) then Some error.Duplicate
    else (if not (are_rules_typed tables hosts file.policies) then Some error.RuleType
    else (if not (are_rules_total file.policies) then Some error.RuleNotTotal
    else None)))

abbrev pub unless_refused : Option PolicyFileError → PolicyParts → Result PolicyParts PolicyFileError
unless_refused None parts = Ok parts
unless_refused (Some refusal) parts = Err refusal

abbrev pub parts_in : List Table → List HostName → FileEntries → Result PolicyParts PolicyFileError
parts_in tables hosts file = unless_refused (refusal_of tables hosts file) (parts_of tables hosts file)

abbrev pub of_entries : List Table → List HostName → Option FileEntries → Result PolicyParts PolicyFileError
of_entries tables hosts None = Err error.Shape
of_entries tables hosts (Some file) = parts_in tables hosts file

-- the tree of a TOML document in UTF-8
unfoldable pub document_of : List ℕ → Option Members
document_of bytes = if is_utf8 bytes then parse_document bytes else None

abbrev pub of_document : List Table → List HostName → Option Members → Result PolicyParts PolicyFileError
of_document tables hosts None = Err error.Toml
of_document tables hosts (Some ms) = of_entries tables hosts (entries_of ms)

-- the most bytes that a policy file has
abbrev pub most_bytes : ℕ
most_bytes = 1048576

-- what the bytes of a policy file say of the tables of a store, where these host predicates are known
unfoldable pub policies_in : List Table → List HostName → List ℕ → Result PolicyParts PolicyFileError
policies_in tables hosts bytes = if nat_le (length bytes) most_bytes then of_document tables hosts (document_of bytes) else Err error.Shape
