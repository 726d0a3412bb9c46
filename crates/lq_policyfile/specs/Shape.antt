-- Which trees have the shape of a policy file, and what their entries are.
use Rattle.std.specs.Prelude.{◌∷◌, ◌&&◌, not, if◌then◌else◌, List, [], ℕ, Bool, false, Option, Some, None, option_and_then, option_map, length, nat_le, codes, is_none, is_some}
use Rattle.std.specs.Str.{bytes_eq}
use Rattle.toml.specs.Data.{Data, Members, as_bool, as_str, as_table}
use Rattle.lq_grammar.specs.Tokens.{is_name}
use Rattle.lq_grammar.specs.Reading.{Reading, Says, rule_reading_of}
use Rattle.lq_security.specs.declared.policy.Action.TheVariants as action
use Rattle.lq_grammar.specs.declared.syntax.Expr.{Expr}
use Rattle.lq_policyfile.specs.TomlValues.{array_of, by_text, has_only, optional, passing, required, texts}
use Rattle.lq_policyfile.specs.Rights.{right_of}
use Rattle.lq_policyfile.specs.declared.entry.Actions.{Actions}
use Rattle.lq_policyfile.specs.declared.entry.Actions.TheVariants as actions
use Rattle.lq_policyfile.specs.declared.entry.FileEntries.{FileEntries}
use Rattle.lq_policyfile.specs.declared.entry.Kind.{Kind}
use Rattle.lq_policyfile.specs.declared.entry.Kind.TheVariants as kind
use Rattle.lq_policyfile.specs.declared.entry.PolicyEntry.{PolicyEntry}
use Rattle.lq_policyfile.specs.declared.entry.RightEntry.{RightEntry}
use Rattle.lq_policyfile.specs.declared.entry.RoleEntry.{RoleEntry}
use Rattle.lq_policyfile.specs.declared.entry.Rules.{Rules}
use Rattle.lq_policyfile.specs.declared.entry.TableEntry.{TableEntry}

-- ---- roles

abbrev pub role_keys : List (List ℕ)
role_keys = codes "name" ∷ codes "member_of" ∷ codes "bypass" ∷ []

-- the name of a role: a name of the language, and not `public`, which means all roles
abbrev pub is_role_name : List ℕ → Bool
is_role_name name = is_name name && not (bytes_eq name (codes "public"))

abbrev pub role_name : Members → Option (List ℕ)
role_name ms = passing is_role_name (required as_str (codes "name") ms)

-- a role with its name and the roles that it is a member of, of which it has none by default; it doesn't bypass row security by default
abbrev pub role_fields : Members → Option RoleEntry
role_fields ms =
    option_and_then (λ name. option_and_then (λ member_of. option_map (λ bypass. record { name = name; member_of = member_of; bypass = bypass })
    (optional as_bool false (codes "bypass") ms))
    (optional texts [] (codes "member_of") ms))
    (role_name ms)

abbrev pub role_in : Members → Option RoleEntry
role_in ms = if has_only role_keys ms then role_fields ms else None

abbrev pub role_of : Data → Option RoleEntry
role_of d = option_and_then role_in (as_table d)

-- ---- tables

abbrev pub table_keys : List (List ℕ)
table_keys = codes "name" ∷ codes "row_security" ∷ []

-- a table, and whether its row security is on
abbrev pub table_fields : Members → Option TableEntry
table_fields ms =
    option_and_then (λ name. option_map (λ secured. record { name = name; row_security = secured })
    (required as_bool (codes "row_security") ms))
    (required as_str (codes "name") ms)

abbrev pub table_in : Members → Option TableEntry
table_in ms = if has_only table_keys ms then table_fields ms else None

abbrev pub table_of : Data → Option TableEntry
table_of d = option_and_then table_in (as_table d)

-- ---- policies

abbrev pub policy_keys : List (List ℕ)
policy_keys = codes "name" ∷ codes "table" ∷ codes "kind" ∷ codes "for" ∷ codes "to" ∷ codes "using" ∷ codes "check" ∷ []

-- The name of a policy, a grant or a withhold, under which it refuses: 1 to 64 bytes, and none of those that mean a refusal by no rule.
abbrev pub is_rule_name : List ℕ → Bool
is_rule_name name =
    nat_le 1 (length name) && nat_le (length name) 64 && not (bytes_eq name (codes "no-grant")) && not (bytes_eq name (codes "default-deny"))

abbrev pub rule_name : Members → Option (List ℕ)
rule_name ms = passing is_rule_name (required as_str (codes "name") ms)

abbrev pub kind_of : List ℕ → Option Kind
kind_of text =
    if bytes_eq text (codes "permissive") then Some kind.Permissive
    else (if bytes_eq text (codes "restrictive") then Some kind.Restrictive
    else None)

abbrev pub actions_of : List ℕ → Option Actions
actions_of text =
    if bytes_eq text (codes "all") then Some actions.All
    else (if bytes_eq text (codes "select") then Some (actions.Only action.Select)
    else (if bytes_eq text (codes "insert") then Some (actions.Only action.Insert)
    else (if bytes_eq text (codes "delete") then Some (actions.Only action.Delete)
    else None)))

-- the tree of a text that spells a rule within the limits
abbrev pub tree_of : Reading Expr → Option Expr
tree_of (Says rule) = Some rule
tree_of reading = None

abbrev pub rule_of : List ℕ → Option (Option Expr)
rule_of text = option_map Some (tree_of (rule_reading_of text))

-- A policy for new rows alone has a rule for them and no other, and one for reading or removing has a rule for rows that are
-- there and no other. One for every action has a rule for rows that are there, and may have its own for new ones.
abbrev pub have_their_place : Actions → Option Expr → Option Expr → Bool
have_their_place actions.All using check = is_some using
have_their_place (actions.Only action.Insert) using check = is_none using && is_some check
have_their_place (actions.Only act) using check = is_some using && is_none check

abbrev pub are_in_place : Rules → Bool
are_in_place rules = have_their_place rules.actions rules.using rules.check

-- the rules of a policy, and what they are for: by default every action
abbrev pub rule_fields : Members → Option Rules
rule_fields ms =
    option_and_then (λ actions. option_and_then (λ using. option_map (λ check. record { actions = actions; using = using; check = check })
    (optional (by_text rule_of) None (codes "check") ms))
    (optional (by_text rule_of) None (codes "using") ms))
    (optional (by_text actions_of) actions.All (codes "for") ms)

abbrev pub rules_in : Members → Option Rules
rules_in ms = passing are_in_place (rule_fields ms)

-- a policy, by default a permissive one that applies to all roles
abbrev pub policy_fields : Members → Option PolicyEntry
policy_fields ms =
    option_and_then (λ name. option_and_then (λ table. option_and_then (λ kind. option_and_then (λ to. option_map (λ rules.
    record { name = name; table = table; kind = kind; to = to; rules = rules })
    (rules_in ms))
    (optional texts (codes "public" ∷ []) (codes "to") ms))
    (optional (by_text kind_of) kind.Permissive (codes "kind") ms))
    (required as_str (codes "table") ms))
    (rule_name ms)

abbrev pub policy_in : Members → Option PolicyEntry
policy_in ms = if has_only policy_keys ms then policy_fields ms else None

abbrev pub policy_of : Data → Option PolicyEntry
policy_of d = option_and_then policy_in (as_table d)

-- ---- grants and withholds

abbrev pub right_keys : List (List ℕ)
right_keys = codes "name" ∷ codes "to" ∷ codes "rights" ∷ []

-- a rule that grants rights or withholds them, by default for all roles
abbrev pub right_fields : Members → Option RightEntry
right_fields ms =
    option_and_then (λ name. option_and_then (λ to. option_map (λ rights. record { name = name; to = to; rights = rights })
    (required (array_of (by_text right_of)) (codes "rights") ms))
    (optional texts (codes "public" ∷ []) (codes "to") ms))
    (rule_name ms)

abbrev pub right_in : Members → Option RightEntry
right_in ms = if has_only right_keys ms then right_fields ms else None

abbrev pub right_entry_of : Data → Option RightEntry
right_entry_of d = option_and_then right_in (as_table d)

-- ---- files

abbrev pub file_keys : List (List ℕ)
file_keys = codes "role" ∷ codes "table" ∷ codes "policy" ∷ codes "grant" ∷ codes "withhold" ∷ []

-- a file: arrays of roles, tables, policies, grants and withholds, each of which may be absent
abbrev pub file_fields : Members → Option FileEntries
file_fields ms =
    option_and_then (λ roles. option_and_then (λ tables. option_and_then (λ policies. option_and_then (λ grants. option_map (λ withholds.
    record { roles = roles; tables = tables; policies = policies; grants = grants; withholds = withholds })
    (optional (array_of right_entry_of) [] (codes "withhold") ms))
    (optional (array_of right_entry_of) [] (codes "grant") ms))
    (optional (array_of policy_of) [] (codes "policy") ms))
    (optional (array_of table_of) [] (codes "table") ms))
    (optional (array_of role_of) [] (codes "role") ms)

unfoldable pub entries_of : Members → Option FileEntries
entries_of ms = if has_only file_keys ms then file_fields ms else None
