-- Which entries of a file have names of their own.
use Rattle.std.specs.Prelude.{◌∷◌, ◌++◌, ◌&&◌, not, List, [], map, ℕ, Bool, true}
use Rattle.lq_policyfile.specs.Names.{is_among, role_names}
use Rattle.lq_policyfile.specs.declared.entry.FileEntries.{FileEntries}
use Rattle.lq_policyfile.specs.declared.entry.PolicyEntry.{PolicyEntry}
use Rattle.lq_policyfile.specs.declared.entry.RightEntry.{RightEntry}
use Rattle.lq_policyfile.specs.declared.entry.TableEntry.{TableEntry}

-- each name is unlike those before it
abbrev pub are_new : List (List ℕ) → List (List ℕ) → Bool
are_new earlier [] = true
are_new earlier (name ∷ names) = not (is_among earlier name) && are_new (earlier ++ name ∷ []) names

abbrev pub table_names : List TableEntry → List (List ℕ)
table_names tables = map (λ table. table.name) tables

abbrev pub policy_names : List PolicyEntry → List (List ℕ)
policy_names policies = map (λ policy. policy.name) policies

abbrev pub right_names : List RightEntry → List (List ℕ)
right_names rights = map (λ right. right.name) rights

-- the names of policies, grants and withholds, under which they refuse: no two have one name, whichever of the three they are
abbrev pub names_of_rules : FileEntries → List (List ℕ)
names_of_rules file = policy_names file.policies ++ right_names file.grants ++ right_names file.withholds

-- no two roles, no two tables and no two rules have one name
abbrev pub has_no_duplicates : FileEntries → Bool
has_no_duplicates file = are_new [] (role_names file.roles) && are_new [] (table_names file.tables) && are_new [] (names_of_rules file)
