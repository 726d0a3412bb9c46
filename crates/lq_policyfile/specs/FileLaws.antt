-- The law of policy files: policies that were read for the tables of a store are such.
use Rattle.std.specs.Prelude.{◌≡◌, List, map, ℕ, true, Ok}
use Rattle.std.specs.List.{Contains}
use Rattle.lq_value.specs.Tables.{Table}
use Rattle.lq_language.specs.declared.host_name.HostName.{HostName}
use Rattle.lq_security.specs.RuleLaws.{AreReadFor}
use Rattle.lq_security.specs.TotalityLaws.{is_held_rule}
use Rattle.lq_security.specs.Visible.{HasRule}
use Rattle.lq_security.specs.declared.policy.Action.{Action}
use Rattle.lq_security.specs.declared.policy.Policy.{Policy}
use Rattle.lq_security.specs.declared.policy.PolicyParts.{PolicyParts}
use Rattle.lq_grammar.specs.declared.syntax.Expr.{Expr}
use Rattle.lq_policyfile.specs.File.{policies_in}

-- The integer literals of each rule are ints of 32 bits. In the definitions numbers have no end; Rust holds the literals, so that no other
-- rule is there.
abbrev pub AreHeld : PolicyParts → Type 0
AreHeld parts = (policy : Policy) → Contains parts.policies policy → (act : Action) (rule : Expr) → HasRule act policy rule → is_held_rule rule ≡ true

-- what a policy file says of the tables of a store are policies for these tables, whatever host predicates are known: each rule is typed over the
-- columns of its policy's table, where none is known, and can't fault
abbrev pub ReadsForTables : Type 0
ReadsForTables =
    (tables : List Table) (hosts : List HostName) (bytes : List ℕ) (parts : PolicyParts) → policies_in tables hosts bytes ≡ Ok parts → AreHeld parts
    → AreReadFor (map (λ table. table.schema) tables) parts
