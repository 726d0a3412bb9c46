-- Laws of what is disclosed about rows.
use Rattle.std.specs.Prelude.{◌≡◌, ℕ, false, slice_get}
use Rattle.lq_language.specs.ValuesOfTypes.{Every}
use Rattle.lq_security.specs.declared.policy.Action.{Action}
use Rattle.lq_store.specs.Rules.{IsTable}
use Rattle.lq_machine.specs.SessionLaws.{LooksSame}
use Rattle.lq_machine.specs.States.{State}
use Rattle.lq_policy.specs.Roles.{is_bypassing}
use Rattle.lq_audit.specs.Disclosure.{Discloses}
use Rattle.lq_audit.specs.declared.answers.Why.{Why}

-- Two states that look the same to their role, and may differ in the rows that are hidden from it, are explained alike to whoever began
-- under a role that doesn't bypass row security.
abbrev pub ExplainsAlike : Type 0
ExplainsAlike =
    (a b : State) → LooksSame a b → Every IsTable a.tables → Every IsTable b.tables
    → (starting : ℕ) → is_bypassing (slice_get a.policies.roles starting) ≡ false
    → (act : Action) (table number : ℕ) (from_a from_b : Why)
    → Discloses a.tables a.policies a.role starting act table number from_a → Discloses b.tables b.policies b.role starting act table number from_b
    → from_a ≡ from_b
