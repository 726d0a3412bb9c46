-- The law of the type by which what a line says is served: the machine serves by it.
use Rattle.std.specs.Prelude.{◌≡◌, ◌↔◌, List, [], ℕ, Some}
use Rattle.lq_value.specs.declared.ty.Ty.{Ty}
use Rattle.lq_language.specs.Meaning.{expression_meaning}
use Rattle.lq_grammar.specs.Reading.{Says, reading_of}
use Rattle.lq_grammar.specs.declared.syntax.Expr.{Expr}
use Rattle.lq_grammar.specs.declared.syntax.Statement.TheVariants as statement
use Rattle.lq_machine.specs.Machine.{step}
use Rattle.lq_machine.specs.OpeningLaws.{IsWithinLimits}
use Rattle.lq_machine.specs.Served.{line_of}
use Rattle.lq_machine.specs.ServedTypes.{line_type}
use Rattle.lq_machine.specs.Serving.{run_denial, served, served_type, unless_denied}
use Rattle.lq_machine.specs.States.{State, host_names, names_in, schemas_of, world_in}

-- The machine serves what the line says by this type: it says `run` of an expression that has the type, and opens no more than the limits
-- allow. The reply is the expression's meaning as a value of the type, or names the first use that is denied; and the state stays.
pub record IsServedBy (s : State) (line : List ℕ) (t : Ty) : Type 0 where
  pub expression : Expr
  pub says : reading_of line ≡ Says (statement.Run expression)
  pub typed : served_type (names_in s) expression ≡ Some t
  pub within : IsWithinLimits s.definitions line
  pub reply : step s line ≡ (
    Some (line_of (unless_denied (schemas_of s.tables) (host_names s) (run_denial s.policies s.role (names_in s) expression)
        (served (world_in s) (Some t) (expression_meaning (world_in s) expression [])))),
    s,
  )

-- the type of a line is that by which the machine serves it
abbrev pub IsTypeServedBy : Type 0
IsTypeServedBy = (s : State) (line : List ℕ) (t : Ty) → (line_type s line ≡ Some t) ↔ IsServedBy s line t
