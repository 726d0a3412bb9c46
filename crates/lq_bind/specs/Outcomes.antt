-- What binding answers: a tree; or that there is none, as the expression has no type or the statement is past its limits.
use Rattle.std.specs.Prelude.{◌≡◌, ◌||◌, ℕ, true, false, Bool, Option, Some, None, Result, Ok, Err, nat_lt}
use Rattle.lq_machine.specs.Opening.{rank_limit, size_limit}
use Rattle.lq_tree.specs.declared.tree.Tree.{Tree}
use Rattle.lq_bind.specs.declared.error.BindError.{BindError}
use Rattle.lq_bind.specs.declared.error.BindError.TheVariants as error
use Rattle.lq_bind.specs.declared.error.TermError.{TermError}
use Rattle.lq_bind.specs.declared.error.TermError.TheVariants as term

-- whether a statement is past the limits of opening
abbrev pub is_past : ℕ → ℕ → Bool
is_past size rank = nat_lt size_limit size || nat_lt rank_limit rank

-- The limits count before the type: a statement past them has no tree. Otherwise the tree is the one that the expression is bound to, and
-- is refused for its type exactly where there is none. Memory may be refused at any time.
abbrev pub IsBound : Bool → Option Tree → Result Tree BindError → Type 0
IsBound past tree (Ok bound) = (past ≡ false) × (tree ≡ Some bound)
IsBound past tree (Err error.IllTyped) = (past ≡ false) × (tree ≡ None)
IsBound past tree (Err error.TooDeep) = past ≡ true
IsBound past tree (Err error.Memory) = Unit {0}

-- within the limits: what there is, and a refusal for the type exactly where there is nothing
abbrev pub Gives : {A : Type 0} → Option A → Result A TermError → Type 0
Gives outcome (Ok x) = outcome ≡ Some x
Gives outcome (Err term.IllTyped) = outcome ≡ None
Gives outcome (Err term.Memory) = Unit {0}

-- what such a refusal is to callers
abbrev pub bind_error : TermError → BindError
bind_error term.Memory = error.Memory
bind_error term.IllTyped = error.IllTyped
