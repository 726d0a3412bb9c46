-- A function value that reads the lines of the grammar that lead back, to a depth.
use Rattle.std.specs.Prelude.{List, ℕ, Result}
use Rattle.std.specs.Borrow.{Bor}
use Rattle.std.specs.declared.alloc.Global.{Global}
use denote.Ref.{MutBor}
use Rattle.lq_grammar.specs.Parsing.{expression}
use Rattle.lq_grammar.specs.declared.syntax.Expr.{Expr}
use Rattle.lq_grammar.specs.declared.syntax.Level.{Level}
use Rattle.lq_grammar.specs.declared.token.Token.{Token}
use Rattle.lq_syntax.specs.declared.error.ParseError.{ParseError}
use Rattle.lq_syntax.specs.Outcome.{Reads}

pub record Nests (depth : ℕ) (pre : Global → Bor (List ℕ) → MutBor (List Token) → ℕ → Level → Type 0)
    (post : Global → Bor (List ℕ) → MutBor (List Token) → ℕ → Level → Result Expr ParseError → MutBor (List Token) → Type 0) : Type 0 where
  pub callable : (alloc : Global) (line : Bor (List ℕ)) (old : MutBor (List Token)) (level : Level) → pre alloc line old depth level
  pub reads : (alloc : Global) (line : Bor (List ℕ)) (old new : MutBor (List Token)) (level : Level) (r : Result Expr ParseError) → post alloc line old depth level r new
      → Reads (expression line.now depth level old.now) r new.now
