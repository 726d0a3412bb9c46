-- Arguments of methods are read as they are spelled.
use Rattle.std.proofs.Common.{arith, ◌≡◌, ◌≤◌, ℕ, suc, zero, List, [], ◌∷◌, ◌++◌, refl, ap, ◌∙◌, length}
use Rattle.std.specs.Prelude.{Some}
use Rattle.lq_grammar.specs.Grammar as s
use Rattle.lq_grammar.specs.Parsing as p
use Rattle.lq_grammar.specs.Parsing.{Parser, ◌>>=◌, begins_with, peek, pure}
use Rattle.lq_grammar.specs.Tokens.{text_of}
use Rattle.lq_grammar.specs.declared.syntax.Argument.{Argument}
use Rattle.lq_grammar.specs.declared.syntax.Argument.TheVariants as argument
use Rattle.lq_grammar.specs.declared.syntax.Expr.{Expr}
use Rattle.lq_grammar.specs.declared.syntax.Level.{Level}
use Rattle.lq_grammar.specs.declared.syntax.Level.TheVariants as level
use Rattle.lq_grammar.specs.declared.token.Kind.TheVariants as k
use Rattle.lq_grammar.specs.declared.token.Token.{Token}
use Rattle.lq_grammar.proofs.FirstTokens.{Begun, Opening}
use Rattle.lq_grammar.proofs.Following.{not_next, tight}
use Rattle.lq_grammar.proofs.Forwards.{after_sees, after_skips, bind_step, expect_step, name_step, pair_true, split_middle, turn}
use Rattle.lq_grammar.proofs.ReadParts.{Reads, ReadsOn, PartReadsOver}

module _ (line : List ℕ) (inner : Level → Parser Expr) where
  abbrev Argued : List (Argument Expr) → List Token → Type 0
  Argued args ts = ReadsOn 10 (p.some_arguments line inner) (λ turns. p.more_arguments line inner turns args) ts

  abbrev OneArgued : Argument Expr → List Token → Type 0
  OneArgued a ts = Reads 10 (p.argument_at line inner) a ts

  pub read_value : (x : Expr) (ts : List Token) → Opening line 1 ts → Reads 10 (inner level.Conditional) x ts → OneArgued (argument.Value x) ts
  unfolding p.argument_at
  read_value x ts first reads rest stops = rw (first.pair k.Arrow rest refl (omega arith)) (bind_step (inner level.Conditional) _ (ts ++ rest) rest x (reads rest stops))

  pub read_lambda : (x : Expr) (ts : List Token) (word arrow : Token) → word.kind ≡ k.Name → arrow.kind ≡ k.Arrow → Reads 10 (inner level.Conditional) x ts
      → OneArgued (argument.Lambda (text_of line word) x) (word ∷ arrow ∷ ts)
  unfolding p.argument_at
  read_lambda x ts word arrow word_is arrow_is reads rest stops =
      rw (pair_true k.Name k.Arrow word arrow (ts ++ rest) word_is arrow_is)
      (name_step line _ word (arrow ∷ (ts ++ rest)) word_is ∙ expect_step k.Arrow _ arrow (ts ++ rest) arrow_is ∙ bind_step (inner level.Conditional) _ (ts ++ rest) rest x (reads rest stops))

  pub read_one_argument : (a : Argument Expr) (ts : List Token) → OneArgued a ts → Argued (a ∷ []) ts
  unfolding p.some_arguments
  read_one_argument a ts reads rest stops =
      (length rest, omega arith, bind_step (p.argument_at line inner) (λ x tokens. p.more_arguments line inner (length tokens) (x ∷ []) tokens) (ts ++ rest) rest a (reads rest stops))

  more_arguments_step : (turns : ℕ) (args : List (Argument Expr)) (a : Argument Expr) (comma : Token) (ys rest : List Token) → comma.kind ≡ k.Comma → 10 ≤ tight (peek rest) → OneArgued a ys
      → p.more_arguments line inner (suc turns) args (comma ∷ (ys ++ rest)) ≡ p.more_arguments line inner turns (args ++ a ∷ []) rest
  unfolding p.more_arguments
  more_arguments_step turns args a comma ys rest is stops next =
      after_sees k.Comma _ _ comma (ys ++ rest) is ∙ bind_step (p.argument_at line inner) (λ x. p.more_arguments line inner turns (args ++ x ∷ [])) (ys ++ rest) rest a (next rest stops)

  more_arguments_end : (turns : ℕ) (args : List (Argument Expr)) (rest : List Token) → 12 ≤ tight (peek rest) → p.more_arguments line inner turns args rest ≡ Some (args, rest)
  unfolding p.more_arguments
  more_arguments_end zero args rest stops = refl
  more_arguments_end (suc turns) args rest stops = after_skips k.Comma _ _ rest (not_next k.Comma rest (omega arith))

  pub read_another_argument : (args : List (Argument Expr)) (a : Argument Expr) (xs ys : List Token) (comma : Token) → Argued args xs → comma.kind ≡ k.Comma → OneArgued a ys
      → Argued (args ++ a ∷ []) (xs ++ comma ∷ ys)
  unfolding peek
  read_another_argument args a xs ys comma before is next rest stops =
      let above : tight comma.kind ≡ 11 = ap tight is in
      let (turns, enough, reads) = before (comma ∷ (ys ++ rest)) (omega arith) in
      let (less, more, left) = turn turns comma ys rest enough in (
        less,
        left,
        ap (p.some_arguments line inner) (split_middle xs comma ys rest) ∙ reads ∙ ap (λ n. p.more_arguments line inner n args (comma ∷ (ys ++ rest))) more
            ∙ more_arguments_step less args a comma ys rest is stops next,
      )

  pub read_no_arguments : PartReadsOver line inner (s.Arguments []) []
  unfolding p.arguments
  read_no_arguments closing rest is = after_sees k.RightParenthesis _ _ closing rest is

  pub read_some_arguments : (args : List (Argument Expr)) (ts : List Token) → Begun 1 ts → Argued args ts → PartReadsOver line inner (s.Arguments args) ts
  unfolding p.arguments peek
  read_some_arguments args ts first reads closing rest is =
      let above : tight closing.kind ≡ 13 = ap tight is in
      let (turns, enough, front) = reads (closing ∷ rest) (omega arith) in
      after_skips k.RightParenthesis _ _ (ts ++ closing ∷ rest) (first k.RightParenthesis (closing ∷ rest) (omega arith))
      ∙ bind_step (p.some_arguments line inner) _ (ts ++ closing ∷ rest) (closing ∷ rest) args (front ∙ more_arguments_end turns args (closing ∷ rest) (omega arith))
      ∙ expect_step k.RightParenthesis _ closing rest is
