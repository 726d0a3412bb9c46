-- Statements and the cells of `insert` are read as they are spelled.
use Rattle.std.proofs.Common.{arith, ◌≡◌, ◌≤◌, ◌<◌, ℕ, suc, zero, true, false, List, [], ◌∷◌, ◌++◌, refl, ap, ◌∙◌, length}
use Rattle.std.specs.Prelude.{Some, pos, neg_ℤ}
use Rattle.std.proofs.lemmas.Bool.{le-leb, lt-ltb}
use Rattle.lq_value.specs.declared.scalar.Scalar.{Scalar}
use Rattle.lq_value.specs.declared.scalar.Scalar.TheVariants as scalar
use Rattle.lq_grammar.specs.TextLiterals.{text_value}
use Rattle.lq_grammar.specs.Parsing as p
use Rattle.lq_grammar.specs.Parsing.{Parser, ◌>>=◌, peek}
use Rattle.lq_grammar.specs.Tokens.{decimal_value, text_of}
use Rattle.lq_grammar.specs.declared.syntax.Expr.{Expr}
use Rattle.lq_grammar.specs.declared.syntax.Level.{Level}
use Rattle.lq_grammar.specs.declared.syntax.Level.TheVariants as level
use Rattle.lq_grammar.specs.declared.syntax.Statement.{Statement}
use Rattle.lq_grammar.specs.declared.syntax.Statement.TheVariants as statement
use Rattle.lq_grammar.specs.declared.token.Kind.{Kind}
use Rattle.lq_grammar.specs.declared.token.Kind.TheVariants as k
use Rattle.lq_grammar.specs.declared.token.Token.{Token}
use Rattle.lq_grammar.proofs.Following.{not_next, tight}
use Rattle.lq_grammar.proofs.Forwards.{after_sees, after_skips, bind_step, expect_step, name_step, split_middle, turn}
use Rattle.lq_grammar.proofs.ReadParts.{Reads, ReadsOn}

module _ (line : List ℕ) where
  -- ---- cells

  cell_is : (t : Token) (kind : Kind) (rest : List Token) → t.kind ≡ kind → p.cell line (t ∷ rest) ≡ p.cell_by line kind t rest
  unfolding p.cell
  cell_is t kind rest is = ap (λ a. p.cell_by line a t rest) is

  pub read_cell_integer : (t : Token) → t.kind ≡ k.Integer → decimal_value (text_of line t) < 2147483648
      → Reads 0 (p.cell line) (scalar.Int (pos (decimal_value (text_of line t)))) (t ∷ [])
  read_cell_integer t is below rest stops = cell_is t k.Integer rest is ∙ rw (lt-ltb (decimal_value (text_of line t)) 2147483648 below) refl

  pub read_cell_minus : (minus t : Token) → minus.kind ≡ k.Minus → t.kind ≡ k.Integer → decimal_value (text_of line t) ≤ 2147483648
      → Reads 0 (p.cell line) (scalar.Int (neg_ℤ (pos (decimal_value (text_of line t))))) (minus ∷ t ∷ [])
  read_cell_minus minus t minus_is is below rest stops =
      cell_is minus k.Minus (t ∷ rest) minus_is ∙ expect_step k.Integer (λ digits. p.cell_below_zero line (decimal_value (text_of line digits))) t rest is
      ∙ rw (le-leb (decimal_value (text_of line t)) 2147483648 below) refl

  pub read_cell_text : (t : Token) → t.kind ≡ k.Text → Reads 0 (p.cell line) (scalar.Text (text_value (text_of line t))) (t ∷ [])
  read_cell_text t is rest stops = cell_is t k.Text rest is

  pub read_cell_true : (t : Token) → t.kind ≡ k.True → Reads 0 (p.cell line) (scalar.Bool true) (t ∷ [])
  read_cell_true t is rest stops = cell_is t k.True rest is

  pub read_cell_false : (t : Token) → t.kind ≡ k.False → Reads 0 (p.cell line) (scalar.Bool false) (t ∷ [])
  read_cell_false t is rest stops = cell_is t k.False rest is

  pub read_cell_null : (t : Token) → t.kind ≡ k.Null → Reads 0 (p.cell line) scalar.Null (t ∷ [])
  read_cell_null t is rest stops = cell_is t k.Null rest is

  abbrev CellsRead : List Scalar → List Token → Type 0
  CellsRead cs ts = ReadsOn 0 (p.cells line) (λ turns. p.more_cells line turns cs) ts

  pub read_one_cell : (c : Scalar) (ts : List Token) → Reads 0 (p.cell line) c ts → CellsRead (c ∷ []) ts
  unfolding p.cells
  read_one_cell c ts first rest stops = (length rest, omega arith, bind_step (p.cell line) (λ x tokens. p.more_cells line (length tokens) (x ∷ []) tokens) (ts ++ rest) rest c (first rest stops))

  more_cells_step : (turns : ℕ) (cs : List Scalar) (c : Scalar) (comma : Token) (ys rest : List Token) → comma.kind ≡ k.Comma → Reads 0 (p.cell line) c ys
      → p.more_cells line (suc turns) cs (comma ∷ (ys ++ rest)) ≡ p.more_cells line turns (cs ++ c ∷ []) rest
  unfolding p.more_cells
  more_cells_step turns cs c comma ys rest is next =
      after_sees k.Comma _ _ comma (ys ++ rest) is ∙ bind_step (p.cell line) (λ x. p.more_cells line turns (cs ++ x ∷ [])) (ys ++ rest) rest c (next rest (omega arith))

  pub more_cells_end : (turns : ℕ) (cs : List Scalar) (rest : List Token) → 12 ≤ tight (peek rest) → p.more_cells line turns cs rest ≡ Some (cs, rest)
  unfolding p.more_cells
  more_cells_end zero cs rest stops = refl
  more_cells_end (suc turns) cs rest stops = after_skips k.Comma _ _ rest (not_next k.Comma rest (omega arith))

  pub read_another_cell : (cs : List Scalar) (c : Scalar) (xs ys : List Token) (comma : Token) → CellsRead cs xs → comma.kind ≡ k.Comma → Reads 0 (p.cell line) c ys
      → CellsRead (cs ++ c ∷ []) (xs ++ comma ∷ ys)
  read_another_cell cs c xs ys comma before is next rest stops =
      let (turns, enough, reads) = before (comma ∷ (ys ++ rest)) (omega arith) in
      let (less, more, left) = turn turns comma ys rest enough in
      (less, left, ap (p.cells line) (split_middle xs comma ys rest) ∙ reads ∙ ap (λ n. p.more_cells line n cs (comma ∷ (ys ++ rest))) more ∙ more_cells_step less cs c comma ys rest is next)

  -- ---- statements

  module _ (inner : Level → Parser Expr) where
    abbrev StatementRead : Statement → List Token → Type 0
    StatementRead x ts = p.statement_line line inner ts ≡ Some (x, [])

    statement_is : (t : Token) (kind : Kind) (rest : List Token) → t.kind ≡ kind → p.statement_line line inner (t ∷ rest) ≡ p.statement_by line inner kind t rest
    unfolding p.statement_line
    statement_is t kind rest is = ap (λ a. p.statement_by line inner a t rest) is

    value_step : (f : Expr → Parser Statement) (x : Expr) (ts : List Token) (semicolon : Token) → Reads 13 (inner level.Top) x ts → semicolon.kind ≡ k.Semicolon
        → (p.value_and_end line inner >>= f) (ts ++ semicolon ∷ []) ≡ f x []
    unfolding p.value_and_end peek
    value_step f x ts semicolon reads is =
        let above : tight semicolon.kind ≡ 13 = ap tight is in
        bind_step (p.value_and_end line inner) f (ts ++ semicolon ∷ []) [] x
        (bind_step (inner level.Top) _ (ts ++ semicolon ∷ []) (semicolon ∷ []) x (reads (semicolon ∷ []) (omega arith)) ∙ expect_step k.Semicolon _ semicolon [] is)

    pub read_run : (x : Expr) (ts : List Token) (word semicolon : Token) → word.kind ≡ k.Run → Reads 13 (inner level.Top) x ts → semicolon.kind ≡ k.Semicolon
        → StatementRead (statement.Run x) (word ∷ (ts ++ semicolon ∷ []))
    read_run x ts word semicolon word_is reads semicolon_is = statement_is word k.Run (ts ++ semicolon ∷ []) word_is ∙ value_step _ x ts semicolon reads semicolon_is

    pub read_define : (x : Expr) (ts : List Token) (word name assign semicolon : Token) → word.kind ≡ k.Var → name.kind ≡ k.Name → assign.kind ≡ k.Assign
        → Reads 13 (inner level.Top) x ts → semicolon.kind ≡ k.Semicolon → StatementRead (statement.Define (text_of line name) x) (word ∷ name ∷ assign ∷ (ts ++ semicolon ∷ []))
    read_define x ts word name assign semicolon word_is name_is assign_is reads semicolon_is =
        statement_is word k.Var _ word_is ∙ name_step line _ name _ name_is ∙ expect_step k.Assign _ assign _ assign_is ∙ value_step _ x ts semicolon reads semicolon_is

    pub read_assignment : (x : Expr) (ts : List Token) (name assign semicolon : Token) → name.kind ≡ k.Name → assign.kind ≡ k.Assign
        → Reads 13 (inner level.Top) x ts → semicolon.kind ≡ k.Semicolon → StatementRead (statement.Assign (text_of line name) x) (name ∷ assign ∷ (ts ++ semicolon ∷ []))
    read_assignment x ts name assign semicolon name_is assign_is reads semicolon_is =
        statement_is name k.Name _ name_is ∙ expect_step k.Assign _ assign _ assign_is ∙ value_step _ x ts semicolon reads semicolon_is

    pub read_role : (word name semicolon : Token) → word.kind ≡ k.As → name.kind ≡ k.Name → semicolon.kind ≡ k.Semicolon
        → StatementRead (statement.As (text_of line name)) (word ∷ name ∷ semicolon ∷ [])
    read_role word name semicolon word_is name_is semicolon_is =
        statement_is word k.As _ word_is ∙ name_step line _ name _ name_is ∙ expect_step k.Semicolon _ semicolon [] semicolon_is

    pub read_insertion : (cs : List Scalar) (ts : List Token) (word table opening closing semicolon : Token) → word.kind ≡ k.Insert → table.kind ≡ k.Name → opening.kind ≡ k.LeftParenthesis
        → CellsRead cs ts → closing.kind ≡ k.RightParenthesis → semicolon.kind ≡ k.Semicolon
        → StatementRead (statement.Insert (text_of line table) cs) (word ∷ table ∷ opening ∷ (ts ++ closing ∷ semicolon ∷ []))
    unfolding peek
    read_insertion cs ts word table opening closing semicolon word_is table_is opening_is reads closing_is semicolon_is =
        let above : tight closing.kind ≡ 13 = ap tight closing_is in
        let (turns, enough, front) = reads (closing ∷ semicolon ∷ []) (omega arith) in
        let cells_are : p.cells line (ts ++ closing ∷ semicolon ∷ []) ≡ Some (cs, closing ∷ semicolon ∷ []) = front ∙ more_cells_end turns cs (closing ∷ semicolon ∷ []) (omega arith) in
        statement_is word k.Insert _ word_is ∙ name_step line _ table _ table_is ∙ expect_step k.LeftParenthesis _ opening _ opening_is
        ∙ bind_step (p.cells line) _ (ts ++ closing ∷ semicolon ∷ []) (closing ∷ semicolon ∷ []) cs cells_are
        ∙ expect_step k.RightParenthesis _ closing _ closing_is ∙ expect_step k.Semicolon _ semicolon [] semicolon_is

    pub read_deletion : (x : Expr) (ts : List Token) (word table row arrow semicolon : Token) → word.kind ≡ k.Delete → table.kind ≡ k.Name → row.kind ≡ k.Name → arrow.kind ≡ k.Arrow
        → Reads 10 (inner level.Conditional) x ts → semicolon.kind ≡ k.Semicolon
        → StatementRead (statement.Delete (text_of line table) (text_of line row) x) (word ∷ table ∷ row ∷ arrow ∷ (ts ++ semicolon ∷ []))
    unfolding peek
    read_deletion x ts word table row arrow semicolon word_is table_is row_is arrow_is reads semicolon_is =
        let above : tight semicolon.kind ≡ 13 = ap tight semicolon_is in
        statement_is word k.Delete _ word_is ∙ name_step line _ table _ table_is ∙ name_step line _ row _ row_is ∙ expect_step k.Arrow _ arrow _ arrow_is
        ∙ bind_step (inner level.Conditional) _ (ts ++ semicolon ∷ []) (semicolon ∷ []) x (reads (semicolon ∷ []) (omega arith))
        ∙ expect_step k.Semicolon _ semicolon [] semicolon_is
