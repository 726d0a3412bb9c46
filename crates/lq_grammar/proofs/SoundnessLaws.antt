-- What the functions of `Parsing` read from all the tokens of a line, or of a rule's text, is what the tokens spell.
use Rattle.std.proofs.Common.{◌≡◌, ℕ, zero, suc, ◌+◌, List, [], ◌∷◌, ◌++◌, length, refl, ◌∙◌, append-nil}
use Rattle.std.specs.Prelude.{Some, nat_lt, nat_le}
use Rattle.std.proofs.lemmas.Bool.{leb-true, ltb-true}
use Rattle.lq_value.specs.declared.scalar.Scalar.{Scalar}
use Rattle.lq_grammar.specs.Grammar as s
use Rattle.lq_grammar.specs.Grammar.{Spells}
use Rattle.lq_grammar.specs.Parsing.{Parser, cell_by, cell, more_cells, cells, value_and_end, statement_by, statement_line, expression, statement_of, rule_of}
use Rattle.lq_grammar.specs.Tokens.{decimal_value, text_of}
use Rattle.lq_grammar.specs.declared.syntax.Expr.{Expr}
use Rattle.lq_grammar.specs.declared.syntax.Level.{Level}
use Rattle.lq_grammar.specs.declared.syntax.Level.TheVariants as level
use Rattle.lq_grammar.specs.declared.syntax.Statement.{Statement}
use Rattle.lq_grammar.specs.declared.token.Kind.{Kind}
use Rattle.lq_grammar.specs.declared.token.Kind.TheVariants as k
use Rattle.lq_grammar.specs.declared.token.Token.{Token}
use Rattle.lq_grammar.proofs.Backwards.{Reads, at_the_end, done, refused, part_then, token_then, name_then, tested, after_token, counted, headed, closed_last}
use Rattle.lq_grammar.proofs.ExpressionSoundness.{Sound, SoundClosed, GoesOn, part_of, stays, goes_on}
use Rattle.lq_grammar.proofs.QuerySoundness.{sound_rule}

module _ (line : List ℕ) where
  -- ---- the cells of `insert`

  cell_at : (kind : Kind) (t : Token) → t.kind ≡ kind → Reads (cell_by line kind t) (λ more c. Spells line (s.Cell c) (t ∷ more))
  cell_at k.Integer t is =
      tested (nat_lt (decimal_value (text_of line t)) 2147483648) (λ below. done (s.cell_integer t is (ltb-true (decimal_value (text_of line t)) 2147483648 below))) (λ above. refused)
  cell_at k.Minus t is =
      token_then (λ digits digits_are. tested (nat_le (decimal_value (text_of line digits)) 2147483648)
      (λ below. done (s.cell_minus t digits is digits_are (leb-true (decimal_value (text_of line digits)) 2147483648 below))) (λ above. refused))
  cell_at k.Text t is = done (s.cell_text t is)
  cell_at k.True t is = done (s.cell_true t is)
  cell_at k.False t is = done (s.cell_false t is)
  cell_at k.Null t is = done (s.cell_null t is)
  cell_at kind t is = refused

  sound_cell : Sound line s.Cell (cell line)
  unfolding cell
  sound_cell = headed (cell line) (λ t. cell_by line t.kind t) refl (λ t ts. refl) (λ t. cell_at t.kind t refl)

  sound_more_cells : (n : ℕ) (cs : List Scalar) (xs : List Token) → Spells line (s.Cells cs) xs → GoesOn line s.Cells xs (more_cells line n cs)
  unfolding more_cells
  sound_more_cells zero cs xs spells = done (stays spells)
  sound_more_cells (suc n) cs xs spells =
      after_token
      (λ comma comma_is. part_then sound_cell (λ c ys one.
      goes_on s.Cells xs (comma ∷ ys) (sound_more_cells n (cs ++ c ∷ []) (xs ++ comma ∷ ys) (s.another_cell comma spells comma_is one))))
      (done (stays spells))

  sound_cells : Sound line s.Cells (cells line)
  unfolding cells
  sound_cells = part_then sound_cell (λ c xs one. counted (λ n. sound_more_cells n (c ∷ []) xs (s.one_cell one)))

  -- ---- statements

  module _ (inner : Level → Parser Expr) (sound_inner : (l : Level) → Sound line (part_of l) (inner l)) where
    sound_value_and_end : SoundClosed line s.Top k.Semicolon (value_and_end line inner)
    unfolding value_and_end
    sound_value_and_end =
        part_then (sound_inner level.Top) (λ x front spells.
        token_then (λ semicolon is. done (record { inside = front; closing = semicolon; is = is; split = refl; holds = spells })))

    statement_at : (kind : Kind) (t : Token) → t.kind ≡ kind → Reads (statement_by line inner kind t) (λ more a. Spells line (s.Line a) (t ∷ more))
    statement_at k.Run t is = closed_last _ sound_value_and_end (λ x inside semicolon spells semicolon_is. s.run t semicolon is spells semicolon_is)
    statement_at k.Var t is =
        name_then line _ (λ word word_is. token_then (λ assign assign_is.
        closed_last _ sound_value_and_end (λ x inside semicolon spells semicolon_is. s.define t word assign semicolon is word_is assign_is spells semicolon_is)))
    statement_at k.Name t is =
        token_then (λ assign assign_is. closed_last _ sound_value_and_end (λ x inside semicolon spells semicolon_is. s.assignment t assign semicolon is assign_is spells semicolon_is))
    statement_at k.As t is = name_then line _ (λ word word_is. token_then (λ semicolon semicolon_is. done (s.role t word semicolon is word_is semicolon_is)))
    statement_at k.Insert t is =
        name_then line _ (λ table table_is. token_then (λ opening opening_is. part_then sound_cells (λ cs front spells. token_then (λ closing closing_is. token_then (λ semicolon semicolon_is.
        done (s.insertion t table opening closing semicolon is table_is opening_is spells closing_is semicolon_is))))))
    statement_at k.Delete t is =
        name_then line _ (λ table table_is. name_then line _ (λ row row_is. token_then (λ arrow arrow_is. part_then (sound_inner level.Conditional) (λ x front spells. token_then (λ semicolon semicolon_is.
        done (s.deletion t table row arrow semicolon is table_is row_is arrow_is spells semicolon_is))))))
    statement_at kind t is = refused

    sound_statement_line : Sound line s.Line (statement_line line inner)
    unfolding statement_line
    sound_statement_line = headed (statement_line line inner) (λ t. statement_by line inner t.kind t) refl (λ t ts. refl) (λ t. statement_at t.kind t refl)

  -- ---- all the tokens

  sound_expression : (n : ℕ) (l : Level) → Sound line (part_of l) (expression line n l)
  unfolding expression
  sound_expression zero l = refused
  sound_expression (suc n) l = sound_rule line (expression line n) (sound_expression n) l

  pub statement_sound : (tokens : List Token) (a : Statement) → statement_of line tokens ≡ Some a → Spells line (s.Line a) tokens
  unfolding statement_of
  statement_sound tokens a e =
      let inner : Level → Parser Expr = expression line (length tokens + 1) in
      let all = (sound_statement_line inner (sound_expression (length tokens + 1))).read tokens a [] (at_the_end (statement_line line inner tokens) a e) in
      rw (all.split ∙ append-nil all.front) all.holds

  pub rule_sound : (tokens : List Token) (a : Expr) → rule_of line tokens ≡ Some a → Spells line (s.Conditional a) tokens
  unfolding rule_of
  rule_sound tokens a e =
      let all = (sound_expression (length tokens + 1) level.Conditional).read tokens a [] (at_the_end (expression line (length tokens + 1) level.Conditional tokens) a e) in
      rw (all.split ∙ append-nil all.front) all.holds
