-- The members of `new` are read as they are spelled.
use Rattle.std.proofs.Common.{arith, ◌≡◌, ◌≤◌, ◌+◌, ◌-◌, ℕ, suc, false, List, [], ◌∷◌, ◌++◌, refl, ap, sym, ◌∙◌, length}
use Rattle.std.specs.Prelude.{Some, slice_get}
use Rattle.std.proofs.Math.Seq.{get_or-append_seam}
use Rattle.std.proofs.lemmas.List.{length-append}
use Rattle.std.proofs.lemmas.Option.{slice_get-get_or}
use Rattle.lq_grammar.specs.Grammar as s
use Rattle.lq_grammar.specs.Grammar.{member_of, named}
use Rattle.lq_grammar.specs.Parsing as p
use Rattle.lq_grammar.specs.Parsing.{Parser, ◌>>=◌, begins_with, begins_with_two, peek, pure}
use Rattle.lq_grammar.specs.Tokens.{text_of}
use Rattle.lq_grammar.specs.declared.syntax.Expr.{Expr}
use Rattle.lq_grammar.specs.declared.syntax.Field.{Field}
use Rattle.lq_grammar.specs.declared.syntax.Level.{Level}
use Rattle.lq_grammar.specs.declared.syntax.Level.TheVariants as level
use Rattle.lq_grammar.specs.declared.token.Kind.TheVariants as k
use Rattle.lq_grammar.specs.declared.token.Token.{Token}
use Rattle.lq_grammar.proofs.FirstTokens.{Begun, Opening}
use Rattle.lq_grammar.proofs.Following.{not_next, tight}
use Rattle.lq_grammar.proofs.Forwards.{after_sees, after_skips, begins_false, bind_step, expect_step, name_step, pair_half, pair_true, same_kind_true, split_middle, turn}
use Rattle.lq_grammar.proofs.ReadParts.{Reads, ReadsOn, PartReadsOver}

module _ (line : List ℕ) (inner : Level → Parser Expr) where
  abbrev FieldRead : Field Expr → List Token → Type 0
  FieldRead f ts = Reads 10 (p.field line inner) f ts

  abbrev FieldsRead : List (Field Expr) → List Token → Type 0
  FieldsRead fs ts = ReadsOn 10 (p.fields line inner) (λ turns. p.more_fields line inner turns fs) ts

  -- ---- one member

  pub read_field_assigned : (x : Expr) (ts : List Token) (word assign : Token) → word.kind ≡ k.Name → assign.kind ≡ k.Assign → Reads 10 (inner level.Conditional) x ts
      → FieldRead (record { name = text_of line word; value = x }) (word ∷ assign ∷ ts)
  unfolding p.field
  read_field_assigned x ts word assign word_is assign_is reads rest stops =
      rw (pair_true k.Name k.Assign word assign (ts ++ rest) word_is assign_is)
      (name_step line _ word (assign ∷ (ts ++ rest)) word_is ∙ expect_step k.Assign _ assign (ts ++ rest) assign_is ∙ bind_step (inner level.Conditional) _ (ts ++ rest) rest x (reads rest stops))

  -- the last token that was read is the one in front of what is left
  last_is : (front : List Token) (word : Token) (rest : List Token) → p.last_before line inner (front ++ word ∷ rest) rest ≡ Some word
  last_is front word rest =
      let whole : length (front ++ word ∷ rest) ≡ length front + length (word ∷ rest) = length-append front (word ∷ rest) in
      let place : length (front ++ word ∷ rest) - length rest - 1 ≡ length front = omega arith in
      ap (λ i. slice_get (front ++ word ∷ rest) i) place
      ∙ slice_get-get_or (front ++ word ∷ rest) (length front) word (omega arith)
      ∙ ap Some (get_or-append_seam front word rest word)

  field_by_name : (x : Expr) (word : Token) (rest : List Token) → word.kind ≡ k.Name → p.field_by line inner x (Some word) rest ≡ Some (record { name = text_of line word; value = x }, rest)
  field_by_name x word rest is = rw (same_kind_true word.kind k.Name is) refl

  field_ends_in : (x : Expr) (front : List Token) (word : Token) (rest : List Token) → word.kind ≡ k.Name → begins_with_two k.Name k.Assign (front ++ word ∷ rest) ≡ false
      → inner level.Primary (front ++ word ∷ rest) ≡ Some (x, rest) → p.field line inner (front ++ word ∷ rest) ≡ Some (record { name = text_of line word; value = x }, rest)
  unfolding p.field
  field_ends_in x front word rest is no_pair reads =
      rw no_pair
      (bind_step (inner level.Primary) (λ a left. p.field_by line inner a (p.last_before line inner (front ++ word ∷ rest) left) left) (front ++ word ∷ rest) rest x reads
      ∙ ap (λ o. p.field_by line inner x o rest) (last_is front word rest) ∙ field_by_name x word rest is)

  pub read_field_name : (word : Token) → word.kind ≡ k.Name → Reads 2 (inner level.Primary) (named (text_of line word)) (word ∷ [])
      → FieldRead (record { name = text_of line word; value = named (text_of line word) }) (word ∷ [])
  read_field_name word is reads rest stops =
      field_ends_in (named (text_of line word)) [] word rest is (pair_half k.Name k.Assign word rest is (not_next k.Assign rest (omega arith))) (reads rest (omega arith))

  pub read_field_member : (x : Expr) (ts : List Token) (dot word : Token) → Opening line 0 ts → dot.kind ≡ k.Dot → word.kind ≡ k.Name
      → Reads 2 (inner level.Primary) (member_of x (text_of line word)) (ts ++ dot ∷ word ∷ [])
      → FieldRead (record { name = text_of line word; value = member_of x (text_of line word) }) (ts ++ dot ∷ word ∷ [])
  unfolding peek
  read_field_member x ts dot word first dot_is word_is reads rest stops =
      let above : tight dot.kind ≡ 1 = ap tight dot_is in
      let split : (ts ++ dot ∷ word ∷ []) ++ rest ≡ ts ++ dot ∷ word ∷ rest = split_middle ts dot (word ∷ []) rest in
      let again : (ts ++ dot ∷ []) ++ word ∷ rest ≡ ts ++ dot ∷ word ∷ rest = split_middle ts dot [] (word ∷ rest) in
      ap (p.field line inner) (split ∙ sym again)
      ∙ field_ends_in (member_of x (text_of line word)) (ts ++ dot ∷ []) word rest word_is
      (ap (begins_with_two k.Name k.Assign) again ∙ first.pair k.Assign (dot ∷ word ∷ rest) refl (omega arith))
      (ap (inner level.Primary) (again ∙ sym split) ∙ reads rest (omega arith))

  -- ---- rows of members

  pub read_one_field : (f : Field Expr) (ts : List Token) → Begun 1 ts → FieldRead f ts → FieldsRead (f ∷ []) ts
  unfolding p.fields
  read_one_field f ts first reads rest stops = (
    length rest,
    omega arith,
    after_skips k.RightBrace _ _ (ts ++ rest) (first k.RightBrace rest (omega arith))
        ∙ bind_step (p.field line inner) (λ x tokens. p.more_fields line inner (length tokens) (x ∷ []) tokens) (ts ++ rest) rest f (reads rest stops),
  )

  more_fields_step : (turns : ℕ) (fs : List (Field Expr)) (f : Field Expr) (comma : Token) (ys rest : List Token) → comma.kind ≡ k.Comma → 10 ≤ tight (peek rest) → Begun 1 ys → FieldRead f ys
      → p.more_fields line inner (suc turns) fs (comma ∷ (ys ++ rest)) ≡ p.more_fields line inner turns (fs ++ f ∷ []) rest
  unfolding p.more_fields
  more_fields_step turns fs f comma ys rest is stops first next =
      after_skips k.RightBrace _ _ (comma ∷ (ys ++ rest)) (begins_false k.RightBrace comma (ys ++ rest) (λ e. cc))
      ∙ expect_step k.Comma _ comma (ys ++ rest) is
      ∙ after_skips k.RightBrace _ _ (ys ++ rest) (first k.RightBrace rest (omega arith))
      ∙ bind_step (p.field line inner) (λ x. p.more_fields line inner turns (fs ++ x ∷ [])) (ys ++ rest) rest f (next rest stops)

  pub read_another_field : (fs : List (Field Expr)) (f : Field Expr) (xs ys : List Token) (comma : Token) → FieldsRead fs xs → comma.kind ≡ k.Comma → Begun 1 ys → FieldRead f ys
      → FieldsRead (fs ++ f ∷ []) (xs ++ comma ∷ ys)
  unfolding peek
  read_another_field fs f xs ys comma before is first next rest stops =
      let above : tight comma.kind ≡ 11 = ap tight is in
      let (turns, enough, reads) = before (comma ∷ (ys ++ rest)) (omega arith) in
      let (less, more, left) = turn turns comma ys rest enough in (
        less,
        left,
        ap (p.fields line inner) (split_middle xs comma ys rest) ∙ reads ∙ ap (λ n. p.more_fields line inner n fs (comma ∷ (ys ++ rest))) more
            ∙ more_fields_step less fs f comma ys rest is stops first next,
      )

  -- ---- the members up to the brace that closes them

  pub read_no_fields : PartReadsOver line inner (s.Fields []) []
  unfolding p.fields
  read_no_fields closing rest is = after_sees k.RightBrace _ _ closing rest is

  fields_close : (turns : ℕ) (fs : List (Field Expr)) (closing : Token) (rest : List Token) → closing.kind ≡ k.RightBrace
      → p.more_fields line inner (suc turns) fs (closing ∷ rest) ≡ Some (fs, rest)
  unfolding p.more_fields
  fields_close turns fs closing rest is = after_sees k.RightBrace _ _ closing rest is

  fields_close_by_comma : (turns : ℕ) (fs : List (Field Expr)) (comma closing : Token) (rest : List Token) → comma.kind ≡ k.Comma → closing.kind ≡ k.RightBrace
      → p.more_fields line inner (suc turns) fs (comma ∷ closing ∷ rest) ≡ Some (fs, rest)
  unfolding p.more_fields
  fields_close_by_comma turns fs comma closing rest comma_is is =
      after_skips k.RightBrace _ _ (comma ∷ closing ∷ rest) (begins_false k.RightBrace comma (closing ∷ rest) (λ e. cc))
      ∙ expect_step k.Comma _ comma (closing ∷ rest) comma_is ∙ after_sees k.RightBrace _ _ closing rest is

  pub read_some_fields : (fs : List (Field Expr)) (ts : List Token) → FieldsRead fs ts → PartReadsOver line inner (s.Fields fs) ts
  unfolding peek
  read_some_fields fs ts reads closing rest is =
      let above : tight closing.kind ≡ 13 = ap tight is in
      let (turns, enough, front) = reads (closing ∷ rest) (omega arith) in
      let (less, more, left) = turn turns closing [] rest enough in
      front ∙ ap (λ n. p.more_fields line inner n fs (closing ∷ rest)) more ∙ fields_close less fs closing rest is

  pub read_fields_and_comma : (fs : List (Field Expr)) (ts : List Token) (comma : Token) → FieldsRead fs ts → comma.kind ≡ k.Comma → PartReadsOver line inner (s.Fields fs) (ts ++ comma ∷ [])
  unfolding peek
  read_fields_and_comma fs ts comma reads comma_is closing rest is =
      let above : tight comma.kind ≡ 11 = ap tight comma_is in
      let (turns, enough, front) = reads (comma ∷ closing ∷ rest) (omega arith) in
      let (less, more, left) = turn turns comma (closing ∷ []) rest enough in
      ap (p.fields line inner) (split_middle ts comma [] (closing ∷ rest)) ∙ front ∙ ap (λ n. p.more_fields line inner n fs (comma ∷ closing ∷ rest)) more
      ∙ fields_close_by_comma less fs comma closing rest comma_is is
