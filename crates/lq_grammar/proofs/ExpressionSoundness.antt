-- What the functions of expressions read is what the tokens spell, where what they lead back to does so.
use Rattle.std.proofs.Common.{arith, ◌≡◌, ℕ, zero, suc, ◌+◌, ◌-◌, ◌<◌, ◌==◌, true, false, List, [], ◌∷◌, ◌++◌, length, refl, ap, sym, ◌∙◌, append_assoc, append-nil}
use Rattle.std.specs.Prelude.{Some, None, nat_lt, slice_get}
use Rattle.std.proofs.lemmas.Bool.{eqb-true, ltb-true}
use Rattle.std.proofs.lemmas.List.{length-append}
use Rattle.std.proofs.lemmas.Option.{slice_get_read, some_pair_parts}
use Rattle.std.proofs.Math.Seq.{get_or-append_seam}
use Rattle.lq_grammar.specs.Grammar as s
use Rattle.lq_grammar.specs.Grammar.{Part, Spells, levels, member_of, named, operation_of, operator}
use Rattle.lq_grammar.specs.Parsing.{Parser, pure, ◌>>=◌, behind, expect, same_kind, argument_at, more_arguments, some_arguments, arguments, field_by, last_before, field, more_fields, fields, host_arguments, start_by, start, selections, primary, is_least, below_zero, prefix, operation_by, operations, chain, coalescing, conditional}
use Rattle.lq_grammar.specs.Tokens.{decimal_value, text_of}
use Rattle.lq_grammar.specs.declared.syntax.Argument.{Argument}
use Rattle.lq_grammar.specs.declared.syntax.Expr.{Expr}
use Rattle.lq_grammar.specs.declared.syntax.Expr.TheVariants as expr
use Rattle.lq_grammar.specs.declared.syntax.Field.{Field}
use Rattle.lq_grammar.specs.declared.syntax.Level.{Level}
use Rattle.lq_grammar.specs.declared.syntax.Level.TheVariants as level
use Rattle.lq_grammar.specs.declared.syntax.Node.TheVariants as node
use Rattle.lq_grammar.specs.declared.syntax.Unary.TheVariants as unary
use Rattle.lq_grammar.specs.declared.token.Kind.{Kind}
use Rattle.lq_grammar.specs.declared.token.Kind.TheVariants as k
use Rattle.lq_grammar.specs.declared.token.Token.{Token}
use Rattle.lq_grammar.proofs.Backwards.{Read, Reads, Closed, bound, expected, kind_is, either_way, done, refused, hence, part_then, part_last, token_then, name_then, chosen, tested, after_token, counted, headed, by_table, closed_then, closed_last}

-- the line of the grammar that a level leads back to
abbrev pub part_of : Level → Expr → Part
part_of level.Top x = s.Top x
part_of level.Conditional x = s.Conditional x
part_of level.Coalescing x = s.Coalescing x
part_of level.Unary x = s.Prefix x
part_of level.Primary x = s.Primary x

-- whatever a reader reads spells the part
abbrev pub Sound : List ℕ → {A : Type 0} → (A → Part) → Parser A → Type 0
Sound line part p = Reads p (λ front x. Spells line (part x) front)

-- whatever a reader reads, up to a token of the kind, spells the part
abbrev pub SoundClosed : List ℕ → {A : Type 0} → (A → Part) → Kind → Parser A → Type 0
SoundClosed line part kind p = Reads p (Closed (λ inside x. Spells line (part x) inside) kind)

-- what follows what spells a part goes on with it
abbrev pub GoesOn : List ℕ → {A : Type 0} → (A → Part) → List Token → Parser A → Type 0
GoesOn line part xs p = Reads p (λ more x. Spells line (part x) (xs ++ more))

pub stays : {line : List ℕ} {part : Part} {xs : List Token} → Spells line part xs → Spells line part (xs ++ [])
stays {xs = xs} spells = rw (append-nil xs) spells

pub goes_on : {line : List ℕ} {A : Type 0} (part : A → Part) {p : Parser A} (xs ys : List Token)
    → GoesOn line part (xs ++ ys) p → Reads p (λ more x. Spells line (part x) (xs ++ (ys ++ more)))
goes_on part xs ys reads = hence reads (λ more x spells. rw (← append_assoc xs ys more) spells)

module _ (line : List ℕ) (inner : Level → Parser Expr) (sound_inner : (l : Level) → Sound line (part_of l) (inner l)) where
  -- ---- arguments

  sound_argument_at : Sound line s.OneArgument (argument_at line inner)
  unfolding argument_at
  sound_argument_at =
      chosen _
      (name_then line _ (λ word word_is. token_then (λ arrow arrow_is. part_last _ (sound_inner level.Conditional) (λ x front spells. s.argument_lambda word arrow word_is arrow_is spells))))
      (part_last _ (sound_inner level.Conditional) (λ x front spells. s.argument_value spells))

  sound_more_arguments : (n : ℕ) (args : List (Argument Expr)) (xs : List Token) → Spells line (s.SomeArguments args) xs → GoesOn line s.SomeArguments xs (more_arguments line inner n args)
  unfolding more_arguments
  sound_more_arguments zero args xs spells = done (stays spells)
  sound_more_arguments (suc n) args xs spells =
      after_token
      (λ comma comma_is. part_then sound_argument_at (λ a ys one.
      goes_on s.SomeArguments xs (comma ∷ ys) (sound_more_arguments n (args ++ a ∷ []) (xs ++ comma ∷ ys) (s.another_argument comma spells comma_is one))))
      (done (stays spells))

  sound_some_arguments : Sound line s.SomeArguments (some_arguments line inner)
  unfolding some_arguments
  sound_some_arguments = part_then sound_argument_at (λ a xs one. counted (λ n. sound_more_arguments n (a ∷ []) xs (s.one_argument one)))

  sound_arguments : SoundClosed line s.Arguments k.RightParenthesis (arguments line inner)
  unfolding arguments
  sound_arguments =
      after_token
      (λ closing is. done (record { inside = []; closing = closing; is = is; split = refl; holds = s.no_arguments }))
      (part_then sound_some_arguments (λ args xs some.
      token_then (λ closing is. done (record { inside = xs; closing = closing; is = is; split = refl; holds = s.some_arguments some }))))

  -- ---- members of records

  -- a primary expression's last token; where that is a name, it names a member
  record Ended (ts : List Token) (x : Expr) : Type 0 where
    before : List Token
    last : Token
    split : ts ≡ before ++ last ∷ []
    field : last.kind ≡ k.Name → Spells line (s.OneField (record { name = text_of line last; value = x })) ts

  ended : {x : Expr} {ts : List Token} → Spells line (s.Primary x) ts → Ended ts x
  ended (s.digits word is below) = record { before = []; last = word; split = refl; field = λ name. absurd (cc) }
  ended (s.text word is) = record { before = []; last = word; split = refl; field = λ name. absurd (cc) }
  ended (s.truth word is) = record { before = []; last = word; split = refl; field = λ name. absurd (cc) }
  ended (s.falsehood word is) = record { before = []; last = word; split = refl; field = λ name. absurd (cc) }
  ended (s.null word is) = record { before = []; last = word; split = refl; field = λ name. absurd (cc) }
  ended (s.name word is) = record { before = []; last = word; split = refl; field = λ name. s.field_name word is }
  ended (s.parentheses {ts = ts} opening closing is spells closing_is) = record { before = opening ∷ ts; last = closing; split = refl; field = λ name. absurd (cc) }
  ended (s.host {ts = ts} word dot predicate opening closing word_is dot_is predicate_is opening_is spells closing_is) =
      record { before = word ∷ dot ∷ predicate ∷ opening ∷ ts; last = closing; split = refl; field = λ name. absurd (cc) }
  ended (s.record_of {ts = ts} word opening closing word_is opening_is spells closing_is) =
      record { before = word ∷ opening ∷ ts; last = closing; split = refl; field = λ name. absurd (cc) }
  ended (s.member {ts = ts} dot word spells dot_is word_is) =
      record { before = ts ++ dot ∷ []; last = word; split = sym (append_assoc ts (dot ∷ []) (word ∷ [])); field = λ name. s.field_member dot word spells dot_is word_is }
  ended (s.method {xs = xs} {ys = ys} dot word opening closing spells dot_is word_is opening_is args closing_is) =
      record {
        before = xs ++ dot ∷ word ∷ opening ∷ ys;
        last = closing;
        split = sym (append_assoc xs (dot ∷ word ∷ opening ∷ ys) (closing ∷ []));
        field = λ name. absurd (cc);
      }

  last_before_is : (ts before left : List Token) (last : Token) → ts ≡ before ++ last ∷ left → last_before line inner ts left ≡ Some last
  last_before_is ts before left last split =
      let long : length ts ≡ length before + length (last ∷ left) = ap length split ∙ length-append before (last ∷ left) in
      let place : length ts - length left - 1 ≡ length before = omega arith in
      let within : length before < length (before ++ last ∷ left) = rw (length-append before (last ∷ left)) (omega arith) in
      ap (λ i. slice_get ts i) place
      ∙ ap (λ all. slice_get all (length before)) split
      ∙ slice_get_read (before ++ last ∷ left) (length (before ++ last ∷ left)) (length before) last refl within (sym (get_or-append_seam before last left last))

  sound_field : Sound line s.OneField (field line inner)
  unfolding field
  sound_field =
      chosen _
      (name_then line _ (λ word word_is. token_then (λ assign assign_is. part_last _ (sound_inner level.Conditional) (λ x front spells. s.field_assigned word assign word_is assign_is spells))))
      (record {
        read = λ ts f rest e.
            let step = bound (inner level.Primary) (λ x left. field_by line inner x (last_before line inner ts left) left) ts f rest e in
            let a = (sound_inner level.Primary).read ts step.found step.mid step.first in
            let end = ended a.holds in
            let split : ts ≡ end.before ++ end.last ∷ step.mid = a.split ∙ ap (λ all. all ++ step.mid) end.split ∙ append_assoc end.before (end.last ∷ []) step.mid in
            let second : field_by line inner step.found (Some end.last) step.mid ≡ Some (f, rest) =
            ap (λ o. field_by line inner step.found o step.mid) (sym (last_before_is ts end.before step.mid end.last split)) ∙ step.second in
            let made : Field Expr = record { name = text_of line end.last; value = step.found } in
            either_way (same_kind end.last.kind k.Name) (Some (made, step.mid)) None (Some (f, rest)) second
            (λ is some.
            let found : made ≡ f = (some_pair_parts made f step.mid rest some).0 in
            let tokens : step.mid ≡ rest = (some_pair_parts made f step.mid rest some).1 in
            record {
              front = a.front;
              split = a.split ∙ ap (λ more. a.front ++ more) tokens;
              holds = rw (← ap (λ z. s.OneField z) found) (end.field (kind_is end.last.kind k.Name is));
            })
            (λ is none. absurd (cc));
      })

  sound_more_fields : (n : ℕ) (fs : List (Field Expr)) (xs : List Token) → Spells line (s.SomeFields fs) xs
      → Reads (more_fields line inner n fs) (λ more all. Closed (λ inside found. Spells line (s.Fields found) inside) k.RightBrace (xs ++ more) all)
  unfolding more_fields
  sound_more_fields zero fs xs spells = refused
  sound_more_fields (suc n) fs xs spells =
      after_token
      (λ closing is. done (record { inside = xs; closing = closing; is = is; split = refl; holds = s.some_fields spells }))
      (token_then (λ comma comma_is. after_token
      (λ closing is. done (record {
        inside = xs ++ comma ∷ [];
        closing = closing;
        is = is;
        split = sym (append_assoc xs (comma ∷ []) (closing ∷ []));
        holds = s.fields_and_comma comma spells comma_is;
      }))
      (part_then sound_field (λ f ys one.
      hence (sound_more_fields n (fs ++ f ∷ []) (xs ++ comma ∷ ys) (s.another_field comma spells comma_is one)) (λ more all is. rw (← append_assoc xs (comma ∷ ys) more) is)))))

  sound_fields : SoundClosed line s.Fields k.RightBrace (fields line inner)
  unfolding fields
  sound_fields =
      after_token
      (λ closing is. done (record { inside = []; closing = closing; is = is; split = refl; holds = s.no_fields }))
      (part_then sound_field (λ f xs one. counted (λ n. sound_more_fields n (f ∷ []) xs (s.one_field one))))

  -- ---- primary expressions

  sound_asked : Sound line (λ found. s.HostArguments found.0 found.1) (host_arguments line inner)
  unfolding host_arguments
  sound_asked =
      part_then (sound_inner level.Conditional) (λ x xs one.
      after_token (λ comma comma_is. part_last _ (sound_inner level.Conditional) (λ y ys other. s.asked_of_two comma one comma_is other)) (done (stays (s.asked_of_one one))))

  start_at : (kind : Kind) (t : Token) → t.kind ≡ kind → Reads (start_by line inner kind t) (λ more x. Spells line (s.Primary x) (t ∷ more))
  start_at k.Integer t is =
      tested (nat_lt (decimal_value (text_of line t)) 2147483648) (λ below. done (s.digits t is (ltb-true (decimal_value (text_of line t)) 2147483648 below))) (λ above. refused)
  start_at k.Text t is = done (s.text t is)
  start_at k.True t is = done (s.truth t is)
  start_at k.False t is = done (s.falsehood t is)
  start_at k.Null t is = done (s.null t is)
  start_at k.Name t is = done (s.name t is)
  start_at k.LeftParenthesis t is = part_then (sound_inner level.Top) (λ x front spells. token_then (λ closing closing_is. done (s.parentheses t closing is spells closing_is)))
  start_at k.Host t is =
      token_then (λ dot dot_is. name_then line _ (λ predicate predicate_is. token_then (λ opening opening_is. part_then sound_asked (λ xs front spells.
      token_then (λ closing closing_is. done (s.host t dot predicate opening closing is dot_is predicate_is opening_is spells closing_is))))))
  start_at k.New t is =
      token_then (λ opening opening_is. closed_last _ sound_fields (λ fs inside closing spells closing_is. s.record_of t opening closing is opening_is spells closing_is))
  start_at kind t is = refused

  sound_start : Sound line s.Primary (start line inner)
  unfolding start
  sound_start = headed (start line inner) (λ t. start_by line inner t.kind t) refl (λ t ts. refl) (λ t. start_at t.kind t refl)

  sound_selections : (n : ℕ) (x : Expr) (xs : List Token) → Spells line (s.Primary x) xs → GoesOn line s.Primary xs (selections line inner n x)
  unfolding selections
  sound_selections zero x xs spells = done (stays spells)
  sound_selections (suc n) x xs spells =
      after_token
      (λ dot dot_is. name_then line _ (λ word word_is. after_token
      (λ opening opening_is. closed_then sound_arguments (λ args ys closing given closing_is.
      let made = s.method dot word opening closing spells dot_is word_is opening_is given closing_is in
      let tokens : List Token = xs ++ dot ∷ word ∷ opening ∷ (ys ++ closing ∷ []) in
      hence (sound_selections n (expr.Node (node.Method x (text_of line word) args)) tokens made) (λ more y is.
      let same : tokens ++ more ≡ xs ++ dot ∷ word ∷ opening ∷ (ys ++ closing ∷ more) =
      append_assoc xs (dot ∷ word ∷ opening ∷ (ys ++ closing ∷ [])) more ∙ ap (λ all. xs ++ dot ∷ word ∷ opening ∷ all) (append_assoc ys (closing ∷ []) more) in
      rw (← ap (λ all. Spells line (s.Primary y) all) same) is)))
      (goes_on s.Primary xs (dot ∷ word ∷ []) (sound_selections n (member_of x (text_of line word)) (xs ++ dot ∷ word ∷ []) (s.member dot word spells dot_is word_is)))))
      (done (stays spells))

  pub sound_primary : Sound line s.Primary (primary line inner)
  unfolding primary
  sound_primary = part_then sound_start (λ x xs spells. counted (λ n. sound_selections n x xs spells))

  -- ---- operators

  -- the digits that are least after a minus sign
  least_value : (ts : List Token) (t : Token) (more : List Token) → ts ≡ t ∷ more → is_least line inner ts ≡ true → decimal_value (text_of line t) ≡ 2147483648
  least_value ts t more split is =
      let here : is_least line inner (t ∷ more) ≡ true = ap (λ all. is_least line inner all) (sym split) ∙ is in
      either_way (same_kind t.kind k.Integer) (decimal_value (text_of line t) == 2147483648) false true here
      (λ same value. eqb-true (decimal_value (text_of line t)) 2147483648 value) (λ other none. absurd (cc))

  read_least : (sign : Token) → sign.kind ≡ k.Minus → (ts : List Token) (x : Expr) (rest : List Token) → is_least line inner ts ≡ true
      → (expect k.Integer >>= (λ digits. pure s.least)) ts ≡ Some (x, rest) → Read (λ more y. Spells line (s.Prefix y) (sign ∷ more)) ts x rest
  read_least sign sign_is ts x rest is e =
      let step = bound (expect k.Integer) (λ digits. pure s.least) ts x rest e in
      let digits = expected k.Integer ts step.found step.mid step.first in
      let value = least_value ts step.found step.mid digits.split is in
      let found : s.least ≡ x = (some_pair_parts s.least x step.mid rest step.second).0 in
      let tokens : step.mid ≡ rest = (some_pair_parts s.least x step.mid rest step.second).1 in
      record {
        front = step.found ∷ [];
        split = digits.split ∙ ap (λ more. step.found ∷ more) tokens;
        holds = rw (← ap (λ y. s.Prefix y) found) (s.least_int sign step.found sign_is digits.is value);
      }

  sound_below_zero : (sign : Token) → sign.kind ≡ k.Minus → Reads (below_zero line inner) (λ more x. Spells line (s.Prefix x) (sign ∷ more))
  unfolding below_zero
  sound_below_zero sign sign_is =
      let minus : Reads (inner level.Unary >>= (λ x. pure (expr.Node (node.Unary unary.Minus x)))) (λ more x. Spells line (s.Prefix x) (sign ∷ more)) =
      part_last _ (sound_inner level.Unary) (λ x front spells. s.minus sign sign_is spells) in
      record {
        read = λ ts x rest e.
            either_way (is_least line inner ts) ((expect k.Integer >>= (λ digits. pure s.least)) ts) _ (Some (x, rest)) e
            (λ is some. read_least sign sign_is ts x rest is some) (λ is some. minus.read ts x rest some);
      }

  pub sound_prefix : Sound line s.Prefix (prefix line inner)
  unfolding prefix
  sound_prefix =
      after_token (λ sign sign_is. part_last _ (sound_inner level.Unary) (λ x front spells. s.negation sign sign_is spells))
      (after_token sound_below_zero (hence sound_primary (λ front x spells. s.primary spells)))

  sound_operations : (operand : Parser Expr) (l : ℕ) → Sound line (s.Chain l) operand → (n : ℕ) (x : Expr) (xs : List Token) → Spells line (s.Chain (suc l) x) xs
      → GoesOn line (s.Chain (suc l)) xs (operations line inner operand l n x)
  unfolding operations behind
  sound_operations operand l sound zero x xs spells = done (stays spells)
  sound_operations operand l sound (suc n) x xs spells =
      by_table (operator l) (operation_by line inner operand (operations line inner operand l n) x) (λ op. operand >>= (λ y. operations line inner operand l n (operation_of op x y))) refl
      (λ op t ts. refl)
      (done (stays spells))
      (λ op sign sign_is. part_then sound (λ y ys right.
      goes_on (s.Chain (suc l)) xs (sign ∷ ys) (sound_operations operand l sound n (operation_of op x y) (xs ++ sign ∷ ys) (s.operation sign op spells sign_is right))))

  sound_chain : (l : ℕ) → Sound line (s.Chain l) (chain line inner l)
  unfolding chain
  sound_chain zero = hence sound_prefix (λ front x spells. s.prefixed spells)
  sound_chain (suc l) = part_then (sound_chain l) (λ x xs spells. counted (λ n. sound_operations (chain line inner l) l (sound_chain l) n x xs (s.tighter spells)))

  pub sound_coalescing : Sound line s.Coalescing (coalescing line inner)
  unfolding coalescing
  sound_coalescing =
      part_then (sound_chain levels) (λ x xs spells.
      after_token (λ sign sign_is. part_last _ (sound_inner level.Coalescing) (λ y ys right. s.coalescing sign spells sign_is right)) (done (stays (s.present spells))))

  pub sound_conditional : Sound line s.Conditional (conditional line inner)
  unfolding conditional
  sound_conditional =
      part_then sound_coalescing (λ x xs test.
      after_token
      (λ question question_is. part_then (sound_inner level.Conditional) (λ y ys yes.
      token_then (λ colon colon_is. part_last _ (sound_inner level.Conditional) (λ z zs no. s.choice question colon test question_is yes colon_is no))))
      (done (stays (s.unconditional test))))
