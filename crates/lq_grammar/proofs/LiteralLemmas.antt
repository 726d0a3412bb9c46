-- Text literals are found where they are spelled.
use Rattle.std.proofs.Common.{◌≡◌, ◌≢◌, ℕ, zero, suc, ◌+◌, ◌*◌, ◌≤◌, true, false, List, [], ◌∷◌, ◌++◌, length, refl, ap, sym, ◌∙◌, arith}
use Rattle.std.specs.Prelude.{Option, Some, None, option_and_then, option_map, ◌==◌}
use Rattle.std.specs.Str.{encode_utf8_all}
use Rattle.std.proofs.lemmas.Bool.{eqb-true}
use Rattle.std.proofs.lemmas.Bool.Decides.{nat_tests}
use Rattle.lq_grammar.specs.LexingLaws.{FindsLiterals, HasLiteral, IsLiteral, ValuesLiterals}
use Rattle.lq_grammar.specs.LexingLaws as law
use Rattle.lq_grammar.specs.TextLiterals.{Place, Step, backslash, closes, first, fourth, hexadecimal, length_from, plain, second, simple_escape, spelled_from, step, text_value, third, unit, whole}
use Rattle.lq_grammar.proofs.PieceLaws.{by_cases}

differs : (a b : ℕ) → a ≢ b → (a == b) ≡ false
differs a b e = grind (arith, nat_tests)

is_other : (a b : ℕ) → (a == b) ≡ false → a ≢ b
is_other a b e same = grind (arith, nat_tests)

-- ---- what is spelled is found

no_unit : (c x : ℕ) → simple_escape c ≡ Some x → (c == 117) ≡ false
no_unit c x e =
    by_cases (c == 117)
    (λ u. let is : c ≡ 117 = eqb-true c 117 u in let never : None ≡ Some x = rw is at e in absurd (cc))
    (λ other. other)

one_more : (o : Option ℕ) (n m : ℕ) → o ≡ Some n → suc n ≡ m → option_map suc o ≡ Some m
one_more o n m e count = rw (e, count) refl

-- a literal with its closing quote before other characters
record Found (body text behind : List ℕ) : Type 0 where
  many : length_from plain (body ++ 34 ∷ behind) ≡ Some (length body + 1)
  spells : spelled_from plain (body ++ 34 ∷ behind) ≡ text

found : {body text : List ℕ} → (behind : List ℕ) → IsLiteral body text → Found body text behind
found behind law.nothing = record { many = refl; spells = refl }
found behind (law.itself {c = c} {cs = cs} {text = text} quote slash feed more) =
    let next = found behind more in
    let a : (c == 34) ≡ false = differs c 34 quote in
    let b : (c == 92) ≡ false = differs c 92 slash in
    let d : (c == 10) ≡ false = differs c 10 feed in
    record { many = rw (a, b, d) (one_more _ _ _ next.many (omega arith)); spells = rw (a, b, d) (ap (λ rest. c ∷ rest) next.spells) }
found behind (law.escape {c = c} {x = x} {cs = cs} {text = text} e more) =
    let next = found behind more in
    let other : (c == 117) ≡ false = no_unit c x e in
    record { many = rw (other, e) (one_more _ _ _ (one_more _ _ _ next.many refl) (omega arith)); spells = rw (other, e) (ap (λ rest. x ∷ rest) next.spells) }
found behind (law.number {x = x} {cs = cs} {text = text} i j k l ea eb ec ed eu more) =
    let next = found behind more in
    record {
      many = rw (ea, eb, ec, ed, eu) (one_more _ _ _ (one_more _ _ _ (one_more _ _ _ (one_more _ _ _ (one_more _ _ _ (one_more _ _ _ next.many refl) refl) refl) refl) refl) (omega arith));
      spells = rw (ea, eb, ec, ed, eu) (ap (λ rest. x ∷ rest) next.spells);
    }

-- ---- what is found is spelled

-- one character of a literal, which does not close it
record Past (place : Place) (c : ℕ) (cs : List ℕ) (many : ℕ) : Type 0 where
  next : Step
  left : ℕ
  steps : step place c ≡ Some next
  behind : length_from next.0 cs ≡ Some left
  counted : many ≡ suc left

past : (place : Place) (c : ℕ) (cs : List ℕ) (many : ℕ) → closes place c ≡ false → length_from place (c ∷ cs) ≡ Some many → Past place c cs many
past place c cs many open_still e = by (step place c) refl (rw open_still at e)
  where
    counted_by : (s : Step) → step place c ≡ Some s → (o : Option ℕ) → length_from s.0 cs ≡ o → option_map suc o ≡ Some many → Past place c cs many
    counted_by s is None f g = absurd (cc)
    counted_by s is (Some n) f g = let e : suc n ≡ many = cc in record { next = s; left = n; steps = is; behind = f; counted = sym e }

    by : (o : Option Step) → step place c ≡ o → option_and_then (λ s. option_map suc (length_from s.0 cs)) o ≡ Some many → Past place c cs many
    by None f g = absurd (cc)
    by (Some s) f g = counted_by s f (length_from s.0 cs) refl g

-- a step of a digit
record Digit (c : ℕ) (f : ℕ → Step) (s : Step) : Type 0 where
  value : ℕ
  is : hexadecimal c ≡ Some value
  goes : f value ≡ s

digit : (c : ℕ) (f : ℕ → Step) (s : Step) → option_map f (hexadecimal c) ≡ Some s → Digit c f s
digit c f s e = by (hexadecimal c) refl e
  where
    by : (o : Option ℕ) → hexadecimal c ≡ o → option_map f o ≡ Some s → Digit c f s
    by None g h = absurd (cc)
    by (Some v) g h = let e : f v ≡ s = cc in record { value = v; is = g; goes = e }

abbrev Find : ℕ → Type 0
Find n = (cs : List ℕ) (many : ℕ) → length cs ≤ n → length_from plain cs ≡ Some many → HasLiteral cs many

-- after the first three digits of a number
last_digit : (n a b c i j k many : ℕ) (cs : List ℕ) → Find n → length cs ≤ n → hexadecimal a ≡ Some i → hexadecimal b ≡ Some j → hexadecimal c ≡ Some k
    → length_from (fourth i j k) cs ≡ Some many → HasLiteral (92 ∷ 117 ∷ a ∷ b ∷ c ∷ cs) (many + 5)
last_digit n a b c i j k many [] find le ea eb ec e = absurd (cc)
last_digit n a b c i j k many (d ∷ cs) find le ea eb ec e = by (hexadecimal d) refl p.steps
  where
    p : Past (fourth i j k) d cs many
    p = past (fourth i j k) d cs many refl e

    by_unit : (l : ℕ) → hexadecimal d ≡ Some l → (o : Option ℕ) → unit (i * 4096 + j * 256 + k * 16 + l) ≡ o → option_map whole o ≡ Some p.next
        → HasLiteral (92 ∷ 117 ∷ a ∷ b ∷ c ∷ d ∷ cs) (many + 5)
    by_unit l ed None eu f = absurd (cc)
    by_unit l ed (Some x) eu f =
        let goes : whole x ≡ p.next = cc in
        let h = find cs p.left (omega arith) (ap (λ (s : Step). length_from s.0 cs) goes ∙ p.behind) in
        record {
          body = 92 ∷ 117 ∷ a ∷ b ∷ c ∷ d ∷ h.body;
          text = x ∷ h.text;
          behind = h.behind;
          split = ap (λ rest. 92 ∷ 117 ∷ a ∷ b ∷ c ∷ d ∷ rest) h.split;
          counted = omega (arith, h.counted, p.counted);
          spelled = law.number i j k l ea eb ec ed eu h.spelled;
        }

    by : (o : Option ℕ) → hexadecimal d ≡ o → option_and_then (λ l. option_map whole (unit (i * 4096 + j * 256 + k * 16 + l))) o ≡ Some p.next
        → HasLiteral (92 ∷ 117 ∷ a ∷ b ∷ c ∷ d ∷ cs) (many + 5)
    by None ed f = absurd (cc)
    by (Some l) ed f = by_unit l ed (unit (i * 4096 + j * 256 + k * 16 + l)) refl f

third_digit : (n a b i j many : ℕ) (cs : List ℕ) → Find n → length cs ≤ n → hexadecimal a ≡ Some i → hexadecimal b ≡ Some j
    → length_from (third i j) cs ≡ Some many → HasLiteral (92 ∷ 117 ∷ a ∷ b ∷ cs) (many + 4)
third_digit n a b i j many [] find le ea eb e = absurd (cc)
third_digit n a b i j many (c ∷ cs) find le ea eb e =
    let p = past (third i j) c cs many refl e in
    let d = digit c (λ k. (fourth i j k, None)) p.next p.steps in
    let count : p.left + 5 ≡ many + 4 = omega (arith, p.counted) in
    rw (← count) (last_digit n a b c i j d.value p.left cs find (omega arith) ea eb d.is (ap (λ (s : Step). length_from s.0 cs) d.goes ∙ p.behind))

second_digit : (n a i many : ℕ) (cs : List ℕ) → Find n → length cs ≤ n → hexadecimal a ≡ Some i → length_from (second i) cs ≡ Some many → HasLiteral (92 ∷ 117 ∷ a ∷ cs) (many + 3)
second_digit n a i many [] find le ea e = absurd (cc)
second_digit n a i many (b ∷ cs) find le ea e =
    let p = past (second i) b cs many refl e in
    let d = digit b (λ j. (third i j, None)) p.next p.steps in
    let count : p.left + 4 ≡ many + 3 = omega (arith, p.counted) in
    rw (← count) (third_digit n a b i d.value p.left cs find (omega arith) ea d.is (ap (λ (s : Step). length_from s.0 cs) d.goes ∙ p.behind))

first_digit : (n many : ℕ) (cs : List ℕ) → Find n → length cs ≤ n → length_from first cs ≡ Some many → HasLiteral (92 ∷ 117 ∷ cs) (many + 2)
first_digit n many [] find le e = absurd (cc)
first_digit n many (a ∷ cs) find le e =
    let p = past first a cs many refl e in
    let d = digit a (λ i. (second i, None)) p.next p.steps in
    let count : p.left + 3 ≡ many + 2 = omega (arith, p.counted) in
    rw (← count) (second_digit n a d.value p.left cs find (omega arith) d.is (ap (λ (s : Step). length_from s.0 cs) d.goes ∙ p.behind))

-- after a backslash
escaped : (n many : ℕ) (cs : List ℕ) → Find n → length cs ≤ n → length_from backslash cs ≡ Some many → HasLiteral (92 ∷ cs) (many + 1)
escaped n many [] find le e = absurd (cc)
escaped n many (c ∷ cs) find le e = by_cases (c == 117) number_of letter_of
  where
    p : Past backslash c cs many
    p = past backslash c cs many refl e

    number_of : (c == 117) ≡ true → HasLiteral (92 ∷ c ∷ cs) (many + 1)
    number_of u =
        let is : c ≡ 117 = eqb-true c 117 u in
        let steps : Some (first, None) ≡ Some p.next = rw u at p.steps in
        let goes : (first, None) ≡ p.next = cc in
        let count : p.left + 2 ≡ many + 1 = omega (arith, p.counted) in
        rw (is, ← count) (first_digit n p.left cs find (omega arith) (ap (λ (s : Step). length_from s.0 cs) goes ∙ p.behind))

    by : (o : Option ℕ) → simple_escape c ≡ o → option_map whole o ≡ Some p.next → HasLiteral (92 ∷ c ∷ cs) (many + 1)
    by None f g = absurd (cc)
    by (Some x) f g =
        let goes : whole x ≡ p.next = cc in
        let h = find cs p.left (omega arith) (ap (λ (s : Step). length_from s.0 cs) goes ∙ p.behind) in
        record {
          body = 92 ∷ c ∷ h.body;
          text = x ∷ h.text;
          behind = h.behind;
          split = ap (λ rest. 92 ∷ c ∷ rest) h.split;
          counted = omega (arith, h.counted, p.counted);
          spelled = law.escape f h.spelled;
        }

    letter_of : (c == 117) ≡ false → HasLiteral (92 ∷ c ∷ cs) (many + 1)
    letter_of other = by (simple_escape c) refl (rw other at p.steps)

-- at a character that isn't a closing quote
inside : (n c many : ℕ) (cs : List ℕ) → Find n → length cs ≤ n → (c == 34) ≡ false → Past plain c cs many → HasLiteral (c ∷ cs) many
inside n c many cs find le quote p =
    by_cases (c == 92) escape_at (λ other. by_cases (c == 10) (λ feed. let none : None ≡ Some p.next = rw (other, feed) at p.steps in absurd (cc)) (itself_at other))
  where
    escape_at : (c == 92) ≡ true → HasLiteral (c ∷ cs) many
    escape_at slash =
        let is : c ≡ 92 = eqb-true c 92 slash in
        let steps : Some (backslash, None) ≡ Some p.next = rw slash at p.steps in
        let goes : (backslash, None) ≡ p.next = cc in
        let count : p.left + 1 ≡ many = omega (arith, p.counted) in
        rw (is, ← count) (escaped n p.left cs find le (ap (λ (s : Step). length_from s.0 cs) goes ∙ p.behind))

    itself_at : (c == 92) ≡ false → (c == 10) ≡ false → HasLiteral (c ∷ cs) many
    itself_at slash feed =
        let steps : Some (whole c) ≡ Some p.next = rw (slash, feed) at p.steps in
        let goes : whole c ≡ p.next = cc in
        let h = find cs p.left le (ap (λ (s : Step). length_from s.0 cs) goes ∙ p.behind) in
        record {
          body = c ∷ h.body;
          text = c ∷ h.text;
          behind = h.behind;
          split = ap (λ rest. c ∷ rest) h.split;
          counted = omega (arith, h.counted, p.counted);
          spelled = law.itself (is_other c 34 quote) (is_other c 92 slash) (is_other c 10 feed) h.spelled;
        }

begun : (n c many : ℕ) (cs : List ℕ) → Find n → length cs ≤ n → length_from plain (c ∷ cs) ≡ Some many → HasLiteral (c ∷ cs) many
begun n c many cs find le e =
    by_cases (c == 34)
    (λ quote.
    let is : c ≡ 34 = eqb-true c 34 quote in
    let all : Some 1 ≡ Some many = rw quote at e in
    let one : 1 ≡ many = cc in
    record { body = []; text = []; behind = cs; split = ap (λ x. x ∷ cs) is; counted = sym one; spelled = law.nothing })
    (λ other. inside n c many cs find le other (past plain c cs many other e))

find_from : (n : ℕ) → Find n
find_from n [] many le e = absurd (cc)
find_from zero (c ∷ cs) many le e = absurd (omega arith)
find_from (suc n) (c ∷ cs) many le e = begun n c many cs (find_from n) (omega arith) e

pub finds_literals : FindsLiterals
finds_literals cs many =
    ((λ e. find_from (length cs) cs many (omega arith) e), (λ h. rw (h.split, h.counted) (found h.behind h.spelled).many))

pub values_literals : ValuesLiterals
unfolding text_value
values_literals literal body text is spells = rw is (ap encode_utf8_all (found [] spells).spells)
