-- Proofs of the laws of what a statement opens: its size and its rank are those of its tokens.
use Rattle.std.proofs.Common.{◌≡◌, ◌≢◌, ◌∷◌, ◌++◌, ◌+◌, ◌≤◌, ◌⊎◌, if◌then◌else◌, List, [], ℕ, zero, suc, Bool, true, false, Option, Some, None, length, slice_get, bytes_eq, ap, ◌∙◌, arith, sym, refl, subst, inl, inr, true≢false}
use Rattle.std.specs.Prelude.{nat_lt, sum}
use Rattle.std.specs.List.{Contains}
use Rattle.std.proofs.lemmas.Bool.Decides.{nat_tests}
use Rattle.std.proofs.lemmas.List.Elements.{Contains-append_cases, Contains-append_left, Contains-append_right}
use Rattle.std.proofs.lemmas.List.Sums.{sum_by-cons}
use Rattle.std.proofs.lemmas.Option.{none-some, same_Some}
use Rattle.std.proofs.lemmas.Slice.Eq.{bytes_eq-Decides}
use Rattle.lq_machine.specs.Definitions.{definition_of}
use Rattle.lq_machine.specs.Opening.{opened_as, opened_behind, opened_by, opened_from, opened_named, opening_among, opening_of, rank_with, size_with}
use Rattle.lq_machine.specs.OpeningLaws.{AddsAt, opening, nothing, FindsRank, FindsSize, IsNamedQuery, IsRank, above, lowest, IsSize, OpensAt, OpensNothing}
use Rattle.lq_grammar.specs.Tokens.{text_of}
use Rattle.lq_machine.specs.declared.session.Defined.{Defined}
use Rattle.lq_machine.specs.declared.session.Defined.TheVariants as of
use Rattle.lq_machine.specs.declared.session.Definition.{Definition}
use Rattle.lq_machine.specs.declared.session.Opened.{Opened}
use Rattle.lq_grammar.specs.declared.token.Kind.{Kind}
use Rattle.lq_grammar.specs.declared.token.Kind.TheVariants as k
use Rattle.lq_grammar.specs.declared.token.Token.{Token}
use Rattle.lq_security.proofs.MembershipLaws.{has_cases, has_first, has_later, none_in_nil}
use Rattle.lq_machine.proofs.OpenedLaws.{size_more}

-- ---- the first definition of a name

abbrev IsFirstOf : List Definition → List ℕ → Definition → Type 0
IsFirstOf ds name d =
    (front : List Definition) × (rest : List Definition) × (ds ≡ front ++ d ∷ rest) × (d.name ≡ name) × ((earlier : Definition) → Contains front earlier → earlier.name ≢ name)

first_later : (name : List ℕ) (e : Definition) (ds : List Definition) (d : Definition) → e.name ≢ name → IsFirstOf ds name d → IsFirstOf (e ∷ ds) name d
first_later name e ds d other found = (
  e ∷ found.0,
  found.1,
  ap (λ (l : List Definition). e ∷ l) found.2,
  found.3,
  λ earlier has. elim (has_cases e found.0 earlier has) [
    | inl same ↦ subst (λ (x : Definition). x.name ≢ name) same other
    | inr later ↦ found.4 earlier later
  ],
)

first_told : (name : List ℕ) (ds : List Definition) (d : Definition) → definition_of name ds ≡ Some d → IsFirstOf ds name d
first_told name [] d h = absurd (none-some d h)
first_told name (e ∷ ds) d h = by (bytes_eq e.name name) refl (first_told name ds d) h where
  here : e.name ≡ name → e ≡ d → IsFirstOf (e ∷ ds) name d
  here is same = subst (IsFirstOf (e ∷ ds) name) same ([], ds, refl, is, λ earlier has. absurd (none_in_nil earlier has))

  by : (b : Bool) → bytes_eq e.name name ≡ b → (definition_of name ds ≡ Some d → IsFirstOf ds name d) → (if b then Some e else definition_of name ds) ≡ Some d
      → IsFirstOf (e ∷ ds) name d
  by true is rest g = here ((bytes_eq-Decides e.name name).0 is) (same_Some e d g)
  by false isnt rest g = first_later name e ds d (λ is. true≢false (sym ((bytes_eq-Decides e.name name).1 is) ∙ isnt)) (rest g)

not_named : (d : Definition) (name : List ℕ) → d.name ≢ name → bytes_eq d.name name ≡ false
not_named d name other = by (bytes_eq d.name name) refl where
  by : (b : Bool) → bytes_eq d.name name ≡ b → b ≡ false
  by true is = absurd (other ((bytes_eq-Decides d.name name).0 is))
  by false isnt = refl

first_given : (name : List ℕ) (front : List Definition) (d : Definition) (rest : List Definition) → d.name ≡ name
    → ((earlier : Definition) → Contains front earlier → earlier.name ≢ name) → definition_of name (front ++ d ∷ rest) ≡ Some d
first_given name [] d rest is first = ap (λ (b : Bool). if b then Some d else definition_of name rest) ((bytes_eq-Decides d.name name).1 is)
first_given name (e ∷ front) d rest is first =
    ap (λ (b : Bool). if b then Some e else definition_of name (front ++ d ∷ rest)) (not_named e name (first e (has_first e front)))
    ∙ first_given name front d rest is (λ earlier has. first earlier (has_later e front earlier has))

-- ---- what a name opens

module _ (definitions : List Definition) where
  -- what a name opens, and that it is a named query's
  abbrev Opens : List ℕ → List Opened → Type 0
  Opens name opened =
      ((o : Opened) × (opened ≡ o ∷ []) × IsNamedQuery definitions name o) ⊎ ((opened ≡ []) × ((o : Opened) → IsNamedQuery definitions name o → ⊥))

  named_given : (name : List ℕ) (o : Opened) → IsNamedQuery definitions name o → opened_by (definition_of name definitions) ≡ o ∷ []
  named_given name o is =
      ap (λ (ds : List Definition). opened_by (definition_of name ds)) is.split
      ∙ ap opened_by (first_given name is.front is.definition is.rest is.named is.first)
      ∙ ap opened_as is.stands_for

  no_item : (o : Opened) → [] ≡ o ∷ [] → ⊥
  no_item o h = absurd (cc h)

  opens_by : (name : List ℕ) (p : Option Definition) → definition_of name definitions ≡ p → Opens name (opened_by p)
  opens_by name None is = inr (refl, λ o named. no_item o (sym (ap opened_by is) ∙ named_given name o named))
  opens_by name (Some d) is = by d.defined refl where
    by : (x : Defined) → d.defined ≡ x → Opens name (opened_as x)
    by (of.Variable t s) defined = inr (refl, λ o named. no_item o (sym (ap opened_by is ∙ ap opened_as defined) ∙ named_given name o named))
    by (of.Query e o) defined =
        let found = first_told name definitions d is in
        inl (
          o,
          refl,
          record {
            front = found.0;
            definition = d;
            rest = found.1;
            split = found.2;
            named = found.3;
            first = found.4;
            query = e;
            stands_for = defined;
          },
        )

  opens_name : (name : List ℕ) → Opens name (opened_by (definition_of name definitions))
  opens_name name = opens_by name (definition_of name definitions) refl

-- ---- what a token opens

abbrev is_dot : Kind → Bool
is_dot k.Dot = true
is_dot kind = false

abbrev is_of_name : Kind → Bool
is_of_name k.Name = true
is_of_name kind = false

module _ (definitions : List Definition) (text : List ℕ) where
  behind_other : (before kind : Kind) → is_dot before ≡ false → opened_behind definitions before kind text ≡ opened_named definitions kind text
  behind_other k.Dot kind h = absurd (true≢false h)
  behind_other before kind h = refl

  behind_dot : (before kind : Kind) → is_dot before ≡ true → (before ≡ k.Dot) × (opened_behind definitions before kind text ≡ [])
  behind_dot k.Dot kind h = (refl, refl)
  behind_dot before kind h = absurd (true≢false (sym h))

  of_name : (kind : Kind) → is_of_name kind ≡ true → (kind ≡ k.Name) × (opened_named definitions kind text ≡ opened_by (definition_of text definitions))
  of_name k.Name h = (refl, refl)
  of_name kind h = absurd (true≢false (sym h))

  of_no_name : (kind : Kind) → is_of_name kind ≡ false → opened_named definitions kind text ≡ []
  of_no_name k.Name h = absurd (true≢false h)
  of_no_name kind h = refl

-- the kind that comes before a place, where this one comes before all
abbrev kind_before : Kind → List Token → ℕ → Kind
kind_before before tokens zero = before
kind_before before [] (suc place) = before
kind_before before (token ∷ tokens) (suc place) = kind_before token.kind tokens place

module _ (definitions : List Definition) (line : List ℕ) where
  -- a token opens a query where this kind comes before all
  abbrev OpensFrom : Kind → List Token → ℕ → Opened → Type 0
  OpensFrom before tokens place opened =
      (token : Token) × (slice_get tokens place ≡ Some token) × (token.kind ≡ k.Name) × (kind_before before tokens place ≢ k.Dot)
      × IsNamedQuery definitions (text_of line token) opened

  abbrev head_opens : Kind → Token → List Opened
  head_opens before token = opened_behind definitions before token.kind (text_of line token)

  abbrev OpensFirst : Kind → Token → List Token → List Opened → Type 0
  OpensFirst before token tokens opened =
      ((o : Opened) × (opened ≡ o ∷ []) × OpensFrom before (token ∷ tokens) 0 o) ⊎ ((opened ≡ []) × ((o : Opened) → OpensFrom before (token ∷ tokens) 0 o → ⊥))

  first_opens : (before : Kind) (token : Token) (tokens : List Token) → OpensFirst before token tokens (head_opens before token)
  first_opens before token tokens = by (is_dot before) (is_of_name token.kind) refl refl where
    none : head_opens before token ≡ [] → ((o : Opened) → OpensFrom before (token ∷ tokens) 0 o → ⊥) → OpensFirst before token tokens (head_opens before token)
    none is closed = inr (is, closed)

    by_query : is_dot before ≡ false → is_of_name token.kind ≡ true
        → Opens definitions (text_of line token) (opened_by (definition_of (text_of line token) definitions)) → OpensFirst before token tokens (head_opens before token)
    by_query other named (inl found) = inl (
      found.0,
      behind_other definitions (text_of line token) before token.kind other ∙ (of_name definitions (text_of line token) token.kind named).1 ∙ found.1,
      (
        token,
        refl,
        (of_name definitions (text_of line token) token.kind named).0,
        λ dot. true≢false (sym (ap is_dot dot) ∙ other),
        found.2,
      ),
    )
    by_query other named (inr closed) =
        none (behind_other definitions (text_of line token) before token.kind other ∙ (of_name definitions (text_of line token) token.kind named).1 ∙ closed.0)
        (λ o opens. closed.1 o (subst (λ (t : Token). IsNamedQuery definitions (text_of line t) o) (sym (same_Some token opens.0 opens.1)) opens.4))

    by : (b c : Bool) → is_dot before ≡ b → is_of_name token.kind ≡ c → OpensFirst before token tokens (head_opens before token)
    by true c dot named =
        let is = behind_dot definitions (text_of line token) before token.kind dot in
        none is.1 (λ o opens. opens.3 is.0)
    by false true other named = by_query other named (opens_name definitions (text_of line token))
    by false false other unnamed =
        none (behind_other definitions (text_of line token) before token.kind other ∙ of_no_name definitions (text_of line token) token.kind unnamed)
        (λ o opens. true≢false (sym (ap (λ (t : Token). is_of_name t.kind) (same_Some token opens.0 opens.1) ∙ ap is_of_name opens.2) ∙ unnamed))

  -- ---- sizes

  size_is : (n : ℕ) (xs : List Opened) → size_with n xs ≡ n + size_with 0 xs
  size_is n [] = omega arith
  size_is n (x ∷ xs) = let here = size_is (n + x.size) xs in let there = size_is (0 + x.size) xs in omega (arith, here, there)

  -- what each token adds
  abbrev added_from : Kind → List Token → List ℕ
  added_from before [] = []
  added_from before (token ∷ tokens) = size_with 0 (head_opens before token) ∷ added_from token.kind tokens

  all_added : (before : Kind) (tokens : List Token) (n : ℕ) → size_with n (opened_from definitions line before tokens) ≡ n + sum (added_from before tokens)
  all_added before [] n = omega arith
  all_added before (token ∷ tokens) n =
      let parts = size_more n (head_opens before token) (opened_from definitions line token.kind tokens) in
      let here = size_is n (head_opens before token) in
      let rest = all_added token.kind tokens (size_with n (head_opens before token)) in
      let whole : sum (added_from before (token ∷ tokens)) ≡ size_with 0 (head_opens before token) + sum (added_from token.kind tokens) =
      sum_by-cons (λ (x : ℕ). x) (size_with 0 (head_opens before token)) (added_from token.kind tokens) in
      omega (arith, parts, here, rest, whole)

  one_each : (before : Kind) (tokens : List Token) → length (added_from before tokens) ≡ length tokens
  one_each before [] = refl
  one_each before (token ∷ tokens) = ap suc (one_each token.kind tokens)

  abbrev AddsFrom : Kind → List Token → ℕ → ℕ → Type 0
  AddsFrom before tokens place n =
      ((o : Opened) × (o.size ≡ n) × OpensFrom before tokens place o) ⊎ ((0 ≡ n) × ((o : Opened) → OpensFrom before tokens place o → ⊥))

  first_adds : (before : Kind) (token : Token) (tokens : List Token) → OpensFirst before token tokens (head_opens before token)
      → AddsFrom before (token ∷ tokens) 0 (size_with 0 (head_opens before token))
  first_adds before token tokens (inl found) = inl (found.0, (let is = ap (size_with 0) found.1 in omega (arith, is)), found.2)
  first_adds before token tokens (inr closed) = inr (sym (ap (size_with 0) closed.0), closed.1)

  each_adds : (before : Kind) (tokens : List Token) (place n : ℕ) → slice_get (added_from before tokens) place ≡ Some n → AddsFrom before tokens place n
  each_adds before [] place n h = absurd (none-some n h)
  each_adds before (token ∷ tokens) zero n h = subst (AddsFrom before (token ∷ tokens) 0) (same_Some _ n h) (first_adds before token tokens (first_opens before token tokens))
  each_adds before (token ∷ tokens) (suc place) n h = each_adds token.kind tokens place n h

  -- ---- ranks

  -- what is opened, some token opens
  opened_told : (before : Kind) (tokens : List Token) (o : Opened) → Contains (opened_from definitions line before tokens) o → (place : ℕ) × OpensFrom before tokens place o
  opened_told before [] o has = absurd (none_in_nil o has)
  opened_told before (token ∷ tokens) o has =
      elim (Contains-append_cases (head_opens before token) (opened_from definitions line token.kind tokens) o has) [
        | inl here ↦ by (first_opens before token tokens) here
        | inr later ↦ let rest = opened_told token.kind tokens o later in (suc rest.0, rest.1)
      ]
    where
      by : OpensFirst before token tokens (head_opens before token) → Contains (head_opens before token) o → (place : ℕ) × OpensFrom before (token ∷ tokens) place o
      by (inl found) here =
          elim (has_cases found.0 [] o (subst (λ (l : List Opened). Contains l o) found.1 here)) [
            | inl same ↦ (0, subst (OpensFrom before (token ∷ tokens) 0) same found.2)
            | inr none ↦ absurd (none_in_nil o none)
          ]
      by (inr closed) here = absurd (none_in_nil o (subst (λ (l : List Opened). Contains l o) closed.0 here))

  -- and what some token opens is opened
  opened_given : (before : Kind) (tokens : List Token) (place : ℕ) (o : Opened) → OpensFrom before tokens place o → Contains (opened_from definitions line before tokens) o
  opened_given before [] place o opens = absurd (none-some opens.0 opens.1)
  opened_given before (token ∷ tokens) zero o opens =
      Contains-append_left (head_opens before token) (opened_from definitions line token.kind tokens) o
      (subst (λ (l : List Opened). Contains l o) (sym here) (has_first o []))
    where
      same : token ≡ opens.0
      same = same_Some token opens.0 opens.1

      named : token.kind ≡ k.Name
      named = ap (λ (t : Token). t.kind) same ∙ opens.2

      not_dot : (b : Bool) → is_dot before ≡ b → b ≡ false
      not_dot true is = absurd (opens.3 (behind_dot definitions (text_of line token) before token.kind is).0)
      not_dot false is = refl

      here : head_opens before token ≡ o ∷ []
      here =
          behind_other definitions (text_of line token) before token.kind (not_dot (is_dot before) refl)
          ∙ (of_name definitions (text_of line token) token.kind (ap is_of_name named)).1
          ∙ named_given definitions (text_of line token) o (subst (λ (t : Token). IsNamedQuery definitions (text_of line t) o) (sym same) opens.4)
  opened_given before (token ∷ tokens) (suc place) o opens =
      Contains-append_right (head_opens before token) (opened_from definitions line token.kind tokens) o (opened_given token.kind tokens place o opens)

-- one rank and the next
abbrev higher : ℕ → Opened → ℕ
higher rank o = if nat_lt rank (o.rank + 1) then o.rank + 1 else rank

higher_than : (rank : ℕ) (o : Opened) → rank ≤ higher rank o
higher_than rank o = grind (arith, nat_tests)

higher_than_its : (rank : ℕ) (o : Opened) → o.rank + 1 ≤ higher rank o
higher_than_its rank o = grind (arith, nat_tests)

rank_grows : (rank : ℕ) (os : List Opened) → rank ≤ rank_with rank os
rank_grows rank [] = omega arith
rank_grows rank (o ∷ os) = omega (arith, higher_than rank o, rank_grows (higher rank o) os)

-- the rank is more than that of each
each_lower : (rank : ℕ) (os : List Opened) (o : Opened) → Contains os o → o.rank + 1 ≤ rank_with rank os
each_lower rank [] o has = absurd (none_in_nil o has)
each_lower rank (p ∷ os) o has =
    elim (has_cases p os o has) [
      | inl same ↦ let less : o.rank ≡ p.rank = ap (λ (x : Opened). x.rank) (sym same) in omega (arith, less, higher_than_its rank p, rank_grows (higher rank p) os)
      | inr later ↦ each_lower (higher rank p) os o later
    ]

-- and is the first one, or one more than that of some one
abbrev Reaches : ℕ → List Opened → ℕ → Type 0
Reaches rank os r = (rank ≡ r) ⊎ ((o : Opened) × Contains os o × (o.rank + 1 ≡ r))

reached : (rank : ℕ) (os : List Opened) → Reaches rank os (rank_with rank os)
reached rank [] = inl refl
reached rank (p ∷ os) = by (nat_lt rank (p.rank + 1)) (reached (higher rank p) os) refl where
  by : (b : Bool) → Reaches (higher rank p) os (rank_with (higher rank p) os) → higher rank p ≡ (if b then p.rank + 1 else rank)
      → Reaches rank (p ∷ os) (rank_with (higher rank p) os)
  by true (inl same) is = inr (p, has_first p os, sym is ∙ same)
  by false (inl same) is = inl (sym is ∙ same)
  by b (inr found) is = inr (found.0, has_later p os found.0 found.1, found.2)

-- ---- the laws

-- the kind after which the first token of a line comes
abbrev start : Kind
start = k.Semicolon

module _ (definitions : List Definition) (line : List ℕ) (tokens : List Token) where
  kind_at : (before : Kind) (all : List Token) (place : ℕ) (token : Token) → slice_get all place ≡ Some token → kind_before before all (suc place) ≡ token.kind
  kind_at before [] place token h = absurd (none-some token h)
  kind_at before (first ∷ all) zero token h = ap (λ (t : Token). t.kind) (same_Some first token h)
  kind_at before (first ∷ all) (suc place) token h = kind_at first.kind all place token h

  token_at : (before : Kind) (all : List Token) (place : ℕ) (token : Token) → slice_get all (suc place) ≡ Some token → (other : Token) × (slice_get all place ≡ Some other)
  token_at before [] place token h = absurd (none-some token h)
  token_at before (first ∷ all) zero token h = (first, refl)
  token_at before (first ∷ all) (suc place) token h = token_at before all place token h

  at_told : (place : ℕ) (o : Opened) → OpensFrom definitions line start tokens place o → OpensAt definitions line tokens place o
  at_told place o opens = record {
    token = opens.0;
    there = opens.1;
    named = opens.2;
    no_member = λ before dot is there kind.
        opens.3 (ap (kind_before start tokens) (is ∙ (let more : before + 1 ≡ suc before = omega arith in more)) ∙ kind_at start tokens before dot there ∙ kind);
    of_query = opens.4;
  }

  at_given : (place : ℕ) (o : Opened) → OpensAt definitions line tokens place o → OpensFrom definitions line start tokens place o
  at_given place o is = (is.token, is.there, is.named, by place is.there is.no_member, is.of_query) where
    by : (p : ℕ) → slice_get tokens p ≡ Some is.token → ((before : ℕ) (dot : Token) → p ≡ before + 1 → slice_get tokens before ≡ Some dot → dot.kind ≢ k.Dot)
        → kind_before start tokens p ≢ k.Dot
    by zero there no_member kind = true≢false (sym (ap is_dot kind))
    by (suc p) there no_member kind =
        let before = token_at start tokens p is.token there in
        no_member p before.0 (omega arith) before.1 (sym (kind_at start tokens p before.0 before.1) ∙ kind)

  is_size : (size : ℕ) → size ≡ size_with (length tokens) (opened_from definitions line start tokens) → IsSize definitions line tokens size
  is_size size is = record {
    added = added_from definitions line start tokens;
    one_each = one_each definitions line start tokens;
    each = λ place n there. by place n (each_adds definitions line start tokens place n there);
    whole = is ∙ all_added definitions line start tokens (length tokens);
  } where
    by : (place n : ℕ) → AddsFrom definitions line start tokens place n → AddsAt definitions line tokens place n
    by place n (inl found) = subst (AddsAt definitions line tokens place) found.1 (opening found.0 (at_told place found.0 found.2))
    by place n (inr closed) = subst (AddsAt definitions line tokens place) closed.0 (nothing (λ o opens. closed.1 o (at_given place o opens)))

  is_rank : IsRank definitions line tokens (rank_with 0 (opened_from definitions line start tokens))
  is_rank = by (reached 0 all) where
    all : List Opened
    all = opened_from definitions line start tokens

    lower : (place : ℕ) (o : Opened) → OpensAt definitions line tokens place o → o.rank + 1 ≤ rank_with 0 all
    lower place o opens = each_lower 0 all o (opened_given definitions line start tokens place o (at_given place o opens))

    by : Reaches 0 all (rank_with 0 all) → IsRank definitions line tokens (rank_with 0 all)
    by (inl none) =
        subst (IsRank definitions line tokens) none
        (lowest (λ place o opens. let less = lower place o opens in absurd (omega (arith, less, none))))
    by (inr found) =
        let there = opened_told definitions line start tokens found.0 found.1 in
        let same = found.2 in
        subst (IsRank definitions line tokens) found.2
        (above there.0 found.0 (at_told there.0 found.0 there.1) (λ other o opens. let less = lower other o opens in omega (arith, less, same)))

pub finds_size : FindsSize
unfolding opening_of
finds_size definitions line tokens is =
    is_size definitions line tokens (opening_of definitions line).size (ap (λ (o : Option (List Token)). (opening_among definitions line o).size) is)

pub finds_rank : FindsRank
unfolding opening_of
finds_rank definitions line tokens is =
    subst (IsRank definitions line tokens) (sym (ap (λ (o : Option (List Token)). (opening_among definitions line o).rank) is)) (is_rank definitions line tokens)

pub opens_nothing : OpensNothing
unfolding opening_of
opens_nothing definitions line is = ap (opening_among definitions line) is
