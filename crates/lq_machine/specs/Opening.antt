-- What a statement opens: each named query whose name is among its tokens, but not directly after a `.`. Both figures have a limit, which keeps
-- the meaning of a statement small.
use Rattle.std.specs.Prelude.{◌∷◌, ◌++◌, ◌+◌, ◌||◌, if◌then◌else◌, List, [], ℕ, Bool, Option, Some, None, length, nat_lt}
use Rattle.lq_machine.specs.Definitions.{definition_of}
use Rattle.lq_grammar.specs.Tokens.{text_of, tokens_of}
use Rattle.lq_machine.specs.declared.session.Defined.{Defined}
use Rattle.lq_machine.specs.declared.session.Defined.TheVariants as of
use Rattle.lq_machine.specs.declared.session.Definition.{Definition}
use Rattle.lq_machine.specs.declared.session.Opened.{Opened}
use Rattle.lq_grammar.specs.declared.token.Kind.{Kind}
use Rattle.lq_grammar.specs.declared.token.Kind.TheVariants as k
use Rattle.lq_grammar.specs.declared.token.Token.{Token}

-- a variable opens nothing
abbrev pub opened_as : Defined → List Opened
opened_as (of.Variable t s) = []
opened_as (of.Query e opened) = opened ∷ []

abbrev pub opened_by : Option Definition → List Opened
opened_by None = []
opened_by (Some d) = opened_as d.defined

-- what a token of this kind opens that has this text
abbrev pub opened_named : List Definition → Kind → List ℕ → List Opened
opened_named definitions k.Name text = opened_by (definition_of text definitions)
opened_named definitions kind text = []

-- and after a token of the first kind
abbrev pub opened_behind : List Definition → Kind → Kind → List ℕ → List Opened
opened_behind definitions k.Dot kind text = []
opened_behind definitions before kind text = opened_named definitions kind text

-- what tokens open one after the other, the first of which comes after a token of this kind
abbrev pub opened_from : List Definition → List ℕ → Kind → List Token → List Opened
opened_from definitions line before [] = []
opened_from definitions line before (token ∷ tokens) =
    opened_behind definitions before token.kind (text_of line token) ++ opened_from definitions line token.kind tokens

-- the tokens of a statement and of what it opens
abbrev pub size_with : ℕ → List Opened → ℕ
size_with size [] = size
size_with size (opened ∷ others) = size_with (size + opened.size) others

-- one more than the greatest rank
abbrev pub rank_with : ℕ → List Opened → ℕ
rank_with rank [] = rank
rank_with rank (opened ∷ others) = rank_with (if nat_lt rank (opened.rank + 1) then opened.rank + 1 else rank) others

-- (a line doesn't begin after a `.`)
abbrev pub opening : List Definition → List ℕ → List Token → Opened
opening definitions line tokens =
    let opened = opened_from definitions line k.Semicolon tokens in record { size = size_with (length tokens) opened; rank = rank_with 0 opened }

abbrev pub opening_among : List Definition → List ℕ → Option (List Token) → Opened
opening_among definitions line None = opening definitions line []
opening_among definitions line (Some tokens) = opening definitions line tokens

-- what the statement on a line opens
unfoldable pub opening_of : List Definition → List ℕ → Opened
opening_of definitions line = opening_among definitions line (tokens_of line)

abbrev pub size_limit : ℕ
size_limit = 65536

abbrev pub rank_limit : ℕ
rank_limit = 8

abbrev pub is_past_opening : Opened → Bool
is_past_opening opened = nat_lt size_limit opened.size || nat_lt rank_limit opened.rank
