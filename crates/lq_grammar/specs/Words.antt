-- What names are made of, and the words that aren't names.
use Rattle.std.specs.Prelude.{◌∷◌, ◌==◌, ◌||◌, if◌then◌else◌, List, [], ℕ, Bool, codes}
use Rattle.std.specs.Str.{bytes_eq}
use Rattle.unicode_ident.specs.Ident.{is_xid_start, is_xid_continue}
use Rattle.lq_grammar.specs.declared.token.Kind.{Kind}
use Rattle.lq_grammar.specs.declared.token.Kind.TheVariants as k

-- A character that may start a name: `_`, or one that may start an identifier (Unicode Standard Annex 31). Names aren't normalised.
unfoldable pub starts_name : ℕ → Bool
starts_name c = c == 95 || is_xid_start c

-- a character that may continue a name
unfoldable pub continues_name : ℕ → Bool
continues_name c = is_xid_continue c

-- the words that aren't names
abbrev pub reserved_words : List (List ℕ × Kind)
reserved_words =
    (codes "from", k.From) ∷ (codes "where", k.Where) ∷ (codes "select", k.Select) ∷ (codes "group", k.Group) ∷ (codes "into", k.Into)
    ∷ (codes "orderby", k.OrderBy) ∷ (codes "join", k.Join) ∷ (codes "let", k.Let) ∷ (codes "in", k.In) ∷ (codes "on", k.On)
    ∷ (codes "equals", k.Equals) ∷ (codes "by", k.By) ∷ (codes "ascending", k.Ascending) ∷ (codes "descending", k.Descending) ∷ (codes "var", k.Var)
    ∷ (codes "run", k.Run) ∷ (codes "as", k.As) ∷ (codes "insert", k.Insert) ∷ (codes "delete", k.Delete) ∷ (codes "update", k.Update)
    ∷ (codes "set", k.Set) ∷ (codes "new", k.New) ∷ (codes "true", k.True) ∷ (codes "false", k.False) ∷ (codes "null", k.Null)
    ∷ (codes "Host", k.Host) ∷ []

abbrev pub kind_among : List (List ℕ × Kind) → List ℕ → Kind
kind_among [] name = k.Name
kind_among (word ∷ words) name = if bytes_eq name word.0 then word.1 else kind_among words name

-- what a word of a name's characters is: the reserved word of this spelling, else a name
abbrev pub kind_of_word : List ℕ → Kind
kind_of_word name = kind_among reserved_words name
