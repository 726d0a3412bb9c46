-- What is taken from the front of tokens.
use Rattle.std.proofs.Common.{◌≡◌, false, true, List, [], ◌∷◌, refl}
use Rattle.std.specs.Prelude.{Some, None}
use Rattle.lq_grammar.specs.Parsing.{same_kind, begins_with, begins_with_two, expect, peek, behind}
use Rattle.lq_grammar.specs.declared.token.Kind.{Kind}
use Rattle.lq_grammar.specs.declared.token.Kind.TheVariants as k
use Rattle.lq_grammar.specs.declared.token.Token.{Token}
use Rattle.lq_syntax.specs.Outcome.{next_token}
use Rattle.lq_syntax.specs.Parts.{any_token}

pub peek_none : (tokens : List Token) → tokens ≡ [] → k.Semicolon ≡ peek tokens
unfolding peek
peek_none tokens is = rw is refl

pub peek_some : (tokens others : List Token) (token : Token) → tokens ≡ token ∷ others → token.kind ≡ peek tokens
unfolding peek
peek_some tokens others token is = rw is refl

pub behind_none : (tokens : List Token) → tokens ≡ [] → tokens ≡ behind tokens
unfolding behind
behind_none tokens is = rw is refl

pub behind_some : (tokens others : List Token) (token : Token) → tokens ≡ token ∷ others → others ≡ behind tokens
unfolding behind
behind_some tokens others token is = rw is refl

pub begins_none : (kind : Kind) (tokens : List Token) → tokens ≡ [] → begins_with kind tokens ≡ false
unfolding begins_with
begins_none kind tokens is = rw is refl

pub begins_some : (kind : Kind) (tokens others : List Token) (token : Token) → tokens ≡ token ∷ others → begins_with kind tokens ≡ same_kind token.kind kind
unfolding begins_with
begins_some kind tokens others token is = rw is refl

pub two_none : (first second : Kind) (tokens : List Token) → tokens ≡ [] → begins_with_two first second tokens ≡ false
unfolding begins_with_two
two_none first second tokens is = rw is refl

pub two_found : (first second : Kind) (tokens others : List Token) (token : Token) → tokens ≡ token ∷ others → same_kind token.kind first ≡ true
    → begins_with_two first second tokens ≡ begins_with second others
unfolding begins_with_two
two_found first second tokens others token is same = rw is (rw same refl)

pub two_other : (first second : Kind) (tokens others : List Token) (token : Token) → tokens ≡ token ∷ others → same_kind token.kind first ≡ false → begins_with_two first second tokens ≡ false
unfolding begins_with_two
two_other first second tokens others token is other = rw is (rw other refl)

pub any_none : (tokens : List Token) → tokens ≡ [] → any_token tokens ≡ None
any_none tokens is = rw is refl

pub any_some : (tokens others : List Token) (token : Token) → tokens ≡ token ∷ others → any_token tokens ≡ Some (token, others)
any_some tokens others token is = rw is refl

pub expect_none : (kind : Kind) (tokens : List Token) → tokens ≡ [] → expect kind tokens ≡ None
unfolding expect
expect_none kind tokens is = rw is refl

pub expect_other : (kind : Kind) (tokens others : List Token) (token : Token) → tokens ≡ token ∷ others → same_kind token.kind kind ≡ false → expect kind tokens ≡ None
unfolding expect
expect_other kind tokens others token is other = rw is (rw other refl)

pub expect_found : (kind : Kind) (tokens others : List Token) (token : Token) → tokens ≡ token ∷ others → same_kind token.kind kind ≡ true → expect kind tokens ≡ Some (token, others)
unfolding expect
expect_found kind tokens others token is same = rw is (rw same refl)

-- a token that comes next is taken
pub eaten : (kind : Kind) (tokens others : List Token) → begins_with kind tokens ≡ true → others ≡ behind tokens → expect kind tokens ≡ Some (next_token tokens, others)
unfolding begins_with expect behind
eaten kind [] others begins is = absurd (cc)
eaten kind (token ∷ tokens) others begins is = rw (begins, is) refl
