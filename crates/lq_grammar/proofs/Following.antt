-- What may follow what: how tightly a token goes on with the expression before it.
use Rattle.std.proofs.Common.{arith, ◌≡◌, ◌≤◌, ◌<◌, ◌+◌, ℕ, Bool, true, false, List, [], ◌∷◌, refl, ap}
use Rattle.std.specs.Prelude.{◌==◌, Option, Some, None, option_and_then, if◌then◌else◌}
use Rattle.std.proofs.lemmas.Bool.{eqb-true, ne_eqb}
use Rattle.lq_grammar.specs.Grammar.{infix_of, operator}
use Rattle.lq_grammar.specs.Parsing.{begins_with, peek}
use Rattle.lq_grammar.specs.declared.syntax.Infix.{Infix}
use Rattle.lq_grammar.specs.declared.token.Kind.{Kind}
use Rattle.lq_grammar.specs.declared.token.Kind.TheVariants as k
use Rattle.lq_grammar.specs.declared.token.Token.{Token}
use Rattle.lq_grammar.proofs.Forwards.{begins_false}

-- tokens that aren't operators of a level, the tightest first; 13 goes on with nothing
abbrev pub looseness : Kind → ℕ
looseness k.LeftParenthesis = 0
looseness k.Arrow = 0
looseness k.Assign = 0
looseness k.Dot = 1
looseness k.Coalesce = 8
looseness k.Question = 9
looseness k.Ascending = 10
looseness k.Descending = 10
looseness k.Comma = 11
looseness k.Into = 12
looseness kind = 13

abbrev pub tight_by : Option (ℕ × Infix) → ℕ → ℕ
tight_by None other = other
tight_by (Some found) other = found.0 + 2

-- how tightly a token goes on with what comes before it; an operator of level l has l + 2
abbrev pub tight : Kind → ℕ
tight kind = tight_by (infix_of kind) (looseness kind)

-- a token that goes on more tightly than the next one isn't the next one
pub not_next : (kind : Kind) (rest : List Token) → tight kind < tight (peek rest) → begins_with kind rest ≡ false
unfolding begins_with peek
not_next kind [] below = refl
not_next kind (t ∷ rest) below = begins_false kind t rest (λ is. let same : tight t.kind ≡ tight kind = ap tight is in omega arith)

operator_by : (l : ℕ) (o : Option (ℕ × Infix)) (other : ℕ) → l + 3 ≤ tight_by o other
    → option_and_then {U = Infix} (λ found. if found.0 == l then Some found.1 else None) o ≡ None
operator_by l None other above = refl
operator_by l (Some (m, op)) other above = let differ : (m == l) ≡ false = ne_eqb m l (λ e. omega arith) in rw differ refl

pub no_operator : (l : ℕ) (kind : Kind) → l + 3 ≤ tight kind → operator l kind ≡ None
no_operator l kind above = operator_by l (infix_of kind) (looseness kind) above

level_by : (l : ℕ) (op : Infix) (o : Option (ℕ × Infix)) (other : ℕ)
    → option_and_then {U = Infix} (λ found. if found.0 == l then Some found.1 else None) o ≡ Some op → tight_by o other ≡ l + 2
level_by l op None other e = absurd (cc)
level_by l op (Some (m, found)) other e =
    let Case : Bool → Type 0 = λ b. (m == l) ≡ b → (if b then Some found else None) ≡ Some op → m + 2 ≡ l + 2 in
    let by : (b : Bool) → Case b = elim [ true ↦ λ same some. omega (arith, eqb-true m l same) | false ↦ λ other none. absurd (cc) ] in
    by (m == l) refl e

pub operator_tight : (l : ℕ) (op : Infix) (kind : Kind) → operator l kind ≡ Some op → tight kind ≡ l + 2
operator_tight l op kind e = level_by l op (infix_of kind) (looseness kind) e
