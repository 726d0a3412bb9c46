-- What a reader has read, from its result back to the tokens: one lemma for each of the steps that the functions of
-- `Parsing` are made of. A lemma on a step takes what the reader that follows it has read with the tokens in front of it.
use Rattle.std.proofs.Common.{◌≡◌, ℕ, Bool, true, false, List, [], ◌∷◌, ◌++◌, length, refl, ap, sym, ◌∙◌, append_assoc}
use Rattle.std.specs.Prelude.{Option, Some, None, option_and_then, if◌then◌else◌}
use Rattle.std.proofs.lemmas.Option.{some_pair_parts}
use denote.Enum.Bare.{same_true}
use Rattle.lq_grammar.specs.Parsing.{Parser, pure, refuse, ◌>>=◌, same_kind, expect, begins_with, after, name, peek, to_the_end}
use Rattle.lq_grammar.specs.Tokens.{text_of}
use Rattle.lq_grammar.specs.contracts.token.Kind.{the_type}
use Rattle.lq_grammar.specs.declared.token.Kind.{Kind}
use Rattle.lq_grammar.specs.declared.token.Kind.TheVariants as k
use Rattle.lq_grammar.specs.declared.token.Token.{Token}

pub kind_is : (a b : Kind) → same_kind a b ≡ true → a ≡ b
unfolding same_kind
kind_is a b same = same_true the_type tt a b same

-- ---- what was read

-- the tokens that were read, in front of the rest, and what holds of them and of what they were read as
pub record Read {A : Type 0} (Q : List Token → A → Type 0) (ts : List Token) (x : A) (rest : List Token) : Type 0 where
  pub front : List Token
  pub split : ts ≡ front ++ rest
  pub holds : Q front x

-- it holds of whatever the reader reads
pub record Reads {A : Type 0} (p : Parser A) (Q : List Token → A → Type 0) : Type 0 where
  pub read : (ts : List Token) (x : A) (rest : List Token) → p ts ≡ Some (x, rest) → Read Q ts x rest

-- ---- a test

-- where either way leads to the goal, a test does
pub either_way : {A G : Type 0} (b : Bool) (p q r : A) → (if b then p else q) ≡ r → (b ≡ true → p ≡ r → G) → (b ≡ false → q ≡ r → G) → G
either_way {A = A} {G = G} b p q r e on_true on_false =
    let Case : Bool → Type 0 = λ c. b ≡ c → (if c then p else q) ≡ r → G in
    let by : (c : Bool) → Case c = elim [ true ↦ on_true | false ↦ on_false ] in
    by b refl e

-- ---- steps

pub record Bound {A B : Type 0} (p : Parser A) (f : A → Parser B) (ts : List Token) (y : B) (rest : List Token) : Type 0 where
  pub found : A
  pub mid : List Token
  pub first : p ts ≡ Some (found, mid)
  pub second : f found mid ≡ Some (y, rest)

pub bound : {A B : Type 0} (p : Parser A) (f : A → Parser B) (ts : List Token) (y : B) (rest : List Token) → (p >>= f) ts ≡ Some (y, rest) → Bound p f ts y rest
bound {A = A} p f ts y rest e =
    let Case : Option (A × List Token) → Type 0 = λ o. p ts ≡ o → option_and_then (λ r. f r.0 r.1) o ≡ Some (y, rest) → Bound p f ts y rest in
    let by : (o : Option (A × List Token)) → Case o = elim [
      | None ↦ λ here none. absurd (cc)
      | Some r ↦ λ here next. record { found = r.0; mid = r.1; first = here; second = next }
    ] in
    by (p ts) refl e

pub record Expected (kind : Kind) (ts : List Token) (t : Token) (rest : List Token) : Type 0 where
  pub is : t.kind ≡ kind
  pub split : ts ≡ t ∷ rest

pub expected : (kind : Kind) (ts : List Token) (t : Token) (rest : List Token) → expect kind ts ≡ Some (t, rest) → Expected kind ts t rest
unfolding expect
expected kind [] t rest e = absurd (cc)
expected kind (u ∷ us) t rest e =
    either_way {A = Option (Token × List Token)} (same_kind u.kind kind) (Some (u, us)) None (Some (t, rest)) e
    (λ same some.
    let token : u ≡ t = (some_pair_parts u t us rest some).0 in
    let tokens : us ≡ rest = (some_pair_parts u t us rest some).1 in
    let is : u.kind ≡ kind = kind_is u.kind kind same in
    record { is = cc; split = cc })
    (λ other none. absurd (cc))

-- a reader that ends with what it has
pub done : {A : Type 0} {x : A} {Q : List Token → A → Type 0} → Q [] x → Reads (pure x) Q
done {x = x} {Q = Q} h =
    record {
      read = λ ts y rest e.
          let found : x ≡ y = (some_pair_parts x y ts rest e).0 in
          let end : ts ≡ rest = (some_pair_parts x y ts rest e).1 in
          record { front = []; split = end; holds = rw (← ap (λ z. Q [] z) found) h };
    }

-- a reader that reads nothing
pub refused : {A : Type 0} {Q : List Token → A → Type 0} → Reads refuse Q
refused = record { read = λ ts y rest e. absurd (cc) }

-- what follows from what was read
pub hence : {A : Type 0} {p : Parser A} {P Q : List Token → A → Type 0} → Reads p P → ((front : List Token) (x : A) → P front x → Q front x) → Reads p Q
hence first next =
    record {
      read = λ ts x rest e.
          let a = first.read ts x rest e in
          record { front = a.front; split = a.split; holds = next a.front x a.holds };
    }

-- a part, and then more
pub part_then : {A B : Type 0} {p : Parser A} {f : A → Parser B} {P : List Token → A → Type 0} {Q : List Token → B → Type 0}
    → Reads p P → ((x : A) (front : List Token) → P front x → Reads (f x) (λ more y. Q (front ++ more) y)) → Reads (p >>= f) Q
part_then {p = p} {f = f} first next =
    record {
      read = λ ts y rest e.
          let step = bound p f ts y rest e in
          let a = first.read ts step.found step.mid step.first in
          let b = (next step.found a.front a.holds).read step.mid y rest step.second in
          record { front = a.front ++ b.front; split = a.split ∙ ap (λ more. a.front ++ more) b.split ∙ sym (append_assoc a.front b.front rest); holds = b.holds };
    }

-- a part at the end
pub part_last : {A B : Type 0} {p : Parser A} (g : A → B) {P : List Token → A → Type 0} {Q : List Token → B → Type 0}
    → Reads p P → ((x : A) (front : List Token) → P front x → Q front (g x)) → Reads (p >>= (λ x. pure (g x))) Q
part_last {p = p} g {Q = Q} first next =
    record {
      read = λ ts y rest e.
          let step = bound p (λ x. pure (g x)) ts y rest e in
          let a = first.read ts step.found step.mid step.first in
          let found : g step.found ≡ y = (some_pair_parts (g step.found) y step.mid rest step.second).0 in
          let end : step.mid ≡ rest = (some_pair_parts (g step.found) y step.mid rest step.second).1 in
          record { front = a.front; split = a.split ∙ ap (λ more. a.front ++ more) end; holds = rw (← ap (λ z. Q a.front z) found) (next step.found a.front a.holds) };
    }

-- a token of a kind, and then more
pub token_then : {B : Type 0} {kind : Kind} {f : Token → Parser B} {Q : List Token → B → Type 0}
    → ((t : Token) → t.kind ≡ kind → Reads (f t) (λ more y. Q (t ∷ more) y)) → Reads (expect kind >>= f) Q
token_then {kind = kind} {f = f} next =
    record {
      read = λ ts y rest e.
          let step = bound (expect kind) f ts y rest e in
          let a = expected kind ts step.found step.mid step.first in
          let b = (next step.found a.is).read step.mid y rest step.second in
          record { front = step.found ∷ b.front; split = a.split ∙ ap (λ more. step.found ∷ more) b.split; holds = b.holds };
    }

record Named (line : List ℕ) (ts : List Token) (x : List ℕ) (rest : List Token) : Type 0 where
  token : Token
  is : token.kind ≡ k.Name
  text : text_of line token ≡ x
  split : ts ≡ token ∷ rest

named : (line : List ℕ) (ts : List Token) (x : List ℕ) (rest : List Token) → name line ts ≡ Some (x, rest) → Named line ts x rest
unfolding name
named line ts x rest e =
    let word = bound (expect k.Name) (λ token. pure (text_of line token)) ts x rest e in
    let a = expected k.Name ts word.found word.mid word.first in
    let text : text_of line word.found ≡ x = (some_pair_parts (text_of line word.found) x word.mid rest word.second).0 in
    let end : word.mid ≡ rest = (some_pair_parts (text_of line word.found) x word.mid rest word.second).1 in
    record { token = word.found; is = a.is; text = text; split = a.split ∙ ap (λ more. word.found ∷ more) end }

-- a name, and then more
pub name_then : (line : List ℕ) {B : Type 0} (f : List ℕ → Parser B) {Q : List Token → B → Type 0}
    → ((t : Token) → t.kind ≡ k.Name → Reads (f (text_of line t)) (λ more y. Q (t ∷ more) y)) → Reads (name line >>= f) Q
name_then line f {Q = Q} next =
    record {
      read = λ ts y rest e.
          let step = bound (name line) f ts y rest e in
          let word = named line ts step.found step.mid step.first in
          let second : f (text_of line word.token) step.mid ≡ Some (y, rest) = rw word.text step.second in
          let b = (next word.token word.is).read step.mid y rest second in
          record { front = word.token ∷ b.front; split = word.split ∙ ap (λ more. word.token ∷ more) b.split; holds = b.holds };
    }

-- what a test chooses
pub chosen : {A : Type 0} (b : List Token → Bool) {p q : Parser A} {Q : List Token → A → Type 0} → Reads p Q → Reads q Q → Reads (λ ts. if b ts then p ts else q ts) Q
chosen b {p = p} {q = q} one other =
    record { read = λ ts x rest e. either_way (b ts) (p ts) (q ts) (Some (x, rest)) e (λ is some. one.read ts x rest some) (λ is some. other.read ts x rest some) }

-- what a test chooses that is known before
pub tested : {A : Type 0} (b : Bool) {p q : Parser A} {Q : List Token → A → Type 0} → (b ≡ true → Reads p Q) → (b ≡ false → Reads q Q) → Reads (λ ts. if b then p ts else q ts) Q
tested b {p = p} {q = q} one other =
    record { read = λ ts x rest e. either_way b (p ts) (q ts) (Some (x, rest)) e (λ is some. (one is).read ts x rest some) (λ is some. (other is).read ts x rest some) }

-- after a token of a kind, or on the other way
pub after_token : {A : Type 0} {kind : Kind} {found other : Parser A} {Q : List Token → A → Type 0}
    → ((t : Token) → t.kind ≡ kind → Reads found (λ more y. Q (t ∷ more) y)) → Reads other Q → Reads (after kind found other) Q
unfolding after
after_token {kind = kind} {found = found} {Q = Q} one other =
    let on : Reads (expect kind >>= (λ token. found)) Q = token_then one in
    chosen (begins_with kind) on other

-- a reader with the count of the tokens
pub counted : {A : Type 0} {g : ℕ → Parser A} {Q : List Token → A → Type 0} → ((n : ℕ) → Reads (g n) Q) → Reads (λ ts. g (length ts) ts) Q
counted each = record { read = λ ts x rest e. (each (length ts)).read ts x rest e }

-- a reader that takes a token, and then more by that
pub headed : {A : Type 0} (p : Parser A) (q : Token → Parser A) {Q : List Token → A → Type 0} → p [] ≡ None → ((t : Token) (ts : List Token) → p (t ∷ ts) ≡ q t ts)
    → ((t : Token) → Reads (q t) (λ more y. Q (t ∷ more) y)) → Reads p Q
headed {A = A} p q {Q = Q} none some each =
    let by : (ts : List Token) (x : A) (rest : List Token) → p ts ≡ Some (x, rest) → Read Q ts x rest = elim [
      | [] ↦ λ x rest e. absurd (cc)
      | t ∷ ts ↦ λ x rest e.
          let b = (each t).read ts x rest (sym (some t ts) ∙ e) in
          record { front = t ∷ b.front; split = ap (λ more. t ∷ more) b.split; holds = b.holds }
    ] in
    record { read = by }

-- what holds of what a table gives, where it gives something
abbrev pub EachSome : {T : Type 0} → Option T → (T → Type 0) → Type 0
EachSome None P = Unit
EachSome (Some v) P = P v

pub each_some : {T : Type 0} (P : T → Type 0) (o : Option T) (v : T) → EachSome o P → o ≡ Some v → P v
each_some P o v each e =
    let some : EachSome (Some v) P = rw (← ap (λ z. EachSome z P) e) each in
    some

-- what a reader that chooses by a table of what comes next has read, by what the table gives
module _ {A T : Type 0} (table : Kind → Option T) (by : Option T → Parser A) (next : T → Parser A) {Q : List Token → A → Type 0} (none : table k.Semicolon ≡ None)
    (some : (v : T) (t : Token) (ts : List Token) → by (Some v) (t ∷ ts) ≡ next v ts) (other : Reads (by None) Q)
    (each : (v : T) (t : Token) → table t.kind ≡ Some v → Reads (next v) (λ more y. Q (t ∷ more) y)) where
  by_entry : (ts : List Token) (entry : Option T) (x : A) (rest : List Token) → table (peek ts) ≡ entry → by entry ts ≡ Some (x, rest) → Read Q ts x rest
  unfolding peek
  by_entry ts None x rest is e = other.read ts x rest e
  by_entry [] (Some v) x rest is e = absurd (cc)
  by_entry (t ∷ ts) (Some v) x rest is e =
      let b = (each v t is).read ts x rest (sym (some v t ts) ∙ e) in
      record { front = t ∷ b.front; split = ap (λ more. t ∷ more) b.split; holds = b.holds }

  -- a reader that chooses by a table of what comes next
  pub by_table : Reads (λ ts. by (table (peek ts)) ts) Q
  by_table = record { read = λ ts x rest e. by_entry ts (table (peek ts)) x rest refl e }

-- ---- what ends with a token of a kind

-- what was read, with a token of the kind after it
pub record Closed {A : Type 0} (P : List Token → A → Type 0) (kind : Kind) (front : List Token) (x : A) : Type 0 where
  pub inside : List Token
  pub closing : Token
  pub is : closing.kind ≡ kind
  pub split : front ≡ inside ++ closing ∷ []
  pub holds : P inside x

pub closed_then : {A B : Type 0} {p : Parser A} {f : A → Parser B} {P : List Token → A → Type 0} {kind : Kind} {Q : List Token → B → Type 0} → Reads p (Closed P kind)
    → ((x : A) (inside : List Token) (closing : Token) → P inside x → closing.kind ≡ kind → Reads (f x) (λ more y. Q (inside ++ closing ∷ more) y)) → Reads (p >>= f) Q
closed_then {Q = Q} first next =
    part_then first (λ x front c. hence (next x c.inside c.closing c.holds c.is) (λ more y h.
    let same : front ++ more ≡ c.inside ++ c.closing ∷ more = ap (λ all. all ++ more) c.split ∙ append_assoc c.inside (c.closing ∷ []) more in
    rw (ap (λ all. Q all y) same) h))

pub closed_last : {A B : Type 0} {p : Parser A} (g : A → B) {P : List Token → A → Type 0} {kind : Kind} {Q : List Token → B → Type 0} → Reads p (Closed P kind)
    → ((x : A) (inside : List Token) (closing : Token) → P inside x → closing.kind ≡ kind → Q (inside ++ closing ∷ []) (g x)) → Reads (p >>= (λ x. pure (g x))) Q
closed_last g {Q = Q} first next = part_last g first (λ x front c. rw (ap (λ all. Q all (g x)) c.split) (next x c.inside c.closing c.holds c.is))

-- all was read, and nothing is left after it
pub at_the_end : {A : Type 0} (o : Option (A × List Token)) (x : A) → to_the_end o ≡ Some x → o ≡ Some (x, [])
unfolding to_the_end
at_the_end None x e = absurd (cc)
at_the_end (Some (y, [])) x e = cc
at_the_end (Some (y, t ∷ ts)) x e = absurd (cc)
