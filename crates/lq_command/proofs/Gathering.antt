-- A line while its bytes are taken.
use Rattle.std.proofs.Common.{◌≡◌, ◌<◌, ◌==◌, not, ℕ, zero, suc, Bool, true, false, List, [], ◌∷◌, ◌++◌, Option, Some, None, length, append-nil, refl, sym, ◌∙◌, subst, arith}
use Rattle.std.specs.List.{list_all}
use Rattle.std.proofs.lemmas.Bool.{and_parts, eqb-true}
use Rattle.std.specs.Io.KnownBytes.{Consumes, IsAtEnd, Keeps}
use Rattle.std.proofs.KnownBytes.{Consumes-all, Consumes-kept, Consumes-nil, Consumes-trans, Keeps-trans}
use Rattle.lq_command.specs.Inputs.{IsDraft, IsInput}
use Rattle.lq_command.specs.Readers.{GivesByte, Takes, TakesLine, TakesNone, ending}
use Rattle.lq_command.specs.declared.input.Draft.{Draft}
use Rattle.lq_command.specs.declared.input.Input.{Input}
use Rattle.lq_command.specs.declared.input.Input.TheVariants as input

-- the first bytes of a line were taken, and no end met
pub record Gathering (before now : Option (List ℕ)) (was_ended ended : Bool) (gathered : Draft) : Type 0 where
  pub line : List ℕ
  pub unbroken : list_all (λ c. not (c == 10)) line ≡ true
  pub taken : Consumes before now line
  pub draft : IsDraft line gathered
  pub same : ended ≡ was_ended
  pub begun : 0 < length line → was_ended ≡ false

unbroken-more : (line : List ℕ) (byte : ℕ) → list_all (λ c. not (c == 10)) line ≡ true → (byte == 10) ≡ false
    → list_all (λ c. not (c == 10)) (line ++ byte ∷ []) ≡ true
unbroken-more [] byte unbroken other = rw other refl
unbroken-more (c ∷ line) byte unbroken other =
    let parts = and_parts (not (c == 10)) (list_all (λ c. not (c == 10)) line) unbroken in
    rw (parts.0, unbroken-more line byte parts.1 other) refl

-- what is given of a line that is there
pub Takes-line : (before after : Option (List ℕ)) (was_ended ended : Bool) (given : Input) → was_ended ≡ false
    → TakesLine before after ended given → Takes before after was_ended ended given
Takes-line before after was_ended ended (input.Line text) unended takes = (unended, takes)
Takes-line before after was_ended ended input.TooLong unended takes = (unended, takes)
Takes-line before after was_ended ended input.NoText unended takes = (unended, takes)
Takes-line before after was_ended ended input.NoMemory unended takes = (unended, takes)
Takes-line before after was_ended ended input.End unended takes = absurd takes.is_input

pub Gathering-start : (known : Option (List ℕ)) (ended : Bool) (draft : Draft) → IsDraft [] draft → Gathering known known ended ended draft
Gathering-start known ended draft is = record {
  line = [];
  unbroken = refl;
  taken = Consumes-nil known;
  draft = is;
  same = refl;
  begun = λ some. let never : ⊥ = omega (arith, some) in absurd never;
}

-- a byte that is no line feed was taken
pub Gathering-more : (before now after : Option (List ℕ)) (was_ended mid ended : Bool) (old new : Draft) (byte : ℕ) → (byte == 10) ≡ false
    → Gathering before now was_ended mid old → GivesByte now after mid ended (Some byte)
    → ((line : List ℕ) → IsDraft line old → IsDraft (line ++ byte ∷ []) new) → Gathering before after was_ended ended new
Gathering-more before now after was_ended mid ended old new byte other gathering gives adds = record {
  line = gathering.line ++ byte ∷ [];
  unbroken = unbroken-more gathering.line byte gathering.unbroken other;
  taken = Consumes-trans before now after gathering.line (byte ∷ []) gathering.taken gives.2;
  draft = adds gathering.line gathering.draft;
  same = gives.1 ∙ sym gives.0 ∙ gathering.same;
  begun = λ some. sym gathering.same ∙ gives.0;
}

positive : (n : ℕ) → (n == 0) ≡ false → 0 < n
positive zero e = let never : false ≡ true = sym e in cc
positive (suc n) e = omega arith

no_bytes : (line : List ℕ) → (length line == 0) ≡ true → line ≡ []
no_bytes [] e = refl
no_bytes (c ∷ line) e = let never : suc (length line) ≡ 0 = eqb-true (suc (length line)) 0 e in absurd (omega (arith, never))

-- what nothing was taken of is kept
Keeps-taken : (before after : Option (List ℕ)) → Consumes before after [] → Keeps before after
Keeps-taken None after taken = tt
Keeps-taken (Some x) None taken = absurd taken
Keeps-taken (Some x) (Some y) taken = sym taken

IsAtEnd-before : (before after : Option (List ℕ)) → Keeps before after → IsAtEnd after → IsAtEnd before
IsAtEnd-before None after kept end = tt
IsAtEnd-before (Some x) None kept end = absurd kept
IsAtEnd-before (Some x) (Some y) kept end = sym kept ∙ end

-- the line feed after a line was taken
pub Gathering-ended : (before now after : Option (List ℕ)) (was_ended mid ended : Bool) (draft : Draft) (given : Input)
    → Gathering before now was_ended mid draft → GivesByte now after mid ended (Some 10)
    → ((line : List ℕ) → IsDraft line draft → IsInput line given) → Takes before after was_ended ended given
Gathering-ended before now after was_ended mid ended draft given gathering gives finish =
    Takes-line before after was_ended ended given (sym gathering.same ∙ gives.0) (record {
      line = gathering.line;
      unbroken = gathering.unbroken;
      taken = subst (λ e. Consumes before after (gathering.line ++ ending e)) (sym gives.1)
          (Consumes-trans before now after gathering.line (10 ∷ []) gathering.taken gives.2);
      last = λ at_end. let never : false ≡ true = sym gives.1 ∙ at_end in cc;
      is_input = finish gathering.line gathering.draft;
    })

-- the end came after a line
pub Gathering-last : (before now after : Option (List ℕ)) (was_ended mid ended : Bool) (draft : Draft) (given : Input) (is_empty : Bool)
    → Gathering before now was_ended mid draft → GivesByte now after mid ended None
    → ((line : List ℕ) → IsDraft line draft → is_empty ≡ (length line == 0)) → is_empty ≡ false
    → ((line : List ℕ) → IsDraft line draft → IsInput line given) → Takes before after was_ended ended given
Gathering-last before now after was_ended mid ended draft given is_empty gathering gives empties some finish =
    let nonempty : 0 < length gathering.line = positive (length gathering.line) (sym (empties gathering.line gathering.draft) ∙ some) in
    let unended : was_ended ≡ false = gathering.begun nonempty in
    Takes-line before after was_ended ended given unended (record {
      line = gathering.line;
      unbroken = gathering.unbroken;
      taken = subst (λ e. Consumes before after (gathering.line ++ ending e)) (sym gives.0)
          (subst (Consumes before after) (sym (append-nil gathering.line)) (Consumes-kept before now after gathering.line gathering.taken gives.1));
      last = λ at_end. (Consumes-all before now gathering.line [] gathering.line gathering.taken (gives.2 (gathering.same ∙ unended)) refl, nonempty);
      is_input = finish gathering.line gathering.draft;
    })

-- the end came after no line
pub Gathering-none : (before now after : Option (List ℕ)) (was_ended mid ended : Bool) (draft : Draft) (is_empty : Bool)
    → Gathering before now was_ended mid draft → GivesByte now after mid ended None
    → ((line : List ℕ) → IsDraft line draft → is_empty ≡ (length line == 0)) → is_empty ≡ true
    → TakesNone before after was_ended ended
Gathering-none before now after was_ended mid ended draft is_empty gathering gives empties none =
    let nothing : gathering.line ≡ [] = no_bytes gathering.line (sym (empties gathering.line gathering.draft) ∙ none) in
    let kept : Keeps before now = Keeps-taken before now (subst (Consumes before now) nothing gathering.taken) in
    record {
      ends = gives.0;
      keeps = Keeps-trans before now after kept gives.1;
      none_left = λ unended. IsAtEnd-before before now kept (gives.2 (gathering.same ∙ unended));
    }
