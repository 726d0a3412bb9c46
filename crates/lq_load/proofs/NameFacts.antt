-- What names and texts consist of.
use Rattle.std.proofs.Common.{◌≡◌, ℕ, Bool, true, false, List, refl}
use Rattle.std.specs.Prelude.{IsUtf8, chars}
use Rattle.std.specs.Str.{is_utf8}
use Rattle.std.proofs.lemmas.Bool.{and_parts}
use Rattle.std.proofs.lemmas.Str.{IsUtf8-from_is_utf8, is_utf8-from_IsUtf8}
use Rattle.lq_grammar.specs.Tokens.{is_name, spells_name}

-- names are text
pub is_name-text : (text : List ℕ) → is_name text ≡ true → IsUtf8 text
unfolding is_name
is_name-text text e = IsUtf8-from_is_utf8 text (and_parts (is_utf8 text) (spells_name (chars text)) e).0

-- so that bytes that aren't text aren't a name
pub other_bytes : (bytes : List ℕ) → (IsUtf8 bytes → ⊥) → is_name bytes ≡ false
other_bytes bytes none = by (is_name bytes) refl
  where
    by : (b : Bool) → is_name bytes ≡ b → b ≡ false
    by false e = refl
    by true e = absurd (none (is_name-text bytes e))

-- texts are distinguished from other bytes
pub some_text : (bytes : List ℕ) → IsUtf8 bytes → is_utf8 bytes ≡ true
some_text bytes text = is_utf8-from_IsUtf8 bytes text

pub no_text : (bytes : List ℕ) → (IsUtf8 bytes → ⊥) → is_utf8 bytes ≡ false
no_text bytes none = by (is_utf8 bytes) refl
  where
    by : (b : Bool) → is_utf8 bytes ≡ b → b ≡ false
    by false e = refl
    by true e = absurd (none (IsUtf8-from_is_utf8 bytes e))
