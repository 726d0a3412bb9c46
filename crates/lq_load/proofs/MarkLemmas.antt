-- Where all byte order marks are dropped, none is left for the reader of CSV to drop, and no byte is added.
use Rattle.std.proofs.Common.{◌≡◌, ◌≤◌, ◌∷◌, ℕ, suc, Bool, true, false, List, [], length, refl, arith, if◌then◌else◌}
use Rattle.csv.specs.Reading.{is_bom, strip_bom}
use Rattle.lq_grammar.specs.Script.{without_marks}

-- where all marks are gone there is none to strip
pub strip_bom-without_marks : (bytes : List ℕ) → strip_bom (without_marks bytes) ≡ without_marks bytes
unfolding strip_bom
strip_bom-without_marks [] = refl
strip_bom-without_marks (a ∷ []) = refl
strip_bom-without_marks (a ∷ b ∷ []) = refl
strip_bom-without_marks (a ∷ b ∷ c ∷ rest) = by (is_bom a b c) refl (strip_bom-without_marks rest)
  where
    by : (m : Bool) → is_bom a b c ≡ m → strip_bom (without_marks rest) ≡ without_marks rest
        → strip_bom (if m then without_marks rest else a ∷ b ∷ c ∷ rest) ≡ (if m then without_marks rest else a ∷ b ∷ c ∷ rest)
    by true e more = more
    by false e more = rw e refl

pub without_marks-short : (bytes : List ℕ) → length (without_marks bytes) ≤ length bytes
without_marks-short [] = omega arith
without_marks-short (a ∷ []) = omega arith
without_marks-short (a ∷ b ∷ []) = omega arith
without_marks-short (a ∷ b ∷ c ∷ rest) = by (is_bom a b c) (without_marks-short rest)
  where
    by : (m : Bool) → length (without_marks rest) ≤ length rest → length (if m then without_marks rest else a ∷ b ∷ c ∷ rest) ≤ suc (suc (suc (length rest)))
    by true h = omega arith
    by false h = omega arith
