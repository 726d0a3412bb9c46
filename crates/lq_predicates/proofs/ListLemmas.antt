-- Lists of numbers, text by text.
use Rattle.std.proofs.Common.{◌≡◌, ◌<◌, ◌+◌, ◌∷◌, ◌++◌, List, [], ℕ, ℤ, Option, Some, None, Result, Ok, Err, ap, sym, ◌∙◌, refl, arith, drop, get_or, length}
use Rattle.std.proofs.lemmas.List.{append-nil, at_drop_all, at_drop_more}
use Rattle.std.specs.Option.{ok_or, option_map}
use Rattle.std.specs.Prelude.{IfErr}
use Rattle.lq_load.specs.Cells.{int_of}
use Rattle.lq_predicates.specs.WatchLists.{before, numbers_of}
use Rattle.lq_predicates.specs.declared.watch_error.WatchError.{WatchError}
use Rattle.lq_predicates.specs.declared.watch_error.WatchError.TheVariants.{Watch}

-- numbers that are there, and behind them those that are still read
abbrev pub behind : List ℤ → Option (List ℤ) → Option (List ℤ)
behind front more = option_map (λ back. front ++ back) more

onto : (front : List ℤ) (number : ℤ) (back : List ℤ) → (front ++ number ∷ []) ++ back ≡ front ++ number ∷ back
onto [] number back = refl
onto (x ∷ front) number back = ap (λ (numbers : List ℤ). x ∷ numbers) (onto front number back)

behind_next : (front : List ℤ) (number : ℤ) (more : Option (List ℤ)) → behind (front ++ number ∷ []) more ≡ behind front (before (Some number) more)
behind_next front number None = refl
behind_next front number (Some back) = ap Some (onto front number back)

-- where a text is no number, nothing is read
behind_none : (front : List ℤ) (more : Option (List ℤ)) → behind front (before None more) ≡ None
behind_none front None = refl
behind_none front (Some back) = refl

module _ (texts : List (List ℕ)) (n : ℕ) where
  -- the numbers of the texts from one on are its own, and behind it those of the texts after it
  at_text : (text : List ℕ) → (n < length texts) × (text ≡ get_or texts n text) → numbers_of (drop n texts) ≡ before (int_of text) (numbers_of (drop (n + 1) texts))
  at_text text there = at_drop_more numbers_of texts n text there.0 ∙ ap (λ (t : List ℕ). before (int_of t) (numbers_of (drop (n + 1) texts))) (sym there.1)

  pub next_number : (front : List ℤ) (text : List ℕ) (number : ℤ) → (n < length texts) × (text ≡ get_or texts n text) → int_of text ≡ Some number
      → behind (front ++ number ∷ []) (numbers_of (drop (n + 1) texts)) ≡ behind front (numbers_of (drop n texts))
  next_number front text number there spells =
      behind_next front number (numbers_of (drop (n + 1) texts))
      ∙ ap (λ (o : Option ℤ). behind front (before o (numbers_of (drop (n + 1) texts)))) (sym spells)
      ∙ ap (behind front) (sym (at_text text there))

  pub no_number : (front : List ℤ) (text : List ℕ) → (n < length texts) × (text ≡ get_or texts n text) → int_of text ≡ None → behind front (numbers_of (drop n texts)) ≡ None
  no_number front text there spells =
      ap (behind front) (at_text text there)
      ∙ ap (λ (o : Option ℤ). behind front (before o (numbers_of (drop (n + 1) texts)))) spells
      ∙ behind_none front (numbers_of (drop (n + 1) texts))

  pub no_text_left : (front : List ℤ) → n ≡ length texts → behind front (numbers_of (drop n texts)) ≡ Some front
  no_text_left front all = ap (behind front) (at_drop_all numbers_of texts n (omega arith)) ∙ ap Some (append-nil front)

-- ---- what reading a text answers

pub is_number : (o : Option ℤ) (number : ℤ) → ok_or o Watch ≡ Ok number → o ≡ Some number
is_number None number e = absurd (cc)
is_number (Some x) number e = cc

pub is_no_number : (o : Option ℤ) (error : WatchError) → ok_or o Watch ≡ Err error → o ≡ None
is_no_number None error e = refl
is_no_number (Some x) error e = absurd (cc)

pub refused_for : {A P : Type 0} (r : Result A WatchError) → P → IfErr r (λ error. error ≡ Watch → P)
refused_for (Ok x) p = tt
refused_for (Err error) p = λ same. p
