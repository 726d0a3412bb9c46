-- The text of a right says one thing: each form is read from its texts, and from no others.
use Rattle.std.proofs.Common.{arith, ◌≡◌, ◌∷◌, ◌++◌, ◌==◌, ◌&&◌, ◌+◌, ◌<◌, List, [], ℕ, Bool, true, false, Option, Some, None, Result, Ok, Err, ap, bytes_eq, codes, cond, drop, length, option_and_then, nat_lt, not, option_map, rules, suc, take, refl, subst, sym, true≢false, ◌∙◌}
use Rattle.std.specs.List.{list_all, position_or_len}
use Rattle.std.specs.Str.{NonePass, chars, is_utf8}
use Rattle.std.proofs.Math.Seq.{drop-append-add, take-append_seam}
use Rattle.std.proofs.lemmas.Bool.{and_parts, eqb-true, false_from_ne_true, lt-ltb, ltb-true}
use Rattle.std.proofs.lemmas.List.{drop_more, length-append, take-append-drop}
use Rattle.std.proofs.lemmas.List.Sums.{passes_at_first}
use Rattle.std.proofs.lemmas.Option.{none-some, same_Some}
use Rattle.std.proofs.lemmas.Slice.Eq.{bytes_eq-Decides}
use Rattle.std.proofs.lemmas.Str.{IsUtf8-from_is_utf8, encodes-chars}
use Rattle.std.proofs.lemmas.Str.Pattern.{split_once_first}
use Rattle.unicode_ident.proofs.Computing.{unicode_ident}
use Rattle.lq_grammar.specs.Tokens.{is_name, spells_name}
use Rattle.lq_grammar.specs.Words.{continues_name, starts_name}
use Rattle.lq_policyfile.specs.Outcome.{Reads}
use Rattle.lq_policyfile.specs.Rights.{IsRead, Says, around, by_dot, change_in_words, columns_in_words, dotted, predicate_in_words, right_of, spaced}
use Rattle.lq_policyfile.specs.declared.entry.RightForm.{RightForm}
use Rattle.lq_policyfile.specs.declared.entry.RightForm.TheVariants as form
use Rattle.lq_policyfile.specs.declared.error.ShapeError.{ShapeError}
use Rattle.lq_policyfile.specs.declared.error.ShapeError.TheVariants as shape

-- ---- names hold no dot, no blank and no star

differs : (p : ℕ → Bool) (c d : ℕ) → p c ≡ false → p d ≡ true → (d == c) ≡ false
differs p c d out inside = false_from_ne_true (d == c) (λ e. true≢false (sym (subst (λ (x : ℕ). p x ≡ true) (eqb-true d c e) inside) ∙ out))

none_continues : (c : ℕ) → continues_name c ≡ false → (cs : List ℕ) → list_all continues_name cs ≡ true → NonePass (λ d. d == c) cs
none_continues c out [] all = tt
none_continues c out (d ∷ cs) all =
    let parts = and_parts (continues_name d) (list_all continues_name cs) all in
    (differs continues_name c d out parts.0, none_continues c out cs parts.1)

none_spells : (c : ℕ) → starts_name c ≡ false → continues_name c ≡ false → (cs : List ℕ) → spells_name cs ≡ true → NonePass (λ d. d == c) cs
none_spells c start out [] name = tt
none_spells c start out (d ∷ cs) name =
    let word = and_parts (starts_name d && list_all continues_name cs) _ name in
    let parts = and_parts (starts_name d) (list_all continues_name cs) word.0 in
    (differs starts_name c d start parts.0, none_continues c out cs parts.1)

-- a text lacks a byte
abbrev Lacks : ℕ → List ℕ → Type 0
Lacks c text = position_or_len (λ b. b == c) text ≡ length text

name_lacks : (c : ℕ) → c < 128 → starts_name c ≡ false → continues_name c ≡ false → (name : List ℕ) → is_name name ≡ true → Lacks c name
unfolding is_name
name_lacks c low start out name h =
    let parts = and_parts (is_utf8 name) (spells_name (chars name)) h in
    split_once_first c name None (chars name, encodes-chars name (IsUtf8-from_is_utf8 name parts.0), none_spells c start out (chars name) parts.1) low

no_start : (starts_name 46 ≡ false) × (starts_name 32 ≡ false) × (starts_name 42 ≡ false)
unfolding starts_name unicode_ident
no_start = (refl, refl, refl)

continues_none : (continues_name 46 ≡ false) × (continues_name 32 ≡ false) × (continues_name 42 ≡ false)
unfolding continues_name unicode_ident
continues_none = (refl, refl, refl)

no_dot : (name : List ℕ) → is_name name ≡ true → Lacks 46 name
no_dot name h = name_lacks 46 (omega arith) no_start.0 continues_none.0 name h

no_blank : (name : List ℕ) → is_name name ≡ true → Lacks 32 name
no_blank name h = name_lacks 32 (omega arith) no_start.1 continues_none.1 name h

no_star : is_name (codes "*") ≡ false
no_star = false_from_ne_true (is_name (codes "*")) (λ h. let lacks : 0 ≡ 1 = name_lacks 42 (omega arith) no_start.2 continues_none.2 (codes "*") h in omega (arith, lacks))

and_none : (b : Bool) → (b && false) ≡ false
and_none true = refl
and_none false = refl

no_host : is_name (codes "Host") ≡ false
unfolding is_name chars
no_host = false_from_ne_true (is_name (codes "Host")) (λ h.
    let parts = and_parts (is_utf8 (codes "Host")) _ h in
    true≢false (sym parts.1 ∙ and_none _))

-- ---- two words round a byte

abbrev place : ℕ → List ℕ → ℕ
place c text = position_or_len (λ b. b == c) text

same_byte : (c : ℕ) → (c == c) ≡ true
same_byte c = search rules

place_at : (c : ℕ) (front back : List ℕ) → Lacks c front → place c (front ++ c ∷ back) ≡ length front
place_at c [] back lacks = rw (same_byte c)
place_at c (d ∷ front) back lacks = by (d == c) refl lacks (place_at c front back) where
  by : (b : Bool) → (d == c) ≡ b → cond (not b) (1 + place c front) 0 ≡ suc (length front)
      → (Lacks c front → place c (front ++ c ∷ back) ≡ length front) → place c (d ∷ front ++ c ∷ back) ≡ suc (length front)
  by true same h behind = absurd (omega (arith, h))
  by false other h behind = rw other (omega (arith, behind (omega (arith, h))))

lacks_more : (c : ℕ) (front back : List ℕ) → Lacks c front → Lacks c back → Lacks c (front ++ back)
lacks_more c [] back lacks more = more
lacks_more c (d ∷ front) back lacks more = by (d == c) refl lacks (λ behind. lacks_more c front back behind more) where
  by : (b : Bool) → (d == c) ≡ b → cond (not b) (1 + place c front) 0 ≡ suc (length front) → (Lacks c front → Lacks c (front ++ back))
      → Lacks c (d ∷ front ++ back)
  by true same h behind = absurd (omega (arith, h))
  by false other h behind = rw other (omega (arith, behind (omega (arith, h))))

abbrev words_at : List ℕ → ℕ → List ℕ × List ℕ
words_at text n = (take n text, drop (n + 1) text)

around_found : (c : ℕ) (text : List ℕ) (n : ℕ) → place c text ≡ n → n < length text → around c text ≡ Some (words_at text n)
around_found c text n at within = rw (at, lt-ltb n (length text) within)

around_words : (c : ℕ) (front back : List ℕ) → Lacks c front → around c (front ++ c ∷ back) ≡ Some (front, back)
around_words c front back lacks =
    around_found c (front ++ c ∷ back) (length front) (place_at c front back lacks) (omega (arith, length-append front (c ∷ back)))
    ∙ rw (take-append_seam front (c ∷ back), drop-append-add front (c ∷ back) 1)

around_none : (c : ℕ) (text : List ℕ) → Lacks c text → around c text ≡ None
around_none c text lacks = rw (lacks, false_from_ne_true (nat_lt (length text) (length text)) (λ e. omega (arith, ltb-true _ _ e)))

around_is : (c : ℕ) (text : List ℕ) (words : List ℕ × List ℕ) → around c text ≡ Some words → text ≡ words.0 ++ c ∷ words.1
around_is c text words h = by (nat_lt (place c text) (length text)) refl h where
  by : (b : Bool) → nat_lt (place c text) (length text) ≡ b → option_map (words_at text) (cond b (Some (place c text)) None) ≡ Some words
      → text ≡ words.0 ++ c ∷ words.1
  by false out h = absurd (none-some words h)
  by true is h =
      let within : place c text < length text = ltb-true _ _ is in
      let met : text ≡ take (place c text) text ++ c ∷ drop (place c text + 1) text =
      sym (take-append-drop (place c text) text)
      ∙ ap (λ (rest : List ℕ). take (place c text) text ++ rest)
      (drop_more text (place c text) 0 within ∙ ap (λ (b : ℕ). b ∷ drop (place c text + 1) text) (eqb-true _ c (passes_at_first (λ b. b == c) text 0 within))) in
      subst (λ (w : List ℕ × List ℕ). text ≡ w.0 ++ c ∷ w.1) (same_Some (words_at text (place c text)) words h) met

-- ---- each form is read from its texts

name_is_other : (name word : List ℕ) → is_name name ≡ true → is_name word ≡ false → bytes_eq name word ≡ false
name_is_other name word h none = false_from_ne_true (bytes_eq name word) (λ e. true≢false (sym h ∙ ap is_name ((bytes_eq-Decides name word).0 e) ∙ none))

dotted_right : (owner part : List ℕ) → Lacks 46 owner → right_of (owner ++ 46 ∷ part) ≡ dotted owner part
unfolding right_of
dotted_right owner part lacks = ap (by_dot (owner ++ 46 ∷ part)) (around_words 46 owner part lacks)

spaced_right : (table change : List ℕ) → Lacks 46 table → Lacks 32 table → Lacks 46 (32 ∷ change) → right_of (table ++ 32 ∷ change) ≡ spaced table change
unfolding right_of
spaced_right table change dotless blankless more =
    ap (by_dot (table ++ 32 ∷ change)) (around_none 46 (table ++ 32 ∷ change) (lacks_more 46 table (32 ∷ change) dotless more))
    ∙ ap (λ (found : Option (List ℕ × List ℕ)). option_and_then (λ words. spaced words.0 words.1) found) (around_words 32 table change blankless)

pub says_read : (text : List ℕ) (right : RightForm) → Says text right → right_of text ≡ Some right
says_read _ _ (Says.column t c table column) =
    dotted_right t c (no_dot t table) ∙ rw (table, name_is_other c (codes "*") column no_star, column)
says_read _ _ (Says.all_columns t table) = dotted_right t (codes "*") (no_dot t table) ∙ rw table
says_read _ _ (Says.insertion t table) = spaced_right t (codes "insert") (no_dot t table) (no_blank t table) refl ∙ rw table
says_read _ _ (Says.removal t table) = spaced_right t (codes "delete") (no_dot t table) (no_blank t table) refl ∙ rw table
says_read _ _ (Says.predicate p name) = dotted_right (codes "Host") p refl ∙ rw (no_host, name)

-- ---- and from no others

is_word : (a b : List ℕ) → bytes_eq a b ≡ true → b ≡ a
is_word a b e = sym ((bytes_eq-Decides a b).0 e)

columns_say : (t u : List ℕ) (right : RightForm) → is_name t ≡ true → columns_in_words t u ≡ Some right → Says (t ++ 46 ∷ u) right
columns_say t u right table h = by (bytes_eq u (codes "*")) refl (is_name u) refl h where
  by : (star : Bool) → bytes_eq u (codes "*") ≡ star → (name : Bool) → is_name u ≡ name
      → cond star (Some (form.AllColumns t)) (cond name (Some (form.Column t u)) None) ≡ Some right → Says (t ++ 46 ∷ u) right
  by true star name is h =
      subst (Says (t ++ 46 ∷ u)) (same_Some (form.AllColumns t) right h)
      (subst (λ (w : List ℕ). Says (t ++ 46 ∷ w) (form.AllColumns t)) (is_word u (codes "*") star) (Says.all_columns t table))
  by false star true is h = subst (Says (t ++ 46 ∷ u)) (same_Some (form.Column t u) right h) (Says.column t u table is)
  by false star false is h = absurd (none-some right h)

predicate_says : (p : List ℕ) (right : RightForm) → predicate_in_words p ≡ Some right → Says (codes "Host" ++ 46 ∷ p) right
predicate_says p right h = by (is_name p) refl h where
  by : (name : Bool) → is_name p ≡ name → cond name (Some (form.Host p)) None ≡ Some right → Says (codes "Host" ++ 46 ∷ p) right
  by true is h = subst (Says (codes "Host" ++ 46 ∷ p)) (same_Some (form.Host p) right h) (Says.predicate p is)
  by false is h = absurd (none-some right h)

dotted_says : (owner part : List ℕ) (right : RightForm) → dotted owner part ≡ Some right → Says (owner ++ 46 ∷ part) right
dotted_says owner part right h = by (is_name owner) refl (bytes_eq owner (codes "Host")) refl h where
  by : (name : Bool) → is_name owner ≡ name → (host : Bool) → bytes_eq owner (codes "Host") ≡ host
      → cond name (columns_in_words owner part) (cond host (predicate_in_words part) None) ≡ Some right → Says (owner ++ 46 ∷ part) right
  by true is host same h = columns_say owner part right is h
  by false is true same h = subst (λ (w : List ℕ). Says (w ++ 46 ∷ part) right) (is_word owner (codes "Host") same) (predicate_says part right h)
  by false is false same h = absurd (none-some right h)

change_says : (t change : List ℕ) (right : RightForm) → is_name t ≡ true → change_in_words t change ≡ Some right → Says (t ++ 32 ∷ change) right
change_says t change right table h = by (bytes_eq change (codes "insert")) refl (bytes_eq change (codes "delete")) refl h where
  by : (insertion : Bool) → bytes_eq change (codes "insert") ≡ insertion → (removal : Bool) → bytes_eq change (codes "delete") ≡ removal
      → cond insertion (Some (form.Insert t)) (cond removal (Some (form.Delete t)) None) ≡ Some right → Says (t ++ 32 ∷ change) right
  by true same removal other h =
      subst (Says (t ++ 32 ∷ change)) (same_Some (form.Insert t) right h)
      (subst (λ (w : List ℕ). Says (t ++ 32 ∷ w) (form.Insert t)) (is_word change (codes "insert") same) (Says.insertion t table))
  by false other true same h =
      subst (Says (t ++ 32 ∷ change)) (same_Some (form.Delete t) right h)
      (subst (λ (w : List ℕ). Says (t ++ 32 ∷ w) (form.Delete t)) (is_word change (codes "delete") same) (Says.removal t table))
  by false other false none h = absurd (none-some right h)

spaced_says : (t change : List ℕ) (right : RightForm) → spaced t change ≡ Some right → Says (t ++ 32 ∷ change) right
spaced_says t change right h = by (is_name t) refl h where
  by : (name : Bool) → is_name t ≡ name → cond name (change_in_words t change) None ≡ Some right → Says (t ++ 32 ∷ change) right
  by true is h = change_says t change right is h
  by false is h = absurd (none-some right h)

blank_says : (text : List ℕ) (found : Option (List ℕ × List ℕ)) (right : RightForm) → around 32 text ≡ found
    → option_and_then (λ words. spaced words.0 words.1) found ≡ Some right → Says text right
blank_says text None right is h = absurd (none-some right h)
blank_says text (Some words) right is h = subst (λ (t : List ℕ). Says t right) (sym (around_is 32 text words is)) (spaced_says words.0 words.1 right h)

dot_says : (text : List ℕ) (found : Option (List ℕ × List ℕ)) (right : RightForm) → around 46 text ≡ found → by_dot text found ≡ Some right → Says text right
dot_says text None right is h = blank_says text (around 32 text) right refl h
dot_says text (Some words) right is h = subst (λ (t : List ℕ). Says t right) (sym (around_is 46 text words is)) (dotted_says words.0 words.1 right h)

pub read_says : (text : List ℕ) (right : RightForm) → right_of text ≡ Some right → Says text right
unfolding right_of
read_says text right h = dot_says text (around 46 text) right refl h

pub is_read : (text : List ℕ) (result : Result RightForm ShapeError) → Reads (right_of text) result → IsRead text result
is_read text (Ok right) h = read_says text right h
is_read text (Err shape.Shape) h = λ right says. none-some right (sym h ∙ says_read text right says)
is_read text (Err shape.Memory) h = tt
