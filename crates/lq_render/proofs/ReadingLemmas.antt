-- What is read of the text of ordered data is the data.
use Rattle.std.proofs.Common.{◌≡◌, ◌∷◌, ◌++◌, ◌≤◌, ◌-◌, ◌==◌, List, [], ℕ, suc, pos, negsuc, false, cond, Some, None, Option, codes, length, option_and_then, option_map, take, refl, sym, ap, ap₂, ◌∙◌, subst, arith, append-nil, length-append, unwrap_or, max, slice_index}
use Rattle.std.specs.Cmp.Lexicographic.{slice_cmp}
use Rattle.std.specs.Ordering.{nat_cmp, match_ordering, ordering_reverse}
use Rattle.std.specs.declared.cmp.Ordering.{Ordering}
use Rattle.std.specs.declared.cmp.Ordering.TheVariants.{Less, Equal, Greater}
use Rattle.std.proofs.lemmas.Cmp.{nat_list_cmp_total}
use Rattle.json.specs.Json as json
use Rattle.json.specs.Lex.{tokens}
use Rattle.json.specs.Token.{Token}
use Rattle.json.specs.Print.{IsNumber}
use Rattle.json.specs.Tree as tree
use Rattle.json.proofs.Printed.Decimals.{IsNumber-decimal, IsNumber-signed_decimal}
use Rattle.json.proofs.Printed.Tokens.{tokens-print}
use Rattle.json.proofs.Printed.Trees.{ArePrintable-json_tokens, value-json_tokens}
use Rattle.serde_json.specs.Data.{Data, Items, Members, Num, array, boolean, depth, float, item, items_depth, member, members_depth, negative, no_items, no_members, null, number, object, put, string, unsigned}
use Rattle.serde_json.specs.Find.{is_float}
use Rattle.serde_json.specs.Read.{max_depth, of_items, of_json, of_members, read}
use Rattle.serde_json.specs.Written.{compact_text, has_float, items_have_float, items_outline, members_have_float, members_outline, number_text, outline}
use Rattle.serde_json.proofs.Numbers.{number_of-decimal, number_of-negative}
use Rattle.serde_json.proofs.Texts.{print-outline}
use Rattle.lq_render.specs.Readings.{ComesBefore, IsInteger, IsOrdered, ItemsAreOrdered, MembersAreOrdered, PutKeepsOrder, ShowsData}
use Rattle.lq_render.specs.Replies.{front_of, line_text, text_of_reply, without_floats}

-- ---- members

-- members, one after another
abbrev members_after : Members → Members → Members
members_after no_members ms = ms
members_after (member name d found) ms = member name d (members_after found ms)

members_after_one : (found : Members) (name : List ℕ) (d : Data) (ms : Members) → members_after (members_after found (member name d no_members)) ms ≡ members_after found (member name d ms)
members_after_one no_members name d ms = refl
members_after_one (member other e found) name d ms = ap (member other e) (members_after_one found name d ms)

members_after_none : (found : Members) → members_after found no_members ≡ found
members_after_none no_members = refl
members_after_none (member name d found) = ap (member name d) (members_after_none found)

-- each of the first names comes before all of the others
abbrev AllBefore : Members → Members → Type 0
AllBefore no_members ms = Unit {0}
AllBefore (member name d found) ms = ComesBefore name ms × AllBefore found ms

greater_of_less : (x y : List ℕ) → slice_cmp nat_cmp x y ≡ Less → slice_cmp nat_cmp y x ≡ Greater
greater_of_less x y h = nat_list_cmp_total.antisymm y x ∙ ap ordering_reverse h

pub less_of_greater : (x y : List ℕ) → slice_cmp nat_cmp x y ≡ Greater → slice_cmp nat_cmp y x ≡ Less
less_of_greater x y h = nat_list_cmp_total.antisymm y x ∙ ap ordering_reverse h

-- a name past all others is put at the end
put_last : (found : Members) (name : List ℕ) (d : Data) (ms : Members) → AllBefore found (member name d ms) → put name d found ≡ members_after found (member name d no_members)
put_last no_members name d ms h = refl
put_last (member other e found) name d ms h =
    ap (λ o. match_ordering o (member name d (member other e found)) (member other d found) (member other e (put name d found))) (greater_of_less other name h.0.0)
    ∙ ap (member other e) (put_last found name d ms h.1)

all_before_rest : (found : Members) (name : List ℕ) (d : Data) (ms : Members) → AllBefore found (member name d ms) → AllBefore found ms
all_before_rest no_members name d ms h = tt
all_before_rest (member other e found) name d ms h = (h.0.1, all_before_rest found name d ms h.1)

all_before_more : (found : Members) (name : List ℕ) (d : Data) (ms : Members) → AllBefore found (member name d ms) → ComesBefore name ms → AllBefore (members_after found (member name d no_members)) ms
all_before_more no_members name d ms h before = (before, tt)
all_before_more (member other e found) name d ms h before = (h.0.1, all_before_more found name d ms h.1 before)

-- ---- the outline of data gives the data

number_back : (n : Num) → IsInteger n → of_json (json.number (number_text n)) ≡ Some (number n)
number_back (unsigned n) h = ap (option_map number) (number_of-decimal n h)
number_back (negative (pos n)) h = absurd h
number_back (negative (negsuc n)) h = ap (option_map number) (number_of-negative n (omega arith))
number_back (float x) h = absurd h

mutual
  outline_back : (d : Data) → IsOrdered d → of_json (outline d) ≡ Some d
  outline_back null h = refl
  outline_back (boolean b) h = refl
  outline_back (number n) h = number_back n h
  outline_back (string s) h = refl
  outline_back (array ds) h = ap (option_map array) (items_back ds h)
  outline_back (object ms) h = ap (option_map object) (members_back ms no_members h tt)

  items_back : (ds : Items) → ItemsAreOrdered ds → of_items (items_outline ds) ≡ Some ds
  items_back no_items h = refl
  items_back (item d ds) h = ap (option_and_then (λ e. option_map (item e) (of_items (items_outline ds)))) (outline_back d h.0) ∙ ap (option_map (item d)) (items_back ds h.1)

  members_back : (ms found : Members) → MembersAreOrdered ms → AllBefore found ms → of_members (members_outline ms) found ≡ Some (members_after found ms)
  members_back no_members found h before = ap Some (sym (members_after_none found))
  members_back (member name d ms) found h before =
      ap (option_and_then (λ e. of_members (members_outline ms) (put name e found))) (outline_back d h.0)
      ∙ ap (of_members (members_outline ms)) (put_last found name d ms before)
      ∙ members_back ms (members_after found (member name d no_members)) h.1.1 (all_before_more found name d ms before h.1.0)
      ∙ ap Some (members_after_one found name d ms)

-- ---- its text

number_written : (n : Num) → IsInteger n → IsNumber (number_text n)
number_written (unsigned n) h = IsNumber-decimal n h
number_written (negative (pos n)) h = absurd h
number_written (negative (negsuc n)) h = IsNumber-signed_decimal (negsuc n) (omega arith)
number_written (float x) h = absurd h

mutual
  numbers_written : (d : Data) → IsOrdered d → tree.HasNumbers (outline d)
  numbers_written null h = tt
  numbers_written (boolean b) h = tt
  numbers_written (number n) h = number_written n h
  numbers_written (string s) h = tt
  numbers_written (array ds) h = items_written ds h
  numbers_written (object ms) h = members_written ms h

  items_written : (ds : Items) → ItemsAreOrdered ds → tree.ItemsHaveNumbers (items_outline ds)
  items_written no_items h = tt
  items_written (item d ds) h = (numbers_written d h.0, items_written ds h.1)

  members_written : (ms : Members) → MembersAreOrdered ms → tree.MembersHaveNumbers (members_outline ms)
  members_written no_members h = tt
  members_written (member name d ms) h = (numbers_written d h.0, members_written ms h.1.1)

mutual
  outline_depth : (d : Data) → tree.depth (outline d) ≡ depth d
  outline_depth null = refl
  outline_depth (boolean b) = refl
  outline_depth (number n) = refl
  outline_depth (string s) = refl
  outline_depth (array ds) = ap suc (items_outline_depth ds)
  outline_depth (object ms) = ap suc (members_outline_depth ms)

  items_outline_depth : (ds : Items) → tree.items_depth (items_outline ds) ≡ items_depth ds
  items_outline_depth no_items = refl
  items_outline_depth (item d ds) = ap₂ max (outline_depth d) (items_outline_depth ds)

  members_outline_depth : (ms : Members) → tree.members_depth (members_outline ms) ≡ members_depth ms
  members_outline_depth no_members = refl
  members_outline_depth (member name d ms) = ap₂ max (outline_depth d) (members_outline_depth ms)

integer_no_float : (n : Num) → IsInteger n → is_float n ≡ false
integer_no_float (unsigned n) h = refl
integer_no_float (negative z) h = refl
integer_no_float (float x) h = absurd h

mutual
  no_float : (d : Data) → IsOrdered d → has_float d ≡ false
  no_float null h = refl
  no_float (boolean b) h = refl
  no_float (number n) h = integer_no_float n h
  no_float (string s) h = refl
  no_float (array ds) h = items_no_float ds h
  no_float (object ms) h = members_no_float ms h

  items_no_float : (ds : Items) → ItemsAreOrdered ds → items_have_float ds ≡ false
  items_no_float no_items h = refl
  items_no_float (item d ds) h = rw (no_float d h.0) (items_no_float ds h.1)

  members_no_float : (ms : Members) → MembersAreOrdered ms → members_have_float ms ≡ false
  members_no_float no_members h = refl
  members_no_float (member name d ms) h = rw (no_float d h.0) (members_no_float ms h.1.1)

-- ---- reading

abbrev whole : Option (json.Json × List Token) → Option Data
whole found = option_and_then of_json (option_and_then (λ p. json.if_last p.0 p.1) found)

pub reads_back : (d : Data) → IsOrdered d → depth d ≤ max_depth → read (compact_text d) ≡ Some d
reads_back d h shallow =
    let written = tree.json_tokens (outline d) in
    ap (λ ts. whole (json.value max_depth ts))
    (ap tokens (sym (print-outline d)) ∙ tokens-print written (ArePrintable-json_tokens (outline d) (numbers_written d h)) ∙ sym (append-nil written))
    ∙ ap whole (value-json_tokens (outline d) max_depth [] (subst (λ n. n ≤ max_depth) (sym (outline_depth d)) shallow))
    ∙ outline_back d h

-- ---- lines

at_end : (s : List ℕ) (x : ℕ) → slice_index (s ++ x ∷ []) (length s) ≡ x
at_end [] x = refl
at_end (y ∷ s) x = at_end s x

front_taken : (s : List ℕ) (x : ℕ) → take (length s) (s ++ x ∷ []) ≡ s
front_taken [] x = refl
front_taken (y ∷ s) x = ap (λ t. y ∷ t) (front_taken s x)

pub front_read : (s : List ℕ) → front_of (s ++ 10 ∷ []) ≡ s
front_read s =
    let line = s ++ 10 ∷ [] in
    let last : length line - 1 ≡ length s = omega (arith, length-append s (10 ∷ [])) in
    ap (λ n. cond (slice_index line n == 10) (take n line) line) last
    ∙ ap (λ x. cond (x == 10) (take (length s) line) line) (at_end s 10)
    ∙ front_taken s 10

pub shows_data : ShowsData
shows_data shape d h shallow =
    let alone = compact_text d ++ codes "\n" in
    ap (line_text shape) (front_read (compact_text d))
    ∙ ap (λ found. unwrap_or (option_and_then (text_of_reply shape) (option_and_then without_floats found)) alone) (reads_back d h shallow)
    ∙ ap (λ b. unwrap_or (option_and_then (text_of_reply shape) (cond b None (Some d))) alone) (no_float d h)

-- ---- `put`

pub before_others : (name other : List ℕ) (ms : Members) → slice_cmp nat_cmp name other ≡ Less → ComesBefore other ms → ComesBefore name ms
before_others name other no_members less h = tt
before_others name other (member next d ms) less h =
    (nat_list_cmp_total.trans name other next less h.0, before_others name other ms less h.1)

pub before_cases : (o : Ordering) (first name next : List ℕ) (d e : Data) (ms more : Members) → slice_cmp nat_cmp first name ≡ Less
    → ComesBefore first (member next e ms) → ComesBefore first more
    → ComesBefore first (match_ordering o (member name d (member next e ms)) (member next d ms) (member next e more))
before_cases Less first name next d e ms more less h after = (less, h)
before_cases Equal first name next d e ms more less h after = h
before_cases Greater first name next d e ms more less h after = (h.0, after)

pub before_put : (first name : List ℕ) (d : Data) (ms : Members) → slice_cmp nat_cmp first name ≡ Less → ComesBefore first ms → ComesBefore first (put name d ms)
before_put first name d no_members less h = (less, tt)
before_put first name d (member next e ms) less h =
    before_cases (slice_cmp nat_cmp name next) first name next d e ms (put name d ms) less h (before_put first name d ms less h.1)

put_cases : (o : Ordering) (name next : List ℕ) (d e : Data) (ms : Members) → o ≡ slice_cmp nat_cmp name next
    → IsOrdered d → MembersAreOrdered (member next e ms) → MembersAreOrdered (put name d ms)
    → MembersAreOrdered (match_ordering o (member name d (member next e ms)) (member next d ms) (member next e (put name d ms)))
put_cases Less name next d e ms is d_is h more = (d_is, ((sym is, before_others name next ms (sym is) h.1.0), h))
put_cases Equal name next d e ms is d_is h more = (d_is, h.1)
put_cases Greater name next d e ms is d_is h more = (h.0, (before_put next name d ms (less_of_greater name next (sym is)) h.1.0, more))

pub put_keeps_order : PutKeepsOrder
put_keeps_order name d no_members d_is h = (d_is, (tt, tt))
put_keeps_order name d (member next e ms) d_is h =
    put_cases (slice_cmp nat_cmp name next) name next d e ms refl d_is h (put_keeps_order name d ms d_is h.1.1)
