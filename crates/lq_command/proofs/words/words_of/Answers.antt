use Rattle.std.proofs.Common.{rules, ◌≡◌, ◌∷◌, ◌++◌, [], Some, List, ℕ, ◌∙◌, ap, sym, filter, map, append_assoc, arith}
use Rattle.std.proofs.lemmas.Str.Pattern.{split_parts, NoCharPasses-char}
use Rattle.lq_command.specs.Words.{is_some_text, words_of}
use Rattle.lq_command.proofs.Pieces.{words-last, words-split}
use Rattle.lq_command.proofs.words.words_of.Goals as goal

pub loop-word-preserved : goal.loop-word-preserved
loop-word-preserved c =
    let parts = split_parts 32 c.loop-word.rest.now (Some (c.in-Some.word, c.in-Some.behind)) c.in-Some.ensures.cases (omega arith) in
    let found : List (List ℕ) = map (λ word. word.now) c.loop-word.words.items in
    let behind : words_of c.loop-word.rest.now ≡ filter is_some_text (c.in-Some.word.now ∷ []) ++ words_of c.in-Some.behind.now =
    ap words_of parts.0 ∙ words-split c.in-Some.word.now c.in-Some.behind.now parts.1 in
    record {
      utf8 = search rules;
      words = c.loop-word.invariant.words ∙ (ap (λ l. found ++ l) behind
          ∙ (sym (append_assoc found (filter is_some_text (c.in-Some.word.now ∷ [])) (words_of c.in-Some.behind.now))
          ∙ ap (λ l. l ++ words_of c.in-Some.behind.now) (sym c.in_ok-add_word.ensures)));
    }

pub returns : goal.returns
returns c =
    let last = words-last c.loop-word.rest.now (λ i below. NoCharPasses-char 32 c.loop-word.rest.now i c.in_default.ensures.cases (omega arith) below) in
    c.in_ok-add_word-2.ensures ∙ (ap (λ l. map (λ word. word.now) c.loop-word.words.items ++ l) (sym last) ∙ sym c.loop-word.invariant.words)
