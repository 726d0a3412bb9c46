-- Keys of `orderby` are read as they are spelled.
use Rattle.std.proofs.Common.{arith, ◌≡◌, ◌≤◌, ℕ, suc, zero, true, false, List, [], ◌∷◌, ◌++◌, refl, ap, ◌∙◌, length}
use Rattle.std.specs.Prelude.{Some}
use Rattle.lq_grammar.specs.Parsing as p
use Rattle.lq_grammar.specs.Parsing.{Parser, peek}
use Rattle.lq_grammar.specs.declared.syntax.Expr.{Expr}
use Rattle.lq_grammar.specs.declared.syntax.Level.{Level}
use Rattle.lq_grammar.specs.declared.syntax.Level.TheVariants as level
use Rattle.lq_grammar.specs.declared.syntax.SortKey.{SortKey}
use Rattle.lq_grammar.specs.declared.token.Kind.TheVariants as k
use Rattle.lq_grammar.specs.declared.token.Token.{Token}
use Rattle.lq_grammar.proofs.Following.{not_next, tight}
use Rattle.lq_grammar.proofs.Forwards.{after_sees, after_skips, begins_false, bind_step, split_middle, turn}
use Rattle.lq_grammar.proofs.ReadParts.{Reads, ReadsOn}

module _ (line : List ℕ) (inner : Level → Parser Expr) where
  abbrev pub ConditionalRead : Expr → List Token → Type 0
  ConditionalRead x ts = Reads 10 (inner level.Conditional) x ts

  -- ---- keys of `orderby`

  abbrev KeyRead : SortKey Expr → List Token → Type 0
  KeyRead x ts = Reads 11 (p.key line inner) x ts

  abbrev pub KeysRead : List (SortKey Expr) → List Token → Type 0
  KeysRead ks ts = ReadsOn 11 (p.keys line inner) (λ turns. p.more_keys line inner turns ks) ts

  pub read_key_alone : (x : Expr) (ts : List Token) → ConditionalRead x ts → KeyRead (record { value = x; descending = false }) ts
  unfolding p.key
  read_key_alone x ts reads rest stops =
      bind_step (inner level.Conditional) _ (ts ++ rest) rest x (reads rest (omega arith))
      ∙ after_skips k.Ascending _ _ rest (not_next k.Ascending rest (omega arith)) ∙ after_skips k.Descending _ _ rest (not_next k.Descending rest (omega arith))

  pub read_key_ascending : (x : Expr) (ts : List Token) (word : Token) → ConditionalRead x ts → word.kind ≡ k.Ascending → KeyRead (record { value = x; descending = false }) (ts ++ word ∷ [])
  unfolding p.key peek
  read_key_ascending x ts word reads is rest stops =
      let above : tight word.kind ≡ 10 = ap tight is in
      ap (p.key line inner) (split_middle ts word [] rest)
      ∙ bind_step (inner level.Conditional) _ (ts ++ word ∷ rest) (word ∷ rest) x (reads (word ∷ rest) (omega arith)) ∙ after_sees k.Ascending _ _ word rest is

  pub read_key_descending : (x : Expr) (ts : List Token) (word : Token) → ConditionalRead x ts → word.kind ≡ k.Descending → KeyRead (record { value = x; descending = true }) (ts ++ word ∷ [])
  unfolding p.key peek
  read_key_descending x ts word reads is rest stops =
      let above : tight word.kind ≡ 10 = ap tight is in
      ap (p.key line inner) (split_middle ts word [] rest)
      ∙ bind_step (inner level.Conditional) _ (ts ++ word ∷ rest) (word ∷ rest) x (reads (word ∷ rest) (omega arith))
      ∙ after_skips k.Ascending _ _ (word ∷ rest) (begins_false k.Ascending word rest (λ e. cc)) ∙ after_sees k.Descending _ _ word rest is

  pub read_one_key : (x : SortKey Expr) (ts : List Token) → KeyRead x ts → KeysRead (x ∷ []) ts
  unfolding p.keys
  read_one_key x ts reads rest stops =
      (length rest, omega arith, bind_step (p.key line inner) (λ a tokens. p.more_keys line inner (length tokens) (a ∷ []) tokens) (ts ++ rest) rest x (reads rest stops))

  more_keys_step : (turns : ℕ) (ks : List (SortKey Expr)) (x : SortKey Expr) (comma : Token) (ys rest : List Token) → comma.kind ≡ k.Comma → 11 ≤ tight (peek rest) → KeyRead x ys
      → p.more_keys line inner (suc turns) ks (comma ∷ (ys ++ rest)) ≡ p.more_keys line inner turns (ks ++ x ∷ []) rest
  unfolding p.more_keys
  more_keys_step turns ks x comma ys rest is stops next =
      after_sees k.Comma _ _ comma (ys ++ rest) is ∙ bind_step (p.key line inner) (λ a. p.more_keys line inner turns (ks ++ a ∷ [])) (ys ++ rest) rest x (next rest stops)

  pub more_keys_end : (turns : ℕ) (ks : List (SortKey Expr)) (rest : List Token) → 12 ≤ tight (peek rest) → p.more_keys line inner turns ks rest ≡ Some (ks, rest)
  unfolding p.more_keys
  more_keys_end zero ks rest stops = refl
  more_keys_end (suc turns) ks rest stops = after_skips k.Comma _ _ rest (not_next k.Comma rest (omega arith))

  pub read_another_key : (ks : List (SortKey Expr)) (x : SortKey Expr) (xs ys : List Token) (comma : Token) → KeysRead ks xs → comma.kind ≡ k.Comma → KeyRead x ys
      → KeysRead (ks ++ x ∷ []) (xs ++ comma ∷ ys)
  unfolding peek
  read_another_key ks x xs ys comma before is next rest stops =
      let above : tight comma.kind ≡ 11 = ap tight is in
      let (turns, enough, reads) = before (comma ∷ (ys ++ rest)) (omega arith) in
      let (less, more, left) = turn turns comma ys rest enough in (
        less,
        left,
        ap (p.keys line inner) (split_middle xs comma ys rest) ∙ reads ∙ ap (λ n. p.more_keys line inner n ks (comma ∷ (ys ++ rest))) more
            ∙ more_keys_step less ks x comma ys rest is stops next,
      )
