-- The types by which lines are served, from what their statements' parts give.
use Rattle.std.proofs.Common.{◌≡◌, ◌∙◌, if◌then◌else◌, List, ℕ, Bool, true, false, Option, Some, None, Ok, Err, ap, refl, sym}
use Rattle.std.proofs.lemmas.Option.{none-some}
use Rattle.lq_value.specs.declared.ty.Ty.{Ty, out-Ty}
use Rattle.lq_language.specs.Types.{has_place, if_placed, when}
use Rattle.lq_grammar.specs.Reading.{Reading, IsNoSyntax, IsTooDeep, Nothing, Says, reading_of}
use Rattle.lq_grammar.specs.declared.syntax.Expr.{Expr}
use Rattle.lq_grammar.specs.declared.syntax.Statement.{Statement}
use Rattle.lq_grammar.specs.declared.syntax.Statement.TheVariants as statement
use Rattle.lq_machine.specs.Opening.{is_past_opening, opening_of}
use Rattle.lq_machine.specs.ServedTypes.{line_type, statement_type, type_read}
use Rattle.lq_machine.specs.States.{State}
use Rattle.lq_machine.specs.declared.session.Opened.{Opened}
use Rattle.lq_tree.specs.declared.tree.Tree.{Tree}
use Rattle.lq_run.specs.Statements.{FindsTree, tree_in}
use Rattle.lq_run.specs.declared.stop.Stop.{Stop}
use Rattle.lq_run.specs.declared.stop.Stop.TheVariants as stop
use Rattle.lq_session.specs.Lines.{OpensWithin, RefusesLine, word_of}
use Rattle.lq_session.specs.ServedTypes.{ServesLine}
use Rattle.lq_session.proofs.VariableLemmas.{no_type, type_of}

-- ---- statements

-- a statement other than `run` serves nothing
pub serves_only_runs : (s : State) (x : Statement) → ((e : Expr) → x ≡ statement.Run e → ⊥) → statement_type s x ≡ None
serves_only_runs s (statement.Run e) other = absurd (other e refl)
serves_only_runs s (statement.Define name e) other = refl
serves_only_runs s (statement.Assign name e) other = refl
serves_only_runs s (statement.As name) other = refl
serves_only_runs s (statement.Insert name cells) other = refl
serves_only_runs s (statement.Delete name row e) other = refl

-- none is served of what opens too much, nor of a statement that serves none
within_none : (past : Bool) (t : Option Ty) → t ≡ None → None ≡ (if past then None else t)
within_none true t is = refl
within_none false t is = sym is

module _ (s : State) (line : List ℕ) where
  as_read : (r : Reading Statement) → reading_of line ≡ r → type_read s (opening_of s.definitions line) r ≡ line_type s line
  unfolding line_type
  as_read r is = ap (λ (x : Reading Statement). type_read s (opening_of s.definitions line) x) (sym is)

  pub says_nothing : reading_of line ≡ Nothing → None ≡ line_type s line
  says_nothing is = as_read Nothing is

  unserved_by : (r : Reading Statement) (word : List ℕ) → word_of r ≡ Some word → None ≡ type_read s (opening_of s.definitions line) r
  unserved_by Nothing word is = refl
  unserved_by (Says x) word is = absurd (none-some word is)
  unserved_by IsNoSyntax word is = refl
  unserved_by IsTooDeep word is = refl

  -- a line that says no statement
  pub unread : (why : Stop) → RefusesLine line why → ServesLine s line (Err why)
  unread (stop.Answer reply) refuses = unserved_by (reading_of line) refuses.0 refuses.1 ∙ as_read (reading_of line) refl
  unread stop.Memory refuses = tt

  module _ (x : Statement) (says : reading_of line ≡ Says x) where
    -- a statement that serves nothing
    pub serves_none : statement_type s x ≡ None → None ≡ line_type s line
    serves_none is = within_none (is_past_opening (opening_of s.definitions line)) (statement_type s x) is ∙ as_read (Says x) says

    -- or opens too much
    pub past : (why : Stop) → OpensWithin (opening_of s.definitions line) (Err why) → ServesLine s line (Err why)
    past (stop.Answer reply) opens =
        ap (λ (b : Bool). if b then None else statement_type s x) (sym opens.0) ∙ as_read (Says x) says
    past stop.Memory opens = tt

    module _ (opened : Opened) (opens : OpensWithin (opening_of s.definitions line) (Ok opened)) where
      pub serves : statement_type s x ≡ line_type s line
      serves =
          ap (λ (b : Bool). if b then None else statement_type s x) (sym (ap is_past_opening (sym opens.0) ∙ opens.1)) ∙ as_read (Says x) says

  module _ (e : Expr) (says : reading_of line ≡ Says (statement.Run e)) (opened : Opened) (opens : OpensWithin (opening_of s.definitions line) (Ok opened)) where
    -- an expression without a tree is served by no type
    pub unserved : (why : Stop) → FindsTree (tree_in s e) (Err why) → ServesLine s line (Err why)
    unserved (stop.Answer reply) refuses = sym (ap if_placed (no_type s e refuses.0)) ∙ serves (statement.Run e) says opened opens
    unserved stop.Memory refuses = tt

    -- and another by that of its tree, if it has a place
    pub served_of : (tree : Tree) (t : Ty) (found : Option Ty) → tree_in s e ≡ Some tree → t ≡ tree.ty → found ≡ when (has_place (out-Ty t)) (Some t)
        → found ≡ line_type s line
    served_of tree t found is same typed =
        typed ∙ ap (λ (u : Ty). when (has_place (out-Ty u)) (Some u)) same ∙ sym (ap if_placed (type_of s e tree is)) ∙ serves (statement.Run e) says opened opens
