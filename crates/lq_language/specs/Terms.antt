-- Expressions in which each query is the calls that it is translated to: their types, and what they mean.
use Rattle.std.specs.Prelude.{Option, Ok, option_map}
use Rattle.lq_value.specs.declared.ty.Ty.{Ty}
use Rattle.lq_value.specs.declared.ty.Ty.TheVariants as ty
use Rattle.lq_language.specs.Worlds.{Meaning, World}
use Rattle.lq_language.specs.OperandMeaning.{sequence}
use Rattle.lq_language.specs.Operators.{call_items, call_meaning}
use Rattle.lq_language.specs.Names.{Names}
use Rattle.lq_language.specs.Meaning.{node_meaning}
use Rattle.lq_language.specs.Typing.{node_type}
use Rattle.lq_language.specs.declared.calls.Term.{Term, fold-Term, para-Term}
use Rattle.lq_language.specs.declared.calls.Term.TheOpen.{Term-F}

abbrev pub term_step : Term-F (Names → Option Ty) → Names → Option Ty
term_step (Term-F.Node n) names = node_type n names
term_step (Term-F.Call c) names = option_map ty.Seq (call_items (λ x. x) c names)

-- the type of a term: calls give a sequence of their items
unfoldable pub term_type : Term → Names → Option Ty
term_type = fold-Term (Names → Option Ty) term_step

-- a term, and what it means
abbrev pub MeantTerm : Type 0 → Type 0
MeantTerm R = Term × Meaning R

module _ {R : Type 0} (world : World R) where
  abbrev pub term_meaning_step : Term-F (MeantTerm R) → Meaning R
  term_meaning_step (Term-F.Node n) scope = node_meaning world term_type n scope
  term_meaning_step (Term-F.Call c) scope = Ok (sequence (call_meaning world (λ x. term_type x.0) (λ x. x.1) c scope))

  -- the value of a term, or its first fault
  unfoldable pub term_meaning : Term → Meaning R
  term_meaning = para-Term (Meaning R) term_meaning_step
