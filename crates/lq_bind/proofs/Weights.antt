-- How much is known of a session: what its named queries weigh when they are translated, so that what is bound in the place of one weighs less
-- than all names.
use Rattle.std.proofs.Common.{◌≡◌, ◌≤◌, ◌<◌, ◌∷◌, ◌+◌, ◌*◌, List, [], ℕ, zero, suc, take, slice_get, Option, Some, None, arith, option_and_then, option_map, ap, refl, sym}
use Rattle.std.proofs.lemmas.Option.{none-some, same_Some, some_pair_parts}
use Rattle.lq_value.specs.Tables.{first_named}
use Rattle.lq_language.specs.declared.calls.Term.{size-Term}
use Rattle.lq_machine.specs.declared.session.Defined.{Defined}
use Rattle.lq_machine.specs.declared.session.Defined.TheVariants as of
use Rattle.lq_machine.specs.declared.session.Definition.{Definition}
use Rattle.lq_translate.specs.Translated.{translated}
use Rattle.lq_bind.specs.Bound.{defined_before}

abbrev pub weight_of : Defined → ℕ
weight_of (of.Variable t s) = 0
weight_of (of.Query e opened) = 32 * size-Term (translated e)

pub weight : List Definition → ℕ
weight [] = 0
weight (d ∷ ds) = weight_of d.defined + weight ds

-- a definition and those before it weigh no more than all
weighs : (ds : List Definition) (i : ℕ) (d : Definition) → Some d ≡ slice_get ds i → weight_of d.defined + weight (take i ds) ≤ weight ds
unfolding weight
weighs [] i d e = absurd (none-some d (sym e))
weighs (x ∷ ds) zero d e = let same : weight_of d.defined ≡ weight_of x.defined = ap (λ y. weight_of y.defined) (same_Some d x e) in omega (arith, same)
weighs (x ∷ ds) (suc i) d e = let less : weight_of d.defined + weight (take i ds) ≤ weight ds = weighs ds i d e in omega (arith, less)

-- what a name was defined as is bound before what is bound where it is known
pub opens_less : (name : List ℕ) (ds earlier : List Definition) (d : Definition)
    → ◌≡◌ {A = Option (List Definition × Definition)} (Some (earlier, d)) (defined_before name ds)
    → weight_of d.defined + 6 + weight earlier < 8 + weight ds
opens_less name ds earlier d e = at_number (first_named (λ d. d.name) name ds) e where
  at_definition : (i : ℕ) (o : Option Definition) → o ≡ slice_get ds i → ◌≡◌ {A = Option (List Definition × Definition)} (Some (earlier, d)) (option_map (λ d. (take i ds, d)) o)
      → weight_of d.defined + 6 + weight earlier < 8 + weight ds
  at_definition i None is e = absurd (none-some {A = List Definition × Definition} (earlier, d) (sym e))
  at_definition i (Some x) is e =
      let same = some_pair_parts earlier (take i ds) d x e in
      let less : weight_of x.defined + weight (take i ds) ≤ weight ds = weighs ds i x is in
      rw (same.0, same.1) omega (arith, less)

  at_number : (o : Option ℕ)
      → ◌≡◌ {A = Option (List Definition × Definition)} (Some (earlier, d)) (option_and_then (λ i. option_map (λ d. (take i ds, d)) (slice_get ds i)) o)
      → weight_of d.defined + 6 + weight earlier < 8 + weight ds
  at_number None e = absurd (none-some {A = List Definition × Definition} (earlier, d) (sym e))
  at_number (Some i) e = at_definition i (slice_get ds i) refl e

pub ruleset weights = (opens_less)
