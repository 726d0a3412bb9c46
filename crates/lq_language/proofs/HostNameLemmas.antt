-- The names of a host's predicates, which are listed one after another.
use Rattle.std.proofs.Common.{◌≡◌, ◌∷◌, ◌++◌, ◌+◌, ◌≤◌, List, [], ℕ, Option, Some, None, ap, ap₂, ◌∙◌, refl, sym, append-nil, append_assoc, drop, length, option_map, slice_get}
use Rattle.std.proofs.lemmas.List.{drop_all, drop_more}
use Rattle.std.proofs.lemmas.Option.{get_or_from_slice_get, none-some, same_Some, slice_get_within}
use Rattle.lq_host.specs.Hosts.{name_of}
use Rattle.lq_host.specs.Predicates.{Predicate, arity_of}
use Rattle.lq_language.specs.Worlds.{known_predicates}
use Rattle.lq_language.specs.declared.host_name.HostName.{HostName}

abbrev named : List ℕ → ℕ → HostName
named name arguments = record { name = name; arguments = arguments }

abbrev host_of : Predicate → HostName
host_of p = named p.name (arity_of p.domain)

-- the name of a predicate that is there comes before those of the predicates after it
pub next_named : (predicates : List Predicate) (number : ℕ) (name text : List ℕ) (arguments : ℕ) (names more : List HostName)
    → option_map name_of (slice_get predicates number) ≡ Some text → name ≡ text → option_map (λ p. arity_of p.domain) (slice_get predicates number) ≡ Some arguments
    → more ≡ names ++ named name arguments ∷ [] → names ++ known_predicates (drop number predicates) ≡ known_predicates predicates
    → more ++ known_predicates (drop (number + 1) predicates) ≡ known_predicates predicates
next_named predicates number name text arguments names more is_named same takes more_is goes = by (slice_get predicates number) refl is_named takes where
  rest : List HostName
  rest = known_predicates (drop (number + 1) predicates)

  by : (found : Option Predicate) → slice_get predicates number ≡ found → option_map name_of found ≡ Some text → option_map (λ p. arity_of p.domain) found ≡ Some arguments
      → more ++ rest ≡ known_predicates predicates
  by None is e f = absurd (none-some text e)
  by (Some p) is e f =
      ap (λ (l : List HostName). l ++ rest) more_is
      ∙ append_assoc names (named name arguments ∷ []) rest
      ∙ ap (λ (h : HostName). names ++ h ∷ rest)
      (ap₂ named (same ∙ sym (same_Some (name_of p) text e)) (sym (same_Some (arity_of p.domain) arguments f)))
      ∙ ap (λ (q : Predicate). names ++ host_of q ∷ rest) (sym (get_or_from_slice_get predicates number p p is))
      ∙ ap (λ (l : List Predicate). names ++ known_predicates l) (sym (drop_more predicates number p (slice_get_within predicates number p is)))
      ∙ goes

-- and where none is left, the names are all of them
pub all_named : (predicates : List Predicate) (number : ℕ) (names : List HostName) → length predicates ≤ number
    → names ++ known_predicates (drop number predicates) ≡ known_predicates predicates → names ≡ known_predicates predicates
all_named predicates number names over goes =
    sym (append-nil names) ∙ ap (λ (l : List Predicate). names ++ known_predicates l) (sym (drop_all number predicates over)) ∙ goes
