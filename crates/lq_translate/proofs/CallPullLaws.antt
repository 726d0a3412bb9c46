-- What calls mean, and their types, is a matter of what the expressions in them have and mean: they may be replaced before or after.
use Rattle.std.proofs.Common.{◌≡◌, ◌∷◌, List, [], map, ℕ, Option, Some, None, ap, refl, option_and_then}
use Rattle.lq_value.specs.declared.ty.Ty.{Ty}
use Rattle.lq_value.specs.declared.value.Value.{Value}
use Rattle.lq_language.specs.ClauseTyping.{if_within, source_type, when}
use Rattle.lq_language.specs.Worlds.{Meaning, Scope, World, names_at, or_null}
use Rattle.lq_language.specs.OperandMeaning.{stream_of}
use Rattle.lq_language.specs.ClauseMeaning.{item_type_at, sort_key_at}
use Rattle.lq_language.specs.Operators.{Pattern, One, bind, call_items, call_meaning, operator_meaning, operators_items, operators_meaning, operators_type, operators_type_at, parts_items, parts_meaning, pattern_after, pattern_behind, sole_pattern}
use Rattle.lq_language.specs.Stream.{Stream}
use Rattle.lq_language.specs.Names.{Names}
use Rattle.lq_language.specs.declared.calls.Call.{Call}
use Rattle.lq_language.specs.declared.calls.Operator.{Operator}
use Rattle.lq_language.specs.declared.calls.Operator.TheVariants as operator
use Rattle.lq_language.specs.declared.calls.Paired.TheVariants as paired
use Rattle.lq_language.specs.declared.calls.Part.{Part}
use Rattle.lq_language.proofs.QueryPullLaws.{keys_typed}
use Rattle.lq_language.proofs.StreamLaws.{order_keys}
use Rattle.lq_translate.specs.Maps.{map_call, map_key, map_operator, map_part}

-- ---- types

module _ {X Y : Type 0} (f : X → Y) (typed : Y → Names → Option Ty) where
  -- the type of what an expression is replaced by
  abbrev before : X → Names → Option Ty
  before x = typed (f x)

  pub operator_typed : (outer : Names) (op : Operator X) (p : Pattern) → pattern_after typed outer (map_operator f op) p ≡ pattern_after before outer op p
  operator_typed outer (operator.Where x) p = refl
  operator_typed outer (operator.Select x) p = refl
  operator_typed outer (operator.Let n x) p = refl
  operator_typed outer (operator.SelectMany n x paired.Pair) p = refl
  operator_typed outer (operator.SelectMany n x (paired.Value y)) p = refl
  operator_typed outer (operator.Join j paired.Pair) p = refl
  operator_typed outer (operator.Join j (paired.Value y)) p = refl
  operator_typed outer (operator.OrderBy ks) p = ap (λ b. when b (Some p)) (keys_typed f typed ks _)
  operator_typed outer (operator.GroupBy key None) p = refl
  operator_typed outer (operator.GroupBy key (Some x)) p = refl

  operators_typed : (outer : Names) (ops : List (Operator X)) (p : Pattern) → operators_type typed outer (map (map_operator f) ops) p ≡ operators_type before outer ops p
  operators_typed outer [] p = refl
  operators_typed outer (op ∷ ops) p = λ i. option_and_then (λ q. operators_typed outer ops q i) (operator_typed outer op p i)

  pub items_typed : (outer : Names) (ops : List (Operator X)) (p : Pattern) → operators_items typed outer (map (map_operator f) ops) p ≡ operators_items before outer ops p
  items_typed outer ops p = ap (if_within typed) (operators_typed outer ops p)

  parts_typed : (outer : Names) (rest : List (Part X)) (t : Ty) → parts_items typed outer (map (map_part f) rest) t ≡ parts_items before outer rest t
  parts_typed outer [] t = refl
  parts_typed outer (part ∷ rest) t =
      λ i. option_and_then (λ u. parts_typed outer rest u i) (option_and_then (λ p. items_typed outer part.operators p i) (sole_pattern typed outer part.name t))

  pub call_typed : (c : Call X) (outer : Names) → call_items typed (map_call f c) outer ≡ call_items before c outer
  unfolding call_items
  call_typed c outer =
      λ i. option_and_then (λ t. option_and_then (λ u. parts_typed outer c.rest u i) (option_and_then (λ p. items_typed outer c.operators p i) (sole_pattern typed outer c.name t)))
      (source_type typed (f c.source) outer)

-- ---- meaning

module _ {R X Y : Type 0} (f : X → Y) (world : World R) (typed : Y → Names → Option Ty) (meant : Y → Meaning R) where
  abbrev typed_before : X → Names → Option Ty
  typed_before x = typed (f x)

  -- what an expression's replacement means
  abbrev meant_before : X → Meaning R
  meant_before x = meant (f x)

  operator_meant : (outer : Scope R) (op : Operator X) (p : Pattern) (items : Stream (Value R))
      → operator_meaning world typed meant outer (map_operator f op) p items ≡ operator_meaning world typed_before meant_before outer op p items
  operator_meant outer (operator.Where x) p items = refl
  operator_meant outer (operator.Select x) p items = refl
  operator_meant outer (operator.Let n x) p items = refl
  operator_meant outer (operator.SelectMany n x paired.Pair) p items = refl
  operator_meant outer (operator.SelectMany n x (paired.Value y)) p items = refl
  operator_meant outer (operator.Join j paired.Pair) p items = refl
  operator_meant outer (operator.Join j (paired.Value y)) p items = refl
  operator_meant outer (operator.OrderBy ks) p items =
      order_keys (map_key f) (λ k. k.descending) (λ k v. sort_key_at world typed meant k (bind p outer v)) ks items.0 items.1
  operator_meant outer (operator.GroupBy key None) p items = refl
  operator_meant outer (operator.GroupBy key (Some x)) p items = refl

  behind_meant : (outer : Scope R) (op : Operator X) (p : Pattern)
      → pattern_behind world typed meant outer (map_operator f op) p ≡ pattern_behind world typed_before meant_before outer op p
  behind_meant outer (operator.Where x) p = refl
  behind_meant outer (operator.Select x) p = refl
  behind_meant outer (operator.Let n x) p = refl
  behind_meant outer (operator.SelectMany n x paired.Pair) p = refl
  behind_meant outer (operator.SelectMany n x (paired.Value y)) p = refl
  behind_meant outer (operator.Join j paired.Pair) p = refl
  behind_meant outer (operator.Join j (paired.Value y)) p = refl
  behind_meant outer (operator.OrderBy ks) p = refl
  behind_meant outer (operator.GroupBy key None) p = refl
  behind_meant outer (operator.GroupBy key (Some x)) p = refl

  operators_meant : (outer : Scope R) (ops : List (Operator X)) (p : Pattern) (items : Stream (Value R))
      → operators_meaning world typed meant outer (map (map_operator f) ops) p items ≡ operators_meaning world typed_before meant_before outer ops p items
  operators_meant outer [] p items = refl
  operators_meant outer (op ∷ ops) p items = λ i. operators_meant outer ops (behind_meant outer op p i) (operator_meant outer op p items i) i

  operators_type_meant : (outer : Scope R) (ops : List (Operator X)) (n : List ℕ) (t : Ty)
      → operators_type_at world typed meant outer (map (map_operator f) ops) n t ≡ operators_type_at world typed_before meant_before outer ops n t
  operators_type_meant outer ops n t = ap or_null (items_typed f typed (names_at world outer) ops (One n t))

  parts_meant : (outer : Scope R) (rest : List (Part X)) (t : Ty) (items : Stream (Value R))
      → parts_meaning world typed meant outer (map (map_part f) rest) t items ≡ parts_meaning world typed_before meant_before outer rest t items
  parts_meant outer [] t items = refl
  parts_meant outer (part ∷ rest) t items =
      λ i. parts_meant outer rest (operators_type_meant outer part.operators part.name t i) (operators_meant outer part.operators (One part.name t) items i) i

  pub call_meant : (c : Call X) (outer : Scope R) → call_meaning world typed meant (map_call f c) outer ≡ call_meaning world typed_before meant_before c outer
  unfolding call_meaning
  call_meant c outer =
      let t = item_type_at world typed meant (f c.source) outer in
      λ i. parts_meant outer c.rest (operators_type_meant outer c.operators c.name t i) (operators_meant outer c.operators (One c.name t) (stream_of world (meant (f c.source) outer)) i) i
