-- «Stream»: what an enumeration gives up to its end or its first fault, and how one step follows another.
use Rattle.std.specs.Prelude.{◌∷◌, ◌++◌, List, [], Bool, Result, Ok, Err, filter, if◌then◌else◌, map, not}
use Rattle.lq_value.specs.declared.value.End.{End}
use Rattle.lq_value.specs.declared.value.End.TheVariants as end
use Rattle.lq_value.specs.declared.value.Fault.{Fault}

-- items and an ending
abbrev pub Stream : Type 0 → Type 0
Stream A = List A × End

-- the first stream, and the second after it where the first comes to its end
abbrev pub then_ending : {A : Type 0} → List A → End → Stream A → Stream A
then_ending xs end.Done rest = (xs ++ rest.0, rest.1)
then_ending xs (end.Fault f) rest = (xs, end.Fault f)

abbrev pub then_stream : {A : Type 0} → Stream A → Stream A → Stream A
then_stream first rest = then_ending first.0 first.1 rest

-- for each item its stream in turn; the first fault met ends it
abbrev pub each : {A B : Type 0} → (A → Stream B) → List A → End → Stream B
each f [] e = ([], e)
each f (x ∷ xs) e = then_stream (f x) (each f xs e)

-- one item, or no item and a fault
abbrev pub one : {A : Type 0} → Result A Fault → Stream A
one (Ok x) = (x ∷ [], end.Done)
one (Err f) = ([], end.Fault f)

-- an item that is kept where its condition is true; a condition that faults ends the stream
abbrev pub item_where : {A : Type 0} → Result Bool Fault → A → Stream A
item_where (Ok b) x = if b then (x ∷ [], end.Done) else ([], end.Done)
item_where (Err f) x = ([], end.Fault f)

-- Enumerable.Where and Enumerable.Select
abbrev pub where_by : {A : Type 0} → (A → Result Bool Fault) → List A → End → Stream A
where_by condition = each (λ x. item_where (condition x) x)

abbrev pub select_by : {A B : Type 0} → (A → Result B Fault) → List A → End → Stream B
select_by f = each (λ x. one (f x))

-- what comes of each value of a stream
abbrev pub select_each : {B V : Type 0} → (V → Result B Fault) → Stream V → Stream B
select_each f vs = each (λ v. one (f v)) vs.0 vs.1

-- Enumerable.SelectMany: for each item each value of its stream in turn, which is read again for each item
abbrev pub expand_by : {A B V : Type 0} → (A → Stream V) → (A → V → Result B Fault) → List A → End → Stream B
expand_by stream_of result = each (λ x. select_each (result x) (stream_of x))

-- what is read whole before anything comes of it: where it ends in a fault, there is nothing but that fault
abbrev pub whole : {A B : Type 0} → List A → End → (List A → Stream B) → Stream B
whole xs end.Done next = next xs
whole xs (end.Fault f) next = ([], end.Fault f)

abbrev pub on_value : {A B : Type 0} → Result A Fault → (A → Stream B) → Stream B
on_value (Ok x) next = next x
on_value (Err f) next = ([], end.Fault f)

-- two results, the first of which is met first
abbrev pub both : {A B : Type 0} → Result A Fault → Result B Fault → Result (A × B) Fault
both (Ok x) (Ok y) = Ok (x, y)
both (Ok x) (Err f) = Err f
both (Err f) y = Err f

-- items, each with its key, which is met before the next item
abbrev pub with_keys : {V K : Type 0} → (V → Result K Fault) → Stream V → Stream (K × V)
with_keys key vs = select_each (λ v. both (key v) (Ok v)) vs

-- Enumerable.Join and GroupJoin: the inner items and their keys are read whole first; then, for each item, its key and what it matches
abbrev pub join_by : {A B K Q V : Type 0} → Stream Q → (A → Result K Fault) → (K → List Q → List V) → (A → V → Result B Fault) → List A → End → Stream B
join_by inner key matches result xs e = whole inner.0 inner.1 (λ qs. each (λ x. on_value (key x) (λ k. select_each (result x) (matches k qs, end.Done))) xs e)

-- the keys in order of their first appearance
abbrev pub first_keys : {K : Type 0} → (K → K → Bool) → List K → List K
first_keys same [] = []
first_keys same (k ∷ ks) = k ∷ filter (λ l. not (same k l)) (first_keys same ks)

-- the elements of a key
abbrev pub elements_of : {K V : Type 0} → (K → K → Bool) → K → List (K × V) → List V
elements_of same k qs = map (λ q. q.1) (filter (λ q. same k q.0) qs)

abbrev pub groups_of : {K V : Type 0} → (K → K → Bool) → List (K × V) → List (K × List V)
groups_of same qs = map (λ k. (k, elements_of same k qs)) (first_keys same (map (λ q. q.0) qs))

-- Enumerable.GroupBy: for each item its key, then its element; then the groups
abbrev pub group_by : {A B K V : Type 0} → (K → K → Bool) → (A → Result K Fault) → (A → Result V Fault) → (K × List V → B) → List A → End → Stream B
group_by same key element result xs e =
    let keyed = each (λ x. one (both (key x) (element x))) xs e in
    whole keyed.0 keyed.1 (λ qs. (map result (groups_of same qs), end.Done))
