-- The texts of data, as they are put together.
use Rattle.std.proofs.Common.{◌≡◌, ◌∷◌, ◌++◌, ◌||◌, List, [], ℕ, ℤ, pos, negsuc, Bool, true, false, ap, ◌∙◌, append-nil, append_assoc, codes, drop, refl, sym}
use Rattle.std.specs.Fmt.{signed_decimal}
use Rattle.json.specs.Print.{print, print_from, quoted}
use Rattle.json.specs.Token.{key, string as string_token}
use Rattle.serde_json.specs.Data.{Data, Members, array, member, no_members, object, put, string}
use Rattle.serde_json.specs.Find.{of_integer}
use Rattle.serde_json.specs.View.{items_of}
use Rattle.serde_json.specs.Written.{comma_if, compact_text, items_text, members_text, number_text}
use Rattle.serde_json.proofs.OnLiterals.{serde_json_on_literals}
use Rattle.serde_json.proofs.Texts.{print-outline}
use Rattle.lq_value.specs.declared.value.End.TheVariants as end
use Rattle.lq_value.specs.declared.value.Fault.{Fault}
use Rattle.lq_value.specs.declared.value.Fault.TheVariants as fault
use Rattle.lq_machine.specs.Served.{group_members, line_of, stream_members}
use Rattle.lq_json.specs.Items.{fault_front}
use Rattle.lq_json.specs.Texts.{front, has_any, items_front, texts}

-- an integer's text
pub integer_text : (n : ℤ) → number_text (of_integer n) ≡ signed_decimal n
integer_text (pos n) = refl
integer_text (negsuc n) = refl

-- what the library writes of a text, and of a member's name
pub print_string : (s : List ℕ) → print (string_token s ∷ []) ≡ quoted s
print_string s = print-outline (string s)

pub print_key : (s : List ℕ) → print (key s ∷ []) ≡ quoted s ++ 58 ∷ []
unfolding print_from
print_key s = append-nil (quoted s ++ 58 ∷ [])

-- the text of a group
pub group_text : (k : Data) (ds : List Data)
    → codes "{\"Key\":" ++ (compact_text k ++ (codes ",\"items\":" ++ (compact_text (array (items_of ds)) ++ 125 ∷ []))) ≡ compact_text (object (group_members k ds))
unfolding serde_json_on_literals
group_text k ds = refl

-- a group that is written behind others, its key and items between fixed texts
pub group_put : (k : Data) (ds : List Data) (old t0 t1 t2 t3 new : List ℕ) → t0 ≡ old ++ codes "{\"Key\":" → t1 ≡ t0 ++ compact_text k → t2 ≡ t1 ++ codes ",\"items\":"
    → t3 ≡ t2 ++ compact_text (array (items_of ds)) → new ≡ t3 ++ 125 ∷ [] → new ≡ old ++ compact_text (object (group_members k ds))
group_put k ds old t0 t1 t2 t3 new h0 h1 h2 h3 h4 = rw (h4, h3, h2, h1, h0) (joined ∙ ap (λ t. old ++ t) (group_text k ds)) where
  joined : ((((old ++ codes "{\"Key\":") ++ compact_text k) ++ codes ",\"items\":") ++ compact_text (array (items_of ds))) ++ 125 ∷ []
      ≡ old ++ (codes "{\"Key\":" ++ (compact_text k ++ (codes ",\"items\":" ++ (compact_text (array (items_of ds)) ++ 125 ∷ []))))
  joined = simp append_assoc

-- a member that is written behind others: its front and its value
pub member_put : (later : Bool) (name : List ℕ) (d : Data) (ms : Members) (old middle new : List ℕ) → middle ≡ old ++ front later name → new ≡ middle ++ compact_text d
    → new ++ members_text true ms ≡ old ++ members_text later (member name d ms)
member_put later name d ms old middle new fronted valued = rw (valued, fronted) joined where
  joined : ((old ++ (comma_if later ++ (quoted name ++ 58 ∷ []))) ++ compact_text d) ++ members_text true ms
      ≡ old ++ (comma_if later ++ (quoted name ++ 58 ∷ (compact_text d ++ members_text true ms)))
  joined =
      append_assoc (old ++ front later name) (compact_text d) (members_text true ms) ∙ append_assoc old (front later name) _
      ∙ ap (λ t. old ++ t) (append_assoc (comma_if later) (quoted name ++ 58 ∷ []) _)
      ∙ ap (λ t. old ++ (comma_if later ++ t)) (append_assoc (quoted name) (58 ∷ []) (compact_text d ++ members_text true ms))

-- the text of a reply with a value
pub value_text : (d : Data) → codes "{\"value\":" ++ (compact_text d ++ 125 ∷ []) ≡ compact_text (object (put (codes "value") d no_members))
unfolding serde_json_on_literals
value_text d = refl

-- items one after the other, and what ends them
items_as_texts : (later : Bool) (ds : List Data) → texts later ds ++ 93 ∷ [] ≡ items_text later (items_of ds)
items_as_texts later [] = refl
items_as_texts later (d ∷ ds) =
    append_assoc (comma_if later) (compact_text d ++ texts true ds) (93 ∷ []) ∙ ap (λ t. comma_if later ++ t) (append_assoc (compact_text d) (texts true ds) (93 ∷ []))
    ∙ ap (λ t. comma_if later ++ (compact_text d ++ t)) (items_as_texts true ds)

of_items : (t : List ℕ) (ds : List Data) → t ≡ items_text false (items_of ds) → items_front ++ (t ++ 125 ∷ []) ≡ compact_text (object (stream_members ds end.Done))
unfolding serde_json_on_literals
of_items t ds is = ap (λ u. items_front ++ (u ++ 125 ∷ [])) is

-- the text of a reply of items that ends well
pub whole : (ds : List Data) → (items_front ++ texts false ds) ++ codes "]}" ≡ compact_text (object (stream_members ds end.Done))
whole ds =
    append_assoc items_front (texts false ds) (codes "]}") ∙ ap (λ t. items_front ++ t) (sym (append_assoc (texts false ds) (93 ∷ []) (125 ∷ [])))
    ∙ of_items (texts false ds ++ 93 ∷ []) ds (items_as_texts false ds)

-- one item more behind others
pub texts_more : (later : Bool) (ds : List Data) (d : Data) → texts later ds ++ (comma_if (later || has_any ds) ++ compact_text d) ≡ texts later (ds ++ d ∷ [])
texts_more true [] d = ap (λ t. 44 ∷ t) (sym (append-nil (compact_text d)))
texts_more false [] d = sym (append-nil (compact_text d))
texts_more later (e ∷ ds) d =
    append_assoc (comma_if later) (compact_text e ++ texts true ds) _ ∙ ap (λ t. comma_if later ++ t) (append_assoc (compact_text e) (texts true ds) _)
    ∙ ap (λ b. comma_if later ++ (compact_text e ++ (texts true ds ++ (comma_if b ++ compact_text d)))) (any_more later)
    ∙ ap (λ t. comma_if later ++ (compact_text e ++ t)) (texts_more true ds d) where
      any_more : (b : Bool) → (b || true) ≡ true
      any_more true = refl
      any_more false = refl

-- the line of a reply that ends in a fault, from the text of the one that ends well
pub faulted_line : (f : Fault) (ds : List Data)
    → (fault_front f ++ drop 1 (compact_text (object (stream_members ds end.Done)))) ++ 10 ∷ [] ≡ line_of (object (stream_members ds (end.Fault f)))
unfolding serde_json_on_literals
faulted_line fault.DivideByZero ds = refl
faulted_line fault.Overflow ds = refl
faulted_line fault.NullReference ds = refl
faulted_line fault.InvalidOperation ds = refl
faulted_line fault.ArgumentOutOfRange ds = refl
