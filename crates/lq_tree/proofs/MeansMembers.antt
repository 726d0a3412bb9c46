-- Members by their numbers: what a column, a record's member, a group's key or a member of a scalar is, is what the name's meaning is.
use Rattle.std.proofs.Common.{◌≡◌, ◌∷◌, ◌+◌, if◌then◌else◌, List, [], map, ℕ, Bool, true, false, Option, Some, None, Result, Ok, Err, ap, ap₂, ◌∙◌, sym, refl, subst, bytes_eq, option_and_then, option_map}
use Rattle.std.specs.List.{position_from}
use Rattle.std.specs.Prelude.{is_some}
use Rattle.lq_value.specs.declared.scalar.Scalar.{Scalar}
use Rattle.lq_value.specs.declared.scalar.Scalar.TheVariants as scalar
use Rattle.lq_value.specs.declared.ty.Ty.{Ty, out-Ty}
use Rattle.lq_value.specs.declared.ty.Ty.TheOpen.{Ty-F}
use Rattle.lq_value.specs.declared.ty.Ty.TheVariants as ty
use Rattle.lq_value.specs.declared.ty.Ty.TheVariants.{outs-Bool, outs-Int, outs-Rec, outs-Row, outs-Group}
use Rattle.lq_value.specs.declared.value.Fault.{Fault}
use Rattle.lq_value.specs.declared.value.Fault.TheVariants as fault
use Rattle.lq_value.specs.declared.value.Value.{Value, out-Value}
use Rattle.lq_value.specs.declared.value.Value.TheOpen.{Value-F}
use Rattle.lq_value.specs.declared.value.Value.TheVariants.{outs-Group as outs-value-Group, outs-Rec as outs-value-Rec, outs-Row as outs-value-Row, outs-Scalar}
use Rattle.lq_language.specs.Worlds.{World}
use Rattle.lq_language.specs.OperandMeaning.{stream_of, as_value, cell_value, member_value, scalar_of}
use Rattle.lq_language.specs.ValuesOfTypes.{IsScalarOf}
use Rattle.lq_language.specs.Members.{member_named}
use Rattle.lq_language.specs.Operations.{of_member, of_one, on_ok}
use Rattle.lq_language.specs.Names.{column_type, type_of_column}
use Rattle.lq_language.specs.Meaning.{as_sequence, has_members, is_sequence_layer, settled, member_found, member_in, value_of_member}
use Rattle.lq_language.specs.MeaningLaws.{AreMembers, Fits, IsValueOf, no_member, one_member}
use Rattle.lq_language.specs.Typing.{member_of}
use Rattle.lq_language.specs.declared.operation.Op.{Op}
use Rattle.lq_language.specs.declared.operation.Op.TheVariants as op
use Rattle.lq_language.proofs.AlikeStreamLaws.{Agree, on_ok_agree}
use Rattle.lq_language.proofs.FindingLaws.{map_by}
use Rattle.lq_language.proofs.ScalarResultLaws.{Gives, given_of, has_value_given, length_given, value_given}
use Rattle.lq_language.proofs.TypedMethodLaws.{column_agrees, key_agrees, member_agrees, scalar_member_agrees, settled_agree}
use Rattle.lq_language.proofs.TypingLaws.{is_of_layer, type_with}
use Rattle.lq_language.proofs.ValueLaws.{RecordOrNull, RowOrNull, a_record, a_row, group_value, is_plain, no_members, no_record, no_row, plain_value, record_value, row_value}
use Rattle.lq_tree.specs.Binding.{member_layer, member_tree, settled_form, settled_tree, tree_of}
use Rattle.lq_tree.specs.FormMeaning.{Slots, cell_in, form_meaning, if_there, key_in, member_at, name_of_column}
use Rattle.lq_tree.specs.declared.tree.Form.{Form}
use Rattle.lq_tree.specs.declared.tree.Form.TheVariants as form
use Rattle.lq_tree.specs.declared.tree.Tree.{Tree}
use Rattle.lq_tree.proofs.FormSteps.{meaning_at}
use Rattle.lq_tree.proofs.MemberTrees.{Member, a_column, a_key, a_member, column_known, has_value, its_length, its_value, member_by}
use Rattle.lq_tree.proofs.TypeLaws.{first_position, first_with, get_at, map_if, member_first}

-- ---- positions

-- the first of one list is at the position of the first of another whose tests come out the same
positions_same : {A B : Type 0} (p : A → Bool) (q : B → Bool) (xs : List A) (ys : List B) → map p xs ≡ map q ys → (start : ℕ) → position_from p start xs
    ≡ position_from q start ys
positions_same p q [] [] same start = refl
positions_same p q (x ∷ xs) (y ∷ ys) same start =
    let here : p x ≡ q y = cc in
    let rest : map p xs ≡ map q ys = cc in
    ap₂ (λ (b : Bool) (o : Option ℕ). if b then Some start else o) here (positions_same p q xs ys rest (start + 1))
positions_same p q [] (y ∷ ys) same start = absurd cc
positions_same p q (x ∷ xs) [] same start = absurd cc

pub on_ok_twice : {A B C : Type 0} (o : Result A Fault) (f : A → Result B Fault) (g : B → Result C Fault) → on_ok (on_ok o f) g ≡ on_ok o (λ x. on_ok (f x) g)
on_ok_twice (Ok x) f g = refl
on_ok_twice (Err e) f g = refl

-- what is found by a test of names among members is found by the name
named_member : {A : Type 0} (m : List ℕ) (vs : List (List ℕ × A)) (found : List (List ℕ × A) → Option A) → found [] ≡ None
    → ((v : List ℕ × A) (ws : List (List ℕ × A)) → found (v ∷ ws) ≡ (if bytes_eq m v.0 then Some v.1 else found ws))
    → option_map (λ v. v.1) (first_with (λ v. bytes_eq m v.0) vs) ≡ found vs
named_member m [] found none more = sym none
named_member {A} m (v ∷ vs) found none more =
    map_if (λ w. w.1) (bytes_eq m v.0) v (first_with (λ w. bytes_eq m w.0) vs)
    ∙ ap (λ (o : Option A). if bytes_eq m v.0 then Some v.1 else o) (named_member m vs found none more) ∙ sym (more v vs)

module _ {R : Type 0} (world : World R) (slots : Slots R) where
  abbrev Val : Ty → Value R → Type 0
  Val = IsValueOf world

  abbrev mean : Form → Result (Value R) Fault
  mean f = form_meaning world f slots

  -- the member of this name of a value of a type
  abbrev named : List ℕ → Ty → Value R → Result (Value R) Fault
  named m t v = value_of_member world (Some t) m (out-Value R v)

  pub same_agree : (t : Ty) (x y : Result (Value R) Fault) {z : Result (Value R) Fault} → x ≡ y → Agree (Val t) y z → Agree (Val t) x z
  same_agree t x y same agree = (same ∙ agree.0, λ v is. agree.1 v (sym same ∙ is))

  abbrev Goal : List ℕ → Ty → Form → Tree → Type 0
  Goal m t f r = (n : Result (Value R) Fault) → Agree (Val t) (mean f) n → Agree (Val r.ty) (mean r.form) (on_ok n (named m t))

  -- a member whose form does the same to each value of the type
  by_step : (m : List ℕ) (t u : Ty) (f g : Form) (step : Value R → Result (Value R) Fault) → mean g ≡ on_ok (mean f) step
      → ((v : Value R) → Val t v → Agree (Val u) (step v) (named m t v)) → Goal m t f (tree_of u g)
  by_step m t u f g step is same n agree =
      subst (λ (o : Result (Value R) Fault). Agree (Val u) o (on_ok n (named m t))) (sym is) (on_ok_agree (Val t) (Val u) step (named m t) same
      (mean f) n agree)

  -- ---- rows

  pub column_step : (n c : ℕ) (m : List ℕ) (u : Ty) → name_of_column world.schemas n c ≡ Some m → column_type world.schemas n m ≡ Some u → (v : Value R)
      → Val (ty.Row n) v
      → Agree (Val u) (cell_in world n c (out-Value R v)) (named m (ty.Row n) v)
  column_step n c m u name typed v fits =
      same_agree u _ _ (by (row_value world (ty.Row n) n v (outs-Row n) fits)) (column_agrees world world.unknown world.unknown n m u typed v fits)
    where
      by : RowOrNull world n v → cell_in world n c (out-Value R v) ≡ named m (ty.Row n) v
      by (a_row row cells is) =
          ap (λ (w : Value R). cell_in world n c (out-Value R w)) is ∙ ap (cell_in world n c) (outs-value-Row row)
          ∙ ap (λ (o : Option (List ℕ)). cell_value world (option_and_then (world.cell row) o)) name
          ∙ sym (ap (λ (w : Value R). named m (ty.Row n) w) is ∙ ap (value_of_member world (Some (ty.Row n)) m) (outs-value-Row row))
      by (no_row is) =
          ap (λ (w : Value R). cell_in world n c (out-Value R w)) is ∙ ap (cell_in world n c) (outs-Scalar scalar.Null)
          ∙ sym (ap (λ (w : Value R). named m (ty.Row n) w) is ∙ ap (value_of_member world (Some (ty.Row n)) m) (outs-Scalar scalar.Null) ∙ null_row)
        where
          null_row : value_of_member world (Some (ty.Row n)) m (Value-F.Scalar scalar.Null) ≡ Err fault.NullReference
          null_row =
              ap (λ (b : Bool). if b then Err fault.NullReference else member_value world (Some (ty.Row n)) m (Value-F.Scalar scalar.Null))
              (ap has_members (outs-Row n))

  -- ---- records

  members_tested : (m : List ℕ) (ms : List (List ℕ × Ty)) (vs : List (List ℕ × Value R)) → Fits world (AreMembers ms vs)
      → map (λ (d : List ℕ × Ty). bytes_eq m d.0) ms ≡ map (λ (d : List ℕ × Value R). bytes_eq m d.0) vs
  members_tested m _ _ no_member = refl
  members_tested m _ _ (one_member n t v ms vs fit fits) = ap (λ bs. bytes_eq m n ∷ bs) (members_tested m ms vs fits)

  there_found : (o : Option (Value R)) → if_there world o ≡ member_found world o
  there_found None = refl
  there_found (Some v) = refl

  member_step : (ms : List (List ℕ × Ty)) (m : List ℕ) (place : ℕ) (u : Ty) → position_from (λ (d : List ℕ × Ty). bytes_eq m d.0) 0 ms ≡ Some place
      → member_of m ms ≡ Some u
      → (v : Value R) → Val (ty.Rec ms) v → Agree (Val u) (member_at world place (out-Value R v)) (named m (ty.Rec ms) v)
  member_step ms m place u position typed v fits =
      same_agree u _ _ (by (record_value world (ty.Rec ms) ms v (outs-Rec ms) fits)) (member_agrees world world.unknown world.unknown ms m u typed v fits)
    where
      by : RecordOrNull world ms v → member_at world place (out-Value R v) ≡ named m (ty.Rec ms) v
      by (a_record vs members is) =
          ap (λ (w : Value R). member_at world place (out-Value R w)) is ∙ ap (member_at world place) (outs-value-Rec vs)
          ∙ ap (λ (o : Option (List ℕ × Value R)). if_there world (option_map (λ d. d.1) o))
          (sym (ap (get_at vs) (sym (positions_same _ _ ms vs (members_tested m ms vs members) 0) ∙ position))
          ∙ first_position (λ d. bytes_eq m d.0) vs)
          ∙ there_found (option_map (λ d. d.1) (first_with (λ d. bytes_eq m d.0) vs)) ∙ ap (member_found world) (named_member m vs (member_in world m) refl
          (λ d ds. refl))
          ∙ sym (ap (λ (w : Value R). named m (ty.Rec ms) w) is ∙ ap (value_of_member world (Some (ty.Rec ms)) m) (outs-value-Rec vs))
      by (no_record is) =
          ap (λ (w : Value R). member_at world place (out-Value R w)) is ∙ ap (member_at world place) (outs-Scalar scalar.Null)
          ∙ sym (ap (λ (w : Value R). named m (ty.Rec ms) w) is ∙ ap (value_of_member world (Some (ty.Rec ms)) m) (outs-Scalar scalar.Null)
          ∙ ap (λ (b : Bool). if b then Err fault.NullReference else member_value world (Some (ty.Rec ms)) m (Value-F.Scalar scalar.Null))
          (ap has_members (outs-Rec ms)))

  -- ---- groups

  pub key_step : (m : List ℕ) (k t : Ty) (v : Value R) → Val (ty.Group k t) v → Agree (Val k) (key_in world (out-Value R v)) (named m (ty.Group k t) v)
  key_step m k t v fits =
      let found = group_value world (ty.Group k t) k t v (outs-Group k t) fits in
      same_agree k _ _
      (ap (λ (w : Value R). key_in world (out-Value R w)) found.2 ∙ ap (key_in world) (outs-value-Group found.0 found.1)
      ∙ sym (ap (λ (w : Value R). named m (ty.Group k t) w) found.2 ∙ ap (value_of_member world (Some (ty.Group k t)) m) (outs-value-Group found.0 found.1)))
      (key_agrees world world.unknown world.unknown k t m v fits)

  -- ---- members of scalars

  of_scalar : (t : Ty) (m : List ℕ) (s : Scalar) → is_plain (out-Ty t) ≡ true
      → value_of_member world (Some t) m (Value-F.Scalar s) ≡ as_value (of_member world.unknown (member_named m) s)
  of_scalar t m scalar.Null plain =
      let none = no_members (out-Ty t) plain in
      ap₂ (λ (b : Bool) (o : Option ℕ). if b then Err fault.NullReference else as_value (if is_some o then Err fault.NullReference else of_member
      world.unknown (member_named m) scalar.Null))
      none.0 none.1
  of_scalar t m (scalar.Int n) plain = refl
  of_scalar t m (scalar.Bool b) plain = refl
  of_scalar t m (scalar.Text x) plain = refl

  scalar_goal : (m : List ℕ) (t r : Ty) (k l : Ty-F Ty) (o : Op) (f : Form) → out-Ty t ≡ k → out-Ty r ≡ l → is_plain k ≡ true → member_named m ≡ Some o
      → ((x : Scalar) → IsScalarOf k x → Gives l (λ unknown. of_one unknown o x)) → Goal m t f (tree_of r (form.Unary o f))
  scalar_goal m t r k l o f t_is r_is plain named_is given =
      by_step m t r f (form.Unary o f) (λ v. on_ok (scalar_of world (out-Value R v)) (λ s. as_value (of_one world.unknown o s)))
      (meaning_at world slots _ (form.outs-Unary o f) ∙ on_ok_twice (mean f) (λ v. scalar_of world (out-Value R v)) (λ s. as_value (of_one world.unknown o s)))
      (λ v fits. same_agree r _ _ (same v fits)
      (scalar_member_agrees world world.unknown world.unknown t r m (ap is_plain t_is ∙ plain)
      (λ x x_fits. subst (λ (q : Option Op). Gives (out-Ty r) (λ unknown. of_member unknown q x)) (sym named_is)
      (given_of r l (λ unknown. of_one unknown o x) r_is (given x (subst (λ (u : Ty-F Ty). IsScalarOf u x) t_is x_fits)))) v fits))
    where
      same : (v : Value R) → Val t v → on_ok (scalar_of world (out-Value R v)) (λ s. as_value (of_one world.unknown o s)) ≡ named m t v
      same v fits =
          let found = plain_value world t v (ap is_plain t_is ∙ plain) fits in
          ap (λ (w : Value R). on_ok (scalar_of world (out-Value R w)) (λ s. as_value (of_one world.unknown o s))) found.1
          ∙ ap (λ (layer : Value-F R (Value R)). on_ok (scalar_of world layer) (λ s. as_value (of_one world.unknown o s))) (outs-Scalar found.0)
          ∙ sym (ap (named m t) found.1 ∙ ap (value_of_member world (Some t) m) (outs-Scalar found.0) ∙ of_scalar t m found.0 (ap is_plain t_is ∙ plain)
          ∙ ap (λ (q : Option Op). as_value (of_member world.unknown q found.0)) named_is)

  -- ---- any member

  member_goal : (m : List ℕ) (t : Ty) (layer : Ty-F Ty) (f : Form) (r : Tree) → out-Ty t ≡ layer → Member world.schemas m f layer r → Goal m t f r
  member_goal m t _ f _ is (a_column n c schema column there named at) =
      let known = column_known world.schemas m n c schema column there named at in
      subst (λ (u : Ty). Goal m u f (tree_of (type_of_column column.ty) (form.Column f n c))) (sym (is_of_layer t ∙ ap type_with is))
      (by_step m (ty.Row n) (type_of_column column.ty) f (form.Column f n c) (λ v. cell_in world n c (out-Value R v))
      (meaning_at world slots _ (form.outs-Column f n c)) (column_step n c m (type_of_column column.ty) known.0 known.1))
  member_goal m t _ f _ is (a_member ms place member position there) =
      subst (λ (u : Ty). Goal m u f (tree_of member.1 (form.Member f place))) (sym (is_of_layer t ∙ ap type_with is))
      (by_step m (ty.Rec ms) member.1 f (form.Member f place) (λ v. member_at world place (out-Value R v))
      (meaning_at world slots _ (form.outs-Member f place))
      (member_step ms m place member.1 position
      (sym (member_first m ms) ∙ ap (option_map (λ (d : List ℕ × Ty). d.1)) (sym (first_position (λ (d : List ℕ × Ty). bytes_eq m d.0) ms)
      ∙ ap (get_at ms) position ∙ there))))
  member_goal m t _ f _ is (a_key k u) =
      subst (λ (w : Ty). Goal m w f (tree_of k (form.Key f))) (sym (is_of_layer t ∙ ap type_with is))
      (by_step m (ty.Group k u) k f (form.Key f) (λ v. key_in world (out-Value R v)) (meaning_at world slots _ (form.outs-Key f)) (key_step m k u))
  member_goal m t _ f _ is (has_value named) =
      scalar_goal m t ty.Bool Ty-F.IntN Ty-F.Bool op.HasValue f is outs-Bool refl (ap member_named named) has_value_given
  member_goal m t _ f _ is (its_value named) = scalar_goal m t ty.Int Ty-F.IntN Ty-F.Int op.Value f is outs-Int refl (ap member_named named) value_given
  member_goal m t _ f _ is (its_length named) = scalar_goal m t ty.Int Ty-F.Str Ty-F.Int op.Length f is outs-Int refl (ap member_named named) length_given

  -- ---- what a sequence's type settles

  settled_means : (t : Ty) (f : Form) → mean (settled_form t f) ≡ settled world (Some t) (mean f)
  settled_means t f = by (is_sequence_layer (out-Ty t)) where
    by : (b : Bool) → mean (if b then form.Sequence f else f) ≡ (if b then as_sequence (stream_of world (mean f)) else mean f)
    by true = meaning_at world slots _ (form.outs-Sequence f)
    by false = refl

  pub settled_goal : (t : Ty) (o : Option Ty) (f : Form) (n : Result (Value R) Fault) → o ≡ Some t → Agree (Val t) (mean f) n
      → Agree (Val t) (mean (settled_form t f)) (settled world o n)
  settled_goal t o f n is agree =
      subst (λ (x : Result (Value R) Fault). Agree (Val t) x (settled world o n)) (ap (λ (q : Option Ty). settled world q (mean f)) is
      ∙ sym (settled_means t f))
      (settled_agree world world.unknown world.unknown t o is (mean f) n agree)

  -- a member, of what means this
  pub member_means : (m : List ℕ) (a r : Tree) (o : Option Ty) (n : Result (Value R) Fault) → member_tree world.schemas m a ≡ Some r → o ≡ Some r.ty
      → Agree (Val a.ty) (mean a.form) n
      → Agree (Val r.ty) (mean r.form) (settled world o (on_ok n (named m a.ty)))
  member_means m a r o n h is agree =
      map_by settled_tree (member_layer world.schemas m a.form (out-Ty a.ty)) r h
      (λ found there same. subst (λ (x : Tree). o ≡ Some x.ty → Agree (Val x.ty) (mean x.form) (settled world o (on_ok n (named m a.ty)))) same
      (λ o_is. settled_goal found.ty o found.form (on_ok n (named m a.ty)) o_is (member_goal m a.ty (out-Ty a.ty) a.form found refl (member_by world.schemas m a.form (out-Ty a.ty) found there) n agree)) is)
