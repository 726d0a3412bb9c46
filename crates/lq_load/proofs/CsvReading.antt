-- A read takes one record off those that a reader has left.
use Rattle.std.proofs.Common.{◌≡◌, ◌≤◌, ◌<◌, ◌+◌, ◌++◌, ℕ, Bool, true, false, ◌||◌, ◌==◌, List, [], ◌∷◌, length, Option, Some, None, zero, suc, refl, ap, arith, ◌∙◌, if◌then◌else◌, add-one, inl, Bor}
use Rattle.std.specs.Prelude.{IfSome, IfOk, OnOk, Result, Ok, Err, alloc_error}
use Rattle.std.specs.Option.{ok_or}
use Rattle.std.specs.Result.{result_ok}
use Rattle.std.specs.declared.alloc.AllocError.{AllocError}
use Rattle.csv.specs.declared.error.Error.{Error}
use Rattle.csv.specs.declared.reader.Trim.TheVariants as trim
use Rattle.std.proofs.lemmas.List.{length-append}
use Rattle.csv.specs.Machine.{Read, ends_at_end, fields_after, field_after, in_field, is_end, next_record, start_field, start_record, step}
use Rattle.csv.specs.Reading.{Reached, ReadRecord, Ready, default_config, records_from, records_next}
use Rattle.csv.specs.declared.parser.Action.{Action}
use Rattle.csv.specs.declared.parser.Action.TheVariants as act
use Rattle.csv.specs.declared.parser.State.{State}
use Rattle.csv.specs.declared.parser.State.TheVariants as st
use Rattle.csv.proofs.ReadFacts.{rows-end, rows-more}
use Rattle.lq_load.specs.CsvRecords.{BytesReader, IsReading, Reads, bytes_left, records_left, records_of_rest}

-- where a step ends a record, no record is open
abbrev StandsBetween : State × Action → Type 0
StandsBetween to = is_end to.1 ≡ true → ends_at_end to.0 ≡ false

between_either : (b : Bool) (x y : State × Action) → StandsBetween x → StandsBetween y → StandsBetween (if b then x else y)
between_either true x y f g = f
between_either false x y f g = g

between_line : (b : Bool) → ends_at_end (if b then st.AfterCr else st.StartRecord) ≡ false
between_line true = refl
between_line false = refl

in_field-between : (c : ℕ) → StandsBetween (in_field default_config c)
in_field-between c =
    between_either (c == 44) (st.StartField, act.EndField) (if (c == 13) || (c == 10) then ((if c == 13 then st.AfterCr else st.StartRecord), act.EndRecord) else (st.InField, act.Copy)) (λ e. cc)
    (between_either ((c == 13) || (c == 10)) ((if c == 13 then st.AfterCr else st.StartRecord), act.EndRecord) (st.InField, act.Copy) (λ e. between_line (c == 13)) (λ e. cc))

start_field-between : (c : ℕ) → StandsBetween (start_field default_config c)
start_field-between c = between_either (c == 34) (st.InQuoted, act.Skip) (in_field default_config c) (λ e. cc) (in_field-between c)

start_record-between : (c : ℕ) → StandsBetween (start_record default_config c)
start_record-between c =
    between_either ((c == 13) || (c == 10)) (st.StartRecord, act.Skip) (start_field default_config c) (λ e. cc) (start_field-between c)

step-between : (s : State) (c : ℕ) → StandsBetween (step default_config s c)
step-between st.StartRecord c = start_record-between c
step-between st.StartField c = start_field-between c
step-between st.InField c = in_field-between c
step-between st.InQuoted c = between_either (c == 34) (st.AfterQuote, act.Skip) (st.InQuoted, act.Copy) (λ e. cc) (λ e. cc)
step-between st.InEscape c = λ e. cc
step-between st.AfterQuote c = between_either (c == 34) (st.InQuoted, act.Copy) (in_field default_config c) (λ e. cc) (in_field-between c)
step-between st.InComment c = between_either (c == 10) (st.StartRecord, act.Skip) (st.InComment, act.Skip) (λ e. cc) (λ e. cc)
step-between st.AfterCr c = between_either (c == 10) (st.StartRecord, act.Skip) (start_record default_config c) (λ e. cc) (start_record-between c)

-- what is left after a record that was read: no more than these bytes, no open record, and a field or more were read
abbrev IsBehind : ℕ → Read → Type 0
IsBehind size read = (length read.2 ≤ size) × (ends_at_end read.1 ≡ false) × (0 < length read.0)

some_field : (a : Action) (fields : List (List ℕ)) (field : List ℕ) → is_end a ≡ true → 0 < length (fields_after a fields field)
some_field act.EndRecord fields field e = simp length-append (omega arith)
some_field act.Skip fields field e = cc
some_field act.Copy fields field e = cc
some_field act.EndField fields field e = cc

last_behind : (b : Bool) (fields : List (List ℕ)) (field : List ℕ) → IfSome (if b then Some (fields ++ (field ∷ []), st.StartRecord, []) else None) (IsBehind 0)
last_behind true fields field = (omega arith, refl, simp length-append (omega arith))
last_behind false fields field = tt

longer : (o : Option Read) (n : ℕ) → IfSome o (IsBehind n) → IfSome o (IsBehind (suc n))
longer None n h = tt
longer (Some read) n h = (omega arith, h.1, h.2)

-- a record takes a byte or more
behind : (s : State) (fields : List (List ℕ)) (field : List ℕ) (c : ℕ) (rest : List ℕ)
    → IfSome (next_record default_config s fields field (c ∷ rest)) (IsBehind (length rest))
unfolding next_record
behind s fields field c [] = by (is_end (step default_config s c).1) refl
  where
    by : (b : Bool) → is_end (step default_config s c).1 ≡ b
        → IfSome (if b then Some (fields_after (step default_config s c).1 fields field, (step default_config s c).0, [])
        else next_record default_config (step default_config s c).0 (fields_after (step default_config s c).1 fields field) (field_after (step default_config s c).1 c field) []) (IsBehind 0)
    by true e = (omega arith, step-between s c e, some_field (step default_config s c).1 fields field e)
    by false e = last_behind (ends_at_end (step default_config s c).0) (fields_after (step default_config s c).1 fields field) (field_after (step default_config s c).1 c field)
behind s fields field c (d ∷ rest) =
    by (is_end (step default_config s c).1) refl
    (longer _ (length rest) (behind (step default_config s c).0 (fields_after (step default_config s c).1 fields field) (field_after (step default_config s c).1 c field) d rest))
  where
    by : (b : Bool) → is_end (step default_config s c).1 ≡ b
        → IfSome (next_record default_config (step default_config s c).0 (fields_after (step default_config s c).1 fields field) (field_after (step default_config s c).1 c field) (d ∷ rest)) (IsBehind (suc (length rest)))
        → IfSome (if b then Some (fields_after (step default_config s c).1 fields field, (step default_config s c).0, d ∷ rest)
        else next_record default_config (step default_config s c).0 (fields_after (step default_config s c).1 fields field) (field_after (step default_config s c).1 c field) (d ∷ rest)) (IsBehind (suc (length rest)))
    by true e more = (omega arith, step-between s c e, some_field (step default_config s c).1 fields field e)
    by false e more = more

-- the same, with fewer bytes left than there were
abbrev IsShorter : ℕ → Read → Type 0
IsShorter size read = (length read.2 < size) × (ends_at_end read.1 ≡ false) × (0 < length read.0)

below : (o : Option Read) (n : ℕ) → IfSome o (IsBehind n) → IfSome o (IsShorter (suc n))
below None n h = tt
below (Some read) n h = (omega arith, h.1, h.2)

shorter : (s : State) (bytes : List ℕ) → ends_at_end s ≡ false → IfSome (next_record default_config s [] [] bytes) (IsShorter (length bytes))
unfolding next_record
shorter s [] e = rw e tt
shorter s (c ∷ rest) e = below _ (length rest) (behind s [] [] c rest)

-- more turns than bytes give the same records
same_turns : (n m : ℕ) (s : State) (bytes : List ℕ) → ends_at_end s ≡ false → length bytes < n → length bytes < m
    → records_from default_config n s bytes ≡ records_from default_config m s bytes
unfolding records_from
same_turns zero m s bytes e f g = absurd (omega arith)
same_turns (suc n) zero s bytes e f g = absurd (omega arith)
same_turns (suc n) (suc m) s bytes e f g = by (next_record default_config s [] [] bytes) (shorter s bytes e) (λ read h. same_turns n m read.1 read.2 h.1 (omega arith) (omega arith))
  where
    by : (o : Option Read) → IfSome o (IsShorter (length bytes))
        → ((read : Read) → IsShorter (length bytes) read → records_from default_config n read.1 read.2 ≡ records_from default_config m read.1 read.2)
        → records_next (records_from default_config n) o ≡ records_next (records_from default_config m) o
    by None h more = refl
    by (Some read) h more = ap (λ (rest : List (List (List ℕ))). read.0 ∷ rest) (more read h)

-- a reader's records are the next one and those after it
next_of_rest : (s : State) (bytes : List ℕ) (read : Read) → ends_at_end s ≡ false → next_record default_config s [] [] bytes ≡ Some read
    → (records_of_rest s (Some bytes) ≡ read.0 ∷ records_of_rest read.1 (Some read.2)) × IsShorter (length bytes) read
unfolding records_from
next_of_rest s bytes read e is =
    let h : IsShorter (length bytes) read = rw is at (shorter s bytes e) in
    (rw (add-one (length bytes), is) (ap (λ (rest : List (List (List ℕ))). read.0 ∷ rest) (same_turns (length bytes) (length read.2 + 1) read.1 read.2 h.1 h.0 (omega arith))), h)

none_of_rest : (s : State) (bytes : List ℕ) → next_record default_config s [] [] bytes ≡ None → records_of_rest s (Some bytes) ≡ []
unfolding records_from
none_of_rest s bytes is = rw (add-one (length bytes), is) refl

-- a read of a record, with what it left by name
read_by_name : (old new : BytesReader) (fields : List (List ℕ)) (bytes left : List ℕ) (read : Read) → ends_at_end old.state ≡ false → bytes_left old ≡ Some bytes → bytes_left new ≡ Some left
    → next_record default_config old.state [] [] bytes ≡ Some read → fields ≡ read.0 → read.1 ≡ new.state → read.2 ≡ left
    → (records_left old ≡ fields ∷ records_left new) × (ends_at_end new.state ≡ false) × (0 < length fields)
unfolding records_left
read_by_name old new fields bytes left read between was is next same state rest =
    let n = next_of_rest old.state bytes read between next in
    (rw (was, is, n.0, same, state, rest) refl, rw (← state) n.1.1, rw same n.1.2)

-- a read that gave a record
pub read_some : (old new : BytesReader) (fields : List (List ℕ)) → IsReading old → ReadRecord (λ source. Some source.now) old new true fields → new.first ≡ true
    → (records_left old ≡ fields ∷ records_left new) × IsReading new × (0 < length fields)
unfolding Reached
read_some old new fields h r first =
    let bytes = h.known.0 in
    let m = rows-more (λ (source : Bor (List ℕ)). Some source.now) old new fields default_config old.state bytes bytes [] h.config h.known.1 (refl, refl) r in
    let n = read_by_name old new fields bytes m.0 m.2.0 h.between h.known.1 m.1 m.2.1 m.2.2 m.2.3.0 m.2.3.1 in (
      n.0,
      record {
        trim = r.3 ∙ h.trim;
        ready = inl first;
        config = r.2 ∙ h.config;
        between = n.1;
        known = (m.0, m.1);
      },
      n.2,
    )

-- a read that gave none
pub read_none : (old new : BytesReader) (fields : List (List ℕ)) → IsReading old → ReadRecord (λ source. Some source.now) old new false fields
    → records_left old ≡ []
unfolding records_left
read_none old new fields h r =
    rw h.known.1 (none_of_rest old.state h.known.0 (rows-end (λ (source : Bor (List ℕ)). Some source.now) old new fields default_config h.known.0 h.config h.known.1 r))

-- a read either gave a record or found none
reads_either : (old new : BytesReader) (fields : List (List ℕ)) (found : Bool) → IsReading old → ReadRecord (λ source. Some source.now) old new found fields → new.first ≡ true
    → Reads old new fields found
reads_either old new fields true h r first = let s = read_some old new fields h r first in (s.0, (λ e. s.1), (λ e. s.2))
reads_either old new fields false h r first = (read_none old new fields h r, (λ e. cc), (λ e. cc))

-- the same of a result whose errors all mean memory
pub reads_outcome : (old new : BytesReader) (fields : List (List ℕ)) (read : Result Bool Error) (out : Result Bool AllocError) → IsReading old
    → IfOk read (λ found. old.trim ≡ trim.None → Ready old → ReadRecord (λ source. Some source.now) old new found fields)
    → OnOk read (new.first ≡ true) → out ≡ ok_or (result_ok read) alloc_error → IfOk out (Reads old new fields)
reads_outcome old new fields (Ok found) out h r first e = rw e (reads_either old new fields found h (r h.trim h.ready) first)
reads_outcome old new fields (Err error) out h r first e = rw e tt

-- a new reader has all records left
pub left-start : (reader : BytesReader) (bytes : List ℕ) → reader.state ≡ st.StartRecord → bytes_left reader ≡ Some bytes
    → records_left reader ≡ records_from default_config (length bytes + 1) st.StartRecord bytes
unfolding records_left
left-start reader bytes s b = rw (s, b) refl
