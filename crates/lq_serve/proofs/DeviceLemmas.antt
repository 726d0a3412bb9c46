-- Lemmas on bytes that are written or read in several turns.
use Rattle.std.proofs.Common.{◌≡◌, ◌<◌, ◌≤◌, ◌+◌, ◌↔◌, ℕ, Bool, true, false, List, [], ◌∷◌, ◌++◌, if◌then◌else◌, Option, None, Some, Result, Ok, Err, IfSome, IsErr, OnOk, OnErr, length, take, drop, refl, sym, ◌∙◌, ap, subst, append_assoc, append-nil, take-append-drop, length-append, arith}
use Rattle.std.specs.Io.KnownBytes.{Appends, Consumes, Keeps}
use Rattle.std.proofs.KnownBytes.{Appends-nil, Appends-trans, Appends-kept, Consumes-trans}
use Rattle.lq_serve.specs.Devices.{AppendsFront, TakesAtMost, Writes, WritesUnlessFailed, is_ended, late_count, late_count_next, one_more}
use Rattle.lq_serve.specs.declared.device.Device.{Device}

-- an exit by `?` whose error no clause looks at
pub on_err : {T E P : Type 0} (r : Result T E) → P → OnErr r P
on_err (Ok x) p = tt
on_err (Err e) p = p

-- the next read of a device that hasn't ended doesn't come late
pub not_late : {T : Type 0} (device : Device T) → is_ended device ≡ false → late_count_next device ≡ late_count device
not_late device going_on = ap (λ (b : Bool). if b then one_more device.late else device.late) going_on

-- the bytes before rest were appended
pub record Ahead (before now : Option (List ℕ)) (bytes rest : List ℕ) : Type 0 where
  pub front : List ℕ
  pub split : bytes ≡ front ++ rest
  pub written : Appends before now front

pub Ahead-start : (known : Option (List ℕ)) (bytes : List ℕ) → Ahead known known bytes bytes
Ahead-start known bytes = record { front = []; split = refl; written = Appends-nil known }

pub Ahead-more : (before now after : Option (List ℕ)) (bytes rest : List ℕ) (n : ℕ)
    → Ahead before now bytes rest → Appends now after (take n rest) → Ahead before after bytes (drop n rest)
Ahead-more before now after bytes rest n ahead more = record {
  front = ahead.front ++ take n rest;
  split = ahead.split ∙ ap (λ l. ahead.front ++ l) (sym (take-append-drop n rest)) ∙ sym (append_assoc ahead.front (take n rest) (drop n rest));
  written = Appends-trans before now after ahead.front (take n rest) ahead.written more;
}

pub Ahead-stopped : (before now after : Option (List ℕ)) (bytes rest : List ℕ)
    → Ahead before now bytes rest → Keeps now after → AppendsFront before after bytes
Ahead-stopped before now after bytes rest ahead kept = record {
  front = ahead.front;
  left = rest;
  split = ahead.split;
  written = Appends-kept before now after ahead.front ahead.written kept;
}

pub Ahead-all : (before now : Option (List ℕ)) (bytes rest : List ℕ) → Ahead before now bytes rest → length rest ≡ 0 → Appends before now bytes
Ahead-all before now bytes [] ahead none = subst (Appends before now) (sym (ahead.split ∙ append-nil ahead.front)) ahead.written
Ahead-all before now bytes (b ∷ rest) ahead none = let never : ⊥ = omega (arith, none) in absurd never

-- a reader had at least what it gave
pub Consumes-length : (before now : Option (List ℕ)) (bytes : List ℕ) (n : ℕ) → Consumes before now bytes → n < length bytes → IfSome before (λ all. n < length all)
Consumes-length None now bytes n given below = tt
Consumes-length (Some xs) None bytes n given below = absurd given
Consumes-length (Some xs) (Some ys) bytes n given below = omega (arith, ap length given, length-append bytes ys, below)

-- bytes that were written whole are a front of themselves
pub AppendsFront-whole : (before after : Option (List ℕ)) (bytes : List ℕ) → Appends before after bytes → AppendsFront before after bytes
AppendsFront-whole before after bytes written = record { front = bytes; left = []; split = sym (append-nil bytes); written = written }

-- a front of some bytes is a front of them and more
AppendsFront-more : (before after : Option (List ℕ)) (bytes more : List ℕ) → AppendsFront before after bytes → AppendsFront before after (bytes ++ more)
AppendsFront-more before after bytes more wrote = record {
  front = wrote.front;
  left = wrote.left ++ more;
  split = ap (λ l. l ++ more) wrote.split ∙ append_assoc wrote.front wrote.left more;
  written = wrote.written;
}

-- nothing was written of nothing
pub Writes-nil : (failed : Bool) (known : Option (List ℕ)) → Writes failed known known []
Writes-nil false known = Appends-nil known
Writes-nil true known = record { front = []; left = []; split = refl; written = Appends-nil known }

-- a write of all the bytes, by a device that marks exactly its failures
pub Writes-by : {T F : Type 0} (r : Result T F) (failed : Bool) (before after : Option (List ℕ)) (bytes : List ℕ)
    → OnOk r (Appends before after bytes) → OnErr r (AppendsFront before after bytes) → (IsErr r ↔ (failed ≡ true)) → Writes failed before after bytes
Writes-by (Ok x) false before after bytes ok err marked = ok
Writes-by (Ok x) true before after bytes ok err marked = AppendsFront-whole before after bytes ok
Writes-by (Err e) false before after bytes ok err marked = let never : false ≡ true = marked.0 refl in cc
Writes-by (Err e) true before after bytes ok err marked = err

-- some bytes, and more where the device has not failed over them
pub Writes-more : (before between after : Option (List ℕ)) (bytes more : List ℕ) (failed : Bool)
    → Appends before between bytes → Writes failed between after more → Writes failed before after (bytes ++ more)
Writes-more before between after bytes more false first rest = Appends-trans before between after bytes more first rest
Writes-more before between after bytes more true first rest = record {
  front = bytes ++ rest.front;
  left = rest.left;
  split = ap (λ l. bytes ++ l) rest.split ∙ sym (append_assoc bytes rest.front rest.left);
  written = Appends-trans before between after bytes rest.front first rest.written;
}

-- a device that has failed over some bytes takes no more
pub Writes-stopped : (before after : Option (List ℕ)) (bytes more : List ℕ) (failed : Bool) → failed ≡ true
    → Writes failed before after bytes → Writes failed before after (bytes ++ more)
Writes-stopped before after bytes more false e wrote = cc
Writes-stopped before after bytes more true e wrote = AppendsFront-more before after bytes more wrote

-- ---- a device that may have failed before

-- it has, and nothing is written
pub takes_none : (failed : Bool) (before : Option (List ℕ)) (bytes : List ℕ) → failed ≡ true → WritesUnlessFailed failed before failed before bytes
takes_none false before bytes e = cc
takes_none true before bytes e = (refl, refl)

-- it hasn't
pub takes_front : (failed_before failed : Bool) (before after : Option (List ℕ)) (bytes : List ℕ) → failed_before ≡ false
    → Writes failed before after bytes → WritesUnlessFailed failed_before before failed after bytes
takes_front false failed before after bytes e wrote = wrote
takes_front true failed before after bytes e wrote = cc

pub ruleset unless_failed = (takes_none, takes_front)

-- nothing is written of nothing
pub nothing_more : (failed : Bool) (known : Option (List ℕ)) → WritesUnlessFailed failed known failed known []
nothing_more false known = Appends-nil known
nothing_more true known = (refl, refl)

-- one text behind another
pub Writes-next : (failed_before failed_between failed : Bool) (before between after : Option (List ℕ)) (bytes more : List ℕ)
    → WritesUnlessFailed failed_before before failed_between between bytes → WritesUnlessFailed failed_between between failed after more
    → WritesUnlessFailed failed_before before failed after (bytes ++ more)
Writes-next false false failed before between after bytes more first next = Writes-more before between after bytes more failed first next
Writes-next false true failed before between after bytes more first next =
    subst (λ known. Writes failed before known (bytes ++ more)) (sym next.1) (Writes-stopped before between bytes more failed next.0
    (subst (λ is. Writes is before between bytes) (sym next.0) first))
Writes-next true failed_between failed before between after bytes more first next = stays failed_between first.0 next
  where
    stays : (is : Bool) → is ≡ true → WritesUnlessFailed is between failed after more → (failed ≡ true) × (after ≡ before)
    stays true e nothing = (nothing.0, nothing.1 ∙ first.1)
    stays false e nothing = cc

-- it hadn't failed at the start
pub Writes-from : (failed_before failed : Bool) (before after : Option (List ℕ)) (bytes : List ℕ) → failed_before ≡ false
    → WritesUnlessFailed failed_before before failed after bytes → Writes failed before after bytes
Writes-from false failed before after bytes e wrote = wrote
Writes-from true failed before after bytes e wrote = cc

-- a device is unmarked where a mark would be absurd
pub unmarked : (failed : Bool) → (failed ≡ true → ⊥) → failed ≡ false
unmarked false never = refl
unmarked true never = absurd (never refl)

-- what doesn't fail leaves a mark as it was
pub same_mark : (old new : Bool) → (old ≡ false → new ≡ true → false ≡ true) → (old ≡ true → new ≡ true) → new ≡ old
same_mark false false fails stays = refl
same_mark false true fails stays = sym (fails refl refl)
same_mark true new fails stays = stays refl

-- what was taken in two turns
pub TakesAtMost-more : (before between after : Option (List ℕ)) (first more : List ℕ) (limit : ℕ)
    → Consumes before between first → Consumes between after more → length first + length more ≤ limit → TakesAtMost limit before after
TakesAtMost-more before between after first more limit took takes few = record {
  taken = first ++ more;
  few = omega (arith, length-append first more, few);
  consumed = Consumes-trans before between after first more took takes;
}
