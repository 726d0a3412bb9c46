-- What a device shows of itself, and what a write that fails midway leaves.
use Rattle.std.specs.Prelude.{◌≡◌, ◌≤◌, ◌+◌, ◌-◌, ◌^◌, ◌++◌, if◌then◌else◌, ℕ, Bool, true, false, List, Option, length, min}
use Rattle.std.specs.Io.KnownBytes.{Appends, Consumes}
use Rattle.lq_serve.specs.declared.device.Device.{Device}

-- the reader or writer inside
abbrev pub inner_of : {T : Type 0} → Device T → T
inner_of device = device.inner

-- how many reads it has made
abbrev pub read_count : {T : Type 0} → Device T → ℕ
read_count device = device.reads

-- how many writes it has made
abbrev pub write_count : {T : Type 0} → Device T → ℕ
write_count device = device.writes

-- whether it is marked as failed
abbrev pub is_failed : {T : Type 0} → Device T → Bool
is_failed device = device.failed

-- whether its last read answered an error or the end
abbrev pub is_ended : {T : Type 0} → Device T → Bool
is_ended device = device.ended

-- a count that stays at 2^64 - 1
abbrev pub one_more : ℕ → ℕ
one_more n = min (n + 1) (2 ^ 64 - 1)

-- how many reads it has made after one that answered an error or the end
abbrev pub late_count : {T : Type 0} → Device T → ℕ
late_count device = device.late

-- how many there will be after its next read
abbrev pub late_count_next : {T : Type 0} → Device T → ℕ
late_count_next device = if device.ended then one_more device.late else device.late

-- A front of the bytes was appended to the known ones.
pub record AppendsFront (before after : Option (List ℕ)) (bytes : List ℕ) : Type 0 where
  pub front : List ℕ
  pub left : List ℕ
  pub split : bytes ≡ front ++ left
  pub written : Appends before after front

-- What a device wrote of some bytes: all of them where it hasn't failed, and else a front.
abbrev pub Writes : Bool → Option (List ℕ) → Option (List ℕ) → List ℕ → Type 0
Writes false before after bytes = Appends before after bytes
Writes true before after bytes = AppendsFront before after bytes

-- The same of a device that may have failed before: it then took none of them, and stays as it was.
abbrev pub WritesUnlessFailed : Bool → Option (List ℕ) → Bool → Option (List ℕ) → List ℕ → Type 0
WritesUnlessFailed false before failed after bytes = Writes failed before after bytes
WritesUnlessFailed true before failed after bytes = (failed ≡ true) × (after ≡ before)

-- Of the known bytes a front was taken, and at most so many.
pub record TakesAtMost (limit : ℕ) (before after : Option (List ℕ)) : Type 0 where
  pub taken : List ℕ
  pub few : length taken ≤ limit
  pub consumed : Consumes before after taken
