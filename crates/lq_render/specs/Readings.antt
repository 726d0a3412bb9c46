-- Data that is read back from the line that it is written as, as the replies of a session are.
use Rattle.std.specs.Prelude.{◌≡◌, ◌∷◌, ◌++◌, ◌^◌, ◌<◌, ◌≤◌, IfSome, List, [], ℕ, suc, pos, negsuc, ⊤, codes, unwrap_or}
use Rattle.std.specs.Cmp.Lexicographic.{slice_cmp}
use Rattle.std.specs.Ordering.{nat_cmp}
use Rattle.std.specs.declared.cmp.Ordering.TheVariants.{Less}
use Rattle.serde_json.specs.Data.{Data, Items, Members, Num, array, boolean, depth, float, item, member, negative, no_items, no_members, null, number, object, put, string, unsigned}
use Rattle.serde_json.specs.Read.{max_depth}
use Rattle.serde_json.specs.Written.{compact_text}
use Rattle.lq_machine.specs.Machine.{memory_line, step}
use Rattle.lq_machine.specs.Served.{line_of}
use Rattle.lq_machine.specs.States.{State}
use Rattle.lq_render.specs.Layouts.{Shape}
use Rattle.lq_render.specs.Replies.{front_of, line_text, text_of_reply}

-- a number that is no float, within 64 bits
abbrev pub IsInteger : Num → Type 0
IsInteger (unsigned n) = n < 2 ^ 64
IsInteger (negative (pos n)) = ⊥
IsInteger (negative (negsuc n)) = suc n < 2 ^ 63
IsInteger (float x) = ⊥

-- a name comes before those of all these members
abbrev pub ComesBefore : List ℕ → Members → Type 0
ComesBefore name no_members = ⊤
ComesBefore name (member other d ms) = (slice_cmp nat_cmp name other ≡ Less) × ComesBefore name ms

-- its numbers are integers, and the members of its objects are in the order of their names, no two of which are alike
abbrev mutual
  pub IsOrdered : Data → Type 0
  IsOrdered null = ⊤
  IsOrdered (boolean b) = ⊤
  IsOrdered (number n) = IsInteger n
  IsOrdered (string s) = ⊤
  IsOrdered (array ds) = ItemsAreOrdered ds
  IsOrdered (object ms) = MembersAreOrdered ms

  pub ItemsAreOrdered : Items → Type 0
  ItemsAreOrdered no_items = ⊤
  ItemsAreOrdered (item d ds) = IsOrdered d × ItemsAreOrdered ds

  pub MembersAreOrdered : Members → Type 0
  MembersAreOrdered no_members = ⊤
  MembersAreOrdered (member name d ms) = IsOrdered d × (ComesBefore name ms × MembersAreOrdered ms)

-- The line of such data is shown as the data is: the compact text and a line feed.
abbrev pub ShowsData : Type 0
ShowsData = (shape : Shape) (d : Data) → IsOrdered d → depth d ≤ max_depth
    → line_text shape (front_of (compact_text d ++ 10 ∷ [])) ≡ unwrap_or (text_of_reply shape d) (compact_text d ++ codes "\n")

-- Members that `put` puts in stay ordered.
abbrev pub PutKeepsOrder : Type 0
PutKeepsOrder = (name : List ℕ) (d : Data) (ms : Members) → IsOrdered d → MembersAreOrdered ms → MembersAreOrdered (put name d ms)

-- ---- the replies of a session

-- the members of its objects are in the order of their names, no two of which are alike
abbrev mutual
  pub IsSorted : Data → Type 0
  IsSorted null = ⊤
  IsSorted (boolean b) = ⊤
  IsSorted (number n) = ⊤
  IsSorted (string s) = ⊤
  IsSorted (array ds) = ItemsAreSorted ds
  IsSorted (object ms) = MembersAreSorted ms

  pub ItemsAreSorted : Items → Type 0
  ItemsAreSorted no_items = ⊤
  ItemsAreSorted (item d ds) = IsSorted d × ItemsAreSorted ds

  pub MembersAreSorted : Members → Type 0
  MembersAreSorted no_members = ⊤
  MembersAreSorted (member name d ms) = IsSorted d × (ComesBefore name ms × MembersAreSorted ms)

-- its numbers are integers within 64 bits, as the 32 bits of a session's numbers are
abbrev mutual
  pub HasIntegers : Data → Type 0
  HasIntegers null = ⊤
  HasIntegers (boolean b) = ⊤
  HasIntegers (number n) = IsInteger n
  HasIntegers (string s) = ⊤
  HasIntegers (array ds) = ItemsHaveIntegers ds
  HasIntegers (object ms) = MembersHaveIntegers ms

  pub ItemsHaveIntegers : Items → Type 0
  ItemsHaveIntegers no_items = ⊤
  ItemsHaveIntegers (item d ds) = HasIntegers d × ItemsHaveIntegers ds

  pub MembersHaveIntegers : Members → Type 0
  MembersHaveIntegers no_members = ⊤
  MembersHaveIntegers (member name d ms) = HasIntegers d × MembersHaveIntegers ms

-- Sorted data with integers alone is ordered.
abbrev pub SortedIsOrdered : Type 0
SortedIsOrdered = (d : Data) → IsSorted d → HasIntegers d → IsOrdered d

-- a line that is the line of sorted data, and is shown as this data is, where it has integers alone and isn't nested too deep
pub record ShowsReply (line : List ℕ) : Type 0 where
  pub data_of_line : Data
  pub is_line : line ≡ line_of data_of_line
  pub is_sorted : IsSorted data_of_line
  pub is_shown : (shape : Shape) → HasIntegers data_of_line → depth data_of_line ≤ max_depth
      → line_text shape (front_of line) ≡ unwrap_or (text_of_reply shape data_of_line) (compact_text data_of_line ++ codes "\n")

-- Whatever a session answers to a line is such a line: the machine's reply, ..
abbrev pub ShowsReplies : Type 0
ShowsReplies = (s : State) (line : List ℕ) → IfSome (step s line).0 ShowsReply

-- .. or the memory line in its place.
abbrev pub ShowsMemoryLine : Type 0
ShowsMemoryLine = ShowsReply memory_line
