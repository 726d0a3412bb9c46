-- What is opened so far, and the limits of it.
use Rattle.std.specs.Prelude.{if◌then◌else◌, List, Option, Some, None}
use Rattle.lq_machine.specs.Opening.{is_past_opening, rank_with, size_with}
use Rattle.lq_machine.specs.declared.session.Opened.{Opened}

-- what is opened, if that is within the limits
abbrev pub within_limits : Opened → Option Opened
within_limits opened = if is_past_opening opened then None else Some opened

-- what is opened with these queries
abbrev pub opened_with : Opened → List Opened → Opened
opened_with opened queries = record { size = size_with opened.size queries; rank = rank_with opened.rank queries }
