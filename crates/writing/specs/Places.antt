-- Where on a page an answer stands, and whether the page has the bytes for it.
use Rattle.std.specs.Prelude.{ℕ, ◌+◌, ◌*◌, cond, Some, None, Option, Ok, Err, Result, List, length, ◌==◌, nat_lt}
use Rattle.faults.specs.declared.Fault.{Fault}
use Rattle.faults.specs.declared.Refusal.TheVariants.{EstimateCount, PageTooShort}
use Rattle.networks.specs.declared.estimates.Pair.{Pair}
use Rattle.networks.specs.Nets.{Net}
use Rattle.records.specs.Due.{page_fault}
use Rattle.contents.specs.Writing.{placed}

-- the bytes of an answer with so many steps, or of none
abbrev pub size_with : Option ℕ → ℕ
size_with None = 0
size_with (Some steps) = 20 + 13 * steps

module _ {L S : Type 0} (net : Net S) (given : List (Pair L)) where
  -- after the header, the sections and the estimates
  abbrev pub answer_offset : ℕ
  answer_offset = 10 + 12 * length net.sections + 21 * length given

  abbrev pub bytes_needed : Option ℕ → ℕ
  bytes_needed steps = placed (answer_offset + size_with steps + 1)

  -- where the answer stands on a page of so many bytes, or why it cannot: estimates of other stations, or too short a page
  abbrev pub answer_place : ℕ → Option ℕ → Result ℕ Fault
  answer_place room steps =
      cond (length given == net.stations)
      (cond (nat_lt room (bytes_needed steps)) (Err (page_fault (PageTooShort (bytes_needed steps)))) (Ok answer_offset))
      (Err (page_fault (EstimateCount (length given))))
