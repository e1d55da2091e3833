-- What stands on a page is what it means, byte by byte.
use Rattle.std.specs.Prelude.{◌≡◌, ℕ, ◌≤◌, List, ◌++◌, length, drop, Ok, Result}
use Rattle.faults.specs.declared.Fault.{Fault}
use Rattle.amounts.specs.declared.cost.Cost as cost
use Rattle.amounts.specs.Forms.{Forms}
use Rattle.records.specs.Bytes.{Bytes}
use Rattle.contents.specs.Checks.{check_page}
use Rattle.contents.specs.Content.{Content, content_of}
use Rattle.contents.specs.Encoding.{Valid, encode}

pub record Again {C L S : Type 0} (c : cost.Ghosts C L S) (forms : Forms L S) (bs : List ℕ) : Type 0 where
  -- an accepted page, written again from what it means, has the same bytes
  pub same : encode c forms (content_of c forms bs) ≡ bs
  -- what it means is in range throughout
  pub valid : Valid c forms (content_of c forms bs)
  -- and no other accepted page means the same
  pub alone : (other : List ℕ) → Bytes other → check_page c.KIND other ≡ Ok tt → content_of c forms other ≡ content_of c forms bs → other ≡ bs

-- What is written is accepted, and means just what was put in.
pub record Back {C L S : Type 0} (c : cost.Ghosts C L S) (forms : Forms L S) (x : Content L S) (bs : List ℕ) : Type 0 where
  pub accepted : check_page c.KIND bs ≡ Ok tt
  pub same : content_of c forms bs ≡ x

-- These bytes went over the front of the page: their number is answered, and what is behind them stands.
pub record PutOver (page bs : List ℕ) (answer : Result ℕ Fault) (after : List ℕ) : Type 0 where
  pub answered : answer ≡ Ok (length bs)
  pub stands : after ≡ bs ++ drop (length bs) page

module _ {C L S : Type 0} (c : cost.Ghosts C L S) (forms : Forms L S) (x : Content L S) (page : List ℕ) (answer : Result ℕ Fault) (after : List ℕ) where
  -- What a page can hold is never refused where there are bytes enough.
  abbrev pub NeverRefused : Type 0
  NeverRefused = Valid c forms x → length (encode c forms x) ≤ length page → PutOver page (encode c forms x) answer after

  -- What an accepted page means, written over a page at least as long, gives the accepted page's bytes again.
  abbrev pub WrittenAgain : Type 0
  WrittenAgain =
      (bs : List ℕ) → Bytes bs → check_page c.KIND bs ≡ Ok tt → content_of c forms bs ≡ x → length bs ≤ length page → PutOver page bs answer after
