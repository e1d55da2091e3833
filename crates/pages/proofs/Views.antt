-- What a view's invariants tell.
use Rattle.std.proofs.Common.{◌≡◌, true, length}
use Rattle.amounts.specs.declared.cost.Cost as cost
use Rattle.records.specs.Bytes.{Bytes}
use Rattle.pages.specs.declared.view.PageView.{PageView}
use Rattle.contents.specs.Checks.{header_of, answer_bytes, has_answer, limits_of}
use Rattle.contents.proofs.Accepting.{Accepted, accepted, Answered, answered, answer_bytes_all, bytes_from_test}

module _ {C L S : Type 0} {c : cost.Ghosts C L S} (v : PageView C L S c) where
  pub view_bytes : Bytes v.bytes.now
  view_bytes = bytes_from_test v.bytes.now v.bytes_fit

  pub view_accepted : Accepted v.header.kind v.bytes.now
  view_accepted = accepted v.header.kind v.bytes.now view_bytes v.accepted

  pub view_answered : has_answer (answer_bytes v.bytes.now) ≡ true → Answered (limits_of v.header.kind (header_of v.bytes.now)) (answer_bytes v.bytes.now)
  view_answered there =
      let bs = v.bytes.now in
      answered (limits_of v.header.kind (header_of bs)) (length bs) (answer_bytes bs) (answer_bytes_all bs view_bytes) there view_accepted.answer
