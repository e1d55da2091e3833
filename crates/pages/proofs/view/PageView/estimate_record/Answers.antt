use Rattle.std.proofs.Common.{ℕ, ◌+◌, ◌*◌, drop, sym, ap, ◌∙◌, ap₂, arith, drop-drop}
use Rattle.std.specs.List.{slice_get}
use Rattle.records.specs.Shapes.{decoded_run}
use Rattle.records.specs.Layout.{estimate_shape}
use Rattle.contents.specs.Checks.{header_of}
use Rattle.contents.proofs.Accepting.{estimates_there}
use Rattle.pages.proofs.Views.{view_accepted}
use Rattle.pages.proofs.view.PageView.estimate_record.Goals as goal

pub nth_record-requires : goal.nth_record-requires
nth_record-requires g c =
    let v = c.args.self.now in
    let n = c.from.ensures ∙ ap (λ h. h.sections) v.headed in
    let m = c.from-2.ensures ∙ ap (λ h. h.stations) v.headed in
    let there = estimates_there v.header.kind v.bytes.now (view_accepted v) in
    omega arith

pub returns : goal.returns
returns g c =
    let v = c.args.self.now in
    let bs = v.bytes.now in
    let n = c.from.ensures ∙ ap (λ h. h.sections) v.headed in
    let m = c.from-2.ensures ∙ ap (λ h. h.stations) v.headed in
    c.nth_record.ensures
    ∙ ap₂ (λ (k : ℕ) (a : ℕ). slice_get (decoded_run estimate_shape k (drop (10 + 12 * a) bs)) c.args.station) m n
    ∙ ap (λ l. slice_get (decoded_run estimate_shape (header_of bs).stations l) c.args.station) (sym (drop-drop (12 * (header_of bs).sections) 10 bs))
