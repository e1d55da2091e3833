use Rattle.std.proofs.Common.{◌≡◌, length, take, inl, ap, ap₂, ◌∙◌, string_bytes}
use Rattle.planning.specs.Texts.{route_text}
use Rattle.planning.specs.Planned.{blank_steps}
use Rattle.planning.proofs.Telling.{written, never_short, route_told}
use Rattle.planning.proofs.plan.found_text.Goals as goal

-- a list with a place for each station is not too short
pub returns-in_err-count-clause-stands : goal.returns-in_err-count-clause-stands
returns-in_err-count-clause-stands g c =
    let kind = g.C.Cost in
    let found = c.args.found.now in
    let places : c.stations-places.result ≡ (g.N.Network.meaning found.net).stations = c.stations-places.ensures.count ∙ ap (λ net. (g.N.Network.meaning net).stations) c.network.ensures in
    let blank : c.as_mut_slice.result.now ≡ blank_steps kind (g.N.Network.meaning found.net).stations = c.as_mut_slice.ensures.value ∙ c.in_ok-steps.ensures ∙ ap (blank_steps kind) places in
    let other : c.as_mut_slice-2.result.now ≡ blank_steps kind (g.N.Network.meaning found.net).stations = c.as_mut_slice-2.ensures.value ∙ c.in_ok-turning.ensures ∙ ap (blank_steps kind) places in
    λ calls by taken. absurd (never_short kind g.N.Network g.E.Estimates found c.args.sheet.now _ _ blank other c.in_err-count.field-0.0 (c.in_err-count.ensures.stands calls by))

pub returns-clause-stands : goal.returns-clause-stands
returns-clause-stands g c =
    let kind = g.C.Cost in
    let forms = g.C.PageCost.forms in
    let found = c.args.found.now in
    let count = c.in_ok-count.count in
    let listed = take count c.route.new.steps in
    let whole = written c.in_ok-steps.steps.len c.in_ok-steps.steps.items c.route.new.steps (c.in_ok-steps.steps.ok.0) (c.route.auto.steps ∙ ap length c.as_mut_slice.ensures.value) in
    let steps : c.as_slice.result.now ≡ listed = c.as_slice.ensures.value ∙ c.truncate.ensures.items ∙ ap (take count) whole in
    let told : string_bytes c.in_ok-route_text.field-0 ≡ route_text kind forms found.cost found.taken listed =
    c.in_ok-route_text.ensures ∙ ap₂ (λ cost taken. route_text kind forms cost taken c.as_slice.result.now) c.cost.ensures c.taken.ensures ∙ ap (route_text kind forms found.cost found.taken) steps in
    λ calls by taken suits.
    let right = c.in_ok-count.ensures.stands calls by in
    inl (route_told kind forms g.N.Network g.E.Estimates found listed c.in_ok-count.ensures.listed.0 right.0 right.1 taken _ told)
