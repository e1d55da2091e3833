use Rattle.std.proofs.Common.{◌≡◌, ◌||◌, Some, sym, ap, ◌∙◌}
use Rattle.std.specs.Option.{option_map}
use Rattle.networks.specs.Shut.{has, shut_if}
use Rattle.networks.proofs.Shutting.{nth_shut}
use Rattle.networks.proofs.shut_in.ShutInNetwork.section.Goals as goal
use Rattle.networks.proofs.shut_in.ShutInNetwork.section.Goals.{then-kept, else-kept}

pub returns-in_err-section : goal.returns-in_err-section
returns-in_err-section g c =
    let s = c.args.self.now in
    let kept = has s.kept.items c.args.number in
    let shut = c.from_residual.ensures ∙ ap (option_map (shut_if kept)) (sym c.in_err-section.was ∙ c.section.ensures.exact) in
    record { exact = shut ∙ sym (nth_shut s.kept.items c.args.number (g.N.Network.meaning s.below).sections); shut = shut }

pub returns : goal.returns
returns g c =
    let s = c.args.self.now in
    let kept = has s.kept.items c.args.number in
    let below = c.in_ok-section.section in
    let kept_is : c.contains-kept.result ≡ kept = c.contains-kept.ensures.value ∙ ap (λ ks. has ks c.args.number) c.deref.ensures.0 in
    let shut_is : c.if-kept.result ≡ (kept || below.shut) = elim c.if-kept.branch [
      | then-kept w ↦ w.result-is ∙ w.if-kept.true ∙ ap (λ b. b || below.shut) (sym w.if-kept.true ∙ kept_is)
      | else-kept w ↦ w.result-is ∙ ap (λ b. b || below.shut) (sym w.if-kept.false ∙ kept_is)
    ] in
    let shut = ap (λ b. Some (record { from = below.from; to = below.to; amount = below.amount; shut = b })) shut_is ∙ ap (option_map (shut_if kept)) (sym c.in_ok-section.was ∙ c.section.ensures.exact) in
    record { exact = shut ∙ sym (nth_shut s.kept.items c.args.number (g.N.Network.meaning s.below).sections); shut = shut }
