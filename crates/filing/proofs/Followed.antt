-- Arrivals are followed one at a time.
use Rattle.std.proofs.Common.{◌≡◌, ℕ, suc, ◌+◌, ◌-◌, ◌<◌, Bool, true, false, cond, ◌==◌, List, [], ◌∷◌, length, Some, None, Option, option_map, option_and_then, refl, sym, ap, ◌∙◌, arith}
use Rattle.std.specs.Bool.{then_some}
use Rattle.std.specs.List.{slice_get}
use Rattle.faults.specs.declared.Side.{Side}
use Rattle.networks.specs.Nets.{Net}
use Rattle.optimality.specs.declared.sheet.Row.{Row}
use Rattle.optimality.specs.Problems.{start}
use Rattle.filing.specs.Arrivals.{arrival_at, before, back_from, followed}

-- so many steps, and those that lead on
abbrev pub counted : ℕ → Option (List ℕ) → Option ℕ
counted i o = option_map (λ ks. i + length ks) o

module _ {C L S : Type 0} (net : Net S) (rows : List (Row C L S)) (side : Side) where
  module _ (limit i u : ℕ) (h : i < limit) where
    unrolled : followed net rows side (limit - i) u ≡ back_from net rows side (followed net rows side (limit - (i + 1))) u (arrival_at rows side u)
    unrolled =
        let e : limit - i ≡ suc (limit - (i + 1)) = omega arith in
        ap (λ n. followed net rows side n u) e

    pub counted_end : None ≡ arrival_at rows side u → counted i (followed net rows side (limit - i) u) ≡ then_some (u == start net side) i
    counted_end e = ap (counted i) (unrolled ∙ ap (back_from net rows side (followed net rows side (limit - (i + 1))) u) (sym e)) ∙ go (u == start net side)
      where
        go : (b : Bool) → counted i (cond b (Some []) None) ≡ then_some b i
        go true = ap Some (omega arith)
        go false = refl

    pub at_section : (k : ℕ) → Some k ≡ arrival_at rows side u → followed net rows side (limit - i) u ≡ option_and_then (λ v. option_map (λ ks. k ∷ ks) (followed net rows side (limit - (i + 1)) v)) (before side u (slice_get net.sections k))
    at_section k e = unrolled ∙ ap (back_from net rows side (followed net rows side (limit - (i + 1))) u) (sym e)

    pub counted_off : (k : ℕ) → Some k ≡ arrival_at rows side u → None ≡ before side u (slice_get net.sections k) → counted i (followed net rows side (limit - i) u) ≡ None
    counted_off k e off = ap (counted i) (at_section k e ∙ ap (option_and_then (λ v. option_map (λ ks. k ∷ ks) (followed net rows side (limit - (i + 1)) v))) (sym off))

    pub counted_on : (k v : ℕ) → Some k ≡ arrival_at rows side u → Some v ≡ before side u (slice_get net.sections k) → counted (i + 1) (followed net rows side (limit - (i + 1)) v) ≡ counted i (followed net rows side (limit - i) u)
    counted_on k v e on = go (followed net rows side (limit - (i + 1)) v) ∙ sym (ap (counted i) (at_section k e ∙ ap (option_and_then (λ v. option_map (λ ks. k ∷ ks) (followed net rows side (limit - (i + 1)) v))) (sym on)))
      where
        go : (o : Option (List ℕ)) → counted (i + 1) o ≡ counted i (option_map (λ ks. k ∷ ks) o)
        go None = refl
        go (Some ks) = ap Some (omega arith)
