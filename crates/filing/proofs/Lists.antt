-- What the lists hold once a route is listed.
use Rattle.std.proofs.Common.{◌≡◌, ℕ, suc, ◌+◌, ◌-◌, ◌≤◌, min, List, [], ◌∷◌, ◌++◌, length, take, drop, map, reverse, Some, Ok, option_map, refl, sym, ap, ap₂, ◌∙◌, length-append, arith}
use Rattle.std.proofs.lemmas.List.{length-reverse, reverse-append, map-append}
use Rattle.std.specs.List.{slice_range}
use Rattle.amounts.specs.declared.cost.Cost as cost
use Rattle.faults.specs.declared.Side.TheVariants.{Forward, Backward}
use Rattle.networks.specs.Nets.{Net}
use Rattle.contents.specs.declared.answer.Step.{Step}
use Rattle.optimality.specs.declared.sheet.Row.{Row}
use Rattle.filing.specs.declared.follow.Halves.{Halves}
use Rattle.filing.specs.Arrivals.{Line, through, followed}
use Rattle.filing.specs.Listing.{Routed, step_at, cost_along, steps_along, lined, routed_by, route_of}
use Rattle.filing.specs.Costs.{bare_steps, costed}
use Rattle.filing.proofs.Filling.{costs_added}
use Rattle.filing.proofs.Halving.{Planned}

-- the first ones
pub first_ones : {X : Type 0} (xs : List X) (n m : ℕ) → n ≡ m → slice_range xs 0 n ≡ take m xs
first_ones xs n m e = let same : n - 0 ≡ m = omega arith in ap (λ k. take k xs) same

-- the last first, before or after
pub map_turned : {A B : Type 0} (f : A → B) (xs : List A) → reverse (map f xs) ≡ map f (reverse xs)
map_turned f [] = refl
map_turned f (x ∷ xs) =
    reverse-append (f x ∷ []) (map f xs)
    ∙ ap (λ ys. ys ++ (f x ∷ [])) (map_turned f xs)
    ∙ sym (map-append f (reverse xs) (x ∷ []))
    ∙ ap (map f) (sym (reverse-append (x ∷ []) xs))

pub length_along : {C L S : Type 0} (c : cost.Ghosts C L S) (net : Net S) (a : L) (ks : List ℕ) → length (steps_along c net a ks) ≡ length ks
length_along c net a [] = refl
length_along c net a (k ∷ ks) = ap suc (length_along c net (cost_along c net a k) ks)

module _ {C L S : Type 0} (c : cost.Ghosts C L S) (net : Net S) (meeting : ℕ) (sheet : List (Row C L S)) (room : ℕ) (h : Halves) (p : Planned net meeting sheet room h) where
  abbrev l : Line
  l = p.halves

  pub behind_is : h.behind ≡ length l.behind
  behind_is = ap (λ x. x.behind) p.long

  pub ahead_is : h.ahead ≡ length l.ahead
  ahead_is = ap (λ x. x.ahead) p.long

  pub through_long : length (through l) ≡ h.behind + h.ahead
  through_long = omega (arith, length-append (reverse l.behind) l.ahead, length-reverse l.behind, behind_is, ahead_is)

  -- a list of just the length is filled by what is followed, on the search's own rows
  module _ (rows : List (Row C L S)) (own : rows ≡ take net.stations sheet) (n : ℕ) where
    back_on : n ≡ h.behind → followed net rows Forward (n + 1) meeting ≡ Some l.behind
    back_on e = ap₂ (λ r m. followed net r Forward (m + 1) meeting) own (e ∙ behind_is) ∙ p.back

    ahead_on : n ≡ h.ahead → followed net rows Backward (n + 1) meeting ≡ Some l.ahead
    ahead_on e = ap₂ (λ r m. followed net r Backward (m + 1) meeting) own (e ∙ ahead_is) ∙ p.on

    pub back_fills : n ≡ h.behind → option_map length (followed net rows Forward (n + 1) meeting) ≡ Some n
    back_fills e = ap (option_map length) (back_on e) ∙ ap Some (sym (e ∙ behind_is))

    pub ahead_fills : n ≡ h.ahead → option_map length (followed net rows Backward (n + 1) meeting) ≡ Some n
    ahead_fills e = ap (option_map length) (ahead_on e) ∙ ap Some (sym (e ∙ ahead_is))

    pub back_listed : n ≡ h.behind → (ss : List (Step L)) → Some ss ≡ option_map (bare_steps c net) (followed net rows Forward (n + 1) meeting) → ss ≡ bare_steps c net l.behind
    back_listed e ss z = let same = z ∙ ap (option_map (bare_steps c net)) (back_on e) in cc

    pub ahead_listed : n ≡ h.ahead → (ss : List (Step L)) → Some ss ≡ option_map (bare_steps c net) (followed net rows Backward (n + 1) meeting) → ss ≡ bare_steps c net l.ahead
    ahead_listed e ss z = let same = z ∙ ap (option_map (bare_steps c net)) (ahead_on e) in cc

  module _ (steps turning : List (Step L)) (room_is : room ≡ min (length steps) (length turning)) where
    pub turning_fits : h.behind ≤ length turning
    turning_fits = omega (arith, p.fits, through_long, room_is)

    -- the sections bare, in the order of the route
    bare_through : reverse (bare_steps c net l.behind) ++ bare_steps c net l.ahead ≡ bare_steps c net (through l)
    bare_through = ap (λ ss. ss ++ bare_steps c net l.ahead) (map_turned (λ k. step_at c net k c.ops.zero) l.behind) ∙ sym (map-append (λ k. step_at c net k c.ops.zero) (reverse l.behind) l.ahead)

    -- the halves listed, the costs added, and the first half turned
    pub lists_are :
        (done first second route turned : List (Step L))
        → done ≡ bare_steps c net l.behind → first ≡ reverse done → second ≡ bare_steps c net l.ahead
        → route ≡ costed c net c.ops.zero (first ++ second) → turned ≡ reverse (take h.behind route)
        → record { answer = Ok (h.behind + h.ahead); steps = route ++ drop (h.behind + h.ahead) steps; turning = turned ++ drop h.behind turning } ≡ route_of c net steps turning meeting sheet
    lists_are done first second route turned e₁ e₂ e₃ e₄ e₅ =
        let whole = e₄ ∙ ap (costed c net c.ops.zero) (ap₂ (λ a b. a ++ b) (e₂ ∙ ap reverse e₁) e₃ ∙ bare_through) ∙ costs_added c net c.ops.zero (through l) in
        let count = sym (length_along c net c.ops.zero (through l) ∙ through_long) in
        ap (λ ss. record { answer = Ok (h.behind + h.ahead); steps = route ++ drop (h.behind + h.ahead) steps; turning = ss ++ drop h.behind turning }) e₅
        ∙ ap (held (h.behind + h.ahead) h.behind) whole
        ∙ ap₂ (λ n b. held n b (steps_along c net c.ops.zero (through l))) count behind_is
        ∙ sym (ap (routed_by c net steps turning) (ap (lined net meeting sheet) (sym room_is) ∙ p.planned))
      where
        held : ℕ → ℕ → List (Step L) → Routed L
        held n b r = record { answer = Ok n; steps = r ++ drop n steps; turning = reverse (take b r) ++ drop b turning }
