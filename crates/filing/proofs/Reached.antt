-- Where the search has its sheet to itself, the arrivals lead to a route of the ceiling's cost.
use Rattle.std.proofs.Common.{◌≡◌, ℕ, zero, suc, ◌-◌, ◌<◌, ◌≤◌, cond, not, ◌&&◌, ◌==◌, List, [], ◌∷◌, length, reverse, Some, None, Option, option_map, option_and_then, sym, ap, ap₂, ◌∙◌, subst, arith}
use Rattle.std.proofs.lemmas.Bool.{eq-eqb}
use Rattle.std.proofs.lemmas.Option.{none-some}
use Rattle.std.specs.List.{slice_get}
use Rattle.faults.specs.declared.Side.{Side}
use Rattle.faults.specs.declared.Side.TheVariants.{Forward, Backward}
use Rattle.networks.specs.declared.section.Section.{Section}
use Rattle.networks.specs.Nets.{tail, head}
use Rattle.optimality.specs.declared.sheet.Mark.{Mark}
use Rattle.optimality.specs.declared.sheet.Row.{Row}
use Rattle.optimality.specs.declared.sheet.Ceiling.TheVariants.{Met}
use Rattle.optimality.specs.Sheets.{State}
use Rattle.optimality.specs.Problems.{Problem, Fair, Arc, start, route_cost}
use Rattle.optimality.specs.Keys.{seen}
use Rattle.optimality.specs.Search.{mark_in, mark_at}
use Rattle.optimality.proofs.Having.{has_parts, on_at}
use Rattle.optimality.proofs.Invariant.{Chain, Meeting, Stands}
use Rattle.optimality.proofs.Walks.{step_cost, cost_append, cost_reverse}
use Rattle.filing.specs.Arrivals.{Line, through, arrival_at, before, back_from, followed, ahead_of, line}

-- both ways from a meeting station the arrivals lead to the ends, and the route costs a
pub record Reached {C L S : Type 0} (p : Problem C L S) (rows : List (Row C L S)) (a : L) (meeting : ℕ) : Type 0 where
  pub halves : Line
  pub found : line p.net rows meeting ≡ Some halves
  pub cost : route_cost p (through halves) ≡ a

module _ {C L S : Type 0} (p : Problem C L S) (fair : Fair p) (st : State C L S) (n : Side → ℕ) (stands : Stands p st n) where
  -- the arrival that a side reads is the one that was written
  arrival_seen : (side : Side) (u : ℕ) (m : Mark L) → mark_at p.kind st.rows side u ≡ Some m → arrival_at st.rows side u ≡ m.arrival
  arrival_seen side u m e = by (mark_in side (slice_get st.rows u)) e
    where
      by : (o : Option (Mark L)) → option_map (seen p.kind) o ≡ Some m → option_and_then (λ x. x.arrival) o ≡ m.arrival
      by None z = absurd (none-some _ z)
      by (Some x) z = let same : seen p.kind x ≡ m = cc in ap (λ y. y.arrival) same

  came_from : (side : Side) (v k : ℕ) (s : Section S) → Arc p k s → head side s ≡ v → before side v (slice_get p.net.sections k) ≡ Some (tail side s)
  came_from side v k s arc here =
      ap (before side v) arc.0
      ∙ ap (λ t. cond (not t && head side s == v) (Some (tail side s)) None) arc.1
      ∙ ap (λ t. cond t (Some (tail side s)) None) (eq-eqb (head side s) v here)

  -- what a chain of arrivals is followed to
  pub record Way (side : Side) (fuel k v : ℕ) (label : L) : Type 0 where
    pub sections : List ℕ
    pub leads : followed p.net st.rows side fuel v ≡ Some sections
    pub cost : route_cost p sections ≡ label
    pub short : length sections ≤ k

  chain_followed : (side : Side) (k fuel v : ℕ) (label : L) (a : Option ℕ) → k < fuel → arrival_at st.rows side v ≡ a → Chain p side (mark_at p.kind st.rows side) k v label a → Way side fuel k v label
  chain_followed side k zero v label a h is c = absurd (omega arith)
  chain_followed side k (suc fuel) v label None h is c =
      record {
        sections = [];
        leads = ap (back_from p.net st.rows side (followed p.net st.rows side fuel) v) is ∙ ap (λ t. cond t (Some []) None) (eq-eqb v (start p.net side) c.0);
        cost = sym c.1;
        short = omega arith;
      }
  chain_followed side zero (suc fuel) v label (Some j) h is c = absurd c
  chain_followed side (suc k) (suc fuel) v label (Some j) h is c =
      let (s, arc, here, has) = c in
      let (m, e, (was, sum, rest)) = has_parts (mark_at p.kind st.rows side (tail side s)) _ has in
      let way = chain_followed side k fuel (tail side s) m.label m.arrival (omega arith) (arrival_seen side (tail side s) m e) rest in
      record {
        sections = j ∷ way.sections;
        leads =
            ap (back_from p.net st.rows side (followed p.net st.rows side fuel) v) is
            ∙ ap (option_and_then (λ u. option_map (λ ks. j ∷ ks) (followed p.net st.rows side fuel u))) (came_from side v j s arc here)
            ∙ ap (option_map (λ ks. j ∷ ks)) way.leads;
        cost = step_cost p j s way.sections arc ∙ fair.laws.comm (p.kind.worth s.amount) (route_cost p way.sections) ∙ ap (λ x. p.kind.ops.plus x (p.kind.worth s.amount)) way.cost ∙ sym sum;
        short = omega (arith, way.short);
      }

  -- from a station with a label
  way_from : (side : Side) (fuel u : ℕ) (m : Mark L) → n side < fuel → mark_at p.kind st.rows side u ≡ Some m → Way side fuel (n side) u m.label
  way_from side fuel u m h e = chain_followed side (n side) fuel u m.label m.arrival h (arrival_seen side u m e) (on_at (mark_at p.kind st.rows side u) _ m e ((stands.sides side).chained u))

  pub ceiling_reached : (a : L) (u : ℕ) → st.ceiling ≡ Met a u → Reached p st.rows a u
  ceiling_reached a u is =
      let f = mark_at p.kind st.rows Forward in
      let w = mark_at p.kind st.rows Backward in
      let met : Meeting p f w (Met a u) = subst (Meeting p f w) is (stands.meeting Forward) in
      let (x, at_x, has) = has_parts (f u) _ met in
      let (y, at_y, sum) = has_parts (w u) _ has in
      let behind = way_from Forward p.net.stations u x (omega (arith, stands.counted, stands.few)) at_x in
      let ahead = way_from Backward (p.net.stations - length behind.sections) u y (omega (arith, stands.counted, stands.few, behind.short)) at_y in
      record {
        halves = record { behind = behind.sections; ahead = ahead.sections };
        found = ap (option_and_then (ahead_of p.net st.rows u)) behind.leads ∙ ap (option_map (λ js. record { behind = behind.sections; ahead = js })) ahead.leads;
        cost = cost_append p fair.laws (reverse behind.sections) ahead.sections ∙ ap₂ p.kind.ops.plus (cost_reverse p fair.laws behind.sections ∙ behind.cost) ahead.cost ∙ sym sum;
      }
