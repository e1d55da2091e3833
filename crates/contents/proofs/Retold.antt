-- What retracing says of an accepted page, in the words of routes and costs.
use Rattle.std.proofs.Common.{◌≡◌, ℕ, suc, ◌^◌, ◌<◌, ◌≤◌, Bool, true, false, cond, ◌↔◌, List, [], ◌∷◌, map, length, take, Some, None, Option, sym, refl, ap, ◌∙◌, subst, arith}
use Rattle.std.specs.List.{slice_get}
use Rattle.std.proofs.lemmas.Bool.{false≢true}
use Rattle.std.proofs.lemmas.List.Elements.{All-from_recursion}
use Rattle.std.proofs.lemmas.Option.{cond_some, get_or_from_slice_get, slice_get_within}
use Rattle.amounts.specs.declared.cost.Cost as cost
use Rattle.amounts.specs.Amount.{Laws, RangeLaws}
use Rattle.amounts.specs.Forms.{Forms}
use Rattle.networks.specs.declared.section.Section.{Section}
use Rattle.networks.specs.Nets.{Net, InRange, SectionInRange}
use Rattle.networks.specs.Routes.{cost_of}
use Rattle.records.specs.declared.kinds.StepRecord.{StepRecord}
use Rattle.records.specs.Bytes.{Bytes}
use Rattle.records.specs.Layout.{answer_shape, step_shape}
use Rattle.records.specs.Shapes.{decoded, decoded_run}
use Rattle.records.proofs.Coding.{number_below}
use Rattle.contents.specs.declared.answer.Outcome.{Outcome}
use Rattle.contents.specs.declared.answer.Outcome.TheVariants.{Found, NoRoute}
use Rattle.contents.specs.Checks.{answer_bytes, has_answer, step_bytes}
use Rattle.contents.specs.Content.{Meant, steps_in, step_from, to_of, net_of, answer_of}
use Rattle.contents.specs.Retracing.{sections_of, walked, walks, retraced, Retraced, RetracedIn}
use Rattle.contents.proofs.Answers.{meaning, meaning_steps}
use Rattle.contents.proofs.Routing.{Ends, walks_right, right_walks}

module _ {C L S : Type 0} (c : cost.Ghosts C L S) (laws : Laws c.ops) (fit : RangeLaws c.ops c.worth c.section_range c.estimate_range) (net : Net S) (range : InRange c.section_range net) where
  pub small : (k : ℕ) (x : Section S) → slice_get net.sections k ≡ Some x → c.ops.size (c.worth x.amount) < 2 ^ 32
  small k x e =
      let In : Section S → Type 0 = SectionInRange c.section_range net.stations in
      let here = All-from_recursion In net.sections range.each k x (slice_get_within net.sections k x e) in
      (fit.section x.amount (subst In (get_or_from_slice_get net.sections k x x e) here).amount).small

  from_zero : (a : L) → c.ops.plus c.ops.zero a ≡ a
  from_zero a = laws.comm c.ops.zero a ∙ laws.unit a

  module _ (m : Meant L) (ends : Ends c laws net small m.cost m.steps) (few : length m.steps ≤ 2 ^ 20) where
    found : m.outcome ≡ Found → walks c net net.launcher c.ops.zero m.cost m.steps ≡ true → Retraced c net m
    found o e =
        let r = walks_right c laws net small m.cost 0 m.steps net.launcher c.ops.zero (omega (arith, laws.size_zero)) (omega arith) ends e in
        record {
          found = o;
          route = r.joined;
          so_far = λ k s i. r.each k s i ∙ from_zero (cost_of c.ops c.worth net (take (suc k) (sections_of m.steps)));
          total = r.whole ∙ from_zero (cost_of c.ops c.worth net (sections_of m.steps));
        }

    walked_back : Retraced c net m → walks c net net.launcher c.ops.zero m.cost m.steps ≡ true
    walked_back t =
        right_walks c laws net small m.cost 0 m.steps net.launcher c.ops.zero (omega (arith, laws.size_zero)) (omega arith) ends
        (record {
          joined = t.route;
          each = λ k s i. t.so_far k s i ∙ sym (from_zero (cost_of c.ops c.worth net (take (suc k) (sections_of m.steps))));
          whole = t.total ∙ sym (from_zero (cost_of c.ops c.worth net (sections_of m.steps)));
        })

    by_outcome : (x : Outcome) → m.outcome ≡ x → (walked c net x m.cost m.steps ≡ true) ↔ Retraced c net m
    by_outcome Found o = (found o, walked_back)
    by_outcome NoRoute o = (λ e. cc, λ t. absurd (let z : ◌≡◌ {A = ℕ} 0 1 = cc (o, t.found) in omega arith))

  pub retold : (o : Option (Meant L)) → ((m : Meant L) → o ≡ Some m → Ends c laws net small m.cost m.steps) → length (steps_in o) ≤ 2 ^ 20 → (retraced c net o ≡ true) ↔ RetracedIn c net o
  retold None ends few = (λ e. false≢true e, λ z. absurd z)
  retold (Some m) ends few = by_outcome m (ends m refl) few m.outcome refl

-- an accepted page's steps have the ends of their sections, and are few
module _ {C L S : Type 0} (c : cost.Ghosts C L S) (forms : Forms L S) (laws : Laws c.ops) (fit : RangeLaws c.ops c.worth c.section_range c.estimate_range) (bs : List ℕ) (all : Bytes (answer_bytes bs)) (range : InRange c.section_range (net_of c forms bs)) where
  ends_told : (total : L) (ps : List StepRecord) → Ends c laws (net_of c forms bs) (small c laws fit (net_of c forms bs) range) total (map (step_from c forms (net_of c forms bs).sections) ps)
  ends_told total [] = tt
  ends_told total (p ∷ ps) = (λ x e. ap to_of e, ends_told total ps)

  ends_in : (m : Meant L) → answer_of c forms bs ≡ Some m → Ends c laws (net_of c forms bs) (small c laws fit (net_of c forms bs) range) m.cost m.steps
  ends_in m e =
      let a = decoded answer_shape (answer_bytes bs) in
      let same = (cond_some (has_answer (answer_bytes bs)) (meaning c forms bs a) m e).1 in
      rw (sym same) (ends_told (meaning c forms bs a).cost (decoded_run step_shape a.steps (step_bytes (answer_bytes bs))))

  few_in : length (steps_in (answer_of c forms bs)) ≤ 2 ^ 20
  few_in = go (has_answer (answer_bytes bs))
    where
      go : (b : Bool) → length (steps_in (cond b (Some (meaning c forms bs (decoded answer_shape (answer_bytes bs)))) None)) ≤ 2 ^ 20
      go true = omega (arith, meaning_steps c forms bs (decoded answer_shape (answer_bytes bs)), number_below 2 16 (answer_bytes bs) all)
      go false = omega arith

  pub retold_page : (retraced c (net_of c forms bs) (answer_of c forms bs) ≡ true) ↔ RetracedIn c (net_of c forms bs) (answer_of c forms bs)
  retold_page = retold c laws fit (net_of c forms bs) range (answer_of c forms bs) ends_in few_in
