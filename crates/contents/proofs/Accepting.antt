-- What an accepted page holds, whatever the kind it was read for.
use Rattle.std.proofs.lemmas.Grind.{common_steps}
use Rattle.std.proofs.Common.{◌≡◌, ℕ, suc, ◌+◌, ◌*◌, ◌^◌, ◌<◌, ◌≤◌, true, false, cond, ◌&&◌, eqb, ltb, leb, List, [], ◌∷◌, map, length, get_or, drop, is_ok, Some, None, Ok, Err, Option, Result, sym, refl, ap, ◌∙◌, arith, length-drop, drop-drop}
use Rattle.std.specs.List.{AllByRecursion}
use Rattle.std.specs.Option.{unwrap_or}
use Rattle.std.proofs.lemmas.List.{length-map}
use Rattle.std.proofs.lemmas.Bool.{and_parts, eqb-true, ltb-true, leb-true, lt-ltb}
use Rattle.faults.specs.declared.Fault.{Fault}
use Rattle.records.specs.Bytes.{Bytes}
use Rattle.records.specs.Shapes.{Shape, decoded, decoded_run}
use Rattle.std.specs.Result.{result_and}
use Rattle.records.specs.Due.{due_record, due_run}
use Rattle.records.specs.Layout.{header_shape, section_shape, estimate_shape, answer_shape, step_shape}
use Rattle.records.proofs.Coding.{bytes_drop}
use Rattle.records.proofs.Passing.{both, Stands, due_stands, RunStands, run_stands, run_fits, length-decoded_run}
use Rattle.amounts.specs.Forms.{Forms, SectionRange, LabelLaws, OnPage, label_form}
use Rattle.amounts.specs.declared.cost.Cost as cost
use Rattle.amounts.specs.declared.forms.SectionForm.{SectionForm}
use Rattle.amounts.specs.declared.forms.LabelForm.{LabelForm}
use Rattle.networks.specs.Nets.{SectionInRange, InRange}
use Rattle.networks.specs.Given.{PairInRange, GivenInRange}
use Rattle.records.specs.declared.limits.Limits.{Limits}
use Rattle.records.specs.declared.kinds.SectionRecord.{SectionRecord}
use Rattle.records.specs.declared.kinds.AnswerRecord.{AnswerRecord}
use Rattle.records.specs.declared.kinds.EstimateRecord.{EstimateRecord}
use Rattle.records.specs.Bytes.{Fits}
use Rattle.records.specs.Values.{label_fits}
use Rattle.amounts.specs.Forms.{moves_fit}
use Rattle.contents.specs.Content.{section_from, label_from, pair_from, net_of, pairs_of}
use Rattle.records.specs.Laws.{section_laws, estimate_laws, step_laws}
use Rattle.contents.specs.Checks.{headed, header_of, section_bytes, estimate_bytes, answer_bytes, has_answer, step_bytes, step_count, limits_for, limits_of, due_end, due_answer, check_page, all_bytes}

-- Bytes ----------------------------------------------------------------------------------------

pub bytes_from_test : (bs : List ℕ) → all_bytes bs ≡ true → Bytes bs
bytes_from_test [] e = tt
bytes_from_test (b ∷ bs) e = let p = and_parts (ltb b 256) (all_bytes bs) e in (ltb-true b 256 p.0, bytes_from_test bs p.1)

pub test_from_each : (bs : List ℕ) → ((i : ℕ) → get_or bs i 0 < 256) → all_bytes bs ≡ true
test_from_each [] h = refl
test_from_each (b ∷ bs) h = ap (λ t. t && all_bytes bs) (lt-ltb b 256 (h 0)) ∙ test_from_each bs (λ i. h (suc i))

pub section_bytes_all : (bs : List ℕ) → Bytes bs → Bytes (section_bytes bs)
section_bytes_all bs all = bytes_drop 10 bs all

pub estimate_bytes_all : (bs : List ℕ) → Bytes bs → Bytes (estimate_bytes bs)
estimate_bytes_all bs all = bytes_drop (12 * (header_of bs).sections) (section_bytes bs) (section_bytes_all bs all)

pub answer_bytes_all : (bs : List ℕ) → Bytes bs → Bytes (answer_bytes bs)
answer_bytes_all bs all = bytes_drop (21 * (header_of bs).stations) (estimate_bytes bs) (estimate_bytes_all bs all)

-- Answers --------------------------------------------------------------------------------------

pub ok_is : {A : Type 0} (r : Result A Fault) → is_ok r ≡ true → (a : A) × (r ≡ Ok a)
ok_is (Ok a) e = (a, refl)
ok_is (Err f) e = cc

-- The parts of an accepted page ----------------------------------------------------------------

pub record Accepted (kind : ℕ) (bs : List ℕ) : Type 0 where
  pub header : Stands header_shape (limits_for kind) bs (header_of bs)
  pub sections : RunStands section_shape (limits_of kind (header_of bs)) (header_of bs).sections (section_bytes bs)
  pub estimates : RunStands estimate_shape (limits_of kind (header_of bs)) (header_of bs).stations (estimate_bytes bs)
  pub answer : is_ok (due_answer (limits_of kind (header_of bs)) (length bs) (answer_bytes bs)) ≡ true

pub accepted : (kind : ℕ) (bs : List ℕ) → Bytes bs → is_ok (check_page kind bs) ≡ true → Accepted kind bs
accepted kind bs all ok =
    let len = length bs in
    let h = header_of bs in
    let limits = limits_of kind h in
    let first = due_record header_shape (limits_for kind) len bs in
    let sections = due_run section_shape limits len h.sections (section_bytes bs) in
    let estimates = due_run estimate_shape limits len h.stations (estimate_bytes bs) in
    let answer = due_answer limits len (answer_bytes bs) in
    let whole = ok_is (check_page kind bs) ok in
    let p = both first (result_and sections (result_and estimates answer)) whole.0 whole.1 in
    let q = both sections (result_and estimates answer) whole.0 p.2 in
    let r = both estimates answer whole.0 q.2 in
    let stands = due_stands header_shape (limits_for kind) len bs p.0 p.1 in
    record {
      header = record { fits = stands.fits; kinded = stands.kinded; is = refl; good = stands.good };
      sections = run_stands section_shape section_laws limits len h.sections (section_bytes bs) (section_bytes_all bs all) q.1;
      estimates = run_stands estimate_shape estimate_laws limits len h.stations (estimate_bytes bs) (estimate_bytes_all bs all) r.1;
      answer = ap is_ok r.2;
    }

-- what the answer of the checks tells, with a header or without
pub headed_ok : {A : Type 0} (a x : A) (r : Result (Unit {0}) Fault) → Ok a ≡ headed x r → (a ≡ x) × (r ≡ Ok tt)
headed_ok a x (Ok u) e = (cc, refl)
headed_ok a x (Err f) e = cc

pub headed_err : {A : Type 0} (x : A) (r : Result (Unit {0}) Fault) (f : Fault) → Err f ≡ headed x r → Err f ≡ r
headed_err x (Ok u) f e = cc
headed_err x (Err g) f e = cc

-- an accepted page is of the kind that it was read for
pub kind_is : (kind : ℕ) (bs : List ℕ) → check_page kind bs ≡ Ok tt → (header_of bs).kind ≡ kind
kind_is kind bs e =
    let h = header_of bs in
    let first = due_record header_shape (limits_for kind) (length bs) bs in
    let p = both first _ tt e in
    let stands = due_stands header_shape (limits_for kind) (length bs) bs p.0 p.1 in
    eqb-true h.kind kind (and_parts (eqb h.kind kind) _ stands.good).0

-- the runs are all there
module _ (kind : ℕ) (bs : List ℕ) (a : Accepted kind bs) where
  pub sections_there : 10 + 12 * (header_of bs).sections ≤ length bs
  sections_there = omega (arith, a.header.fits, a.sections.fits, length-drop 10 bs)

  pub estimates_there : 10 + 12 * (header_of bs).sections + 21 * (header_of bs).stations ≤ length bs
  estimates_there = omega (arith, a.header.fits, a.sections.fits, a.estimates.fits, length-drop 10 bs, length-drop (12 * (header_of bs).sections) (section_bytes bs))

-- where an answer stands, by its offset
pub answer_place : (bs rest : List ℕ) (at : ℕ) → rest ≡ drop at bs → at ≡ 10 + 12 * (header_of bs).sections + 21 * (header_of bs).stations → rest ≡ answer_bytes bs
answer_place bs rest at e p = rw (e, p) (simp drop-drop)

-- an answer that is there is all there, with its steps
pub record Answered (limits : Limits) (rest : List ℕ) : Type 0 where
  pub answer : Stands answer_shape limits rest (decoded answer_shape rest)
  pub steps : RunStands step_shape limits (step_count rest) (step_bytes rest)

pub answered : (limits : Limits) (len : ℕ) (rest : List ℕ) → Bytes rest → has_answer rest ≡ true → is_ok (due_answer limits len rest) ≡ true → Answered limits rest
answered limits len rest all there ok =
    let first = due_record answer_shape limits len rest in
    let steps = due_run step_shape limits len (step_count rest) (step_bytes rest) in
    let ends = due_end limits len (drop (13 * step_count rest) (step_bytes rest)) in
    let whole = ok_is (result_and first (result_and steps ends)) (ap (λ b. is_ok (cond b (result_and first (result_and steps ends)) (due_end limits len rest))) (sym there) ∙ ok) in
    let p = both first (result_and steps ends) whole.0 whole.1 in
    let q = both steps ends whole.0 p.2 in
    let stands = due_stands answer_shape limits len rest p.0 p.1 in
    record {
      answer = record { fits = stands.fits; kinded = stands.kinded; is = refl; good = stands.good };
      steps = run_stands step_shape step_laws limits len (step_count rest) (step_bytes rest) (bytes_drop 20 rest all) q.1;
    }

-- the answer's record, or that there is none
pub answer_there : (bs rest : List ℕ) (r : Option AnswerRecord) → rest ≡ answer_bytes bs → has_answer rest ≡ true → r ≡ Some (decoded answer_shape rest) → r ≡ cond (has_answer (answer_bytes bs)) (Some (decoded answer_shape (answer_bytes bs))) None
answer_there bs rest r e h i = grind (arith, common_steps)

pub answer_absent : (bs rest : List ℕ) → rest ≡ answer_bytes bs → has_answer rest ≡ false → None ≡ cond (has_answer (answer_bytes bs)) (Some (decoded answer_shape (answer_bytes bs))) None
answer_absent bs rest e h = grind (arith, common_steps)

-- no byte is no answer
pub empty_none : (rest : List ℕ) → length rest < 1 → has_answer rest ≡ false
empty_none [] h = refl
empty_none (b ∷ rest) h = absurd (omega arith)

-- The meanings are in range ----------------------------------------------------------------------

-- of each element of a run, that it is good and fits gives what it means
pub each_meant : {R M : Type 0} (shape : Shape R) (limits : Limits) (from : R → M) (V : M → Type 0) (rs : List R)
    → ((r : R) → shape.good limits r ≡ true → Fits shape.widths (shape.fields r) → V (from r))
    → AllByRecursion (λ r. shape.good limits r ≡ true) rs → AllByRecursion (λ r. Fits shape.widths (shape.fields r)) rs → AllByRecursion V (map from rs)
each_meant shape limits from V [] turns good fit = tt
each_meant shape limits from V (r ∷ rs) turns good fit = (turns r good.0 fit.0, each_meant shape limits from V rs turns good.1 fit.1)

module _ {C L S : Type 0} (c : cost.Ghosts C L S) (forms : Forms L S) (kind : ℕ) (bs : List ℕ) (all : Bytes bs) (a : Accepted kind bs) where
  section_range : (kept : (f : SectionForm) → SectionRange f → c.section_range (forms.made f)) (limits : Limits) (r : SectionRecord) → section_shape.good limits r ≡ true → Fits section_shape.widths (section_shape.fields r) → SectionInRange c.section_range limits.stations (section_from c forms r)
  section_range kept limits r good fit =
      let p = and_parts (leb r.state 1) _ good in
      let q = and_parts (ltb r.from limits.stations) _ p.1 in
      let t = and_parts (ltb r.to limits.stations) _ q.1 in
      record {
        from = ltb-true r.from limits.stations q.0;
        to = ltb-true r.to limits.stations t.0;
        amount = kept r.amount (record { moves = fit.1.1.1.0; samples = fit.1.1.1.1.0 });
      }

  pub net_range : ((f : SectionForm) → SectionRange f → c.section_range (forms.made f)) → InRange c.section_range (net_of c forms bs)
  net_range kept =
      let h = header_of bs in
      let limits = limits_of kind h in
      let p = and_parts (eqb h.kind kind) _ a.header.good in
      let q = and_parts (leb 1 h.stations) _ p.1 in
      let r = and_parts (leb h.stations 4096) _ q.1 in
      let s = and_parts (leb h.sections 16384) _ r.1 in
      let t = and_parts (ltb h.launcher h.stations) _ s.1 in
      let run = decoded_run section_shape h.sections (section_bytes bs) in
      let fit = run_fits section_shape section_laws h.sections (section_bytes bs) (section_bytes_all bs all) in
      record {
        some = leb-true 1 h.stations q.0;
        few = leb-true h.stations 4096 r.0;
        launcher = ltb-true h.launcher h.stations t.0;
        trap = ltb-true h.trap h.stations t.1;
        short = omega (arith, leb-true h.sections 16384 s.0, length-map run (section_from c forms), length-decoded_run section_shape h.sections (section_bytes bs));
        each = each_meant section_shape limits (section_from c forms) (SectionInRange c.section_range h.stations) run (section_range kept limits) a.sections.good fit;
      }

  module _ (laws : LabelLaws c.ops forms c.estimate_range) where
    label_told : (o : Option L) (f : LabelForm) → forms.told f ≡ o → f.moves < 2 ^ 32 → f.samples < 2 ^ 44 → OnPage forms (unwrap_or o c.ops.zero)
    label_told None f e h k = (label_form 0 0, laws.zero_shown)
    label_told (Some x) f e h k = (f, laws.back x f (record { moves = h; samples = k }) e)

    label_range : (k : ℕ) (f : LabelForm) → label_fits k f ≡ true → f.moves < 2 ^ 32 → OnPage forms (label_from c forms f)
    label_range k f e h = label_told (forms.told f) f refl h (ltb-true f.samples (2 ^ 44) (and_parts (moves_fit k f.moves) (ltb f.samples (2 ^ 44)) e).1)

    pair_range : (limits : Limits) (r : EstimateRecord) → estimate_shape.good limits r ≡ true → Fits estimate_shape.widths (estimate_shape.fields r) → PairInRange c.estimate_range (pair_from c forms r)
    pair_range limits r good fit =
        let p = and_parts (label_fits limits.kind r.forward) (label_fits limits.kind r.backward) good in
        record { forward = laws.in_range _ (label_range limits.kind _ p.0 fit.0); backward = laws.in_range _ (label_range limits.kind _ p.1 fit.1.1.0) }

    pub pairs_range : GivenInRange c.estimate_range (pairs_of c forms bs)
    pairs_range =
        let h = header_of bs in
        let limits = limits_of kind h in
        let run = decoded_run estimate_shape h.stations (estimate_bytes bs) in
        let fit = run_fits estimate_shape estimate_laws h.stations (estimate_bytes bs) (estimate_bytes_all bs all) in
        each_meant estimate_shape limits (pair_from c forms) (PairInRange c.estimate_range) run (pair_range limits) a.estimates.good fit
