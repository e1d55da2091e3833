-- The records of a page, to what they mean and back.
use Rattle.std.proofs.lemmas.Grind.{common_steps}
use Rattle.std.proofs.Common.{⊎_elim, ◌≡◌, ℕ, zero, suc, ◌*◌, ◌^◌, ◌<◌, ◌≤◌, Bool, true, false, cond, ◌&&◌, ◌||◌, eqb, ltb, leb, List, [], ◌∷◌, ◌++◌, map, length, drop, Some, None, Ok, Option, sym, refl, ap, ◌∙◌, ap₂, arith, lit≤}
use Rattle.std.proofs.lemmas.Option.{slice_get_cases, slice_get_within}
use Rattle.std.specs.List.{AllByRecursion, slice_get}
use Rattle.std.specs.Option.{is_some, unwrap_or}
use Rattle.std.proofs.lemmas.List.{length-map, drop_at, take-append-drop}
use Rattle.std.proofs.lemmas.Bool.{and_parts, and_from, eq-eqb, lt-ltb, ltb-true, le-leb}
use Rattle.amounts.specs.declared.cost.Cost as cost
use Rattle.amounts.specs.declared.forms.LabelForm.{LabelForm}
use Rattle.amounts.specs.declared.forms.SectionForm.{SectionForm}
use Rattle.amounts.specs.Forms.{Forms, label_form, moves_fit, OnPage, LabelRange}
use Rattle.networks.specs.declared.section.Section.{Section}
use Rattle.networks.specs.Nets.{Net, InRange, SectionInRange}
use Rattle.networks.specs.Given.{PairInRange}
use Rattle.records.specs.declared.limits.Limits.{Limits}
use Rattle.records.specs.declared.kinds.HeaderRecord.{HeaderRecord}
use Rattle.records.specs.declared.kinds.SectionRecord.{SectionRecord}
use Rattle.records.specs.declared.kinds.EstimateRecord.{EstimateRecord}
use Rattle.records.specs.declared.kinds.StepRecord.{StepRecord}
use Rattle.records.specs.declared.kinds.AnswerRecord.{AnswerRecord}
use Rattle.records.specs.Bytes.{Fits, Bytes}
use Rattle.records.specs.Shapes.{Shape, ShapeLaws, size_of, decoded_run, encoded_run}
use Rattle.records.specs.Due.{due_run}
use Rattle.records.specs.Values.{label_fits}
use Rattle.records.specs.Layout.{header_shape, section_shape, estimate_shape, answer_shape, step_shape}
use Rattle.contents.proofs.Accepting.{each_meant}
use Rattle.records.proofs.Passing.{RunStands, length-encoded_run, run_decoded, run_written, run_fits}
use Rattle.contents.specs.declared.answer.Outcome.{Outcome}
use Rattle.contents.specs.declared.answer.Outcome.TheVariants.{Found, NoRoute}
use Rattle.contents.specs.declared.answer.Step.{Step}
use Rattle.contents.specs.Checks.{limits_of, limits_for}
use Rattle.contents.specs.Content.{Meant, from_of, to_of, section_from, label_from, pair_from, step_from, meant_by}
use Rattle.contents.specs.Encoding.{outcome_number, section_record, form_of, estimate_record, step_record, answer_record, header_record, StepValid, MeantValid, PageLaws}
use Rattle.contents.specs.Writing.{ends_same, step_good, nothing_at, meant_good}
use Rattle.contents.proofs.Holding.{step_valid, filed_valid}
use Rattle.std.proofs.Math.Bool.{and_assoc}

-- What is valid turns into a good record and back, and a good record into what is valid and back.
pub record Turns {R M : Type 0} (shape : Shape R) (limits : Limits) (to : M → R) (from : R → M) (V : M → Type 0) : Type 0 where
  pub fits : (m : M) → V m → Fits shape.widths (shape.fields (to m))
  pub good : (m : M) → V m → shape.good limits (to m) ≡ true
  pub there : (m : M) → V m → from (to m) ≡ m
  pub back : (r : R) → Fits shape.widths (shape.fields r) → shape.good limits r ≡ true → to (from r) ≡ r
  pub valid : (r : R) → Fits shape.widths (shape.fields r) → shape.good limits r ≡ true → V (from r)

-- So do runs of them.
module _ {R M : Type 0} {shape : Shape R} {limits : Limits} {to : M → R} {from : R → M} {V : M → Type 0} (laws : ShapeLaws shape) (turns : Turns shape limits to from V) where
  abbrev FitsAll : List R → Type 0
  FitsAll rs = AllByRecursion (λ r. Fits shape.widths (shape.fields r)) rs

  abbrev GoodAll : List R → Type 0
  GoodAll rs = AllByRecursion (λ r. shape.good limits r ≡ true) rs

  all_fit : (ms : List M) → AllByRecursion V ms → FitsAll (map to ms)
  all_fit [] v = tt
  all_fit (m ∷ ms) v = (turns.fits m v.0, all_fit ms v.1)

  all_good : (ms : List M) → AllByRecursion V ms → GoodAll (map to ms)
  all_good [] v = tt
  all_good (m ∷ ms) v = (turns.good m v.0, all_good ms v.1)

  all_there : (ms : List M) → AllByRecursion V ms → map from (map to ms) ≡ ms
  all_there [] v = refl
  all_there (m ∷ ms) v = ap₂ (λ y ys. y ∷ ys) (turns.there m v.0) (all_there ms v.1)

  all_back : (rs : List R) → FitsAll rs → GoodAll rs → map to (map from rs) ≡ rs
  all_back [] f g = refl
  all_back (r ∷ rs) f g = ap₂ (λ y ys. y ∷ ys) (turns.back r f.0 g.0) (all_back rs f.1 g.1)

  -- a run that is written passes, is read, and is passed over
  pub run_passes : (len n : ℕ) (ms : List M) (rest : List ℕ) → length ms ≡ n → AllByRecursion V ms → due_run shape limits len n (encoded_run shape (map to ms) ++ rest) ≡ Ok tt
  run_passes len n ms rest e v = rw (← (length-map ms to ∙ e)) (run_written shape laws limits len (map to ms) rest (all_fit ms v) (all_good ms v))

  pub run_reads : (n : ℕ) (ms : List M) (rest : List ℕ) → length ms ≡ n → AllByRecursion V ms → map from (decoded_run shape n (encoded_run shape (map to ms) ++ rest)) ≡ ms
  run_reads n ms rest e v = rw (← (length-map ms to ∙ e), run_decoded shape laws (map to ms) rest (all_fit ms v)) (all_there ms v)

  pub run_after : (n : ℕ) (ms : List M) (rest : List ℕ) → length ms ≡ n → drop (size_of shape * n) (encoded_run shape (map to ms) ++ rest) ≡ rest
  run_after n ms rest e = drop_at (encoded_run shape (map to ms)) rest (size_of shape * n) (length-encoded_run shape laws (map to ms) ∙ ap (λ k. size_of shape * k) (length-map ms to ∙ e))

  -- a run that passed is valid, and is written as it stood
  module _ (n : ℕ) (bs : List ℕ) (all : Bytes bs) (stands : RunStands shape limits n bs) where
    pub run_valid : AllByRecursion V (map from (decoded_run shape n bs))
    run_valid = each_meant shape limits from V (decoded_run shape n bs) (λ r g f. turns.valid r f g) stands.good (run_fits shape laws n bs all)

    pub run_back : encoded_run shape (map to (map from (decoded_run shape n bs))) ++ drop (size_of shape * n) bs ≡ bs
    run_back =
        ap (λ l. l ++ drop (size_of shape * n) bs) (ap (encoded_run shape) (all_back (decoded_run shape n bs) (run_fits shape laws n bs all) stands.good) ∙ stands.again)
        ∙ take-append-drop (size_of shape * n) bs

-- numbers of what has two cases
pub flag_number : (b : Bool) → eqb (cond b 1 0) 1 ≡ b
flag_number true = refl
flag_number false = refl

flag_small : (b : Bool) → cond b 1 0 ≤ 1
flag_small true = lit≤ tt
flag_small false = lit≤ tt

number_flag : (n : ℕ) → n ≤ 1 → cond (eqb n 1) 1 0 ≡ n
number_flag zero h = refl
number_flag (suc zero) h = refl
number_flag (suc (suc n)) h = absurd (omega arith)

outcome_small : (o : Outcome) → outcome_number o ≤ 1
outcome_small Found = lit≤ tt
outcome_small NoRoute = lit≤ tt

-- an element by its number
nth_there : {X : Type 0} (xs : List X) (i : ℕ) → i < length xs → (x : X) × (slice_get xs i ≡ Some x)
nth_there xs i h = ⊎_elim (λ p. (p.0, p.2)) (λ p. absurd (omega arith)) (slice_get_cases xs i).1

module _ {C L S : Type 0} (c : cost.Ghosts C L S) (forms : Forms L S) (laws : PageLaws c forms) where
  -- Amounts ------------------------------------------------------------------------------------

  -- an amount as it is written
  pub record LabelWritten (f : LabelForm) (a : L) : Type 0 where
    pub moves : f.moves < 256 ^ 4
    pub samples : f.samples < 256 ^ 6
    pub good : label_fits c.KIND f ≡ true
    pub read : label_from c forms f ≡ a

  label_by : (a : L) (f : LabelForm) → forms.shown a ≡ Some f → LabelWritten f a
  label_by a f e =
      let range = laws.labels.range a f e in
      let told = laws.labels.again a f e in
      record {
        moves = range.moves;
        samples = omega arith;
        good = sym (laws.kinds.labels f) ∙ ap is_some told;
        read = ap (λ o. unwrap_or o c.ops.zero) told;
      }

  pub label_written : (a : L) → OnPage forms a → LabelWritten (form_of c forms a) a
  label_written a (f, e) = rw e (label_by a f e)

  -- an amount as it is read
  pub record LabelRead (f : LabelForm) : Type 0 where
    pub stands : OnPage forms (label_from c forms f)
    pub form : form_of c forms (label_from c forms f) ≡ f

  pub label_read : (f : LabelForm) → f.moves < 256 ^ 4 → label_fits c.KIND f ≡ true → LabelRead f
  label_read f h g = go (forms.told f) refl (laws.kinds.labels f ∙ g)
    where
      go : (o : Option L) → forms.told f ≡ o → is_some o ≡ true → LabelRead f
      go None e k = cc
      go (Some a) e k =
          let range : LabelRange f = record { moves = h; samples = ltb-true f.samples (2 ^ 44) (and_parts (moves_fit c.KIND f.moves) (ltb f.samples (2 ^ 44)) g).1 } in
          let seen = ap (λ o. forms.shown (unwrap_or o c.ops.zero)) e ∙ laws.labels.back a f range e in
          record { stands = (f, seen); form = ap (λ o. unwrap_or o (label_form 0 0)) seen }

  -- Sections -----------------------------------------------------------------------------------

  -- the form of a section's amount
  moves_fit_lem : (s : S) → moves_fit c.KIND (forms.parts s).moves ≡ true
  moves_fit_lem s = grind (arith, common_steps)

  form_made : (f : SectionForm) → moves_fit c.KIND f.moves ≡ true → forms.parts (forms.made f) ≡ f
  form_made f g = grind (arith, common_steps)

  section_good : (h : HeaderRecord) (r : SectionRecord) → section_shape.good (limits_of c.KIND h) r ≡ true → (r.state ≤ 1) × (r.from < h.stations) × (r.to < h.stations) × (moves_fit c.KIND r.amount.moves ≡ true)
  section_good h r g = grind (arith, common_steps)

  pub section_turns : (h : HeaderRecord) → h.stations ≤ 4096 → Turns section_shape (limits_of c.KIND h) (section_record c forms) (section_from c forms) (SectionInRange c.section_range h.stations)
  section_turns h few =
      record {
        fits = λ s v. (omega (arith, flag_small s.shut), (omega arith, (omega arith, (let r = laws.sections.form_range s.amount v.amount in (r.moves, (r.samples, tt))))));
        good = λ s v. rw (le-leb _ _ (flag_small s.shut), lt-ltb _ _ v.from, lt-ltb _ _ v.to, moves_fit_lem s.amount);
        there = λ s v. ap₂ (λ a b. record { from = s.from; to = s.to; amount = a; shut = b }) (laws.sections.whole s.amount) (flag_number s.shut);
        back = λ r f g.
            let p = section_good h r g in
            ap₂ (λ n form. record { state = n; from = r.from; to = r.to; amount = form }) (number_flag r.state p.0) (form_made r.amount p.3);
        valid = λ r f g.
            let p = section_good h r g in
            record { from = p.1; to = p.2; amount = laws.sections.in_range r.amount (record { moves = f.1.1.1.0; samples = f.1.1.1.1.0 }) };
      }

  -- Estimates ----------------------------------------------------------------------------------

  pub estimate_turns : (h : HeaderRecord) → Turns estimate_shape (limits_of c.KIND h) (estimate_record c forms) (pair_from c forms) (PairInRange c.estimate_range)
  estimate_turns h =
      record {
        fits = λ p v.
            let a = label_written p.forward (laws.labels.on_page _ v.forward) in
            let b = label_written p.backward (laws.labels.on_page _ v.backward) in
            (a.moves, (a.samples, (b.moves, (b.samples, tt))));
        good = λ p v. and_from _ _ (label_written p.forward (laws.labels.on_page _ v.forward)).good (label_written p.backward (laws.labels.on_page _ v.backward)).good;
        there = λ p v. ap₂ (λ a b. record { forward = a; backward = b }) (label_written p.forward (laws.labels.on_page _ v.forward)).read (label_written p.backward (laws.labels.on_page _ v.backward)).read;
        back = λ r f g.
            let p = estimate_read h r f g in
            ap₂ (λ a b. record { forward = a; backward = b }) p.0.form p.1.form;
        valid = λ r f g.
            let p = estimate_read h r f g in
            record { forward = laws.labels.in_range _ p.0.stands; backward = laws.labels.in_range _ p.1.stands };
      }
    where
      estimate_read : (h : HeaderRecord) (r : EstimateRecord) → Fits estimate_shape.widths (estimate_shape.fields r) → estimate_shape.good (limits_of c.KIND h) r ≡ true
          → LabelRead r.forward × LabelRead r.backward
      estimate_read h r f g =
          let p = and_parts (label_fits c.KIND r.forward) _ g in
          (label_read _ f.0 p.0, label_read _ f.1.1.0 p.1)

  -- Steps --------------------------------------------------------------------------------------

  module _ (h : HeaderRecord) (net : Net S) (count : length net.sections ≡ h.sections) where
    -- a step is good where its ends are its section's, its cost so far has a form, and its record is good
    pub step_good_lem : (s : Step L)
        → step_good c forms net s ≡ (ends_same c forms (slice_get net.sections s.section) s && (is_some (forms.shown s.so_far) && step_shape.good (limits_of c.KIND h) (step_record c forms s)))
    step_good_lem s = go (slice_get net.sections s.section) refl (forms.shown s.so_far) refl
      where
        go : (o : Option (Section S)) → slice_get net.sections s.section ≡ o → (f : Option LabelForm) → forms.shown s.so_far ≡ f
            → (ends_same c forms o s && is_some f) ≡ (ends_same c forms o s && (is_some f && (ltb s.section h.sections && label_fits c.KIND (unwrap_or f (label_form 0 0)))))
        go None there f shown = refl
        go (Some x) there None shown = refl
        go (Some x) there (Some f) shown =
            ap (λ t. ends_same c forms (Some x) s && t)
            (sym (and_from _ _ (lt-ltb _ _ (omega (arith, slice_get_within net.sections s.section x there))) (label_by s.so_far f shown).good))

    pub step_turns : h.sections ≤ 16384 → Turns step_shape (limits_of c.KIND h) (step_record c forms) (step_from c forms net.sections) (StepValid c forms net.sections)
    step_turns few =
        record {
          fits = λ s v.
              let a = label_written s.so_far v.cost in
              (omega (arith, slice_get_within net.sections s.section v.section v.there), (a.moves, (a.samples, tt)));
          good = λ s v. (and_parts _ _ (and_parts _ _ (sym (step_good_lem s) ∙ (step_valid c forms net s).1 v)).1).1;
          there = λ s v.
              let t = v.there in
              let p : from_of (slice_get net.sections s.section) ≡ s.from = ap from_of t ∙ sym v.from in
              let q : to_of (slice_get net.sections s.section) ≡ s.to = ap to_of t ∙ sym v.to in
              ap₂ (λ from to. record { section = s.section; from = from; to = to; so_far = label_from c forms (form_of c forms s.so_far) }) p q
              ∙ ap (λ a. record { section = s.section; from = s.from; to = s.to; so_far = a }) (label_written s.so_far v.cost).read;
          back = step_back;
          valid = λ r f g.
              let p = step_read r f g in
              let x = nth_there net.sections r.section (omega arith) in
              let s = step_from c forms net.sections r in
              (step_valid c forms net s).0
              (step_good_lem s
              ∙ and_from _ _ (ap (λ o. ends_same c forms o s) x.1 ∙ and_from _ _ (eq-eqb _ _ (ap from_of x.1)) (eq-eqb _ _ (ap to_of x.1)))
              (and_from _ _ (ap is_some p.1.stands.1) (ap (step_shape.good (limits_of c.KIND h)) (step_back r f g) ∙ g)));
        }
      where
        step_read : (r : StepRecord) → Fits step_shape.widths (step_shape.fields r) → step_shape.good (limits_of c.KIND h) r ≡ true → (r.section < h.sections) × LabelRead r.so_far
        step_read r f g =
            let p = and_parts (ltb r.section h.sections) _ g in
            (ltb-true _ _ p.0, label_read _ f.1.0 p.1)

        step_back : (r : StepRecord) → Fits step_shape.widths (step_shape.fields r) → step_shape.good (limits_of c.KIND h) r ≡ true → step_record c forms (step_from c forms net.sections r) ≡ r
        step_back r f g = ap (λ a. record { section = r.section; so_far = a }) (step_read r f g).1.form

  -- The header ---------------------------------------------------------------------------------

  pub header_fits : (net : Net S) → InRange c.section_range net → Fits header_shape.widths (header_shape.fields (header_record c forms net))
  header_fits net v = (laws.kinds.byte, (omega arith, (omega arith, (omega arith, (omega arith, tt)))))

  pub header_good : (net : Net S) → InRange c.section_range net → header_shape.good (limits_for c.KIND) (header_record c forms net) ≡ true
  header_good net v =
      rw (eq-eqb c.KIND c.KIND refl, le-leb _ _ v.some, le-leb _ _ v.few, le-leb _ _ v.short, lt-ltb _ _ v.launcher, lt-ltb _ _ v.trap)

  pub header_read : (h : HeaderRecord) → header_shape.good (limits_for c.KIND) h ≡ true
      → (h.kind ≡ c.KIND) × (1 ≤ h.stations) × (h.stations ≤ 4096) × (h.sections ≤ 16384) × (h.launcher < h.stations) × (h.trap < h.stations)
  header_read h g = grind (arith, common_steps)

  -- Answers ------------------------------------------------------------------------------------

  -- an answer is good, its steps apart, where its cost has a form, and its record is good
  pub meant_good_lem : (h : HeaderRecord) (net : Net S) (m : Meant L) → net.stations ≡ h.stations
      → meant_good c forms net m ≡ (is_some (forms.shown m.cost) && answer_shape.good (limits_of c.KIND h) (answer_record c forms m))
  meant_good_lem h net m stations = go (forms.shown m.cost) refl
    where
      nothing_same : (o : Outcome) → nothing_at c forms o m.cost (length m.steps) ≡ (eqb (outcome_number o) 0 || (eqb (form_of c forms m.cost).moves 0 && (eqb (form_of c forms m.cost).samples 0 && eqb (length m.steps) 0)))
      nothing_same Found = refl
      nothing_same NoRoute = and_assoc (eqb (form_of c forms m.cost).moves 0) (eqb (form_of c forms m.cost).samples 0) (eqb (length m.steps) 0)

      go : (f : Option LabelForm) → forms.shown m.cost ≡ f
          → (is_some f && (leb (length m.steps) 4095 && (ltb m.taken net.stations && nothing_at c forms m.outcome m.cost (length m.steps)))) ≡ (is_some f && answer_shape.good (limits_of c.KIND h) (answer_record c forms m))
      go None shown = refl
      go (Some f) shown = rw (le-leb _ _ (outcome_small m.outcome), (label_written m.cost (f, shown)).good, stations, nothing_same m.outcome)

  -- an answer as it is written, without its steps
  pub answer_fits : (net : Net S) (m : Meant L) → net.stations ≤ 4096 → MeantValid c forms net m → Fits answer_shape.widths (answer_shape.fields (answer_record c forms m))
  answer_fits net m few v =
      let a = label_written m.cost v.filed.cost in
      (v.run, (omega (arith, outcome_small m.outcome), (a.moves, (a.samples, (omega (arith, v.filed.few), (omega (arith, v.filed.taken), tt))))))

  pub answer_good : (net : Net S) (m : Meant L) → MeantValid c forms net m → answer_shape.good (limits_of c.KIND (header_record c forms net)) (answer_record c forms m) ≡ true
  answer_good net m v = (and_parts _ _ (sym (meant_good_lem (header_record c forms net) net m refl) ∙ (filed_valid c forms net laws m).1 v.filed)).1

  pub answer_there : (net : Net S) (m : Meant L) (steps : List StepRecord) → MeantValid c forms net m → map (step_from c forms net.sections) steps ≡ m.steps → meant_by c forms net.sections (answer_record c forms m) steps ≡ m
  answer_there net m steps v e = grind (arith, common_steps)

  -- an answer as it is read
  module _ (h : HeaderRecord) (a : AnswerRecord) (fits : Fits answer_shape.widths (answer_shape.fields a)) (good : answer_shape.good (limits_of c.KIND h) a ≡ true) where
    cost_read : LabelRead a.cost
    cost_read = label_read _ fits.1.1.0 (and_parts (label_fits c.KIND a.cost) _ (and_parts (leb a.outcome 1) _ good).1).0

    module _ (steps : List StepRecord) (count : length steps ≡ a.steps) where
      pub answer_back : (sections : List (Section S)) → answer_record c forms (meant_by c forms sections a steps) ≡ a
      answer_back sections = grind (arith, common_steps)

      pub answer_valid : (net : Net S) → net.stations ≡ h.stations → AllByRecursion (StepValid c forms net.sections) (map (step_from c forms net.sections) steps) → MeantValid c forms net (meant_by c forms net.sections a steps)
      answer_valid net e each =
          let m = meant_by c forms net.sections a steps in
          let same = meant_good_lem h net m e in
          let read = ap (answer_shape.good (limits_of c.KIND h)) (answer_back net.sections) ∙ good in
          record { run = fits.0; filed = (filed_valid c forms net laws m).0 (same ∙ and_from _ _ (ap is_some cost_read.stands.1) read); each = each }
