-- A page's content, written and read back, and a page's bytes, read and written again.
use Rattle.std.proofs.Common.{◌≡◌, ℕ, ◌+◌, ◌*◌, ◌≤◌, Bool, true, false, cond, ltb, List, [], ◌∷◌, ◌++◌, map, length, drop, Some, None, Ok, Option, sym, refl, ap, ◌∙◌, ap₂, arith}
use Rattle.std.proofs.lemmas.List.{length-append, length-map, take-append-drop}
use Rattle.std.proofs.lemmas.Bool.{lt-ltb, cond-true}
use Rattle.amounts.specs.declared.cost.Cost as cost
use Rattle.amounts.specs.Forms.{Forms}
use Rattle.networks.specs.declared.section.Section.{Section}
use Rattle.networks.specs.Nets.{Net, InRange, SectionInRange}
use Rattle.networks.specs.Given.{PairInRange}
use Rattle.records.specs.declared.limits.Limits.{Limits}
use Rattle.records.specs.declared.kinds.HeaderRecord.{HeaderRecord}
use Rattle.records.specs.Bytes.{Bytes}
use Rattle.records.specs.Shapes.{decoded, encoded, decoded_run, encoded_run}
use Rattle.std.specs.Result.{result_and}
use Rattle.records.specs.Due.{due_record, due_run}
use Rattle.records.specs.Layout.{header_shape, section_shape, estimate_shape, answer_shape, step_shape, end_shape}
use Rattle.contents.proofs.Accepting.{section_bytes_all, estimate_bytes_all, answer_bytes_all}
use Rattle.records.proofs.Coding.{bytes_drop}
use Rattle.records.proofs.Passing.{both, due_stands, length-decoded_run, decoded-encoded, encoded-decoded, decoded_fits, due_written, length-encoded_run, run_stands}
use Rattle.contents.specs.Checks.{header_of, section_bytes, estimate_bytes, answer_bytes, has_answer, step_bytes, step_count, limits_of, limits_for, due_end, due_answer, check_page}
use Rattle.contents.specs.Content.{Meant, Content, section_from, pair_from, step_from, net_of, pairs_of, meant_by, content_of}
use Rattle.contents.specs.Encoding.{before_answer, section_record, estimate_record, step_record, answer_record, header_record, answer_encoded, encode, StepValid, MeantValid, AnswerValid, Valid, PageLaws}
use Rattle.contents.proofs.Checking.{answer_ends, page_answer}
use Rattle.records.specs.Laws.{header_laws, section_laws, estimate_laws, answer_laws, step_laws}
use Rattle.contents.proofs.Forming.{Turns, run_passes, run_reads, run_after, run_valid, run_back, section_turns, estimate_turns, step_turns, header_fits, header_good, header_read, answer_fits, answer_good, answer_there, answer_back, answer_valid}

-- the end of a page
abbrev end : List ℕ
end = encoded end_shape (record {})

end_back : (limits : Limits) (len : ℕ) (rest : List ℕ) → due_end limits len rest ≡ Ok tt → end ≡ rest
end_back limits len [] e = cc
end_back limits len (b ∷ []) e =
    let p = both (due_record end_shape limits len (b ∷ [])) _ tt e in
    ap (λ n. n ∷ []) (sym (due_stands end_shape limits len (b ∷ []) p.0 p.1).kinded)
end_back limits len (b ∷ d ∷ bs) e =
    let p = both (due_record end_shape limits len (b ∷ d ∷ bs)) _ tt e in
    cc (sym (cond-true (ltb 1 (length (b ∷ d ∷ bs))) _ _ (lt-ltb 1 _ (omega arith))) ∙ p.2)

module _ {C L S : Type 0} (c : cost.Ghosts C L S) (forms : Forms L S) where
  -- the parts of a page, each with what comes after it
  abbrev ends : Option (Meant L) → List ℕ
  ends o = answer_encoded c forms o ++ end

  abbrev steps_on : Meant L → List ℕ
  steps_on m = encoded_run step_shape (map (step_record c forms) m.steps) ++ end

  abbrev estimates_on : Content L S → List ℕ
  estimates_on x = encoded_run estimate_shape (map (estimate_record c forms) x.estimates) ++ ends x.answer

  abbrev sections_on : Content L S → List ℕ
  sections_on x = encoded_run section_shape (map (section_record c forms) x.network.sections) ++ estimates_on x

  -- the answer by what is left of a page
  abbrev answer_in : List (Section S) → List ℕ → Option (Meant L)
  answer_in sections rest =
      let a = decoded answer_shape rest in
      cond (has_answer rest) (Some (meant_by c forms sections a (decoded_run step_shape a.steps (step_bytes rest)))) None

  -- Bytes and their number -----------------------------------------------------------------------

  pub answer_length : (m : Meant L) → length (answer_encoded c forms (Some m)) ≡ 20 + 13 * length m.steps
  answer_length m =
      let steps = map (step_record c forms) m.steps in
      let e = length-map m.steps (step_record c forms) in
      omega (arith, length-encoded_run step_shape step_laws steps)

  pub before_length : (x : Content L S) → length (before_answer c forms x) ≡ 10 + 12 * length x.network.sections + 21 * length x.estimates
  before_length x =
      let ss = map (section_record c forms) x.network.sections in
      let es = map (estimate_record c forms) x.estimates in
      omega (
        arith,
        length-append (encoded_run section_shape ss) (encoded_run estimate_shape es),
        length-encoded_run section_shape section_laws ss,
        length-encoded_run estimate_shape estimate_laws es,
        length-map x.network.sections (section_record c forms),
        length-map x.estimates (estimate_record c forms),
      )

  pub encode_length : (x : Content L S) → length (encode c forms x) ≡ 10 + 12 * length x.network.sections + 21 * length x.estimates + length (answer_encoded c forms x.answer) + 1
  encode_length x =
      let ss = map (section_record c forms) x.network.sections in
      let es = map (estimate_record c forms) x.estimates in
      omega (
        arith,
        length-append (encoded_run section_shape ss) (estimates_on x),
        length-append (encoded_run estimate_shape es) (ends x.answer),
        length-append (answer_encoded c forms x.answer) end,
        length-encoded_run section_shape section_laws ss,
        length-encoded_run estimate_shape estimate_laws es,
        length-map x.network.sections (section_record c forms),
        length-map x.estimates (estimate_record c forms),
      )

module _ {C L S : Type 0} (c : cost.Ghosts C L S) (forms : Forms L S) (laws : PageLaws c forms) where
  -- What is written is read ----------------------------------------------------------------------

  module _ (net : Net S) (range : InRange c.section_range net) where
    abbrev limits : Limits
    limits = limits_of c.KIND (header_record c forms net)

    -- an answer with its steps
    module _ (m : Meant L) (v : MeantValid c forms net m) where
      abbrev steps_turn : Turns step_shape limits (step_record c forms) (step_from c forms net.sections) (StepValid c forms net.sections)
      steps_turn = step_turns c forms laws (header_record c forms net) net refl range.short

      meant_passes : (len : ℕ) → due_answer limits len (ends c forms (Some m)) ≡ Ok tt
      meant_passes len =
          let a = answer_record c forms m in
          let due = due_written answer_shape answer_laws limits len a (steps_on c forms m) (answer_fits c forms laws net m range.few v) (answer_good c forms laws net m v) in
          let run = run_passes step_laws steps_turn len a.steps m.steps end refl v.each in
          let after = run_after step_laws steps_turn a.steps m.steps end refl in
          sym (answer_ends limits len (ends c forms (Some m)) a refl (sym due) (steps_on c forms m) end refl (sym run) (sym after))

      meant_reads : answer_in c forms net.sections (ends c forms (Some m)) ≡ Some m
      meant_reads =
          ap (λ a. Some (meant_by c forms net.sections a (decoded_run step_shape a.steps (steps_on c forms m)))) (decoded-encoded answer_shape answer_laws (answer_record c forms m) (steps_on c forms m) (answer_fits c forms laws net m range.few v))
          ∙ ap Some (answer_there c forms laws net m (decoded_run step_shape (length m.steps) (steps_on c forms m)) v (run_reads step_laws steps_turn (length m.steps) m.steps end refl v.each))

    answer_passes : (len : ℕ) (o : Option (Meant L)) → AnswerValid c forms net o → due_answer limits len (ends c forms o) ≡ Ok tt
    answer_passes len None v = refl
    answer_passes len (Some m) v = meant_passes m v len

    answer_reads : (o : Option (Meant L)) → AnswerValid c forms net o → answer_in c forms net.sections (ends c forms o) ≡ o
    answer_reads None v = refl
    answer_reads (Some m) v = meant_reads m v

  -- the whole page
  module _ (x : Content L S) (v : Valid c forms x) where
    abbrev written : Net S
    written = x.network

    abbrev head : HeaderRecord
    head = header_record c forms written

    abbrev page : List ℕ
    page = encode c forms x

    abbrev sections_turn : Turns section_shape (limits_of c.KIND head) (section_record c forms) (section_from c forms) (SectionInRange c.section_range written.stations)
    sections_turn = section_turns c forms laws head v.network.few

    abbrev estimates_turn : Turns estimate_shape (limits_of c.KIND head) (estimate_record c forms) (pair_from c forms) (PairInRange c.estimate_range)
    estimates_turn = estimate_turns c forms laws head

    page_passes : check_page c.KIND page ≡ Ok tt
    page_passes =
        let due = due_written header_shape header_laws (limits_for c.KIND) (length page) head (sections_on c forms x) (header_fits c forms laws written v.network) (header_good c forms laws written v.network) in
        sym (page_answer c.KIND page head (sym due) (sections_on c forms x) (estimates_on c forms x) (ends c forms x.answer)
        refl
        (sym (run_passes section_laws sections_turn (length page) head.sections written.sections (estimates_on c forms x) refl v.network.each))
        (sym (run_after section_laws sections_turn head.sections written.sections (estimates_on c forms x) refl))
        (sym (run_passes estimate_laws estimates_turn (length page) head.stations x.estimates (ends c forms x.answer) v.counted v.estimates))
        (sym (run_after estimate_laws estimates_turn head.stations x.estimates (ends c forms x.answer) v.counted)))
        ∙ answer_passes written v.network (length page) x.answer v.answer

    page_reads : content_of c forms page ≡ x
    page_reads =
        let there = decoded-encoded header_shape header_laws head (sections_on c forms x) (header_fits c forms laws written v.network) in
        ap (λ k. content_by k (sections_on c forms x)) there
        ∙ ap₂ (after_sections head)
        (run_reads section_laws sections_turn head.sections written.sections (estimates_on c forms x) refl v.network.each)
        (run_after section_laws sections_turn head.sections written.sections (estimates_on c forms x) refl)
        ∙ ap₂ (λ ps rest. record { network = written; estimates = ps; answer = answer_in c forms written.sections rest })
        (run_reads estimate_laws estimates_turn head.stations x.estimates (ends c forms x.answer) v.counted v.estimates)
        (run_after estimate_laws estimates_turn head.stations x.estimates (ends c forms x.answer) v.counted)
        ∙ ap (λ o. record { network = written; estimates = x.estimates; answer = o }) (answer_reads written v.network x.answer v.answer)
      where
        after_sections : HeaderRecord → List (Section S) → List ℕ → Content L S
        after_sections k ss rest = record {
          network = record { stations = k.stations; launcher = k.launcher; trap = k.trap; sections = ss };
          estimates = map (pair_from c forms) (decoded_run estimate_shape k.stations rest);
          answer = answer_in c forms ss (drop (21 * k.stations) rest);
        }

        content_by : HeaderRecord → List ℕ → Content L S
        content_by k rest = after_sections k (map (section_from c forms) (decoded_run section_shape k.sections rest)) (drop (12 * k.sections) rest)

  pub written_reads : (x : Content L S) → Valid c forms x → (check_page c.KIND (encode c forms x) ≡ Ok tt) × (content_of c forms (encode c forms x) ≡ x)
  written_reads x v = (page_passes x v, page_reads x v)

  -- What passes is written again -----------------------------------------------------------------

  -- of the answer or the end, with the network that was read before
  module _ (h : HeaderRecord) (net : Net S) (stations : net.stations ≡ h.stations) (count : length net.sections ≡ h.sections) (few : h.sections ≤ 16384) (len : ℕ) (rest : List ℕ) (all : Bytes rest) where
    abbrev left : Limits
    left = limits_of c.KIND h

    abbrev steps_at : List ℕ
    steps_at = step_bytes rest

    abbrev meant : Meant L
    meant = meant_by c forms net.sections (decoded answer_shape rest) (decoded_run step_shape (step_count rest) steps_at)

    meant_back : result_and (due_record answer_shape left len rest) (result_and (due_run step_shape left len (step_count rest) steps_at) (due_end left len (drop (13 * step_count rest) steps_at))) ≡ Ok tt
        → (ends c forms (Some meant) ≡ rest) × MeantValid c forms net meant
    meant_back e =
        let a = decoded answer_shape rest in
        let steps = decoded_run step_shape a.steps steps_at in
        let p = both (due_record answer_shape left len rest) _ tt e in
        let q = both (due_run step_shape left len a.steps steps_at) _ tt p.2 in
        let here = due_stands answer_shape left len rest p.0 p.1 in
        let fits = decoded_fits answer_shape answer_laws rest all in
        let n = length-decoded_run step_shape a.steps steps_at in
        let turns = step_turns c forms laws h net count few in
        let all' = bytes_drop 20 rest all in
        let run = run_stands step_shape step_laws left len a.steps steps_at all' q.1 in
        let front = ap (encoded answer_shape) (answer_back c forms laws h a fits here.good steps n net.sections) ∙ encoded-decoded answer_shape answer_laws rest all here.fits here.kinded in
        let back = ap (λ l. encoded_run step_shape (map (step_record c forms) meant.steps) ++ l) (end_back left len (drop (13 * a.steps) steps_at) q.2) ∙ run_back step_laws turns a.steps steps_at all' run in (
          ap₂ (λ l r. l ++ r) front back ∙ take-append-drop 20 rest,
          answer_valid c forms laws h a fits here.good steps n net stations (run_valid step_laws turns a.steps steps_at all' run),
        )

    answer_again : due_answer left len rest ≡ Ok tt → (ends c forms (answer_in c forms net.sections rest) ≡ rest) × AnswerValid c forms net (answer_in c forms net.sections rest)
    answer_again e = go (has_answer rest) e
      where
        go : (b : Bool)
            → cond b (result_and (due_record answer_shape left len rest) (result_and (due_run step_shape left len (step_count rest) steps_at) (due_end left len (drop (13 * step_count rest) steps_at)))) (due_end left len rest) ≡ Ok tt
            → (ends c forms (cond b (Some meant) None) ≡ rest) × AnswerValid c forms net (cond b (Some meant) None)
        go true e = meant_back e
        go false e = (end_back left len rest e, tt)

  -- the whole page
  pub read_again : (bs : List ℕ) → Bytes bs → check_page c.KIND bs ≡ Ok tt → (encode c forms (content_of c forms bs) ≡ bs) × Valid c forms (content_of c forms bs)
  read_again bs all e =
      let h = header_of bs in
      let len = length bs in
      let limits = limits_of c.KIND h in
      let net = net_of c forms bs in
      let p = both (due_record header_shape (limits_for c.KIND) len bs) _ tt e in
      let q = both (due_run section_shape limits len h.sections (section_bytes bs)) _ tt p.2 in
      let t = both (due_run estimate_shape limits len h.stations (estimate_bytes bs)) _ tt q.2 in
      let here = due_stands header_shape (limits_for c.KIND) len bs p.0 p.1 in
      let r = header_read c forms laws h here.good in
      let all₁ = section_bytes_all bs all in
      let all₂ = estimate_bytes_all bs all in
      let sections = section_turns c forms laws h r.2 in
      let estimates = estimate_turns c forms laws h in
      let run₁ = run_stands section_shape section_laws limits len h.sections (section_bytes bs) all₁ q.1 in
      let run₂ = run_stands estimate_shape estimate_laws limits len h.stations (estimate_bytes bs) all₂ t.1 in
      let n₁ : length net.sections ≡ h.sections = length-map (decoded_run section_shape h.sections (section_bytes bs)) (section_from c forms) ∙ length-decoded_run section_shape h.sections (section_bytes bs) in
      let n₂ = length-map (decoded_run estimate_shape h.stations (estimate_bytes bs)) (pair_from c forms) ∙ length-decoded_run estimate_shape h.stations (estimate_bytes bs) in
      let again = answer_again h net refl n₁ r.3 len (answer_bytes bs) (answer_bytes_all bs all) t.2 in
      let front = ap₂ (λ k n. encoded header_shape (record { kind = k; stations = h.stations; sections = n; launcher = h.launcher; trap = h.trap })) (sym r.0) n₁ ∙ encoded-decoded header_shape header_laws bs all here.fits here.kinded in
      let behind₂ = ap (λ l. encoded_run estimate_shape (map (estimate_record c forms) (pairs_of c forms bs)) ++ l) again.0 ∙ run_back estimate_laws estimates h.stations (estimate_bytes bs) all₂ run₂ in
      let behind₁ = ap (λ l. encoded_run section_shape (map (section_record c forms) net.sections) ++ l) behind₂ ∙ run_back section_laws sections h.sections (section_bytes bs) all₁ run₁ in (
        ap₂ (λ l m. l ++ m) front behind₁ ∙ take-append-drop 10 bs,
        record {
          network = record { some = r.1; few = r.2; launcher = r.4; trap = r.5; short = omega arith; each = run_valid section_laws sections h.sections (section_bytes bs) all₁ run₁ };
          counted = n₂;
          estimates = run_valid estimate_laws estimates h.stations (estimate_bytes bs) all₂ run₂;
          answer = again.1;
        },
      )
