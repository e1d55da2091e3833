-- What a write leaves on the page, and that it reads back.
use Rattle.std.proofs.Common.{◌≡◌, ℕ, ◌+◌, ◌*◌, ◌-◌, ◌^◌, ◌≤◌, Bool, true, false, cond, eqb, ltb, List, ◌++◌, map, length, take, drop, Some, None, Ok, Err, Option, sym, refl, ap, ◌∙◌, subst, ap₂, arith}
use Rattle.std.proofs.lemmas.List.{length-map, take_at}
use Rattle.std.proofs.lemmas.Bool.{eqb-true, eq-eqb, ltb-false, le-ltb}
use Rattle.faults.specs.declared.Fault.{Fault}
use Rattle.amounts.specs.declared.cost.Cost as cost
use Rattle.amounts.specs.Forms.{Forms}
use Rattle.records.specs.Bytes.{overlay}
use Rattle.records.specs.Shapes.{encoded, encoded_run}
use Rattle.records.specs.Layout.{header_shape, section_shape, estimate_shape, answer_shape, step_shape, end_shape}
use Rattle.records.proofs.Passing.{length-encoded_run}
use Rattle.contents.specs.Again.{Back, PutOver, NeverRefused, WrittenAgain}
use Rattle.contents.specs.Content.{Meant, Content}
use Rattle.contents.specs.Encoding.{section_record, estimate_record, step_record, answer_record, header_record, answer_encoded, encode, Valid, PageLaws}
use Rattle.records.specs.Due.{page_fault}
use Rattle.faults.specs.declared.Refusal.TheVariants.{EstimateCount, PageTooShort}
use Rattle.contents.specs.Writing.{answer_at, answer_size, placed, needed, answer_fault, write_fault, Written, write_of}
use Rattle.records.specs.Laws.{section_laws, estimate_laws}
use Rattle.contents.proofs.Overlays.{overlay_more, overlay_front, overlay_five}
use Rattle.contents.proofs.Returning.{written_reads, read_again, answer_length, encode_length}
use Rattle.contents.proofs.Holding.{no_fault}
use Rattle.std.proofs.Math.Nat.{min-le_left}

module _ {C L S : Type 0} (c : cost.Ghosts C L S) (forms : Forms L S) where
  -- The answer -----------------------------------------------------------------------------------

  pub answer_size_lem : (o : Option (Meant L)) → length (answer_encoded c forms o) ≡ answer_size o
  answer_size_lem None = refl
  answer_size_lem (Some m) = answer_length c forms m

  -- a page needs the bytes that are written
  pub needed_is : (x : Content L S) → needed x ≡ placed (length (encode c forms x))
  needed_is x = let e : answer_at x + answer_size x.answer + 1 ≡ length (encode c forms x) = omega (arith, encode_length c forms x, answer_size_lem x.answer) in ap placed e

  -- an answer's record, and its steps after it
  pub some_put : (page : List ℕ) (at : ℕ) (o : Option (Meant L)) (m : Meant L) {one two : List ℕ} (next : ℕ) → o ≡ Some m
      → one ≡ overlay page at (encoded answer_shape (answer_record c forms m)) → two ≡ overlay one next (encoded_run step_shape (map (step_record c forms) m.steps))
      → next ≡ at + 20 → next ≤ length page → two ≡ overlay page at (answer_encoded c forms o)
  some_put page at o m next e p q place room =
      rw (e, q, p) (overlay_more page at (encoded answer_shape (answer_record c forms m)) (encoded_run step_shape (map (step_record c forms) m.steps)) next place (omega arith))

  -- The page -------------------------------------------------------------------------------------

  module _ (page : List ℕ) (x : Content L S) where
    -- header, sections, estimates, answer and end, one after another
    pub page_put : {one two three four five : List ℕ} (body pairs after end : ℕ)
        → one ≡ overlay page 0 (encoded header_shape (header_record c forms x.network))
        → two ≡ overlay one body (encoded_run section_shape (map (section_record c forms) x.network.sections))
        → three ≡ overlay two pairs (encoded_run estimate_shape (map (estimate_record c forms) x.estimates))
        → four ≡ overlay three after (answer_encoded c forms x.answer)
        → five ≡ overlay four end (encoded end_shape (record {}))
        → body ≡ 10 → pairs ≡ body + 12 * length x.network.sections → after ≡ pairs + 21 * length x.estimates → end ≡ after + answer_size x.answer
        → end + 1 ≤ length page → five ≡ encode c forms x ++ drop (length (encode c forms x)) page
    page_put body pairs after end p₁ p₂ p₃ p₄ p₅ e₀ e₁ e₂ e₃ room =
        let ss = map (section_record c forms) x.network.sections in
        let es = map (estimate_record c forms) x.estimates in
        let l₁ = length-encoded_run section_shape section_laws ss in
        let l₂ = length-encoded_run estimate_shape estimate_laws es in
        let n₁ = length-map x.network.sections (section_record c forms) in
        let n₂ = length-map x.estimates (estimate_record c forms) in
        let a = answer_size_lem x.answer in
        overlay_five page (encoded header_shape (header_record c forms x.network)) (encoded_run section_shape ss) (encoded_run estimate_shape es) (answer_encoded c forms x.answer) (encoded end_shape (record {})) body pairs after end
        p₁ p₂ p₃ p₄ p₅ (omega arith) (omega arith) (omega arith) (omega arith) room
        ∙ overlay_front page (encode c forms x)

    -- what is answered where a page cannot hold the answer
    pub write_refused : (f : Fault) → length x.estimates ≡ x.network.stations → needed x ≤ length page
        → answer_fault c forms x.network (answer_at x) x.answer ≡ Some f
        → record { answer = Err f; page = page } ≡ write_of c forms page x
    write_refused f counted room bad = rw (eq-eqb _ _ counted, le-ltb _ _ room, bad)

    -- what is answered for any fault
    pub write_faulty : (f : Fault) → write_fault c forms (length page) x ≡ Some f → record { answer = Err f; page = page } ≡ write_of c forms page x
    write_faulty f some = go (eqb (length x.estimates) x.network.stations) refl (ltb (length page) (needed x)) refl some
      where
        inner : Option Fault
        inner = answer_fault c forms x.network (answer_at x) x.answer

        go : (a : Bool) → eqb (length x.estimates) x.network.stations ≡ a → (b : Bool) → ltb (length page) (needed x) ≡ b
            → cond a (cond b (Some (page_fault (PageTooShort (needed x)))) inner) (Some (page_fault (EstimateCount (length x.estimates)))) ≡ Some f
            → record { answer = Err f; page = page } ≡ write_of c forms page x
        go true e false h n = write_refused f (eqb-true _ _ e) (ltb-false _ _ h) n
        go true e true h n = rw (e, h) (cc)
        go false e b h n = rw e (cc)

    -- where nothing is refused, the estimates count the stations, there is room, and a page can hold the answer
    pub nothing_refused : (room : ℕ) → write_fault c forms room x ≡ None
        → (length x.estimates ≡ x.network.stations) × (needed x ≤ room)
        × (answer_fault c forms x.network (answer_at x) x.answer ≡ None)
    nothing_refused room none = go (eqb (length x.estimates) x.network.stations) refl (ltb room (needed x)) refl none
      where
        inner : Option Fault
        inner = answer_fault c forms x.network (answer_at x) x.answer

        go : (a : Bool) → eqb (length x.estimates) x.network.stations ≡ a → (b : Bool) → ltb room (needed x) ≡ b
            → cond a (cond b (Some (page_fault (PageTooShort (needed x)))) inner) (Some (page_fault (EstimateCount (length x.estimates)))) ≡ None
            → (length x.estimates ≡ x.network.stations) × (needed x ≤ room) × (inner ≡ None)
        go true e false f n = (eqb-true _ _ e, ltb-false _ _ f, n)
        go true e true f n = cc
        go false e b f n = cc

    -- what a page can hold is written where there are bytes enough
    module _ (laws : PageLaws c forms) (w : Written c forms) (is : w ≡ write_of c forms page x) where
      pub never_refused : NeverRefused c forms x page w.answer w.page
      never_refused v room =
          let fits : needed x ≤ length page = omega (arith, needed_is x, min-le_left (length (encode c forms x)) (2 ^ 64 - 1)) in
          let whole = is ∙ rw (eq-eqb _ _ v.counted, le-ltb _ _ fits, no_fault c forms x.network laws (answer_at x) x.answer v.answer) in
          record { answered = ap (λ w. w.answer) whole; stands = ap (λ w. w.page) whole }

      pub written_again : WrittenAgain c forms x page w.answer w.page
      written_again bs all passed means room =
          let again = read_again c forms laws bs all passed in
          let valid = subst (Valid c forms) means again.1 in
          let same : encode c forms x ≡ bs = ap (encode c forms) (sym means) ∙ again.0 in
          let Over : List ℕ → Type 0 = λ l. PutOver page l w.answer w.page in
          subst Over same (never_refused valid (omega (arith, ap length same)))

    module _ (n : ℕ) (after : List ℕ) (size : n ≡ 10 + 12 * length x.network.sections + 21 * length x.estimates + answer_size x.answer + 1) (stands : after ≡ encode c forms x ++ drop (length (encode c forms x)) page) where
      encoded_size : n ≡ length (encode c forms x)
      encoded_size = omega (arith, encode_length c forms x, answer_size_lem x.answer)

      -- what is answered where nothing is refused
      pub write_left : length x.estimates ≡ x.network.stations → needed x ≤ length page
          → answer_fault c forms x.network (answer_at x) x.answer ≡ None
          → record { answer = Ok n; page = after } ≡ write_of c forms page x
      write_left counted room good =
          rw (eq-eqb _ _ counted, le-ltb _ _ room, good) (ap₂ (λ k l. record { answer = Ok k; page = l }) encoded_size stands)

      pub write_back : PageLaws c forms → Valid c forms x → Back c forms x (take n after)
      write_back laws v =
          let front : take n after ≡ encode c forms x = rw stands (take_at (encode c forms x) (drop (length (encode c forms x)) page) n (sym encoded_size)) in
          let p = written_reads c forms laws x v in
          rw front (record { accepted = p.0; same = p.1 })
