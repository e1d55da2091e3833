-- What is worked out by number is what is drawn.
use Rattle.std.proofs.Common.{◌≡◌, ℕ, ◌+◌, ◌-◌, ◌*◌, ◌/◌, ◌%◌, ◌<◌, ◌≤◌, ◌↔◌, Some, None, sym, refl, ap, ◌∙◌, subst, subst₂, ⊎_elim, arith}
use Rattle.std.proofs.lemmas.Bool.{cases_lt, cases_eq}
use Rattle.std.proofs.lemmas.Nat.{le-div}
use Rattle.std.proofs.lemmas.Bool.Decides.{nat_tests}
use Rattle.std.proofs.lemmas.Option.{none-some, same_Some}
use Rattle.amounts.specs.Forms.{section_form}
use Rattle.amounts.specs.declared.forms.SectionForm.{SectionForm}
use Rattle.networks.specs.declared.section.Section.{Section}
use Rattle.twinline.specs.Twin.{Line, LineRange, along, section_count, cross_place, open_section, numbered}
use Rattle.twinline.specs.Drawn.{Drawn, upper_run, lower_run, down, up}
use Rattle.twinline.proofs.Twins.{place_within}

module _ {S : Type 0} (made : SectionForm → S) (t : Line) (r : LineRange t) where
  abbrev crossed : S
  crossed = made (section_form 1 t.crossover)

  -- the numbered section in each stretch
  at_upper : (n : ℕ) → n < along t → numbered made t n ≡ open_section n (n + 1) (made (section_form 0 t.upper))
  at_upper n h = grind (arith, nat_tests)

  at_lower : (n : ℕ) → along t ≤ n → n < 2 * along t → numbered made t n ≡ open_section (t.count + (n - along t)) (t.count + (n - along t) + 1) (made (section_form 0 t.lower))
  at_lower n l h = grind (arith, nat_tests)

  at_down : (n : ℕ) → 2 * along t ≤ n → (n - 2 * along t) % 2 ≡ 0 → numbered made t n ≡ open_section (cross_place t n) (t.count + cross_place t n) crossed
  at_down n l e = grind (arith, nat_tests)

  at_up : (n : ℕ) → 2 * along t ≤ n → ((n - 2 * along t) % 2 ≡ 0 → ⊥) → numbered made t n ≡ open_section (t.count + cross_place t n) (cross_place t n) crossed
  at_up n l e = grind (arith, nat_tests)

  as_drawn : (n m : ℕ) (s r : Section S) → m ≡ n → r ≡ s → Drawn made t m r → Drawn made t n s
  as_drawn n m s r e f d = subst₂ (Drawn made t) e f d

  pub drawn_at : (n : ℕ) → n < section_count t → Drawn made t n (numbered made t n)
  drawn_at n h =
      ⊎_elim
      (λ l. as_drawn n n _ _ refl (sym (at_upper n l)) (upper_run n (omega arith)))
      (λ l. ⊎_elim
      (λ k. as_drawn n _ _ _ (omega arith) (sym (at_lower n l k)) (lower_run (n - along t) (omega arith)))
      (λ k.
      let p : cross_place t n ≤ along t = place_within t r (n - 2 * along t) (omega arith) in
      ⊎_elim
      (λ e. as_drawn n _ _ _ (omega arith) (sym (at_down n k e)) (down ((n - 2 * along t) / 2) (omega arith)))
      (λ e. as_drawn n _ _ _ (omega arith) (sym (at_up n k e)) (up ((n - 2 * along t) / 2) (omega arith)))
      (cases_eq ((n - 2 * along t) % 2) 0))
      (cases_lt n (2 * along t)))
      (cases_lt n (along t))

  -- a multiple of the spacing on the line is one of the crossings
  few : (j : ℕ) → j * t.spacing < t.count → j ≤ along t / t.spacing
  few j h = le-div j (along t) t.spacing (omega arith) (omega arith)

  pub at_drawn : (n : ℕ) (s : Section S) → Drawn made t n s → (n < section_count t) × (numbered made t n ≡ s)
  at_drawn n s (upper_run i h) = (omega arith, at_upper i (omega arith))
  at_drawn n s (lower_run i h) =
      let e : t.count - 1 + i - along t ≡ i = omega arith in
      (omega arith, at_lower (t.count - 1 + i) (omega arith) (omega arith) ∙ ap (λ k. open_section (t.count + k) (t.count + k + 1) (made (section_form 0 t.lower))) e)
  at_drawn n s (down j h) =
      let f = few j h in
      let e : (2 * (t.count - 1) + 2 * j - 2 * along t) / 2 ≡ j = omega arith in
      (omega arith, at_down (2 * (t.count - 1) + 2 * j) (omega arith) (omega arith) ∙ ap (λ k. open_section (k * t.spacing) (t.count + k * t.spacing) crossed) e)
  at_drawn n s (up j h) =
      let f = few j h in
      let e : (2 * (t.count - 1) + 2 * j + 1 - 2 * along t) / 2 ≡ j = omega arith in
      (omega arith, at_up (2 * (t.count - 1) + 2 * j + 1) (omega arith) (λ z. omega arith) ∙ ap (λ k. open_section (t.count + k * t.spacing) (k * t.spacing) crossed) e)

  -- what Section answers, there and beyond
  pub drawn_here : (n : ℕ) → n < section_count t → (s : Section S) → (Some (numbered made t n) ≡ Some s) ↔ Drawn made t n s
  drawn_here n h s = (
    λ e. subst (Drawn made t n) (same_Some _ _ e) (drawn_at n h),
    λ d. ap Some (at_drawn n s d).1,
  )

  pub drawn_past : (n : ℕ) → section_count t ≤ n → (s : Section S) → (None ≡ Some s) ↔ Drawn made t n s
  drawn_past n h s = (
    λ e. absurd (none-some s e),
    λ d. absurd (omega (arith, (at_drawn n s d).0)),
  )
