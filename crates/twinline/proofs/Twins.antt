-- The twin line's sections: where they are, and that they are in range.
use Rattle.std.proofs.Common.{◌≡◌, ℕ, zero, suc, ◌+◌, ◌-◌, ◌*◌, ◌/◌, ◌<◌, ◌≤◌, ltb, map, Some, None, sym, le-div_iff_mul-le, div-le_self, arith, lit<}
use Rattle.std.specs.List.{range_with_len, AllByRecursion, slice_get}
use Rattle.std.proofs.lemmas.List.FromFn.{length-map-range_with_len, get_or-map-range_with_len}
use Rattle.std.proofs.lemmas.Option.{slice_get_read, slice_get_past}
use Rattle.std.proofs.lemmas.Bool.{cond_both}
use Rattle.std.proofs.lemmas.Bool.Decides.{nat_tests}
use Rattle.networks.specs.Nets.{SectionInRange, InRange}
use Rattle.amounts.specs.Forms.{SectionRange, section_form}
use Rattle.amounts.specs.declared.forms.SectionForm.{SectionForm}
use Rattle.twinline.specs.declared.twin_line.TwinLine.{TwinLine}
use Rattle.twinline.specs.Held.{line_of}
use Rattle.twinline.specs.Twin.{Line, LineRange, along, section_count, amount_of, numbered, twin_net, cross_place}

module _ {X : Type 0} (f : ℕ → X) where
  pub nth_counting : (n i : ℕ) → i < n → Some (f i) ≡ slice_get (map f (range_with_len 0 n)) i
  nth_counting n i h = sym (slice_get_read (map f (range_with_len 0 n)) n i (f i) (sym (length-map-range_with_len f 0 n)) h (sym (get_or-map-range_with_len f 0 n i i (f i) h (omega arith))))

  pub nth_counting_past : (n i : ℕ) → n ≤ i → None ≡ slice_get (map f (range_with_len 0 n)) i
  nth_counting_past n i h = sym (slice_get_past (map f (range_with_len 0 n)) i (rw (length-map-range_with_len f 0 n) h))

  pub all_counting : (P : X → Type 0) (a n : ℕ) → ((i : ℕ) → a ≤ i → i < a + n → P (f i)) → AllByRecursion P (map f (range_with_len a n))
  all_counting P a zero h = tt
  all_counting P a (suc n) h = (h a (omega arith) (omega arith), all_counting P (a + 1) n (λ i l m. h i (omega arith) (omega arith)))

-- every line at hand is in its range
pub line_range : (t : TwinLine) → LineRange (line_of t)
line_range t = record { counted = t.counted; spaced = t.spaced; fit = t.fit }

module _ (t : Line) (r : LineRange t) where
  -- a crossing's place is on the line
  pub place_within : (rest : ℕ) → rest < 2 * (along t / t.spacing + 1) → rest / 2 * t.spacing ≤ along t
  place_within rest h =
      let k : 0 < t.spacing = omega arith in
      let l : rest / 2 ≤ along t / t.spacing = omega arith in
      (le-div_iff_mul-le {k = t.spacing} {x = rest / 2} {y = along t} k).0 l

module _ {S : Type 0} (range : S → Type 0) (made : SectionForm → S) (kept : (f : SectionForm) → SectionRange f → range (made f)) (t : Line) (r : LineRange t) where
  amount_range : (n : ℕ) → range (amount_of made t n)
  amount_range n =
      cond_both (ltb n (along t)) _ _ range (λ _. kept (section_form 0 t.upper) (record { moves = lit< tt; samples = r.fit.0 }))
      (λ _. cond_both (ltb n (2 * along t)) _ _ range (λ _. kept (section_form 0 t.lower) (record { moves = lit< tt; samples = r.fit.1 }))
      (λ _. kept (section_form 1 t.crossover) (record { moves = lit< tt; samples = r.fit.2 })))

  within : (n : ℕ) → n < section_count t → SectionInRange range (2 * t.count) (numbered made t n)
  within n h =
      let p : cross_place t n ≤ along t = place_within t r (n - 2 * along t) (omega arith) in
      record { from = grind (arith, nat_tests); to = grind (arith, nat_tests); amount = amount_range n }

  pub range_twin : InRange range (twin_net made t)
  range_twin = record {
    some = omega arith;
    few = omega arith;
    launcher = omega arith;
    trap = omega arith;
    short = rw (length-map-range_with_len (numbered made t) 0 (section_count t)) (omega (arith, div-le_self (along t) t.spacing));
    each = all_counting (numbered made t) (SectionInRange range (2 * t.count)) 0 (section_count t) (λ i _ h. within i (omega arith));
  }
