-- Records and runs of them, to bytes and back, and what stands where one passed.
use Rattle.std.proofs.lemmas.Grind.{common_steps}
use Rattle.std.proofs.Common.{◌≡◌, ℕ, zero, suc, ◌+◌, ◌*◌, ◌<◌, ◌≤◌, Bool, true, false, cond, eqb, ltb, List, [], ◌∷◌, ◌++◌, length, get_or, take, drop, Some, None, Ok, Err, Result, sym, refl, ap, ◌∙◌, ap₂, append_assoc, mul-zero, mul-suc, arith, length-append, length-drop, drop-drop, take-add, drop_at}
use Rattle.std.specs.List.{AllByRecursion, slice_get}
use Rattle.std.proofs.lemmas.Option.{slice_get_past}
use Rattle.std.proofs.lemmas.Bool.{ltb-false, eqb-true}
use Rattle.faults.specs.declared.Fault.{Fault}
use Rattle.records.specs.declared.limits.Limits.{Limits}
use Rattle.records.specs.Bytes.{fields_at, body_of, width_of, Fits, Bytes}
use Rattle.records.specs.Shapes.{Shape, ShapeLaws, size_of, encoded, decoded, decoded_run, encoded_run}
use Rattle.std.specs.Result.{result_and}
use Rattle.records.specs.Due.{due_record, due_run}
use Rattle.records.proofs.Coding.{bytes_drop, length-body, length_fields, fields_fit, fields_body, body_fields}

-- what was passed on the way to an answer
picks : {A : Type 0} (b : Bool) (f : Fault) (a : Result A Fault) (x : A) → cond b (Err f) a ≡ Ok x → (b ≡ false) × (a ≡ Ok x)
picks true f a x e = cc
picks false f a x e = (refl, e)

keeps : {A : Type 0} (b : Bool) (a : Result A Fault) (f : Fault) (x : A) → cond b a (Err f) ≡ Ok x → (b ≡ true) × (a ≡ Ok x)
keeps true a f x e = (refl, e)
keeps false a f x e = cc

pub both : {A B : Type 0} (a : Result A Fault) (b : Result B Fault) (y : B) → result_and a b ≡ Ok y → (x : A) × (a ≡ Ok x) × (b ≡ Ok y)
both (Ok x) b y e = (x, refl, e)
both (Err f) b y e = cc

module _ {R : Type 0} (shape : Shape R) where
  -- what stands where a record passed
  pub record Stands (limits : Limits) (bs : List ℕ) (r : R) : Type 0 where
    pub fits : size_of shape ≤ length bs
    pub kinded : get_or bs 0 0 ≡ shape.byte
    pub is : r ≡ decoded shape bs
    pub good : shape.good limits (decoded shape bs) ≡ true

  pub due_stands : (limits : Limits) (len : ℕ) (bs : List ℕ) (r : R) → due_record shape limits len bs ≡ Ok r → Stands limits bs r
  due_stands limits len [] r e = cc
  due_stands limits len (b ∷ bs) r e =
      let p = keeps (eqb b shape.byte) _ _ r e in
      let q = picks (ltb (length (b ∷ bs)) (size_of shape)) _ _ r p.1 in
      let t = keeps (shape.good limits (decoded shape (b ∷ bs))) _ _ r q.1 in
      let s = t.1 in
      record { fits = ltb-false _ _ q.0; kinded = eqb-true b shape.byte p.0; is = cc; good = t.0 }

  -- what stands where a run of n passed
  pub record RunStands (limits : Limits) (n : ℕ) (bs : List ℕ) : Type 0 where
    pub fits : size_of shape * n ≤ length bs
    pub again : encoded_run shape (decoded_run shape n bs) ≡ take (size_of shape * n) bs
    pub good : AllByRecursion (λ r. shape.good limits r ≡ true) (decoded_run shape n bs)

  -- a run has n records, each at its place
  pub length-decoded_run : (n : ℕ) (bs : List ℕ) → length (decoded_run shape n bs) ≡ n
  length-decoded_run zero bs = refl
  length-decoded_run (suc n) bs = ap suc (length-decoded_run n (drop (size_of shape) bs))

  pub nth_run : (n i : ℕ) (bs : List ℕ) → i < n → slice_get (decoded_run shape n bs) i ≡ Some (decoded shape (drop (size_of shape * i) bs))
  nth_run zero i bs h = absurd (omega arith)
  nth_run (suc n) zero bs h = ap (λ k. Some (decoded shape (drop k bs))) (sym (mul-zero (size_of shape)))
  nth_run (suc n) (suc i) bs h =
      let e : size_of shape + size_of shape * i ≡ size_of shape * suc i = omega (arith, mul-suc (size_of shape) i) in
      nth_run n i (drop (size_of shape) bs) (omega arith)
      ∙ ap (λ l. Some (decoded shape l)) (drop-drop (size_of shape * i) (size_of shape) bs ∙ ap (λ k. drop k bs) e)

  pub nth_run_past : (n i : ℕ) (bs : List ℕ) → n ≤ i → slice_get (decoded_run shape n bs) i ≡ None
  nth_run_past n i bs h = slice_get_past (decoded_run shape n bs) i (omega (arith, length-decoded_run n bs))

module _ {R : Type 0} (shape : Shape R) (laws : ShapeLaws shape) where
  -- a record's bytes
  pub length-encoded : (r : R) → length (encoded shape r) ≡ size_of shape
  length-encoded r = omega (arith, length-body shape.widths (shape.fields r))

  pub decoded-encoded : (r : R) (rest : List ℕ) → Fits shape.widths (shape.fields r) → decoded shape (encoded shape r ++ rest) ≡ r
  decoded-encoded r rest f = ap shape.of (fields_body shape.widths (shape.fields r) (shape.byte ∷ []) rest f) ∙ laws.of_fields r

  fields_decoded : (bs : List ℕ) → shape.fields (decoded shape bs) ≡ fields_at shape.widths bs 1
  fields_decoded bs = laws.fields_of (fields_at shape.widths bs 1) (length_fields shape.widths bs 1)

  pub encoded-decoded : (bs : List ℕ) → Bytes bs → size_of shape ≤ length bs → get_or bs 0 0 ≡ shape.byte → encoded shape (decoded shape bs) ≡ take (size_of shape) bs
  encoded-decoded [] all h k = absurd (omega arith)
  encoded-decoded (b ∷ bs) all h k =
      ap₂ (λ c cs. c ∷ cs) (sym k) (ap (body_of shape.widths) (fields_decoded (b ∷ bs)) ∙ body_fields shape.widths (b ∷ bs) 1 all h)
      ∙ sym (take-add 1 (width_of shape.widths) (b ∷ bs))

  pub decoded_fits : (bs : List ℕ) → Bytes bs → Fits shape.widths (shape.fields (decoded shape bs))
  decoded_fits bs all = rw (fields_decoded bs) (fields_fit shape.widths bs 1 all)

  -- where a record is due
  pub due_written : (limits : Limits) (len : ℕ) (r : R) (rest : List ℕ) → Fits shape.widths (shape.fields r) → shape.good limits r ≡ true → due_record shape limits len (encoded shape r ++ rest) ≡ Ok r
  due_written limits len r rest f g = grind (arith, common_steps, length-append, length-encoded, decoded-encoded)

  -- a run's bytes
  pub length-encoded_run : (rs : List R) → length (encoded_run shape rs) ≡ size_of shape * length rs
  length-encoded_run [] = sym (mul-zero (size_of shape))
  length-encoded_run (r ∷ rs) =
      length-append (encoded shape r) (encoded_run shape rs)
      ∙ omega (arith, length-encoded r, length-encoded_run rs, mul-suc (size_of shape) (length rs))

  pub run_decoded : (rs : List R) (rest : List ℕ) → AllByRecursion (λ r. Fits shape.widths (shape.fields r)) rs → decoded_run shape (length rs) (encoded_run shape rs ++ rest) ≡ rs
  run_decoded [] rest f = refl
  run_decoded (r ∷ rs) rest f =
      let more : List ℕ = encoded_run shape rs ++ rest in
      rw (append_assoc (encoded shape r) (encoded_run shape rs) rest, decoded-encoded r more f.0, drop_at (encoded shape r) more (size_of shape) (length-encoded r), run_decoded rs rest f.1)

  pub run_fits : (n : ℕ) (bs : List ℕ) → Bytes bs → AllByRecursion (λ r. Fits shape.widths (shape.fields r)) (decoded_run shape n bs)
  run_fits zero bs all = tt
  run_fits (suc n) bs all = (decoded_fits bs all, run_fits n (drop (size_of shape) bs) (bytes_drop (size_of shape) bs all))

  -- where a run is due
  pub run_written : (limits : Limits) (len : ℕ) (rs : List R) (rest : List ℕ) → AllByRecursion (λ r. Fits shape.widths (shape.fields r)) rs → AllByRecursion (λ r. shape.good limits r ≡ true) rs → due_run shape limits len (length rs) (encoded_run shape rs ++ rest) ≡ Ok tt
  run_written limits len [] rest f g = refl
  run_written limits len (r ∷ rs) rest f g =
      let more : List ℕ = encoded_run shape rs ++ rest in
      ap (due_run shape limits len (length (r ∷ rs))) (append_assoc (encoded shape r) (encoded_run shape rs) rest)
      ∙ ap₂ result_and (due_written limits len r more f.0 g.0)
      (ap (due_run shape limits len (length rs)) (drop_at (encoded shape r) more (size_of shape) (length-encoded r)) ∙ run_written limits len rs rest f.1 g.1)

  pub run_stands : (limits : Limits) (len n : ℕ) (bs : List ℕ) → Bytes bs → due_run shape limits len n bs ≡ Ok tt → RunStands shape limits n bs
  run_stands limits len zero bs all e =
      let z = mul-zero (size_of shape) in
      record { fits = omega arith; again = ap (λ k. take k bs) (sym z); good = tt }
  run_stands limits len (suc n) bs all e =
      let rest : List ℕ = drop (size_of shape) bs in
      let p = both (due_record shape limits len bs) (due_run shape limits len n rest) tt e in
      let here = due_stands shape limits len bs p.0 p.1 in
      let more = run_stands limits len n rest (bytes_drop (size_of shape) bs all) p.2 in
      let m : size_of shape * suc n ≡ size_of shape + size_of shape * n = omega (arith, mul-suc (size_of shape) n) in
      record {
        fits = omega (arith, length-drop (size_of shape) bs);
        again = ap₂ (λ hs ts. hs ++ ts) (encoded-decoded bs all here.fits here.kinded) more.again
            ∙ sym (ap (λ k. take k bs) m ∙ take-add (size_of shape) (size_of shape * n) bs);
        good = (here.good, more.good);
      }
