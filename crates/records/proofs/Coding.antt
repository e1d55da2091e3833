-- Numbers and fields, to bytes and back.
use Rattle.std.proofs.Common.{◌≡◌, ℕ, zero, suc, ◌+◌, ◌*◌, ◌/◌, ◌%◌, ◌^◌, ◌<◌, ◌≤◌, List, [], ◌∷◌, ◌++◌, length, get_or, take, drop, sym, refl, ap, ◌∙◌, ap₂, append_assoc, pow-suc, arith, length-append, length-drop, get_or-drop, take-suc, drop-drop, get_or-append-add, take-add}
use native.Mathlib.Nat.{pow-zero}
use lib.Seq.{get_or_at}
use Rattle.std.proofs.lemmas.List.{length_push}
use Rattle.std.proofs.lemmas.List.Elements.{All-from_recursion, recursion_from_All, All-drop}
use Rattle.records.specs.Bytes.{number_at, bytes_of, fields_at, body_of, width_of, Fits, Bytes}

pub bytes_drop : (n : ℕ) (bs : List ℕ) → Bytes bs → Bytes (drop n bs)
bytes_drop n bs h = recursion_from_All _ (drop n bs) (All-drop (λ b. b < 256) n bs (All-from_recursion _ bs h))

-- the bytes of a number
pub length-bytes : (w n : ℕ) → length (bytes_of w n) ≡ w
length-bytes zero n = refl
length-bytes (suc w) n = length_push (bytes_of w (n / 256)) (n % 256) ∙ omega (arith, length-bytes w (n / 256))

-- the number of some bytes
byte_below : (bs : List ℕ) (i : ℕ) → Bytes bs → get_or bs i 0 < 256
byte_below [] i all = omega arith
byte_below (b ∷ bs) zero all = all.0
byte_below (b ∷ bs) (suc i) all = byte_below bs i all.1

pub number_below : (w i : ℕ) (bs : List ℕ) → Bytes bs → number_at w bs i < 256 ^ w
number_below zero i bs all = omega (arith, pow-zero 256)
number_below (suc w) i bs all = omega (arith, pow-suc 256 w, number_below w i bs all, byte_below bs (i + w) all)

-- a number that fits its bytes is read back
pub number_bytes : (w n : ℕ) (pre rest : List ℕ) → n < 256 ^ w → number_at w (pre ++ (bytes_of w n ++ rest)) (length pre) ≡ n
number_bytes zero n pre rest h = omega (arith, pow-zero 256)
number_bytes (suc w) n pre rest h =
    let high : List ℕ = bytes_of w (n / 256) in
    let k : n / 256 < 256 ^ w = omega (arith, pow-suc 256 w) in
    let p : number_at w (pre ++ (high ++ n % 256 ∷ rest)) (length pre) ≡ n / 256 = number_bytes w (n / 256) pre (n % 256 ∷ rest) k in
    let q : get_or (pre ++ (high ++ n % 256 ∷ rest)) (length pre + w) 0 ≡ n % 256 =
    get_or-append-add pre (high ++ n % 256 ∷ rest) w 0 ∙ get_or_at high (n % 256) rest 0 w (length-bytes w (n / 256)) in
    rw (append_assoc high (n % 256 ∷ []) rest, p, q) (omega arith)

-- and bytes are those of their number
pub bytes_number : (w i : ℕ) (bs : List ℕ) → Bytes bs → i + w ≤ length bs → bytes_of w (number_at w bs i) ≡ take w (drop i bs)
bytes_number zero i bs all h = refl
bytes_number (suc w) i bs all h =
    let n : ℕ = number_at w bs i in
    let b : ℕ = get_or bs (i + w) 0 in
    let below = byte_below bs (i + w) all in
    let p : (n * 256 + b) / 256 ≡ n = omega arith in
    let q : (n * 256 + b) % 256 ≡ get_or (drop i bs) w 0 = omega (arith, get_or-drop i bs w 0) in
    let k : w < length (drop i bs) = omega (arith, length-drop i bs) in
    ap₂ (λ hs l. hs ++ l ∷ []) (ap (bytes_of w) p ∙ bytes_number w i bs all (omega arith)) q ∙ sym (take-suc (drop i bs) w 0 k)

-- the bytes of fields
pub length-body : (ws vs : List ℕ) → length (body_of ws vs) ≡ width_of ws
length-body [] vs = refl
length-body (w ∷ ws) [] = simp (length-append, length-bytes, length-body ws [])
length-body (w ∷ ws) (v ∷ vs) = simp (length-append, length-bytes, length-body ws vs)

-- the fields of some bytes
pub length_fields : (ws bs : List ℕ) (i : ℕ) → length (fields_at ws bs i) ≡ length ws
length_fields [] bs i = refl
length_fields (w ∷ ws) bs i = ap suc (length_fields ws bs (i + w))

pub fields_fit : (ws bs : List ℕ) (i : ℕ) → Bytes bs → Fits ws (fields_at ws bs i)
fields_fit [] bs i all = tt
fields_fit (w ∷ ws) bs i all = (number_below w i bs all, fields_fit ws bs (i + w) all)

-- fields that fit are read back
pub fields_body : (ws vs pre rest : List ℕ) → Fits ws vs → fields_at ws (pre ++ (body_of ws vs ++ rest)) (length pre) ≡ vs
fields_body [] [] pre rest f = refl
fields_body [] (v ∷ vs) pre rest f = absurd f
fields_body (w ∷ ws) [] pre rest f = absurd f
fields_body (w ∷ ws) (v ∷ vs) pre rest f =
    let more : List ℕ = body_of ws vs ++ rest in
    let here : List ℕ = bytes_of w v in
    let l : length (pre ++ here) ≡ length pre + w = length-append pre here ∙ ap (λ n. length pre + n) (length-bytes w v) in
    let q : fields_at ws (pre ++ (here ++ more)) (length pre + w) ≡ vs =
    sym (ap₂ (fields_at ws) (append_assoc pre here more) l) ∙ fields_body ws vs (pre ++ here) rest f.1 in
    ap (λ bs. fields_at (w ∷ ws) (pre ++ bs) (length pre)) (append_assoc here (body_of ws vs) rest)
    ∙ ap₂ (λ n ns. n ∷ ns) (number_bytes w v pre more f.0) q

-- and bytes are those of their fields
pub body_fields : (ws bs : List ℕ) (i : ℕ) → Bytes bs → i + width_of ws ≤ length bs → body_of ws (fields_at ws bs i) ≡ take (width_of ws) (drop i bs)
body_fields [] bs i all h = refl
body_fields (w ∷ ws) bs i all h =
    ap₂ (λ hs ts. hs ++ ts) (bytes_number w i bs all (omega arith))
    (body_fields ws bs (i + w) all (omega arith) ∙ ap (take (width_of ws)) (sym (drop-drop w i bs)))
    ∙ sym (take-add w (width_of ws) (drop i bs))
