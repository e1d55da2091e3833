-- Records by their places on a page.
use Rattle.std.proofs.lemmas.Grind.{common_steps}
use Rattle.std.proofs.Common.{◌≡◌, ℕ, ◌+◌, ◌-◌, ◌*◌, ◌<◌, ◌≤◌, List, length, drop, Some, None, Option, sym, ap, ◌∙◌, arith, length-drop, drop-drop, MatchOption}
use Rattle.std.specs.List.{slice_get}
use Rattle.records.specs.Shapes.{Shape, size_of, decoded, decoded_run}
use Rattle.records.proofs.Passing.{nth_run}

-- the k-th of the records has room
pub room : (from size count k len : ℕ) → k < count → from + size * count ≤ len → from + size * k + size ≤ len
room from size count k len h l = grind (arith, common_steps)

pub front_is : {R : Type 0} (shape : Shape R) (r : Option R) (bs : List ℕ) → MatchOption r (length bs < size_of shape) (λ x. (size_of shape ≤ length bs) × (x ≡ decoded shape bs)) → size_of shape ≤ length bs → r ≡ Some (decoded shape bs)
front_is shape None bs h l = absurd (omega arith)
front_is shape (Some x) bs h l = ap Some h.1

pub nth_there : {R : Type 0} (shape : Shape R) (bytes : List ℕ) (from count k : ℕ) (r : Option R) (bs : List ℕ) → k < count → from + size_of shape * count ≤ length bytes → bs ≡ drop (from + size_of shape * k) bytes → MatchOption r (length bs < size_of shape) (λ x. (size_of shape ≤ length bs) × (x ≡ decoded shape bs)) → r ≡ slice_get (decoded_run shape count (drop from bytes)) k
nth_there shape bytes from count k r bs h l e cases =
    let size = size_of shape in
    let there = room from size count k (length bytes) h l in
    let left : length bs ≡ length bytes - (from + size * k) = ap length e ∙ length-drop (from + size * k) bytes in
    front_is shape r bs cases (omega arith)
    ∙ ap (λ l. Some (decoded shape l)) (e ∙ sym (drop-drop (size * k) from bytes))
    ∙ sym (nth_run shape count k (drop from bytes) h)
