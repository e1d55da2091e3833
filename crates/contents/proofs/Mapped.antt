-- Lists of records seen through what they tell.
use Rattle.std.proofs.Common.{◌≡◌, ℕ, eqb, List, map, Some, None, sym, refl, ap, ◌∙◌}
use Rattle.std.specs.List.{slice_get}
use Rattle.std.proofs.lemmas.Option.{slice_get-map}
use Rattle.faults.specs.declared.Side.{Side}
use Rattle.faults.specs.declared.Side.TheVariants.{Forward, Backward}
use Rattle.amounts.specs.declared.cost.Cost as cost
use Rattle.amounts.specs.Forms.{Forms}
use Rattle.networks.specs.Nets.{starts}
use Rattle.std.specs.Option.{option_map}
use Rattle.records.specs.declared.kinds.SectionRecord.{SectionRecord}
use Rattle.contents.specs.Content.{start_of, section_from}

-- an element that is there, or not, seen through f
pub mapped_some : {X Y : Type 0} (f : X → Y) (xs : List X) (i : ℕ) (x : X) → Some x ≡ slice_get xs i → Some (f x) ≡ slice_get (map f xs) i
mapped_some f xs i x e = ap (option_map f) e ∙ sym (slice_get-map f xs i)

pub mapped_none : {X Y : Type 0} (f : X → Y) (xs : List X) (i : ℕ) → None ≡ slice_get xs i → None ≡ slice_get (map f xs) i
mapped_none f xs i e = ap (option_map f) e ∙ sym (slice_get-map f xs i)

pub same_start : {C L S : Type 0} (c : cost.Ghosts C L S) (forms : Forms L S) (side : Side) (station : ℕ) (r : SectionRecord) → starts side station (section_from c forms r) ≡ eqb (start_of side r) station
same_start c forms Forward station r = refl
same_start c forms Backward station r = refl
