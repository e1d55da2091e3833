-- The laws of each shape.
use Rattle.std.specs.Prelude.{refl}
use Rattle.std.proofs.Common.{lit<, lit≤}
use Rattle.records.specs.Shapes.{ShapeLaws}
use Rattle.records.specs.Fields.{placed_all}
use Rattle.records.specs.Layout.{header_shape, section_shape, estimate_shape, answer_shape, step_shape, end_shape}

pub header_laws : ShapeLaws header_shape
header_laws = record { byte = lit< tt; short = lit≤ tt; of_fields = λ r. refl; fields_of = placed_all 5 }

pub section_laws : ShapeLaws section_shape
section_laws = record { byte = lit< tt; short = lit≤ tt; of_fields = λ r. refl; fields_of = placed_all 5 }

pub estimate_laws : ShapeLaws estimate_shape
estimate_laws = record { byte = lit< tt; short = lit≤ tt; of_fields = λ r. refl; fields_of = placed_all 4 }

pub answer_laws : ShapeLaws answer_shape
answer_laws = record { byte = lit< tt; short = lit≤ tt; of_fields = λ r. refl; fields_of = placed_all 6 }

pub step_laws : ShapeLaws step_shape
step_laws = record { byte = lit< tt; short = lit≤ tt; of_fields = λ r. refl; fields_of = placed_all 3 }

pub end_laws : ShapeLaws end_shape
end_laws = record { byte = lit< tt; short = lit≤ tt; of_fields = λ r. refl; fields_of = placed_all 0 }
