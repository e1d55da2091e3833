-- The records of a page: header, section, estimate, answer, step and end.
use Rattle.std.specs.Prelude.{true, ◌&&◌, ◌||◌, [], ◌∷◌, ◌==◌, nat_le, nat_lt, slice_index}
use Rattle.amounts.specs.Forms.{section_form, label_form, moves_fit}
use Rattle.records.specs.declared.kinds.HeaderRecord.{HeaderRecord}
use Rattle.records.specs.declared.kinds.SectionRecord.{SectionRecord}
use Rattle.records.specs.declared.kinds.EstimateRecord.{EstimateRecord}
use Rattle.records.specs.declared.kinds.AnswerRecord.{AnswerRecord}
use Rattle.records.specs.declared.kinds.StepRecord.{StepRecord}
use Rattle.records.specs.declared.kinds.EndRecord.{EndRecord}
use Rattle.records.specs.Shapes.{Shape}
use Rattle.records.specs.Values.{label_fits}

-- H: cost kind 1, stations 2, sections 2, launcher 2, trap 2
abbrev pub header_shape : Shape HeaderRecord
header_shape = record {
  byte = 0x48;
  widths = 1 ∷ 2 ∷ 2 ∷ 2 ∷ 2 ∷ [];
  of = λ f. record { kind = slice_index f 0; stations = slice_index f 1; sections = slice_index f 2; launcher = slice_index f 3; trap = slice_index f 4 };
  fields = λ h. h.kind ∷ h.stations ∷ h.sections ∷ h.launcher ∷ h.trap ∷ [];
  good = λ l h. (h.kind == l.kind) && (nat_le 1 h.stations && (nat_le h.stations 4096 && (nat_le h.sections 16384 && (nat_lt h.launcher h.stations && nat_lt h.trap h.stations))));
}

-- S: state 1 (0 open, 1 shut), from 2, to 2, moves 2, samples 4
abbrev pub section_shape : Shape SectionRecord
section_shape = record {
  byte = 0x53;
  widths = 1 ∷ 2 ∷ 2 ∷ 2 ∷ 4 ∷ [];
  of = λ f. record { state = slice_index f 0; from = slice_index f 1; to = slice_index f 2; amount = section_form (slice_index f 3) (slice_index f 4) };
  fields = λ s. s.state ∷ s.from ∷ s.to ∷ s.amount.moves ∷ s.amount.samples ∷ [];
  good = λ l s. nat_le s.state 1 && (nat_lt s.from l.stations && (nat_lt s.to l.stations && moves_fit l.kind s.amount.moves));
}

-- E: forward moves 4, samples 6, backward moves 4, samples 6
abbrev pub estimate_shape : Shape EstimateRecord
estimate_shape = record {
  byte = 0x45;
  widths = 4 ∷ 6 ∷ 4 ∷ 6 ∷ [];
  of = λ f. record { forward = label_form (slice_index f 0) (slice_index f 1); backward = label_form (slice_index f 2) (slice_index f 3) };
  fields = λ e. e.forward.moves ∷ e.forward.samples ∷ e.backward.moves ∷ e.backward.samples ∷ [];
  good = λ l e. label_fits l.kind e.forward && label_fits l.kind e.backward;
}

-- A: run 4, outcome 1 (0 route, 1 none), moves 4, samples 6, steps 2, taken 2
abbrev pub answer_shape : Shape AnswerRecord
answer_shape = record {
  byte = 0x41;
  widths = 4 ∷ 1 ∷ 4 ∷ 6 ∷ 2 ∷ 2 ∷ [];
  of = λ f. record { run = slice_index f 0; outcome = slice_index f 1; cost = label_form (slice_index f 2) (slice_index f 3); steps = slice_index f 4; taken = slice_index f 5 };
  fields = λ a. a.run ∷ a.outcome ∷ a.cost.moves ∷ a.cost.samples ∷ a.steps ∷ a.taken ∷ [];
  good = λ l a. nat_le a.outcome 1 && (label_fits l.kind a.cost && (nat_le a.steps 4095 && (nat_lt a.taken l.stations &&
      (a.outcome == 0 || (a.cost.moves == 0 && (a.cost.samples == 0 && a.steps == 0))))));
}

-- P: section 2, moves 4, samples 6
abbrev pub step_shape : Shape StepRecord
step_shape = record {
  byte = 0x50;
  widths = 2 ∷ 4 ∷ 6 ∷ [];
  of = λ f. record { section = slice_index f 0; so_far = label_form (slice_index f 1) (slice_index f 2) };
  fields = λ p. p.section ∷ p.so_far.moves ∷ p.so_far.samples ∷ [];
  good = λ l p. nat_lt p.section l.sections && label_fits l.kind p.so_far;
}

-- Z: nothing more
abbrev pub end_shape : Shape EndRecord
end_shape = record {
  byte = 0x5A;
  widths = [];
  of = λ f. record {};
  fields = λ z. [];
  good = λ l z. true;
}
