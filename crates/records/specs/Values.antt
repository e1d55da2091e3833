-- Which amounts a field may show.
use Rattle.std.specs.Prelude.{ℕ, ◌^◌, Bool, ◌&&◌, nat_lt}
use Rattle.amounts.specs.declared.forms.LabelForm.{LabelForm}
use Rattle.amounts.specs.Forms.{moves_fit}

-- an estimate or a cost of a kind
abbrev pub label_fits : ℕ → LabelForm → Bool
label_fits kind form = moves_fit kind form.moves && nat_lt form.samples (2 ^ 44)
