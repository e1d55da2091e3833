-- An accepted page is the bytes of what it means, and so the only one.
use Rattle.std.proofs.Common.{◌≡◌, ℕ, List, Ok, sym, ap, ◌∙◌}
use Rattle.amounts.specs.declared.cost.Cost as cost
use Rattle.amounts.specs.Forms.{Forms}
use Rattle.records.specs.Bytes.{Bytes}
use Rattle.contents.specs.Again.{Again}
use Rattle.contents.specs.Checks.{check_page}
use Rattle.contents.specs.Encoding.{PageLaws, encode}
use Rattle.contents.proofs.Returning.{read_again}

pub again_of : {C L S : Type 0} (c : cost.Ghosts C L S) (forms : Forms L S) (laws : PageLaws c forms) (bs : List ℕ) → Bytes bs → check_page c.KIND bs ≡ Ok tt → Again c forms bs
again_of c forms laws bs all e =
    let here = read_again c forms laws bs all e in
    record {
      same = here.0;
      valid = here.1;
      alone = λ other all' e' same. sym (read_again c forms laws other all' e').0 ∙ ap (encode c forms) same ∙ here.0;
    }
