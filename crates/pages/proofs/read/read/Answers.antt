use Rattle.std.proofs.Common.{Ok, is_ok, sym, refl, ap, ◌∙◌, arith}
use Rattle.std.proofs.lemmas.Result.{err_from_is_err_and}
use Rattle.contents.specs.Checks.{header_of, check_page}
use Rattle.contents.proofs.Accepting.{headed_ok, headed_err, kind_is, test_from_each, bytes_from_test}
use Rattle.contents.specs.Encoding.{PageLaws}
use Rattle.contents.proofs.Alone.{again_of}
use Rattle.contents.proofs.Firsts.{first_told}
use Rattle.pages.proofs.read.read.Goals as goal

pub returns-in_err-header : goal.returns-in_err-header
returns-in_err-header g c =
    let bs = c.args.page.now in
    let kind = g.C.Cost.KIND in
    let p = err_from_is_err_and c.from_residual.result c.from_residual.ensures.1 in
    let answer = headed_err (header_of bs) (check_page kind bs) _ (c.in_err-header.ensures) in
    rw (p.1, p.2) (record { answer = answer; reasons = first_told kind bs _ answer; filled = refl; again = tt })

pub invariant_of-view : goal.invariant_of-view
invariant_of-view g c =
    let bs = c.args.page.now in
    let kind = g.C.Cost.KIND in
    let told = headed_ok _ (header_of bs) (check_page kind bs) (c.in_ok-header.ensures) in
    let same = kind_is kind bs told.1 in
    record {
      bytes_fit = test_from_each bs (λ i. omega (arith, c.type_inv.page i));
      headed = told.0;
      accepted = ap (λ h. is_ok (check_page h.kind bs)) told.0 ∙ ap (λ k. is_ok (check_page k bs)) same ∙ ap is_ok told.1;
    }

pub returns : goal.returns
returns g c =
    let bs = c.args.page.now in
    let kind = g.C.Cost.KIND in
    let told = headed_ok _ (header_of bs) (check_page kind bs) (c.in_ok-header.ensures) in
    let all = bytes_from_test bs (test_from_each bs (λ i. omega (arith, c.type_inv.page i))) in
    let laws : PageLaws g.C.Cost g.C.PageCost.forms = record { ranges = g.met.C.Cost.ranges; sections = g.met.C.PageCost.sections; labels = g.met.C.PageCost.labels; kinds = g.met.C.PageCost.kinds } in
    record { answer = sym told.1; reasons = first_told kind bs (Ok tt) (sym told.1); filled = refl; again = again_of g.C.Cost g.C.PageCost.forms laws bs all told.1 }
