-- A page is accepted for no kind of cost but the one that it names.
use Rattle.std.proofs.Common.{◌≡◌, ℕ, ◌≤◌, true, List, length, get_or, is_ok, sym, ap, ◌∙◌, arith}
use Rattle.std.proofs.lemmas.Bool.{and_parts, eqb-true}
use Rattle.amounts.specs.declared.cost.Cost as cost
use Rattle.amounts.specs.Forms.{Forms}
use Rattle.records.specs.Due.{due_record}
use Rattle.records.specs.Layout.{header_shape}
use Rattle.records.proofs.Passing.{both, due_stands}
use Rattle.contents.specs.Checks.{check_page, header_of, limits_for}
use Rattle.contents.proofs.Accepting.{ok_is}
use Rattle.showing.specs.Shown.{checked, shown_for, PageShown}

-- the kind stands behind the record's own byte
kind_stands : (bs : List ℕ) → (header_of bs).kind ≡ get_or bs 1 0
kind_stands bs = omega (arith)

named : (kind : ℕ) (bs : List ℕ) → is_ok (check_page kind bs) ≡ true → (10 ≤ length bs) × (get_or bs 1 0 ≡ kind)
named kind bs ok =
    let whole = ok_is (check_page kind bs) ok in
    let p = both (due_record header_shape (limits_for kind) (length bs) bs) _ whole.0 whole.1 in
    let stands = due_stands header_shape (limits_for kind) (length bs) bs p.0 p.1 in
    let good = and_parts _ _ stands.good in
    (stands.fits, sym (kind_stands bs) ∙ eqb-true (header_of bs).kind kind good.0)

pub refused : (kind : ℕ) (page : List ℕ) → (10 ≤ length page → get_or page 1 0 ≡ kind → ⊥) → is_ok (check_page kind page) ≡ true → ⊥
refused kind page other ok = let so = named kind page ok in other so.0 so.1

module _ {C L S : Type 0} (c : cost.Ghosts C L S) (forms : Forms L S) (page text : List ℕ) where
  pub shown_accepted : text ≡ shown_for c forms page → PageShown c forms page text
  shown_accepted is ok = is ∙ ap (checked c forms page) (ok_is (check_page c.KIND page) ok).1

  pub shown_of_another : (10 ≤ length page → get_or page 1 0 ≡ c.KIND → ⊥) → PageShown c forms page text
  shown_of_another other ok = absurd (refused c.KIND page other ok)
