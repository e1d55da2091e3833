-- From what holds of a mark, where there is one, to the mark itself, and back.
use Rattle.std.proofs.Common.{◌≡◌, Some, None, Option, refl}
use Rattle.optimality.proofs.Marked.{On, Has}

module _ {X : Type 0} where
  -- the mark, and what holds of it
  pub has_parts : (x : Option X) (P : X → Type 0) → Has x P → (y : X) × (x ≡ Some y) × P y
  has_parts None P h = absurd h
  has_parts (Some y) P h = (y, refl, h)

  -- a mark is there, and P holds of it
  pub has_from : (x : Option X) (P : X → Type 0) (y : X) → x ≡ Some y → P y → Has x P
  has_from x P y e h = rw e h

  -- what holds where there is a mark, at one that is there
  pub on_at : (x : Option X) (P : X → Type 0) (y : X) → x ≡ Some y → On x P → P y
  on_at x P y e h = rw e at h

  -- what holds of each mark that is there
  pub on_from : (x : Option X) (P : X → Type 0) → ((y : X) → x ≡ Some y → P y) → On x P
  on_from None P f = tt
  on_from (Some y) P f = f y refl
