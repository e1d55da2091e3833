-- How a fact of what is there is carried on.
use Rattle.std.proofs.Common.{Some, None, Option, option_and_then}
use Rattle.optimality.proofs.Marked.{On, Has}

module _ {X : Type 0} where
  -- what holds of it gives something else that does
  pub on_map : (o : Option X) (P Q : X → Type 0) → ((x : X) → P x → Q x) → On o P → On o Q
  on_map None P Q f h = tt
  on_map (Some x) P Q f h = f x h

  -- there is one, and from it there is another
  pub has_then : {Y : Type 0} (f : X → Option Y) (o : Option X) (P : X → Type 0) (Q : Y → Type 0) → Has o P → ((x : X) → P x → Has (f x) Q) → Has (option_and_then f o) Q
  has_then f None P Q h k = h
  has_then f (Some x) P Q h k = k x h
