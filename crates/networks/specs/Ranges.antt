-- A word for what a call with ranges answers.
use Rattle.std.specs.Prelude.{Ok, Err, Result}

-- the answer, seen through f
abbrev pub on_ok : {A B E : Type 0} → (A → B) → Result A E → Result B E
on_ok f (Ok a) = Ok (f a)
on_ok f (Err e) = Err e
