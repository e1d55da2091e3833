-- What the words on the command line ask for.
use Rattle.std.specs.Prelude.{◌≡◌, ℕ, codes, List, [], ◌∷◌, Some, None, Option, Result, option_map, ◌⊎◌}
use Rattle.std.specs.Result.{result_ok}
use Rattle.std.specs.Str.Parse.{ParsesUnsigned}
use Rattle.std.specs.declared.num.ParseIntError.{ParseIntError}
use Rattle.planning.specs.declared.asked.Asked.{Asked}
use Rattle.planning.specs.declared.asked.Asked.TheVariants.{Plan, File}

-- a filed page under this run, if the word reads as a number of 32 bits, else nothing
abbrev pub FileAsked : List ℕ → Option Asked → Type 0
FileAsked word asked = (run : Result ℕ ParseIntError) × ParsesUnsigned 32 10 word run × (asked ≡ option_map File (result_ok run))

-- a plan where there is no word, a filed page for `file RUN`, and nothing for other words
abbrev pub AskedBy : List (List ℕ) → Option Asked → Type 0
AskedBy [] asked = asked ≡ Some Plan
AskedBy (word ∷ []) asked = asked ≡ None
AskedBy (word ∷ number ∷ []) asked = ((word ≡ codes "file") × FileAsked number asked) ⊎ ((word ≡ codes "file" → ⊥) × (asked ≡ None))
AskedBy (word ∷ number ∷ third ∷ words) asked = asked ≡ None
