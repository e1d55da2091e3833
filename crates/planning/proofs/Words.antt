-- Two words on the command line.
use Rattle.std.proofs.Common.{◌≡◌, ℕ, ◌<◌, ◌≤◌, List, [], ◌∷◌, length, map, get_or, codes, Option, Result, option_map, inl, sym, ap₂, subst, arith}
use Rattle.std.specs.Result.{result_ok}
use Rattle.std.specs.Str.Parse.{ParsesUnsigned}
use Rattle.std.specs.declared.num.ParseIntError.{ParseIntError}
use Rattle.planning.specs.declared.asked.Asked.{Asked}
use Rattle.planning.specs.declared.asked.Asked.TheVariants.{File}
use Rattle.planning.specs.Words.{AskedBy}

module _ {X : Type 0} (bytes : X → List ℕ) where
  two : (ws : List X) → 2 ≤ length ws → length ws < 3 → (w n : X) → w ≡ get_or ws 0 w → n ≡ get_or ws 1 n → ws ≡ w ∷ (n ∷ [])
  two [] a b w n e f = absurd (omega arith)
  two (x ∷ []) a b w n e f = absurd (omega arith)
  two (x ∷ (y ∷ [])) a b w n e f = ap₂ (λ s t. s ∷ (t ∷ [])) (sym e) (sym f)
  two (x ∷ (y ∷ (z ∷ zs))) a b w n e f = absurd (omega arith)

  pub file_asked : (ws : List X) → 2 ≤ length ws → length ws < 3 → (w n : X) → w ≡ get_or ws 0 w → n ≡ get_or ws 1 n → (number : List ℕ) → bytes w ≡ codes "file" → number ≡ bytes n → (q : Result ℕ ParseIntError) → ParsesUnsigned 32 10 number q → (asked : Option Asked) → asked ≡ option_map File (result_ok q) → AskedBy (map bytes ws) asked
  file_asked ws a b w n e f number word is q parses asked z =
      subst (λ xs. AskedBy (map bytes xs) asked) (sym (two ws a b w n e f)) (inl (word, (q, subst (λ x. ParsesUnsigned 32 10 x q) is parses, z)))
