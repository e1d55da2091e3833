-- Texts one behind another.
use Rattle.std.specs.Prelude.{ℕ, zero, suc, List, [], ◌++◌}

-- the texts of the numbers below n, in their order
abbrev pub lines : (ℕ → List ℕ) → ℕ → List ℕ
lines text zero = []
lines text (suc n) = lines text n ++ text n
