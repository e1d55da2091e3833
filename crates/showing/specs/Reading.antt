-- How much of what comes in is read as a page.
use Rattle.std.specs.Prelude.{ℕ, List, take}

-- the first 16,384 bytes, or all where there are fewer
abbrev pub first_bytes : List ℕ → List ℕ
first_bytes bytes = take 16384 bytes
