use Rattle.std.proofs.Common.{◌≡◌, ℕ, ◌++◌, ◌<◌, List, IfOk, string_bytes}
use Rattle.showing.specs.Lines.{lines}
use Rattle.showing.proofs.lines.put_lines.Given as goal

-- the first texts stand
abbrev pub invariant-loop-k : goal.invariant-loop-k
invariant-loop-k g l =
    (text : ℕ → List ℕ) → ((k : ℕ) (r : _) → k < l.count → goal.F-post g l.line k r → IfOk r (λ s. string_bytes s ≡ text k))
    → string_bytes l.out ≡ string_bytes l.initial.out ++ lines text l.k
