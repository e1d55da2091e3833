-- One text for both sides.
use Rattle.std.proofs.Common.{Bool, true, false, true≢false, ◌≡◌, ℕ, suc, ◌+◌, ◌≤◌, refl, sym, ap, arith}
use Rattle.faults.specs.Faults.{opposite}
use Rattle.faults.specs.declared.Side.{Side}
use Rattle.faults.specs.declared.Side.TheVariants.{Forward, Backward}

-- the other side's other side is the side itself
pub opposite_twice : (side : Side) → opposite (opposite side) ≡ side
opposite_twice Forward = refl
opposite_twice Backward = refl

-- what holds of a side and of the other holds of both
pub by_side : (side : Side) (P : Side → Type 0) → P side → P (opposite side) → (s : Side) → P s
by_side Forward P here there Forward = here
by_side Forward P here there Backward = there
by_side Backward P here there Forward = there
by_side Backward P here there Backward = here

-- a relation that can be turned round holds both ways once it holds one way
pub both_ways : {X : Type 0} (R : X → X → Type 0) → ((a b : X) → R a b → R b a) → (f : Side → X) (side : Side) → R (f side) (f (opposite side)) → (s : Side) → R (f s) (f (opposite s))
both_ways R turn f Forward h Forward = h
both_ways R turn f Forward h Backward = turn _ _ h
both_ways R turn f Backward h Forward = turn _ _ h
both_ways R turn f Backward h Backward = h

-- a side's number is a part of the sum
pub part_of : (side : Side) (n : Side → ℕ) → n side ≤ n Forward + n Backward
part_of Forward n = omega arith
part_of Backward n = omega arith

-- one more on a side
abbrev pub bump : Side → (Side → ℕ) → Side → ℕ
bump Forward n Forward = suc (n Forward)
bump Forward n Backward = n Backward
bump Backward n Forward = n Forward
bump Backward n Backward = suc (n Backward)

-- the side has one more, the other side what it had, and both together one more
pub bump_here : (side : Side) (n : Side → ℕ) → bump side n side ≡ suc (n side)
bump_here Forward n = refl
bump_here Backward n = refl

pub bump_there : (side : Side) (n : Side → ℕ) → bump side n (opposite side) ≡ n (opposite side)
bump_there Forward n = refl
bump_there Backward n = refl

pub bump_total : (side : Side) (n : Side → ℕ) → bump side n Forward + bump side n Backward ≡ n Forward + n Backward + 1
bump_total Forward n = omega arith
bump_total Backward n = omega arith

is_forward : Side → Bool
is_forward Forward = true
is_forward Backward = false

-- the other side is another one
pub sides_differ : (side : Side) → opposite side ≡ side → ⊥
unfolding is_forward
sides_differ Forward e = true≢false (sym (ap is_forward e))
sides_differ Backward e = true≢false (ap is_forward e)
