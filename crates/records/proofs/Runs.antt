-- A run of records, one at a time from its front.
use Rattle.std.proofs.Common.{◌≡◌, ℕ, suc, ◌+◌, ◌-◌, ◌<◌, List, drop, Ok, Result, arith}
use Rattle.std.specs.Result.{result_and}
use Rattle.faults.specs.declared.Fault.{Fault}
use Rattle.records.specs.declared.limits.Limits.{Limits}
use Rattle.records.specs.Shapes.{Shape, size_of}
use Rattle.records.specs.Due.{due_record, due_run}

module _ {R : Type 0} (shape : Shape R) (limits : Limits) (len : ℕ) (n i : ℕ) (bs : List ℕ) where
  abbrev left : Result (Unit {0}) Fault
  left = due_run shape limits len (n - i) bs

  abbrev behind : Result (Unit {0}) Fault
  behind = due_run shape limits len (n - (i + 1)) (drop (size_of shape) bs)

  run_at : i < n → left ≡ result_and (due_record shape limits len bs) behind
  run_at h = let e : n - i ≡ suc (n - (i + 1)) = omega arith in rw e

  -- and what is behind it, by its parts
  pub run_more : (r : R) → i < n → Ok r ≡ due_record shape limits len bs
      → (limits' : Limits) (len' : ℕ) (bs' : List ℕ) → limits' ≡ limits → len' ≡ len → bs' ≡ drop (size_of shape) bs
      → due_run shape limits' len' (n - (i + 1)) bs' ≡ left
  run_more r h e limits' len' bs' p q t =
      rw (p, q, t, run_at h, ← e)
