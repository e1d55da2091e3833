-- What an answer says, and what a `?` passes on.
use Rattle.std.proofs.Common.{◌≡◌, ℕ, Bool, cond, List, Ok, Err, Result, IsErrAnd, sym, subst}
use Rattle.std.proofs.lemmas.Result.{err_from_is_err_and}
use Rattle.faults.specs.declared.Fault.{Fault}
use Rattle.planning.specs.declared.error.PlanError.{PlanError}
use Rattle.planning.specs.declared.error.PlanError.TheVariants.{Refused, OutOfMemory}
use Rattle.planning.specs.Answering.{Answered}

module _ {X : Type 0} (bytes : X → List ℕ) where
  pub answered_more : (r : Result X PlanError) (P Q : Result (List ℕ) Fault → Type 0) → ((y : Result (List ℕ) Fault) → P y → Q y) → Answered bytes r P → Answered bytes r Q
  answered_more (Ok x) P Q more known = more (Ok (bytes x)) known
  answered_more (Err (Refused f)) P Q more known = more (Err f) known
  answered_more (Err OutOfMemory) P Q more known = known

  -- a fault that is passed on
  pub passed_on : (r : Result X PlanError) (f : Fault) (P : Result (List ℕ) Fault → Type 0) → IsErrAnd r (λ e. e ≡ Refused f) → P (Err f) → Answered bytes r P
  passed_on r f P passed known =
      let (e, is, same) = err_from_is_err_and r passed in
      subst (λ r. Answered bytes r P) (sym is) (subst (λ e. Answered bytes (Err e) P) (sym same) known)

  -- for the kind that the page names
  pub exact_for : (b k : Bool) (r : Result X PlanError) (x y : Result (List ℕ) Fault) → b ≡ k → Answered bytes r (λ z. z ≡ cond k x y) → Answered bytes r (λ z. z ≡ cond b x y)
  exact_for b k r x y is known = subst (λ b. Answered bytes r (λ z. z ≡ cond b x y)) (sym is) known

  -- what is so of any answer
  pub answered_any : (r : Result X PlanError) (P : Result (List ℕ) Fault → Type 0) → ((y : Result (List ℕ) Fault) → P y) → Answered bytes r P
  answered_any (Ok x) P any = any (Ok (bytes x))
  answered_any (Err (Refused f)) P any = any (Err f)
  answered_any (Err OutOfMemory) P any = tt
