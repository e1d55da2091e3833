-- Amounts: the operations that a kind of cost gives, without limit, and their laws; and what is computed of them.
use Rattle.std.specs.Prelude.{◌≡◌, ℕ, ◌+◌, ◌^◌, ◌<◌, ◌≤◌, Bool, true, cond, ◌⊎◌, List, [], ◌∷◌, nat_le}

pub record Ops (L : Type 0) : Type 0 where
  pub zero : L
  pub plus : L → L → L
  pub minus : L → L → L
  pub leb : L → L → Bool
  pub size : L → ℕ

-- a is at most b
abbrev pub Le : {L : Type 0} → Ops L → L → L → Type 0
Le o a b = o.leb a b ≡ true

pub record Laws {L : Type 0} (o : Ops L) : Type 0 where
  pub comm : (a b : L) → o.plus a b ≡ o.plus b a
  pub assoc : (a b c : L) → o.plus (o.plus a b) c ≡ o.plus a (o.plus b c)
  pub unit : (a : L) → o.plus a o.zero ≡ a
  pub add_sub : (a b : L) → o.minus (o.plus a b) b ≡ a
  pub sub_add : (a b : L) → o.plus (o.minus a b) b ≡ a
  pub le_refl : (a : L) → Le o a a
  pub le_anti : (a b : L) → Le o a b → Le o b a → a ≡ b
  pub le_trans : (a b c : L) → Le o a b → Le o b c → Le o a c
  pub le_total : (a b : L) → Le o a b ⊎ Le o b a
  pub le_plus : (a b c : L) → Le o a b → Le o (o.plus a c) (o.plus b c)
  pub le_cancel : (a b c : L) → Le o (o.plus a c) (o.plus b c) → Le o a b
  pub size_zero : o.size o.zero ≡ 0
  pub size_plus : (a b : L) → o.size (o.plus a b) ≤ o.size a + o.size b
  pub size_minus : (a b : L) → o.size (o.minus a b) ≤ o.size a + o.size b

-- Whether two sizes total at most 2^60.
abbrev pub fits : ℕ → ℕ → Bool
fits m n = nat_le (m + n) (2 ^ 60)

-- What a program computes: exact while the sizes fit, else zero.
abbrev pub computed : {L : Type 0} → Ops L → Ops L
computed o =
    record {
      zero = o.zero;
      plus = λ a b. cond (fits (o.size a) (o.size b)) (o.plus a b) o.zero;
      minus = λ a b. cond (fits (o.size a) (o.size b)) (o.minus a b) o.zero;
      leb = o.leb;
      size = o.size;
    }

-- The sum of what a list's elements are worth.
abbrev pub total : {L X : Type 0} → Ops L → (X → L) → List X → L
total o worth [] = o.zero
total o worth (x ∷ xs) = o.plus (worth x) (total o worth xs)

-- An amount of a section: at least zero, and of size at most 2^32 - 1.
pub record SectionFit {L : Type 0} (o : Ops L) (a : L) : Type 0 where
  pub at_least_zero : Le o o.zero a
  pub small : o.size a < 2 ^ 32

-- What a kind says of its ranges: which amounts a section may have, and which an estimate may be.
pub record RangeLaws {L S : Type 0} (o : Ops L) (worth : S → L) (section_range : S → Type 0) (estimate_range : L → Type 0) : Type 0 where
  -- a section's amount in range is at least zero, and of size at most 2^32 - 1
  pub section : (s : S) → section_range s → SectionFit o (worth s)
  -- an estimate in range is of size at most 2^44 - 1
  pub estimate : (a : L) → estimate_range a → o.size a < 2 ^ 44
  pub zero : estimate_range o.zero
