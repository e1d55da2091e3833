-- The first bytes of a reader whose bytes are known.
use Rattle.std.proofs.Common.{◌≡◌, ℕ, List, [], ◌++◌, take, Some, None, Option, IfSome, ap, ◌∙◌, subst}
use Rattle.std.specs.Option.{option_map}
use Rattle.showing.specs.Reading.{first_bytes}

first_of : (known : Option (List ℕ)) (limit : ℕ) (before page : List ℕ) → limit ≡ 16384 → before ≡ []
    → IfSome (option_map (take limit) known) (λ bytes. page ≡ before ++ bytes) → IfSome known (λ bytes. page ≡ first_bytes bytes)
first_of None limit before page l b put = tt
first_of (Some bytes) limit before page l b put = put ∙ ap (λ front. front ++ take limit bytes) b ∙ ap (λ n. take n bytes) l

-- what is read up to the limit, behind nothing
pub read_up_to : (inner known : Option (List ℕ)) (limit : ℕ) (before page : List ℕ) → inner ≡ known → limit ≡ 16384 → before ≡ []
    → IfSome (option_map (take limit) inner) (λ bytes. page ≡ before ++ bytes) → IfSome known (λ bytes. page ≡ first_bytes bytes)
read_up_to inner known limit before page same l b put = subst (λ k. IfSome k (λ bytes. page ≡ first_bytes bytes)) same (first_of inner limit before page l b put)
