-- What the laws of amounts give: ordered groups whose sum is commutative.
use Rattle.std.proofs.Common.{◌≡◌, Bool, true, false, true≢false, inl, inr, sym, refl, ap, ◌∙◌, subst, subst₂}
use Rattle.amounts.specs.Amount.{Ops, Laws, Le}

module _ {L : Type 0} {o : Ops L} (l : Laws o) where
  infixl 60 ◌⊕◌
  abbrev ◌⊕◌ : L → L → L
  a ⊕ b = o.plus a b

  -- Sums ---------------------------------------------------------------------------------------

  -- zero on the left
  pub unit_left : (a : L) → o.plus o.zero a ≡ a
  unit_left a = l.comm o.zero a ∙ l.unit a

  -- the first two of three amounts change places
  pub left_comm : (a b c : L) → a ⊕ (b ⊕ c) ≡ b ⊕ (a ⊕ c)
  left_comm a b c = sym (l.assoc a b c) ∙ ap (λ x. x ⊕ c) (l.comm a b) ∙ l.assoc b a c

  -- what is added on both sides may go
  pub cancel : (a b c : L) → a ⊕ c ≡ b ⊕ c → a ≡ b
  cancel a b c e = sym (l.add_sub a c) ∙ ap (λ x. o.minus x c) e ∙ l.add_sub b c

  -- (x + e) - f is x + (e - f)
  pub minus_plus : (x e f : L) → o.minus (x ⊕ e) f ≡ x ⊕ o.minus e f
  minus_plus x e f = cancel _ _ f (l.sub_add (x ⊕ e) f ∙ sym (l.assoc x (o.minus e f) f ∙ ap (o.plus x) (l.sub_add e f)))

  -- a difference and the one turned round cancel
  pub opposite_sum : (e f : L) → o.minus e f ⊕ o.minus f e ≡ o.zero
  opposite_sum e f =
      cancel _ _ e
      (l.assoc (o.minus e f) (o.minus f e) e ∙ ap (o.plus (o.minus e f)) (l.sub_add f e) ∙ l.sub_add e f ∙ sym (unit_left e))

  -- Order --------------------------------------------------------------------------------------

  -- equal amounts are at most each other
  pub le_of_eq : (a b : L) → a ≡ b → Le o a b
  le_of_eq a b e = subst (λ x. Le o a x) e (l.le_refl a)

  -- the test says no: the other way round it says yes
  pub le_of_not : (a b : L) → o.leb a b ≡ false → Le o b a
  le_of_not a b e = elim (l.le_total a b) [ inl h ↦ absurd (true≢false (sym h ∙ e)) | inr h ↦ h ]

  -- orders add up
  pub le_add : (a b c d : L) → Le o a b → Le o c d → Le o (a ⊕ c) (b ⊕ d)
  le_add a b c d h k =
      l.le_trans _ _ _ (l.le_plus a b c h) (subst₂ (Le o) (l.comm c b) (l.comm d b) (l.le_plus c d b k))

  -- an order, with c added on the left
  pub le_left : (a b c : L) → Le o a b → Le o (c ⊕ a) (c ⊕ b)
  le_left a b c h = le_add c c a b (l.le_refl c) h

  -- an order, with each end written another way
  pub le_at : (x y p q : L) → Le o p q → x ≡ p → y ≡ q → Le o x y
  le_at x y p q h e f = subst₂ (Le o) (sym e) (sym f) h

  -- an order, from the one with c added at both ends
  pub le_by : (c x y p q : L) → Le o p q → x ⊕ c ≡ p → y ⊕ c ≡ q → Le o x y
  le_by c x y p q h e f = l.le_cancel x y c (le_at _ _ _ _ h e f)

  -- an order of doubles is one of the amounts
  pub le_half : (a b : L) → Le o (a ⊕ a) (b ⊕ b) → Le o a b
  le_half a b h = go (o.leb a b) refl
    where
      go : (t : Bool) → o.leb a b ≡ t → Le o a b
      go true e = e
      go false e =
          let under : Le o (b ⊕ b) (b ⊕ a) = le_left b a b (le_of_not a b e) in
          l.le_cancel a b a (l.le_trans _ _ _ h under)

  -- and the other way
  pub le_double : (a b : L) → Le o a b → Le o (a ⊕ a) (b ⊕ b)
  le_double a b h = le_add a b a b h h

  -- a difference of at most c
  pub minus_le : (e f c : L) → Le o (o.minus e f) c → Le o e (c ⊕ f)
  minus_le e f c h = le_at _ _ _ _ (l.le_plus (o.minus e f) c f h) (sym (l.sub_add e f)) refl

  -- Keys, each twice a label and a drop --------------------------------------------------------

  -- along a section of amount c one estimate falls from e to e', against it the other from f' to f: by how much the
  -- first is above the second falls by at most twice c
  reduced : (e e' f f' c a b : L) → a ⊕ f ≡ e → b ⊕ f' ≡ e' → Le o e (c ⊕ e') → Le o f' (c ⊕ f) → Le o a (b ⊕ (c ⊕ c))
  reduced e e' f f' c a b at ah h k =
      le_by (f ⊕ f') _ _ _ _ (le_add e (c ⊕ e') f' (c ⊕ f) h k)
      (rw (← at) (simp (l.assoc, l.comm, left_comm)))
      (rw (← ah) (simp (l.assoc, l.comm, left_comm)))

  -- the same, of the drops as differences
  pub drop_le : (e e' f f' c : L) → Le o (o.minus e e') c → Le o (o.minus f' f) c → Le o (o.minus e f) (o.minus e' f' ⊕ (c ⊕ c))
  drop_le e e' f f' c h k =
      reduced e e' f f' c (o.minus e f) (o.minus e' f') (l.sub_add e f) (l.sub_add e' f') (minus_le e e' c h) (minus_le f' f c k)

  -- a label g that grows by c, where the drop falls by at most twice c: the key does not fall
  pub key_rises : (g c p q : L) → Le o p (q ⊕ (c ⊕ c)) → Le o ((g ⊕ g) ⊕ p) (((g ⊕ c) ⊕ (g ⊕ c)) ⊕ q)
  key_rises g c p q h = le_at _ _ _ _ (le_left p (q ⊕ (c ⊕ c)) (g ⊕ g) h) refl (simp (l.assoc, l.comm, left_comm))

  -- keys of one drop are ordered as their labels
  pub key_half : (a b p : L) → Le o ((a ⊕ a) ⊕ p) ((b ⊕ b) ⊕ p) → Le o a b
  key_half a b p h = le_half a b (l.le_cancel (a ⊕ a) (b ⊕ b) p h)

  -- keys whose drops cancel add up to twice the labels' sum
  pub key_pair : (g h p q : L) → p ⊕ q ≡ o.zero → ((g ⊕ g) ⊕ p) ⊕ ((h ⊕ h) ⊕ q) ≡ (g ⊕ h) ⊕ (g ⊕ h)
  key_pair g h p q e =
      let split : ((g ⊕ g) ⊕ p) ⊕ ((h ⊕ h) ⊕ q) ≡ ((g ⊕ h) ⊕ (g ⊕ h)) ⊕ (p ⊕ q) = simp (l.assoc, left_comm) in
      split ∙ ap (o.plus ((g ⊕ h) ⊕ (g ⊕ h))) e ∙ l.unit _
