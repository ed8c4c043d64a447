-- Reducible words and least words.
use Rattle.std.proofs.Common.{◌≡◌, ◌≢◌, ℕ, ◌↔◌, refl, sym, ◌∙◌, ap, subst, List, length, arith, ◌⊎◌, inl, inr, ⊎_elim}
use Rattle.std.specs.declared.cmp.Ordering.TheVariants.{Less}
use Rattle.monomial_order.specs.Monomial.{Exponents, product, Divides, IsMultiple}
use Rattle.word_laws.specs.Words.{Letters, AreLetters, word_order_of, image_of, IsWord, IsSWord, IsSmaller, IsReducible, IsMinimalReducible, IsLeast, IsZeroClosed, IsZeroDecided}
use Rattle.monomial_order.specs.laws.Monomial.{product_comm, IsMonomial-product}
use Rattle.monomial_order.specs.laws.Cofactors.{cofactor, divides_or_not, length-product_right, Divides-trans, Divides-product}
use Rattle.monomial_order.specs.laws.Lists.{find_member}
use Rattle.monomial_order.specs.laws.Comparing.{equal_or_not, monomial_or_not, less_or_not, three_ways, degree_falls, proper_divisor}
use Rattle.monomial_order.specs.laws.Rank.{IsWithin, below_induction, lists, within_listed}
use Rattle.word_laws.specs.laws.Words.{word_laws, image_x, image_times, s_smaller}

-- a word is reducible in both senses if its image counts as zero in both
pub reducible_zeros : (Y Z : List ℕ → Type 0) (L : Letters) (w : Exponents) → (Y (image_of L w) → Z (image_of L w)) → IsReducible Y L w → IsReducible Z L w
reducible_zeros Y Z L w h r = ⊎_elim (λ z. inl (h z)) inr r

-- if the same monomials count as zero, the minimal reducible words are the same
pub minimal_zeros : (Y Z : List ℕ → Type 0) (L : Letters) (w : Exponents) → ((m : Exponents) → Y m → Z m) → ((m : Exponents) → Z m → Y m) → IsMinimalReducible Y L w → IsMinimalReducible Z L w
minimal_zeros Y Z L w h k m = record {
  word = m.word;
  reducible = reducible_zeros Y Z L w (h (image_of L w)) m.reducible;
  minimal = λ v hv rv d. m.minimal v hv (reducible_zeros Z Y L v (k (image_of L v)) rv) d;
}

pub multiple_closed : (n : ℕ) (zeros : List Exponents) → IsZeroClosed n (IsMultiple zeros)
multiple_closed n zeros k m hk hm h = (h.0, h.1, Divides-trans h.0 m (product k m) h.2 (subst (Divides m) (product_comm m k) (Divides-product m k)))

pub multiple_decided : (n : ℕ) (zeros : List Exponents) → IsZeroDecided n (IsMultiple zeros)
multiple_decided n zeros m h =
    ⊎_elim (λ r. inl (r.0, r.1, r.2)) (λ none. inr (λ r. none r.0 r.1 r.2)) (find_member (λ k. Divides k m) (λ k. divides_or_not k m) zeros)

module _ (L : Letters) (H : AreLetters L) where
  smaller_or_not : (w v : Exponents) → IsSmaller L w v ⊎ (IsSmaller L w v → ⊥)
  smaller_or_not w v =
      ⊎_elim
      (λ a. ⊎_elim
      (λ b. ⊎_elim (λ c. inl (record { word = a; image = b; less = c })) (λ c. inr (λ h. c h.less)) (less_or_not ((word_order_of L).compare v w)))
      (λ b. inr (λ h. b h.image)) (equal_or_not (image_of L v) (image_of L w)))
      (λ a. inr (λ h. a h.word)) (monomial_or_not (word_order_of L).places v)

  smaller_within : (d : ℕ) (w v : Exponents) → IsWithin (word_order_of L) (word_laws L H) d w → IsSmaller L w v → IsWithin (word_order_of L) (word_laws L H) d v
  smaller_within d w v h k = record { monomial = k.word; degree = let f = degree_falls (word_order_of L) (word_laws L H) v w k.less in let e = h.degree in omega arith }

  -- there is a smaller word with the image, or none
  pub find_smaller : (d : ℕ) (w : Exponents) → IsWithin (word_order_of L) (word_laws L H) d w → ((v : Exponents) × IsSmaller L w v) ⊎ ((v : Exponents) → IsSmaller L w v → ⊥)
  find_smaller d w h =
      ⊎_elim (λ r. inl (r.0, r.2)) (λ r. inr (λ v k. r v (within_listed (word_order_of L) (word_laws L H) d v (smaller_within d w v h k)) k))
      (find_member (IsSmaller L w) (smaller_or_not w) (lists (word_order_of L).places d))

  -- each word has a least word with its image
  least_within : (d : ℕ) (w : Exponents) → IsWithin (word_order_of L) (word_laws L H) d w → (v : Exponents) × IsLeast L (image_of L w) v
  least_within d =
      below_induction (word_order_of L) (word_laws L H) d (λ w. (v : Exponents) × IsLeast L (image_of L w) v)
      (λ w h ih. ⊎_elim
      (λ r. let v = ih r.0 (smaller_within d w r.0 h r.1) r.1.less in (v.0, subst (λ m. IsLeast L m v.0) r.1.image v.1))
      (λ none. (w, record { word = h.monomial; image = refl; least = none }))
      (find_smaller d w h))

  pub within_own : (w : Exponents) → IsWord L w → IsWithin (word_order_of L) (word_laws L H) ((word_order_of L).degree w) w
  within_own w h = record { monomial = h; degree = omega arith }

  pub least_word : (w : Exponents) → IsWord L w → (v : Exponents) × IsLeast L (image_of L w) v
  least_word w h = least_within ((word_order_of L).degree w) w (within_own w h)

  pub least_unique : (m u v : Exponents) → IsLeast L m u → IsLeast L m v → u ≡ v
  least_unique m u v h k =
      ⊎_elim (λ a. absurd (k.least u (record { word = h.word; image = h.image ∙ sym k.image; less = a })))
      (λ b. ⊎_elim (λ e. e) (λ a. absurd (h.least v (record { word = k.word; image = k.image ∙ sym h.image; less = a }))) b)
      (three_ways (word_order_of L) (word_laws L H) u v)

  -- the least word with the image of an s-word is an s-word
  pub least_s_word : (m u v : Exponents) → IsLeast L m v → IsSWord L u → image_of L u ≡ m → IsSWord L v
  least_s_word m u v h hu e =
      ⊎_elim (λ a. s_smaller L H v u hu (record { word = h.word; image = h.image ∙ sym e; less = a }))
      (λ b. ⊎_elim (λ q. subst (IsSWord L) (sym q) hu) (λ a. absurd (h.least u (record { word = hu.0; image = e ∙ sym h.image; less = a }))) b)
      (three_ways (word_order_of L) (word_laws L H) v u)

  module _ (IsZero : List ℕ → Type 0) (closed : IsZeroClosed (length L.degrees) IsZero) where
    -- multiples of reducible words are reducible
    pub reducible_times : (k w : Exponents) → IsWord L k → IsWord L w → IsReducible IsZero L w → IsReducible IsZero L (product k w)
    reducible_times k w hk hw h =
        ⊎_elim
        (λ z. inl (subst IsZero (sym (image_times L H k w)) (closed (image_of L k) (image_of L w) (image_x L H k) (image_x L H w) z)))
        (λ s. inr (
          product k s.0,
          record {
            word = IsMonomial-product (word_order_of L).places k s.0 hk s.1.word;
            image = image_times L H k s.0 ∙ (ap (product (image_of L k)) s.1.image ∙ sym (image_times L H k w));
            less = (word_laws L H).kept k s.0 w hk.trimmed s.1.word.trimmed hw.trimmed ∙ s.1.less;
          },
        ))
        h

    pub reducible_multiple : (u w : Exponents) → IsWord L u → IsWord L w → Divides u w → IsReducible IsZero L u → IsReducible IsZero L w
    reducible_multiple u w hu hw d h =
        let k = cofactor u w hu.trimmed hw.trimmed d in
        subst (IsReducible IsZero L) (product_comm k.0 u ∙ k.2)
        (reducible_times k.0 u
        (record {
          trimmed = k.1;
          within =
              let l = length-product_right u k.0 in
              let e : length (product u k.0) ≡ length w = ap length k.2 in
              let m = hw.within in omega arith;
        })
        hu h)

    module _ (decided : IsZeroDecided (length L.degrees) IsZero) where
      pub reducible_or_not : (w : Exponents) → IsWord L w → IsReducible IsZero L w ⊎ (IsReducible IsZero L w → ⊥)
      reducible_or_not w h =
          ⊎_elim (λ z. inl (inl z))
          (λ n. ⊎_elim (λ s. inl (inr s)) (λ none. inr (λ r. ⊎_elim n (λ s. none s.0 s.1) r)) (find_smaller ((word_order_of L).degree w) w (within_own w h)))
          (decided (image_of L w) (image_x L H w))

      record IsDivisor (w v : Exponents) : Type 0 where
        word : IsWord L v
        divides : Divides v w
        differs : v ≢ w
        reducible : IsReducible IsZero L v

      divisor_or_not : (w v : Exponents) → IsDivisor w v ⊎ (IsDivisor w v → ⊥)
      divisor_or_not w v =
          ⊎_elim
          (λ t. ⊎_elim
          (λ d. ⊎_elim (λ e. inr (λ x. x.differs e))
          (λ n. ⊎_elim (λ r. inl (record { word = t; divides = d; differs = n; reducible = r })) (λ r. inr (λ x. r x.reducible)) (reducible_or_not v t))
          (equal_or_not v w))
          (λ n. inr (λ x. n x.divides)) (divides_or_not v w))
          (λ n. inr (λ x. n x.word)) (monomial_or_not (word_order_of L).places v)

      divisor_within : (d : ℕ) (w v : Exponents) → IsWithin (word_order_of L) (word_laws L H) d w → IsDivisor w v → IsWithin (word_order_of L) (word_laws L H) d v × ((word_order_of L).compare v w ≡ Less)
      divisor_within d w v h k =
          let p = proper_divisor (word_order_of L) (word_laws L H) v w h.monomial k.word.trimmed k.divides k.differs in
          let l = p.1 in let e = h.degree in
          (record { monomial = k.word; degree = omega arith }, (word_laws L H).degree_first v w l)

      minimal_within : (d : ℕ) (w : Exponents) → IsWithin (word_order_of L) (word_laws L H) d w → IsReducible IsZero L w → (u : Exponents) × IsMinimalReducible IsZero L u × Divides u w
      minimal_within d =
          below_induction (word_order_of L) (word_laws L H) d (λ w. IsReducible IsZero L w → (u : Exponents) × IsMinimalReducible IsZero L u × Divides u w)
          (λ w h ih red. ⊎_elim
          (λ r.
          let s = divisor_within d w r.0 h r.2 in
          let m = ih r.0 s.0 s.1 r.2.reducible in
          (m.0, m.1, λ i. let a = m.2 i in let b = r.2.divides i in omega arith))
          (λ none. (
            w,
            record {
              word = h.monomial;
              reducible = red;
              minimal = λ v hv rv d2. ⊎_elim (λ e. e)
                  (λ n. let k : IsDivisor w v = record { word = hv; divides = d2; differs = n; reducible = rv } in
                  absurd (none v (within_listed (word_order_of L) (word_laws L H) d v (divisor_within d w v h k).0) k))
                  (equal_or_not v w);
            },
            λ i. omega arith,
          ))
          (find_member (IsDivisor w) (divisor_or_not w) (lists (word_order_of L).places d)))

      -- a word is reducible exactly if a minimal reducible word divides it
      pub reducible_exactly : (w : Exponents) → IsWord L w → IsReducible IsZero L w ↔ ((u : Exponents) × IsMinimalReducible IsZero L u × Divides u w)
      reducible_exactly w h =
          (λ r. minimal_within ((word_order_of L).degree w) w (within_own w h) r, λ u. reducible_multiple u.0 w u.1.word h u.2 u.1.reducible)
