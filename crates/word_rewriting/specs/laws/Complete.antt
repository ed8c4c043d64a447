-- The criterion: rules are complete exactly if their left sides generate the reducible words.
use Rattle.std.proofs.Common.{◌≡◌, ℕ, ◌+◌, ◌≤◌, ◌↔◌, refl, subst, List, [], length, get_or, arith, Some, None, Contains}
use Rattle.monomial_order.specs.Monomial.{Exponents, product, Divides, IsMonomial, IsMultiple, least_common_multiple as lcm, weighted_degree}
use Rattle.monomial_order.specs.laws.Monomial.{IsTrimmed-product, IsTrimmed-least_common_multiple as IsTrimmed-lcm}
use Rattle.monomial_order.specs.laws.Cofactors.{Divides-product, Divides-trans, least_common_multiple_least, Divides-product_right}
use Rattle.monomial_order.specs.laws.Comparing.{divisor_degree}
use Rattle.monomial_order.specs.laws.Lists.{contains_at}
use Rattle.word_laws.specs.Words.{Letters, AreLetters, word_order_of, image_of, IsWord, IsSWord, IsReducible, IsMinimalReducible, IsLeast, IsZeroClosed}
use Rattle.word_laws.specs.laws.Words.{word_laws, x_word, image_same, degree_image, degree_x}
use Rattle.word_laws.specs.laws.Reducible.{least_s_word}
use Rattle.word_rewriting.specs.Rewriting.{WordOrZero, RewriteRule, Rewrites, HasLeftDivisor, IsNormalForm}
use Rattle.word_rewriting.specs.Completeness.{AreInX, AreRewriteRules, AreComplete, GeneratesReducible, HaveDegreesTo, IsLeastOrZero, IsMinimalLeftSide, AreReducedRules, lead_letter}
use Rattle.word_rewriting.specs.laws.Rewriting.{rule_rewrites, none_stays}
use Rattle.word_rewriting.specs.laws.Criterion.{reducible_divided}
use Rattle.word_rewriting.specs.laws.Letters.{letter_image, letter_word}
use Rattle.word_rewriting.specs.laws.NormalForms.{pair_images, generated_joinable, divided_reducible, left_reducible, form_least, minimal_left, left_minimal}

-- Members of Z are monomials in the x that count as zero, and to the degree c each such monomial is a multiple of one.
pub record GenerateZeros (IsZero : Exponents → Type 0) (L : Letters) (Z : List Exponents) (c : ℕ) : Type 0 where
  pub in_x : AreInX L Z
  pub zero : (z : Exponents) → Contains Z z → IsZero z
  pub generate : (m : Exponents) → IsMonomial (length L.degrees) m → weighted_degree L.degrees m ≤ c → IsZero m → IsMultiple Z m

-- the multiples of Z are these
pub zero_multiples : (L : Letters) (Z : List Exponents) → AreInX L Z → (c : ℕ) → GenerateZeros (IsMultiple Z) L Z c
zero_multiples L Z h c = record { in_x = h; zero = λ z k. (z, k, λ i. omega arith); generate = λ m hm d k. k }

module _ (IsZero : Exponents → Type 0) (L : Letters) (H : AreLetters L) (R : List RewriteRule) (rules : AreRewriteRules IsZero L R) (Z : List Exponents) where
  -- the left sides of complete rules generate the reducible words
  pub complete_generates : (c : ℕ) → GenerateZeros IsZero L Z c → AreComplete Z L R c → GeneratesReducible IsZero L R c
  complete_generates c zs k w hw d red =
      reducible_divided IsZero L H R rules c k.pairs k.leads Z zs.in_x zs.generate k.zeros w (record { monomial = hw; degree = d }) red

  -- rules whose left sides divide those of R generate as much
  pub divisors_generate : (c : ℕ) → GeneratesReducible IsZero L R c → (S : List RewriteRule) →
      ((r : RewriteRule) → Contains R r → (word_order_of L).degree r.left ≤ c → HasLeftDivisor S r.left) → GeneratesReducible IsZero L S c
  divisors_generate c generates S divide w hw d red =
      let r = generates w hw d red in
      let e = divisor_degree (word_order_of L) (word_laws L H) r.0.left w (rules r.0 r.1).0.trimmed hw.trimmed r.2 in
      let s = divide r.0 r.1 (omega arith) in
      (s.0, s.1, Divides-trans s.0.left r.0.left w s.2 r.2)

  module _ (closed : IsZeroClosed (length L.degrees) IsZero) where
    -- rules whose left sides generate the reducible words are complete
    pub generates_complete : (c : ℕ) → GenerateZeros IsZero L Z c → GeneratesReducible IsZero L R c → AreComplete Z L R c
    generates_complete c zs generates = record {
      leads = λ i l e.
          let lead = H.leads (get_or L.leads i []) (contains_at L.leads i [] l) in
          generated_joinable IsZero L H R rules closed c generates (get_or L.leads i []) (Some (get_or L.leads i [])) (Some (lead_letter L i))
          (let x = degree_x L H (get_or L.leads i []) lead in omega arith)
          (x_word L H (get_or L.leads i []) lead, image_same L H (get_or L.leads i []) lead)
          (letter_word L i l, letter_image L i);
      zeros = λ z l e.
          let j = generated_joinable IsZero L H R rules closed c generates z (Some z) None
          (let x = degree_x L H z (zs.in_x z l) in omega arith)
          (x_word L H z (zs.in_x z l), image_same L H z (zs.in_x z l))
          (zs.zero z l) in
          subst (Rewrites R (Some z)) (none_stays R j.2 refl) j.1;
      pairs = λ r s hr hs e a b p.
          let i = pair_images IsZero L H R rules closed r s hr hs a b p in
          generated_joinable IsZero L H R rules closed c generates (image_of L (lcm r.left s.left)) a b
          (let x = degree_image L H (lcm r.left s.left) in omega arith) i.0 i.1;
    }

    -- rules that are complete up to the double of a bound are complete up to every degree
    pub complete_more : (d c : ℕ) → HaveDegreesTo Z L R d → AreComplete Z L R (d + d) → AreComplete Z L R c
    complete_more d c b k = record {
      leads = λ i l e. k.leads i l (let x = b.leads (get_or L.leads i []) (contains_at L.leads i [] l) in omega arith);
      zeros = λ z l e. k.zeros z l (let x = b.zeros z l in omega arith);
      pairs = λ r s hr hs e. k.pairs r s hr hs
          (let x = b.lefts r hr in let y = b.lefts s hs in
          let t = (rules r hr).0.trimmed in let u = (rules s hs).0.trimmed in
          let p = (word_laws L H).degree_product r.left s.left in
          let q = divisor_degree (word_order_of L) (word_laws L H) (lcm r.left s.left) (product r.left s.left) (IsTrimmed-lcm r.left s.left t u) (IsTrimmed-product r.left s.left t u)
          (least_common_multiple_least r.left s.left (product r.left s.left) (Divides-product r.left s.left) (Divides-product_right r.left s.left)) in
          omega arith);
    }

    module _ (d : ℕ) (zs : (c : ℕ) → GenerateZeros IsZero L Z c) (bound : HaveDegreesTo Z L R d) where
      pub complete_exactly : AreComplete Z L R (d + d) ↔ ((w : Exponents) → IsWord L w → IsReducible IsZero L w ↔ HasLeftDivisor R w)
      complete_exactly = (
        λ k w hw. (
          λ r. complete_generates ((word_order_of L).degree w) (zs ((word_order_of L).degree w)) (complete_more d ((word_order_of L).degree w) bound k) w hw (omega arith) r,
          λ q. divided_reducible IsZero L H R rules closed w hw q,
        ),
        λ all. generates_complete (d + d) (zs (d + d)) (λ w hw e r. (all w hw).0 r),
      )

      pub closed_exactly : GeneratesReducible IsZero L R d →
          AreComplete Z L R (d + d) ↔ ((w : Exponents) → IsWord L w → IsReducible IsZero L w →
          (v : Exponents) × IsWord L v × IsReducible IsZero L v × Divides v w × ((word_order_of L).degree v ≤ d))
      closed_exactly generates = (
        λ k w hw r.
            let q = (complete_exactly.0 k w hw).0 r in
            (q.0.left, (rules q.0 q.1).0, left_reducible IsZero L H R rules closed q.0 q.1, q.2, bound.lefts q.0 q.1),
        λ all. complete_exactly.1 (λ w hw. (
          λ r.
              let v = all w hw r in
              let q = generates v.0 v.1 v.4 v.2 in
              (q.0, q.1, Divides-trans q.0.left v.0 w q.2 v.3),
          λ q. divided_reducible IsZero L H R rules closed w hw q,
        )),
      )

    -- a normal form of a standard monomial in the x is the least word with that image
    pub form_factors : (c : ℕ) → GeneratesReducible IsZero L R c →
        (m : Exponents) → IsMonomial (length L.degrees) m → weighted_degree L.degrees m ≤ c → ¬ IsZero m →
        (a : WordOrZero) → IsNormalForm R (Some m) a →
        (v : Exponents) × (a ≡ Some v) × IsLeast L m v × (IsSWord L v ↔ ((u : Exponents) × IsSWord L u × (image_of L u ≡ m)))
    form_factors c generates m hm hd standard a n =
        by_case a (subst (λ x. IsLeastOrZero IsZero L x a) (image_same L H m hm)
        (form_least IsZero L H R rules closed c generates m (x_word L H m hm) (let e = degree_x L H m hm in omega arith) a n))
      where
        by_case : (a : WordOrZero) → IsLeastOrZero IsZero L m a →
            (v : Exponents) × (a ≡ Some v) × IsLeast L m v × (IsSWord L v ↔ ((u : Exponents) × IsSWord L u × (image_of L u ≡ m)))
        by_case None k = absurd (standard k)
        by_case (Some v) k = (v, refl, k.1, ((λ s. (v, s, k.1.image)), λ u. least_s_word L H m u.0 v k.1 u.1 u.2))

    -- the minimal reducible words are the minimal left sides
    pub minimal_exactly : (c : ℕ) → GeneratesReducible IsZero L R c →
        (u : Exponents) → IsWord L u → (word_order_of L).degree u ≤ c → IsMinimalReducible IsZero L u ↔ IsMinimalLeftSide R u
    minimal_exactly c generates u hu hd = (
      λ m. minimal_left IsZero L H R rules closed c generates u hu hd m,
      λ m. left_minimal IsZero L H R rules closed c generates u hu hd m,
    )

    -- the left sides of reduced rules are the minimal reducible words, each with the least word of its image
    pub reduced_exactly : (c : ℕ) → GeneratesReducible IsZero L R c → AreReducedRules R → (r : RewriteRule) → Contains R r → (word_order_of L).degree r.left ≤ c →
        IsMinimalReducible IsZero L r.left × IsLeastOrZero IsZero L (image_of L r.left) r.right
    reduced_exactly c generates reduced r hr hd = (
      (minimal_exactly c generates r.left (rules r hr).0 hd).1 (record { rule = r; listed = hr; left = refl; minimal = λ s hs k. reduced.left r s hr hs k }),
      form_least IsZero L H R rules closed c generates r.left (rules r hr).0 hd r.right (record { rewrites = rule_rewrites R r hr; normal = reduced.right r hr }),
    )
