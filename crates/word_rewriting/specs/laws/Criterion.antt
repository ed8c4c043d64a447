-- The criterion, one way: the left sides of complete rules generate the reducible words.
use Rattle.std.proofs.Common.{◌≡◌, ℕ, zero, suc, ◌+◌, ◌*◌, ◌≤◌, ◌<◌, refl, sym, ◌∙◌, ap, subst, List, [], ◌∷◌, ◌++◌, length, get_or, append-nil, length-append, arith, ⊎_elim, Some, None, Contains}
use Rattle.std.specs.Prelude.{map}
use Rattle.std.proofs.lemmas.List.{length-map}
use Rattle.std.specs.declared.cmp.Ordering.TheVariants.{Less}
use Rattle.monomial_order.specs.Monomial.{Exponents, product, IsMonomial, IsMultiple, variable, weighted_degree}
use Rattle.monomial_order.specs.MonomialOrder.{MonomialOrder, IsMonomialOrder}
use Rattle.monomial_order.specs.laws.Monomial.{product_comm, IsMonomial-product}
use Rattle.monomial_order.specs.laws.Cofactors.{cofactor}
use Rattle.monomial_order.specs.laws.Comparing.{degree_one, degree_falls, divisor_degree, not_below_self}
use Rattle.monomial_order.specs.laws.Rank.{IsWithin}
use Rattle.word_laws.specs.Words.{Letters, AreLetters, lead_degrees, word_order_of, image_of, IsSmaller, IsReducible, image, variables, monomial_power}
use Rattle.word_laws.specs.laws.Images.{AreMonomials, AreMonomials-more, variables_monomials, power_monomial, power_sum, image_monomial, image_sum, image_variables, variables-split, variables_degrees}
use Rattle.word_laws.specs.laws.Words.{word_laws, leads_monomials, images_monomials, images_degrees, image_x, degree_image, degree_x, x_word}
use Rattle.word_rewriting.specs.Rewriting.{WordOrZero, RewriteRule, Rewrites, stays, AreJoinable, HasLeftDivisor, IsNormalForm, JoinsPairs}
use Rattle.word_rewriting.specs.Completeness.{AreInX, IsRightSide, AreRewriteRules}
use Rattle.word_rewriting.specs.laws.Rewriting.{joinable_itself, joinable_sym, multiple_joinable, multiple_rewrites, divided_or_not}
use Rattle.word_rewriting.specs.laws.Confluence.{IsDecreasingRule, IsBelow, rewrites_below, unique, joinable_normal, joinable_trans}

pub decreasing_rules : (IsZero : Exponents → Type 0) (L : Letters) (R : List RewriteRule) → AreRewriteRules IsZero L R → (r : RewriteRule) → Contains R r → IsDecreasingRule (word_order_of L) r
decreasing_rules IsZero L R h r k = record { left = (h r k).0; right = side r.right (h r k).1 }
  where
    side : (a : WordOrZero) → IsRightSide IsZero L r.left a → IsBelow (word_order_of L) r.left a
    side None s = tt
    side (Some v) s = (s.word, s.less)

module _ (O : MonomialOrder) (LO : IsMonomialOrder O) (R : List RewriteRule) (decreasing : (r : RewriteRule) → Contains R r → IsDecreasingRule O r)
    (c : ℕ) (pairs : JoinsPairs O R c) where
  product_within : (a b : Exponents) → IsMonomial O.places a → IsMonomial O.places b → O.degree a + O.degree b ≤ c → IsWithin O LO c (product a b)
  product_within a b ha hb h = record { monomial = IsMonomial-product O.places a b ha hb; degree = let e = LO.degree_product a b in omega arith }

  product_joinable : (a x b y : Exponents) → IsMonomial O.places a → IsMonomial O.places x → IsMonomial O.places b → IsMonomial O.places y →
      O.degree a ≡ O.degree x → O.degree b ≡ O.degree y → O.degree x + O.degree y ≤ c →
      AreJoinable R (Some a) (Some x) → AreJoinable R (Some b) (Some y) → AreJoinable R (Some (product a b)) (Some (product x y))
  product_joinable a x b y ha hx hb hy da db h j k =
      joinable_trans O LO R decreasing c pairs (Some (product a b)) (Some (product a y)) (Some (product x y))
      (product_within a b ha hb (omega arith)) (product_within a y ha hy (omega arith)) (product_within x y hx hy h)
      (multiple_joinable R a (Some b) (Some y) ha.trimmed k)
      (subst (λ z. AreJoinable R (Some z) (Some (product x y))) (product_comm y a)
      (subst (λ z. AreJoinable R (Some (product y a)) (Some z)) (product_comm y x) (multiple_joinable R y (Some a) (Some x) hy.trimmed j)))

  power_joinable : (m n : Exponents) (e : ℕ) → IsMonomial O.places m → IsMonomial O.places n → O.degree m ≡ O.degree n → O.degree (monomial_power n e) ≤ c →
      AreJoinable R (Some m) (Some n) → AreJoinable R (Some (monomial_power m e)) (Some (monomial_power n e))
  power_joinable m n zero hm hn d h j = joinable_itself R (Some [])
  power_joinable m n (suc e) hm hn d h j =
      let p = power_sum O.degree (degree_one O LO) LO.degree_product m e in
      let q = power_sum O.degree (degree_one O LO) LO.degree_product n e in
      let s : O.degree m * e ≡ O.degree n * e = ap (λ x. x * e) d in
      let t = LO.degree_product n (monomial_power n e) in
      product_joinable m n (monomial_power m e) (monomial_power n e) hm hn (power_monomial O.places m e hm) (power_monomial O.places n e hn) d (omega arith) (omega arith) j
      (power_joinable m n e hm hn d (omega arith) j)

  -- the members of the two lists are joinable one by one, if their degree is at most c
  abbrev pub AreRelated : List Exponents → List Exponents → Type 0
  AreRelated [] [] = Unit {0}
  AreRelated [] (n ∷ ns) = ⊥
  AreRelated (m ∷ ms) [] = ⊥
  AreRelated (m ∷ ms) (n ∷ ns) = (O.degree n ≤ c → AreJoinable R (Some m) (Some n)) × AreRelated ms ns

  pub image_related : (w : Exponents) (ms ns : List Exponents) → AreMonomials O.places ms → AreMonomials O.places ns → map O.degree ms ≡ map O.degree ns →
      AreRelated ms ns → O.degree (image w ns) ≤ c → AreJoinable R (Some (image w ms)) (Some (image w ns))
  image_related [] ms ns hm hn d r h = joinable_itself R (Some [])
  image_related (e ∷ w) [] [] hm hn d r h = joinable_itself R (Some [])
  image_related (e ∷ w) [] (n ∷ ns) hm hn d r h = absurd r
  image_related (e ∷ w) (m ∷ ms) [] hm hn d r h = absurd r
  image_related (zero ∷ w) (m ∷ ms) (n ∷ ns) hm hn d r h = image_related w ms ns hm.1 hn.1 (let t : map O.degree ms ≡ map O.degree ns = cc in t) r.1 h
  image_related (suc e ∷ w) (m ∷ ms) (n ∷ ns) hm hn d r h =
      let dm : O.degree m ≡ O.degree n = cc in
      let dms : map O.degree ms ≡ map O.degree ns = cc in
      let p = power_sum O.degree (degree_one O LO) LO.degree_product m (suc e) in
      let q = power_sum O.degree (degree_one O LO) LO.degree_product n (suc e) in
      let s : O.degree m * suc e ≡ O.degree n * suc e = ap (λ x. x * suc e) dm in
      let t = LO.degree_product n (monomial_power n e) in
      let u = LO.degree_product (monomial_power n (suc e)) (image w ns) in
      let im = image_sum O.degree (degree_one O LO) LO.degree_product w ms in
      let in2 = image_sum O.degree (degree_one O LO) LO.degree_product w ns in
      let v : weighted_degree (map O.degree ms) w ≡ weighted_degree (map O.degree ns) w = ap (λ x. weighted_degree x w) dms in
      product_joinable (monomial_power m (suc e)) (monomial_power n (suc e)) (image w ms) (image w ns)
      (power_monomial O.places m (suc e) hm.0) (power_monomial O.places n (suc e) hn.0) (image_monomial O.places w ms hm.1) (image_monomial O.places w ns hn.1)
      (omega arith) (omega arith) (omega arith)
      (power_joinable m n (suc e) hm.0 hn.0 dm (omega arith) (r.0 (omega arith)))
      (image_related w ms ns hm.1 hn.1 dms r.1 (omega arith))

  related_front : (vs ms ns : List Exponents) → AreRelated ms ns → AreRelated (vs ++ ms) (vs ++ ns)
  related_front [] ms ns h = h
  related_front (v ∷ vs) ms ns h = ((λ d. joinable_itself R (Some v)), related_front vs ms ns h)

  related_letters : (i : ℕ) (ls : List Exponents) →
      ((j : ℕ) → j < length ls → O.degree (get_or ls j []) ≤ c → AreJoinable R (Some (get_or ls j [])) (Some (variable (i + j)))) → AreRelated (variables i (length ls)) ls
  related_letters i [] h = tt
  related_letters i (l ∷ ls) h = (
    (λ d. joinable_sym R (Some l) (Some (variable i)) (subst (λ x. AreJoinable R (Some l) (Some (variable x))) (let e : i + 0 ≡ i = omega arith in e) (h 0 (omega arith) d))),
    related_letters (suc i) ls (λ j k d. subst (λ x. AreJoinable R (Some (get_or ls j [])) (Some (variable x))) (let e : i + suc j ≡ suc i + j = omega arith in e) (h (suc j) (omega arith) d)),
  )

pub degree_of_member : (L : Letters) → AreLetters L → (ls : List Exponents) → AreMonomials (length L.degrees) ls → (j : ℕ) → j < length ls → (word_order_of L).degree (get_or ls j []) ≡ weighted_degree L.degrees (get_or ls j [])
degree_of_member L H [] h j l = absurd (omega arith)
degree_of_member L H (m ∷ ls) h zero l = degree_x L H m h.0
degree_of_member L H (m ∷ ls) h (suc j) l = degree_of_member L H ls h.1 j (omega arith)

module _ (IsZero : Exponents → Type 0) (L : Letters) (H : AreLetters L) (R : List RewriteRule) (rules : AreRewriteRules IsZero L R) (c : ℕ) (pairs : JoinsPairs (word_order_of L) R c)
    (leads : (i : ℕ) → i < length L.leads → weighted_degree L.degrees (get_or L.leads i []) ≤ c → AreJoinable R (Some (get_or L.leads i [])) (Some (variable (length L.degrees + i)))) where
  -- a word is joinable with its image, written in the x
  pub word_image : (w : Exponents) → IsWithin (word_order_of L) (word_laws L H) c w → AreJoinable R (Some w) (Some (image_of L w))
  word_image w h =
      subst (λ x. AreJoinable R (Some x) (Some (image_of L w))) (image_variables (length (L.degrees ++ (lead_degrees L))) w h.monomial)
      (image_related (word_order_of L) (word_laws L H) R (decreasing_rules IsZero L R rules) c pairs w (variables 0 (length (L.degrees ++ (lead_degrees L)))) (variables 0 (length L.degrees) ++ L.leads)
      (variables_monomials (length (L.degrees ++ (lead_degrees L))) 0 (length (L.degrees ++ (lead_degrees L))) (omega arith))
      (AreMonomials-more (length L.degrees) (length (L.degrees ++ (lead_degrees L))) (variables 0 (length L.degrees) ++ L.leads) (let e = places in omega arith) (images_monomials L H))
      (ap (λ x. map (weighted_degree x) (variables 0 (length (L.degrees ++ (lead_degrees L))))) (sym (append-nil (L.degrees ++ (lead_degrees L)))) ∙
      (variables_degrees (L.degrees ++ (lead_degrees L)) [] ∙ sym (images_degrees L H)))
      (subst (λ vs. AreRelated (word_order_of L) (word_laws L H) R (decreasing_rules IsZero L R rules) c pairs vs (variables 0 (length L.degrees) ++ L.leads)) (sym split)
      (related_front (word_order_of L) (word_laws L H) R (decreasing_rules IsZero L R rules) c pairs (variables 0 (length L.degrees)) (variables (length L.degrees) (length L.leads)) L.leads
      (related_letters (word_order_of L) (word_laws L H) R (decreasing_rules IsZero L R rules) c pairs (length L.degrees) L.leads
      (λ j l d. leads j l (let e = degree_of_member L H L.leads (leads_monomials L H) j l in omega arith)))))
      (let e = degree_image L H w in let d = h.degree in omega arith))
    where
      places : length (L.degrees ++ (lead_degrees L)) ≡ length L.degrees + length L.leads
      places =
          let a = length-append L.degrees (lead_degrees L) in
          let b : length (lead_degrees L) ≡ length L.leads = length-map L.leads (weighted_degree L.degrees) in
          omega arith

      split : variables 0 (length (L.degrees ++ (lead_degrees L))) ≡ variables 0 (length L.degrees) ++ variables (length L.degrees) (length L.leads)
      split = ap (variables 0) places ∙ (variables-split 0 (length L.degrees) (length L.leads) ∙ ap (λ x. variables 0 (length L.degrees) ++ variables x (length L.leads)) (let e : 0 + length L.degrees ≡ length L.degrees = omega arith in e))

  image_within : (w : Exponents) → IsWithin (word_order_of L) (word_laws L H) c w → IsWithin (word_order_of L) (word_laws L H) c (image_of L w)
  image_within w h = record { monomial = x_word L H (image_of L w) (image_x L H w); degree = let e = degree_image L H w in let d = h.degree in omega arith }

  -- a word has the normal forms of its image
  pub word_normal : (w : Exponents) (a : WordOrZero) → IsWithin (word_order_of L) (word_laws L H) c w → IsNormalForm R (Some (image_of L w)) a → IsNormalForm R (Some w) a
  word_normal w a h n = joinable_normal (word_order_of L) (word_laws L H) R (decreasing_rules IsZero L R rules) c pairs (Some w) (Some (image_of L w)) a h (image_within w h) (word_image w h) n

  pub image_normal : (w : Exponents) (a : WordOrZero) → IsWithin (word_order_of L) (word_laws L H) c w → IsNormalForm R (Some w) a → IsNormalForm R (Some (image_of L w)) a
  image_normal w a h n =
      joinable_normal (word_order_of L) (word_laws L H) R (decreasing_rules IsZero L R rules) c pairs (Some (image_of L w)) (Some w) a (image_within w h) h (joinable_sym R (Some w) (Some (image_of L w)) (word_image w h)) n

  -- Z has members that count as zero, and to the degree c what counts as zero is a multiple of one
  module _ (Z : List Exponents) (in_x : AreInX L Z)
      (generate : (m : Exponents) → IsMonomial (length L.degrees) m → weighted_degree L.degrees m ≤ c → IsZero m → IsMultiple Z m)
      (vanish : (z : Exponents) → Contains Z z → weighted_degree L.degrees z ≤ c → Rewrites R (Some z) None) where
    -- a monomial that counts as zero rewrites to zero
    zero_vanishes : (m : Exponents) → IsWithin (word_order_of L) (word_laws L H) c m → IsMultiple Z m → Rewrites R (Some m) None
    zero_vanishes m h z =
        let k = cofactor z.0 m (in_x z.0 z.1).trimmed h.monomial.trimmed z.2 in
        let d = divisor_degree (word_order_of L) (word_laws L H) z.0 m (in_x z.0 z.1).trimmed h.monomial.trimmed z.2 in
        let x = degree_x L H z.0 (in_x z.0 z.1) in
        let e = h.degree in
        subst (λ y. Rewrites R (Some y) None) (product_comm k.0 z.0 ∙ k.2) (multiple_rewrites R k.0 k.1 (vanish z.0 z.1 (omega arith)))

    -- a left side divides each reducible word
    pub reducible_divided : (w : Exponents) → IsWithin (word_order_of L) (word_laws L H) c w → IsReducible IsZero L w → HasLeftDivisor R w
    reducible_divided w h red = ⊎_elim (λ d. d) (λ none. absurd (⊎_elim (zero_case none) (λ s. smaller_case none s.0 s.1) red)) (divided_or_not R w)
      where
        own : (HasLeftDivisor R w → ⊥) → IsNormalForm R (Some (image_of L w)) (Some w)
        own none = image_normal w (Some w) h (record { rewrites = stays; normal = none })

        zero_case : (HasLeftDivisor R w → ⊥) → IsZero (image_of L w) → ⊥
        zero_case none z =
            let x = degree_x L H (image_of L w) (image_x L H w) in
            let y = degree_image L H w in
            let d = h.degree in
            let small : weighted_degree L.degrees (image_of L w) ≤ c = omega arith in
            let e : Some w ≡ None = unique (word_order_of L) (word_laws L H) R (decreasing_rules IsZero L R rules) c pairs (Some (image_of L w)) (Some w) None (image_within w h) (own none)
            (record { rewrites = zero_vanishes (image_of L w) (image_within w h) (generate (image_of L w) (image_x L H w) small z); normal = tt }) in
            cc

        smaller_case : (HasLeftDivisor R w → ⊥) → (v : Exponents) → IsSmaller L w v → ⊥
        smaller_case none v s =
            let hv : IsWithin (word_order_of L) (word_laws L H) c v = record { monomial = s.word; degree = let f = degree_falls (word_order_of L) (word_laws L H) v w s.less in let e = h.degree in omega arith } in
            let n = word_normal v (Some w) hv (subst (λ m. IsNormalForm R (Some m) (Some w)) (sym s.image) (own none)) in
            ⊎_elim
            (λ e. not_below_self (word_order_of L) (word_laws L H) w (subst (λ x. (word_order_of L).compare x w ≡ Less) (let q : v ≡ w = cc in q) s.less))
            (λ b. not_below_self (word_order_of L) (word_laws L H) w ((word_laws L H).total.trans w v w b.1 s.less))
            (rewrites_below (word_order_of L) (word_laws L H) R (decreasing_rules IsZero L R rules) c n.rewrites v refl hv)
