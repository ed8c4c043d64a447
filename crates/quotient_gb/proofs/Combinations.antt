-- Combinations of the members of a list are closed under sums and products.
use Rattle.std.proofs.Common.{◌≡◌, ◌≢◌, ℕ, zero, suc, ◌+◌, ◌≤◌, refl, sym, ◌∙◌, ap, subst, List, [], ◌∷◌, ◌++◌, ◌⊎◌, inl, inr, ⊎_elim, append-nil, append_assoc, arith}
use Rattle.std.specs.Prelude.{map, Contains}
use Rattle.std.specs.declared.cmp.Ordering.TheVariants.{Less}
use Rattle.word_field.specs.Field.{FieldOps, IsField, IsValue}
use Rattle.monomial_order.specs.declared.terms.Term.{Term}
use Rattle.monomial_order.specs.Monomial.{product, IsMonomial, Exponents}
use Rattle.monomial_order.specs.MonomialOrder.{MonomialOrder, IsMonomialOrder}
use Rattle.monomial_order.specs.laws.Monomial.{product_assoc, IsMonomial-product}
use Rattle.polynomials.specs.Polynomial.{Polynomial, coefficient, Same, term_of, term_times, times, scaled, negated, minus, IsTerm, lead_monomial}
use Rattle.polynomials.specs.Ideal.{InIdeal}
use Rattle.polynomials.specs.laws.Ring.{term_times_assoc}
use Rattle.polynomials.specs.laws.Same.{times_same, append_same}
use Rattle.monomial_order.specs.laws.Comparing.{three_ways}
use Rattle.polynomials.specs.laws.Congruence.{negated_is}
use Rattle.polynomials.specs.laws.Ideal.{InIdeal_same, InIdeal_zero, InIdeal_plus, InIdeal_times}
use Rattle.quotient_gb.specs.Combinations.{AtMost, Step, sum_of_steps, AreSteps, Combines}

module _ {E : Type 0} (K : FieldOps E) (F : IsField K) where
  pub scaled-append : (t : Term E) (p q : Polynomial E) → scaled K t (p ++ q) ≡ scaled K t p ++ scaled K t q
  scaled-append t [] q = refl
  scaled-append t (u ∷ p) q = ap (λ x. term_times K t u ∷ x) (scaled-append t p q)

  pub scaled_scaled : (t u : Term E) (p : Polynomial E) → scaled K t (scaled K u p) ≡ scaled K (term_times K t u) p
  scaled_scaled t u [] = refl
  scaled_scaled t u (x ∷ p) = ap (λ y. y ∷ scaled K t (scaled K u p)) (sym (term_times_assoc K F t u x)) ∙ ap (λ y. term_times K (term_times K t u) x ∷ y) (scaled_scaled t u p)

  -- a term times a polynomial is a product
  pub scaled_is : (t : Term E) (p : Polynomial E) → times K (t ∷ []) p ≡ scaled K t p
  scaled_is t p = append-nil (scaled K t p)

  pub scaled_same : (t : Term E) (p q : Polynomial E) → Same K p q → Same K (scaled K t p) (scaled K t q)
  scaled_same t p q h m =
      ap (λ x. coefficient K x m) (sym (scaled_is t p)) ∙ (times_same K F (t ∷ []) (t ∷ []) p q (λ n. refl) h m ∙ ap (λ x. coefficient K x m) (scaled_is t q))

  -- the constant 1 as a term
  pub IsTerm_constant : (n : ℕ) (c : E) → IsValue K c → IsTerm K n (term_of [] c)
  IsTerm_constant n c v = record { monomial = record { trimmed = tt; within = Rattle.std.proofs.Common.◌≤◌.zero-le }; value = v }

  pub IsTerm-times : (n : ℕ) (t u : Term E) → IsTerm K n t → IsTerm K n u → IsTerm K n (term_times K t u)
  IsTerm-times n t u h k = record { monomial = IsMonomial-product n t.at u.at h.monomial k.monomial; value = F.times_value t.by u.by }

  abbrev pub step_times : Term E → Step E → Step E
  step_times t s = record { term = term_times K t s.term; of = s.of }

  sum_of_steps-append : (v w : List (Step E)) → sum_of_steps K (v ++ w) ≡ sum_of_steps K v ++ sum_of_steps K w
  sum_of_steps-append [] w = refl
  sum_of_steps-append (s ∷ v) w = ap (λ p. scaled K s.term s.of ++ p) (sum_of_steps-append v w) ∙ sym (append_assoc (scaled K s.term s.of) (sum_of_steps K v) (sum_of_steps K w))

  sum_of_steps-scaled : (t : Term E) (ss : List (Step E)) → scaled K t (sum_of_steps K ss) ≡ sum_of_steps K (map (step_times t) ss)
  sum_of_steps-scaled t [] = refl
  sum_of_steps-scaled t (s ∷ ss) =
      scaled-append t (scaled K s.term s.of) (sum_of_steps K ss) ∙
      (ap (λ x. x ++ scaled K t (sum_of_steps K ss)) (scaled_scaled t s.term s.of) ∙ ap (λ x. scaled K (term_times K t s.term) s.of ++ x) (sum_of_steps-scaled t ss))

  module _ (O : MonomialOrder) (L : IsMonomialOrder O) (G : List (Polynomial E)) where
    pub combines_same : (B : Exponents → Type 0) (a b : Polynomial E) → Same K a b → Combines K O G B a → Combines K O G B b
    combines_same B a b e h = record { steps = h.steps; are = h.are; sums = λ m. sym (e m) ∙ h.sums m }

    pub combines_zero : (B : Exponents → Type 0) → Combines K O G B []
    combines_zero B = record { steps = []; are = tt; sums = λ m. refl }

    are_append : (B : Exponents → Type 0) (v w : List (Step E)) → AreSteps K O G B v → AreSteps K O G B w → AreSteps K O G B (v ++ w)
    are_append B [] w h k = k
    are_append B (s ∷ v) w h k = (h.0, h.1, h.2, are_append B v w h.3 k)

    pub combines_plus : (B : Exponents → Type 0) (a b : Polynomial E) → Combines K O G B a → Combines K O G B b → Combines K O G B (a ++ b)
    combines_plus B a b h k = record {
      steps = h.steps ++ k.steps;
      are = are_append B h.steps k.steps h.are k.are;
      sums = λ m. append_same K F a (sum_of_steps K h.steps) b (sum_of_steps K k.steps) h.sums k.sums m ∙ ap (λ p. coefficient K p m) (sym (sum_of_steps-append h.steps k.steps));
    }

    -- one term times a member
    pub combines_one : (B : Exponents → Type 0) (t : Term E) (g : Polynomial E) → IsTerm K O.places t → Contains G g → B (product t.at (lead_monomial g)) → Combines K O G B (scaled K t g)
    combines_one B t g ht hg b = record { steps = record { term = t; of = g } ∷ []; are = (ht, hg, b, tt); sums = λ m. ap (λ x. coefficient K x m) (sym (append-nil (scaled K t g))) }

    module _ (HG : (g : Polynomial E) → Contains G g → IsMonomial O.places (lead_monomial g)) where
      pub combines_weaken : (B C : Exponents → Type 0) (a : Polynomial E) → ((m : Exponents) → IsMonomial O.places m → B m → C m) → Combines K O G B a → Combines K O G C a
      combines_weaken B C a w h = record { steps = h.steps; are = all h.steps h.are; sums = h.sums }
        where
          all : (ss : List (Step E)) → AreSteps K O G B ss → AreSteps K O G C ss
          all [] k = tt
          all (s ∷ ss) k = (k.0, k.1, w (product s.term.at (lead_monomial s.of)) (IsMonomial-product O.places s.term.at (lead_monomial s.of) k.0.monomial (HG s.of k.1)) k.2, all ss k.3)

      pub combines_scaled : (B C : Exponents → Type 0) (t : Term E) (a : Polynomial E) → IsTerm K O.places t → ((m : Exponents) → IsMonomial O.places m → B m → C (product t.at m)) →
          Combines K O G B a → Combines K O G C (scaled K t a)
      combines_scaled B C t a ht w h = record {
        steps = map (step_times t) h.steps;
        are = all h.steps h.are;
        sums = λ m. scaled_same t a (sum_of_steps K h.steps) h.sums m ∙ ap (λ x. coefficient K x m) (sum_of_steps-scaled t h.steps);
      }
        where
          all : (ss : List (Step E)) → AreSteps K O G B ss → AreSteps K O G C (map (step_times t) ss)
          all [] k = tt
          all (s ∷ ss) k = (
            IsTerm-times O.places t s.term ht k.0,
            k.1,
            subst C (sym (product_assoc t.at s.term.at (lead_monomial s.of)))
                (w (product s.term.at (lead_monomial s.of)) (IsMonomial-product O.places s.term.at (lead_monomial s.of) k.0.monomial (HG s.of k.1)) k.2),
            all ss k.3,
          )

      pub combines_constant : (B : Exponents → Type 0) (c : E) (a : Polynomial E) → IsValue K c → Combines K O G B a → Combines K O G B (scaled K (term_of [] c) a)
      combines_constant B c a v h = combines_scaled B B (term_of [] c) a (IsTerm_constant O.places c v) (λ m k b. b) h

      pub combines_negated : (B : Exponents → Type 0) (a : Polynomial E) → Combines K O G B a → Combines K O G B (negated K a)
      combines_negated B a h =
          combines_same B (scaled K (term_of [] (K.negate K.one)) a) (negated K a)
          (λ m. ap (λ x. coefficient K x m) (sym (scaled_is (term_of [] (K.negate K.one)) a)) ∙ sym (negated_is K F a m))
          (combines_constant B (K.negate K.one) a (F.negate_value K.one) h)

      pub combines_minus : (B : Exponents → Type 0) (a b : Polynomial E) → Combines K O G B a → Combines K O G B b → Combines K O G B (minus K a b)
      combines_minus B a b h k = combines_plus B a (negated K b) h (combines_negated B b k)

      -- a combination is empty, or one of its products is the greatest
      pub record HasTop (B : Exponents → Type 0) (a : Polynomial E) (M : Exponents) : Type 0 where
        pub monomial : IsMonomial O.places M
        pub bound : B M
        pub combines : Combines K O G (AtMost O M) a

      at_most_less : (M N m : Exponents) → O.compare M N ≡ Less → AtMost O M m → AtMost O N m
      at_most_less M N m lt h = inr (⊎_elim (λ e. subst (λ x. O.compare x N ≡ Less) (sym e) lt) (λ l. L.total.trans m M N l lt) h)

      pub top : (B : Exponents → Type 0) (a : Polynomial E) → Combines K O G B a → Same K a [] ⊎ ((M : Exponents) × HasTop B a M)
      top B a h =
          ⊎_elim (λ e. inl (λ m. h.sums m ∙ ap (λ x. coefficient K x m) e))
          (λ r. inr (r.0, record { monomial = r.1.monomial; bound = r.1.bound; combines = combines_same (AtMost O r.0) (sum_of_steps K h.steps) a (λ m. sym (h.sums m)) r.1.combines }))
          (go h.steps h.are)
        where
          go : (ss : List (Step E)) → AreSteps K O G B ss → (sum_of_steps K ss ≡ []) ⊎ ((M : Exponents) × HasTop B (sum_of_steps K ss) M)
          go [] k = inl refl
          go (s ∷ ss) k = inr (⊎_elim alone beside (go ss k.3))
            where
              M : Exponents
              M = product s.term.at (lead_monomial s.of)

              one : (N : Exponents) → AtMost O N M → Combines K O G (AtMost O N) (scaled K s.term s.of)
              one N b = combines_one (AtMost O N) s.term s.of k.0 k.1 b

              mono : IsMonomial O.places M
              mono = IsMonomial-product O.places s.term.at (lead_monomial s.of) k.0.monomial (HG s.of k.1)

              alone : sum_of_steps K ss ≡ [] → (N : Exponents) × HasTop B (scaled K s.term s.of ++ sum_of_steps K ss) N
              alone e = (
                M,
                record {
                  monomial = mono;
                  bound = k.2;
                  combines = combines_plus (AtMost O M) (scaled K s.term s.of) (sum_of_steps K ss) (one M (inl refl)) (subst (Combines K O G (AtMost O M)) (sym e) (combines_zero (AtMost O M)));
                },
              )

              beside : (N : Exponents) × HasTop B (sum_of_steps K ss) N → (N : Exponents) × HasTop B (scaled K s.term s.of ++ sum_of_steps K ss) N
              beside r =
                  let lower : AtMost O r.0 M → (N : Exponents) × HasTop B (scaled K s.term s.of ++ sum_of_steps K ss) N =
                  λ b. (r.0, record { monomial = r.1.monomial; bound = r.1.bound; combines = combines_plus (AtMost O r.0) (scaled K s.term s.of) (sum_of_steps K ss) (one r.0 b) r.1.combines }) in
                  ⊎_elim (λ lt. lower (inr lt)) (λ q. ⊎_elim (λ e. lower (inl e)) (λ gt. (
                    M,
                    record {
                      monomial = mono;
                      bound = k.2;
                      combines = combines_plus (AtMost O M) (scaled K s.term s.of) (sum_of_steps K ss) (one M (inl refl))
                          (combines_weaken (AtMost O r.0) (AtMost O M) (sum_of_steps K ss) (λ m q b. at_most_less r.0 M m gt b) r.1.combines);
                    },
                  )) q) (three_ways O L M r.0)

    -- a combination of members of the ideal is one
    pub combines_inside : (rs : List (Polynomial E)) → ((g : Polynomial E) → Contains G g → InIdeal K O.places rs g) → (B : Exponents → Type 0) (a : Polynomial E) →
        Combines K O G B a → InIdeal K O.places rs a
    combines_inside rs inside B a h = InIdeal_same K F O.places rs (sum_of_steps K h.steps) a (λ m. sym (h.sums m)) (all h.steps h.are)
      where
        all : (ss : List (Step E)) → AreSteps K O G B ss → InIdeal K O.places rs (sum_of_steps K ss)
        all [] k = InIdeal_zero K F O.places rs
        all (s ∷ ss) k =
            InIdeal_plus K F O.places rs (scaled K s.term s.of) (sum_of_steps K ss)
            (InIdeal_same K F O.places rs (times K (s.term ∷ []) s.of) (scaled K s.term s.of) (λ m. ap (λ x. coefficient K x m) (scaled_is s.term s.of))
            (InIdeal_times K F O.places rs (s.term ∷ []) s.of (k.0, tt) (inside s.of k.1)))
            (all ss k.3)

    -- a combination of a list is one of a longer list
    pub combines_more : (G' : List (Polynomial E)) → ((g : Polynomial E) → Contains G g → Contains G' g) → (B : Exponents → Type 0) (a : Polynomial E) → Combines K O G B a → Combines K O G' B a
    combines_more G' more B a h = record { steps = h.steps; are = all h.steps h.are; sums = h.sums }
      where
        all : (ss : List (Step E)) → AreSteps K O G B ss → AreSteps K O G' B ss
        all [] k = tt
        all (s ∷ ss) k = (k.0, more s.of k.1, k.2, all ss k.3)
