-- The subalgebra is closed under sums, products and congruence.
use Rattle.std.proofs.Common.{ℕ, zero, suc, refl, sym, ap, List, [], ◌∷◌, ◌++◌, length, arith}
use Rattle.word_field.specs.Field.{FieldOps, IsField}
use Rattle.word_field.specs.laws.Field.{negate-plus, negate-zero, negate-times}
use Rattle.polynomials.specs.Polynomial.{Polynomial, coefficient, Same, times, negated, minus, constant, IsPoly}
use Rattle.polynomials.specs.Ideal.{Congruent}
use Rattle.polynomials.specs.Value.{power, monomial_value, value}
use Rattle.polynomials.specs.Subalgebra.{Presented, IsPresentation, AreGenerators, InSubalgebra}
use Rattle.polynomials.specs.laws.Ring.{coefficient-append}
use Rattle.polynomials.specs.laws.Same.{coefficient-negated}
use Rattle.polynomials.specs.laws.Value.{coefficient-scaled, value-append, value-times}
use Rattle.polynomials.specs.laws.Ideal.{IsPoly-append, IsPoly-negated, IsPoly-times}
use Rattle.polynomials.specs.laws.Congruence.{congruent_same, congruent_trans, congruent_plus, congruent_times, congruent_negated}
use Rattle.monomial_order.specs.Monomial.{Exponents}

module _ {E : Type 0} (K : FieldOps E) (F : IsField K) where
  pub IsPoly-one : (n : ℕ) → IsPoly K n (constant K K.one)
  IsPoly-one n = (record { monomial = record { trimmed = tt; within = omega arith }; value = F.one_value }, tt)

  pub IsPoly-power : (n : ℕ) (f : Polynomial E) (e : ℕ) → IsPoly K n f → IsPoly K n (power K f e)
  IsPoly-power n f zero h = IsPoly-one n
  IsPoly-power n f (suc e) h = IsPoly-times K F n f (power K f e) h (IsPoly-power n f e h)

  -- polynomials in the places of the order
  abbrev pub ArePolys : ℕ → List (Polynomial E) → Type 0
  ArePolys n [] = Unit {0}
  ArePolys n (f ∷ fs) = IsPoly K n f × ArePolys n fs

  pub IsPoly-monomial_value : (n : ℕ) (m : Exponents) (fs : List (Polynomial E)) → ArePolys n fs → IsPoly K n (monomial_value K m fs)
  IsPoly-monomial_value n [] fs h = IsPoly-one n
  IsPoly-monomial_value n (e ∷ m) [] h = IsPoly-one n
  IsPoly-monomial_value n (e ∷ m) (f ∷ fs) h =
      IsPoly-times K F n (power K f e) (monomial_value K m fs) (IsPoly-power n f e h.0) (IsPoly-monomial_value n m fs h.1)

  pub IsPoly-value : (n k : ℕ) (h : Polynomial E) (fs : List (Polynomial E)) → IsPoly K k h → ArePolys n fs → IsPoly K n (value K h fs)
  IsPoly-value n k [] fs hh hf = tt
  IsPoly-value n k (t ∷ h) fs hh hf =
      IsPoly-append K F n (times K (constant K t.by) (monomial_value K t.at fs)) (value K h fs)
      (IsPoly-times K F n (constant K t.by) (monomial_value K t.at fs)
      (record { monomial = record { trimmed = tt; within = omega arith }; value = hh.0.value }, tt) (IsPoly-monomial_value n t.at fs hf))
      (IsPoly-value n k h fs hh.1 hf)

  pub value-negated : (h : Polynomial E) (fs : List (Polynomial E)) → Same K (value K (negated K h) fs) (negated K (value K h fs))
  unfolding coefficient
  value-negated [] fs m = refl
  value-negated (t ∷ h) fs m = simp (coefficient-append K F, coefficient-scaled K F, coefficient-negated K F, negate-times K F, negate-plus K F, negate-zero K F, value-negated h fs m)

module _ {E : Type 0} (P : Presented E) (H : IsPresentation P) where
  n : ℕ
  n = P.order.places

  polys_of : (fs : List (Polynomial E)) → AreGenerators P.field P.order fs → ArePolys P.field H.field P.order.places fs
  polys_of [] h = tt
  polys_of (f ∷ fs) h = (h.0.poly, polys_of fs h.1)

  pub sub_congruent : (a b : Polynomial E) → InSubalgebra P a → Congruent P.field P.order.places P.ideal b a → InSubalgebra P b
  sub_congruent a b h c = record {
    witness = h.witness;
    poly = h.poly;
    inside = congruent_trans P.field H.field P.order.places P.ideal b a (value P.field h.witness P.generators) c h.inside;
  }

  pub sub_plus : (a b : Polynomial E) → InSubalgebra P a → InSubalgebra P b → InSubalgebra P (a ++ b)
  sub_plus a b h k = record {
    witness = h.witness ++ k.witness;
    poly = IsPoly-append P.field H.field (length P.generators) h.witness k.witness h.poly k.poly;
    inside = congruent_trans P.field H.field P.order.places P.ideal (a ++ b) (value P.field h.witness P.generators ++ value P.field k.witness P.generators)
        (value P.field (h.witness ++ k.witness) P.generators)
        (congruent_plus P.field H.field P.order.places P.ideal a (value P.field h.witness P.generators) b (value P.field k.witness P.generators) h.inside k.inside)
        (congruent_same P.field H.field P.order.places P.ideal (value P.field h.witness P.generators ++ value P.field k.witness P.generators) (value P.field (h.witness ++ k.witness) P.generators)
        (λ m. ap (λ p. coefficient P.field p m) (sym (value-append P.field H.field h.witness k.witness P.generators))));
  }

  pub sub_negated : (a : Polynomial E) → InSubalgebra P a → InSubalgebra P (negated P.field a)
  sub_negated a h = record {
    witness = negated P.field h.witness;
    poly = IsPoly-negated P.field H.field (length P.generators) h.witness h.poly;
    inside = congruent_trans P.field H.field P.order.places P.ideal (negated P.field a) (negated P.field (value P.field h.witness P.generators))
        (value P.field (negated P.field h.witness) P.generators)
        (congruent_negated P.field H.field P.order.places P.ideal a (value P.field h.witness P.generators) h.inside)
        (congruent_same P.field H.field P.order.places P.ideal (negated P.field (value P.field h.witness P.generators)) (value P.field (negated P.field h.witness) P.generators)
        (λ m. sym (value-negated P.field H.field h.witness P.generators m)));
  }

  pub sub_minus : (a b : Polynomial E) → InSubalgebra P a → InSubalgebra P b → InSubalgebra P (minus P.field a b)
  sub_minus a b h k = sub_plus a (negated P.field b) h (sub_negated b k)

  pub sub_times : (a b : Polynomial E) → IsPoly P.field P.order.places a → InSubalgebra P a → InSubalgebra P b → InSubalgebra P (times P.field a b)
  sub_times a b ha h k = record {
    witness = times P.field h.witness k.witness;
    poly = IsPoly-times P.field H.field (length P.generators) h.witness k.witness h.poly k.poly;
    inside = congruent_trans P.field H.field P.order.places P.ideal (times P.field a b) (times P.field (value P.field h.witness P.generators) (value P.field k.witness P.generators))
        (value P.field (times P.field h.witness k.witness) P.generators)
        (congruent_times P.field H.field P.order.places P.ideal a (value P.field h.witness P.generators) b (value P.field k.witness P.generators) ha
        (IsPoly-value P.field H.field P.order.places (length P.generators) k.witness P.generators k.poly (polys_of P.generators H.generators)) h.inside k.inside)
        (congruent_same P.field H.field P.order.places P.ideal (times P.field (value P.field h.witness P.generators) (value P.field k.witness P.generators))
        (value P.field (times P.field h.witness k.witness) P.generators)
        (λ m. sym (value-times P.field H.field h.witness k.witness P.generators m)));
  }
