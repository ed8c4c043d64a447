-- What subduction took away: the value less its rest is the sum of words.
use Rattle.std.proofs.Common.{◌∙◌, ap, ◌++◌}
use Rattle.word_field.specs.Field.{FieldOps, IsField}
use Rattle.polynomials.specs.Polynomial.{Polynomial, coefficient, minus, negated, Same}
use Rattle.polynomials.specs.Ideal.{Congruent}
use Rattle.polynomials.specs.Subalgebra.{Presented, IsPresentation}
use Rattle.polynomials.specs.laws.Congruence.{coefficient-minus, congruent_plus, congruent_refl, congruent_same, congruent_trans}
use Rattle.polynomials.specs.laws.Ring.{coefficient-append, coefficient_value}
use Rattle.subalgebra_laws.specs.Words.{combination_value}
use Rattle.witness.specs.declared.tracked.Tracked.{Tracked}
use Rattle.witness.specs.Tracking.{values_of}
use Rattle.subduction.specs.Basis.{BasisState}
use Rattle.subduction.specs.declared.subduction.Subduced.{Subduced}
use Rattle.subduction.specs.Subduced.{IsSubduced}

-- a sum less its second part is the first
pub less_back : {E : Type 0} (K : FieldOps E) (F : IsField K) (p q : Polynomial E) → Same K (minus K (p ++ q) q) p
less_back K F p q m =
    let a = coefficient K p m in
    let d = coefficient K q m in
    coefficient-minus K F (p ++ q) q m ∙
    (ap (λ x. K.plus x (K.negate d)) (coefficient-append K F p q m) ∙
    (F.plus_assoc a d (K.negate d) ∙ (ap (K.plus a) (F.plus_negate d) ∙ (F.plus_zero a ∙ coefficient_value K F p m))))

pub less_rest : {F E : Type 0} (P : Presented E) → IsPresentation P → (b : BasisState F E) (t : Tracked F E) (r : Subduced F E) → IsSubduced P b t r →
    Congruent P.field P.order.places P.ideal (minus P.field t.value r.rest.value) (combination_value P (values_of b.elements) r.word_sum)
less_rest P H b t r q =
    let K = P.field in
    let n = P.order.places in
    let sum = combination_value P (values_of b.elements) r.word_sum in
    let rest = r.rest.value in
    congruent_trans K H.field n P.ideal (minus K t.value rest) (minus K (sum ++ rest) rest) sum
    (congruent_plus K H.field n P.ideal t.value (sum ++ rest) (negated K rest) (negated K rest) q.parts.equal (congruent_refl K H.field n P.ideal (negated K rest)))
    (congruent_same K H.field n P.ideal (minus K (sum ++ rest) rest) sum (less_back K H.field sum rest))
