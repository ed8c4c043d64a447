use Rattle.std.proofs.Common.{◌≡◌, ◌≢◌, ◌-◌, ◌<◌, ℕ, List, [], ◌∷◌, length, arith, get_or, subst, sym, refl}
use Rattle.std.specs.Prelude.{Contains}
use Rattle.monomial_order.specs.Monomial.{Exponents, exponent}
use Rattle.monomial_order.specs.laws.Lists.{contains_at}
use Rattle.word_rules.specs.declared.factor.Factor.{Factor}
use Rattle.word_rules.specs.Factors.{factors_of}
use Rattle.word_rules.proofs.Factors.{letter_of, rising}
use Rattle.word_rules.proofs.table.last_two.Goals as goal

some_length : (fs : List Factor) → fs ≢ [] → 0 < length fs
some_length [] h = absurd (h refl)
some_length (f ∷ fs) h = omega arith

-- a letter that is read
read : (w : Exponents) (fs : List Factor) → fs ≡ factors_of w → (k : ℕ) → k < length fs → exponent w (get_or fs k (record { letter = 0; exponent = 0 })).letter ≢ 0
read w fs same k l = letter_of w (get_or fs k (record { letter = 0; exponent = 0 }))
    (subst (λ gs. Contains gs (get_or fs k (record { letter = 0; exponent = 0 }))) same (contains_at fs k (record { letter = 0; exponent = 0 }) l))

-- an earlier letter is not greater
earlier : (w : Exponents) (fs : List Factor) → fs ≡ factors_of w → (i j : ℕ) → i < j → j < length fs →
    (get_or fs i (record { letter = 0; exponent = 0 })).letter < (get_or fs j (record { letter = 0; exponent = 0 })).letter
earlier w fs same i j lt l =
    subst (λ (gs : List Factor). (get_or gs i (record { letter = 0; exponent = 0 })).letter < (get_or gs j (record { letter = 0; exponent = 0 })).letter) (sym same)
    (rising w i j (record { letter = 0; exponent = 0 }) lt (subst (λ (gs : List Factor). j < length gs) same l))

pub returns-then-factors-eq1 : goal.returns-then-factors-eq1
returns-then-factors-eq1 c =
    let fs = c.factors-factors.result.now in
    let some = some_length fs (c.factors-factors.ensures.some c.requires) in
    let last = read c.args.word.now fs c.factors-factors.ensures.same (length fs - 1) (omega arith) in
    record { has_first = last; has_second = last; ordered = omega arith }

pub returns-else-factors-eq1 : goal.returns-else-factors-eq1
returns-else-factors-eq1 c =
    let fs = c.factors-factors.result.now in
    let some = some_length fs (c.factors-factors.ensures.some c.requires) in
    let two : 1 < length fs = (let n = c.if-factors-eq1.false in omega (arith, n)) in
    let less = earlier c.args.word.now fs c.factors-factors.ensures.same (length fs - 2) (length fs - 1) (omega (arith, two)) (omega (arith, two)) in
    record {
      has_first = read c.args.word.now fs c.factors-factors.ensures.same (length fs - 1) (omega (arith, two));
      has_second = read c.args.word.now fs c.factors-factors.ensures.same (length fs - 2) (omega (arith, two));
      ordered = omega (arith, less);
    }
