use Rattle.std.proofs.Common.{◌≡◌, ◌+◌, ◌*◌, ◌-◌, ◌≤◌, ◌++◌, ◌∙◌, ap, sym, arith, take, get_or}
use Rattle.std.specs.Prelude.{sum_by}
use Rattle.std.proofs.lemmas.List.{take_all}
use Rattle.std.proofs.lemmas.List.Sums.{sum_by_more, sum_by-take-le}
use Rattle.monomial_order.specs.Limits.{exponent_max}
use Rattle.monomial_order.specs.Monomial.{exponent, weighted_degree}
use Rattle.word_rules.specs.Factors.{factors_of}
use Rattle.word_rules.proofs.FactorDegrees.{added_by, sum_of_factors}
use Rattle.word_rules.proofs.degrees.added_degree.Goals as goal

-- with the next letter, the sum is that of one letter more
more : (c : goal.After-from) → c.letters.sum + c.letter_degree.result * c.from.result
    ≡ sum_by (added_by (c.args.x_degrees.now ++ c.args.s_degrees.now) c.args.other.now)
    (take (c.letters.factor-index + 1) c.factors-factor-items.result.now)
more c =
    let ws = c.args.x_degrees.now ++ c.args.s_degrees.now in
    let o = c.args.other.now in
    let items = c.factors-factor-items.result.now in
    let i = c.letters.factor-index in
    let f = get_or items i (record { letter = 0; exponent = 0 }) in
    let excess : c.from.result ≡ f.exponent - exponent o f.letter =
    c.from.ensures ∙ (c.saturating_sub-excess.ensures ∙ ap (λ x. f.exponent - x) c.exponent_in.ensures) in
    let product : c.letter_degree.result * c.from.result ≡ added_by ws o f =
    ap (λ x. x * c.from.result) c.letter_degree.ensures ∙ ap (λ x. get_or ws f.letter 0 * x) excess in
    ap (λ x. c.letters.sum + x) product ∙ (ap (λ x. x + added_by ws o f) c.letters.invariant
    ∙ sym (sum_by_more (added_by ws o) items i (record { letter = 0; exponent = 0 }) c.letters-test.true))

-- it is at most the degree of the least common multiple
whole : (c : goal.After-from) → c.letters.sum + c.letter_degree.result * c.from.result ≤ exponent_max
whole c =
    let ws = c.args.x_degrees.now ++ c.args.s_degrees.now in
    let o = c.args.other.now in
    let items = c.factors-factor-items.result.now in
    let part = sum_by-take-le (added_by ws o) items (c.letters.factor-index + 1) in
    let all = ap (sum_by (added_by ws o)) c.factors-factor-items.ensures.same in
    let sum = sum_of_factors ws o c.args.word.now in
    let more = more c in
    let small = c.requires.small in
    omega arith

pub overflow_mul-sum : goal.overflow_mul-sum
overflow_mul-sum c = let h = whole c in omega arith

pub overflow_add-sum : goal.overflow_add-sum
overflow_add-sum c = let h = whole c in omega arith

pub letters-preserved : goal.letters-preserved
letters-preserved c = more c

pub returns : goal.returns
returns c =
    let ws = c.args.x_degrees.now ++ c.args.s_degrees.now in
    let o = c.args.other.now in
    let items = c.factors-factor-items.result.now in
    let F = added_by ws o in
    let items_are = take_all c.letters.factor-index items c.letters-test.false ∙ c.factors-factor-items.ensures.same in
    let all : c.letters.sum ≡ sum_by F (factors_of c.args.word.now) =
    c.letters.invariant ∙ ap (sum_by F) items_are in
    ap (λ x. weighted_degree ws o + x) all ∙ sum_of_factors ws o c.args.word.now
