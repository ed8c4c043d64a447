-- The orders of monomials by weights, and of words.
use Rattle.std.specs.Prelude.{ℕ, List, [], ◌∷◌, ◌++◌, length, take, drop, sum}
use Rattle.std.specs.Ordering.{nat_cmp, ordering_then, on, then_cmp}
use Rattle.std.specs.Cmp.Lexicographic.{slice_cmp}
use Rattle.std.specs.declared.cmp.Ordering.{Ordering}
use Rattle.std.specs.declared.cmp.Ordering.TheVariants.{Less, Equal, Greater}
use Rattle.monomial_order.specs.Monomial.{Exponents, weighted_degree}
use Rattle.monomial_order.specs.MonomialOrder.{MonomialOrder}

-- the greater exponent at the first place that differs is the greater monomial
abbrev pub lex : Exponents → Exponents → Ordering
lex = slice_cmp nat_cmp

-- the greater exponent at the last place that differs is the smaller monomial
abbrev pub reverse_lex : Exponents → Exponents → Ordering
reverse_lex [] [] = Equal
reverse_lex [] (b ∷ n) = Greater
reverse_lex (a ∷ m) [] = Less
reverse_lex (a ∷ m) (b ∷ n) = ordering_then (reverse_lex m n) (nat_cmp b a)

-- each row in turn compares the sums of entry times exponent, and then the tie is broken
abbrev pub by_rows : List (List ℕ) → (Exponents → Exponents → Ordering) → Exponents → Exponents → Ordering
by_rows [] tie = tie
by_rows (row ∷ rows) tie = then_cmp (on (weighted_degree row) nat_cmp) (by_rows rows tie)

-- the degree by the weights, then the rows, then the tie
abbrev pub weight_order : List ℕ → List (List ℕ) → (Exponents → Exponents → Ordering) → MonomialOrder
weight_order weights rows tie = record {
  places = length weights;
  degree = weighted_degree weights;
  compare = by_rows (weights ∷ rows) tie;
}

-- The word order: the degree, then the sum of the exponents of x, then lex over s_1, .., s_r, then lex over
-- x_1, .., x_n. `xs` has the degrees of x_1, .., x_n, and `ss` those of s_1, .., s_r.
abbrev pub word_order : List ℕ → List ℕ → MonomialOrder
word_order xs ss = record {
  places = length (xs ++ ss);
  degree = weighted_degree (xs ++ ss);
  compare = then_cmp (on (weighted_degree (xs ++ ss)) nat_cmp)
      (then_cmp (on (λ w. sum (take (length xs) w)) nat_cmp)
      (then_cmp (on (drop (length xs)) lex) lex));
}
