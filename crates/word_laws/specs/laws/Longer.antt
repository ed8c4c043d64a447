-- Orders of words with more letters at the end.
use Rattle.std.proofs.Common.{◌≡◌, ℕ, ◌≤◌, sym, ◌∙◌, ap, List, ◌++◌, length, take, drop, append_assoc}
use Rattle.std.specs.Prelude.{sum}
use Rattle.std.specs.Ordering.{nat_cmp, ordering_then, on, then_cmp}
use Rattle.std.specs.declared.cmp.Ordering.{Ordering}
use Rattle.monomial_order.specs.Monomial.{Exponents, weighted_degree}
use Rattle.monomial_order.specs.Orders.{word_order, lex}
use Rattle.word_laws.specs.laws.Images.{weighted_front}

-- words over the first letters have the same degrees, and compare in the same way
module _ (xs ss es : List ℕ) where
  pub longer_degree : (m : Exponents) → length m ≤ length (xs ++ ss) → (word_order xs (ss ++ es)).degree m ≡ (word_order xs ss).degree m
  longer_degree m l = ap (λ ds. weighted_degree ds m) (sym (append_assoc xs ss es)) ∙ weighted_front (xs ++ ss) es m l

  abbrev rest : Exponents → Exponents → Ordering
  rest = then_cmp (on (λ w. sum (take (length xs) w)) nat_cmp) (then_cmp (on (drop (length xs)) lex) lex)

  pub longer_compare : (m n : Exponents) → length m ≤ length (xs ++ ss) → length n ≤ length (xs ++ ss) →
      (word_order xs (ss ++ es)).compare m n ≡ (word_order xs ss).compare m n
  longer_compare m n hm hn =
      ap (λ d. ordering_then (nat_cmp d ((word_order xs (ss ++ es)).degree n)) (rest m n)) (longer_degree m hm) ∙
      ap (λ d. ordering_then (nat_cmp ((word_order xs ss).degree m) d) (rest m n)) (longer_degree n hn)
