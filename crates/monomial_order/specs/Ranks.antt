-- How many monomials are smaller than a monomial, among the lists of exponents up to its degree.
use Rattle.std.specs.Prelude.{ℕ, zero, suc, List, [], ◌∷◌, ◌++◌, map, if◌then◌else◌}
use Rattle.std.specs.Ordering.{is_lt}
use Rattle.monomial_order.specs.Monomial.{Exponents}
use Rattle.monomial_order.specs.MonomialOrder.{MonomialOrder}

-- the lists that begin with a number up to d and go on as one of ls
abbrev pub begun : ℕ → List Exponents → List Exponents
begun zero ls = map (λ l. 0 ∷ l) ls
begun (suc d) ls = map (λ l. suc d ∷ l) ls ++ begun d ls

-- the lists of at most n numbers, each at most d
abbrev pub lists : ℕ → ℕ → List Exponents
lists zero d = [] ∷ []
lists (suc n) d = [] ∷ begun d (lists n d)

-- how many of the list are smaller than m
abbrev pub smaller_count : MonomialOrder → List Exponents → Exponents → ℕ
smaller_count O [] m = 0
smaller_count O (k ∷ ks) m = if is_lt (O.compare k m) then suc (smaller_count O ks m) else smaller_count O ks m

-- how many of the lists of at most as many places as the order has, and of exponents up to the degree of m, are smaller than m
abbrev pub rank : MonomialOrder → Exponents → ℕ
rank O m = smaller_count O (lists O.places (O.degree m)) m
