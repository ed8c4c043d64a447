-- Lists with one member more, and the order by the degrees of the x.
use Rattle.std.proofs.Common.{◌≡◌, ℕ, refl, sym, subst, List, [], ◌∷◌, length}
use Rattle.std.specs.Prelude.{map, All}
use Rattle.std.specs.declared.cmp.Ordering.{Ordering}
use Rattle.std.proofs.lemmas.List.{append-nil}
use Rattle.std.proofs.lemmas.List.Kept.{AllPairs-cons}
use Rattle.monomial_order.specs.Monomial.{Exponents, weighted_degree, Divides}
use Rattle.monomial_order.specs.Orders.{weight_order}
use Rattle.word_laws.specs.Words.{variables}
use Rattle.word_laws.specs.laws.Images.{variables_degrees}
use Rattle.worked_words.specs.laws.Members.{each_member}
use Rattle.toric_ideal.specs.Listing.{AreZeros, OrdersByDegrees, IsZero}

-- one zero more
pub are_zeros_cons : (degrees : List ℕ) (c : ℕ) (all : List Exponents) (z : Exponents) (zs : List Exponents) →
    all ≡ z ∷ zs → IsZero degrees c z → All (λ y. (¬ Divides z y) × (¬ Divides y z)) zs → AreZeros degrees c zs →
    AreZeros degrees c all
are_zeros_cons degrees c all z zs e h a r =
    subst (AreZeros degrees c) (sym e) (record {
      each = each_member (IsZero degrees c) (z ∷ zs) z zs refl h r.each;
      apart = AllPairs-cons (λ x y. (¬ Divides x y) × (¬ Divides y x)) z zs a r.apart;
    })

-- the order by the degrees of the x
pub orders_degrees : (ws degrees : List ℕ) (rows : List (List ℕ)) (tie : Exponents → Exponents → Ordering) →
    ws ≡ degrees → OrdersByDegrees (weight_order ws rows tie) degrees
orders_degrees ws degrees rows tie e =
    subst (OrdersByDegrees (weight_order ws rows tie)) e (record {
      places = refl;
      gives = subst (λ vs. map (weighted_degree vs) (variables 0 (length ws)) ≡ ws)
          (append-nil ws) (variables_degrees ws []);
    })
