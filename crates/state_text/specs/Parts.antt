-- What a state text says, and what makes it due.
use Rattle.std.specs.Prelude.{◌≢◌, ℕ, ◌+◌, ◌<◌, ◌≤◌, List, [], ◌∷◌, ◌++◌, length, get_or, map, All}
use Rattle.monomial_order.specs.Monomial.{Exponents, exponent}
use Rattle.monomial_order.specs.MonomialOrder.{MonomialOrder}
use Rattle.monomial_order.specs.Orders.{word_order}
use Rattle.word_laws.specs.Words.{word_order_of, IsSWord}
use Rattle.polynomials.specs.Polynomial.{Polynomial, coefficient, degree_of, IsCanonical, IsHomogeneous}
use Rattle.polynomials.specs.Subalgebra.{Presented}
use Rattle.poly_core.specs.Presentation.{generator_degree}
use Rattle.subalgebra_laws.specs.Words.{letters}
use Rattle.witness.specs.declared.tracked.Tracked.{Tracked}
use Rattle.witness.specs.Tracking.{values_of, IsGraded}
use Rattle.word_values.specs.Values.{word_degree}
use Rattle.completion.specs.declared.relations.Relation.{Relation}
use Rattle.state_text.specs.declared.version.Version.{Version}
use Rattle.state_text.specs.declared.version.Version.TheVariants.{One, Two}
use Rattle.state_text.specs.Limits.{bound_max, count_max}

-- the version, the degree, and elements and relations, each list with the count that stands before it
pub record Parts (F E : Type 0) : Type 0 where
  pub version : Version
  pub degree : ℕ
  pub count : ℕ
  pub elements : List (Tracked F E)
  pub relation_count : ℕ
  pub relations : List (Relation F E)

-- all of the elements and relations, as the counts say
abbrev pub whole : {F E : Type 0} → Version → ℕ → List (Tracked F E) → List (Relation F E) → Parts F E
whole version degree elements relations = record {
  version = version;
  degree = degree;
  count = length elements;
  elements = elements;
  relation_count = length relations;
  relations = relations;
}

-- the elements that a witness may use: in the first version none
abbrev pub usable : {E : Type 0} → Version → List (Polynomial E) → List (Polynomial E)
usable One S = []
usable Two S = S

module _ {E : Type 0} (P : Presented E) where
  -- the order of witnesses in the generators and the elements S
  abbrev pub witness_order : List (Polynomial E) → MonomialOrder
  witness_order S = word_order [] (map (generator_degree P.order) P.generators ++ map (degree_of P.order) S)

  -- a witness of degree d, not zero, that uses elements of S of smaller degree alone
  pub record IsDueWitness (S : List (Polynomial E)) (d : ℕ) (h : Polynomial E) : Type 0 where
    pub canonical : IsCanonical P.field (witness_order S) h
    pub nonzero : h ≢ []
    pub graded : IsGraded P.field (witness_order S) d h
    pub lower : (m : Exponents) → coefficient P.field h m ≢ P.field.zero →
        (i : ℕ) → exponent m (length P.generators + i) ≢ 0 → degree_of P.order (get_or S i []) < d

  module _ {F : Type 0} where
    -- t may be an element of a state of degree c, behind the elements S
    pub record IsDueElement (version : Version) (c : ℕ) (S : List (Polynomial E)) (t : Tracked F E) : Type 0 where
      pub canonical : IsCanonical P.field P.order t.value
      pub homogeneous : IsHomogeneous P.field P.order (degree_of P.order t.value) t.value
      pub at_least : 1 ≤ degree_of P.order t.value
      pub at_most : degree_of P.order t.value ≤ c
      pub witness : IsDueWitness (usable version S) (degree_of P.order t.value) t.by

    -- each of them may, behind S and those before it
    abbrev pub AreDueElements : Version → ℕ → List (Polynomial E) → List (Tracked F E) → Type 0
    AreDueElements version c S [] = Unit {0}
    AreDueElements version c S (t ∷ ts) = IsDueElement version c S t × AreDueElements version c (S ++ t.value ∷ []) ts

    -- a relation between words in the elements S, of a degree from 1 to c
    pub record IsDueRelation (S : List (Polynomial E)) (c : ℕ) (r : Relation F E) : Type 0 where
      pub word : IsSWord (letters P S) r.word
      pub not_one : r.word ≢ []
      pub degree : word_degree P S r.word ≤ c
      pub canonical : IsCanonical P.field (word_order_of (letters P S)) r.right
      pub words : (w : Exponents) → coefficient P.field r.right w ≢ P.field.zero → IsSWord (letters P S) w
      pub graded : IsGraded P.field (word_order_of (letters P S)) (word_degree P S r.word) r.right

    -- a degree, counts with at most 18 digits, and no more elements and relations than these counts
    pub record AreDue (s : Parts F E) : Type 0 where
      pub some : 1 ≤ s.degree
      pub small : s.degree ≤ bound_max
      pub elements : AreDueElements s.version s.degree [] s.elements
      pub counted : length s.elements ≤ s.count
      pub count : s.count < count_max
      pub relations : All (IsDueRelation (values_of s.elements) s.degree) s.relations
      pub relations_counted : length s.relations ≤ s.relation_count
      pub relation_count : s.relation_count < count_max
