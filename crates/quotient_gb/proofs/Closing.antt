-- If the generators and the critical pairs of the degree d are reduced, the leads divide each lead of the ideal of degree d.
use Rattle.std.proofs.Common.{◌≡◌, ℕ, zero, suc, ◌+◌, ◌<◌, ◌≤◌, refl, sym, ◌∙◌, ap, subst, List, [], ◌∷◌, length, arith, ◌⊎◌, inl, inr, ⊎_elim, get_or, true, false}
use Rattle.std.proofs.lemmas.List.{length-map}
use Rattle.std.specs.Prelude.{Contains, map, nat_lt}
use Rattle.std.proofs.lemmas.Bool.{ltb-true, ltb-false}
use Rattle.std.specs.declared.cmp.Ordering.TheVariants.{Less}
use Rattle.monomial_order.specs.Monomial.{IsMonomial, Divides, least_common_multiple, AreCoprime, Exponents}
use Rattle.monomial_order.specs.laws.Monomial.{least_common_multiple_comm, IsMonomial-least_common_multiple}
use Rattle.monomial_order.specs.laws.Cofactors.{Divides-least_common_multiple, Divides-least_common_multiple_right}
use Rattle.monomial_order.specs.laws.Comparing.{increasing_below, increasing_tail, equal_or_not, le_or_not, proper_divisor, not_below_self}
use Rattle.monomial_order.specs.laws.Lists.{contains_at, contains_left, contains_either}
use Rattle.polynomials.specs.Polynomial.{Polynomial, IsHomogeneous, lead_monomial}
use Rattle.polynomials.specs.Subalgebra.{Presented, IsPresentation, LeadsIdeal}
use Rattle.monomial_order.specs.MonomialOrder.{IsIncreasing, IsMonomialOrder}
use Rattle.quotient_gb.specs.Combinations.{HasLeadDivisor}
use Rattle.quotient_gb.specs.Criterion.{HasStandardSPolynomial, HasRepresentationBelow, RepresentsPairs, ReducesGenerators}
use Rattle.quotient_gb.specs.declared.basis.Basis.{Basis}
use Rattle.quotient_gb.specs.declared.degree_step.DegreeStep.{DegreeStep}
use Rattle.quotient_gb.specs.DegreeStep.{all_members, IsStepAfter, ReducesGeneratorsAt, DividesLeads}
use Rattle.quotient_gb.proofs.Bases.{lead_is}
use Rattle.quotient_gb.proofs.Complete.{complete_pairs, complete_generators}
use Rattle.quotient_gb.proofs.Criterion.{criterion, reducer, AreReducers}
use Rattle.quotient_gb.proofs.Pairs.{below_sym, below_self, below_standard, below_coprime}
use Rattle.quotient_gb.proofs.Places.{at_default, has_divisor, is_multiple, multiple_more, lead_at}
use Rattle.quotient_gb.proofs.Steps.{member, degree, lower_multiple, increasing, minimal}

-- what is symmetric and holds of each member with itself, and at each two indices, holds of each two members
pub each_two : {A : Type 0} (d : A) (xs : List A) (R : A → A → Type 0) → ((x y : A) → R x y → R y x) → ((x : A) → R x x) →
    ((i j : ℕ) → i < j → j < length xs → R (get_or xs i d) (get_or xs j d)) → (x y : A) → Contains xs x → Contains xs y → R x y
each_two {A} d xs R turned itself some x y hx hy =
    elim (nat_lt hx.0 hy.0) as (λ b. nat_lt hx.0 hy.0 ≡ b → R x y) [
      | true ↦ λ e. at hx.0 hy.0 x y (ltb-true hx.0 hy.0 e) hy.1 (found x hx) (found y hy)
      | false ↦ λ e. elim (nat_lt hy.0 hx.0) as (λ b. nat_lt hy.0 hx.0 ≡ b → R x y) [
        | true ↦ λ e2. turned y x (at hy.0 hx.0 y x (ltb-true hy.0 hx.0 e2) hx.1 (found y hy) (found x hx))
        | false ↦ λ e2.
            let a : hy.0 ≤ hx.0 = ltb-false hx.0 hy.0 e in
            let b : hx.0 ≤ hy.0 = ltb-false hy.0 hx.0 e2 in
            let same : hx.0 ≡ hy.0 = omega arith in
            subst (R x) (sym (found x hx) ∙ (ap (λ i. get_or xs i d) same ∙ found y hy)) (itself x)
      ] refl
    ] refl
  where
    found : (x : A) (h : Contains xs x) → get_or xs h.0 d ≡ x
    found x h = at_default xs h.0 x d h.1 h.2

    at : (i j : ℕ) (x y : A) → i < j → j < length xs → get_or xs i d ≡ x → get_or xs j d ≡ y → R x y
    at i j x y lt l ex ey = subst (λ z. R z y) ex (subst (R (get_or xs i d)) ey (some i j lt l))

module _ {E : Type 0} (P : Presented E) where
  -- of two indices the later one has the greater lead
  pub increasing_at : IsMonomialOrder P.order → (ms : List Exponents) → IsIncreasing P.order ms → (i j : ℕ) → i < j → j < length ms → P.order.compare (get_or ms i []) (get_or ms j []) ≡ Less
  increasing_at L [] h i j l k = absurd (omega arith)
  increasing_at L (m ∷ ms) h i zero l k = absurd (omega arith)
  increasing_at L (m ∷ ms) h zero (suc j) l k = increasing_below P.order L m ms h (get_or ms j []) (contains_at ms j [] (omega arith))
  increasing_at L (m ∷ ms) h (suc i) (suc j) l k = increasing_at L ms (increasing_tail P.order m ms h) i j (omega arith) (omega arith)

module _ {F E : Type 0} (P : Presented E) (H : IsPresentation P) (b : Basis F E) (s : DegreeStep F E) (h : IsStepAfter P b s) (generators : ReducesGeneratorsAt P b s)
    (pairs : (i j : ℕ) → i < j → j < length b.members.items → P.order.degree (least_common_multiple (lead_monomial (get_or b.members.items i [])) (lead_monomial (get_or b.members.items j []))) ≡ s.degree →
    AreCoprime (lead_monomial (get_or b.members.items i [])) (lead_monomial (get_or b.members.items j [])) ⊎ HasStandardSPolynomial P.field P.order (all_members b s) (get_or b.members.items i []) (get_or b.members.items j [])) where
  abbrev before : List (Polynomial E)
  before = b.members.items

  abbrev G : List (Polynomial E)
  G = all_members b s

  abbrev d : ℕ
  d = s.degree

  next : d ≡ h.before.0 + 1
  next = h.before.1

  part : (x : Polynomial E) → Contains before x → Contains G x
  part x k = contains_left before s.found.members.items x k

  divides_lower : (m : Exponents) → LeadsIdeal P m → P.order.degree m ≤ h.before.0 → HasLeadDivisor G m
  divides_lower m k l = has_divisor G m (multiple_more before G m part (lower_multiple P H b s h m k (let e = next in omega arith)))

  reducers : AreReducers P.field P.order G
  reducers = reducer P H G (member P H b s h)

  all_generators : ReducesGenerators P d G
  all_generators = record {
    members = member P H b s h;
    generators = λ r k e le hr. ⊎_elim (λ l. complete_generators P H G (member P H b s h) h.before.0 divides_lower r k e l hr)
        (λ n. generators r k (subst (λ x. IsHomogeneous P.field P.order x r) (equal e le n) hr)) (le_or_not e h.before.0);
  }
    where
      equal : (e : ℕ) → e ≤ d → (e ≤ h.before.0 → ⊥) → e ≡ d
      equal e l n = let q = next in omega arith

  abbrev Represents : Polynomial E → Polynomial E → Type 0
  Represents x y = P.order.degree (least_common_multiple (lead_monomial x) (lead_monomial y)) ≡ d → HasRepresentationBelow P.field P.order G x y

  represents_turned : (x y : Polynomial E) → Represents x y → Represents y x
  represents_turned x y j e = below_sym P.field H.field P.order H.order G reducers x y (j (ap P.order.degree (least_common_multiple_comm (lead_monomial x) (lead_monomial y)) ∙ e))

  represents_itself : (x : Polynomial E) → Represents x x
  represents_itself x e = below_self P.field H.field P.order H.order G reducers x

  -- two members of a lower degree
  represents_before : (x y : Polynomial E) → Contains before x → Contains before y → Represents x y
  represents_before = each_two [] before Represents represents_turned represents_itself some
    where
      some : (i j : ℕ) → i < j → j < length before → Represents (get_or before i []) (get_or before j [])
      some i j lt l e =
          let hi = part (get_or before i []) (contains_at before i [] (omega arith)) in
          let hj = part (get_or before j []) (contains_at before j [] l) in
          ⊎_elim (λ co. below_coprime P.field H.field P.order H.order G reducers (get_or before i []) (get_or before j []) hi hj co)
          (λ r. below_standard P.field H.field P.order H.order G reducers (get_or before i []) (get_or before j []) hi hj r) (pairs i j lt l e)

  -- a member of the degree d has no critical pair of that degree
  represents_new : (i j : ℕ) → i < j → j < length G → (P.order.degree (lead_monomial (get_or G i [])) ≡ d) ⊎ (P.order.degree (lead_monomial (get_or G j [])) ≡ d) → Represents (get_or G i []) (get_or G j [])
  represents_new i j lt l new e = absurd (not_below_self P.order H.order (lead_monomial x) (subst (λ z. P.order.compare (lead_monomial x) z ≡ Less) (sym same) less))
    where
      x : Polynomial E
      x = get_or G i []

      y : Polynomial E
      y = get_or G j []

      hx : Contains G x
      hx = contains_at G i [] (omega arith)

      hy : Contains G y
      hy = contains_at G j [] l

      mx : IsMonomial P.order.places (lead_monomial x)
      mx = lead_is P H G (member P H b s h) x hx

      my : IsMonomial P.order.places (lead_monomial y)
      my = lead_is P H G (member P H b s h) y hy

      top : Exponents
      top = least_common_multiple (lead_monomial x) (lead_monomial y)

      mt : IsMonomial P.order.places top
      mt = IsMonomial-least_common_multiple P.order.places (lead_monomial x) (lead_monomial y) mx my

      less : P.order.compare (lead_monomial x) (lead_monomial y) ≡ Less
      less = subst (λ z. P.order.compare z (lead_monomial y) ≡ Less) (lead_at G i) (subst (λ z. P.order.compare (get_or (map lead_monomial G) i []) z ≡ Less) (lead_at G j)
          (increasing_at P H.order (map lead_monomial G) (increasing P H b s h) i j lt (let q = length-map G lead_monomial in omega arith)))

      -- a divisor of the degree of a monomial is that monomial
      whole : (m : Exponents) → IsMonomial P.order.places m → Divides m top → P.order.degree m ≡ d → m ≡ top
      whole m hm dv q = ⊎_elim (λ s. s) (λ ne. absurd (let p = proper_divisor P.order H.order m top mt hm.trimmed dv ne in let lt = p.1 in omega arith)) (equal_or_not m top)

      same : lead_monomial x ≡ lead_monomial y
      same = ⊎_elim
          (λ q. sym (minimal P H b s h y x hy hx (subst (Divides (lead_monomial y)) (sym (whole (lead_monomial x) mx (Divides-least_common_multiple (lead_monomial x) (lead_monomial y)) q)) (Divides-least_common_multiple_right (lead_monomial x) (lead_monomial y)))))
          (λ q. minimal P H b s h x y hx hy (subst (Divides (lead_monomial x)) (sym (whole (lead_monomial y) my (Divides-least_common_multiple_right (lead_monomial x) (lead_monomial y)) q)) (Divides-least_common_multiple (lead_monomial x) (lead_monomial y))))
          new

  represents_places : (i j : ℕ) → i < j → j < length G → Represents (get_or G i []) (get_or G j [])
  represents_places i j lt l = ⊎_elim
      (λ le. represents_new i j lt l (inl (exact i (omega arith) le)))
      (λ ni. ⊎_elim (λ le. represents_new i j lt l (inr (exact j l le)))
      (λ nj. represents_before (get_or G i []) (get_or G j []) (older i (omega arith) ni) (older j l nj)) (le_or_not d (P.order.degree (lead_monomial (get_or G j [])))))
      (le_or_not d (P.order.degree (lead_monomial (get_or G i []))))
    where
      exact : (k : ℕ) → k < length G → d ≤ P.order.degree (lead_monomial (get_or G k [])) → P.order.degree (lead_monomial (get_or G k [])) ≡ d
      exact k l le = let q = degree P H b s h (get_or G k []) (contains_at G k [] l) in omega arith

      older : (k : ℕ) → k < length G → (d ≤ P.order.degree (lead_monomial (get_or G k [])) → ⊥) → Contains before (get_or G k [])
      older k l n = ⊎_elim (λ i. i) (λ i. absurd (n (let q = h.degrees (get_or G k []) i in omega arith))) (contains_either before s.found.members.items (get_or G k []) (contains_at G k [] l))

  all_pairs : RepresentsPairs P d G
  all_pairs x y hx hy l = ⊎_elim (λ le. complete_pairs P H G (member P H b s h) h.before.0 divides_lower x y hx hy le)
      (λ n. each_two [] G Represents represents_turned represents_itself represents_places x y hx hy (equal (P.order.degree (least_common_multiple (lead_monomial x) (lead_monomial y))) l n))
      (le_or_not (P.order.degree (least_common_multiple (lead_monomial x) (lead_monomial y))) h.before.0)
    where
      equal : (e : ℕ) → e ≤ d → (e ≤ h.before.0 → ⊥) → e ≡ d
      equal e l n = let q = next in omega arith

  pub closed : DividesLeads P b s
  closed m k l = is_multiple G m (criterion P H d G all_generators all_pairs m k l)
