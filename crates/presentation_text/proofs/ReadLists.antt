-- The lists of polynomials that were read are lists of a presentation.
use Rattle.std.proofs.Common.{◌≡◌, ℕ, zero, suc, ◌≤◌, Bool, true, false, cond, eqb, List, [], ◌∷◌, length, map, Result, Ok, Err, refl, ap, subst, ◌∙◌, arith}
use Rattle.std.specs.List.{list_any, AllByRecursion}
use Rattle.std.proofs.lemmas.Bool.{le-leb}
use Rattle.word_field.specs.Field.{FieldOps, IsField}
use Rattle.monomial_order.specs.Limits.{degree_max}
use Rattle.monomial_order.specs.MonomialOrder.{MonomialOrder, IsMonomialOrder}
use Rattle.monomial_order.specs.Ranges.{all_between}
use Rattle.polynomials.specs.Polynomial.{Polynomial, Same, IsPoly, IsSmall, IsCanonical}
use Rattle.polynomials.specs.laws.Canonical.{canonical}
use Rattle.polynomials.specs.laws.Degrees.{all_found, decreasing_all}
use Rattle.poly_core.specs.Presentation.{AreCanonicalGenerators, IsCanonicalList, generator_degree}
use Rattle.poly_core.specs.declared.place_names.Names.TheVariants.{Listed}
use Rattle.polynomial_text.specs.declared.line_fault.LineKind.{LineKind}
use Rattle.polynomial_text.specs.Degrees.{IsLow}
use Rattle.polynomial_text.specs.PolyLine.{terms_of}
use Rattle.polynomial_text.specs.laws.ReadTerms.{terms_poly, terms_low}
use Rattle.polynomial_text.specs.laws.Steps.{step_ok, chosen, same_ok}
use Rattle.presentation_text.specs.declared.text_kind.TextKind.{TextKind}
use Rattle.presentation_text.specs.declared.text_kind.TextKind.TheVariants.{NotHomogeneous}
use Rattle.presentation_text.specs.Heading.{count_max, count_line}
use Rattle.presentation_text.specs.Judging.{degrees, is_one_degree, judged}
use Rattle.presentation_text.specs.Kinds.{in_text}
use Rattle.presentation_text.specs.Meaning.{AreSums}
use Rattle.presentation_text.specs.Reading.{Line, Head, order_of_head, next, several, poly_line, counted}
use Rattle.presentation_text.proofs.Counting.{count_small}
use Rattle.presentation_text.proofs.GeneratorDegrees.{first_degree}
use Rattle.presentation_text.proofs.Judged.{passed_generator}
use Rattle.presentation_text.proofs.NextLines.{next_was}

-- a sum of terms that a presentation may have
pub record IsFit {E : Type 0} (K : FieldOps E) (O : MonomialOrder) (sum : Polynomial E) : Type 0 where
  pub poly : IsPoly K O.places sum
  pub low : IsLow O sum
  pub one : is_one_degree (degrees K O sum) ≡ true
  pub positive : list_any (λ d. eqb d 0) (degrees K O sum) ≡ false

-- ---- a line

in_text_was : {A : Type 0} (r : Result A LineKind) (x : A) → in_text r ≡ Ok x → r ≡ Ok x
unfolding in_text
in_text_was (Ok y) x e = cc
in_text_was (Err kind) x e = absurd cc

not_constant : {A G : Type 0} (b : Bool) (g : G) (r y : A) → cond b (Err g) (Ok r) ≡ Ok y → (b ≡ false) × (r ≡ y)
not_constant true g r y e = absurd cc
not_constant {A} {G} false g r y e = (refl, same_ok {A = A} {G = G} r y e)

judged_was : {E : Type 0} (K : FieldOps E) (O : MonomialOrder) (constant : TextKind) (sum x : Polynomial E) → IsPoly K O.places sum → IsLow O sum → judged K O constant sum ≡ Ok x → IsFit K O x
unfolding judged
judged_was K O constant sum x poly low e =
    let one = chosen (is_one_degree (degrees K O sum)) (cond (list_any (λ d. eqb d 0) (degrees K O sum)) (Err constant) (Ok sum)) NotHomogeneous x e in
    let two = not_constant (list_any (λ d. eqb d 0) (degrees K O sum)) constant sum x one.1 in
    subst (IsFit K O) two.1 (record { poly = poly; low = low; one = one.0; positive = two.0 })

module _ {E : Type 0} (K : FieldOps E) (F : IsField K) (h : Head) where
  line_fit : (constant : TextKind) (line : List ℕ) (sum : Polynomial E) → poly_line K h constant line ≡ Ok sum → IsFit K (order_of_head h) sum
  unfolding poly_line
  line_fit constant line sum e =
      let r = step_ok (in_text (terms_of K (order_of_head h) (Listed h.names) line)) (judged K (order_of_head h) constant) sum e in
      let read = in_text_was (terms_of K (order_of_head h) (Listed h.names) line) r.0 r.1 in
      judged_was K (order_of_head h) constant r.0 sum
      (terms_poly K (order_of_head h) (Listed h.names) F line r.0 read) (terms_low K (order_of_head h) (Listed h.names) line r.0 read) r.2

  -- ---- counted lines

  several_fit : (last : ℕ) (constant : TextKind) (n : ℕ) (ls : List Line) (x : List (Polynomial E) × List Line) → several last (poly_line K h constant) n ls ≡ Ok x →
      (length x.0 ≡ n) × AllByRecursion (IsFit K (order_of_head h)) x.0
  unfolding several
  several_fit last constant zero ls x e =
      subst (λ (y : List (Polynomial E) × List Line). (length y.0 ≡ 0) × AllByRecursion (IsFit K (order_of_head h)) y.0) (same_ok ([], ls) x e) (refl, tt)
  several_fit last constant (suc n) ls x e =
      let first = step_ok (next last (poly_line K h constant) ls) _ x e in
      let others = step_ok (several last (poly_line K h constant) n first.0.1) _ x first.2 in
      let line = next_was (poly_line K h constant) last ls first.0 first.1 in
      let rest = several_fit last constant n first.0.1 others.0 others.1 in
      subst (λ (y : List (Polynomial E) × List Line). (length y.0 ≡ suc n) × AllByRecursion (IsFit K (order_of_head h)) y.0) (same_ok (first.0.0 ∷ others.0.0, others.0.1) x others.2)
      (ap suc rest.0, (line_fit constant line.0 first.0.0 line.1, rest.1))

  pub counted_fit : (last : ℕ) (key : List ℕ) (constant : TextKind) (ls : List Line) (x : List (Polynomial E) × List Line) → counted K last h key constant ls ≡ Ok x →
      (length x.0 ≤ count_max) × AllByRecursion (IsFit K (order_of_head h)) x.0
  unfolding counted
  counted_fit last key constant ls x e =
      let count = step_ok (next last (count_line key) ls) _ x e in
      let fit = several_fit last constant count.0.0 count.0.1 x count.2 in
      let few : count.0.0 ≤ count_max = count_small last key ls count.0 count.1 in
      (omega (arith, fit.0, few), fit.1)

-- ---- polynomials that are such sums

module _ {E : Type 0} (K : FieldOps E) (F : IsField K) (O : MonomialOrder) (L : IsMonomialOrder O) where
  all_small : (p : Polynomial E) → IsLow O p → IsSmall O p
  all_small [] h = tt
  all_small (t ∷ p) h = let low = h.0 in (omega (arith, low), all_small p h.1)

  -- each such sum has a canonical form
  form : (sum : Polynomial E) → IsFit K O sum → (p : Polynomial E) × Same K p sum × IsCanonical K O p
  form sum fit =
      let r = canonical K F O L sum fit.poly in
      let low : IsLow O r.0 =
      decreasing_all K F O L (λ m. O.degree m ≤ degree_max) r.0 r.1.decreasing
      (λ m c. all_found K F O L (λ m. O.degree m ≤ degree_max) sum fit.low m (λ z. c (r.1.same m ∙ z))) in
      (r.0, r.1.same, record { decreasing = r.1.decreasing; small = all_small r.0 low })

  pub forms : (sums : List (Polynomial E)) → AllByRecursion (IsFit K O) sums → (ps : List (Polynomial E)) × AreSums K O sums ps
  forms [] fit = ([], tt)
  forms (sum ∷ sums) fit =
      let first = form sum fit.0 in
      let others = forms sums fit.1 in
      (first.0 ∷ others.0, (first.1, first.2, others.1))

  are_generators : (sums ps : List (Polynomial E)) → AllByRecursion (IsFit K O) sums → AreSums K O sums ps → (length ps ≡ length sums) × AreCanonicalGenerators K O ps
  are_generators [] [] fit h = (refl, tt)
  are_generators [] (p ∷ ps) fit h = absurd h
  are_generators (sum ∷ sums) [] fit h = absurd h
  are_generators (sum ∷ sums) (p ∷ ps) fit h =
      let rest = are_generators sums ps fit.1 h.2 in
      (ap suc rest.0, (passed_generator K F O L sum p h.0 h.1 fit.0.low fit.0.one fit.0.positive, rest.1))

  pub canonical_list : (sums ps : List (Polynomial E)) → length sums ≤ count_max → AllByRecursion (IsFit K O) sums → AreSums K O sums ps → IsCanonicalList K O ps
  canonical_list sums ps few fit h = let g = are_generators sums ps fit h in record { each = g.1; few = omega (arith, few, g.0) }

  -- ---- the degrees of the letters

  degree_between : (p : Polynomial E) (ps : List (Polynomial E)) → AreCanonicalGenerators K O (p ∷ ps) → (1 ≤ generator_degree O p) × (generator_degree O p ≤ degree_max)
  degree_between [] ps h = (omega arith, omega arith)
  degree_between (t ∷ p) ps h = first_degree K F O L (t ∷ p) p t refl h.0

  pub letter_degrees : (ps : List (Polynomial E)) → AreCanonicalGenerators K O ps → all_between 1 degree_max (map (generator_degree O) ps) ≡ true
  letter_degrees [] h = refl
  letter_degrees (p ∷ ps) h =
      let d = degree_between p ps h in
      rw (le-leb 1 (generator_degree O p) d.0, le-leb (generator_degree O p) degree_max d.1) (letter_degrees ps h.1)
