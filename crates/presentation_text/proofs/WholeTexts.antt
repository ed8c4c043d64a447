-- The reading of a whole text, step by step.
use Rattle.std.proofs.Common.{◌≡◌, ℕ, ◌+◌, Bool, List, length, Result, Ok, Err, refl, sym, ap, ◌∙◌, arith}
use Rattle.std.specs.Prelude.{codes, IfOk, IfErr}
use Rattle.word_field.specs.Field.{FieldOps, IsField}
use Rattle.monomial_order.specs.declared.weight_order.WeightOrder.{WeightOrder}
use Rattle.monomial_order.specs.MonomialOrder.{IsMonomialOrder}
use Rattle.monomial_order.specs.laws.Ties.{weight_laws}
use Rattle.poly_core.specs.Names.{AreNames}
use Rattle.poly_core.specs.declared.presentations.Presentation.{Presentation}
use Rattle.poly_core.specs.Presentation.{IsValid, weight_order_of}
use Rattle.poly_core.specs.laws.Presentation.{canonical_presentation}
use Rattle.presentation_text.specs.declared.head.Head.{Head as Opening}
use Rattle.presentation_text.specs.declared.text_fault.TextFault.{TextFault}
use Rattle.presentation_text.specs.declared.text_kind.TextKind.TheVariants.{UnitIdeal, ConstantGenerator}
use Rattle.presentation_text.specs.Lines.{lines, end_line}
use Rattle.polynomial_text.specs.Results.{◌>>=◌}
use Rattle.presentation_text.specs.Kinds.{Fault}
use Rattle.presentation_text.specs.Reading.{Line, Head, Reading, AnyReading, head, counted, ended, reading_over, reading_behind, reading_of, reading_with}
use Rattle.presentation_text.specs.Meaning.{IsReadIn, IsFaultOf}
use Rattle.presentation_text.specs.Giving.{order_in, head_of}
use Rattle.presentation_text.specs.Pending.{Pending, pending}
use Rattle.presentation_text.specs.PolySums.{AreListsIn, IsMadeOf, lists}
use Rattle.presentation_text.proofs.FieldKinds.{IsKind}
use Rattle.presentation_text.proofs.NextLines.{fault_passes}
use Rattle.presentation_text.proofs.TableNames.{is_listed}
use Rattle.polynomials.specs.Polynomial.{Polynomial}

module _ {E : Type 0} (K : FieldOps E) (last : ℕ) (h : Head) (ls : List Line) where
  pub ideal_err : (e : TextFault) → IsFaultOf (counted K last h (codes "ideal") UnitIdeal ls) e → IsFaultOf (lists K last h ls) e
  unfolding lists
  ideal_err e k = fault_passes (counted K last h (codes "ideal") UnitIdeal ls) _ e k

  module _ (ideal : List (Polynomial E)) (behind : List Line) (first : counted K last h (codes "ideal") UnitIdeal ls ≡ Ok (ideal, behind)) where
    pub generators_err : (e : TextFault) → IsFaultOf (counted K last h (codes "generators") ConstantGenerator behind) e → IsFaultOf (lists K last h ls) e
    unfolding lists
    generators_err e k = rw first (fault_passes (counted K last h (codes "generators") ConstantGenerator behind) _ e k)

    module _ (generators : List (Polynomial E)) (rest : List Line) (second : counted K last h (codes "generators") ConstantGenerator behind ≡ Ok (generators, rest)) where
      pub end_err : (e : TextFault) → IsFaultOf (ended last rest) e → IsFaultOf (lists K last h ls) e
      unfolding lists
      end_err e k = rw (first, second) (fault_passes (ended last rest) _ e k)

      pub lists_are : (end : List Line) → ended last rest ≡ Ok end → lists K last h ls ≡ Ok (ideal, generators)
      unfolding lists
      lists_are end k = rw (first, second, k) refl

-- ---- the lines behind the heading

module _ {E : Type 0} (K : FieldOps E) (last : ℕ) (h : Head) (ls : List Line) where
  abbrev made : List (Polynomial E) × List (Polynomial E) → Result (Reading E) Fault
  made x = Ok (record { head = h; ideal = x.0; generators = x.1 })

  third : (a b : List (Polynomial E)) (r : Result (List Line) Fault) → ((r >>= λ end. Ok (a, b)) >>= made) ≡ (r >>= λ end. made (a, b))
  third a b (Ok end) = refl
  third a b (Err e) = refl

  second : (a : List (Polynomial E)) (r : Result (List (Polynomial E) × List Line) Fault) → ((r >>= λ generators. ended last generators.1 >>= λ end. Ok (a, generators.0)) >>= made) ≡ (r >>= λ generators. ended last generators.1 >>= λ end. made (a, generators.0))
  second a (Ok x) = third a x.0 (ended last x.1)
  second a (Err e) = refl

  first : (r : Result (List (Polynomial E) × List Line) Fault) → ((r >>= λ ideal. counted K last h (codes "generators") ConstantGenerator ideal.1 >>= λ generators. ended last generators.1 >>= λ end. Ok (ideal.0, generators.0)) >>= made)
      ≡ (r >>= λ ideal. counted K last h (codes "generators") ConstantGenerator ideal.1 >>= λ generators. ended last generators.1 >>= λ end. made (ideal.0, generators.0))
  first (Ok x) = second x.0 (counted K last h (codes "generators") ConstantGenerator x.1)
  first (Err e) = refl

  by_lists : reading_over K last h ls ≡ (lists K last h ls >>= made)
  unfolding lists reading_over
  by_lists = sym (first (counted K last h (codes "ideal") UnitIdeal ls))

  pub lists_refused : (e : TextFault) → IsFaultOf (lists K last h ls) e → IsFaultOf (reading_over K last h ls) e
  lists_refused e k = rw by_lists (fault_passes (lists K last h ls) made e k)

  pub lists_read : (x : List (Polynomial E) × List (Polynomial E)) → lists K last h ls ≡ Ok x → reading_over K last h ls ≡ Ok (record { head = h; ideal = x.0; generators = x.1 })
  lists_read x k = by_lists ∙ ap (λ (r : Result (List (Polynomial E) × List (Polynomial E)) Fault). r >>= made) k

module _ {F E : Type 0} (ops : F → FieldOps E) (f : F) (laws : IsField (ops f)) (last : ℕ) (h : Opening) (ls : List Line) (size : (ops f).size ≡ h.size)
    (named : AreNames (length h.order.weights.items) h.names) (ideal generators : List (Polynomial E))
    (are : AreListsIn (ops f) (order_in h) (λ sums. lists (ops f) last (head_of h) ls ≡ Ok sums) ideal generators) (p : Presentation F WeightOrder E) (of : IsMadeOf f h ideal generators p) where
  order_laws : IsMonomialOrder (weight_order_of h.order)
  order_laws = weight_laws h.order.weights.items h.order.rows.items h.order.tie h.order.weights_in_range

  valid : IsValid ops weight_order_of p
  valid = record {
    presentation = rw (of.field, of.order, of.ideal_is, of.generators_are) (canonical_presentation (ops f) (weight_order_of h.order) laws order_laws ideal generators are.ideal_canonical are.generators_canonical);
    names = rw (of.order, of.names) named;
    ideal = rw (of.field, of.order, of.ideal_is) are.ideal_canonical;
    generators = rw (of.field, of.order, of.generators_are) are.generators_canonical;
    no_x = of.no_x;
    degrees = rw (of.order, of.generators_are) of.degrees;
  }

  pub is_read_over : IsReadIn ops (λ r. reading_over (ops f) last (head_of h) ls ≡ Ok r) p
  is_read_over = record {
    present = record { head = head_of h; ideal = are.ideal_sums; generators = are.generator_sums };
    reading = lists_read (ops f) last (head_of h) ls (are.ideal_sums, are.generator_sums) are.is;
    field = ap (λ (g : F). (ops g).size) of.field ∙ size;
    names = of.names ∙ is_listed _ h.names named;
    weights = ap (λ (o : WeightOrder). o.weights.items) of.order;
    rows = ap (λ (o : WeightOrder). o.rows.items) of.order;
    tie = ap (λ (o : WeightOrder). o.tie) of.order;
    ideal = rw (of.field, of.order, of.ideal_is) are.ideal_same;
    generators = rw (of.field, of.order, of.generators_are) are.generators_same;
    valid = valid;
  }

-- ---- the whole

reading_from : (known : ℕ → Bool) (text : List ℕ) (l : Pending) → l ≡ pending 1 text → reading_with known text ≡ reading_of known l.missing l.left
reading_from known text l e =
    let same : 1 + length (lines text) ≡ end_line text = omega arith in
    rw (e, same) refl

pub head_refused : (known : ℕ → Bool) (text : List ℕ) (l : Pending) (e : TextFault) → l ≡ pending 1 text → IsFaultOf (head known l.missing l.left) e → IsFaultOf (reading_with known text) e
unfolding reading_of
head_refused known text l e start k = rw (reading_from known text l start) (fault_passes (head known l.missing l.left) _ e k)

-- what is read in one way is read in another
pub read_in : {F E : Type 0} {reads others : Reading E → Type 0} (ops : F → FieldOps E) (p : Presentation F WeightOrder E) → ((r : Reading E) → reads r → others r) → IsReadIn ops reads p → IsReadIn ops others p
read_in ops p f is = record {
  present = is.present;
  reading = f is.present is.reading;
  field = is.field;
  names = is.names;
  weights = is.weights;
  rows = is.rows;
  tie = is.tie;
  ideal = is.ideal;
  generators = is.generators;
  valid = is.valid;
}

module _ {F E : Type 0} (ops : F → FieldOps E) (of_size : ℕ → FieldOps E) (any : Reading E → AnyReading) (kind : IsKind ops of_size any) (known : ℕ → Bool) (text : List ℕ) (l : Pending) (start : l ≡ pending 1 text)
    (f : F) (h : Opening) (rest : List Line) (first : head known l.missing l.left ≡ Ok (head_of h, rest)) (size : (ops f).size ≡ h.size) where
  step : reading_of known l.missing l.left ≡ reading_behind l.missing (head_of h) rest
  unfolding reading_of
  step = rw first refl

  whole : reading_with known text ≡ (reading_over (ops f) l.missing (head_of h) rest >>= λ r. Ok (any r))
  whole = reading_from known text l start ∙ (step ∙ kind.behind f l.missing (head_of h) rest (sym size))

  pub over_refused : (e : TextFault) → IsFaultOf (reading_over (ops f) l.missing (head_of h) rest) e → IsFaultOf (reading_with known text) e
  over_refused e k = rw whole (fault_passes (reading_over (ops f) l.missing (head_of h) rest) (λ r. Ok (any r)) e k)

  pub over_read : (p : Presentation F WeightOrder E) → IsReadIn ops (λ r. reading_over (ops f) l.missing (head_of h) rest ≡ Ok r) p → IsReadIn ops (λ r. reading_with known text ≡ Ok (any r)) p
  over_read p is = read_in ops p (λ r e. whole ∙ ap (λ (r : Result (Reading E) Fault). r >>= λ x. Ok (any x)) e) is

pub if_ok : {A G : Type 0} {P Q : A → Type 0} (r : Result A G) → ((x : A) → P x → Q x) → IfOk r P → IfOk r Q
if_ok (Ok x) f h = f x h
if_ok (Err e) f h = tt

pub if_err : {A G : Type 0} {P Q : G → Type 0} (r : Result A G) → ((e : G) → P e → Q e) → IfErr r P → IfErr r Q
if_err (Ok x) f h = tt
if_err (Err e) f h = f e h
