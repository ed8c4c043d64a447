-- One more term in a loop over the terms of a polynomial.
use Rattle.std.proofs.Common.{◌≡◌, ◌≢◌, ℕ, ◌+◌, ◌<◌, ◌≤◌, sym, ◌∙◌, ap, subst, List, [], ◌∷◌, ◌++◌, length, take, get_or, cond, arith, append-nil}
use Rattle.std.specs.Prelude.{Result, Ok, Err, IfOk}
use Rattle.std.proofs.lemmas.List.{take_more}
use Rattle.std.proofs.lemmas.Bool.{eq-eqb}
use Rattle.word_field.specs.Field.{FieldOps, IsField}
use Rattle.monomial_order.specs.declared.terms.Term.{Term}
use Rattle.monomial_order.specs.MonomialOrder.{MonomialOrder, IsMonomialOrder}
use Rattle.polynomials.specs.Polynomial.{Polynomial, component, coefficient, scaled, times, Same, IsDecreasing, IsSmall, IsCanonical}
use Rattle.polynomials.specs.laws.Degrees.{component-append, differs}
use Rattle.polynomials.specs.laws.Same.{append_same}
use Rattle.polynomials.specs.laws.Value.{times-append}
use Rattle.polynomials.specs.laws.Terms.{IsDecreasing-scaled, IsSmall-left, IsSmall-right, canonical_left, canonical_right}

module _ {E : Type 0} (O : MonomialOrder) (d : ℕ) (p : Polynomial E) (i : ℕ) (t : Term E) where
  more : i < length p → t ≡ get_or p i t → component O d (take (i + 1) p) ≡ component O d (take i p) ++ component O d (t ∷ [])
  more l e = ap (component O d) (take_more p i t l ∙ ap (λ x. take i p ++ (x ∷ [])) (sym e)) ∙ component-append O d (take i p) (t ∷ [])

  pub component_more : (c c' : Polynomial E) (u : Term E) → i < length p → t ≡ get_or p i t → c ≡ component O d (take i p) → u ≡ t →
      O.degree t.at ≡ d → c' ≡ c ++ (u ∷ []) → c' ≡ component O d (take (i + 1) p)
  component_more c c' u l e h same holds is =
      is ∙ (ap (λ x. x ++ (u ∷ [])) h ∙ (ap (λ x. component O d (take i p) ++ (x ∷ [])) same ∙
      (ap (λ x. component O d (take i p) ++ x) (sym (ap (λ b. cond b (t ∷ []) []) (eq-eqb (O.degree t.at) d holds))) ∙ sym (more l e))))

  pub component_skip : (c : Polynomial E) → i < length p → t ≡ get_or p i t → c ≡ component O d (take i p) →
      O.degree t.at ≢ d → c ≡ component O d (take (i + 1) p)
  component_skip c l e h fails =
      h ∙ (sym (append-nil (component O d (take i p))) ∙
      (ap (λ x. component O d (take i p) ++ x) (sym (ap (λ b. cond b (t ∷ []) []) (differs (O.degree t.at) d fails))) ∙ sym (more l e)))

-- what an answer without out of memory is
pub if_ok : {T D : Type 0} (P Q : T → Type 0) (r : Result T D) → ((x : T) → P x → Q x) → IfOk r P → IfOk r Q
if_ok P Q (Ok x) f h = f x h
if_ok P Q (Err e) f h = tt

-- a list with one item
pub single : {A : Type 0} (xs : List A) (x : A) → 1 ≤ length xs → length xs < 2 → x ≡ get_or xs 0 x → xs ≡ x ∷ []
single [] x l m e = absurd (omega arith)
single (y ∷ []) x l m e = ap (λ z. z ∷ []) (sym e)
single (y ∷ (z ∷ xs)) x l m e = absurd (omega arith)

module _ {E : Type 0} (K : FieldOps E) (F : IsField K) (O : MonomialOrder) (L : IsMonomialOrder O) (a b : Polynomial E) (ha : IsCanonical K O a) (hb : IsCanonical K O b) (small : IsSmall O (times K a b)) where
  -- the product with a list of one term
  pub canonical_one : (t : Term E) → a ≡ t ∷ [] → IsCanonical K O (scaled K t b)
  canonical_one t e =
      let f : IsDecreasing K O (t ∷ []) = subst (IsDecreasing K O) e ha.decreasing in
      record {
        decreasing = IsDecreasing-scaled K F O L t b f.0.term f.0.nonzero hb.decreasing;
        small = IsSmall-left O (scaled K t b) [] (subst (λ x. IsSmall O (times K x b)) e small);
      }

  module _ (front back : Polynomial E) (e : a ≡ front ++ back) where
    canonical_both : IsCanonical K O (front ++ back)
    canonical_both = subst (IsCanonical K O) e ha

    small_both : IsSmall O (times K front b ++ times K back b)
    small_both = subst (IsSmall O) (ap (λ x. times K x b) e ∙ times-append K F front back b) small

    pub canonical_front : IsCanonical K O front
    canonical_front = canonical_left K O front back canonical_both

    pub canonical_back : IsCanonical K O back
    canonical_back = canonical_right K O front back canonical_both

    pub small_front : IsSmall O (times K front b)
    small_front = IsSmall-left O (times K front b) (times K back b) small_both

    pub small_back : IsSmall O (times K back b)
    small_back = IsSmall-right O (times K front b) (times K back b) small_both

    pub halves : (g s r : Polynomial E) → Same K g (times K front b) → Same K s (times K back b) → Same K r (g ++ s) → Same K r (times K a b)
    halves g s r hg hs hr m =
        hr m ∙ (append_same K F g (times K front b) s (times K back b) hg hs m ∙
        ap (λ x. coefficient K x m) (sym (times-append K F front back b) ∙ ap (λ x. times K x b) (sym e)))
