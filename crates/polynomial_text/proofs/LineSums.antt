-- Sums of polynomials of a list.
use Rattle.std.proofs.Common.{◌≡◌, ◌≢◌, Bool, true, false, cond, List, [], ◌∷◌, ◌++◌, Result, Ok, Err, refl, sym, ap, subst, ◌∙◌, append_assoc, ⊎_elim}
use Rattle.std.specs.Result.{OnOk}
use Rattle.std.proofs.lemmas.Grind.{flat_map-append}
use Rattle.std.proofs.lemmas.List.{append-nil}
use Rattle.word_field.specs.Field.{FieldOps, IsField}
use Rattle.word_field.specs.laws.Field.{zero-plus-zero}
use Rattle.monomial_order.specs.declared.terms.Term.{Term}
use Rattle.monomial_order.specs.MonomialOrder.{MonomialOrder}
use Rattle.polynomials.specs.Polynomial.{Polynomial, term_of, coefficient, Same, IsCanonical, same_monomial}
use Rattle.polynomials.specs.laws.Same.{append_same}
use Rattle.polynomial_text.specs.LineReading.{AreCanonical, terms_together}

together_last : {E : Type 0} (ps : List (Polynomial E)) (p : Polynomial E) → terms_together (ps ++ p ∷ []) ≡ terms_together ps ++ p
together_last ps p = flat_map-append (λ q. q) ps (p ∷ []) ∙ ap (λ q. terms_together ps ++ q) (append-nil p)

module _ {E : Type 0} (K : FieldOps E) (O : MonomialOrder) where
  canonical_before : (ps : List (Polynomial E)) (p : Polynomial E) → AreCanonical K O (ps ++ p ∷ []) → AreCanonical K O ps
  canonical_before [] p h = tt
  canonical_before (q ∷ ps) p h = (h.0, canonical_before ps p h.1)

  canonical_last : (ps : List (Polynomial E)) (p : Polynomial E) → AreCanonical K O (ps ++ p ∷ []) → IsCanonical K O p
  canonical_last [] p h = h.0
  canonical_last (q ∷ ps) p h = canonical_last ps p h.1

  canonical_push : (ps : List (Polynomial E)) (p : Polynomial E) → AreCanonical K O ps → IsCanonical K O p → AreCanonical K O (ps ++ p ∷ [])
  canonical_push [] p h k = (k, tt)
  canonical_push (q ∷ ps) p h k = (h.0, canonical_push ps p h.1 k)

  -- a polynomial is put behind a list that was left as it was
  pub canonical_put : (old same new : List (Polynomial E)) (p : Polynomial E) → AreCanonical K O old → IsCanonical K O p → same ≡ old → new ≡ same ++ p ∷ [] → AreCanonical K O new
  canonical_put old same new p h k e put = subst (AreCanonical K O) (sym (put ∙ ap (λ qs. qs ++ p ∷ []) e)) (canonical_push old p h k)

  -- the last polynomial was taken
  pub canonical_rest : (old new : List (Polynomial E)) (p : Polynomial E) → AreCanonical K O old → old ≡ new ++ p ∷ [] → AreCanonical K O new
  canonical_rest old new p h e = canonical_before new p (subst (AreCanonical K O) e h)

  pub canonical_taken : (old new : List (Polynomial E)) (p : Polynomial E) → AreCanonical K O old → old ≡ new ++ p ∷ [] → IsCanonical K O p
  canonical_taken old new p h e = canonical_last new p (subst (AreCanonical K O) e h)

module _ {E : Type 0} (K : FieldOps E) (F : IsField K) where
  -- the last polynomial and a sum are added up
  pub summed : (old new : List (Polynomial E)) (p sum more whole : Polynomial E) → old ≡ new ++ p ∷ [] → Same K more (p ++ sum) → Same K (terms_together old ++ sum) whole → Same K (terms_together new ++ more) whole
  summed old new p sum more whole split added so_far m =
      append_same K F (terms_together new) (terms_together new) more (p ++ sum) (λ k. refl) added m ∙
      (ap (λ q. coefficient K q m) (sym (append_assoc (terms_together new) p sum)) ∙
      (ap (λ q. coefficient K (q ++ sum) m) (sym (together_last new p)) ∙
      (ap (λ qs. coefficient K (terms_together qs ++ sum) m) (sym split) ∙ so_far m)))

  no_share : (b : Bool) (c : E) → c ≡ K.zero → K.plus (cond b c K.zero) K.zero ≡ K.zero
  no_share true c h = ap (λ x. K.plus x K.zero) h ∙ zero-plus-zero K F
  no_share false c h = zero-plus-zero K F

  -- a term whose coefficient is zero is nothing
  zero_term : (t : Term E) → t.by ≡ K.zero → Same K [] (t ∷ [])
  unfolding coefficient
  zero_term t h m = sym (no_share (same_monomial t.at m) t.by h)

  term_same : (t : Term E) (p : Polynomial E) → (t.by ≡ K.zero → p ≡ []) → (t.by ≢ K.zero → p ≡ term_of t.at t.by ∷ []) → Same K p (t ∷ [])
  term_same t p none some =
      ⊎_elim (λ e. subst (λ q. Same K q (t ∷ [])) (sym (none e)) (zero_term t e)) (λ n. subst (λ q. Same K q (t ∷ [])) (sym (some n)) (λ m. refl)) (F.equal_or_not t.by K.zero)

  term_added : (old new : List (Polynomial E)) (t : Term E) (p : Polynomial E) → Same K p (t ∷ []) → Same K (terms_together new) (terms_together old ++ p) → Same K (terms_together new) (terms_together old ++ t ∷ [])
  term_added old new t p is added m = added m ∙ append_same K F (terms_together old) (terms_together old) p (t ∷ []) (λ k. refl) is m

  pub term_pushed : {M : Type 0} (r : Result (Unit {0}) M) (old new : List (Polynomial E)) (t : Term E) (p : Polynomial E) → (t.by ≡ K.zero → p ≡ []) → (t.by ≢ K.zero → p ≡ term_of t.at t.by ∷ []) →
      OnOk r (Same K (terms_together new) (terms_together old ++ p)) → OnOk r (Same K (terms_together new) (terms_together old ++ t ∷ []))
  term_pushed (Ok u) old new t p none some added = term_added old new t p (term_same t p none some) added
  term_pushed (Err e) old new t p none some added = tt
