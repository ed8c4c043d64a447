-- Walking to where a term belongs.
use Rattle.std.proofs.Common.{◌≡◌, ◌≢◌, ℕ, ◌+◌, ◌-◌, refl, sym, ap, ◌∙◌, subst, [], ◌∷◌, ◌++◌, append-nil, append_assoc, arith, true, false, inl, inr}
use Rattle.std.specs.Prelude.{All}
use Rattle.std.specs.declared.cmp.Ordering.TheVariants.{Less, Equal, Greater}
use Rattle.word_field.specs.Field.{FieldOps}
use Rattle.monomial_order.specs.declared.terms.Term.{Term}
use Rattle.monomial_order.specs.Monomial.{Exponents}
use Rattle.monomial_order.specs.MonomialOrder.{MonomialOrder, IsMonomialOrder}
use Rattle.monomial_order.specs.laws.Comparing.{greater_less}
use Rattle.polynomials.specs.Polynomial.{Polynomial, term_of, IsMeasured}
use Rattle.polynomials.specs.laws.Terms.{all_back, AllAt-append}
use Rattle.linked_terms.specs.Cursor.{Cursor}
use Rattle.linked_terms.specs.Merging.{NextIs, HasPassed, IsSought, IsCombined}

module _ {E : Type 0} (O : MonomialOrder) (L : IsMonomialOrder O) (m : Exponents) where
  pub passed_none : (l : Cursor (Term E)) → HasPassed O m l l
  passed_none l = record { passed = []; left = sym (append-nil l.before); right = refl; spare = refl; above = tt }

  -- the next term is greater than m
  pub passed_one : (old l new : Cursor (Term E)) (x : Term E) (rest : Polynomial E) → HasPassed O m old l → l.after ≡ x ∷ rest → O.compare x.at m ≡ Greater →
      new ≡ record { before = l.before ++ x ∷ []; after = rest; spare = l.spare } → HasPassed O m old new
  passed_one old l new x rest h e g n = record {
    passed = h.passed ++ x ∷ [];
    left = ap (λ (v : Cursor (Term E)). v.before) n ∙ (ap (λ p. p ++ x ∷ []) h.left ∙ append_assoc old.before h.passed (x ∷ []));
    right = h.right ∙ (ap (λ p. h.passed ++ p) (e ∙ ap (λ p. x ∷ p) (ap (λ (v : Cursor (Term E)). v.after) (sym n))) ∙ sym (append_assoc h.passed (x ∷ []) new.after));
    spare = ap (λ (v : Cursor (Term E)). v.spare) n ∙ h.spare;
    above = AllAt-append (λ k. O.compare m k ≡ Less) h.passed (x ∷ []) h.above (greater_less O L x.at m g, tt);
  }

  pub measured : (old l : Cursor (Term E)) (x : Term E) (rest : Polynomial E) → HasPassed O m old l → All (IsMeasured O) old.after → l.after ≡ x ∷ rest → IsMeasured O x
  measured old l x rest h k e =
      let all : All (IsMeasured O) (h.passed ++ (x ∷ rest)) = subst (All (IsMeasured O)) (h.right ∙ ap (λ p. h.passed ++ p) e) k in
      all_back (IsMeasured O) h.passed (x ∷ rest) all 0 x (omega arith)

  pub sought_none : (old l : Cursor (Term E)) → HasPassed O m old l → l.after ≡ [] → IsSought O m false old l
  sought_none old l h e = record { walk = h; next = subst (NextIs O m false) (sym e) refl }

  pub sought_less : (old l : Cursor (Term E)) (x : Term E) (rest : Polynomial E) → HasPassed O m old l → l.after ≡ x ∷ rest → O.compare x.at m ≡ Less → IsSought O m false old l
  sought_less old l x rest h e k = record { walk = h; next = subst (NextIs O m false) (sym e) k }

  pub sought_equal : (old l : Cursor (Term E)) (x : Term E) (rest : Polynomial E) → HasPassed O m old l → l.after ≡ x ∷ rest → O.compare x.at m ≡ Equal → IsSought O m true old l
  sought_equal old l x rest h e k = record { walk = h; next = subst (NextIs O m true) (sym e) (L.equal x.at m k) }

module _ {E : Type 0} (K : FieldOps E) where
  -- the next term was taken out, and came back with the sum, which is not zero
  pub combined : (by sum : E) (next next' : Term E) (rest rest' : Polynomial E) (old mid new : Cursor (Term E)) →
      old.after ≡ next' ∷ rest' → old.after ≡ next ∷ rest → sum ≡ K.plus next'.by by → sum ≢ K.zero →
      mid ≡ record { before = old.before; after = rest'; spare = old.spare + 1 } →
      new ≡ record { before = mid.before ++ term_of next'.at sum ∷ []; after = mid.after; spare = mid.spare - 1 } →
      IsCombined K by next rest old new
  combined by sum next next' rest rest' old mid new e e' s n m a =
      let both : next' ∷ rest' ≡ next ∷ rest = sym e ∙ e' in
      let same : next' ≡ next = cc in
      let tail : rest' ≡ rest = cc in
      let total : sum ≡ K.plus next.by by = s ∙ ap (λ (t : Term E). K.plus t.by by) same in
      let before : mid.before ≡ old.before = ap (λ (v : Cursor (Term E)). v.before) m in
      let after : mid.after ≡ rest = ap (λ (v : Cursor (Term E)). v.after) m ∙ tail in
      let spare : mid.spare - 1 ≡ old.spare = let k = ap (λ (v : Cursor (Term E)). v.spare) m in omega arith in
      let at : next'.at ≡ next.at = ap (λ (t : Term E). t.at) same in
      let R : Polynomial E → Exponents → E → Polynomial E → ℕ → Cursor (Term E) = λ b k d r c. record { before = b ++ term_of k d ∷ []; after = r; spare = c } in
      inr (
        λ z. n (total ∙ z),
        a ∙ (ap (λ b. R b next'.at sum mid.after (mid.spare - 1)) before ∙
            (ap (λ k. R old.before k sum mid.after (mid.spare - 1)) at ∙
            (ap (λ d. R old.before next.at d mid.after (mid.spare - 1)) total ∙
            (ap (λ r. R old.before next.at (K.plus next.by by) r (mid.spare - 1)) after ∙
            ap (R old.before next.at (K.plus next.by by) rest) spare)))),
      )

  -- the next term was taken out, and the sum is zero
  pub cancelled : (by sum : E) (next next' : Term E) (rest rest' : Polynomial E) (old new : Cursor (Term E)) →
      old.after ≡ next' ∷ rest' → old.after ≡ next ∷ rest → sum ≡ K.plus next'.by by → sum ≡ K.zero →
      new ≡ record { before = old.before; after = rest'; spare = old.spare + 1 } → IsCombined K by next rest old new
  cancelled by sum next next' rest rest' old new e e' s z m =
      let both : next' ∷ rest' ≡ next ∷ rest = sym e ∙ e' in
      let same : next' ≡ next = cc in
      let tail : rest' ≡ rest = cc in
      inl (
        ap (λ (t : Term E). K.plus t.by by) (sym same) ∙ (sym s ∙ z),
        m ∙ ap (λ r. record { before = old.before; after = r; spare = old.spare + 1 }) tail,
      )
