-- Adding the products of a term and the terms of a list, one after another.
use Rattle.std.proofs.Common.{◌≡◌, ◌≢◌, ℕ, zero, suc, ◌+◌, ◌<◌, ◌≤◌, refl, sym, ap, ◌∙◌, subst, List, [], ◌∷◌, ◌++◌, length, get_or, take, drop, append-nil, append_assoc, length-append, arith}
use Rattle.std.proofs.lemmas.List.{take-append-drop, take_more, drop_more, map-append}
use Rattle.std.specs.declared.cmp.Ordering.TheVariants.{Less}
use Rattle.word_field.specs.Field.{FieldOps, IsField}
use Rattle.monomial_order.specs.declared.terms.Term.{Term}
use Rattle.monomial_order.specs.Monomial.{Exponents, product}
use Rattle.monomial_order.specs.MonomialOrder.{MonomialOrder, IsMonomialOrder}
use Rattle.monomial_order.specs.laws.Monomial.{product_comm, product-one}
use Rattle.polynomials.specs.Polynomial.{Polynomial, coefficient, Same, term_of, term_times, scaled, AllAt, IsTerm, IsBelow, IsLeadTerm, IsDecreasing, IsSmall, IsCanonical}
use Rattle.polynomials.specs.laws.Same.{append_same}
use Rattle.polynomials.specs.laws.Terms.{IsDecreasing-right, IsDecreasing-scaled, small_scaled_at}
use Rattle.linked_terms.specs.Cursor.{Cursor}
use Rattle.linked_terms.specs.Merging.{IsAbove, IsAdded}

take_one : {A : Type 0} (k : ℕ) (p : List A) (t : A) → k < length p → t ≡ get_or p k t → take (k + 1) p ≡ take k p ++ t ∷ []
take_one k p t l e = take_more p k t l ∙ ap (λ x. take k p ++ x ∷ []) (sym e)

drop_one : {A : Type 0} (k : ℕ) (p : List A) (t : A) → k < length p → t ≡ get_or p k t → drop k p ≡ t ∷ drop (k + 1) p
drop_one k p t l e = drop_more p k t l ∙ ap (λ x. x ∷ drop (k + 1) p) (sym e)

-- the first k products were added
pub record IsMerging {E : Type 0} (K : FieldOps E) (O : MonomialOrder) (s : Term E) (terms : Polynomial E) (start : Cursor (Term E)) (k : ℕ) (l : Cursor (Term E)) : Type 0 where
  pub canonical : IsCanonical K O (l.before ++ l.after)
  pub sum : Same K (l.before ++ l.after) (start.after ++ scaled K s (take k terms))
  pub above : AllAt (λ n. IsAbove O n l.before) (scaled K s (drop k terms))
  pub count : (length l.before + length l.after) + l.spare ≡ length start.after + start.spare
  pub room : length terms ≤ l.spare + k

module _ {E : Type 0} (K : FieldOps E) (F : IsField K) (O : MonomialOrder) (L : IsMonomialOrder O) (s : Term E) (terms : Polynomial E) (start : Cursor (Term E)) where
  above_none : (p : List (Term E)) (q : Polynomial E) → p ≡ [] → AllAt (λ n. IsAbove O n p) q
  above_none p [] e = tt
  above_none p (t ∷ q) e = (subst (IsAbove O t.at) (sym e) tt, above_none p q e)

  pub merging_start : start.before ≡ [] → IsCanonical K O start.after → length terms ≤ start.spare → IsMerging K O s terms start 0 start
  merging_start e h l = record {
    canonical = subst (λ p. IsCanonical K O (p ++ start.after)) (sym e) h;
    sum = λ m. ap (λ p. coefficient K (p ++ start.after) m) e ∙ ap (λ p. coefficient K p m) (sym (append-nil start.after));
    above = above_none start.before (scaled K s terms) e;
    count = omega (arith, ap length e);
    room = omega arith;
  }

  -- all products were added, and the cursor went back
  pub merging_end : (l new : Cursor (Term E)) → IsMerging K O s terms start (length terms) l →
      new ≡ record { before = []; after = l.before ++ l.after; spare = l.spare } →
      (new.before ≡ []) × IsCanonical K O new.after × Same K new.after (start.after ++ scaled K s terms) × (length new.after + new.spare ≡ length start.after + start.spare)
  merging_end l new h e =
      let a : new.after ≡ l.before ++ l.after = ap (λ (v : Cursor (Term E)). v.after) e in
      let c : new.spare ≡ l.spare = ap (λ (v : Cursor (Term E)). v.spare) e in (
        ap (λ (v : Cursor (Term E)). v.before) e,
        subst (IsCanonical K O) (sym a) h.canonical,
        λ m. ap (λ p. coefficient K p m) a ∙ (h.sum m ∙ ap (λ p. coefficient K (start.after ++ scaled K s p) m) (take_all terms)),
        omega (arith, h.count, ap length a, length-append l.before l.after),
      )
    where
      take_all : (p : Polynomial E) → take (length p) p ≡ p
      take_all [] = refl
      take_all (t ∷ p) = ap (λ q. t ∷ q) (take_all p)

  module _ (canonical : IsCanonical K O terms) (term : IsTerm K O.places s) (nonzero : s.by ≢ K.zero) (small : IsSmall O (scaled K s terms))
      (k : ℕ) (t : Term E) (l : k < length terms) (is : t ≡ get_or terms k t) (x : Term E) (ex : x ≡ term_times K s t) (list : Cursor (Term E)) (h : IsMerging K O s terms start k list) where
    lead : IsLeadTerm K O (term_times K s t) (scaled K s (drop (k + 1) terms))
    lead =
        let rest : IsDecreasing K O (drop k terms) = IsDecreasing-right K O (take k terms) (drop k terms) (subst (IsDecreasing K O) (sym (take-append-drop k terms)) canonical.decreasing) in
        (IsDecreasing-scaled K F O L s (t ∷ drop (k + 1) terms) term nonzero (subst (IsDecreasing K O) (drop_one k terms t l is) rest)).0

    pub next_term : IsTerm K O.places x
    next_term = subst (IsTerm K O.places) (sym ex) lead.term

    pub next_nonzero : x.by ≢ K.zero
    next_nonzero = subst (λ (y : Term E). y.by ≢ K.zero) (sym ex) lead.nonzero

    pub next_small : O.degree x.at ≤ 65535
    next_small = subst (λ (y : Term E). O.degree y.at ≤ 65535) (sym ex) (small_scaled_at K O s terms k t small l is)

    pub next_above : IsAbove O x.at list.before
    next_above =
        subst (λ (y : Term E). IsAbove O y.at list.before) (sym ex)
        (subst (λ p. AllAt (λ n. IsAbove O n list.before) (scaled K s p)) (drop_one k terms t l is) h.above).0

    pub next_spare : 0 < list.spare
    next_spare = omega (arith, h.room)

    pub merging_more : (new : Cursor (Term E)) → IsAdded K O x list new → IsMerging K O s terms start (k + 1) new
    merging_more new a =
        record {
          canonical = a.canonical;
          sum = λ m.
              a.sum m ∙
              (append_same K F (list.before ++ list.after) (start.after ++ scaled K s (take k terms)) (x ∷ []) (x ∷ []) h.sum (λ n. refl) m ∙
              ap (λ p. coefficient K p m)
              (append_assoc start.after (scaled K s (take k terms)) (x ∷ []) ∙
              ap (λ p. start.after ++ p)
              (ap (λ y. scaled K s (take k terms) ++ y ∷ []) ex ∙ (sym (map-append (term_times K s) (take k terms) (t ∷ [])) ∙ ap (scaled K s) (sym (take_one k terms t l is))))));
          above = later (scaled K s (drop (k + 1) terms)) lead.above;
          count = omega (arith, a.count, h.count);
          room = omega (arith, a.room, h.room);
        }
      where
        later : (q : Polynomial E) → IsBelow K O (term_times K s t).at q → AllAt (λ n. IsAbove O n new.before) q
        later [] b = tt
        later (u ∷ q) b = (a.above u.at (subst (λ (y : Term E). O.compare u.at y.at ≡ Less) (sym ex) b.0), later q b.1)

-- the length of a monomial of the list
pub at_most : {E : Type 0} (n : ℕ) (p : Polynomial E) (i : ℕ) (t : Term E) → AllAt (λ k. length k ≤ n) p → i < length p → t ≡ get_or p i t → length t.at ≤ n
at_most n [] i t h l e = absurd (omega arith)
at_most n (u ∷ p) zero t h l e = subst (λ (x : Term _). length x.at ≤ n) (sym e) h.0
at_most n (u ∷ p) (suc i) t h l e = at_most n p i t h.1 (omega arith) e

-- the product with 1
pub product_nothing : (m k : Exponents) → length m ≡ 0 → k ≡ product m k
product_nothing [] k e = sym (product_comm [] k ∙ product-one k)
product_nothing (x ∷ m) k e = absurd (omega arith)

-- the product of two terms, by its parts
pub product_is : {E : Type 0} (K : FieldOps E) (m k : Exponents) (c b : E) (t : Term E) → k ≡ product m t.at → b ≡ K.times c t.by → term_of k b ≡ term_times K (term_of m c) t
product_is K m k c b t e h = ap (λ x. term_of x b) e ∙ ap (term_of (product m t.at)) h
