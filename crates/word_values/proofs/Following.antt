-- Paths from a word down to one that is ready.
use Rattle.std.proofs.Common.{◌≡◌, ℕ, ◌≤◌, refl, sym, ap, subst, List, [], ◌∷◌, ◌++◌, Option, Some, None, arith}
use Rattle.std.specs.Prelude.{IsNone, IfSome}
use Rattle.monomial_order.specs.Monomial.{Exponents}
use Rattle.polynomials.specs.Polynomial.{Polynomial}
use Rattle.polynomials.specs.Subalgebra.{Presented}
use Rattle.word_values.specs.declared.paths.Step.{Step}
use Rattle.word_values.specs.Values.{Table, IsReady, IsWordValue, IsStep, IsPath, AreValues, AreWordsTo, word_degree, whole}
use Rattle.word_values.proofs.Putting.{Offers, rest_degree, offered_values, offered_degrees, offered_stays}

module _ {E : Type 0} (P : Presented E) (S : List (Polynomial E)) where
  -- the last step of a path
  pub record IsEnd (w : Exponents) (ts : List Step) (t : Step) (v : Exponents) : Type 0 where
    pub front : IsPath P S w ts t.word
    pub step : IsStep P S t.word t
    pub rest : t.split.rest ≡ v

  pub path_end : (w : Exponents) (ts : List Step) (t : Step) (v : Exponents) → IsPath P S w (ts ++ t ∷ []) v → IsEnd w ts t v
  path_end w [] t v h = record { front = sym h.0.here; step = subst (λ u. IsStep P S u t) (sym h.0.here) h.0; rest = h.1 }
  path_end w (s ∷ ts) t v h = let r = path_end s.split.rest ts t v h.1 in record { front = (h.0, r.front); step = r.step; rest = r.rest }

  pub path_push : (w : Exponents) (ts : List Step) (t : Step) (v : Exponents) → IsPath P S w ts v → IsStep P S v t → IsPath P S w (ts ++ t ∷ []) t.split.rest
  path_push w [] t v h k = (subst (λ u. IsStep P S u t) (sym h) k, refl)
  path_push w (s ∷ ts) t v h k = (h.0, path_push s.split.rest ts t v h.1 k)

  pub path_degree : (w : Exponents) (ts : List Step) (v : Exponents) → IsPath P S w ts v → word_degree P S v ≤ word_degree P S w
  path_degree w [] v h = let e : word_degree P S w ≡ word_degree P S v = ap (word_degree P S) h in omega arith
  path_degree w (t ∷ ts) v h = let a = path_degree t.split.rest ts v h.1 in let b = rest_degree P S w t.split h.0.split in omega arith

  -- The words after those on the path are made: v is the last of them.
  pub record IsReached (w : Exponents) (ts : List Step) (made : Option (Polynomial E)) (first now : Table E) : Type 0 where
    pub end : Exponents
    pub path : IsPath P S w ts end
    pub ready : IsNone made → IsReady now end
    pub value : IfSome made (IsWordValue P S end)
    pub values : AreValues P S now
    pub degrees : (d : ℕ) → AreWordsTo P S d first → word_degree P S w ≤ d → AreWordsTo P S d now
    pub stays : (u : Exponents) → IsReady first u → IsReady now u

  -- what is known of the next word to be made
  pub record IsNext (w : Exponents) (t : Step) (made : Option (Polynomial E)) (now : Table E) : Type 0 where
    pub step : IsStep P S t.word t
    pub degree : word_degree P S (whole t.split) ≤ word_degree P S w
    pub ready : IsNone made → IsReady now t.split.rest
    pub value : IfSome made (IsWordValue P S t.split.rest)

  pub next_of : (w : Exponents) (us ts : List Step) (t : Step) (made : Option (Polynomial E)) (first now : Table E) → us ≡ ts ++ t ∷ [] → IsReached w us made first now → IsNext w t made now
  next_of w us ts t made first now is h =
      let e = path_end w ts t h.end (subst (λ us. IsPath P S w us h.end) is h.path) in
      let le = path_degree w ts t.word e.front in
      let same : word_degree P S (whole t.split) ≡ word_degree P S t.word = ap (word_degree P S) e.step.split.whole_is in
      record {
        step = e.step;
        degree = omega arith;
        ready = λ n. subst (IsReady now) (sym e.rest) (h.ready n);
        value = subst (λ u. IfSome made (IsWordValue P S u)) (sym e.rest) h.value;
      }

  module _ (w : Exponents) (us ts : List Step) (t : Step) (made : Option (Polynomial E)) (first now next : Table E) (v : Polynomial E)
      (is : us ≡ ts ++ t ∷ []) (h : IsReached w us made first now) (o : Offers now next t.word v) (value : IsWordValue P S t.word v) where
    -- what the table has after an offer
    pub next_values : AreValues P S next
    next_values = let n = next_of w us ts t made first now is h in offered_values P S now next t.word v o h.values n.step.word n.step.long value

    pub next_degrees : (d : ℕ) → AreWordsTo P S d first → word_degree P S w ≤ d → AreWordsTo P S d next
    next_degrees d k l =
        let n = next_of w us ts t made first now is h in
        let same : word_degree P S (whole t.split) ≡ word_degree P S t.word = ap (word_degree P S) n.step.split.whole_is in
        let le = n.degree in
        offered_degrees P S now next t.word v o d (h.degrees d k l) (omega arith)

    pub next_stays : (u : Exponents) → IsReady first u → IsReady next u
    next_stays u r = offered_stays P S now next t.word v o u (h.stays u r)

    -- one more word is made
    pub reach_next : (made' : Option (Polynomial E)) → (IsNone made' → IsReady next t.word) → IfSome made' (λ x. x ≡ v) → IsReached w ts made' first next
    reach_next made' ready same = record {
      end = t.word;
      path = (path_end w ts t h.end (subst (λ us. IsPath P S w us h.end) is h.path)).front;
      ready = ready;
      value = by_option made' same;
      values = next_values;
      degrees = next_degrees;
      stays = next_stays;
    }
      where
        by_option : (m : Option (Polynomial E)) → IfSome m (λ x. x ≡ v) → IfSome m (IsWordValue P S t.word)
        by_option None h = tt
        by_option (Some x) h = subst (IsWordValue P S t.word) (sym h) value
