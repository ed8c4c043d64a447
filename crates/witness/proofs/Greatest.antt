-- The greatest degree of a letter, place by place.
use Rattle.std.proofs.Common.{◌≡◌, ◌≢◌, ℕ, zero, suc, [], ◌∷◌, ◌+◌, ◌-◌, ◌<◌, ◌≤◌, ◌↔◌, ◌∙◌, sym, ap, subst, List, get_or, nat_cmp, length, arith, ⊎_elim}
use Rattle.std.proofs.lemmas.Grind.{common_steps}
use Rattle.std.specs.Ordering.{ord_max}
use Rattle.std.proofs.lemmas.List.{get_or_default}
use Rattle.monomial_order.specs.declared.terms.Term.{Term}
use Rattle.polynomials.specs.Polynomial.{Polynomial, AllAt}
use Rattle.monomial_order.specs.Monomial.{Exponents, exponent}
use Rattle.monomial_order.specs.laws.Comparing.{numbers_or_not, le_or_not}
use Rattle.monomial_order.specs.laws.Monomial.{exponent_past}
use Rattle.witness.specs.Expansion.{UsesUpTo}

module _ (k : ℕ) (ds m : List ℕ) where
  -- the letters before a place have degrees of at most b
  abbrev pub Before : ℕ → ℕ → Type 0
  Before place b = (i : ℕ) → k + i < place → exponent m (k + i) ≢ 0 → get_or ds (k + i) 0 ≤ b

  before_same : (place b : ℕ) → exponent m place ≡ 0 → Before place b → Before (place + 1) b
  before_same place b z h i l n = ⊎_elim (λ e. absurd (n (ap (exponent m) e ∙ z))) (λ o. h i (omega (arith, o)) n) (numbers_or_not (k + i) place)

  pub step_without : (place g : ℕ) → (exponent m place ≢ 0 → ⊥) → ((b : ℕ) → g ≤ b ↔ Before place b) → (b : ℕ) → g ≤ b ↔ Before (place + 1) b
  step_without place g z h b = (
    λ l. before_same place b (⊎_elim (λ e. e) (λ n. absurd (z n)) (numbers_or_not (exponent m place) 0)) (let f = h b in f.0 l),
    λ u. let f = h b in f.1 (λ i l n. u i (omega arith) n),
  )

  pub step_with : (place g r : ℕ) → k ≤ place → exponent m place ≢ 0 → ((b : ℕ) → r ≤ b ↔ ((g ≤ b) × (get_or ds place 0 ≤ b))) → ((b : ℕ) → g ≤ b ↔ Before place b) → (b : ℕ) → r ≤ b ↔ Before (place + 1) b
  step_with place g r kp n hr h b = (
    λ l i li ni.
        let s = (hr b).0 l in
        ⊎_elim (λ e. subst (λ x. get_or ds x 0 ≤ b) (sym e) s.1) (λ o. (h b).0 s.0 i (omega (arith, o)) ni) (numbers_or_not (k + i) place),
    λ u.
        let e : k + (place - k) ≡ place = omega arith in
        (hr b).1 (
          (h b).1 (λ i l x. u i (omega arith) x),
          subst (λ x. get_or ds x 0 ≤ b) e (u (place - k) (omega arith) (λ z. n (ap (exponent m) (sym e) ∙ z))),
        ),
  )

  pub all_places : (place g : ℕ) → length m ≤ place → ((b : ℕ) → g ≤ b ↔ Before place b) → (b : ℕ) → g ≤ b ↔ UsesUpTo k ds b m
  all_places place g l h b = (
    λ x i n. ⊎_elim (λ past. absurd (n (exponent_past m (k + i) (omega arith)))) (λ inside. (h b).0 x i (omega (arith, inside)) n) (le_or_not place (k + i)),
    λ u. (h b).1 (λ i li n. u i n),
  )

pub max_left : (a c r : ℕ) → r ≡ ord_max nat_cmp a c → a ≤ r
max_left a c r e = grind (arith, common_steps)

pub max_right : (a c r : ℕ) → r ≡ ord_max nat_cmp a c → c ≤ r
max_right a c r e = grind (arith, common_steps)

pub max_least : (a c r b : ℕ) → r ≡ ord_max nat_cmp a c → a ≤ b → c ≤ b → r ≤ b
max_least a c r b e h k = grind (arith, common_steps)

pub max_both : (a c r b : ℕ) → r ≡ ord_max nat_cmp a c → r ≤ b ↔ ((a ≤ b) × (c ≤ b))
max_both a c r b e = (λ l. let x = max_left a c r e in let y = max_right a c r e in (omega arith, omega arith), λ s. max_least a c r b e s.0 s.1)

module _ {E : Type 0} where
  pub all_index : (P : Exponents → Type 0) (p : Polynomial E) → AllAt P p → (i : ℕ) (d : Term E) → i < length p → P (let t : Term E = get_or p i d in t.at)
  all_index P [] h i d l = absurd (omega arith)
  all_index P (t ∷ p) h zero d l = h.0
  all_index P (t ∷ p) h (suc i) d l = all_index P p h.1 i d (omega arith)

  pub index_all : (P : Exponents → Type 0) (p : Polynomial E) → ((i : ℕ) (d : Term E) → i < length p → P (let t : Term E = get_or p i d in t.at)) → AllAt P p
  index_all P [] h = tt
  index_all P (t ∷ p) h = (h 0 t (omega arith), index_all P p (λ i d l. h (suc i) d (omega arith)))

  pub term_at : (P : Exponents → Type 0) (p : Polynomial E) (i : ℕ) (t : Term E) → i < length p → t ≡ get_or p i t → AllAt P p → P t.at
  term_at P p i t l e h = subst (λ u. P (let v : Term E = u in v.at)) (sym e) (all_index P p h i t l)

  module _ (Q : ℕ → Exponents → Type 0) (ts : Polynomial E) where
    -- the first n terms have the property Q b
    abbrev pub First : ℕ → ℕ → Type 0
    First n b = (i : ℕ) (d : Term E) → i < n → Q b (let t : Term E = get_or ts i d in t.at)

    pub more_terms : (n g x r : ℕ) (t : Term E) → n < length ts → t ≡ get_or ts n t → ((b : ℕ) → x ≤ b ↔ Q b t.at) → r ≡ ord_max nat_cmp g x → ((b : ℕ) → g ≤ b ↔ First n b) → (b : ℕ) → r ≤ b ↔ First (n + 1) b
    more_terms n g x r t l e q m h b = (
      λ le i d li.
          let s = (max_both g x r b m).0 le in
          ⊎_elim (λ z. subst (λ u. Q b (let v : Term E = u in v.at)) (e ∙ (get_or_default ts n t d l ∙ ap (λ j. get_or ts j d) (sym z))) ((q b).0 s.1))
          (λ o. (h b).0 s.0 i d (omega (arith, o))) (numbers_or_not i n),
      λ u.
          (max_both g x r b m).1 (
            (h b).1 (λ i d li. u i d (omega arith)),
            (q b).1 (subst (λ v. Q b (let w : Term E = v in w.at)) (sym e) (u n t (omega arith))),
          ),
    )

    pub all_terms : (n g : ℕ) → n ≡ length ts → ((b : ℕ) → g ≤ b ↔ First n b) → (b : ℕ) → g ≤ b ↔ AllAt (Q b) ts
    all_terms n g l h b = (λ x. index_all (Q b) ts (λ i d li. (h b).0 x i d (omega arith)), λ a. (h b).1 (λ i d li. all_index (Q b) ts a i d (omega arith)))
