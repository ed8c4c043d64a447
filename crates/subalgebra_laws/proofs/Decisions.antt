-- What is decided of the ideal decides the words.
use Rattle.std.proofs.Common.{ℕ, ◌≤◌, ◌↔◌, sym, subst, List, [], ◌∷◌, ◌⊎◌, inl, inr, ⊎_elim, length, arith}
use Rattle.std.specs.Prelude.{Contains}
use Rattle.monomial_order.specs.Monomial.{Divides, IsMultiple}
use Rattle.monomial_order.specs.Ranks.{lists}
use Rattle.monomial_order.specs.laws.Lists.{contains_here, contains_there, contains_none, contains_cases}
use Rattle.monomial_order.specs.laws.Cofactors.{Divides-trans}
use Rattle.monomial_order.specs.laws.Comparing.{le_or_not, monomial_or_not, divisor_degree}
use Rattle.monomial_order.specs.laws.Rank.{within_listed}
use Rattle.word_laws.specs.Words.{word_order_of, image_of, IsWord, IsReducible, IsMinimalReducible}
use Rattle.word_laws.specs.laws.Reducible.{multiple_closed, multiple_decided, reducible_zeros, find_smaller, within_own, reducible_exactly}
use Rattle.polynomials.specs.Subalgebra.{Presented, IsPresentation, LeadsIdeal, IsDecidedTo, AreZerosTo}
use Rattle.polynomials.specs.laws.NormalForm.{multiple_leads, zeros_decide}
use Rattle.subalgebra_laws.specs.Words.{letters, IsReducibleWord}
use Rattle.subalgebra_laws.specs.Bases.{AreMonicElements, IsIdealClosedAt}
use Rattle.polynomials.specs.laws.Coefficients.{found_monomial}
use Rattle.subalgebra_laws.specs.laws.Letters.{letter_degrees}
use Rattle.subalgebra_laws.proofs.Letters.{word_monic, letter_laws, word_degree, are_letters}
use Rattle.polynomials.specs.Polynomial.{Polynomial}

-- the members of a list with a decided property
decided_members : {A : Type 0} (D : A → Type 0) → ((v : A) → D v ⊎ (D v → ⊥)) → (ks : List A) → (zs : List A) × ((v : A) → Contains zs v ↔ (Contains ks v × D v))
decided_members D dec [] = ([], λ v. ((λ k. absurd (contains_none v k)), (λ k. absurd (contains_none v k.0))))
decided_members {A} D dec (x ∷ ks) = more (decided_members D dec ks)
  where
    more : (zs : List A) × ((v : A) → Contains zs v ↔ (Contains ks v × D v)) → (zs : List A) × ((v : A) → Contains zs v ↔ (Contains (x ∷ ks) v × D v))
    more (zs, r) = ⊎_elim
        (λ d. (
          x ∷ zs,
          λ v. (
            (λ k. ⊎_elim (λ e. subst (λ y. Contains (x ∷ ks) y × D y) e (contains_here x ks, d)) (λ i. let p = (r v).0 i in (contains_there x ks v p.0, p.1)) (contains_cases x zs v k)),
            (λ k. ⊎_elim (λ e. subst (Contains (x ∷ zs)) e (contains_here x zs)) (λ i. contains_there x zs v ((r v).1 (i, k.1))) (contains_cases x ks v k.0)),
          ),
        ))
        (λ n. (zs, λ v. ((λ k. let p = (r v).0 k in (contains_there x ks v p.0, p.1)), (λ k. ⊎_elim (λ e. absurd (n (subst D (sym e) k.1))) (λ i. (r v).1 (i, k.1)) (contains_cases x ks v k.0)))))
        (dec x)

module _ {E : Type 0} (P : Presented E) (H : IsPresentation P) where
  -- a decided ideal has a list of zeros
  pub decided_zeros : (c : ℕ) → IsDecidedTo P c → (zs : List (List ℕ)) × AreZerosTo P c zs
  decided_zeros c dec =
      let r = decided_members LeadsTo leads_or_not (lists P.order.places c) in (
        r.0,
        record {
          lead = λ n k. ((r.1 n).0 k).1.0;
          divide = λ m l d. (m, (r.1 m).1 (within_listed P.order H.order c m (record { monomial = found_monomial P.field H.field P.order H.order l.member l.poly m l.leads.nonzero; degree = d }), (l, d)), λ i. omega arith);
        },
      )
    where
      LeadsTo : List ℕ → Type 0
      LeadsTo m = LeadsIdeal P m × (P.order.degree m ≤ c)

      leads_or_not : (m : List ℕ) → LeadsTo m ⊎ (LeadsTo m → ⊥)
      leads_or_not m = ⊎_elim
          (λ le. ⊎_elim (λ mono. ⊎_elim (λ l. inl (l, le)) (λ n. inr (λ h. n h.0)) (dec m mono le)) (λ n. inr (λ h. n (found_monomial P.field H.field P.order H.order h.0.member h.0.poly m h.0.leads.nonzero))) (monomial_or_not P.order.places m))
          (λ n. inr (λ h. n h.1)) (le_or_not (P.order.degree m) c)

  module _ (c : ℕ) (zeros : List (List ℕ)) (Z : AreZerosTo P c zeros) where
    module _ (S : List (Polynomial E)) (HS : AreMonicElements P S) where
      image_leads : (w : List ℕ) → IsMultiple zeros (image_of (letters P S) w) → LeadsIdeal P (image_of (letters P S) w)
      image_leads w h = multiple_leads P H c zeros Z (image_of (letters P S) w) (word_monic P H S HS w).monomial h

      leads_image : (w : List ℕ) → (word_order_of (letters P S)).degree w ≤ c → LeadsIdeal P (image_of (letters P S) w) → IsMultiple zeros (image_of (letters P S) w)
      leads_image w d l = let e = word_degree P H S HS w in Z.divide (image_of (letters P S) w) l (omega arith)

      to_ideal : (w : List ℕ) → IsReducible (IsMultiple zeros) (letters P S) w → IsReducibleWord P S w
      to_ideal w = reducible_zeros (IsMultiple zeros) (LeadsIdeal P) (letters P S) w (image_leads w)

      of_ideal : (w : List ℕ) → (word_order_of (letters P S)).degree w ≤ c → IsReducibleWord P S w → IsReducible (IsMultiple zeros) (letters P S) w
      of_ideal w d = reducible_zeros (LeadsIdeal P) (IsMultiple zeros) (letters P S) w (leads_image w d)

      lower : (v w : List ℕ) → IsWord (letters P S) v → IsWord (letters P S) w → Divides v w → (word_order_of (letters P S)).degree w ≤ c → (word_order_of (letters P S)).degree v ≤ c
      lower v w hv hw d le = let x = divisor_degree (word_order_of (letters P S)) (letter_laws P H S HS) v w hv.trimmed hw.trimmed d in omega arith

      pub minimal_to_ideal : (w : List ℕ) → (word_order_of (letters P S)).degree w ≤ c → IsMinimalReducible (IsMultiple zeros) (letters P S) w → IsMinimalReducible (LeadsIdeal P) (letters P S) w
      minimal_to_ideal w le h = record {
        word = h.word;
        reducible = to_ideal w h.reducible;
        minimal = λ v hv rv d. h.minimal v hv (of_ideal v (lower v w hv h.word d le) rv) d;
      }

      minimal_of_ideal : (w : List ℕ) → (word_order_of (letters P S)).degree w ≤ c → IsMinimalReducible (LeadsIdeal P) (letters P S) w → IsMinimalReducible (IsMultiple zeros) (letters P S) w
      minimal_of_ideal w le h = record {
        word = h.word;
        reducible = of_ideal w le h.reducible;
        minimal = λ v hv rv d. h.minimal v hv (to_ideal v rv) d;
      }

      pub zeros_stand : (w : List ℕ) → (word_order_of (letters P S)).degree w ≤ c →
          (IsReducible (IsMultiple zeros) (letters P S) w ↔ IsReducibleWord P S w) × (IsMinimalReducible (IsMultiple zeros) (letters P S) w ↔ IsMinimalReducible (LeadsIdeal P) (letters P S) w)
      zeros_stand w le = ((to_ideal w, of_ideal w le), (minimal_to_ideal w le, minimal_of_ideal w le))

      -- a reducible word has a minimal reducible divisor
      minimal_by_zeros : (w : List ℕ) → IsWord (letters P S) w → (word_order_of (letters P S)).degree w ≤ c → IsReducibleWord P S w →
          (u : List ℕ) × IsMinimalReducible (LeadsIdeal P) (letters P S) u × Divides u w
      minimal_by_zeros w hw le red =
          let r = (reducible_exactly (letters P S) (are_letters P H S HS) (IsMultiple zeros)
          (multiple_closed (length (letter_degrees P S)) zeros)
          (multiple_decided (length (letter_degrees P S)) zeros) w hw).0 (of_ideal w le red) in
          (r.0, minimal_to_ideal r.0 (lower r.0 w r.1.word hw r.2 le) r.1, r.2)

  module _ (S : List (Polynomial E)) (HS : AreMonicElements P S) where
    pub minimal_divisor : (c : ℕ) → IsDecidedTo P c → (w : List ℕ) → IsWord (letters P S) w → (word_order_of (letters P S)).degree w ≤ c → IsReducibleWord P S w →
        (u : List ℕ) × IsMinimalReducible (LeadsIdeal P) (letters P S) u × Divides u w
    minimal_divisor c dec w hw le red = let z = decided_zeros c dec in minimal_by_zeros c z.0 z.1 S HS w hw le red

    pub words_decided : (c : ℕ) → IsDecidedTo P c → (w : List ℕ) → IsWord (letters P S) w → (word_order_of (letters P S)).degree w ≤ c → IsReducibleWord P S w ⊎ (IsReducibleWord P S w → ⊥)
    words_decided c dec w hw le =
        let e = word_degree P H S HS w in
        ⊎_elim (λ l. inl (inl l))
        (λ n. ⊎_elim (λ s. inl (inr s)) (λ none. inr (λ r. ⊎_elim n (λ s. none s.0 s.1) r))
        (find_smaller (letters P S) (are_letters P H S HS) ((word_order_of (letters P S)).degree w) w (within_own (letters P S) (are_letters P H S HS) w hw)))
        (dec (image_of (letters P S) w) (word_monic P H S HS w).monomial (omega arith))

  module _ (D c : ℕ) (closed : IsIdealClosedAt P D) where
    -- a list of zeros to D is one to every degree
    pub closed_zeros : (zs : List (List ℕ)) → AreZerosTo P D zs → AreZerosTo P c zs
    closed_zeros zs z = record {
      lead = z.lead;
      divide = λ m l d.
          let n = closed m l in
          let r = z.divide n.0 n.1 n.3 in
          (r.0, r.1, Divides-trans r.0 n.0 m r.2 n.2);
    }

    pub closed_decided : IsDecidedTo P D → IsDecidedTo P c
    closed_decided dec = let z = decided_zeros D dec in zeros_decide P H c z.0 (closed_zeros z.0 z.1)
