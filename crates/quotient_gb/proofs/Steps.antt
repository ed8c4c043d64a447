-- The members of a basis with those of the step after it.
use Rattle.std.proofs.Common.{◌≢◌, ◌≡◌, ℕ, ◌+◌, ◌<◌, ◌≤◌, refl, sym, ◌∙◌, ap, subst, List, [], ◌++◌, length, arith, ◌⊎◌, ⊎_elim, get_or, slice_set, ◌∷◌}
use Rattle.std.proofs.lemmas.List.{length-map, length-set, get_or-set_same, get_or-set_other, map-append}
use Rattle.polynomials.specs.laws.Coefficients.{small_lead}
use Rattle.std.specs.Prelude.{Contains, map}
use Rattle.std.specs.List.{insert}
use Rattle.std.specs.declared.cmp.Ordering.TheVariants.{Less}
use borrow.Author.Count.{below_more}
use Rattle.monomial_order.specs.declared.terms.Term.{Term}
use Rattle.monomial_order.specs.Monomial.{IsMonomial, Divides, IsMultiple, Exponents}
use Rattle.monomial_order.specs.laws.Cofactors.{Divides-refl}
use Rattle.monomial_order.specs.laws.Comparing.{equal_or_not, le_or_not, three_ways, proper_divisor, divisor_degree, increasing_append}
use Rattle.monomial_order.specs.laws.Lists.{contains_at, contains_map, contains_none, contains_left, contains_right, contains_either, map_contains}
use Rattle.polynomials.specs.Polynomial.{Polynomial, lead_monomial, term_of}
use Rattle.polynomials.specs.Subalgebra.{Presented, IsPresentation, LeadsIdeal}
use Rattle.monomial_order.specs.MonomialOrder.{IsIncreasing}
use Rattle.quotient_gb.specs.declared.basis.Basis.{Basis}
use Rattle.quotient_gb.specs.declared.degree_step.DegreeStep.{DegreeStep}
use Rattle.quotient_gb.specs.IdealBasis.{IsMonicMember, AreIdealLeads, HasStandardTail, AreMonicMembers}
use Rattle.quotient_gb.specs.DegreeStep.{IsPart, all_members, IsBasisTo, IsStepAfter, IsLaterStep, DividesLeads, HasReducedTail, HasTails}
use Rattle.quotient_gb.specs.Remainder.{IsCanonicalIn, IsReducerIn, AreReducersIn}
use Rattle.quotient_gb.proofs.Bases.{lead_is}
use Rattle.quotient_gb.proofs.Inserting.{insert_there, insert_cases, map_insert, increasing_insert, set_cases}
use Rattle.quotient_gb.proofs.Places.{not_below, multiple_more}
use Rattle.quotient_gb.proofs.Remainders.{first_is_canonical}
use Rattle.quotient_gb.proofs.Tails.{member_leads, standard_tail}
use Rattle.polynomials.specs.laws.NormalForm.{lead_is_monomial}
use Rattle.std.proofs.Math.Seq.{map-set_same}

module _ {E : Type 0} (P : Presented E) (H : IsPresentation P) where
  pub reducer_of : (g : Polynomial E) → IsMonicMember P g → P.order.degree (lead_monomial g) ≤ 30000 → IsReducerIn P g
  reducer_of g h l = record { canonical = record { decreasing = h.decreasing; small = small_lead P.field H.field P.order H.order g h.decreasing (omega arith) }; monic = h.monic }

module _ {F E : Type 0} (P : Presented E) (H : IsPresentation P) (b : Basis F E) (s : DegreeStep F E) (h : IsStepAfter P b s) where
  abbrev G : List (Polynomial E)
  G = all_members b s

  abbrev found : List (Polynomial E)
  found = s.found.members.items

  pub lower_degree : (g : Polynomial E) → Contains b.members.items g → P.order.degree (lead_monomial g) < s.degree
  lower_degree g k = let l = h.before.2.basis.leads.degrees (lead_monomial g) (contains_map lead_monomial b.members.items g k) in let e = h.before.1 in omega arith

  pub member : AreMonicMembers P G
  member g k = ⊎_elim (λ i. h.before.2.basis.members g i) (λ i. h.members g i) (contains_either b.members.items found g k)

  pub degree : (g : Polynomial E) → Contains G g → P.order.degree (lead_monomial g) ≤ s.degree
  degree g k = ⊎_elim (λ i. let l = lower_degree g i in omega arith) (λ i. let e = h.degrees g i in omega arith) (contains_either b.members.items found g k)

  pub reducers : AreReducersIn P G
  reducers g k = reducer_of P H g (member g k) (let l = degree g k in let q = h.small in omega arith)

  pub found_reducer : (g : Polynomial E) → Contains found g → IsReducerIn P g
  found_reducer g k = reducers g (contains_right b.members.items found g k)

  -- the first term of a member alone
  pub found_front : (x : Polynomial E) → Contains found x → (t : Term E) (w : Polynomial E) → x ≡ t ∷ w → (front : Polynomial E) (m : Exponents) → m ≡ t.at →
      (t.by ≢ P.field.zero → front ≡ term_of m t.by ∷ []) → IsCanonicalIn P front
  found_front x k t w e front m f h = first_is_canonical P H x (found_reducer x k).canonical t w e front m f h

  -- a lead of the ideal of a lower degree is a multiple
  pub lower_multiple : (m : Exponents) → LeadsIdeal P m → P.order.degree m < s.degree → IsMultiple (map lead_monomial b.members.items) m
  lower_multiple m k l = h.before.2.basis.leads.divides m k (let e = h.before.1 in omega arith)

  pub increasing : IsIncreasing P.order (map lead_monomial G)
  increasing = subst (IsIncreasing P.order) (sym (map-append lead_monomial b.members.items found)) (increasing_append P.order (map lead_monomial b.members.items) (map lead_monomial found) h.before.2.basis.leads.increasing h.increasing
      (λ m n i j.
      let x = map_contains lead_monomial b.members.items m i in
      let y = map_contains lead_monomial found n j in
      let lx = lower_degree x.0 x.1 in
      let dy = h.degrees y.0 y.1 in
      let ex : P.order.degree (lead_monomial x.0) ≡ P.order.degree m = ap P.order.degree x.2 in
      let ey : P.order.degree (lead_monomial y.0) ≡ P.order.degree n = ap P.order.degree y.2 in
      H.order.degree_first m n (omega arith)))

  pub minimal : (x y : Polynomial E) → Contains G x → Contains G y → Divides (lead_monomial x) (lead_monomial y) → lead_monomial x ≡ lead_monomial y
  minimal x y hx hy d = ⊎_elim
      (λ i. ⊎_elim (λ j. h.before.2.basis.leads.minimal (lead_monomial x) (lead_monomial y) (contains_map lead_monomial b.members.items x i) (contains_map lead_monomial b.members.items y j) d)
      (λ j. absurd (h.fresh y j (lead_monomial x, contains_map lead_monomial b.members.items x i, d))) (contains_either b.members.items found y hy))
      (λ i. ⊎_elim (λ j. absurd (let l = lower_degree y j in let e = h.degrees x i in let q = divisor_degree P.order H.order (lead_monomial x) (lead_monomial y) (lead_is P H G member x hx).trimmed (lead_is P H G member y hy).trimmed d in omega arith))
      (λ j. same (h.degrees x i) (h.degrees y j)) (contains_either b.members.items found y hy))
      (contains_either b.members.items found x hx)
    where
      same : P.order.degree (lead_monomial x) ≡ s.degree → P.order.degree (lead_monomial y) ≡ s.degree → lead_monomial x ≡ lead_monomial y
      same ex ey = ⊎_elim (λ e. e) (λ ne. absurd (let p = proper_divisor P.order H.order (lead_monomial x) (lead_monomial y) (lead_is P H G member y hy) (lead_is P H G member x hx).trimmed d ne in let q = p.1 in omega arith)) (equal_or_not (lead_monomial x) (lead_monomial y))

  pub ideal_leads : DividesLeads P b s → AreIdealLeads P s.degree (map lead_monomial G)
  ideal_leads v = record {
    increasing = increasing;
    leads = λ m k. let r = map_contains lead_monomial G m k in subst (LeadsIdeal P) r.2 (member_leads P H r.0 (member r.0 r.1));
    degrees = λ m k. let r = map_contains lead_monomial G m k in subst (λ z. P.order.degree z ≤ s.degree) r.2 (degree r.0 r.1);
    minimal = λ m n i j d.
        let r = map_contains lead_monomial G m i in
        let q = map_contains lead_monomial G n j in
        sym r.2 ∙ (minimal r.0 q.0 r.1 q.1 (subst (λ z. Divides z (lead_monomial q.0)) (sym r.2) (subst (Divides m) (sym q.2) d)) ∙ q.2);
    divides = v;
  }

  pub step_leads : (n : Exponents) → Contains s.found.leads.items n → IsMonomial P.order.places n × (P.order.degree n ≤ 65535)
  step_leads n k =
      let r = map_contains lead_monomial found n (subst (λ ms. Contains ms n) h.leads k) in (
        subst (IsMonomial P.order.places) r.2 (lead_is_monomial P H (lead_monomial r.0) (member_leads P H r.0 (h.members r.0 r.1))),
        let e = h.degrees r.0 r.1 in let q = h.small in let d : P.order.degree (lead_monomial r.0) ≡ P.order.degree n = ap P.order.degree r.2 in omega arith,
      )

  -- the leads of both lists
  pub all_leads : DividesLeads P b s → (n : Exponents) → Contains (b.leads.items ++ s.found.leads.items) n → IsMonomial P.order.places n × (P.order.degree n ≤ 30000)
  all_leads v n k =
      let i = ideal_leads v in
      let j : Contains (map lead_monomial G) n = subst (λ ms. Contains ms n) (ap (λ ms. ms ++ s.found.leads.items) h.before.2.leads ∙ (ap (λ ms. map lead_monomial b.members.items ++ ms) h.leads ∙ sym (map-append lead_monomial b.members.items found))) k in
      (lead_is_monomial P H n (i.leads n j), let l = i.degrees n j in let q = h.small in omega arith)

  pub later_itself : IsLaterStep P b s s
  later_itself = record { degree = refl; step = h; part = λ x k. k }

  -- with a new member inserted
  module _ (r : Polynomial E) (hr : IsMonicMember P r) (at_most : P.order.degree (lead_monomial r) ≤ s.degree) (new : ¬ IsMultiple (map lead_monomial G) (lead_monomial r)) where
    new_degree : P.order.degree (lead_monomial r) ≡ s.degree
    new_degree = ⊎_elim (λ l. omega arith)
        (λ n. absurd (new (multiple_more b.members.items G (lead_monomial r) (λ x k. contains_left b.members.items found x k) (lower_multiple (lead_monomial r) (member_leads P H r hr) (not_below s.degree (P.order.degree (lead_monomial r)) n)))))
        (le_or_not s.degree (P.order.degree (lead_monomial r)))

    module _ (at : ℕ) (ls : List Exponents) (m : Exponents) (ls_is : ls ≡ s.found.leads.items) (m_is : m ≡ lead_monomial r) (within : at ≤ length ls)
        (before : (i : ℕ) → i < at → P.order.compare m (get_or ls i []) ≡ Less → ⊥) (after : at < length ls → P.order.compare m (get_or ls at []) ≡ Less)
        (s' : DegreeStep F E) (same : s'.degree ≡ s.degree) (members : s'.found.members.items ≡ insert found at r) (leads : s'.found.leads.items ≡ insert s.found.leads.items at m) where
      ls_are : ls ≡ map lead_monomial found
      ls_are = ls_is ∙ h.leads

      smaller : (i : ℕ) → i < at → P.order.compare (get_or (map lead_monomial found) i []) (lead_monomial r) ≡ Less
      smaller i l = ⊎_elim (λ lt. lt)
          (⊎_elim (λ e. absurd (new (get_or (map lead_monomial found) i [], more, subst (Divides (get_or (map lead_monomial found) i [])) e (Divides-refl (get_or (map lead_monomial found) i [])))))
          (λ gt. absurd (before i l (subst (λ x. P.order.compare x (get_or ls i []) ≡ Less) (sym m_is) (subst (λ x. P.order.compare (lead_monomial r) (get_or x i []) ≡ Less) (sym ls_are) gt)))))
          (three_ways P.order H.order (get_or (map lead_monomial found) i []) (lead_monomial r))
        where
          more : Contains (map lead_monomial G) (get_or (map lead_monomial found) i [])
          more = subst (λ x. Contains x (get_or (map lead_monomial found) i [])) (sym (map-append lead_monomial b.members.items found)) (contains_right (map lead_monomial b.members.items) (map lead_monomial found) (get_or (map lead_monomial found) i [])
              (contains_at (map lead_monomial found) i [] (let e : length ls ≡ length (map lead_monomial found) = ap length ls_are in omega arith)))

      in_new : (g : Polynomial E) → Contains s'.found.members.items g → (r ≡ g) ⊎ Contains found g
      in_new g k = insert_cases found at r g (subst (λ xs. Contains xs g) members k)

      pub inserted : IsLaterStep P b s s'
      inserted = record {
        degree = same;
        part = λ x k. subst (λ xs. Contains xs x) (sym members) (insert_there found at r x k);
        step = record {
          before = (h.before.0, same ∙ h.before.1, h.before.2);
          small = let q = h.small in omega arith;
          presentation = H;
          places = h.places;
          leads = leads ∙ (ap (λ x. insert s.found.leads.items at x) m_is ∙ (ap (λ x. insert x at (lead_monomial r)) h.leads ∙ (sym (map_insert lead_monomial found at r) ∙ ap (map lead_monomial) (sym members))));
          members = λ g k. ⊎_elim (λ e. subst (IsMonicMember P) e hr) (λ i. h.members g i) (in_new g k);
          degrees = λ g k. ⊎_elim (λ e. subst (λ x. P.order.degree (lead_monomial x) ≡ s'.degree) e (new_degree ∙ sym same)) (λ i. h.degrees g i ∙ sym same) (in_new g k);
          increasing = subst (λ xs. IsIncreasing P.order (map lead_monomial xs)) (sym members) (subst (IsIncreasing P.order) (sym (map_insert lead_monomial found at r)) (increasing_insert P (map lead_monomial found) at (lead_monomial r) h.increasing
              (subst (λ x. at ≤ length x) ls_are within) smaller
              (λ l. subst (λ x. P.order.compare x (get_or (map lead_monomial found) at []) ≡ Less) m_is (subst (λ x. P.order.compare m (get_or x at []) ≡ Less) ls_are (after (subst (λ x. at < length x) (sym ls_are) l))))));
          fresh = λ g k. ⊎_elim (λ e v. new (subst (IsMultiple (map lead_monomial G)) (sym (ap lead_monomial e)) (multiple_more b.members.items G (lead_monomial g) (λ x i. contains_left b.members.items found x i) v))) (λ i. h.fresh g i) (in_new g k);
        };
      }

  -- with the tail of a member reduced
  module _ (i : ℕ) (l : i < length found) (x : Polynomial E) (hx : IsMonicMember P x) (same : lead_monomial x ≡ lead_monomial (get_or found i [])) where
    leads_same : map lead_monomial (slice_set found i x) ≡ map lead_monomial found
    leads_same = map-set_same lead_monomial found i x [] same

    abbrev old : Polynomial E
    old = get_or found i []

    old_in : Contains found old
    old_in = contains_at found i [] l

    pub set_step : (s' : DegreeStep F E) → s'.degree ≡ s.degree → s'.found.members.items ≡ slice_set found i x → s'.found.leads.items ≡ s.found.leads.items → IsStepAfter P b s'
    set_step s' d e f = record {
      before = (h.before.0, d ∙ h.before.1, h.before.2);
      small = let q = h.small in omega arith;
      presentation = H;
      places = h.places;
      leads = f ∙ (h.leads ∙ (sym leads_same ∙ ap (map lead_monomial) (sym e)));
      members = λ g k. ⊎_elim (λ q. subst (IsMonicMember P) q hx) (λ j. h.members g j) (in_new g k);
      degrees = λ g k. ⊎_elim (λ q. ap P.order.degree (sym (ap lead_monomial q) ∙ same) ∙ (h.degrees old old_in ∙ sym d)) (λ j. h.degrees g j ∙ sym d) (in_new g k);
      increasing = subst (λ xs. IsIncreasing P.order (map lead_monomial xs)) (sym e) (subst (IsIncreasing P.order) (sym leads_same) h.increasing);
      fresh = λ g k. ⊎_elim (λ q v. h.fresh old old_in (subst (IsMultiple (map lead_monomial b.members.items)) (sym (ap lead_monomial q) ∙ same) v)) (λ j. h.fresh g j) (in_new g k);
    }
      where
        in_new : (g : Polynomial E) → Contains s'.found.members.items g → (x ≡ g) ⊎ Contains found g
        in_new g k = set_cases found i x g (subst (λ xs. Contains xs g) e k)

    pub set_tails : DividesLeads P b s → HasTails P i found → HasReducedTail P (map lead_monomial G) x → HasTails P (i + 1) (slice_set found i x)
    set_tails v t r = below_more (λ k. k < length (slice_set found i x) → HasStandardTail P (get_or (slice_set found i x) k [])) i
        (λ k lt q. subst (HasStandardTail P) (sym (get_or-set_other found i k x [] (λ q. omega arith))) (t k lt (let e = length-set found i x in omega arith)))
        (λ q. subst (HasStandardTail P) (sym (get_or-set_same found i x [] l))
        (standard_tail P H s.degree (map lead_monomial G) (ideal_leads v) x hx (let d : P.order.degree (lead_monomial x) ≡ s.degree = ap P.order.degree same ∙ h.degrees old old_in in omega arith) r))

-- steps with the same leads have as many members
pub found_count : {F E : Type 0} (P : Presented E) (b : Basis F E) (s s' : DegreeStep F E) → IsStepAfter P b s → IsStepAfter P b s' → s'.found.leads.items ≡ s.found.leads.items →
    length s.found.members.items ≡ length s'.found.members.items
found_count P b s s' h k e =
    let a : length (map lead_monomial s.found.members.items) ≡ length (map lead_monomial s'.found.members.items) = ap length (sym h.leads ∙ (sym e ∙ k.leads)) in
    let x = length-map s.found.members.items lead_monomial in let y = length-map s'.found.members.items lead_monomial in omega arith

-- the leads of a step whose tails change stay as they are
pub divides_same : {F E : Type 0} (P : Presented E) (b : Basis F E) (s s' : DegreeStep F E) → IsStepAfter P b s → IsStepAfter P b s' → s'.degree ≡ s.degree → s'.found.leads.items ≡ s.found.leads.items →
    DividesLeads P b s → DividesLeads P b s'
divides_same P b s s' h k d e v m lm l =
    subst (λ ms. IsMultiple ms m)
    (map-append lead_monomial b.members.items s.found.members.items ∙ (ap (λ ys. map lead_monomial b.members.items ++ ys) (sym h.leads ∙ (sym e ∙ k.leads)) ∙ sym (map-append lead_monomial b.members.items s'.found.members.items)))
    (v m lm (omega arith))

module _ {F E : Type 0} (P : Presented E) (b : Basis F E) (s s' s'' : DegreeStep F E) where
  pub later_chain : IsLaterStep P b s s' → IsLaterStep P b s' s'' → IsLaterStep P b s s''
  later_chain h k = record { degree = k.degree ∙ h.degree; step = k.step; part = λ x i. k.part x (h.part x i) }

module _ {F E : Type 0} (P : Presented E) (b : Basis F E) (s s' : DegreeStep F E) where
  pub part_all : IsLaterStep P b s s' → IsPart (all_members b s) (all_members b s')
  part_all h x k = ⊎_elim (λ i. contains_left b.members.items s'.found.members.items x i) (λ i. contains_right b.members.items s'.found.members.items x (h.part x i))
      (contains_either b.members.items s.found.members.items x k)

-- no member yet
pub empty_step : {F E : Type 0} (P : Presented E) → IsPresentation P → (b : Basis F E) (c : ℕ) → IsBasisTo P c b → (s : DegreeStep F E) → s.degree ≡ c + 1 → s.degree ≤ 30000 → P.order.places ≤ 32 → s.found.members.items ≡ [] → s.found.leads.items ≡ [] → IsStepAfter P b s
empty_step P H b c h s d small places e f = record {
  before = (c, d, h);
  small = small;
  presentation = H;
  places = places;
  leads = f ∙ ap (map lead_monomial) (sym e);
  members = λ g k. absurd (none g k);
  degrees = λ g k. absurd (none g k);
  increasing = subst (λ xs. IsIncreasing P.order (map lead_monomial xs)) (sym e) tt;
  fresh = λ g k. absurd (none g k);
}
  where
    none : (g : Polynomial _) → Contains s.found.members.items g → ⊥
    none g k = contains_none g (subst (λ xs. Contains xs g) e k)
