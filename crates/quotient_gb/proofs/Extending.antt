-- Quotients with more at their ends, and back.
use Rattle.std.proofs.Common.{◌≡◌, sym, ◌∙◌, ap, subst, List, [], ◌++◌, length, append-nil, append_assoc, take, ℕ, Bool, true, false, cond}
use Rattle.quotient_gb.specs.Quotient.{QuotientState, Begins, IsExtension}
use Rattle.std.proofs.lemmas.List.{take_at}

module _ {A : Type 0} where
  pub begins_itself : (xs ys : List A) → ys ≡ xs → Begins xs ys
  begins_itself xs ys e = ([], e ∙ sym (append-nil xs))

  pub begins_if : (b : Bool) (xs ys zs : List A) → zs ≡ cond b (xs ++ ys) xs → Begins xs zs
  begins_if true xs ys zs e = (ys, e)
  begins_if false xs ys zs e = begins_itself xs zs e

  begins_chain : (xs ys zs : List A) → Begins xs ys → Begins ys zs → Begins xs zs
  begins_chain xs ys zs h k = (h.0 ++ k.0, k.1 ∙ (ap (λ z. z ++ k.0) h.1 ∙ append_assoc xs h.0 k.0))

  -- cut to its length, the list is what it was
  pub take_begins : (xs ys : List A) (n : ℕ) → n ≡ length xs → Begins xs ys → take n ys ≡ xs
  take_begins xs ys n e h = ap (take n) h.1 ∙ take_at xs h.0 n (sym e)

module _ {E : Type 0} where
  pub extends_itself : (q q' : QuotientState E) → q'.leads ≡ q.leads → q'.members ≡ q.members → q'.pairs ≡ q.pairs → q'.closed ≡ q.closed → IsExtension q q'
  extends_itself q q' l m p c = record { leads = begins_itself q.leads q'.leads l; members = begins_itself q.members q'.members m; pairs = begins_itself q.pairs q'.pairs p; closed = c }

  pub extends_view : (q v q' : QuotientState E) → v ≡ q → Begins v.leads q'.leads → Begins v.members q'.members → Begins v.pairs q'.pairs → q'.closed ≡ v.closed → IsExtension q q'
  extends_view q v q' e l m p c = subst (λ z. IsExtension z q') e (record { leads = l; members = m; pairs = p; closed = c })

  pub extends_chain : (q q' q'' : QuotientState E) → IsExtension q q' → IsExtension q' q'' → IsExtension q q''
  extends_chain q q' q'' h k = record {
    leads = begins_chain q.leads q'.leads q''.leads h.leads k.leads;
    members = begins_chain q.members q'.members q''.members h.members k.members;
    pairs = begins_chain q.pairs q'.pairs q''.pairs h.pairs k.pairs;
    closed = k.closed ∙ h.closed;
  }

  pub same_state : (q q' : QuotientState E) → q'.degree ≡ q.degree → q'.leads ≡ q.leads → q'.members ≡ q.members → q'.pairs ≡ q.pairs → q'.closed ≡ q.closed → q' ≡ q
  same_state q q' d l m p c =
      let e : record { degree = q'.degree; leads = q'.leads; members = q'.members; pairs = q'.pairs; closed = q'.closed } ≡ record { degree = q.degree; leads = q.leads; members = q.members; pairs = q.pairs; closed = q.closed } = cc in
      e

  -- cut to their lengths, the lists are what they were
  pub restored : (q q1 v q' : QuotientState E) → IsExtension q q1 → v ≡ q1 → (n k : ℕ) → n ≡ length q.members → length q.leads ≡ length q.members → k ≡ length q.pairs →
      q'.degree ≡ q.degree → q'.leads ≡ take n v.leads → q'.members ≡ take n v.members → q'.pairs ≡ take k v.pairs → q'.closed ≡ v.closed → q' ≡ q
  restored q q1 v q' h e n k en el ek d l m p c = same_state q q' d
      (l ∙ (ap (λ z. take n z.leads) e ∙ take_begins q.leads q1.leads n (en ∙ sym el) h.leads))
      (m ∙ (ap (λ z. take n z.members) e ∙ take_begins q.members q1.members n en h.members))
      (p ∙ (ap (λ z. take k z.pairs) e ∙ take_begins q.pairs q1.pairs k ek h.pairs))
      (c ∙ (ap (λ z. z.closed) e ∙ h.closed))
