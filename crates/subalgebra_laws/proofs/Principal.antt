-- The leads of an ideal that one polynomial generates are the multiples of its lead.
use Rattle.std.proofs.Common.{◌≡◌, ℕ, refl, sym, ◌∙◌, ap, subst, List, [], ◌∷◌, ◌++◌, ⊎_elim, append-nil}
use Rattle.std.specs.Prelude.{Contains}
use Rattle.monomial_order.specs.Monomial.{product}
use Rattle.monomial_order.specs.laws.Lists.{contains_cases, contains_here, contains_none}
use Rattle.polynomials.specs.Polynomial.{Polynomial, coefficient, Same, times, constant, IsPoly, IsLead}
use Rattle.polynomials.specs.Ideal.{Multiple, AreMultiples, sum_of}
use Rattle.polynomials.specs.Subalgebra.{Presented, IsPresentation, LeadsIdeal}
use Rattle.polynomials.specs.laws.Same.{append_same, times_same_left}
use Rattle.polynomials.specs.laws.Value.{times-append, one_times}
use Rattle.polynomials.specs.laws.Decreasing.{IsLead_unique}
use Rattle.polynomials.specs.laws.Canonical.{IsLead_same, zero_or_lead}
use Rattle.polynomials.specs.laws.Ideal.{IsPoly-append}
use Rattle.polynomials.specs.laws.Membership.{IsPoly-one}
use Rattle.polynomials.specs.laws.Coefficients.{nothing_at}
use Rattle.subalgebra_laws.proofs.MonicProducts.{times_lead}

module _ {E : Type 0} (P : Presented E) (H : IsPresentation P) (r : Polynomial E) (x : List ℕ) (alone : P.ideal ≡ r ∷ []) (poly : IsPoly P.field P.order.places r) (leads : IsLead P.field P.order r x) where
  open P use {field as K, order as O}
  open H use {field as F, order as L}

  pub generator_leads : LeadsIdeal P x
  generator_leads = record {
    member = r;
    poly = poly;
    inside = record {
      parts = record { by = constant K K.one; of = r } ∷ [];
      multiples = (IsPoly-one K F O.places, subst (λ xs. Contains xs r) (sym alone) (contains_here r []), tt);
      sums = λ m. sym (one_times K F r m) ∙ ap (λ p. coefficient K p m) (sym (append-nil (times K (constant K K.one) r)));
    };
    leads = leads;
  }

  -- a sum of multiples of r is one multiple
  collected : (parts : List (Multiple E)) → AreMultiples K O.places P.ideal parts → (q : Polynomial E) × IsPoly K O.places q × Same K (sum_of K parts) (times K q r)
  collected [] h = ([], tt, λ m. refl)
  collected (w ∷ ws) h =
      let k = collected ws h.2 in
      let only : r ≡ w.of = ⊎_elim (λ e. e) (λ i. absurd (contains_none w.of i)) (contains_cases r [] w.of (subst (λ xs. Contains xs w.of) alone h.1)) in (
        w.by ++ k.0,
        IsPoly-append K F O.places w.by k.0 h.0 k.1,
        λ m. append_same K F (times K w.by w.of) (times K w.by r) (sum_of K ws) (times K k.0 r) (λ i. ap (λ p. coefficient K (times K w.by p) i) (sym only)) k.2 m ∙
            ap (λ p. coefficient K p m) (sym (times-append K F w.by k.0 r)),
      )

  -- each lead of the ideal is a multiple of the lead
  pub leads_are_multiples : (m : List ℕ) → LeadsIdeal P m → (k : List ℕ) × (product k x ≡ m)
  leads_are_multiples m l =
      let c = collected l.inside.parts l.inside.multiples in
      let lm = IsLead_same K F O L l.member (times K c.0 r) m (λ i. l.inside.sums i ∙ c.2 i) l.leads in
      ⊎_elim (λ z. absurd (lm.nonzero (times_same_left K F c.0 [] r z m ∙ sym (nothing_at K m))))
      (λ k. (k.0, IsLead_unique K F O L (times K c.0 r) (product k.0 x) m (times_lead K F O L c.0 r k.0 x c.1 poly k.1 leads).0 lm)) (zero_or_lead K F O L c.0 c.1)
