-- Canonical lists in which a term and those after it give way to lower ones.
use Rattle.std.proofs.Common.{ℕ, suc, ◌<◌, [], ◌∷◌, ◌++◌, arith}
use Rattle.word_field.specs.Field.{FieldOps, IsField}
use Rattle.monomial_order.specs.declared.terms.Term.{Term}
use Rattle.monomial_order.specs.MonomialOrder.{MonomialOrder, IsMonomialOrder}
use Rattle.monomial_order.specs.laws.Rank.{rank, rank_falls}
use Rattle.polynomials.specs.Polynomial.{Polynomial, IsBelow, IsCanonical, IsDecreasing}
use Rattle.polynomials.specs.laws.Decreasing.{IsBelow_trans}
use Rattle.polynomials.specs.laws.Terms.{IsBelow-append, IsBelow-left, IsBelow-right, IsSmall-append, IsSmall-left, canonical_right}

-- how far the lead may still fall
abbrev pub height : {E : Type 0} → MonomialOrder → Polynomial E → ℕ
height O [] = 0
height O (t ∷ p) = suc (rank O t.at)

module _ {E : Type 0} (K : FieldOps E) (O : MonomialOrder) (L : IsMonomialOrder O) where
  pub height_less : (t : Term E) (w r : Polynomial E) → IsCanonical K O r → IsBelow K O t.at r → height O r < height O (t ∷ w)
  height_less t w [] c b = omega arith
  height_less t w (x ∷ r) c b = let f = rank_falls O L x.at t.at c.decreasing.0.term.monomial b.0 in omega arith

  pub height_rest : (t : Term E) (w : Polynomial E) → IsCanonical K O (t ∷ w) → height O w < height O (t ∷ w)
  height_rest t w c = height_less t w w (canonical_right K O (t ∷ []) w c) c.decreasing.0.above

module _ {E : Type 0} (K : FieldOps E) (F : IsField K) (O : MonomialOrder) (L : IsMonomialOrder O) where
  -- what is greater than t is greater than what replaces t and the terms after it
  pub replaced : (t : Term E) (w done next : Polynomial E) → IsCanonical K O (done ++ (t ∷ w)) → IsCanonical K O next → IsBelow K O t.at next → IsCanonical K O (done ++ next)
  replaced t w done next h n b = record {
    decreasing = falls done h.decreasing;
    small = IsSmall-append O done next (IsSmall-left O done (t ∷ w) h.small) n.small;
  }
    where
      falls : (done : Polynomial E) → IsDecreasing K O (done ++ (t ∷ w)) → IsDecreasing K O (done ++ next)
      falls [] h = n.decreasing
      falls (s ∷ d) h = (
        record {
          term = h.0.term;
          nonzero = h.0.nonzero;
          above = IsBelow-append K O s.at d next (IsBelow-left K O s.at d (t ∷ w) h.0.above) (IsBelow_trans K F O L t.at s.at next (IsBelow-right K O s.at d (t ∷ w) h.0.above).0 b);
        },
        falls d h.1,
      )
