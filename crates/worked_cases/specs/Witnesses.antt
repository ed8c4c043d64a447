-- Values with their witnesses, over presentations that tests read.
use Rattle.std.specs.Prelude.{ℕ, ◌<◌, length}
use Rattle.word_field.specs.Residues.{residues}
use Rattle.word_field.specs.declared.WordField.{WordField}
use Rattle.monomial_order.specs.MonomialOrder.{MonomialOrder}
use Rattle.monomial_order.specs.declared.weight_order.WeightOrder.{WeightOrder}
use Rattle.monomial_order.specs.declared.word_order.WordOrder.{WordOrder}
use Rattle.poly_core.specs.Presentation.{weight_order_of}
use Rattle.poly_core.specs.declared.presentations.Presentation.{Presentation}
use Rattle.polynomial_text.specs.Degrees.{IsLow}
use Rattle.witness.specs.Tracking.{by_order, IsCanonicalPair}
use Rattle.witness.specs.declared.tracked.Tracked.{Tracked}

module _ (p : Presentation WordField WeightOrder ℕ) (w : WordOrder) where
  -- the order has the places of the generators, and one for an element
  abbrev pub HasRoom : Type 0
  HasRoom = let O : MonomialOrder = by_order w in length p.generators.items < O.places

  -- both parts are canonical
  abbrev pub IsPairIn : Tracked WordField ℕ → Type 0
  IsPairIn t = IsCanonicalPair (residues p.field.modulus) (weight_order_of p.order) (by_order w) t

  -- both parts are canonical, and no monomial has a degree above 30000
  pub record IsLowPairIn (t : Tracked WordField ℕ) : Type 0 where
    pub pair : IsPairIn t
    pub low : IsLow (weight_order_of p.order) t.value
    pub low_by : IsLow (by_order w) t.by

-- in each order with these places
abbrev pub IsLowPair : Presentation WordField WeightOrder ℕ → Tracked WordField ℕ → Type 0
IsLowPair p t = (w : WordOrder) → HasRoom p w → IsLowPairIn p w t
