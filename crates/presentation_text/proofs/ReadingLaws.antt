-- A text presents one presentation at most, and has a fault only if it presents none.
use Rattle.std.proofs.Common.{◌≡◌, ℕ, List, [], ◌∷◌, map, Result, Ok, Err, refl, sym, ap, subst, ◌∙◌}
use Rattle.word_field.specs.Field.{FieldOps, IsField}
use Rattle.monomial_order.specs.declared.weight_order.WeightOrder.{WeightOrder}
use Rattle.monomial_order.specs.MonomialOrder.{MonomialOrder, IsMonomialOrder}
use Rattle.poly_core.specs.declared.place_names.Names.TheVariants.{Listed}
use Rattle.poly_core.specs.declared.presentations.Presentation.{Presentation}
use Rattle.polynomials.specs.laws.Decreasing.{IsDecreasing_unique}
use Rattle.poly_core.specs.Presentation.{IsSame, weight_order_of, generator_degree}
use Rattle.presentation_text.specs.Kinds.{Fault}
use Rattle.presentation_text.specs.Reading.{Reading, AnyReading, reading}
use Rattle.presentation_text.specs.Meaning.{AreSums, IsReadIn}
use Rattle.presentation_text.proofs.FieldKinds.{IsKind}
use Rattle.polynomials.specs.Polynomial.{Polynomial}

pub no_outcome : {A F : Type 0} (r : Result A F) (a : A) (e : F) → r ≡ Ok a → r ≡ Err e → ⊥
no_outcome r a e h k = absurd cc

one_value : {A F : Type 0} (r : Result A F) (a b : A) → r ≡ Ok a → r ≡ Ok b → a ≡ b
one_value r a b h k = cc

module _ {E : Type 0} (K : FieldOps E) (F : IsField K) (O : MonomialOrder) (L : IsMonomialOrder O) where
  sums_unique : (sums ps qs : List (Polynomial E)) → AreSums K O sums ps → AreSums K O sums qs → ps ≡ qs
  sums_unique [] [] [] h k = refl
  sums_unique [] [] (q ∷ qs) h k = absurd k
  sums_unique [] (p ∷ ps) qs h k = absurd h
  sums_unique (sum ∷ sums) [] qs h k = absurd h
  sums_unique (sum ∷ sums) (p ∷ ps) [] h k = absurd k
  sums_unique (sum ∷ sums) (p ∷ ps) (q ∷ qs) h k =
      let first : p ≡ q = IsDecreasing_unique K F O L p q h.1.decreasing k.1.decreasing (λ m. h.0 m ∙ sym (k.0 m)) in
      ap (λ (x : Polynomial E). x ∷ ps) first ∙ ap (λ (l : List (Polynomial E)). q ∷ l) (sums_unique sums ps qs h.2 k.2)

-- sums over an equal field and in an equal order
sums_moved : {E : Type 0} {K M : FieldOps E} {O P : MonomialOrder} {a b : List (Polynomial E)} (ps : List (Polynomial E)) → K ≡ M → O ≡ P → a ≡ b → AreSums K O a ps → AreSums M P b ps
sums_moved {E} {K} {M} {O} {P} {a} {b} ps e f g h =
    subst (λ (x : List (Polynomial E)). AreSums M P x ps) g
    (subst (λ (X : MonomialOrder). AreSums M X a ps) f (subst (λ (X : FieldOps E). AreSums X O a ps) e h))

module _ {F E : Type 0} (ops : F → FieldOps E) (of_size : ℕ → FieldOps E) (any : Reading E → AnyReading) (kind : IsKind ops of_size any) where
  pub read_once : (p q : Presentation F WeightOrder E) (text : List ℕ) → IsReadIn ops (λ r. reading text ≡ Ok (any r)) p → IsReadIn ops (λ r. reading text ≡ Ok (any r)) q → IsSame p q
  read_once p q text h k =
      let same : k.present ≡ h.present = kind.same k.present h.present (one_value (reading text) (any k.present) (any h.present) k.reading h.reading) in
      let field : q.field ≡ p.field = kind.one q.field p.field (k.field ∙ (ap (λ (r : Reading E). r.head.size) same ∙ sym h.field)) in
      let over : ops q.field ≡ ops p.field = ap ops field in
      let weights : q.order.weights.items ≡ p.order.weights.items = k.weights ∙ (ap (λ (r : Reading E). r.head.weights) same ∙ sym h.weights) in
      let rows : q.order.rows.items ≡ p.order.rows.items = k.rows ∙ (ap (λ (r : Reading E). r.head.rows) same ∙ sym h.rows) in
      let tie : q.order.tie ≡ p.order.tie = k.tie ∙ (ap (λ (r : Reading E). r.head.tie) same ∙ sym h.tie) in
      let order : weight_order_of q.order ≡ weight_order_of p.order = cc in
      let fields = h.valid.presentation.field in
      let orders = h.valid.presentation.order in
      let ideal_sums : AreSums (ops p.field) (weight_order_of p.order) h.present.ideal q.ideal.items = sums_moved q.ideal.items over order (ap (λ (r : Reading E). r.ideal) same) k.ideal in
      let generator_sums : AreSums (ops p.field) (weight_order_of p.order) h.present.generators q.generators.items = sums_moved q.generators.items over order (ap (λ (r : Reading E). r.generators) same) k.generators in
      let ideal : q.ideal.items ≡ p.ideal.items = sums_unique (ops p.field) fields (weight_order_of p.order) orders h.present.ideal q.ideal.items p.ideal.items ideal_sums h.ideal in
      let generators : q.generators.items ≡ p.generators.items = sums_unique (ops p.field) fields (weight_order_of p.order) orders h.present.generators q.generators.items p.generators.items generator_sums h.generators in
      record {
        field = field;
        weights = weights;
        rows = rows;
        tie = tie;
        names = k.names ∙ (ap (λ (r : Reading E). Listed r.head.names) same ∙ sym h.names);
        ideal = ideal;
        generators = generators;
        x_degrees = k.valid.no_x ∙ sym h.valid.no_x;
        s_degrees = k.valid.degrees ∙ (ap (λ (O : MonomialOrder). map (generator_degree O) q.generators.items) order ∙ (ap (map (generator_degree (weight_order_of p.order))) generators ∙ sym h.valid.degrees));
      }

  pub read_has_no_fault : (p : Presentation F WeightOrder E) (text : List ℕ) (fault : Fault) → IsReadIn ops (λ r. reading text ≡ Ok (any r)) p → reading text ≡ Err fault → ⊥
  read_has_no_fault p text fault h e = no_outcome (reading text) (any h.present) fault h.reading e
