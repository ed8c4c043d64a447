-- What is made of the field, the variables and the power sums is a valid presentation of them.
use Rattle.std.proofs.Common.{◌≡◌, ℕ, ◌∙◌, ◌≤◌, [], length, map, refl, sym, ap, subst, arith}
use Rattle.std.specs.Prelude.{replicate}
use Rattle.std.specs.List.{range_with_len, IsDistinct}
use Rattle.std.specs.Str.{bytes_eq}
use Rattle.std.proofs.Math.ListN.{length-replicate}
use Rattle.word_field.specs.Field.{FieldOps, IsField}
use Rattle.word_field.specs.Residues.{residues}
use Rattle.word_field.specs.declared.WordField.{WordField}
use Rattle.word_field.specs.laws.Residues.{residues_field}
use Rattle.monomial_order.specs.declared.tie_break.Tie.TheVariants.{Lex}
use Rattle.monomial_order.specs.declared.weight_order.WeightOrder.{WeightOrder}
use Rattle.monomial_order.specs.Orders.{weight_order}
use Rattle.monomial_order.specs.Ties.{tie_order}
use Rattle.polynomials.specs.Subalgebra.{Presented, IsPresentation}
use Rattle.poly_core.specs.Names.{AreNames, IsNameList}
use Rattle.poly_core.specs.Presentation.{IsCanonicalList, IsValid, generator_degree, presented, weight_order_of}
use Rattle.poly_core.specs.declared.place_names.Names.{Names}
use Rattle.poly_core.specs.declared.place_names.Names.TheVariants.{Listed}
use Rattle.poly_core.specs.declared.presentations.Presentation.{Presentation}
use Rattle.poly_core.specs.laws.Presentation.{canonical_presentation}
use Rattle.power_sums.specs.PowerSums.{unit_order, sums_to, power_sums, variable_names}
use Rattle.power_sums.proofs.Powers.{unit_laws}
use Rattle.power_sums.proofs.SumForms.{canonical_sums, sums_degrees}
use Rattle.power_sums.proofs.VariableNames.{variable_list}

abbrev word_ops : WordField → FieldOps ℕ
word_ops f = residues f.modulus

-- the parts of the presentation of the power sums of m variables
pub record HasParts (m : ℕ) (p : Presentation WordField WeightOrder ℕ) : Type 0 where
  pub field : p.field.modulus ≡ 32003
  pub weights : p.order.weights.items ≡ replicate m 1
  pub rows : p.order.rows.items ≡ []
  pub tie : p.order.tie ≡ Lex
  pub names : p.names ≡ Listed (variable_names m)
  pub ideal : p.ideal.items ≡ []
  pub generators : p.generators.items ≡ sums_to (residues p.field.modulus) m
  pub no_x : p.gen_order.x_degrees.items ≡ []
  pub degrees : p.gen_order.s_degrees.items ≡ range_with_len 1 m

module _ (m : ℕ) (p : Presentation WordField WeightOrder ℕ) (has : HasParts m p) where
  pub presents : presented word_ops weight_order_of p ≡ power_sums m
  presents =
      let sums = has.generators ∙ ap (λ q. sums_to (residues q) m) has.field in
      λ i. record {
        field = residues (has.field i);
        order = weight_order (has.weights i) (has.rows i) (tie_order (has.tie i));
        ideal = has.ideal i;
        generators = sums i;
      }

  -- what holds of the power sums holds of the presentation
  carried : (P : Presented ℕ → Type 0) → P (power_sums m) → P (presented word_ops weight_order_of p)
  carried P h = subst P (sym presents) h

  named : 1 ≤ m → m ≤ 32 → IsDistinct bytes_eq (variable_names m) → AreNames (length p.order.weights.items) p.names
  named some few distinct =
      let places : length p.order.weights.items ≡ m = ap length has.weights ∙ length-replicate m 1 in
      let list : IsNameList (length p.order.weights.items) (variable_names m) =
      subst (λ (n : ℕ). IsNameList n (variable_names m)) (sym places) (variable_list m some few distinct) in
      subst (λ (names : Names). AreNames (length p.order.weights.items) names) (sym has.names) list

  pub valid : 1 ≤ m → m ≤ 32 → IsDistinct bytes_eq (variable_names m) → IsValid word_ops weight_order_of p
  valid some few distinct =
      let prime : IsField (residues 32003) = residues_field 32003 refl in
      let none : IsCanonicalList (residues 32003) (unit_order m) [] = record { each = tt; few = omega arith } in
      let sums = canonical_sums (residues 32003) prime m some few in
      record {
        presentation = carried IsPresentation (canonical_presentation (residues 32003) (unit_order m) prime (unit_laws m) [] (sums_to (residues 32003) m) none sums);
        names = named some few distinct;
        ideal = carried (λ (P : Presented ℕ). IsCanonicalList P.field P.order P.ideal) none;
        generators = carried (λ (P : Presented ℕ). IsCanonicalList P.field P.order P.generators) sums;
        no_x = has.no_x;
        degrees = has.degrees ∙ sym (carried (λ (P : Presented ℕ). map (generator_degree P.order) P.generators ≡ range_with_len 1 m) (sums_degrees (residues 32003) prime m some));
      }
