-- What is due can be printed.
use Rattle.std.proofs.Common.{ℕ, ◌+◌, ◌≤◌, Bool, true, false, List, [], ◌∷◌, ◌++◌, length, subst, ⊎_elim, ◌-◌, ltb, IsSome, arith, rules}
use Rattle.std.specs.Prelude.{All, Contains, map, get_or, if◌then◌else◌, Some}
use Rattle.std.specs.List.{AllByRecursion}
use Rattle.std.specs.Fmt.{decimal}
use Rattle.std.proofs.lemmas.List.Elements.{All-from_recursion}
use Rattle.monomial_order.specs.Monomial.{Exponents, IsMonomial}
use Rattle.monomial_order.specs.laws.Comparing.{degree_one}
use Rattle.monomial_order.specs.MonomialOrder.{IsMonomialOrder}
use Rattle.monomial_order.specs.declared.weight_order.WeightOrder.{WeightOrder}
use Rattle.monomial_order.specs.laws.Lists.{contains_cases, contains_none, map_contains}
use Rattle.word_laws.specs.Words.{word_order_of}
use Rattle.word_laws.specs.laws.Words.{word_laws}
use Rattle.poly_core.specs.declared.place_names.Names.{Names}
use Rattle.poly_core.specs.declared.presentations.Presentation.{Presentation}
use Rattle.poly_core.specs.Presentation.{presented, weight_order_of, IsValid}
use Rattle.poly_core.specs.Text.{AreNamed}
use Rattle.poly_core.specs.laws.Text.{decreasing_named, decreasing_values}
use Rattle.word_field.specs.Field.{FieldOps}
use Rattle.polynomials.specs.Polynomial.{Polynomial, degree_of, lead_monomial, IsDecreasing}
use Rattle.polynomials.specs.Subalgebra.{Presented, IsPresentation}
use Rattle.subalgebra_laws.specs.Words.{letters}
use Rattle.subalgebra_laws.specs.laws.Letters.{lead_letters}
use Rattle.witness.specs.declared.tracked.Tracked.{Tracked}
use Rattle.witness.specs.Tracking.{values_of}
use Rattle.completion.specs.declared.relations.Relation.{Relation}
use Rattle.completion.specs.LetterNames.{element_names, witness_names}
use Rattle.completion.specs.RelationLines.{IsPrintable}
use Rattle.completion.specs.laws.Printing.{relation_printable}
use Rattle.state_text.specs.declared.version.Version.{Version}
use Rattle.state_text.specs.declared.version.Version.TheVariants.{Two}
use Rattle.state_text.specs.Parts.{witness_order, AreDueElements, IsDueRelation}
use Rattle.state_text.specs.Writing.{IsPrintableElement}

-- paired names name each place
paired_place : (first count second i : ℕ) (b : Bool) →
    IsSome (if b then Some (first ∷ decimal (i + 1)) else Some (second ∷ decimal (i + 1 - count)))
paired_place first count second i true = search rules
paired_place first count second i false = search rules

paired_named : {E : Type 0} (count : ℕ) (p : Polynomial E) → AreNamed (witness_names count) p
paired_named count [] = tt
paired_named count (t ∷ p) = (λ i e. paired_place 103 count 115 i (ltb i count), paired_named count p)

module _ {E : Type 0} (P : Presented E) (H : IsPresentation P) where
  -- a lead is a monomial of positive degree
  abbrev IsLetterLead : Polynomial E → Type 0
  IsLetterLead s = IsMonomial P.order.places (lead_monomial s) × (1 ≤ degree_of P.order s)

  lead_of : (s : Polynomial E) → IsDecreasing P.field P.order s → 1 ≤ degree_of P.order s → IsLetterLead s
  lead_of [] d h = let z = degree_one P.order H.order in absurd (omega arith)
  lead_of (u ∷ s) d h = (d.0.term.monomial, h)

module _ {F E : Type 0} (P : Presented E) (H : IsPresentation P) where
  leads_of : (version : Version) (c : ℕ) (S : List (Polynomial E)) (ts : List (Tracked F E)) → AreDueElements P version c S ts →
      (s : Polynomial E) → Contains (values_of ts) s → IsLetterLead P H s
  leads_of version c S [] h s k = absurd (contains_none s k)
  leads_of version c S (t ∷ ts) h s k =
      ⊎_elim (λ e. subst (IsLetterLead P H) e (lead_of P H t.value h.0.canonical.decreasing h.0.at_least))
      (λ r. leads_of version c (S ++ t.value ∷ []) ts h.1 s r) (contains_cases t.value (values_of ts) s k)

  module _ (version : Version) (c : ℕ) (ts : List (Tracked F E)) (D : AreDueElements P version c [] ts) where
    abbrev S : List (Polynomial E)
    S = values_of ts

    lead_in : (m : Exponents) → Contains (map lead_monomial S) m → IsMonomial P.order.places m × (1 ≤ P.order.degree m)
    lead_in m h =
        let r = map_contains lead_monomial S m h in
        subst (λ k. IsMonomial P.order.places k × (1 ≤ P.order.degree k)) r.2 (leads_of version c [] ts D r.0 r.1)

    -- the words in elements that are due are in a monomial order
    pub due_letters : IsMonomialOrder (word_order_of (letters P S))
    due_letters = word_laws (letters P S) (lead_letters P H S lead_in)

    pub due_relations_printable : (relations : List (Relation F E)) → All (IsDueRelation P S c) relations →
        All (IsPrintable P.field (element_names P.order.places)) relations
    due_relations_printable relations h i z l =
        let r = h i z l in relation_printable P S H due_letters (get_or relations i z) r.word r.canonical.decreasing r.words

module _ {F E : Type 0} (ops : F → FieldOps E) (p : Presentation F WeightOrder E) (V : IsValid ops weight_order_of p) where
  abbrev P : Presented E
  P = presented ops weight_order_of p

  abbrev letters_2 : Names
  letters_2 = witness_names (length P.generators)

  printable : (c : ℕ) (S : List (Polynomial E)) (ts : List (Tracked F E)) → AreDueElements P Two c S ts →
      AllByRecursion (IsPrintableElement P.field p.names letters_2) ts
  printable c S [] h = tt
  printable c S (t ∷ ts) h = (
    record {
      value = (decreasing_values P.field P.order t.value h.0.canonical.decreasing, decreasing_named P.field P.order p.names V.names t.value h.0.canonical.decreasing);
      witness = (decreasing_values P.field (witness_order P S) t.by h.0.witness.canonical.decreasing, paired_named (length P.generators) t.by);
    },
    printable c (S ++ t.value ∷ []) ts h.1,
  )

  pub due_elements_printable : (c : ℕ) (ts : List (Tracked F E)) → AreDueElements P Two c [] ts →
      All (IsPrintableElement P.field p.names letters_2) ts
  due_elements_printable c ts h = All-from_recursion (IsPrintableElement P.field p.names letters_2) ts (printable c [] ts h)
