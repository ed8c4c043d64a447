-- The parts of the line of an element.
use Rattle.std.proofs.Common.{◌≡◌, ◌≢◌, ℕ, ◌≤◌, ◌^◌, Bool, true, false, List, [], ◌∷◌, ◌++◌, length, codes, refl, sym, ap, subst, ◌∙◌, append_assoc, arith}
use Rattle.std.specs.Prelude.{◌==◌, Contains}
use Rattle.std.proofs.lemmas.List.{append_cancel_right}
use Rattle.word_field.specs.Field.{IsField}
use Rattle.monomial_order.specs.MonomialOrder.{MonomialOrder}
use Rattle.monomial_order.specs.declared.word_order.WordOrder.{WordOrder}
use Rattle.poly_core.specs.declared.place_names.Names.{Names}
use Rattle.poly_core.specs.Names.{AreNames}
use Rattle.poly_core.specs.Text.{poly_text}
use Rattle.poly_core.specs.laws.Text.{decreasing_named}
use Rattle.polynomials.specs.Polynomial.{Polynomial, degree_of, IsCanonical}
use Rattle.polynomials.specs.Subalgebra.{Presented, IsPresentation}
use Rattle.polynomial_text.specs.Canonical.{AreDifferent, IsCanonicalText}
use Rattle.polynomial_text.specs.Grammar.{sign_byte}
use Rattle.polynomial_text.specs.laws.CanonicalParts.{Lack, differs, lack_append}
use Rattle.polynomial_text.specs.laws.CanonicalPoly.{canonical_lacks, canonical_one}
use Rattle.polynomial_text.specs.laws.GrammarReads.{IsApart}
use Rattle.polynomial_text.specs.laws.Names.{names_differ}
use Rattle.poly_core.specs.Names.{is_name_byte}
use Rattle.polynomial_text.specs.Bytes.{is_blank}
use Rattle.witness.specs.declared.tracked.Tracked.{Tracked}
use Rattle.witness.specs.Tracking.{by_order, IsGraded, IsWitnessOrder}
use Rattle.witness.specs.laws.Letters.{by_laws}
use Rattle.state_text.specs.declared.version.Version.{Version}
use Rattle.state_text.specs.Limits.{bound_max}
use Rattle.state_text.specs.LineReadings.{IsParted, IsElementText, IsDueValue, IsReadingWith, IsElementReading}
use Rattle.state_text.specs.Parts.{usable, IsDueElement, IsDueWitness, witness_order}
use Rattle.state_text.specs.StateText.{letters_of}
use Rattle.state_text.proofs.Degrees.{low}
use Rattle.state_text.proofs.LetterNames.{letters_named}
use Rattle.state_text.proofs.Parting.{lacks, parted_same, with_feed, without_feed}
use Rattle.state_text.proofs.Witnesses.{order_is}

colon_apart : IsApart (λ b. b == 58)
colon_apart = record { blank = differs is_blank 58 refl; name = differs is_name_byte 58 refl; raised = refl }

module _ {F E : Type 0} (P : Presented E) (H : IsPresentation P) (few : P.field.size ≤ 2 ^ 32) (names : Names) (N : AreNames P.order.places names)
    (version : Version) (c : ℕ) (bound : c ≤ bound_max) (S : List (Polynomial E)) (w : WordOrder) (h : IsWitnessOrder P (usable version S) w) (line : List ℕ) where
  module _ (t : Tracked F E) (k : IsElementText P names version c S line t) where
    value_canonical : IsCanonicalText P.field P.order names (poly_text P.field names t.value) t.value
    value_canonical = record {
      canonical = k.due.canonical;
      named = decreasing_named P.field P.order names N t.value k.due.canonical.decreasing;
      small = low P.field H.field P.order H.order t.value k.due.canonical.decreasing (degree_of P.order t.value) (let most = k.due.at_most in omega arith) k.due.homogeneous.each;
      text = refl;
    }

    same_order : witness_order P (usable version S) ≡ by_order w
    same_order = sym (order_is P H.field (usable version S) w h)

    by_canonical : IsCanonical P.field (by_order w) t.by
    by_canonical = subst (λ O. IsCanonical P.field O t.by) same_order k.due.witness.canonical

    witness_canonical : IsCanonicalText P.field (by_order w) (letters_of version (length P.generators)) (poly_text P.field (letters_of version (length P.generators)) t.by) t.by
    witness_canonical = record {
      canonical = by_canonical;
      named = letters_named version (length P.generators) t.by;
      small = low P.field H.field (by_order w) (by_laws w) t.by by_canonical.decreasing (degree_of P.order t.value) (let most = k.due.at_most in omega arith)
          (subst (λ O. IsGraded P.field O (degree_of P.order t.value) t.by) same_order k.due.witness.graded);
      text = refl;
    }

    -- the first colon is between the value and the witness
    pub text_parted : IsParted 58 line (poly_text P.field names t.value) (poly_text P.field (letters_of version (length P.generators)) t.by)
    text_parted = record {
      whole = without_feed 58 line (poly_text P.field names t.value) (poly_text P.field (letters_of version (length P.generators)) t.by) k.text;
      first = lacks 58 (poly_text P.field names t.value ++ 32 ∷ []) (lack_append (λ b. b == 58) (poly_text P.field names t.value) (32 ∷ []) (canonical_lacks P.field H.field few P.order H.order names (names_differ P.order.places names N) (λ b. b == 58) colon_apart refl signs t.value value_canonical.canonical value_canonical.named value_canonical.small) (refl, tt));
    }
      where
        signs : (next : Bool) → (sign_byte next == 58) ≡ false
        signs true = refl
        signs false = refl

    module _ (a b : List ℕ) (parted : IsParted 58 line a b) where
      parts_are : (poly_text P.field names t.value ≡ a) × (poly_text P.field (letters_of version (length P.generators)) t.by ≡ b)
      parts_are = parted_same 58 line (poly_text P.field names t.value) (poly_text P.field (letters_of version (length P.generators)) t.by) a b text_parted parted

      pub value_text : IsCanonicalText P.field P.order names a t.value
      value_text = subst (λ l. IsCanonicalText P.field P.order names l t.value) parts_are.0 value_canonical

      pub witness_text : IsCanonicalText P.field (by_order w) (letters_of version (length P.generators)) b t.by
      witness_text = subst (λ l. IsCanonicalText P.field (by_order w) (letters_of version (length P.generators)) l t.by) parts_are.1 witness_canonical

      pub value_due : IsDueValue P.field P.order c t.value
      value_due = record { homogeneous = k.due.homogeneous; at_least = k.due.at_least; at_most = k.due.at_most }

  module _ (a b : List ℕ) (parted : IsParted 58 line a b) (v : Polynomial E) (is : IsCanonicalText P.field P.order names a v) where
    value_is : (t : Tracked F E) → IsElementText P names version c S line t → v ≡ t.value
    value_is t k = canonical_one P.field H.field few P.order H.order names (names_differ P.order.places names N) a v t.value is (value_text t k a b parted)

    -- the value is due
    pub value_not_due : (IsDueValue P.field P.order c v → ⊥) → (t : Tracked F E) → IsElementText P names version c S line t → ⊥
    value_not_due never t k = never (subst (IsDueValue P.field P.order c) (sym (value_is t k)) (value_due t k a b parted))

    -- and so is the witness
    pub no_witness : ((q : Polynomial E) → IsCanonicalText P.field (by_order w) (letters_of version (length P.generators)) b q → IsDueWitness P (usable version S) (degree_of P.order v) q → ⊥) →
        (t : Tracked F E) → IsElementText P names version c S line t → ⊥
    no_witness never t k =
        never t.by (witness_text t k a b parted)
        (subst (λ p. IsDueWitness P (usable version S) (degree_of P.order p) t.by) (sym (value_is t k)) k.due.witness)

    pub element_text : IsDueValue P.field P.order c v → (q : Polynomial E) → IsCanonicalText P.field (by_order w) (letters_of version (length P.generators)) b q → IsDueWitness P (usable version S) (degree_of P.order v) q →
        IsElementText {F = F} P names version c S line (record { value = v; by = q })
    element_text due q text witness = record {
      due = record { canonical = is.canonical; homogeneous = due.homogeneous; at_least = due.at_least; at_most = due.at_most; witness = witness };
      text = with_feed 58 line (poly_text P.field names v) (poly_text P.field (letters_of version (length P.generators)) q)
          (parted.whole ∙ (ap (λ l. l ++ 32 ∷ (58 ∷ (32 ∷ b))) is.text ∙ ap (λ l. poly_text P.field names v ++ 32 ∷ (58 ∷ (32 ∷ l))) text.text));
    }
