-- The text of a presentation, as its parts were written, and which polynomials have a text.
use Rattle.std.proofs.Common.{◌≡◌, ℕ, List, [], ◌∷◌, ◌++◌, map, length, ap, ◌∙◌, append_assoc, flat_map, codes, All}
use Rattle.std.specs.List.{AllByRecursion}
use Rattle.std.specs.Fmt.{decimal}
use Rattle.std.proofs.lemmas.List.Elements.{All-from_recursion}
use Rattle.word_field.specs.Field.{FieldOps}
use Rattle.monomial_order.specs.declared.tie_break.Tie.{Tie}
use Rattle.monomial_order.specs.MonomialOrder.{MonomialOrder}
use Rattle.poly_core.specs.declared.place_names.Names.{Names}
use Rattle.poly_core.specs.declared.place_names.Names.TheVariants.{Listed}
use Rattle.poly_core.specs.Names.{AreNames}
use Rattle.poly_core.specs.Presentation.{AreCanonicalGenerators}
use Rattle.poly_core.specs.laws.Text.{decreasing_values, decreasing_named}
use Rattle.presentation_text.specs.PresentationText.{line, list_text, poly_lines, presentation_text, row_tokens, tie_token, HasText}
use Rattle.polynomials.specs.Polynomial.{Polynomial}

module _ {E : Type 0} (K : FieldOps E) (O : MonomialOrder) (names : Names) (are : AreNames O.places names) where
  have_texts : (ps : List (Polynomial E)) → AreCanonicalGenerators K O ps → AllByRecursion (HasText K names) ps
  have_texts [] h = tt
  have_texts (p ∷ ps) h = ((decreasing_values K O p h.0.canonical.decreasing, decreasing_named K O names are p h.0.canonical.decreasing), have_texts ps h.1)

  -- the polynomials of a presentation have texts
  pub canonical_texts : (ps list : List (Polynomial E)) → list ≡ ps → AreCanonicalGenerators K O ps → All (HasText K names) list
  canonical_texts ps list is h = rw is (All-from_recursion (HasText K names) ps (have_texts ps h))

-- parts that were written one behind the other
joined : (a b c d e f g h i j o1 o2 o3 o4 o5 o6 o7 o8 : List ℕ) → o1 ≡ a → o2 ≡ o1 ++ b → o3 ≡ o2 ++ c → o4 ≡ o3 ++ d → o5 ≡ o4 ++ e → o6 ≡ o5 ++ (f ++ g) → o7 ≡ o6 ++ (h ++ i) → o8 ≡ o7 ++ j →
    o8 ≡ a ++ (b ++ (c ++ (d ++ (e ++ (f ++ (g ++ (h ++ (i ++ j))))))))
joined a b c d e f g h i j o1 o2 o3 o4 o5 o6 o7 o8 h1 h2 h3 h4 h5 h6 h7 h8 = rw (h8, h7, h6, h5, h4, h3, h2, h1) (simp append_assoc)

module _ {E : Type 0} (K : FieldOps E) where
  pub written_whole : (table : List (List ℕ)) (names : Names) (size : ℕ) (ws weights : List ℕ) (rs rows : List (List ℕ)) (t tie : Tie) (is ideal gs generators : List (Polynomial E)) (start o1 o2 o3 o4 o5 o6 o7 o8 : List ℕ) →
      names ≡ Listed table → size ≡ K.size → ws ≡ weights → rs ≡ rows → t ≡ tie → is ≡ ideal → gs ≡ generators →
      start ≡ [] → o1 ≡ start ++ codes "subalgebra 1\n" → o2 ≡ o1 ++ line (codes "field") (decimal size ∷ []) → o3 ≡ o2 ++ line (codes "vars") table → o4 ≡ o3 ++ line (codes "weights") (map decimal ws) →
      o5 ≡ o4 ++ line (codes "order") (flat_map row_tokens rs ++ (tie_token t ∷ [])) → o6 ≡ o5 ++ list_text K names (codes "ideal") is → o7 ≡ o6 ++ list_text K names (codes "generators") gs → o8 ≡ o7 ++ codes "end\n" →
      o8 ≡ presentation_text K table weights rows tie ideal generators
  written_whole table names size ws weights rs rows t tie is ideal gs generators start o1 o2 o3 o4 o5 o6 o7 o8 en es ew er et ei eg e0 e1 e2 e3 e4 e5 e6 e7 e8 =
      joined (codes "subalgebra 1\n") (line (codes "field") (decimal K.size ∷ [])) (line (codes "vars") table) (line (codes "weights") (map decimal weights)) (line (codes "order") (flat_map row_tokens rows ++ (tie_token tie ∷ [])))
      (line (codes "ideal") (decimal (length ideal) ∷ [])) (poly_lines K table ideal) (line (codes "generators") (decimal (length generators) ∷ [])) (poly_lines K table generators) (codes "end\n") o1 o2 o3 o4 o5 o6 o7 o8
      (e1 ∙ ap (λ x. x ++ codes "subalgebra 1\n") e0)
      (e2 ∙ ap (λ n. o1 ++ line (codes "field") (decimal n ∷ [])) es)
      e3
      (e4 ∙ ap (λ x. o3 ++ line (codes "weights") (map decimal x)) ew)
      (e5 ∙ (ap (λ x. o4 ++ line (codes "order") (flat_map row_tokens x ++ (tie_token t ∷ []))) er ∙ ap (λ x. o4 ++ line (codes "order") (flat_map row_tokens rows ++ (tie_token x ∷ []))) et))
      (e6 ∙ (ap (λ x. o5 ++ list_text K x (codes "ideal") is) en ∙ ap (λ x. o5 ++ list_text K (Listed table) (codes "ideal") x) ei))
      (e7 ∙ (ap (λ x. o6 ++ list_text K x (codes "generators") gs) en ∙ ap (λ x. o6 ++ list_text K (Listed table) (codes "generators") x) eg))
      e8
