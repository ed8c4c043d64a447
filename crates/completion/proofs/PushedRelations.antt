-- Relations that are pushed one after the other.
use Rattle.std.proofs.Common.{◌≡◌, refl, sym, ◌∙◌, ap, List, [], ◌∷◌, ◌++◌, append_assoc}
use Rattle.std.specs.Prelude.{reverse, unwrap_or}
use Rattle.std.proofs.lemmas.List.{reverse-append}
use Rattle.polynomials.specs.Polynomial.{Polynomial}
use Rattle.completion.specs.declared.candidates.Found.{Found}
use Rattle.completion.specs.declared.relations.Relation.{Relation}
use Rattle.completion.specs.Closing.{relations_of}

module _ {F E : Type 0} where
  pub without_sides : (fs : List (Found F E)) (es : List (Polynomial E)) → es ≡ [] → relations_of fs es ≡ []
  without_sides [] es h = refl
  without_sides (f ∷ fs) es h = ap (relations_of (f ∷ fs)) h

  pub without_words : (fs : List (Found F E)) (es : List (Polynomial E)) → fs ≡ [] → relations_of fs es ≡ []
  without_words fs es h = ap (λ xs. relations_of xs es) h

  -- the last of the words and the last of the sides
  pub last_relation : (rs : List (Relation F E)) (fs gs : List (Found F E)) (es ds : List (Polynomial E)) (f : Found F E) (e : Polynomial E) (r : Relation F E) →
      fs ≡ gs ++ f ∷ [] → es ≡ ds ++ e ∷ [] → r.word ≡ f.word → r.right ≡ unwrap_or f.right e →
      (rs ++ r ∷ []) ++ relations_of (reverse gs) (reverse ds) ≡ rs ++ relations_of (reverse fs) (reverse es)
  last_relation rs fs gs es ds f e r p q w h =
      append_assoc rs (r ∷ []) (relations_of (reverse gs) (reverse ds)) ∙
      ap (λ xs. rs ++ xs)
      (ap (λ x. x ∷ relations_of (reverse gs) (reverse ds)) (same r f e w h) ∙
      (sym (ap (λ xs. relations_of xs (reverse (ds ++ e ∷ []))) (reverse-append gs (f ∷ [])) ∙ ap (relations_of (f ∷ reverse gs)) (reverse-append ds (e ∷ []))) ∙
      (ap (λ xs. relations_of (reverse xs) (reverse (ds ++ e ∷ []))) (sym p) ∙ ap (λ xs. relations_of (reverse fs) (reverse xs)) (sym q))))
    where
      same : (r : Relation F E) (f : Found F E) (e : Polynomial E) → r.word ≡ f.word → r.right ≡ unwrap_or f.right e → r ≡ record { word = f.word; right = unwrap_or f.right e }
      same r f e w h = ap (λ x. record { word = x; right = r.right }) w ∙ ap (λ x. record { word = (let g : Found F E = f in g.word); right = x }) h
