-- The letters of leads.
use Rattle.std.proofs.Common.{◌≡◌, ℕ, zero, suc, ◌+◌, ◌<◌, sym, ◌∙◌, ap, refl, List, [], ◌∷◌, ◌++◌, length, get_or, length-append, arith}
use Rattle.std.proofs.lemmas.List.{length-map, get_or-append-add}
use Rattle.monomial_order.specs.Monomial.{Exponents, product, variable, weighted_degree}
use Rattle.monomial_order.specs.laws.Monomial.{product-one, variable_monomial}
use Rattle.word_laws.specs.Words.{Letters, lead_degrees, word_order_of, image_of, IsWord, image, variables}
use Rattle.word_laws.specs.laws.Images.{length-variables}
use Rattle.word_rewriting.specs.Completeness.{lead_letter}

image_variable : (i : ℕ) (ms : List Exponents) → image (variable i) ms ≡ get_or ms i []
image_variable zero [] = refl
image_variable zero (m ∷ ms) = product-one (product m []) ∙ product-one m
image_variable (suc i) [] = refl
image_variable (suc i) (m ∷ ms) = image_variable i ms

module _ (L : Letters) where
  pub places_count : (word_order_of L).places ≡ length L.degrees + length L.leads
  places_count = length-append L.degrees (lead_degrees L) ∙ ap (λ x. length L.degrees + x) (length-map L.leads (weighted_degree L.degrees))

  -- the image of the letter of a lead is the lead
  pub letter_image : (i : ℕ) → image_of L (lead_letter L i) ≡ get_or L.leads i []
  letter_image i =
      ap (λ n. image_of L (variable (n + i))) (sym (length-variables 0 (length L.degrees))) ∙
      (image_variable (length (variables 0 (length L.degrees)) + i) (variables 0 (length L.degrees) ++ L.leads) ∙
      get_or-append-add (variables 0 (length L.degrees)) L.leads i [])

  pub letter_word : (i : ℕ) → i < length L.leads → IsWord L (lead_letter L i)
  letter_word i l = variable_monomial (word_order_of L).places (length L.degrees + i) (let p = places_count in omega arith)
