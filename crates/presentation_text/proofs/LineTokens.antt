-- The tokens of a line, from the front.
use Rattle.std.proofs.Common.{◌≡◌, ℕ, Bool, true, false, not, eqb, List, [], ◌∷◌, length, refl, sym, ap, ◌∙◌, arith}
use Rattle.std.specs.Prelude.{filter}
use Rattle.std.proofs.lemmas.Bool.{eqb-true, not-false}
use Rattle.polynomial_text.specs.Bytes.{is_blank, front, behind, Stops}
use Rattle.polynomial_text.specs.laws.Fronts.{parts_behind, parts_split, behind_stops}
use Rattle.presentation_text.specs.Lines.{tokens}

tokens_behind : (line : List ℕ) → tokens (behind is_blank line) ≡ tokens line
unfolding behind
tokens_behind [] = refl
tokens_behind (b ∷ line) = by_test (is_blank b) refl (tokens_behind line)
  where
    by_test : (t : Bool) → is_blank b ≡ t → tokens (behind is_blank line) ≡ tokens line → tokens (behind is_blank (b ∷ line)) ≡ tokens (b ∷ line)
    by_test true e rest = rw e rest
    by_test false e rest = ap tokens (stays e)
      where
        stays : is_blank b ≡ false → behind is_blank (b ∷ line) ≡ b ∷ line
        stays e = rw e refl

after_token : (rest : List ℕ) → Stops (λ b. not (is_blank b)) rest → filter (λ w. not (eqb (length w) 0)) (parts_behind is_blank rest) ≡ tokens rest
after_token [] h = refl
after_token (b ∷ rest) h = rw (not-false (is_blank b) h) refl

token_first : (text : List ℕ) → eqb (length (front (λ b. not (is_blank b)) text)) 0 ≡ false → tokens text ≡ front (λ b. not (is_blank b)) text ∷ tokens (behind (λ b. not (is_blank b)) text)
token_first text some =
    rw (parts_split is_blank text, some) (ap (λ (l : List (List ℕ)). front (λ b. not (is_blank b)) text ∷ l) (after_token (behind (λ b. not (is_blank b)) text) (behind_stops (λ b. not (is_blank b)) text)))

no_token : (text : List ℕ) → Stops is_blank text → eqb (length (front (λ b. not (is_blank b)) text)) 0 ≡ true → tokens text ≡ []
unfolding front
no_token [] stops none = refl
no_token (b ∷ text) stops none =
    let k : length (b ∷ front (λ c. not (is_blank c)) text) ≡ 0 = eqb-true _ 0 (rw stops at none) in
    absurd (omega arith)

module _ (line text token : List ℕ) (is : text ≡ behind is_blank line) (first : token ≡ front (λ b. not (is_blank b)) text) where
  pub first_token_is : (rest : List ℕ) → rest ≡ behind (λ b. not (is_blank b)) text → eqb (length token) 0 ≡ false → tokens line ≡ token ∷ tokens rest
  first_token_is rest after some = sym (tokens_behind line) ∙ (ap tokens (sym is) ∙ rw (first, after) (token_first text (rw first at some)))

  pub no_first_token : eqb (length token) 0 ≡ true → tokens line ≡ []
  no_first_token none = sym (tokens_behind line) ∙ (ap tokens (sym is) ∙ no_token text (rw is (behind_stops is_blank line)) (rw first at none))
