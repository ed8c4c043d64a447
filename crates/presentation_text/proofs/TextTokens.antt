-- Tokens with a space between them.
use Rattle.std.proofs.Common.{◌≡◌, ℕ, suc, ◌≤◌, false, eqb, List, [], ◌∷◌, ◌++◌, length, Result, Ok, refl, sym, ap, ◌∙◌, arith, append_assoc, append-nil}
use Rattle.std.specs.Prelude.{All}
use Rattle.std.specs.List.{AllByRecursion, flat_map}
use Rattle.std.proofs.lemmas.List.Elements.{All-from_recursion}
use Rattle.std.proofs.lemmas.List.Splits.{slice_split_at, slice_split_none}
use Rattle.presentation_text.specs.declared.text_kind.TextKind.{TextKind}
use Rattle.polynomial_text.specs.Bytes.{is_blank, is_skipped, behind}
use Rattle.polynomial_text.specs.laws.CanonicalParts.{each_append, each_weaker}
use Rattle.presentation_text.specs.Lines.{lines, content_lines, tokens}
use Rattle.presentation_text.specs.Reading.{next}
use Rattle.presentation_text.specs.PresentationText.{line}
use Rattle.presentation_text.proofs.TextLines.{IsOneLine, next_line}

-- a token of visible bytes
pub record IsToken (w : List ℕ) : Type 0 where
  pub some : eqb (length w) 0 ≡ false
  pub visible : AllByRecursion (λ b. 33 ≤ b) w

-- the first byte of a line that is not skipped
abbrev pub Begins : List ℕ → Type 0
Begins [] = ⊥
Begins (b ∷ w) = 36 ≤ b

pub not_equal : (b c : ℕ) → suc c ≤ b → eqb b c ≡ false
not_equal b c h = grind arith

no_blank : (b : ℕ) → 33 ≤ b → is_blank b ≡ false
no_blank b h = rw (not_equal b 32 (omega arith), not_equal b 9 (omega arith), not_equal b 13 (omega arith)) refl

pub begins_not_skipped : (w : List ℕ) → Begins w → is_skipped w ≡ false
unfolding behind
begins_not_skipped [] h = absurd h
begins_not_skipped (b ∷ w) h = rw (no_blank b (omega arith), not_equal b 35 h) refl

pub begins_append : (w more : List ℕ) → Begins w → Begins (w ++ more)
begins_append [] more h = absurd h
begins_append (b ∷ w) more h = h

without_blanks : (w : List ℕ) → AllByRecursion (λ b. 33 ≤ b) w → All (λ b. is_blank b ≡ false) w
without_blanks w h = All-from_recursion (λ b. is_blank b ≡ false) w (each_weaker (λ b. 33 ≤ b) (λ b. is_blank b ≡ false) no_blank w h)

pub tokens_are : (first : List ℕ) (ws : List (List ℕ)) → IsToken first → AllByRecursion IsToken ws → tokens (first ++ flat_map (λ w. 32 ∷ w) ws) ≡ first ∷ ws
tokens_are first [] h hs =
    let split = slice_split_none is_blank first (without_blanks first h.visible) in
    ap tokens (append-nil first) ∙ rw (split, h.some) refl
tokens_are first (w ∷ ws) h hs =
    let split = slice_split_at is_blank first 32 (w ++ flat_map (λ w. 32 ∷ w) ws) (without_blanks first h.visible) refl in
    rw (split, h.some) (ap (λ (l : List (List ℕ)). first ∷ l) (tokens_are w ws hs.0 hs.1))

pub one_line : (w : List ℕ) → AllByRecursion (λ b. 32 ≤ b) w → IsOneLine w
one_line = each_weaker (λ b. 32 ≤ b) (λ b. eqb b 10 ≡ false) (λ b h. not_equal b 10 (omega arith))

tokens_visible : (ws : List (List ℕ)) → AllByRecursion IsToken ws → AllByRecursion (λ b. 32 ≤ b) (flat_map (λ w. 32 ∷ w) ws)
tokens_visible [] h = tt
tokens_visible (w ∷ ws) h = (omega arith, each_append (λ b. 32 ≤ b) w (flat_map (λ w. 32 ∷ w) ws) (each_weaker (λ b. 33 ≤ b) (λ b. 32 ≤ b) (λ b k. omega arith) w h.0.visible) (tokens_visible ws h.1))

-- a line of tokens is read by its tokens
pub next_tokens : {A : Type 0} (last n : ℕ) (f : List ℕ → Result A TextKind) (a : A) (first : List ℕ) (ws : List (List ℕ)) (rest : List ℕ) →
    Begins first → IsToken first → AllByRecursion IsToken ws → ((l : List ℕ) → tokens l ≡ first ∷ ws → f l ≡ Ok a) →
    next last f (content_lines n (lines (line first ws ++ rest))) ≡ Ok (a, content_lines (suc n) (lines rest))
next_tokens last n f a first ws rest b h hs e =
    let body : List ℕ = first ++ flat_map (λ w. 32 ∷ w) ws in
    let regroup : line first ws ++ rest ≡ body ++ 10 ∷ rest =
    ap (λ (l : List ℕ). l ++ rest) (sym (append_assoc first (flat_map (λ w. 32 ∷ w) ws) (10 ∷ []))) ∙ append_assoc body (10 ∷ []) rest in
    let low : AllByRecursion (λ c. 32 ≤ c) body = each_append (λ c. 32 ≤ c) first (flat_map (λ w. 32 ∷ w) ws) (each_weaker (λ b. 33 ≤ b) (λ b. 32 ≤ b) (λ b k. omega arith) first h.visible) (tokens_visible ws hs) in
    ap (λ (t : List ℕ). next last f (content_lines n (lines t))) regroup ∙
    next_line last n f a body rest (one_line body low) (begins_not_skipped body (begins_append first (flat_map (λ w. 32 ∷ w) ws) b)) (e body (tokens_are first ws h hs))
