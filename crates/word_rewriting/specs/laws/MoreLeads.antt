-- Further leads at the end of the letters.
use Rattle.std.proofs.Common.{◌≡◌, ◌≢◌, ℕ, zero, suc, ◌+◌, ◌≤◌, ◌<◌, refl, sym, ◌∙◌, ap, subst, List, [], ◌∷◌, ◌++◌, length, get_or, length-append, append_assoc, arith, ⊎_elim, Some, None, Contains}
use Rattle.std.specs.Prelude.{map, take, drop, sum}
use Rattle.std.proofs.lemmas.List.{map-append, get_or-append-add}
use Rattle.std.proofs.lemmas.List.Elements.{Contains-append_cases}
use Rattle.std.proofs.lemmas.List.Sums.{sum_by-cons}
use Rattle.std.proofs.lemmas.Bool.Decides.{nat_tests}
use Rattle.std.proofs.Math.ListN.{length-drop}
use Rattle.std.specs.declared.cmp.Ordering.{Ordering}
use Rattle.std.specs.declared.cmp.Ordering.TheVariants.{Less, Equal}
use Rattle.std.specs.Ordering.{nat_cmp, ordering_then}
use Rattle.monomial_order.specs.Monomial.{Exponents, IsTrimmed, IsMonomial, variable, weighted_degree}
use Rattle.monomial_order.specs.Orders.{lex, word_order}
use Rattle.monomial_order.specs.laws.Lists.{contains_at}
use Rattle.word_laws.specs.Words.{Letters, AreLetters, lead_degrees, word_order_of, image_of, IsWord, IsSmaller, image, variables}
use Rattle.word_laws.specs.laws.Images.{image_front, length-variables}
use Rattle.word_laws.specs.laws.Words.{degree_same}
use Rattle.word_laws.specs.laws.Longer.{longer_compare}
use Rattle.word_rewriting.specs.Rewriting.{WordOrZero, RewriteRule}
use Rattle.word_rewriting.specs.Completeness.{lead_letter, with_leads, IsRightSide, AreRewriteRules}
use Rattle.word_rewriting.specs.laws.Letters.{places_count, letter_image, letter_word}

module _ (L : Letters) (leads : List Exponents) where
  degrees_more : lead_degrees (with_leads L leads) ≡ lead_degrees L ++ map (weighted_degree L.degrees) leads
  degrees_more = map-append (weighted_degree L.degrees) L.leads leads

  -- words stay words, with their images, and compare as before
  pub word_stays : (w : Exponents) → IsWord L w → IsWord (with_leads L leads) w
  word_stays w h = record {
    trimmed = h.trimmed;
    within =
        let a = places_count L in
        let b = places_count (with_leads L leads) in
        let c = length-append L.leads leads in
        let l = h.within in omega arith;
  }

  pub image_stays : (w : Exponents) → IsWord L w → image_of (with_leads L leads) w ≡ image_of L w
  image_stays w h =
      ap (image w) (sym (append_assoc (variables 0 (length L.degrees)) L.leads leads)) ∙
      image_front w (variables 0 (length L.degrees) ++ L.leads) leads
      (let a = length-append (variables 0 (length L.degrees)) L.leads in
      let b = length-variables 0 (length L.degrees) in
      let c = places_count L in
      let l = h.within in omega arith)

  pub compare_stays : (v w : Exponents) → IsWord L v → IsWord L w → (word_order_of (with_leads L leads)).compare v w ≡ (word_order_of L).compare v w
  compare_stays v w hv hw =
      ap (λ ds. (word_order L.degrees ds).compare v w) degrees_more ∙
      longer_compare L.degrees (lead_degrees L) (map (weighted_degree L.degrees) leads) v w hv.within hw.within

  pub smaller_stays : (w v : Exponents) → IsWord L w → IsSmaller L w v → IsSmaller (with_leads L leads) w v
  smaller_stays w v hw h = record {
    word = word_stays v h.word;
    image = image_stays v h.word ∙ (h.image ∙ sym (image_stays w hw));
    less = compare_stays v w h.word hw ∙ h.less;
  }

  -- rules stay rules, also if more counts as zero
  pub rules_stay : (Y Z : Exponents → Type 0) → ((m : Exponents) → Y m → Z m) → (R : List RewriteRule) → AreRewriteRules Y L R → AreRewriteRules Z (with_leads L leads) R
  rules_stay Y Z more R rules r hr = (word_stays r.left (rules r hr).0, side r.left r.right (rules r hr).0 (rules r hr).1)
    where
      side : (w : Exponents) (a : WordOrZero) → IsWord L w → IsRightSide Y L w a → IsRightSide Z (with_leads L leads) w a
      side w None hw h = subst Z (sym (image_stays w hw)) (more (image_of L w) h)
      side w (Some v) hw h = smaller_stays w v hw h

-- a later letter is smaller than a word of earlier ones
lex_letter : (i : ℕ) (m : Exponents) → IsTrimmed m → m ≢ [] → length m ≤ i → lex (variable i) m ≡ Less
lex_letter i [] h n l = absurd (n refl)
lex_letter zero (e ∷ m) h n l = absurd (omega arith)
lex_letter (suc i) (suc e ∷ m) h n l = ap (λ o. ordering_then o (lex (variable i) m)) (below e)
  where
    below : (e : ℕ) → nat_cmp 0 (suc e) ≡ Less
    below e = grind (arith, nat_tests)
lex_letter (suc i) (zero ∷ []) h n l = absurd (h refl)
lex_letter (suc i) (zero ∷ (f ∷ m)) h n l = lex_letter i (f ∷ m) h (λ e. cc) (omega arith)

letter_take : (n i : ℕ) → sum (take n (variable (n + i))) ≡ 0
letter_take zero i = refl
letter_take (suc n) i =
    ap (λ j. sum (take (suc n) (variable j))) (let e : suc n + i ≡ suc (n + i) = omega arith in e) ∙
    (let c = sum_by-cons (λ (y : ℕ). y) 0 (take n (variable (n + i))) in let r = letter_take n i in omega arith)

letter_drop : (n i : ℕ) → drop n (variable (n + i)) ≡ variable i
letter_drop zero i = ap variable (let e : 0 + i ≡ i = omega arith in e)
letter_drop (suc n) i = ap (λ j. drop (suc n) (variable j)) (let e : suc n + i ≡ suc (n + i) = omega arith in e) ∙ letter_drop n i

-- a trimmed list that is not empty and begins with zeros has something behind them
drop_some : (n : ℕ) (m : Exponents) → IsTrimmed m → m ≢ [] → sum (take n m) ≡ 0 → (drop n m ≢ []) × IsTrimmed (drop n m)
drop_some zero m h k z = (k, h)
drop_some (suc n) [] h k z = absurd (k refl)
drop_some (suc n) (e ∷ []) h k z = absurd (h (let c = sum_by-cons (λ (y : ℕ). y) e (take n []) in omega arith))
drop_some (suc n) (e ∷ (f ∷ m)) h k z = drop_some n (f ∷ m) h (λ q. cc) (let c = sum_by-cons (λ (y : ℕ). y) e (take n (f ∷ m)) in omega arith)

letter_first : (a b x y : ℕ) (o p : Ordering) → a ≡ b → x ≡ 0 → (y ≡ 0 → o ≡ Less) → ordering_then (nat_cmp a b) (ordering_then (nat_cmp x y) (ordering_then o p)) ≡ Less
letter_first a b x zero o p h k l =
    ap (λ q. ordering_then q (ordering_then (nat_cmp x 0) (ordering_then o p))) (same a b h) ∙
    (ap (λ q. ordering_then q (ordering_then o p)) (same x 0 k) ∙ ap (λ q. ordering_then q p) (l refl))
  where
    same : (a b : ℕ) → a ≡ b → nat_cmp a b ≡ Equal
    same a b h = grind (arith, nat_tests)
letter_first a b x (suc y) o p h k l =
    ap (λ q. ordering_then q (ordering_then (nat_cmp x (suc y)) (ordering_then o p))) (same a b h) ∙
    ap (λ q. ordering_then q (ordering_then o p)) (below x y k)
  where
    same : (a b : ℕ) → a ≡ b → nat_cmp a b ≡ Equal
    same a b h = grind (arith, nat_tests)

    below : (x y : ℕ) → x ≡ 0 → nat_cmp x (suc y) ≡ Less
    below x y h = grind (arith, nat_tests)

module _ (L : Letters) (H : AreLetters L) (leads : List Exponents) (new : (m : Exponents) → Contains leads m → IsMonomial (length L.degrees) m × (m ≢ [])) where
  pub letters_stay : AreLetters (with_leads L leads)
  letters_stay = record {
    positive = H.positive;
    leads = λ m k. ⊎_elim (H.leads m) (λ b. (new m b).0) (Contains-append_cases L.leads leads m k);
    not_one = λ m k. ⊎_elim (H.not_one m) (λ b. (new m b).1) (Contains-append_cases L.leads leads m k);
  }

  -- the image of a new letter
  pub new_image : (j : ℕ) → image_of (with_leads L leads) (lead_letter L (length L.leads + j)) ≡ get_or leads j []
  new_image j = letter_image (with_leads L leads) (length L.leads + j) ∙ get_or-append-add L.leads leads j []

  -- a new letter is smaller than each older word with its image
  pub new_letter_smaller : (j : ℕ) → j < length leads → (u : Exponents) → IsWord L u → image_of L u ≡ get_or leads j [] →
      IsSmaller (with_leads L leads) u (lead_letter L (length L.leads + j))
  new_letter_smaller j l u hu e = record {
    word = letter_word (with_leads L leads) (length L.leads + j) (let a = length-append L.leads leads in omega arith);
    image = same;
    less = letter_first ((word_order_of (with_leads L leads)).degree letter) ((word_order_of (with_leads L leads)).degree u) (sum (take (length L.degrees) letter)) (sum (take (length L.degrees) u)) _ _
        (degree_same (with_leads L leads) letters_stay letter u same) (letter_take (length L.degrees) (length L.leads + j))
        (λ z. ap (λ x. lex x (drop (length L.degrees) u)) (letter_drop (length L.degrees) (length L.leads + j)) ∙
        (let d = drop_some (length L.degrees) u hu.trimmed not_one z in
        lex_letter (length L.leads + j) (drop (length L.degrees) u) d.1 d.0
        (let a = length-drop (length L.degrees) u in
        let b = places_count L in
        let w = hu.within in omega arith)));
  }
    where
      letter : Exponents
      letter = lead_letter L (length L.leads + j)

      same : image_of (with_leads L leads) letter ≡ image_of (with_leads L leads) u
      same = new_image j ∙ (sym e ∙ sym (image_stays L leads u hu))

      not_one : u ≢ []
      not_one q = (new (get_or leads j []) (contains_at leads j [] l)).1 (sym e ∙ ap (image_of L) q)
