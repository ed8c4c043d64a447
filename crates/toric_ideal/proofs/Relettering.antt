-- Words whose letters of the last leads are numbered again, in every degree.
use Rattle.std.proofs.Common.{◌≡◌, ℕ, zero, suc, ◌+◌, ◌-◌, ◌<◌, refl, sym, ◌∙◌, ap, subst, List, [], length, length-append, get_or, arith, ◌⊎◌, inl, inr, ⊎_elim}
use Rattle.std.specs.Prelude.{Contains}
use Rattle.std.proofs.lemmas.List.{get_or_default}
use Rattle.monomial_order.specs.Monomial.{Exponents, Divides, IsMultiple, exponent, product, variable}
use Rattle.monomial_order.specs.laws.Cofactors.{cofactor, divides_or_not, length-product_right, same_exponents, Divides-product_right}
use Rattle.monomial_order.specs.laws.Comparing.{le_or_not, numbers_or_not, proper_divisor}
use Rattle.monomial_order.specs.laws.Lists.{contains_at, find_member}
use Rattle.monomial_order.specs.laws.Monomial.{exponent_past, exponent-product, IsMonomial-product, last_exponent, variable_at, variable_divides, variable_off, variable_trimmed}
use Rattle.word_laws.specs.Words.{Letters, AreLetters, word_order_of, image_of, IsLeast, IsReducible, IsSmaller, IsWord}
use Rattle.word_laws.specs.laws.Words.{image_times, image_x, word_laws}
use Rattle.word_laws.specs.laws.Reducible.{least_unique, least_word, multiple_closed, multiple_decided}
use Rattle.word_rewriting.specs.Rewriting.{RewriteRule, HasLeftDivisor}
use Rattle.word_rewriting.specs.Completeness.{with_leads, AreRewriteRules}
use Rattle.word_rewriting.specs.Renumbering.{AreRenumbered}
use Rattle.word_rewriting.specs.laws.Letters.{letter_word, places_count}
use Rattle.word_rewriting.specs.laws.MoreLeads.{image_stays, new_image, word_stays}
use Rattle.word_rewriting.specs.laws.NormalForms.{divided_reducible}
use Rattle.word_rewriting.specs.laws.Renumbering.{last_letters, same_index}

module _ (L : Letters) (H : AreLetters L) (d : ℕ) (before after : List Exponents) (K : AreRenumbered L d before after) where
  abbrev M : Letters
  M = with_leads L before

  abbrev N : Letters
  N = with_leads L after

  HM : AreLetters M
  HM = last_letters L H d before K.old_leads

  HN : AreLetters N
  HN = last_letters L H d after K.new_leads

  -- the place of the letter of a lead
  abbrev place : ℕ → ℕ
  place i = length L.degrees + (length L.leads + i)

  -- v has the old letters where w has the new ones
  record IsRelettered (v w : Exponents) : Type 0 where
    word : IsWord M v
    lower : (i : ℕ) → i < length L.degrees + length L.leads → exponent v i ≡ exponent w i
    last : (i j : ℕ) → i < length before → j < length after → get_or before i [] ≡ get_or after j [] → exponent v (place i) ≡ exponent w (place j)
    image : image_of M v ≡ image_of N w

  lower_itself : (w : Exponents) → IsWord L w → IsRelettered w w
  lower_itself w h =
      let p = places_count L in
      let b = h.within in
      record {
        word = word_stays L before w h;
        lower = λ i l. refl;
        last = λ i j l m e. exponent_past w (place i) (omega arith) ∙ sym (exponent_past w (place j) (omega arith));
        image = image_stays L before w h ∙ sym (image_stays L after w h);
      }

  one_more : (i j : ℕ) (v w : Exponents) → i < length before → j < length after → get_or before i [] ≡ get_or after j [] → IsRelettered v w →
      IsRelettered (product (variable (place i)) v) (product (variable (place j)) w)
  one_more i j v w li lj e h = record {
    word = IsMonomial-product (word_order_of M).places (variable (place i)) v (letter_word M (length L.leads + i) (let n = length-append L.leads before in omega arith)) h.word;
    lower = λ n l.
        let a = exponent-product (variable (place i)) v n in
        let b = exponent-product (variable (place j)) w n in
        let x = variable_off (place i) n (λ q. absurd (omega (arith, q))) in
        let y = variable_off (place j) n (λ q. absurd (omega (arith, q))) in
        let z = h.lower n l in
        omega arith;
    last = λ m n lm ln q.
        let a = exponent-product (variable (place i)) v (place m) in
        let b = exponent-product (variable (place j)) w (place n) in
        let z = h.last m n lm ln q in
        let x : exponent (variable (place i)) (place m) ≡ exponent (variable (place j)) (place n) =
        ⊎_elim
        (λ r. let t = same_index after K.new_leads.distinct n j ln lj (sym q ∙ (ap (λ k. get_or before k []) r ∙ e)) in
        ap (λ k. exponent (variable (place i)) (place k)) r ∙ (variable_at (place i) ∙ (sym (variable_at (place j)) ∙ ap (λ k. exponent (variable (place j)) (place k)) (sym t))))
        (λ r. variable_off (place i) (place m) (λ t. absurd (r (let u = t in omega arith))) ∙
        sym (variable_off (place j) (place n) (λ t. absurd (r (same_index before K.old_leads.distinct m i lm li (q ∙ (ap (λ k. get_or after k []) (let u = t in let g : n ≡ j = omega arith in g) ∙ sym e)))))))
        (numbers_or_not m i) in
        omega arith;
    image = image_times M HM (variable (place i)) v ∙
        (ap (λ x. product x (image_of M v)) (new_image L H before (λ m k. (K.old_leads.in_x m k, K.old_leads.not_one m k)) i ∙ (e ∙ sym (new_image L H after (λ m k. (K.new_leads.in_x m k, K.new_leads.not_one m k)) j))) ∙
        (ap (product (image_of N (variable (place j)))) h.image ∙ sym (image_times N HN (variable (place j)) w)));
  }

  relettered : (n : ℕ) (w : Exponents) → IsWord N w → (word_order_of N).degree w < n → (v : Exponents) × IsRelettered v w
  relettered zero w h l = absurd (omega arith)
  relettered (suc n) w h l =
      ⊎_elim (λ b. (w, lower_itself w (record { trimmed = h.trimmed; within = let p = places_count L in omega arith })))
      (λ b. long (relettered n) (length w - suc (length L.degrees + length L.leads)) (omega (arith, b)))
      (le_or_not (length w) (length L.degrees + length L.leads))
    where
      long : ((u : Exponents) → IsWord N u → (word_order_of N).degree u < n → (v : Exponents) × IsRelettered v u) → (j : ℕ) → length w ≡ suc (place j) → (v : Exponents) × IsRelettered v w
      long again j e =
          let p = places_count N in
          let q = length-append L.leads after in
          let b = h.within in
          let lj : j < length after = omega arith in
          let i = (K.members (get_or after j [])).1 (contains_at after j [] lj) in
          let k = cofactor (variable (place j)) w (variable_trimmed (place j)) h.trimmed (variable_divides (place j) w (last_exponent w (place j) h.trimmed e)) in
          let f : length (product (variable (place j)) k.0) ≡ length w = ap length k.2 in
          let g = length-product_right (variable (place j)) k.0 in
          let less = (proper_divisor (word_order_of N) (word_laws N HN) k.0 w h k.1 (subst (Divides k.0) k.2 (Divides-product_right (variable (place j)) k.0))
          (λ s.
          let a = exponent-product (variable (place j)) k.0 (place j) in
          let c = variable_at (place j) in
          let t : exponent (product (variable (place j)) k.0) (place j) ≡ exponent k.0 (place j) = ap (λ x. exponent x (place j)) (k.2 ∙ sym s) in
          absurd (omega arith))).1 in
          let v = again k.0 (record { trimmed = k.1; within = omega arith }) (omega arith) in
          let lead : get_or before i.0 [] ≡ get_or after j [] = get_or_default before i.0 [] (get_or after j []) i.1 ∙ i.2 in
          (product (variable (place i.0)) v.0, subst (IsRelettered (product (variable (place i.0)) v.0)) k.2 (one_more i.0 j v.0 k.0 i.1 lj lead v.1))

  relettered_unique : (v w u : Exponents) → IsWord N w → IsWord N u → IsRelettered v w → IsRelettered v u → w ≡ u
  relettered_unique v w u hw hu a b = same_exponents w u hw.trimmed hu.trimmed (λ i. ⊎_elim (λ l. sym (a.lower i l) ∙ b.lower i l) (λ l. above i (i - (length L.degrees + length L.leads)) (omega (arith, l))) (le_or_not (suc i) (length L.degrees + length L.leads)))
    where
      above : (i j : ℕ) → i ≡ place j → exponent w i ≡ exponent u i
      above i j e =
          ⊎_elim
          (λ l.
          let k = (K.members (get_or after j [])).1 (contains_at after j [] l) in
          let lead : get_or before k.0 [] ≡ get_or after j [] = get_or_default before k.0 [] (get_or after j []) k.1 ∙ k.2 in
          ap (exponent w) e ∙ (sym (a.last k.0 j k.1 l lead) ∙ (b.last k.0 j k.1 l lead ∙ ap (exponent u) (sym e))))
          (λ l. let p = places_count N in let q = length-append L.leads after in let x = hw.within in let y = hu.within in
          exponent_past w i (omega (arith, l)) ∙ sym (exponent_past u i (omega (arith, l))))
          (le_or_not (suc j) (length after))

  -- a word over L divides both or neither
  lower_divides : (u v w : Exponents) → IsWord L u → IsRelettered v w → Divides u v → Divides u w
  lower_divides u v w hu h e i =
      ⊎_elim (λ l. let a = h.lower i l in let b = e i in omega arith)
      (λ l. let p = places_count L in let b = hu.within in let z = exponent_past u i (omega (arith, l)) in omega arith)
      (le_or_not (suc i) (length L.degrees + length L.leads))

  module _ (Z : List Exponents) (R T : List RewriteRule) (lefts : (r : RewriteRule) → Contains R r → IsWord L r.left × ((t : RewriteRule) × Contains T t × (t.left ≡ r.left))) (rules : AreRewriteRules (IsMultiple Z) N T)
      (closed : (v : Exponents) → IsWord M v → IsReducible (IsMultiple Z) M v → HasLeftDivisor R v) where
    carried : (v w : Exponents) → IsRelettered v w → HasLeftDivisor R v → HasLeftDivisor T w
    carried v w h e =
        let x = lefts e.0 e.1 in
        (x.1.0, x.1.1, subst (λ u. Divides u w) (sym x.1.2) (lower_divides e.0.left v w x.0 h e.2))

    -- two words of the same image, neither zero nor a multiple of a left side, are equal
    one_normal : (w u : Exponents) → IsWord N w → IsWord N u → image_of N w ≡ image_of N u → ¬ HasLeftDivisor T w → ¬ HasLeftDivisor T u → w ≡ u
    one_normal w u hw hu e nw nu =
        let v = relettered (suc ((word_order_of N).degree w)) w hw (omega arith) in
        let y = relettered (suc ((word_order_of N).degree u)) u hu (omega arith) in
        let lv : IsLeast M (image_of M v.0) v.0 = record { word = v.1.word; image = refl; least = λ x s. nw (carried v.0 w v.1 (closed v.0 v.1.word (inr (x, s)))) } in
        let ly : IsLeast M (image_of M v.0) y.0 = record { word = y.1.word; image = y.1.image ∙ (sym e ∙ sym v.1.image); least = λ x s. nu (carried y.0 u y.1 (closed y.0 y.1.word (inr (x, s)))) } in
        let q = least_unique M HM (image_of M v.0) v.0 y.0 lv ly in
        relettered_unique v.0 w u hw hu v.1 (subst (λ x. IsRelettered x u) (sym q) y.1)

    zero_divided : (w : Exponents) → IsWord N w → IsMultiple Z (image_of N w) → HasLeftDivisor T w
    zero_divided w hw z =
        let v = relettered (suc ((word_order_of N).degree w)) w hw (omega arith) in
        carried v.0 w v.1 (closed v.0 v.1.word (inl (subst (IsMultiple Z) (sym v.1.image) z)))

    divisor_or_not : (w : Exponents) → HasLeftDivisor T w ⊎ (HasLeftDivisor T w → ⊥)
    divisor_or_not w =
        ⊎_elim (λ x. inl (x.0, x.1, x.2)) (λ n. inr (λ x. n x.0 x.1 x.2)) (find_member (λ (r : RewriteRule). Divides r.left w) (λ r. divides_or_not r.left w) T)

    pub closed_again : (w : Exponents) → IsWord N w → IsReducible (IsMultiple Z) N w → HasLeftDivisor T w
    closed_again w hw red =
        ⊎_elim (λ x. x) (λ nw. ⊎_elim (λ z. zero_divided w hw z) (λ nz. absurd (⊎_elim nz (λ s. smaller nw nz s.0 s.1) red)) (multiple_decided (length L.degrees) Z (image_of N w) (image_x N HN w))) (divisor_or_not w)
      where
        smaller : ¬ HasLeftDivisor T w → ¬ IsMultiple Z (image_of N w) → (x : Exponents) → IsSmaller N w x → ⊥
        smaller nw nz x s =
            let u = least_word N HN w hw in
            let nu : ¬ HasLeftDivisor T u.0 = λ e. ⊎_elim (λ z. nz (subst (IsMultiple Z) u.1.image z)) (λ y. u.1.least y.0 y.1)
            (divided_reducible (IsMultiple Z) N HN T rules (multiple_closed (length L.degrees) Z) u.0 u.1.word e) in
            let q = one_normal w u.0 hw u.1.word (sym u.1.image) nw nu in
            u.1.least x (subst (λ y. IsSmaller N y x) q s)
