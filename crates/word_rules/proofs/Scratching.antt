-- The letters of a word that changes in place.
use Rattle.std.proofs.Common.{◌≡◌, ◌≢◌, ℕ, ◌+◌, ◌-◌, ◌≤◌, ◌<◌, refl, sym, ◌∙◌, ap, subst, List, [], ◌∷◌, ◌++◌, length, arith, get_or, set, max, take, ⊎_elim, below_more}
use Rattle.std.specs.Prelude.{Contains, swap_remove}
use Rattle.std.proofs.lemmas.List.{get_or_default, get_or-set_other, get_or-set_same, get_or-take, length-set, length-take}
use Rattle.monomial_order.specs.Monomial.{Exponents, exponent}
use Rattle.monomial_order.specs.laws.Comparing.{numbers_or_not}
use Rattle.monomial_order.specs.laws.Lists.{contains_at, contains_either, contains_here, contains_left, contains_one, contains_right}
use Rattle.word_rules.specs.declared.factor.Factor.{Factor}
use Rattle.word_rules.specs.Factors.{factors_of}
use Rattle.word_rules.specs.Scratch.{IsListed}
use Rattle.word_rules.proofs.Factors.{at_here, at_other, exponent_of, exponent_of_word, has_exponent, letter_inside, take_more, take_part, take_whole}

-- one exponent is replaced
pub listed_set : (es ls : List ℕ) (a e : ℕ) → a < length es → IsListed es ls → (e ≢ 0 → Contains ls a) → IsListed (set es a e) ls
listed_set es ls a e l x h = record {
  inside = λ b c. subst (λ n. b < n) (sym (length-set es a e)) (x.inside b c);
  all = λ b n. ⊎_elim (λ q. subst (Contains ls) (sym q) (h (λ z. n (ap (exponent (set es a e)) q ∙ (get_or-set_same es a e 0 l ∙ z)))))
      (λ q. x.all b (λ z. n (get_or-set_other es a b e 0 q ∙ z))) (numbers_or_not b a);
}

-- one letter more is listed
pub listed_pushed : (es ls : List ℕ) (a : ℕ) → a < length es → IsListed es ls → IsListed es (ls ++ a ∷ [])
listed_pushed es ls a l x = record {
  inside = λ b c. ⊎_elim (x.inside b) (λ k. subst (λ n. n < length es) (contains_one a b k) l) (contains_either ls (a ∷ []) b c);
  all = λ b n. contains_left ls (a ∷ []) b (x.all b n);
}

pub last_listed : (ls : List ℕ) (a : ℕ) → Contains (ls ++ a ∷ []) a
last_listed ls a = contains_right ls (a ∷ []) a (contains_here a [])

-- a word that is raised to the first n letters
pub record IsRaised (fs : List Factor) (n : ℕ) (start by word : List ℕ) : Type 0 where
  pub long : length word ≡ length start
  pub kept : (p : ℕ) → exponent start p ≤ exponent word p
  pub within : (p : ℕ) → exponent word p ≤ max (exponent start p) (exponent by p)
  pub done : (k : ℕ) → k < n → (d : Factor) → (get_or fs k d).exponent ≤ exponent word (get_or fs k d).letter

-- a word whose first n places are those of w, with zeros behind them
pub record IsSpread (w : List ℕ) (places n : ℕ) (word : List ℕ) : Type 0 where
  pub long : length word ≡ places
  pub done : (p : ℕ) → p < n → exponent word p ≡ exponent w p
  pub rest : (p : ℕ) → n ≤ p → exponent word p ≡ 0

pub spread_more : (w : List ℕ) (places n : ℕ) (old new : List ℕ) → IsSpread w places n old → length new ≡ length old → exponent new n ≡ exponent w n →
    ((p : ℕ) → p ≢ n → exponent new p ≡ exponent old p) → IsSpread w places (n + 1) new
spread_more w places n old new h long here others = record {
  long = long ∙ h.long;
  done = λ p l. ⊎_elim (λ q. ap (exponent new) q ∙ (here ∙ ap (exponent w) (sym q))) (λ q. others p q ∙ h.done p (omega (arith, q))) (numbers_or_not p n);
  rest = λ p l. others p (λ q. omega (arith, q)) ∙ h.rest p (omega arith);
}

pub spread_zero : (w : List ℕ) (places n : ℕ) (old : List ℕ) → IsSpread w places n old → exponent w n ≡ 0 → IsSpread w places (n + 1) old
spread_zero w places n old h z = record {
  long = h.long;
  done = λ p l. ⊎_elim (λ q. h.rest p (omega (arith, q)) ∙ (sym z ∙ ap (exponent w) (sym q))) (λ q. h.done p (omega (arith, q))) (numbers_or_not p n);
  rest = λ p l. h.rest p (omega arith);
}

module _ (fs : List Factor) (k : ℕ) (d : Factor) (l : k < length fs) (old new : List ℕ)
    (others : (p : ℕ) → p ≢ (get_or fs k d).letter → exponent new p ≡ exponent old p) where
  -- one letter more is multiplied
  pub multiplied_more : (start : List ℕ) → ((p : ℕ) → exponent old p ≡ exponent start p + exponent_of (take k fs) p) →
      exponent new (get_or fs k d).letter ≡ exponent old (get_or fs k d).letter + (get_or fs k d).exponent →
      (p : ℕ) → exponent new p ≡ exponent start p + exponent_of (take (k + 1) fs) p
  multiplied_more start h here p = ⊎_elim
      (λ q. let a = at_here (get_or fs k d).letter (get_or fs k d).exponent p q in
      let b = take_more fs k d p l in
      let c = h p in
      let x = ap (exponent new) q in
      let y = ap (exponent old) q in
      omega (arith, here))
      (λ q. let a = at_other (get_or fs k d).letter (get_or fs k d).exponent p q in
      let b = take_more fs k d p l in
      let c = h p in
      let x = others p q in
      omega arith)
      (numbers_or_not p (get_or fs k d).letter)

  -- or divided
  pub lowered_more : (start : List ℕ) → ((p : ℕ) → exponent old p ≡ exponent start p - exponent_of (take k fs) p) →
      exponent new (get_or fs k d).letter ≡ exponent old (get_or fs k d).letter - (get_or fs k d).exponent →
      (p : ℕ) → exponent new p ≡ exponent start p - exponent_of (take (k + 1) fs) p
  lowered_more start h here p = ⊎_elim
      (λ q. let a = at_here (get_or fs k d).letter (get_or fs k d).exponent p q in
      let b = take_more fs k d p l in
      let c = h p in
      let x = ap (exponent new) q in
      let y = ap (exponent old) q in
      omega (arith, here))
      (λ q. let a = at_other (get_or fs k d).letter (get_or fs k d).exponent p q in
      let b = take_more fs k d p l in
      let c = h p in
      let x = others p q in
      omega arith)
      (numbers_or_not p (get_or fs k d).letter)

  -- or raised
  pub raised_more : (start by : List ℕ) → exponent new (get_or fs k d).letter ≡ max (exponent old (get_or fs k d).letter) (get_or fs k d).exponent →
      (get_or fs k d).exponent ≡ exponent by (get_or fs k d).letter → length new ≡ length old → IsRaised fs k start by old → IsRaised fs (k + 1) start by new
  raised_more start by here e long h = record {
    long = long ∙ h.long;
    kept = λ p. ⊎_elim (λ q. let x = ap (exponent new) q in let y = ap (exponent old) q in let b = h.kept p in omega (arith, here))
        (λ q. let x = others p q in let b = h.kept p in omega arith) (numbers_or_not p (get_or fs k d).letter);
    within = λ p. ⊎_elim (λ q. let x = ap (exponent new) q in let y = ap (exponent old) q in let z = ap (exponent by) q in let b = h.within p in omega (arith, here, e))
        (λ q. let x = others p q in let b = h.within p in omega arith) (numbers_or_not p (get_or fs k d).letter);
    done = below_more _ _ (λ m lt c. rises (get_or fs m c).letter (get_or fs m c).exponent (h.done m lt c))
        (λ c. subst (λ (g : Factor). g.exponent ≤ exponent new g.letter) (get_or_default fs k d c l) (omega (arith, here)));
  }
    where
      rises : (a x : ℕ) → x ≤ exponent old a → x ≤ exponent new a
      rises a x b = ⊎_elim (λ q. let y = ap (exponent new) q in let z = ap (exponent old) q in omega (arith, here))
          (λ q. let y = others a q in omega arith) (numbers_or_not a (get_or fs k d).letter)

-- a letter that is read
module _ (w : Exponents) (fs : List Factor) (same : fs ≡ factors_of w) (k : ℕ) (d : Factor) (l : k < length fs) where
  is_factor : Contains (factors_of w) (get_or fs k d)
  is_factor = subst (λ gs. Contains gs (get_or fs k d)) same (contains_at fs k d l)

  pub read_inside : (get_or fs k d).letter < length w
  read_inside = letter_inside w (get_or fs k d) is_factor

  pub read_exponent : (get_or fs k d).exponent ≡ exponent w (get_or fs k d).letter
  read_exponent = has_exponent w (get_or fs k d) is_factor

  -- what the letters before it and itself add is within the word
  pub read_within : exponent_of (take k fs) (get_or fs k d).letter + (get_or fs k d).exponent ≤ exponent w (get_or fs k d).letter
  read_within =
      let a = (get_or fs k d).letter in
      let m = take_more fs k d a l in
      let h = at_here a (get_or fs k d).exponent a refl in
      let p = take_part fs (k + 1) a in
      let e = ap (λ gs. exponent_of gs a) same in
      let x = exponent_of_word w a in
      omega arith

pub all_letters : (w : Exponents) (fs : List Factor) → fs ≡ factors_of w → (n p : ℕ) → length fs ≤ n → exponent_of (take n fs) p ≡ exponent w p
all_letters w fs same n p l = take_whole fs n p l ∙ (ap (λ gs. exponent_of gs p) same ∙ exponent_of_word w p)

-- what is left was there
swapped_in : (ls : List ℕ) (i x a : ℕ) → i < length ls → Contains (swap_remove ls i x) a → Contains ls a
swapped_in ls i x a l h =
    let last = get_or ls (length ls - 1) x in
    let t : length (swap_remove ls i x) ≡ length ls - 1 = grind (arith, length-take, length-set) in
    let m = h.1 in
    let small : h.0 < length ls - 1 = omega (arith, m, t) in
    let e = sym (get_or-take (length ls - 1) (set ls i last) h.0 a small) ∙ h.2 in
    ⊎_elim
    (λ q. subst (Contains ls) (sym (get_or-set_same ls i last a l) ∙ (ap (λ k. get_or (set ls i last) k a) (sym q) ∙ e)) (contains_at ls (length ls - 1) x (omega arith)))
    (λ q. (h.0, omega (arith, small), sym (get_or-set_other ls i h.0 last a q) ∙ e))
    (numbers_or_not h.0 i)

-- a member stays if another one is taken out
pub swapped_contains : (ls : List ℕ) (i x a : ℕ) → i < length ls → Contains ls a → a ≢ get_or ls i 0 → Contains (swap_remove ls i x) a
swapped_contains ls i x a l h n = ⊎_elim
    (λ (q : h.0 ≡ length ls - 1).
    let other : i < length ls - 1 = ⊎_elim (λ (r : i ≡ h.0). absurd (n (sym h.2 ∙ (get_or_default ls h.0 a 0 h.1 ∙ ap (λ k. get_or ls k 0) (sym r))))) (λ r. omega (arith, q, r)) (numbers_or_not i h.0) in
    (i, (let t = within in omega (arith, other)), get_or-take (length ls - 1) (set ls i last) i a other ∙ (get_or-set_same ls i last a l ∙ (ap (λ k. get_or ls k x) (sym q) ∙ (get_or_default ls h.0 x a h.1 ∙ h.2)))))
    (λ q.
    let other : h.0 ≢ i = λ r. n (sym h.2 ∙ (get_or_default ls h.0 a 0 h.1 ∙ ap (λ k. get_or ls k 0) r)) in
    let small : h.0 < length ls - 1 = (let m = h.1 in omega (arith, q)) in
    (h.0, (let t = within in omega (arith, small)), get_or-take (length ls - 1) (set ls i last) h.0 a small ∙ (get_or-set_other ls i h.0 last a other ∙ h.2)))
    (numbers_or_not h.0 (length ls - 1))
  where
    last : ℕ
    last = get_or ls (length ls - 1) x

    within : length (swap_remove ls i x) ≡ length ls - 1
    within = grind (arith, length-take, length-set)

-- a letter with the exponent 0 need not be listed
pub listed_without : (es ls : List ℕ) (i x : ℕ) → i < length ls → exponent es (get_or ls i 0) ≡ 0 → IsListed es ls → IsListed es (swap_remove ls i x)
listed_without es ls i x l z h = record {
  inside = λ a c. h.inside a (swapped_in ls i x a l c);
  all = λ a n. swapped_contains ls i x a l (h.all a n) (λ q. n (ap (exponent es) q ∙ z));
}
