-- What renumbering of the last leads keeps.
use Rattle.std.proofs.Common.{◌≡◌, ◌≢◌, ℕ, zero, suc, ◌+◌, ◌-◌, ◌≤◌, ◌<◌, ◌↔◌, refl, sym, ◌∙◌, ap, subst, List, [], ◌∷◌, length, get_or, length-append, arith, ◌⊎◌, inl, inr, ⊎_elim, Some, None, Contains}
use Rattle.std.specs.Prelude.{AllPairs}
use Rattle.std.proofs.lemmas.List.{get_or_default}
use Rattle.std.specs.declared.cmp.Ordering.TheVariants.{Less}
use Rattle.monomial_order.specs.Monomial.{Exponents, exponent, IsTrimmed, IsMonomial, Divides, variable, weighted_degree}
use Rattle.monomial_order.specs.laws.Monomial.{last_exponent, variable_divides, trimmed_tail, variable_trimmed, variable_length}
use Rattle.monomial_order.specs.laws.Comparing.{le_or_not, equal_or_not, proper_divisor, not_below_self}
use Rattle.monomial_order.specs.laws.Lists.{contains_at}
use Rattle.word_laws.specs.Words.{Letters, AreLetters, word_order_of, image_of, IsWord, IsSmaller, IsReducible, IsLeast}
use Rattle.word_laws.specs.laws.Words.{word_laws, image_x, degree_image, degree_same, degree_x}
use Rattle.word_rewriting.specs.Rewriting.{WordOrZero, RewriteRule}
use Rattle.word_rewriting.specs.Completeness.{lead_letter, with_leads, IsRightSide, AreRewriteRules, GeneratesReducible}
use Rattle.word_rewriting.specs.Renumbering.{AreLastLeads, AreRenumbered, AreLettersOfOneLead, IsRenumbered, IsRenumberedSide, AreRenumberedRules}
use Rattle.word_rewriting.specs.laws.Letters.{places_count, letter_word}
use Rattle.word_rewriting.specs.laws.MoreLeads.{word_stays, image_stays, compare_stays, letters_stay, new_image, new_letter_smaller}
use Rattle.word_rewriting.specs.laws.Pairs.{trichotomy}

-- a divisor of a monomial has no more places
divisor_length : (u v : Exponents) → IsTrimmed u → Divides u v → length u ≤ length v
divisor_length [] v h d = omega arith
divisor_length (a ∷ m) [] h d = absurd (let l = last_exponent (a ∷ m) (length m) h (omega arith) in let k = d (length m) in omega arith)
divisor_length (a ∷ []) (b ∷ n) h d = omega arith
divisor_length (a ∷ (c ∷ m)) (b ∷ n) h d = let l = divisor_length (c ∷ m) n h (λ i. d (suc i)) in omega arith

-- the indices of equal members of a list of different ones
pub same_index : (ms : List Exponents) → AllPairs (λ m n. m ≢ n) ms → (i j : ℕ) → i < length ms → j < length ms → get_or ms i [] ≡ get_or ms j [] → i ≡ j
same_index ms h i j hi hj e =
    ⊎_elim (λ l. absurd (h i j [] l hj e)) (λ o. ⊎_elim (λ q. q) (λ l. absurd (h j i [] l hi (sym e))) o) (trichotomy i j)

letters_turned : (L : Letters) (before after : List Exponents) (v w : Exponents) → AreLettersOfOneLead L before after v w → AreLettersOfOneLead L after before w v
letters_turned L before after v w h = record {
  old = h.new;
  new = h.old;
  old_within = h.new_within;
  new_within = h.old_within;
  lead = sym h.lead;
  old_letter = h.new_letter;
  new_letter = h.old_letter;
}

pub renumbered_turned : (L : Letters) (before after : List Exponents) (v w : Exponents) → IsRenumbered L before after v w → IsRenumbered L after before w v
renumbered_turned L before after v w h = ⊎_elim (λ s. inl (subst (IsWord L) s.1 s.0, sym s.1)) (λ s. inr (letters_turned L before after v w s)) h

pub turned : (L : Letters) (d : ℕ) (before after : List Exponents) → AreRenumbered L d before after → AreRenumbered L d after before
turned L d before after h = record { old_leads = h.new_leads; new_leads = h.old_leads; members = λ m. ((h.members m).1, (h.members m).0) }

module _ (L : Letters) (H : AreLetters L) (d : ℕ) (leads : List Exponents) (K : AreLastLeads L d leads) where
  pub in_x_not_one : (m : Exponents) → Contains leads m → IsMonomial (length L.degrees) m × (m ≢ [])
  in_x_not_one m k = (K.in_x m k, K.not_one m k)

  pub last_letters : AreLetters (with_leads L leads)
  last_letters = letters_stay L H leads in_x_not_one

  letter_degree : (j : ℕ) → j < length leads → (word_order_of (with_leads L leads)).degree (lead_letter L (length L.leads + j)) ≡ d
  letter_degree j l =
      sym (degree_image (with_leads L leads) last_letters (lead_letter L (length L.leads + j))) ∙
      (ap (word_order_of (with_leads L leads)).degree (new_image L H leads in_x_not_one j) ∙
      (degree_x (with_leads L leads) last_letters (get_or leads j []) (K.in_x (get_or leads j []) (contains_at leads j [] l)) ∙
      K.degree (get_or leads j []) (contains_at leads j [] l)))

  -- a word of degree at most d has none of the last letters, or it is one
  pub word_cases : (v : Exponents) → IsWord (with_leads L leads) v → (word_order_of (with_leads L leads)).degree v ≤ d →
      IsWord L v ⊎ ((j : ℕ) × (j < length leads) × (v ≡ lead_letter L (length L.leads + j)))
  word_cases v hv hd =
      ⊎_elim (λ l. inl (record { trimmed = hv.trimmed; within = l })) (λ l. inr (long (length v - suc (word_order_of L).places) (omega (arith, l)))) (le_or_not (length v) (word_order_of L).places)
    where
      long : (j : ℕ) → length v ≡ suc ((word_order_of L).places + j) → (j : ℕ) × (j < length leads) × (v ≡ lead_letter L (length L.leads + j))
      long j e =
          let p = places_count L in
          let q = places_count (with_leads L leads) in
          let r = length-append L.leads leads in
          let w = hv.within in
          let l : j < length leads = omega arith in
          let n : length v ≡ suc (length L.degrees + (length L.leads + j)) = omega arith in
          let divides = variable_divides (length L.degrees + (length L.leads + j)) v (last_exponent v (length L.degrees + (length L.leads + j)) hv.trimmed n) in (
            j,
            l,
            ⊎_elim (λ s. sym s)
                (λ ne. absurd
                (let x = (proper_divisor (word_order_of (with_leads L leads)) (word_laws (with_leads L leads) last_letters) (lead_letter L (length L.leads + j)) v hv (variable_trimmed (length L.degrees + (length L.leads + j))) divides ne).1 in
                let y = letter_degree j l in omega arith))
                (equal_or_not (lead_letter L (length L.leads + j)) v),
          )

  -- the letter of a lead that does not count as zero is irreducible
  pub last_irreducible : (IsZero : Exponents → Type 0) → ((m : Exponents) → Contains leads m → ¬ IsZero m) →
      (j : ℕ) → j < length leads → ¬ IsReducible IsZero (with_leads L leads) (lead_letter L (length L.leads + j))
  last_irreducible IsZero standard j l r =
      ⊎_elim (λ z. standard (get_or leads j []) (contains_at leads j [] l) (subst IsZero (new_image L H leads in_x_not_one j) z)) (λ s. smaller s.0 s.1) r
    where
      M : Letters
      M = with_leads L leads

      letter : Exponents
      letter = lead_letter L (length L.leads + j)

      smaller : (v : Exponents) → IsSmaller M letter v → ⊥
      smaller v s =
          let e = degree_same M last_letters v letter s.image in
          let f = letter_degree j l in
          ⊎_elim
          (λ k. not_below_self (word_order_of M) (word_laws M last_letters) v ((word_laws M last_letters).total.trans v letter v s.less
          (new_letter_smaller L H leads in_x_not_one j l v k (sym (image_stays L leads v k) ∙ (s.image ∙ new_image L H leads in_x_not_one j))).less))
          (λ i.
          let lead : get_or leads i.0 [] ≡ get_or leads j [] = sym (new_image L H leads in_x_not_one i.0) ∙ (ap (image_of M) (sym i.2) ∙ (s.image ∙ new_image L H leads in_x_not_one j)) in
          let q = same_index leads K.distinct i.0 j i.1 l lead in
          not_below_self (word_order_of M) (word_laws M last_letters) letter
          (subst (λ x. (word_order_of M).compare x letter ≡ Less) (i.2 ∙ ap (λ n. lead_letter L (length L.leads + n)) q) s.less))
          (word_cases v s.word (omega arith))

module _ (L : Letters) (H : AreLetters L) (d : ℕ) (before after : List Exponents) (K : AreRenumbered L d before after) where
  old_new : (m : Exponents) → Contains before m → IsMonomial (length L.degrees) m × (m ≢ [])
  old_new = in_x_not_one L H d before K.old_leads

  new_new : (m : Exponents) → Contains after m → IsMonomial (length L.degrees) m × (m ≢ [])
  new_new = in_x_not_one L H d after K.new_leads

  -- each word of degree at most d can be renumbered
  pub renumbered : (v : Exponents) → IsWord (with_leads L before) v → (word_order_of (with_leads L before)).degree v ≤ d → (w : Exponents) × IsRenumbered L before after v w
  renumbered v hv hd =
      ⊎_elim (λ s. (v, inl (s, refl)))
      (λ s.
      let k = (K.members (get_or before s.0 [])).0 (contains_at before s.0 [] s.1) in (
        lead_letter L (length L.leads + k.0),
        inr (record {
          old = s.0;
          new = k.0;
          old_within = s.1;
          new_within = k.1;
          lead = sym k.2 ∙ get_or_default after k.0 (get_or before s.0 []) [] k.1;
          old_letter = s.2;
          new_letter = refl;
        }),
      ))
      (word_cases L H d before K.old_leads v hv hd)

  -- it has the same image, and is a word
  pub renumbered_word : (v w : Exponents) → IsRenumbered L before after v w → IsWord (with_leads L after) w
  renumbered_word v w h =
      ⊎_elim (λ s. subst (IsWord (with_leads L after)) s.1 (word_stays L after v s.0))
      (λ s. subst (IsWord (with_leads L after)) (sym s.new_letter) (letter_word (with_leads L after) (length L.leads + s.new) (let l = s.new_within in let e = length-append L.leads after in omega arith))) h

  pub renumbered_image : (v w : Exponents) → IsRenumbered L before after v w → image_of (with_leads L after) w ≡ image_of (with_leads L before) v
  renumbered_image v w h =
      ⊎_elim (λ s. ap (image_of (with_leads L after)) (sym s.1) ∙ (image_stays L after v s.0 ∙ sym (image_stays L before v s.0)))
      (λ s. ap (image_of (with_leads L after)) s.new_letter ∙ (new_image L H after new_new s.new ∙ (sym s.lead ∙ (sym (new_image L H before old_new s.old) ∙ ap (image_of (with_leads L before)) (sym s.old_letter))))) h

  -- words of degree at most d have one renumbered word
  pub renumbered_unique : (v w u : Exponents) → IsRenumbered L before after v w → IsRenumbered L before after v u → w ≡ u
  renumbered_unique v w u h k =
      ⊎_elim
      (λ s. ⊎_elim (λ t. sym s.1 ∙ t.1) (λ t. absurd (not_older v s.0 t)) k)
      (λ s. ⊎_elim (λ t. absurd (not_older v t.0 s))
      (λ t.
      let e : s.old ≡ t.old = old_index s t in
      let q : s.new ≡ t.new =
      same_index after K.new_leads.distinct s.new t.new s.new_within t.new_within (sym s.lead ∙ (ap (λ i. get_or before i []) e ∙ t.lead)) in
      s.new_letter ∙ (ap (λ i. lead_letter L (length L.leads + i)) q ∙ sym t.new_letter)) k) h
    where
      not_older : (v : Exponents) {w : Exponents} → IsWord L v → AreLettersOfOneLead L before after v w → ⊥
      not_older v h s =
          let e : length v ≡ length (lead_letter L (length L.leads + s.old)) = ap length s.old_letter in
          let l = variable_length (length L.degrees + (length L.leads + s.old)) in
          let p = places_count L in
          let w = h.within in
          omega arith

      old_index : {w u : Exponents} (s : AreLettersOfOneLead L before after v w) (t : AreLettersOfOneLead L before after v u) → s.old ≡ t.old
      old_index s t =
          let e : length (lead_letter L (length L.leads + s.old)) ≡ length (lead_letter L (length L.leads + t.old)) = ap length (sym s.old_letter ∙ t.old_letter) in
          let l = variable_length (length L.degrees + (length L.leads + s.old)) in
          let m = variable_length (length L.degrees + (length L.leads + t.old)) in
          omega arith

  -- renumbering keeps which words of one image are smaller
  pub renumbered_smaller : (v u w x : Exponents) → IsRenumbered L before after v w → IsRenumbered L before after u x → IsSmaller (with_leads L before) v u → IsSmaller (with_leads L after) w x
  renumbered_smaller v u w x hv hu s = record { word = renumbered_word u x hu; image = same; less = ⊎_elim (λ a. ⊎_elim (λ b. both a b) (λ b. letter a b) hu) (λ a. ⊎_elim (λ b. absurd (older a b)) (λ b. absurd (letters a b)) hu) hv }
    where
      same : image_of (with_leads L after) x ≡ image_of (with_leads L after) w
      same = renumbered_image u x hu ∙ (s.image ∙ sym (renumbered_image v w hv))

      both : IsWord L v × (v ≡ w) → IsWord L u × (u ≡ x) → (word_order_of (with_leads L after)).compare x w ≡ Less
      both a b =
          ap (λ y. (word_order_of (with_leads L after)).compare y w) (sym b.1) ∙
          (ap ((word_order_of (with_leads L after)).compare u) (sym a.1) ∙
          (compare_stays L after u v b.0 a.0 ∙ (sym (compare_stays L before u v b.0 a.0) ∙ s.less)))

      letter : IsWord L v × (v ≡ w) → AreLettersOfOneLead L before after u x → (word_order_of (with_leads L after)).compare x w ≡ Less
      letter a b =
          ap (λ y. (word_order_of (with_leads L after)).compare y w) b.new_letter ∙
          (ap ((word_order_of (with_leads L after)).compare (lead_letter L (length L.leads + b.new))) (sym a.1) ∙
          (new_letter_smaller L H after new_new b.new b.new_within v a.0
          (sym (image_stays L before v a.0) ∙ (sym s.image ∙ (ap (image_of (with_leads L before)) b.old_letter ∙ (new_image L H before old_new b.old ∙ b.lead))))).less)

      older : AreLettersOfOneLead L before after v w → IsWord L u × (u ≡ x) → ⊥
      older a b =
          let O = word_order_of (with_leads L before) in
          let LO = word_laws (with_leads L before) (last_letters L H d before K.old_leads) in
          let below = new_letter_smaller L H before old_new a.old a.old_within u b.0
          (sym (image_stays L before u b.0) ∙ (s.image ∙ (ap (image_of (with_leads L before)) a.old_letter ∙ new_image L H before old_new a.old))) in
          not_below_self O LO u (LO.total.trans u v u s.less (subst (λ y. O.compare y u ≡ Less) (sym a.old_letter) below.less))

      letters : AreLettersOfOneLead L before after v w → AreLettersOfOneLead L before after u x → ⊥
      letters a b =
          let lead : get_or before b.old [] ≡ get_or before a.old [] =
          sym (new_image L H before old_new b.old) ∙ (ap (image_of (with_leads L before)) (sym b.old_letter) ∙ (s.image ∙ (ap (image_of (with_leads L before)) a.old_letter ∙ new_image L H before old_new a.old))) in
          let i = same_index before K.old_leads.distinct b.old a.old b.old_within a.old_within lead in
          let q : u ≡ v = b.old_letter ∙ (ap (λ i. lead_letter L (length L.leads + i)) i ∙ sym a.old_letter) in
          not_below_self (word_order_of (with_leads L before)) (word_laws (with_leads L before) (last_letters L H d before K.old_leads)) v (subst (λ y. (word_order_of (with_leads L before)).compare y v ≡ Less) q s.less)

  smaller_renumbered : (v u w : Exponents) → (word_order_of (with_leads L before)).degree v ≤ d → IsRenumbered L before after v w → IsSmaller (with_leads L before) v u →
      (x : Exponents) × IsRenumbered L before after u x × IsSmaller (with_leads L after) w x
  smaller_renumbered v u w hd h s =
      let x = renumbered u s.word (let e = degree_same (with_leads L before) (last_letters L H d before K.old_leads) u v s.image in omega arith) in
      (x.0, x.1, renumbered_smaller v u w x.0 h x.1 s)

  module _ (IsZero : Exponents → Type 0) where
    -- and which words are reducible
    pub renumbered_reducible : (v w : Exponents) → (word_order_of (with_leads L before)).degree v ≤ d → IsRenumbered L before after v w →
        IsReducible IsZero (with_leads L before) v → IsReducible IsZero (with_leads L after) w
    renumbered_reducible v w hd h r =
        ⊎_elim (λ z. inl (subst IsZero (sym (renumbered_image v w h)) z)) (λ s. let x = smaller_renumbered v s.0 w hd h s.1 in inr (x.0, x.2)) r

    -- renumbered rules are rules
    pub renumbered_rules : (R S : List RewriteRule) → AreRenumberedRules L before after R S →
        AreRewriteRules IsZero (with_leads L before) R → AreRewriteRules IsZero (with_leads L after) S
    renumbered_rules R S h rules s hs =
        let r = h.each s hs in
        (renumbered_word r.0.left s.left r.2.0, side r.0.right s.right r.0.left s.left r.2.0 r.2.1 (rules r.0 r.1).1)
      where
        side : (a b : WordOrZero) (v w : Exponents) → IsRenumbered L before after v w → IsRenumberedSide L before after a b → IsRightSide IsZero (with_leads L before) v a → IsRightSide IsZero (with_leads L after) w b
        side None None v w k t z = subst IsZero (sym (renumbered_image v w k)) z
        side None (Some y) v w k t z = absurd t
        side (Some u) None v w k t z = absurd t
        side (Some u) (Some y) v w k t z = renumbered_smaller v u w y k t z

-- the divisors of a variable
variable_divisor : (i : ℕ) (u : Exponents) → IsTrimmed u → Divides u (variable i) → (u ≡ []) ⊎ (u ≡ variable i)
variable_divisor i [] h d = inl refl
variable_divisor zero (a ∷ []) h d = inr (ap (λ x. x ∷ []) (let l = d 0 in omega (arith, h)))
variable_divisor zero (a ∷ (b ∷ m)) h d = absurd (let l = divisor_length (a ∷ (b ∷ m)) (variable 0) h d in omega arith)
variable_divisor (suc i) (a ∷ m) h d =
    ⊎_elim (λ e. absurd (only a m (let l = d 0 in omega arith) e h)) (λ e. inr (ap (λ x. x ∷ m) (let l = d 0 in let q : a ≡ 0 = omega arith in q) ∙ ap (λ x. 0 ∷ x) e))
    (variable_divisor i m (trimmed_tail a m h) (λ j. d (suc j)))
  where
    only : (a : ℕ) (m : Exponents) → a ≡ 0 → m ≡ [] → IsTrimmed (a ∷ m) → ⊥
    only a [] z e h = h z
    only a (b ∷ m) z e h = cc

module _ (L : Letters) (H : AreLetters L) (d : ℕ) (before after : List Exponents) (K : AreRenumbered L d before after) where
  -- a divisor of a word, renumbered, divides the renumbered word
  pub renumbered_divides : (u v x w : Exponents) → IsTrimmed u → IsRenumbered L before after u x → IsRenumbered L before after v w → Divides u v → Divides x w
  renumbered_divides u v x w hu ku kv dv = ⊎_elim (λ a. older a) (λ a. letter a) kv
    where
      older : IsWord L v × (v ≡ w) → Divides x w
      older a =
          let l = divisor_length u v hu dv in
          let e = renumbered_unique L H d before after K u x u ku (inl (record { trimmed = hu; within = let m = a.0.within in omega arith }, refl)) in
          subst (Divides x) a.1 (subst (λ y. Divides y v) (sym e) dv)

      letter : AreLettersOfOneLead L before after v w → Divides x w
      letter a =
          ⊎_elim
          (λ e. let q : [] ≡ x = renumbered_unique L H d before after K u [] x (inl (subst (IsWord L) (sym e) (record { trimmed = tt; within = omega arith }), e)) ku in
          subst (λ y. Divides y w) q (λ i. omega arith))
          (λ e. let q = renumbered_unique L H d before after K v w x kv (subst (λ y. IsRenumbered L before after y x) (e ∙ sym a.old_letter) ku) in
          subst (Divides x) (sym q) (λ i. omega arith))
          (variable_divisor (length L.degrees + (length L.leads + a.old)) u hu (subst (Divides u) a.old_letter dv))

  pub renumbered_degree : (v w : Exponents) → IsRenumbered L before after v w → (word_order_of (with_leads L after)).degree w ≡ (word_order_of (with_leads L before)).degree v
  renumbered_degree v w h =
      let L1 = last_letters L H d before K.old_leads in
      let L2 = last_letters L H d after K.new_leads in
      sym (degree_image (with_leads L after) L2 w) ∙
      (degree_x (with_leads L after) L2 (image_of (with_leads L after) w) (image_x (with_leads L after) L2 w) ∙
      (ap (weighted_degree L.degrees) (renumbered_image L H d before after K v w h) ∙
      (sym (degree_x (with_leads L before) L1 (image_of (with_leads L before) v) (image_x (with_leads L before) L1 v)) ∙
      degree_image (with_leads L before) L1 v)))

  -- the least word with an image becomes the least one
  pub renumbered_least : (m v w : Exponents) → (word_order_of (with_leads L before)).degree v ≤ d → IsRenumbered L before after v w →
      IsLeast (with_leads L before) m v → IsLeast (with_leads L after) m w
  renumbered_least m v w hd h k = record {
    word = renumbered_word L H d before after K v w h;
    image = renumbered_image L H d before after K v w h ∙ k.image;
    least = λ x s.
        let e = renumbered_degree v w h in
        let u = smaller_renumbered L H d after before (turned L d before after K) w x v (omega arith) (renumbered_turned L before after v w h) s in
        k.least u.0 u.2;
  }

  pub renumbered_least_exactly : (m v w : Exponents) → (word_order_of (with_leads L before)).degree v ≤ d → IsRenumbered L before after v w →
      IsLeast (with_leads L before) m v ↔ IsLeast (with_leads L after) m w
  renumbered_least_exactly m v w hd h = (renumbered_least m v w hd h, λ k. back k)
    where
      back : IsLeast (with_leads L after) m w → IsLeast (with_leads L before) m v
      back k =
          let e = renumbered_degree v w h in
          let T = turned L d before after K in
          record {
            word = renumbered_word L H d after before T w v (renumbered_turned L before after v w h);
            image = sym (renumbered_image L H d before after K v w h) ∙ k.image;
            least = λ u s. let x = smaller_renumbered L H d before after K v u w hd h s in k.least x.0 x.2;
          }

  pub renumbered_reducible_exactly : (IsZero : Exponents → Type 0) (v w : Exponents) → (word_order_of (with_leads L before)).degree v ≤ d → IsRenumbered L before after v w →
      IsReducible IsZero (with_leads L before) v ↔ IsReducible IsZero (with_leads L after) w
  renumbered_reducible_exactly IsZero v w hd h = (
    renumbered_reducible L H d before after K IsZero v w hd h,
    renumbered_reducible L H d after before (turned L d before after K) IsZero w v (let e = renumbered_degree v w h in omega arith) (renumbered_turned L before after v w h),
  )

  -- left sides that generate the reducible words to d generate them after the renumbering
  pub renumbered_generates : (IsZero : Exponents → Type 0) (R S : List RewriteRule) → AreRenumberedRules L before after R S → AreRewriteRules IsZero (with_leads L before) R →
      GeneratesReducible IsZero (with_leads L before) R d → GeneratesReducible IsZero (with_leads L after) S d
  renumbered_generates IsZero R S h rules generates w hw hd red =
      let T = turned L d before after K in
      let v = renumbered L H d after before T w hw hd in
      let k = renumbered_turned L after before w v.0 v.1 in
      let e = renumbered_degree v.0 w k in
      let r = generates v.0 (renumbered_word L H d after before T w v.0 v.1) (omega arith) (renumbered_reducible L H d after before T IsZero w v.0 hd v.1 red) in
      let s = h.all r.0 r.1 in
      (s.0, s.1, renumbered_divides r.0.left v.0 s.0.left w (rules r.0 r.1).0.trimmed s.2.0 k r.2)
