-- The letters of an alphabet.
use Rattle.std.proofs.Common.{◌≡◌, ℕ, ◌≤◌, ap, subst, List, [], ◌∷◌, ◌++◌, length, true, arith, ⊎_elim}
use Rattle.std.specs.Prelude.{Contains}
use Rattle.monomial_order.specs.Monomial.{weighted_degree, IsMonomial}
use Rattle.word_laws.specs.laws.Images.{weighted_front}
use Rattle.monomial_order.specs.laws.Monomial.{weighted_nil}
use Rattle.monomial_order.specs.Ranges.{all_between}
use Rattle.monomial_order.specs.laws.Orders.{between_first, between_rest}
use Rattle.monomial_order.specs.Orders.{word_order}
use Rattle.monomial_order.specs.laws.Lists.{contains_cases, contains_none}
use Rattle.word_laws.specs.Words.{word_order_of, AreLetters}
use Rattle.toric_ideal.specs.Leads.{letters, AreLetterLeads}
use Rattle.toric_ideal.specs.Alphabet.{letters_of, IsAlphabet}
use Rattle.toric_ideal.specs.declared.alphabet.Alphabet.{Alphabet}

positive_from : (ds : List ℕ) → all_between 1 30000 ds ≡ true → (d : ℕ) → Contains ds d → 1 ≤ d
positive_from [] h d c = absurd (contains_none d c)
positive_from (x ∷ ds) h d c =
    ⊎_elim (λ e. subst (λ y. 1 ≤ y) e (between_first 1 30000 x ds h).0) (λ k. positive_from ds (between_rest 1 30000 x ds h) d k) (contains_cases x ds d c)

pub leads_letters : (xs : List ℕ) (leads : List (List ℕ)) → all_between 1 30000 xs ≡ true → AreLetterLeads xs leads → AreLetters (letters xs leads)
leads_letters xs leads h k = record {
  positive = positive_from xs h;
  leads = λ m c. (k m c).monomial;
  not_one = λ m c e. let p = (k m c).positive in let z : weighted_degree xs m ≡ weighted_degree xs [] = ap (weighted_degree xs) e in let n = weighted_nil xs in absurd (omega arith);
}

pub alphabet_letters : (a : Alphabet) → IsAlphabet a → AreLetters (letters_of a)
alphabet_letters a h = leads_letters a.order.x_degrees.items a.leads.items a.order.x_in_range h.are_leads

-- the order of an alphabet is that of its words
pub alphabet_order : (a : Alphabet) → IsAlphabet a → word_order a.order.x_degrees.items a.order.s_degrees.items ≡ word_order_of (letters_of a)
alphabet_order a h = ap (word_order a.order.x_degrees.items) h.lead_degrees

-- a monomial in the x has the same degree as a word
pub x_degree : (a : Alphabet) → IsAlphabet a → (z : List ℕ) → IsMonomial (length a.order.x_degrees.items) z →
    weighted_degree (a.order.x_degrees.items ++ a.order.s_degrees.items) z ≡ weighted_degree a.order.x_degrees.items z
x_degree a h z k = weighted_front a.order.x_degrees.items a.order.s_degrees.items z k.within
