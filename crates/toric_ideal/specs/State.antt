-- The listing of a completion.
use Rattle.std.specs.Prelude.{◌≢◌, ℕ, ◌≤◌, ◌<◌, List, length, take, drop, Contains, Option, Some, None}
use Rattle.monomial_order.specs.Monomial.{Exponents, IsMultiple}
use Rattle.monomial_order.specs.MonomialOrder.{MonomialOrder}
use Rattle.word_laws.specs.Words.{Letters, image_of, word_order_of, IsLeast, IsSWord}
use Rattle.word_rewriting.specs.Rewriting.{RewriteRule}
use Rattle.word_rules.specs.Rules.{rule_at}
use Rattle.toric_ideal.specs.declared.completion.Completion.{Completion}
use Rattle.toric_ideal.specs.Alphabet.{letters_of, IsAlphabet}
use Rattle.toric_ideal.specs.Listing.{AreParted, IsListing, Listing}
use Rattle.toric_ideal.specs.Queue.{IsQueued}
use Rattle.toric_ideal.specs.Rewriting.{AreSameRules}

abbrev pub listing_of : Completion → Listing
listing_of w = record {
  letters = letters_of w.alphabet;
  zeros = w.zeros.items;
  degree = w.degree;
  rules = w.rules.items;
  closed = w.closed;
}

-- the left sides of the first rules, so many, have degrees less than d
pub record AreLower (O : MonomialOrder) (d count : ℕ) (R : List RewriteRule) : Type 0 where
  pub within : count ≤ length R
  pub less : (k : ℕ) → k < count → O.degree (rule_at R k).left < d

-- What holds of every completion between calls: the first leads, so many, are those of a degree less than its own, and
-- the others are no multiples of zeros; and the first rules of the table have lower degrees too.
pub record IsSound (w : Completion) : Type 0 where
  pub alphabet : IsAlphabet w.alphabet
  pub listing : IsListing (listing_of w)
  pub same : AreSameRules w.rules.items w.table
  pub queued : IsQueued (word_order_of (letters_of w.alphabet)) w.degree w.queued_count w.table w.pairs
  pub within : w.settled_count ≤ length w.alphabet.leads.items
  pub parted : AreParted (letters_of w.alphabet).degrees w.degree w.alphabet.leads.items
      (take w.settled_count w.alphabet.leads.items) (drop w.settled_count w.alphabet.leads.items)
  pub lower : AreLower (word_order_of (letters_of w.alphabet)) w.degree w.lower_rules w.table
  pub standard : (m : Exponents) → Contains (drop w.settled_count w.alphabet.leads.items) m → ¬ IsMultiple w.zeros.items m

-- the least s-word with the image m, or none if no s-word has it
abbrev pub IsFactor : Letters → Exponents → Option Exponents → Type 0
IsFactor L m None = (u : Exponents) → IsSWord L u → image_of L u ≢ m
IsFactor L m (Some v) = IsSWord L v × IsLeast L m v
