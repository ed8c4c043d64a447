-- Rules whose last leads are numbered again.
use Rattle.std.specs.Prelude.{◌≡◌, ◌⊎◌, ℕ, ◌+◌, ◌≤◌, ◌<◌, List, length, take, drop, Contains, Option, Some, None}
use Rattle.monomial_order.specs.Monomial.{Exponents}
use Rattle.word_laws.specs.Words.{Letters, IsWord}
use Rattle.word_rewriting.specs.Rewriting.{WordOrZero, RewriteRule}
use Rattle.word_rewriting.specs.Completeness.{lead_letter}
use Rattle.word_rewriting.specs.Renumbering.{IsRenumberedSide}
use Rattle.word_rules.specs.Rules.{rule_at}
use Rattle.toric_ideal.specs.declared.alphabet.Alphabet.{Alphabet}
use Rattle.toric_ideal.specs.declared.renaming.Renaming.{Renaming}
use Rattle.toric_ideal.specs.Leads.{letters}

-- a word over L, or a letter of one of the further leads
abbrev pub IsLowerOrLetter : Letters → List Exponents → Exponents → Type 0
IsLowerOrLetter L leads w = IsWord L w ⊎ ((j : ℕ) × (j < length leads) × (w ≡ lead_letter L (length L.leads + j)))

abbrev pub IsLowerOrLetterSide : Letters → List Exponents → WordOrZero → Type 0
IsLowerOrLetterSide L leads None = Unit {0}
IsLowerOrLetterSide L leads (Some w) = IsLowerOrLetter L leads w

-- the letters before the lead at index k
abbrev pub lower_letters : Alphabet → ℕ → Letters
lower_letters a k = letters a.order.x_degrees.items (take k a.leads.items)

abbrev pub last_leads : Alphabet → ℕ → List Exponents
last_leads a k = drop k a.leads.items

-- the leads from index k on are in the list
pub record CanRenumber (a : Alphabet) (k : ℕ) (after : List Exponents) : Type 0 where
  pub within : k ≤ length a.leads.items
  pub number : length after ≡ length (last_leads a k)
  pub members : (m : Exponents) → Contains (last_leads a k) m → Contains after m

-- the side with its new letters
abbrev pub IsNewSide : Alphabet → ℕ → List Exponents → WordOrZero → WordOrZero → Type 0
IsNewSide a k after old new = IsRenumberedSide (lower_letters a k) (last_leads a k) after old new

-- the side with the new letter, or, if there is none, the side as it is
abbrev pub IsNewLetter : Alphabet → ℕ → List Exponents → WordOrZero → Option Exponents → Type 0
IsNewLetter a k after side None = IsNewSide a k after side side
IsNewLetter a k after side (Some v) = IsNewSide a k after side (Some v)

-- the index of a rule, and its new right side
pub record IsNewLetterOf (a : Alphabet) (k : ℕ) (after : List Exponents) (R : List RewriteRule) (x : Renaming) : Type 0 where
  pub within : x.index < length R
  pub becomes : IsNewSide a k after (rule_at R x.index).right (Some x.letter)

-- these, of the first i rules; other right sides of these stay
pub record AreNewLetters (a : Alphabet) (k : ℕ) (after : List Exponents) (R : List RewriteRule) (i : ℕ) (list : List Renaming) : Type 0 where
  pub each : (x : Renaming) → Contains list x → IsNewLetterOf a k after R x
  pub all : (j : ℕ) → j < i → IsNewSide a k after (rule_at R j).right (rule_at R j).right ⊎ ((x : Renaming) × Contains list x × (x.index ≡ j))

-- S is R with the new letters in the right sides
pub record HaveNewSides (a : Alphabet) (k : ℕ) (after : List Exponents) (R S : List RewriteRule) : Type 0 where
  pub number : length S ≡ length R
  pub left : (i : ℕ) → i < length R → (rule_at S i).left ≡ (rule_at R i).left
  pub right : (i : ℕ) → i < length R → IsNewSide a k after (rule_at R i).right (rule_at S i).right
