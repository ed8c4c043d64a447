-- Right sides that become the letter of a new lead.
use Rattle.std.specs.Prelude.{◌≡◌, ◌≢◌, ◌⊎◌, ℕ, ◌<◌, List, ◌++◌, ◌∷◌, [], length, take, drop, Contains, Some}
use Rattle.monomial_order.specs.Monomial.{Exponents}
use Rattle.word_rewriting.specs.Rewriting.{RewriteRule}
use Rattle.word_rules.specs.Rules.{rule_at}
use Rattle.toric_ideal.specs.declared.rule.Rule.{Rule}
use Rattle.toric_ideal.specs.Rewriting.{rewrite_rules}
use Rattle.toric_ideal.specs.declared.renaming.Renaming.{Renaming}

-- the right side w becomes the letter, and another one stays
pub record IsRenamedRule (w letter : Exponents) (r s : RewriteRule) : Type 0 where
  pub left : s.left ≡ r.left
  pub right : ((r.right ≢ Some w) × (s.right ≡ r.right)) ⊎ ((r.right ≡ Some w) × (s.right ≡ Some letter))

-- so do those of all rules
pub record AreRenamed (w letter : Exponents) (R S : List RewriteRule) : Type 0 where
  pub number : length S ≡ length R
  pub each : (k : ℕ) → k < length R → IsRenamedRule w letter (rule_at R k) (rule_at S k)

-- the index of a rule with the right side w, and the letter
pub record IsRenaming (w letter : Exponents) (R : List RewriteRule) (x : Renaming) : Type 0 where
  pub within : x.index < length R
  pub right : (rule_at R x.index).right ≡ Some w
  pub becomes : x.letter ≡ letter

-- these, of all such rules with an index below i
pub record AreRenamings (w letter : Exponents) (R : List RewriteRule) (i : ℕ) (list : List Renaming) : Type 0 where
  pub each : (x : Renaming) → Contains list x → IsRenaming w letter R x
  pub all : (k : ℕ) → k < i → (rule_at R k).right ≡ Some w → (x : Renaming) × Contains list x × (x.index ≡ k)

-- all indexes are below n
abbrev pub AreWithin : ℕ → List Renaming → Type 0
AreWithin n list = (x : Renaming) → Contains list x → x.index < n

-- the right side at the index k becomes a letter of the list, or is not named in it and stays
abbrev pub IsSetAt : List Renaming → List RewriteRule → List RewriteRule → ℕ → Type 0
IsSetAt list R S k =
    ((x : Renaming) × Contains list x × (x.index ≡ k) × ((rule_at S k).right ≡ Some x.letter)) ⊎
    (((x : Renaming) → Contains list x → x.index ≢ k) × ((rule_at S k).right ≡ (rule_at R k).right))

-- S is R with the right sides of the list
pub record AreSetBy (list : List Renaming) (R S : List RewriteRule) : Type 0 where
  pub number : length S ≡ length R
  pub left : (k : ℕ) → (rule_at S k).left ≡ (rule_at R k).left
  pub right : (k : ℕ) → k < length R → IsSetAt list R S k

-- the rule of a new lead
abbrev pub lead_rule : Exponents → Exponents → RewriteRule
lead_rule w letter = record { left = w; right = Some letter }

-- the rules, with that of the new lead, whose left side is w
abbrev pub IsLettered : Exponents → Exponents → List RewriteRule → List RewriteRule → Type 0
IsLettered w letter R S = AreRenamed w letter (R ++ lead_rule w letter ∷ []) S

-- the new list has the rule at the index, and around it the old rules, with the right sides of the renamings
abbrev pub HasRenamedAround : List Renaming → List Rule → List Rule → ℕ → Rule → Type 0
HasRenamedAround list old new i t =
    (D : List Rule) × AreSetBy list (rewrite_rules old) (rewrite_rules D) × (new ≡ take i D ++ t ∷ drop i D)
