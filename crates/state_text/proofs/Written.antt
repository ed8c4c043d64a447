-- What is written is the text of a state.
use Rattle.std.proofs.Common.{◌≡◌, ℕ, true, List, [], ◌++◌, length, ap, ◌∙◌, append_assoc, rules}
use Rattle.std.specs.Prelude.{codes, if◌then◌else◌, ◌==◌}
use Rattle.std.specs.Fmt.{decimal}
use Rattle.polynomials.specs.Subalgebra.{Presented}
use Rattle.poly_core.specs.declared.place_names.Names.{Names}
use Rattle.witness.specs.declared.tracked.Tracked.{Tracked}
use Rattle.completion.specs.declared.relations.Relation.{Relation}
use Rattle.completion.specs.LetterNames.{element_names, witness_names}
use Rattle.completion.specs.RelationLines.{relation_lines, relations_text}
use Rattle.state_text.specs.declared.version.Version.TheVariants.{Two}
use Rattle.state_text.specs.Parts.{whole, Parts}
use Rattle.state_text.specs.StateText.{element_lines, relation_part, text_of}

same_number : (n : ℕ) → (n == n) ≡ true
same_number n = search rules

module _ {F E : Type 0} (P : Presented E) (names : Names) (degree : ℕ) (elements : List (Tracked F E)) (relations : List (Relation F E)) where
  abbrev lines : List ℕ
  lines = element_lines P.field names (witness_names (length P.generators)) elements

  abbrev counts : List ℕ
  counts = codes "degree " ++ (decimal degree ++ (codes "\nelements " ++ (decimal (length elements) ++ codes "\n")))

  abbrev relation_text : List ℕ
  relation_text = relations_text P.field (element_names P.order.places) relations

  abbrev parts : Parts F E
  parts = whole Two degree elements relations

  last_is : relation_text ++ codes "end\n" ≡ (if length elements == length elements then relation_part P names parts else [])
  last_is = rw (same_number (length elements), same_number (length relations))
      (ap (λ x. codes "relations " ++ x) (append_assoc (decimal (length relations)) (codes "\n" ++ relation_lines P.field (element_names P.order.places) relations) (codes "end\n")))

  -- what is in front of the elements, and what is behind
  counts_are : (x : List ℕ) → counts ++ x ≡ codes "degree " ++ (decimal degree ++ (codes "\nelements " ++ (decimal (length elements) ++ (codes "\n" ++ x))))
  counts_are x =
      ap (λ y. codes "degree " ++ y)
      (append_assoc (decimal degree) (codes "\nelements " ++ (decimal (length elements) ++ codes "\n")) x ∙
      ap (λ y. decimal degree ++ (codes "\nelements " ++ y)) (append_assoc (decimal (length elements)) (codes "\n") x))

  whole_is : (head : List ℕ) → (((codes "sagbi-state 2\n" ++ (head ++ counts)) ++ lines) ++ relation_text) ++ codes "end\n" ≡ text_of P names head parts
  whole_is head =
      let first = codes "sagbi-state 2\n" ++ (head ++ counts) in
      append_assoc (first ++ lines) relation_text (codes "end\n") ∙ (append_assoc first lines (relation_text ++ codes "end\n") ∙
      ap (λ y. codes "sagbi-state 2\n" ++ y) (append_assoc head counts (lines ++ (relation_text ++ codes "end\n")) ∙
      ap (λ y. head ++ y) (counts_are (lines ++ (relation_text ++ codes "end\n")) ∙
      ap (λ y. codes "degree " ++ (decimal degree ++ (codes "\nelements " ++ (decimal (length elements) ++ (codes "\n" ++ (lines ++ y)))))) last_is)))

  -- texts that are appended one by one
  pub written : (head t u v w : List ℕ) → t ≡ codes "sagbi-state 2\n" ++ (head ++ counts) →
      (letters : Names) → letters ≡ witness_names (length P.generators) → u ≡ t ++ element_lines P.field names letters elements →
      (places : ℕ) → places ≡ P.order.places → v ≡ u ++ relations_text P.field (element_names places) relations →
      w ≡ v ++ codes "end\n" → w ≡ text_of P names head parts
  written head t u v w first letters l elements_are places n relations_are end =
      end ∙ (ap (λ x. x ++ codes "end\n") (relations_are ∙ (ap (λ m. u ++ relations_text P.field (element_names m) relations) n ∙
      ap (λ x. x ++ relation_text) (elements_are ∙ (ap (λ m. t ++ element_lines P.field names m elements) l ∙
      ap (λ x. x ++ lines) first)))) ∙ whole_is head)
