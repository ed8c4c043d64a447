-- A sample: x of degree 1, and the letters s_1 and s_2 for the leads x^2 and x^3.
use Rattle.std.specs.Prelude.{◌∷◌, List, [], Some}
use Rattle.word_laws.specs.Words.{Letters}
use Rattle.word_rewriting.specs.Rewriting.{RewriteRule}

abbrev pub square_and_cube : Letters
square_and_cube = record { degrees = 1 ∷ []; leads = (2 ∷ []) ∷ ((3 ∷ []) ∷ []) }

-- x^2 to s_1, x*s_1 to s_2, x*s_2 to s_1^2, and s_1^3 to s_2^2
abbrev pub square_rule : RewriteRule
square_rule = record { left = 2 ∷ []; right = Some (0 ∷ (1 ∷ [])) }

abbrev pub cube_rule : RewriteRule
cube_rule = record { left = 1 ∷ (1 ∷ []); right = Some (0 ∷ (0 ∷ (1 ∷ []))) }

abbrev pub fourth_rule : RewriteRule
fourth_rule = record { left = 1 ∷ (0 ∷ (1 ∷ [])); right = Some (0 ∷ (2 ∷ [])) }

abbrev pub sixth_rule : RewriteRule
sixth_rule = record { left = 0 ∷ (3 ∷ []); right = Some (0 ∷ (0 ∷ (2 ∷ []))) }

abbrev pub sample_rules : List RewriteRule
sample_rules = square_rule ∷ (cube_rule ∷ (fourth_rule ∷ (sixth_rule ∷ [])))
