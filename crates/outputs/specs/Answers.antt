-- The lines that answer queries.
use Rattle.std.specs.Prelude.{◌≡◌, ℕ, List, [], ◌∷◌, ◌++◌, codes}
use Rattle.std.specs.Fmt.{decimal}
use Rattle.word_field.specs.Field.{FieldOps}
use Rattle.monomial_order.specs.MonomialOrder.{MonomialOrder}
use Rattle.poly_core.specs.declared.place_names.Names.{Names}
use Rattle.poly_core.specs.declared.presentations.Presentation.{Presentation}
use Rattle.poly_core.specs.Presentation.{presented}
use Rattle.poly_core.specs.Text.{poly_text}
use Rattle.polynomials.specs.Polynomial.{Polynomial}
use Rattle.polynomials.specs.Subalgebra.{Presented, IsReducedBasis}
use Rattle.witness.specs.Tracking.{by_order}
use Rattle.completion.specs.LetterNames.{generator_names}
use Rattle.membership.specs.Answer.{IsAnswer, IsCanonicalReply}
use Rattle.membership.specs.declared.reply.Reply.{Reply}
use Rattle.membership.specs.declared.reply.Reply.TheVariants.{Beyond, Member, No}

-- the line of an answer
abbrev pub answer_line : {F E : Type 0} → FieldOps E → Names → Reply F E → List ℕ
answer_line K names (Beyond d) = codes "beyond " ++ (decimal d ++ codes "\n")
answer_line K names (Member h) = codes "member " ++ (poly_text K generator_names h ++ codes "\n")
answer_line K names (No r) = codes "no " ++ (poly_text K names r ++ codes "\n")

module _ {F O E : Type 0} (ops : F → FieldOps E) (order : O → MonomialOrder) (p : Presentation F O E) (bound : ℕ) where
  abbrev pub answered : Presented E
  answered = presented ops order p

  -- an answer to the query a by the basis S to the bound, in canonical form
  pub record IsAnswerTo (S : List (Polynomial E)) (a : Polynomial E) (reply : Reply F E) : Type 0 where
    pub answer : IsAnswer answered bound S a reply
    pub canonical : IsCanonicalReply answered.field answered.order (by_order p.gen_order) reply

  -- the text has a line for each query, in their order
  abbrev pub AreAnswers : List (Polynomial E) → List (Polynomial E) → List ℕ → Type 0
  AreAnswers S [] text = text ≡ []
  AreAnswers S (a ∷ queries) text =
      (reply : Reply F E) × (rest : List ℕ) × IsAnswerTo S a reply × AreAnswers S queries rest
      × (text ≡ answer_line answered.field p.names reply ++ rest)

  -- the text answers the queries by the reduced basis to the bound
  pub record IsAnswerText (queries : List (Polynomial E)) (text : List ℕ) : Type 0 where
    pub basis : List (Polynomial E)
    pub reduced : IsReducedBasis answered bound basis
    pub answers : AreAnswers basis queries text
