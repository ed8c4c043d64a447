-- Lines that are appended one by one.
use Rattle.std.proofs.Common.{ℕ, List, [], ◌∷◌, ◌++◌, refl, sym, ap, ◌∙◌, append_assoc}
use Rattle.std.proofs.lemmas.List.{append-nil}
use Rattle.word_field.specs.Field.{FieldOps}
use Rattle.monomial_order.specs.MonomialOrder.{MonomialOrder}
use Rattle.poly_core.specs.declared.presentations.Presentation.{Presentation}
use Rattle.polynomials.specs.Polynomial.{Polynomial}
use Rattle.membership.specs.declared.reply.Reply.{Reply}
use Rattle.outputs.specs.Answers.{answer_line, AreAnswers, IsAnswerTo}

module _ {F O E : Type 0} (ops : F → FieldOps E) (order : O → MonomialOrder) (p : Presentation F O E) (bound : ℕ) (S : List (Polynomial E)) where
  -- one more query is answered
  pub one_more : (queries : List (Polynomial E)) (text : List ℕ) → AreAnswers ops order p bound S queries text → (a : Polynomial E) (reply : Reply F E) →
      IsAnswerTo ops order p bound S a reply → AreAnswers ops order p bound S (queries ++ a ∷ []) (text ++ answer_line (ops p.field) p.names reply)
  one_more [] text e a reply h =
      (reply, [], h, refl, ap (λ xs. xs ++ answer_line (ops p.field) p.names reply) e ∙ sym (append-nil (answer_line (ops p.field) p.names reply)))
  one_more (b ∷ queries) text h a reply k =
      let line = answer_line (ops p.field) p.names reply in (
        h.0,
        h.1 ++ line,
        h.2,
        one_more queries h.1 h.3 a reply k,
        ap (λ xs. xs ++ line) h.4 ∙ append_assoc (answer_line (ops p.field) p.names h.0) h.1 line,
      )
