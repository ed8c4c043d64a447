use Rattle.std.proofs.Common.{◌≡◌, ◌+◌, ◌++◌, ◌∷◌, [], ◌∙◌, sym, ap, arith, append_assoc}
use Rattle.std.specs.Prelude.{map}
use Rattle.std.specs.List.{range_with_len}
use Rattle.std.proofs.lemmas.List.FromFn.{map-range_with_len_more}
use Rattle.degree_queue.specs.DegreeQueue.{list_of}
use Rattle.completion.specs.declared.candidates.Candidate.TheVariants.{Word}
use Rattle.completion.proofs.candidates.queue_words.Goals as goal

pub words-preserved : goal.words-preserved
words-preserved c =
    let before = list_of c.args.queue.now c.args.d in
    let j = c.words.j in
    let none : 0 + j ≡ j = omega arith in
    record {
      words = c.in_ok-push_candidate.ensures.last ∙ (ap (λ cs. cs ++ Word j ∷ [])
          c.words.invariant.words ∙ (append_assoc before (map Word (range_with_len 0 j)) (Word j ∷ []) ∙
          ap (λ cs. before ++ cs) (sym (map-range_with_len_more Word 0 j j none))));
      others = λ o n. c.push_candidate.ensures.others o n ∙ c.words.invariant.others o n;
    }
