use Rattle.std.proofs.Common.{◌≡◌, take, sum}
use Rattle.std.specs.Prelude.{map, filter, nat_eq, All, None}
use Rattle.completion.proofs.candidates.s_words.Given as goal

abbrev pub invariant-rules : goal.invariant-rules
invariant-rules g l = record {
  words : map (λ f. f.word) l.found.items ≡ map (λ r. r.word)
      (filter (λ r. nat_eq (sum (take l.count r.word)) 0) (take l.rule-index l.rules));
  rights : All (λ f. f.right ≡ None) l.found.items;
}
