use Rattle.std.proofs.Common.{◌-◌, ◌∷◌, [], length, take, drop, sym, ◌∙◌}
use Rattle.std.proofs.lemmas.Bool.Decides.{Decides-eqb}
use Rattle.std.proofs.lemmas.List.{take_rest}
use Rattle.std.proofs.lemmas.Slice.Eq.{strip_prefix_is, strip_suffix_is}
use Rattle.state_text.proofs.Parting.{nowhere, parted, parted_before, parted_behind, parted_contains}
use Rattle.state_text.proofs.line_parts.parts.Goals as goal

pub returns-in_err-at-clause-none : goal.returns-in_err-at-clause-none
returns-in_err-at-clause-none c = λ none a b h.
    nowhere c.args.mark c.args.line.now (sym c.in_err-at.was ∙ c.place_of.ensures) (parted_contains c.args.mark c.args.line.now a b h)

pub returns-in_err-before-clause-none : goal.returns-in_err-before-clause-none
returns-in_err-before-clause-none c = λ none a b h.
    let k = strip_suffix_is Decides-eqb (take c.in_ok-at.at c.args.line.now) (32 ∷ []) c.strip_suffix.result c.strip_suffix.ensures.cases in
    let never = rw c.in_err-before.was at k in
    never a (parted_before c.args.mark c.args.line.now c.in_ok-at.at c.in_ok-at.ensures a b h)

pub returns-in_err-behind-clause-none : goal.returns-in_err-behind-clause-none
returns-in_err-behind-clause-none c = λ none a b h.
    let k = strip_prefix_is Decides-eqb (take (length c.args.line.now - c.in_ok-at.at) (drop c.in_ok-at.at c.args.line.now)) (c.args.mark ∷ (32 ∷ [])) c.strip_prefix.result c.strip_prefix.ensures.cases in
    let never = rw c.in_err-behind.was at k in
    never b (take_rest c.args.line.now c.in_ok-at.at ∙ parted_behind c.args.mark c.args.line.now c.in_ok-at.at c.in_ok-at.ensures a b h)

pub returns-clause-some : goal.returns-clause-some
returns-clause-some c =
    let k = strip_suffix_is Decides-eqb (take c.in_ok-at.at c.args.line.now) (32 ∷ []) c.strip_suffix.result c.strip_suffix.ensures.cases in
    let m = strip_prefix_is Decides-eqb (take (length c.args.line.now - c.in_ok-at.at) (drop c.in_ok-at.at c.args.line.now)) (c.args.mark ∷ (32 ∷ [])) c.strip_prefix.result c.strip_prefix.ensures.cases in
    let before = rw c.in_ok-before.was at k in
    let behind = rw c.in_ok-behind.was at m in
    parted c.args.mark c.args.line.now c.in_ok-at.at c.in_ok-at.ensures c.in_ok-before.before.now c.in_ok-behind.behind.now before (sym (take_rest c.args.line.now c.in_ok-at.at) ∙ behind)
