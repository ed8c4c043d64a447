use Rattle.std.proofs.Common.{◌++◌, ◌∷◌, [], arith, rules, subst, length, ◌≡◌, vec_len}
use Rattle.word_rules.specs.Sharing.{AreMarks}
use Rattle.word_rules.proofs.Marking.{last_in, less_marks, marked_inside}
use Rattle.word_rules.proofs.marks.Marks.clear.Goals as goal

pub index_mut-requires : goal.index_mut-requires
index_mut-requires c =
    let seen = c.listed.self-inside.seen in
    let rest = c.pop.new.self.items in
    let i = c.in-Some.i in
    let l = marked_inside seen.items (rest ++ i ∷ []) i (subst (AreMarks seen.items) c.in-Some.ensures.items c.listed.invariant) (last_in rest i) in
    let m : vec_len seen ≡ length seen.items = search rules in
    omega arith

pub listed-preserved : goal.listed-preserved
listed-preserved c =
    let seen = c.listed.self-inside.seen.items in
    less_marks seen c.pop.new.self.items c.in-Some.i (subst (AreMarks seen) c.in-Some.ensures.items c.listed.invariant)
