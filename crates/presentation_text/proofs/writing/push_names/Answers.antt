use Rattle.std.proofs.Common.{◌<◌, ◌++◌, ◌∷◌, length, refl, ap, ◌∙◌, arith}
use Rattle.presentation_text.proofs.WrittenPieces.{piece_next, spaced_tokens, name_at_place}
use Rattle.presentation_text.proofs.writing.push_names.Goals as goal

pub loop-i-preserved : goal.loop-i-preserved
loop-i-preserved c =
    let inside : c.loop-i.i < length c.args.table.now = omega arith in
    piece_next spaced_tokens (λ w. 32 ∷ w) refl (λ x xs. refl) c.args.table.now c.loop-i.i c.name.result.now c.loop-i.out.items c.push_token.new.out.items _ inside
    (name_at_place c.args.table.now c.loop-i.i c.name.result.now c.name.ensures)
    (c.in_ok-push_token.ensures ∙ ap (λ w. c.loop-i.out.items ++ (32 ∷ w)) c.as_bytes.ensures.value)
    c.loop-i.invariant
