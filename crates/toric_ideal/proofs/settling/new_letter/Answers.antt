use Rattle.std.proofs.Common.{◌≡◌, arith, length, ap, ◌-◌}
use Rattle.toric_ideal.proofs.NewSides.{lead_there}
use Rattle.toric_ideal.proofs.settling.new_letter.Goals as goal

pub index_of-requires : goal.index_of-requires
index_of-requires c =
    let a = c.args.alphabet.now in
    let f = c.if-places-x_count.false in
    let g = c.if-places-x_count-2.false in
    let n = c.len-x_count.ensures in
    let m : length c.as_slice-places.result.now ≡ length c.args.word.now = ap length c.as_slice-places.ensures.same in
    lead_there a c.args.first c.args.leads.now c.requires.leads c.args.word.now c.requires.word (omega arith)
    (length c.as_slice-places.result.now - c.len-x_count.result - 1) (omega arith) c.index-lead.result.now c.index-lead.ensures
