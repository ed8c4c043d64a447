use Rattle.std.proofs.Common.{◌++◌, ◌≤◌, ◌≡◌, ◌+◌, ℕ, List, Some, length, take, length-take, subst, arith}
use Rattle.shelf_io.proofs.Reading.{nearly_read, consumes_then}
use Rattle.shelf_io.proofs.file_shelf.read_within.Goals as goal

pub returns-in_err-extend_from_slice-in-Ok-clause-front :
    goal.returns-in_err-extend_from_slice-in-Ok-clause-front
returns-in_err-extend_from_slice-in-Ok-clause-front g c =
    let bytes = c.loop-bytes.bytes.items in
    let more = take c.in-Ok.n c.read.new.buf in
    let room = c.room_after-room.result in
    let le : length more ≤ room = omega (arith, c.in-Ok.ensures.bound.0, c.in-Ok.ensures.bound.1, c.read.auto.buf, length-take room c.loop-bytes.chunk) in
    let fits : (most : ℕ) → c.args.max ≡ Some most → length bytes ≤ most → length bytes + room ≤ most + 1 =
    subst (λ (xs : List ℕ). (most : ℕ) → c.args.max ≡ Some most → length xs ≤ most → length xs + room ≤ most + 1) c.deref.ensures.value c.room_after-room.ensures.limit in (
      bytes ++ more,
      consumes_then _ _ _ bytes more c.loop-bytes.invariant.front c.in-Ok.ensures.bytes.0,
      nearly_read c.args.max bytes more room c.loop-bytes.invariant.within fits le,
    )
