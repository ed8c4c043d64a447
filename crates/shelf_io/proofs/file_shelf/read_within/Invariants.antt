use Rattle.std.proofs.Common.{◌-◌, ◌^◌, vec_len}
use Rattle.std.specs.Io.KnownBytes.{Consumes}
use Rattle.shelf_io.specs.Shelf.{IsWithin}
use Rattle.shelf_io.proofs.file_shelf.read_within.Given as goal

-- the bytes so far are a front of the file, within the limit
abbrev pub invariant-loop-bytes : goal.invariant-loop-bytes
invariant-loop-bytes g l = record {
  within : IsWithin l.max l.bytes.items;
  front : Consumes (g.F.Read.remaining l.fn.file) (g.F.Read.remaining l.file) l.bytes.items;
}

-- each turn reads a byte
abbrev pub decreases-loop-bytes : goal.decreases-loop-bytes
decreases-loop-bytes g l = 2 ^ 64 - vec_len l.bytes
