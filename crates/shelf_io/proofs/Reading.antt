-- What was read of a file, with one chunk more.
use Rattle.std.proofs.Common.{◌≡◌, ◌+◌, ◌≤◌, ℕ, List, ◌++◌, length, length-append, Option, Some, None, refl, sym, ap, ◌∙◌, append_assoc, arith}
use Rattle.std.specs.Io.KnownBytes.{Consumes}
use Rattle.shelf_io.specs.Shelf.{IsWithin}
use Rattle.shelf_io.specs.FileShelf.{IsNearly}

pub nearly_read : (max : Option ℕ) (bytes more : List ℕ) (room : ℕ) → IsWithin max bytes
    → ((most : ℕ) → max ≡ Some most → length bytes ≤ most → length bytes + room ≤ most + 1)
    → length more ≤ room → IsNearly max (bytes ++ more)
nearly_read None bytes more room within fits le = tt
nearly_read (Some most) bytes more room within fits le =
    let both : length bytes + room ≤ most + 1 = fits most refl within in
    omega (arith, length-append bytes more, both, le)

pub consumes_then : (a b c : Option (List ℕ)) (bs cs : List ℕ) → Consumes a b bs → Consumes b c cs → Consumes a c (bs ++ cs)
consumes_then None b c bs cs p q = tt
consumes_then (Some xs) None c bs cs p q = absurd p
consumes_then (Some xs) (Some ys) None bs cs p q = absurd q
consumes_then (Some xs) (Some ys) (Some zs) bs cs p q = p ∙ ap (λ l. bs ++ l) q ∙ sym (append_assoc bs cs zs)
