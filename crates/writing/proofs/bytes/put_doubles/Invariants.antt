-- `writing::bytes::put_doubles` meets its contract. The invariant: the bytes of the doubles passed stand from `at` on. Assumes nothing.
use Rattle.std.proofs.Common.{◌≡◌, ◌+◌, ◌*◌, length}
use Rattle.writing.specs.Bytes.{doubles_bytes, Put}
use Rattle.writing.proofs.bytes.put_doubles.Given as goal

abbrev pub invariant-loop-i : goal.invariant-loop-i
invariant-loop-i l =
    (length l.out ≡ length l.initial.out) × ((l.next ≡ l.at + 8 * l.i) × Put l.initial.out l.out l.at l.next (doubles_bytes l.xs l.o l.i))
