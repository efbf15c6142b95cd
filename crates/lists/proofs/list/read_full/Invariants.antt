-- `lists::list::read_full` puts no more bytes than its slice has. The invariant: what is filled so far is in the slice.
-- Assumes nothing.
use Rattle.std.proofs.Common.{◌≤◌, length}
use Rattle.lists.proofs.list.read_full.Given as goal

abbrev pub invariant-loop : goal.invariant-loop
invariant-loop g l = l.done ≤ length l.s
