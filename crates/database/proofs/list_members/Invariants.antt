-- The invariant: with the rows left, the array is as it is with all of them listed.
use Prim.Native.Nat.{◌-◌, ◌<◌}
use Rattle.database.proofs.MemberLaws.{Listing}
use Rattle.database.proofs.list_members.Given as goal

abbrev pub invariant-loop-n : goal.invariant-loop-n
invariant-loop-n l = Listing l.columns l.initial.at l.initial.places l.places l.n l.at × (l.at < 65536)

abbrev pub decreases-loop-n : goal.decreases-loop-n
decreases-loop-n l = 1024 - l.n
