use Rattle.std.proofs.Common.{◌≡◌, drop}
use Rattle.control.specs.declared.follower.Followers.TheVariants.{Zero}
use Rattle.control.specs.Tables.{table_decoded}
use Rattle.control.proofs.decode.decode_table.Given as goal

-- what is left of the table gives the answer to the whole
abbrev pub invariant-loop-place : goal.invariant-loop-place
invariant-loop-place l = table_decoded l.place l.due (drop l.place l.bytes) ≡ table_decoded 0 Zero l.bytes
