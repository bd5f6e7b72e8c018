use Rattle.std.proofs.Common.{◌≡◌, ◌++◌, drop, string_bytes}
use Rattle.control.specs.declared.follower.Followers.TheVariants.{Zero}
use Rattle.listing.specs.Lines.{byte_lines}
use Rattle.listing.proofs.write.byte_lines.Given as goal

-- what is written, with the lines of the bytes that are left, is the whole
abbrev pub invariant-loop-place : goal.invariant-loop-place
invariant-loop-place l = string_bytes l.lines ++ byte_lines l.place l.due (drop l.place l.bytes) ≡ byte_lines 0 Zero l.bytes
