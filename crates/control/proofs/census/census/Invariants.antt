use Rattle.std.proofs.Common.{◌≡◌}
use Rattle.control.specs.Counts.{census_below, Few}
use Rattle.control.proofs.census.census.Given as goal

abbrev pub invariant-loop-byte : goal.invariant-loop-byte
invariant-loop-byte l = (l.census ≡ census_below l.byte) × Few l.census l.byte
