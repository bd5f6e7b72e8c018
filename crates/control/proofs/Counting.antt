-- The counts of the first bytes, one byte further and at their end.
use Rattle.std.proofs.Common.{◌≡◌, ℕ, ◌+◌, refl, add-one}
use Rattle.control.specs.Firsts.{wr6_of, decoded_first}
use Rattle.control.specs.Counts.{census_below, tallied}

pub one_more : (n : ℕ) → census_below (n + 1) ≡ tallied (census_below n) (decoded_first n)
one_more n = rw (add-one)

pub whole : census_below 256 ≡ record { grouped = 215; bad_mode = 8; ungrouped = 41 }
unfolding wr6_of
whole = refl
