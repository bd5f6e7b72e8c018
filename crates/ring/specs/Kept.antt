-- What a ring means: the elements that it keeps, the oldest first. Assumes nothing.
use Rattle.std.specs.Prelude.{ℕ, ◌-◌, cond, List, [], ◌++◌, length, take, drop, nat_le, slice_set}
use Rattle.ring.specs.declared.Ring.{Ring}

module _ {T : Type 0} where
  -- the last n elements of a list, or all of it where it has fewer
  abbrev pub last : ℕ → List T → List T
  last n xs = drop (length xs - n) xs

  -- what it keeps of the time before the last turn: once it has wrapped, the oldest element stands where the next goes
  abbrev pub older : Ring T → List T
  older r = cond r.wrapped (drop r.next r.slots.now) []

  -- what was pushed since the last turn
  abbrev pub newer : Ring T → List T
  newer r = take r.next r.slots.now

  -- all that it keeps, the oldest first
  abbrev pub kept : Ring T → List T
  kept r = older r ++ newer r

  -- how many it keeps at the most: one for each place of the lent slice
  abbrev pub depth : Ring T → ℕ
  depth r = length r.slots.now

  -- the lent slice once x is pushed: x stands at the next place, past the end at the first, and no other place is written
  abbrev pub slots_with : Ring T → T → List T
  slots_with r x = slice_set r.slots.now (cond (nat_le (depth r) r.next) 0 r.next) x
