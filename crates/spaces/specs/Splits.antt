-- What a split of addresses or of ports holds on loan, given what its two parts hold. Assumes nothing.
use Rattle.std.specs.Prelude.{ℕ, [], ◌∷◌}
use Rattle.spaces.specs.Cells.{Frame, numbered, joined}
use Rattle.spaces.specs.declared.split.Split.{Split}

module _ {L H : Type 0} (low : L → Frame) (high : H → Frame) where
  abbrev pub split_frame : Split L H ℕ → Frame
  split_frame s = numbered (s.border ∷ []) (joined (low s.low) (high s.high))
