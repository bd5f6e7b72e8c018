-- What a memory or a device space on loan holds on loan: itself, and what it has lent. Assumes nothing.
use Rattle.std.specs.Prelude.{[], ◌∷◌}
use Rattle.std.specs.Borrow.{MutBor}
use Rattle.spaces.specs.Cells.{Frame}

module _ {S : Type 0} (frame : S → Frame) where
  -- the loan by its name, with nothing hidden, in front of the frame below
  abbrev pub lent_frame : MutBor S → Frame
  lent_frame s = record { slices = record { name = s.ghost_name; hidden = [] } ∷ (frame s.now).slices; numbers = (frame s.now).numbers }
