-- What each device space of the crate means. A layer's meaning takes those of what is below it. Assumes nothing.
use Rattle.std.specs.Prelude.{ℕ, List, [], ◌∷◌, drop, None, Option, slice_index, slice_index_or}
use Rattle.ring.specs.Kept.{kept, depth}
use Rattle.std.specs.Option.{option_to_list}
use Rattle.spaces.specs.Cells.{Frame, no_frame, numbered}
use Rattle.spaces.specs.Ports.{Port, only, shared}
use Rattle.spaces.specs.declared.device.label_reader.LabelReader.{LabelReader}
use Rattle.spaces.specs.declared.device.chute_record.ChuteRecord.{ChuteRecord}
use Rattle.spaces.specs.declared.device.latch_bank.LatchBank.{LatchBank}
use Rattle.spaces.specs.declared.split.Split.{Split}

-- a port at which the bytes xs wait
abbrev pub source : List ℕ → Port
source xs = record { waiting = xs; rest = 255; kept = []; depth = 0 }

-- a port that keeps the last n bytes, now xs
abbrev pub sink : ℕ → List ℕ → Port
sink n xs = record { waiting = []; rest = 255; kept = xs; depth = n }

-- each port with its own rest byte, and with the byte last written to it
abbrev pub latches : List ℕ → List (Option ℕ) → ℕ → Port
latches rests held k = record { waiting = []; rest = slice_index rests k; kept = option_to_list (slice_index_or held k None); depth = 1 }

-- the unread part of the lent slice waits at one port
abbrev pub label_reader : LabelReader → ℕ → Port
label_reader d = only d.port (source (drop d.cursor d.labels.now))

-- nothing on loan: the slice is held for reading
abbrev pub label_reader_frame : LabelReader → Frame
label_reader_frame d = numbered (d.port ∷ []) no_frame

-- one port keeps what the ring keeps
abbrev pub chute_record : ChuteRecord → ℕ → Port
chute_record d = only d.port (sink (depth d.ring) (kept d.ring))

-- the ring's slice, all of which the port shows, and the port
abbrev pub chute_record_frame : ChuteRecord → Frame
chute_record_frame d = record { slices = record { name = d.ring.slots.ghost_name; hidden = [] } ∷ []; numbers = d.port ∷ [] }

abbrev pub latch_bank : LatchBank → ℕ → Port
latch_bank d = latches d.rests d.held

module _ {L H : Type 0} (low : L → ℕ → Port) (high : H → ℕ → Port) where
  abbrev pub splits_by_port : Split L H ℕ → ℕ → Port
  splits_by_port d = shared d.border (low d.low) (high d.high)
