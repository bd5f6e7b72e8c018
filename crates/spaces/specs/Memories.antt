-- What each memory of the crate means, and what it holds on loan. A layer's meaning takes that of what is below it. Assumes nothing.
use Rattle.std.specs.Prelude.{ℕ, ◌-◌, [], ◌∷◌, drop}
use Rattle.spaces.specs.Cells.{Cells, Frame, numbered, ram, table, locked, parted}
use Rattle.spaces.specs.declared.memory.lent_ram.LentRam.{LentRam}
use Rattle.spaces.specs.declared.memory.boot_table.BootTable.{BootTable}
use Rattle.spaces.specs.declared.memory.lock.Lock.{Lock}
use Rattle.spaces.specs.declared.split.Split.{Split}

abbrev pub lent_ram : LentRam → Cells
lent_ram m = ram m.first m.bytes.now

-- its one slice, with what of it lies past address 65,535, and its first address
abbrev pub lent_ram_frame : LentRam → Frame
lent_ram_frame m = record { slices = record { name = m.bytes.ghost_name; hidden = drop (65536 - m.first) m.bytes.now } ∷ []; numbers = m.first ∷ [] }

abbrev pub boot_table : BootTable → Cells
boot_table m = table m.bytes

module _ {M : Type 0} (cells : M → Cells) where
  abbrev pub locks : Lock M → Cells
  locks m = locked m.first m.last (cells m.memory)

module _ {M : Type 0} (frame : M → Frame) where
  abbrev pub lock_frame : Lock M → Frame
  lock_frame m = numbered (m.first ∷ m.last ∷ []) (frame m.memory)

module _ {L H : Type 0} (low : L → Cells) (high : H → Cells) where
  abbrev pub splits : Split L H ℕ → Cells
  splits m = parted m.border (low m.low) (high m.high)
