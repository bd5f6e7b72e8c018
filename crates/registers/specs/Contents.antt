-- What a board's two spaces hold, and what a byte's read and write make of it. Assumes nothing.
use Rattle.std.specs.Prelude.{ℕ}
use Rattle.control.specs.declared.fields.Space.{Space}
use Rattle.control.specs.declared.fields.Space.TheVariants.{Memory, Io}
use Rattle.spaces.specs.Cells.{Cells, SameCells, put}
use Rattle.spaces.specs.Ports.{Port, SamePorts, answer, taken, added, with_port}

pub record Contents : Type 0 where
  pub cells : Cells
  pub ports : ℕ → Port

-- equal bytes and marks at each of the 65,536 addresses, equal lists, rest bytes and depths at each of the 256 ports, and nothing more
pub record SameContents (c d : Contents) : Type 0 where
  pub cells : SameCells c.cells d.cells
  pub ports : SamePorts c.ports d.ports

-- the byte that a space answers at an address
abbrev pub byte_at : Space → ℕ → Contents → ℕ
byte_at Memory a c = c.cells.byte a
byte_at Io a c = answer (c.ports a)

-- what a read leaves: a port gives its first waiting byte away
abbrev pub after_read : Space → ℕ → Contents → Contents
after_read Memory a c = c
after_read Io a c = record { cells = c.cells; ports = with_port c.ports a (taken (c.ports a)) }

-- what a write leaves
abbrev pub after_write : Space → ℕ → ℕ → Contents → Contents
after_write Memory a b c = record { cells = put c.cells a b; ports = c.ports }
after_write Io a b c = record { cells = c.cells; ports = with_port c.ports a (added (c.ports a) b) }
