-- T-cycles and waits. Assumes nothing.
use Rattle.std.specs.Prelude.{ℕ, ◌+◌, Bool, true, false, cond, ◌&&◌, Some, None, Option}
use Rattle.control.specs.Numbers.{t_cycles}
use Rattle.control.specs.declared.fields.Space.{Space}
use Rattle.control.specs.declared.fields.Space.TheVariants.{Memory, Io}
use Rattle.control.specs.declared.fields.Timing.{Timing}
use Rattle.control.specs.declared.fields.Timing.TheVariants.{Two, Three, Four}
use Rattle.registers.specs.declared.answer.Kind.{Kind}
use Rattle.registers.specs.declared.answer.Kind.TheVariants.{Read, Write, Idle, Release}
use Rattle.registers.specs.declared.manner.Manner.{Manner}
use Rattle.registers.specs.declared.program.Program.{Program}
use Rattle.registers.specs.Ports.{of_port}

-- memory takes 3 T-cycles and I/O 4 unless programmed
abbrev pub base_time : Option Timing → Space → ℕ
base_time (Some t) s = t_cycles t
base_time None Memory = 3
base_time None Io = 4

-- waits lengthen a cycle, but not a programmed 2, nor 3 in I/O
abbrev pub takes_waits : Option Timing → Space → Bool
takes_waits None s = true
takes_waits (Some Two) s = false
takes_waits (Some Three) Memory = true
takes_waits (Some Three) Io = false
takes_waits (Some Four) s = true

-- the T-cycles of a read or a write
abbrev pub time_of : Bool → Option Timing → Space → ℕ → ℕ
time_of heed t s waits = base_time t s + cond (heed && takes_waits t s) waits 0

-- the timing of a cycle: its port's. A read is at the source, a write at the destination
abbrev pub timing_of : Kind → Program → Manner → Option Timing
timing_of Read p m = of_port p.source m.a m.b
timing_of Write p m = of_port p.source m.b m.a
timing_of Idle p m = None
timing_of Release p m = None
