-- A channel as a whole: its row of registers and the two records beside it; how each part is set; power-on. Assumes nothing.
use Rattle.std.specs.Prelude.{Bool, false, None}
use Rattle.control.specs.declared.fields.AddressRule.TheVariants.{Increment}
use Rattle.control.specs.declared.fields.Class.TheVariants.{Transfer}
use Rattle.control.specs.declared.fields.Level.TheVariants.{Low}
use Rattle.control.specs.declared.fields.Mode.TheVariants as mode
use Rattle.control.specs.declared.fields.PortName.TheVariants.{A}
use Rattle.control.specs.declared.fields.Space.TheVariants.{Memory}
use Rattle.control.specs.declared.follower.Followers.TheVariants.{Zero}
use Rattle.registers.specs.declared.chip.Chip.{Chip}
use Rattle.registers.specs.declared.latches.Causes.{Causes}
use Rattle.registers.specs.declared.latches.Latches.{Latches}
use Rattle.registers.specs.declared.manner.Manner.{Manner}
use Rattle.registers.specs.declared.program.Port.{Port}
use Rattle.registers.specs.declared.program.Program.{Program}
use Rattle.registers.specs.declared.progress.Progress.{Progress}
use Rattle.registers.specs.declared.read_out.ReadOut.{ReadOut}
use Rattle.registers.specs.declared.row.Loan.{Loan}
use Rattle.registers.specs.declared.row.Loan.TheVariants.{Closed}
use Rattle.registers.specs.declared.row.Registers.{Registers}
use Rattle.registers.specs.declared.row.Sequence.{Sequence}
use Rattle.registers.specs.declared.row.Service.{Service}

-- POWER-ON

abbrev pub no_causes : Causes
no_causes = record { matched = false; ended = false }

abbrev pub port_at_power_on : Port
port_at_power_on = record { space = Memory; rule = Increment; start = 0 }

abbrev pub program_at_power_on : Program
program_at_power_on = record {
  class = Transfer;
  source = A;
  a = port_at_power_on;
  b = port_at_power_on;
  length = 0;
  search = record { mask = 0; pattern = 0; stop = false };
  signals = record { control = record { on_match = false; on_end = false; pulses = false; status_in_vector = false }; pulse = 0; vector = 0 };
  restart = false;
}

-- transfer, A source, both ports incrementing memory, byte mode, Ready active low, default timing, read mask 7Fh,
-- all numbers 0, all latches off, nothing unread, no follower due, disabled
abbrev pub power_on : Chip
power_on = record {
  registers = record {
    program = program_at_power_on;
    manner = record { mode = mode.Byte; a = None; b = None; ready = Low; heed = false };
    progress = record { a = 0; b = 0; count = 0; held = None; compare = None; stopping = false; enabled = false };
    latches = record { moved = false; matched = false; ended = false; causes = no_causes };
    service = record { interrupts = false; serving = false };
    sequence = record { due = Zero; enabling = false };
    loan = Closed;
  };
  readout = record { mask = 127; unread = 0 };
  forcing = record { forced = false };
}

-- SETTING ONE PART

abbrev pub with_program : Program → Registers → Registers
with_program p r = record { program = p; manner = r.manner; progress = r.progress; latches = r.latches; service = r.service; sequence = r.sequence; loan = r.loan }

abbrev pub with_manner : Manner → Registers → Registers
with_manner m r = record { program = r.program; manner = m; progress = r.progress; latches = r.latches; service = r.service; sequence = r.sequence; loan = r.loan }

abbrev pub at_progress : Progress → Registers → Registers
at_progress k r = record { program = r.program; manner = r.manner; progress = k; latches = r.latches; service = r.service; sequence = r.sequence; loan = r.loan }

abbrev pub with_latches : Latches → Registers → Registers
with_latches l r = record { program = r.program; manner = r.manner; progress = r.progress; latches = l; service = r.service; sequence = r.sequence; loan = r.loan }

abbrev pub with_service : Service → Registers → Registers
with_service v r = record { program = r.program; manner = r.manner; progress = r.progress; latches = r.latches; service = v; sequence = r.sequence; loan = r.loan }

abbrev pub with_sequence : Sequence → Registers → Registers
with_sequence q r = record { program = r.program; manner = r.manner; progress = r.progress; latches = r.latches; service = r.service; sequence = q; loan = r.loan }

abbrev pub with_loan : Loan → Registers → Registers
with_loan n r = record { program = r.program; manner = r.manner; progress = r.progress; latches = r.latches; service = r.service; sequence = r.sequence; loan = n }

abbrev pub with_causes : Causes → Latches → Latches
with_causes x l = record { moved = l.moved; matched = l.matched; ended = l.ended; causes = x }

abbrev pub with_registers : Registers → Chip → Chip
with_registers r x = record { registers = r; readout = x.readout; forcing = x.forcing }

abbrev pub with_readout : ReadOut → Chip → Chip
with_readout o x = record { registers = x.registers; readout = o; forcing = x.forcing }

abbrev pub forced_as : Bool → Chip → Chip
forced_as b x = record { registers = x.registers; readout = x.readout; forcing = record { forced = b } }

abbrev pub enabled_as : Bool → Progress → Progress
enabled_as b k = record { a = k.a; b = k.b; count = k.count; held = k.held; compare = k.compare; stopping = k.stopping; enabled = b }
