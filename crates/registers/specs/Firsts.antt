-- What an accepted first byte does, with no loan open. Assumes nothing.
use Rattle.std.specs.Prelude.{ℕ, Bool, true, false, None, Ok, Err, Result, ◌==◌, nat_lt}
use Rattle.control.specs.declared.fields.AddressRule.{AddressRule}
use Rattle.control.specs.declared.fields.Class.{Class}
use Rattle.control.specs.declared.fields.PortName.{PortName}
use Rattle.control.specs.declared.fields.Space.{Space}
use Rattle.control.specs.declared.first.Command.{Command}
use Rattle.control.specs.declared.first.Command.TheVariants as command
use Rattle.control.specs.declared.first.First.{First}
use Rattle.control.specs.declared.first.First.TheVariants as first
use Rattle.control.specs.declared.follower.Followers.{Followers}
use Rattle.control.specs.declared.follower.Followers.TheVariants.{Zero, One, Two, Three, Four}
use Rattle.registers.specs.declared.chip.Chip.{Chip}
use Rattle.registers.specs.declared.fault.ChannelFault.{ChannelFault}
use Rattle.registers.specs.declared.fault.ChannelFault.TheVariants.{LengthZero, CountAboveLength, RegisterUnread}
use Rattle.registers.specs.declared.latches.Latches.{Latches}
use Rattle.registers.specs.declared.manner.Manner.{Manner}
use Rattle.registers.specs.declared.program.Port.{Port}
use Rattle.registers.specs.declared.program.Program.{Program}
use Rattle.registers.specs.declared.program.Search.{Search}
use Rattle.registers.specs.declared.program.Signals.{Signals}
use Rattle.registers.specs.declared.row.Registers.{Registers}
use Rattle.registers.specs.Bytes.{disabled, continued, loaded}
use Rattle.registers.specs.Chips.{power_on, no_causes, with_program, with_manner, at_progress, with_latches, with_causes, with_service, with_sequence, with_registers, with_readout, forced_as, enabled_as}

-- SETTING ONE PART OF THE PROGRAM

abbrev pub with_class : Class → PortName → Program → Program
with_class c s p = record { class = c; source = s; a = p.a; b = p.b; length = p.length; search = p.search; signals = p.signals; restart = p.restart }

abbrev pub with_port_a : Port → Program → Program
with_port_a x p = record { class = p.class; source = p.source; a = x; b = p.b; length = p.length; search = p.search; signals = p.signals; restart = p.restart }

abbrev pub with_port_b : Port → Program → Program
with_port_b x p = record { class = p.class; source = p.source; a = p.a; b = x; length = p.length; search = p.search; signals = p.signals; restart = p.restart }

abbrev pub with_length : ℕ → Program → Program
with_length n p = record { class = p.class; source = p.source; a = p.a; b = p.b; length = n; search = p.search; signals = p.signals; restart = p.restart }

abbrev pub with_search : Search → Program → Program
with_search s p = record { class = p.class; source = p.source; a = p.a; b = p.b; length = p.length; search = s; signals = p.signals; restart = p.restart }

abbrev pub with_signals : Signals → Program → Program
with_signals x p = record { class = p.class; source = p.source; a = p.a; b = p.b; length = p.length; search = p.search; signals = x; restart = p.restart }

abbrev pub with_restart : Bool → Program → Program
with_restart b p = record { class = p.class; source = p.source; a = p.a; b = p.b; length = p.length; search = p.search; signals = p.signals; restart = b }

-- the port's kind: its space and rule, its start as it was
abbrev pub with_kind : Space → AddressRule → Port → Port
with_kind s u x = record { space = s; rule = u; start = x.start }

abbrev pub stop_as : Bool → Search → Search
stop_as b s = record { mask = s.mask; pattern = s.pattern; stop = b }

-- ACCEPTING

-- every accepted byte disables the channel; these followers are due after it
abbrev pub accepted : Followers → Registers → Registers
accepted due r = with_sequence (record { due = due; enabling = false }) (at_progress (disabled r.progress) r)

abbrev pub done : Followers → (Registers → Registers) → Chip → Result Chip ChannelFault
done due f x = Ok (with_registers (accepted due (f x.registers)) x)

-- ENABLING

-- enabled at once, or by the group's last byte
abbrev pub enabled_by : Followers → Registers → Registers
enabled_by Zero r = with_sequence (record { due = Zero; enabling = false }) (at_progress (enabled_as true r.progress) r)
enabled_by (One a) r = with_sequence (record { due = One a; enabling = true }) (at_progress (disabled r.progress) r)
enabled_by (Two a b) r = with_sequence (record { due = Two a b; enabling = true }) (at_progress (disabled r.progress) r)
enabled_by (Three a b c) r = with_sequence (record { due = Three a b c; enabling = true }) (at_progress (disabled r.progress) r)
enabled_by (Four a b c d) r = with_sequence (record { due = Four a b c d; enabling = true }) (at_progress (disabled r.progress) r)

-- refused with length 0, then with the count above the length
abbrev pub enables : Bool → Bool → Followers → Registers → Chip → Result Chip ChannelFault
enables true above due r x = Err LengthZero
enables false true due r x = Err CountAboveLength
enables false false due r x = Ok (with_registers (enabled_by due r) x)

abbrev pub enabling : Followers → Registers → Chip → Result Chip ChannelFault
enabling due r x = enables (r.program.length == 0) (nat_lt r.program.length r.progress.count) due r x

-- WR3: stop on match, interrupts on or off, and whether it enables
abbrev pub with_wr3 : Bool → Bool → Registers → Registers
with_wr3 stop interrupts r =
    with_service (record { interrupts = interrupts; serving = r.service.serving }) (with_program (with_search (stop_as stop r.program.search) r.program) r)

-- THE COMMANDS

-- a read-out is refused with a register unread; else these are marked unread
abbrev pub starts_read_out : Bool → ℕ → Followers → Chip → Result Chip ChannelFault
starts_read_out false marks due x = Err RegisterUnread
starts_read_out true marks due x = Ok (with_readout (record { mask = x.readout.mask; unread = marks }) (with_registers (accepted due x.registers) x))

abbrev pub timing_a : Manner → Manner
timing_a m = record { mode = m.mode; a = None; b = m.b; ready = m.ready; heed = m.heed }

abbrev pub timing_b : Manner → Manner
timing_b m = record { mode = m.mode; a = m.a; b = None; ready = m.ready; heed = m.heed }

abbrev pub status_cleared : Latches → Latches
status_cleared l = record { moved = false; matched = false; ended = false; causes = l.causes }

abbrev pub command_did : Command → Followers → Chip → Result Chip ChannelFault
command_did command.PowerOn due x = Ok power_on
command_did command.DefaultTimingA due x = done due (λ r. with_manner (timing_a r.manner) r) x
command_did command.DefaultTimingB due x = done due (λ r. with_manner (timing_b r.manner) r) x
command_did command.Load due x = done due (λ r. at_progress (loaded r.program r.progress) r) (forced_as false x)
command_did command.Continue due x = done due (λ r. at_progress (continued r.progress) r) x
command_did command.InterruptsOff due x = done due (λ r. with_service (record { interrupts = false; serving = r.service.serving }) r) x
command_did command.InterruptsOn due x = done due (λ r. with_service (record { interrupts = true; serving = r.service.serving }) r) x
command_did command.InterruptsReset due x = done due (λ r. with_service (record { interrupts = false; serving = false }) (with_latches (with_causes no_causes r.latches) r)) x
command_did command.Enable due x = enabling due x.registers x
command_did command.Disable due x = done due (λ r. r) x
command_did command.ReadMask due x = done due (λ r. r) x
command_did command.StartReadOut due x = starts_read_out (x.readout.unread == 0) x.readout.mask due x
command_did command.ReadStatus due x = starts_read_out (x.readout.unread == 0) 1 due x
command_did command.ClearStatus due x = done due (λ r. with_latches (status_cleared r.latches) r) x
command_did command.ForceReady due x = done due (λ r. r) (forced_as true x)

-- THE GROUPS

abbrev pub first_did : First → Followers → Chip → Result Chip ChannelFault
first_did (first.Wr0 c s) due x = done due (λ r. with_program (with_class c s r.program) r) x
first_did (first.Wr1 s u) due x = done due (λ r. with_program (with_port_a (with_kind s u r.program.a) r.program) r) x
first_did (first.Wr2 s u) due x = done due (λ r. with_program (with_port_b (with_kind s u r.program.b) r.program) r) x
first_did (first.Wr3 stop interrupts false) due x = done due (with_wr3 stop interrupts) x
first_did (first.Wr3 stop interrupts true) due x = enabling due (with_wr3 stop interrupts x.registers) x
first_did (first.Wr4 o) due x = done due (λ r. let m = r.manner in with_manner (record { mode = o; a = m.a; b = m.b; ready = m.ready; heed = m.heed }) r) x
first_did (first.Wr5 l heed restart) due x =
    done due (λ r. let m = r.manner in with_program (with_restart restart r.program) (with_manner (record { mode = m.mode; a = m.a; b = m.b; ready = l; heed = heed }) r)) x
first_did (first.Wr6 c) due x = command_did c due x
