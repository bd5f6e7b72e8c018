-- A control write and a table write: what a follower does, and what is refused, in order. Assumes nothing.
use Rattle.std.specs.Prelude.{ℕ, ◌+◌, ◌*◌, ◌/◌, ◌%◌, Bool, true, false, List, [], ◌∷◌, Some, Ok, Err, Result}
use Rattle.control.specs.Followers.{next_of}
use Rattle.control.specs.Tables.{decoded}
use Rattle.control.specs.declared.decoded.ControlByte.{ControlByte}
use Rattle.control.specs.declared.decoded.ControlByte.TheVariants as control
use Rattle.control.specs.declared.decoded.Decoded.{Decoded}
use Rattle.control.specs.declared.fault.DecodeFault.{DecodeFault}
use Rattle.control.specs.declared.fault.TableFault.{TableFault}
use Rattle.control.specs.declared.fields.Timing.{Timing}
use Rattle.control.specs.declared.follower.FollowerByte.{FollowerByte}
use Rattle.control.specs.declared.follower.FollowerByte.TheVariants as follower
use Rattle.control.specs.declared.follower.Followers.{Followers}
use Rattle.registers.specs.declared.chip.Chip.{Chip}
use Rattle.registers.specs.declared.fault.ChannelFault.{ChannelFault}
use Rattle.registers.specs.declared.fault.ChannelFault.TheVariants.{LoanOpen, Decode}
use Rattle.registers.specs.declared.manner.Manner.{Manner}
use Rattle.registers.specs.declared.program.Port.{Port}
use Rattle.registers.specs.declared.read_out.ReadOut.{ReadOut}
use Rattle.registers.specs.declared.row.Loan.{Loan}
use Rattle.registers.specs.declared.row.Loan.TheVariants.{Closed, Master, Released}
use Rattle.registers.specs.declared.row.Registers.{Registers}
use Rattle.registers.specs.Chips.{with_program, with_manner, with_registers, with_readout}
use Rattle.registers.specs.Firsts.{accepted, enabled_by, first_did, with_port_a, with_port_b, with_length, with_search, with_signals}

-- FOLLOWERS

-- the low half of a number, its high half as it was; and the other way round
abbrev pub low_as : ℕ → ℕ → ℕ
low_as b n = n / 256 * 256 + b

abbrev pub high_as : ℕ → ℕ → ℕ
high_as b n = b * 256 + n % 256

abbrev pub start_as : ℕ → Port → Port
start_as n x = record { space = x.space; rule = x.rule; start = n }

abbrev pub timed_a : Timing → Manner → Manner
timed_a t m = record { mode = m.mode; a = Some t; b = m.b; ready = m.ready; heed = m.heed }

abbrev pub timed_b : Timing → Manner → Manner
timed_b t m = record { mode = m.mode; a = m.a; b = Some t; ready = m.ready; heed = m.heed }

-- the program or the manner after a follower
abbrev pub follower_set : FollowerByte → Registers → Registers
follower_set (follower.ALow b) r = let p = r.program in with_program (with_port_a (start_as (low_as b p.a.start) p.a) p) r
follower_set (follower.AHigh b) r = let p = r.program in with_program (with_port_a (start_as (high_as b p.a.start) p.a) p) r
follower_set (follower.LengthLow b) r = let p = r.program in with_program (with_length (low_as b p.length) p) r
follower_set (follower.LengthHigh b) r = let p = r.program in with_program (with_length (high_as b p.length) p) r
follower_set (follower.ATiming t) r = with_manner (timed_a t r.manner) r
follower_set (follower.BTiming t) r = with_manner (timed_b t r.manner) r
follower_set (follower.Mask b) r = let p = r.program in with_program (with_search (record { mask = b; pattern = p.search.pattern; stop = p.search.stop }) p) r
follower_set (follower.Match b) r = let p = r.program in with_program (with_search (record { mask = p.search.mask; pattern = b; stop = p.search.stop }) p) r
follower_set (follower.BLow b) r = let p = r.program in with_program (with_port_b (start_as (low_as b p.b.start) p.b) p) r
follower_set (follower.BHigh b) r = let p = r.program in with_program (with_port_b (start_as (high_as b p.b.start) p.b) p) r
follower_set (follower.Interrupt x) r = let p = r.program in with_program (with_signals (record { control = x; pulse = p.signals.pulse; vector = p.signals.vector }) p) r
follower_set (follower.Pulse b) r = let p = r.program in with_program (with_signals (record { control = p.signals.control; pulse = b; vector = p.signals.vector }) p) r
follower_set (follower.Vector b) r = let p = r.program in with_program (with_signals (record { control = p.signals.control; pulse = p.signals.pulse; vector = b }) p) r
follower_set (follower.ReadMask b) r = r

-- the read-out after a follower: a new mask leaves the marks as they are
abbrev pub mask_set : FollowerByte → ReadOut → ReadOut
mask_set (follower.ALow b) o = o
mask_set (follower.AHigh b) o = o
mask_set (follower.LengthLow b) o = o
mask_set (follower.LengthHigh b) o = o
mask_set (follower.ATiming t) o = o
mask_set (follower.BTiming t) o = o
mask_set (follower.Mask b) o = o
mask_set (follower.Match b) o = o
mask_set (follower.BLow b) o = o
mask_set (follower.BHigh b) o = o
mask_set (follower.Interrupt x) o = o
mask_set (follower.Pulse b) o = o
mask_set (follower.Vector b) o = o
mask_set (follower.ReadMask b) o = record { mask = b; unread = o.unread }

-- the group's last byte enables where its first byte asked for it; else the byte disables, as every byte does
abbrev pub sequenced : Bool → Followers → Registers → Registers
sequenced true due r = enabled_by due r
sequenced false due r = accepted due r

abbrev pub follower_did : FollowerByte → Followers → Chip → Chip
follower_did f due x =
    with_readout (mask_set f x.readout) (with_registers (sequenced x.registers.sequence.enabling due (follower_set f x.registers)) x)

-- CONTROL WRITE

abbrev pub control_did : ControlByte → Followers → Chip → Result Chip ChannelFault
control_did (control.First f) due x = first_did f due x
control_did (control.Follower f) due x = Ok (follower_did f due x)

unfoldable pub decoded_did : Result Decoded DecodeFault → Chip → Result Chip ChannelFault
decoded_did (Ok d) x = control_did d.control d.due x
decoded_did (Err f) x = Err (Decode f)

-- refused while a loan is open; then as the byte is decoded; then as what it does
unfoldable pub write_did : Loan → ℕ → Chip → Result Chip ChannelFault
write_did Closed b x = decoded_did (decoded x.registers.sequence.due b) x
write_did Master b x = Err LoanOpen
write_did Released b x = Err LoanOpen

unfoldable pub wrote : ℕ → Chip → Result Chip ChannelFault
wrote b x = write_did x.registers.loan b x

-- TABLE WRITE

-- what a call of the CPU answers, and the channel after it
pub record Done (X : Type 0) : Type 0 where
  pub answer : X
  pub chip : Chip

-- a table's byte at its place, and what comes after it: a fault has the place, what was due there, and the byte's own fault whole
unfoldable pub table_next : Result Chip ChannelFault → ℕ → (Chip → Done (Result (Unit {0}) (TableFault ChannelFault))) → Chip → Done (Result (Unit {0}) (TableFault ChannelFault))
table_next (Ok y) i rest x = rest y
table_next (Err f) i rest x = record { answer = Err (record { place = i; due = next_of x.registers.sequence.due; fault = f }); chip = x }

-- the rest of a table, from this place on; it stops at the first byte that is refused, and the bytes before it stand
unfoldable pub table_did : ℕ → List ℕ → Chip → Done (Result (Unit {0}) (TableFault ChannelFault))
table_did i [] x = record { answer = Ok tt; chip = x }
table_did i (b ∷ bs) x = table_next (wrote b x) i (λ y. table_did (i + 1) bs y) x
