-- What each case of an enumeration stands for, as a number.
use Rattle.std.specs.Prelude.{ℕ}
use Rattle.control.specs.declared.fields.Class.{Class}
use Rattle.control.specs.declared.fields.Class.TheVariants as class
use Rattle.control.specs.declared.fields.PortName.{PortName}
use Rattle.control.specs.declared.fields.PortName.TheVariants as port
use Rattle.control.specs.declared.fields.Space.{Space}
use Rattle.control.specs.declared.fields.Space.TheVariants as space
use Rattle.control.specs.declared.fields.AddressRule.{AddressRule}
use Rattle.control.specs.declared.fields.AddressRule.TheVariants as rule
use Rattle.control.specs.declared.fields.Mode.{Mode}
use Rattle.control.specs.declared.fields.Mode.TheVariants as mode
use Rattle.control.specs.declared.fields.Level.{Level}
use Rattle.control.specs.declared.fields.Level.TheVariants as level
use Rattle.control.specs.declared.fields.Timing.{Timing}
use Rattle.control.specs.declared.fields.Timing.TheVariants as timing
use Rattle.control.specs.declared.first.Group.{Group}
use Rattle.control.specs.declared.first.Group.TheVariants as group
use Rattle.control.specs.declared.first.Command.{Command}
use Rattle.control.specs.declared.first.Command.TheVariants as command
use Rattle.control.specs.declared.follower.Follower.{Follower}
use Rattle.control.specs.declared.follower.Follower.TheVariants as follower
use Rattle.control.specs.declared.fault.DecodeFault.{DecodeFault}
use Rattle.control.specs.declared.fault.DecodeFault.TheVariants as fault

-- D1 D0 of WR0
abbrev pub class_bits : Class → ℕ
class_bits class.Transfer = 1
class_bits class.Search = 2
class_bits class.Both = 3

-- D2 of WR0, which names the source
abbrev pub source_bit : PortName → ℕ
source_bit port.A = 1
source_bit port.B = 0

-- D3 of WR1 and WR2
abbrev pub space_bit : Space → ℕ
space_bit space.Memory = 0
space_bit space.Io = 1

-- D5 D4 of WR1 and WR2; 11 is fixed too
abbrev pub rule_bits : AddressRule → ℕ
rule_bits rule.Decrement = 0
rule_bits rule.Increment = 1
rule_bits rule.Fixed = 2

-- D6 D5 of WR4; 11 is not allowed
abbrev pub mode_bits : Mode → ℕ
mode_bits mode.Byte = 0
mode_bits mode.Continuous = 1
mode_bits mode.Burst = 2

-- D3 of WR5
abbrev pub level_bit : Level → ℕ
level_bit level.Low = 0
level_bit level.High = 1

-- D1 D0 of a timing byte; 11 is not allowed
abbrev pub timing_bits : Timing → ℕ
timing_bits timing.Two = 2
timing_bits timing.Three = 1
timing_bits timing.Four = 0

-- the T-cycles that a timing byte programs
abbrev pub t_cycles : Timing → ℕ
t_cycles timing.Two = 2
t_cycles timing.Three = 3
t_cycles timing.Four = 4

-- WR0 to WR6
abbrev pub group_number : Group → ℕ
group_number group.Wr0 = 0
group_number group.Wr1 = 1
group_number group.Wr2 = 2
group_number group.Wr3 = 3
group_number group.Wr4 = 4
group_number group.Wr5 = 5
group_number group.Wr6 = 6

-- the control byte of a command
abbrev pub command_code : Command → ℕ
command_code command.PowerOn = 0xC3
command_code command.DefaultTimingA = 0xC7
command_code command.DefaultTimingB = 0xCB
command_code command.Load = 0xCF
command_code command.Continue = 0xD3
command_code command.InterruptsOff = 0xAF
command_code command.InterruptsOn = 0xAB
command_code command.InterruptsReset = 0xA3
command_code command.Enable = 0x87
command_code command.Disable = 0x83
command_code command.ReadMask = 0xBB
command_code command.StartReadOut = 0xA7
command_code command.ReadStatus = 0xBF
command_code command.ClearStatus = 0x8B
command_code command.ForceReady = 0xB3

-- the followers, numbered in the order of the sheet from 0
abbrev pub follower_number : Follower → ℕ
follower_number follower.ALow = 0
follower_number follower.AHigh = 1
follower_number follower.LengthLow = 2
follower_number follower.LengthHigh = 3
follower_number follower.ATiming = 4
follower_number follower.BTiming = 5
follower_number follower.Mask = 6
follower_number follower.Match = 7
follower_number follower.BLow = 8
follower_number follower.BHigh = 9
follower_number follower.Interrupt = 10
follower_number follower.Pulse = 11
follower_number follower.Vector = 12
follower_number follower.ReadMask = 13

-- the number of a refusal
abbrev pub fault_number : DecodeFault → ℕ
fault_number fault.NoGroup = 2
fault_number fault.BadMode = 3
fault_number fault.BadTiming = 3
fault_number fault.BadInterruptControl = 3
fault_number fault.BadReadMask = 3
