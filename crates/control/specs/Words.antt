-- The word that a report prints for each case.
use Rattle.std.specs.Prelude.{ℕ, List, codes}
use Rattle.control.specs.declared.fields.Class.{Class}
use Rattle.control.specs.declared.fields.Class.TheVariants as class
use Rattle.control.specs.declared.fields.PortName.{PortName}
use Rattle.control.specs.declared.fields.PortName.TheVariants as port
use Rattle.control.specs.declared.fields.Space.{Space}
use Rattle.control.specs.declared.fields.Space.TheVariants as space
use Rattle.control.specs.declared.fields.AddressRule.{AddressRule}
use Rattle.control.specs.declared.fields.AddressRule.TheVariants as rule
use Rattle.control.specs.declared.fields.Mode.{Mode}
use Rattle.control.specs.declared.fields.Mode.TheVariants as mode
use Rattle.control.specs.declared.fields.Level.{Level}
use Rattle.control.specs.declared.fields.Level.TheVariants as level
use Rattle.control.specs.declared.first.Group.{Group}
use Rattle.control.specs.declared.first.Group.TheVariants as group
use Rattle.control.specs.declared.first.Command.{Command}
use Rattle.control.specs.declared.first.Command.TheVariants as command
use Rattle.control.specs.declared.follower.Follower.{Follower}
use Rattle.control.specs.declared.follower.Follower.TheVariants as follower

-- what a channel does with the bytes of a block
abbrev pub class_word : Class → List ℕ
class_word class.Transfer = codes "transfer"
class_word class.Search = codes "search"
class_word class.Both = codes "both"

-- a port
abbrev pub port_word : PortName → List ℕ
port_word port.A = codes "a"
port_word port.B = codes "b"

-- where a port reads or writes
abbrev pub space_word : Space → List ℕ
space_word space.Memory = codes "memory"
space_word space.Io = codes "io"

-- how a counter moves
abbrev pub rule_word : AddressRule → List ℕ
rule_word rule.Decrement = codes "decrement"
rule_word rule.Increment = codes "increment"
rule_word rule.Fixed = codes "fixed"

-- how the channel holds the buses
abbrev pub mode_word : Mode → List ℕ
mode_word mode.Byte = codes "byte"
mode_word mode.Continuous = codes "continuous"
mode_word mode.Burst = codes "burst"

-- the level of a line
abbrev pub level_word : Level → List ℕ
level_word level.Low = codes "low"
level_word level.High = codes "high"

-- a group of write registers
abbrev pub group_word : Group → List ℕ
group_word group.Wr0 = codes "WR0"
group_word group.Wr1 = codes "WR1"
group_word group.Wr2 = codes "WR2"
group_word group.Wr3 = codes "WR3"
group_word group.Wr4 = codes "WR4"
group_word group.Wr5 = codes "WR5"
group_word group.Wr6 = codes "WR6"

-- a command
abbrev pub command_word : Command → List ℕ
command_word command.PowerOn = codes "power-on"
command_word command.DefaultTimingA = codes "default-timing-a"
command_word command.DefaultTimingB = codes "default-timing-b"
command_word command.Load = codes "load"
command_word command.Continue = codes "continue"
command_word command.InterruptsOff = codes "interrupts-off"
command_word command.InterruptsOn = codes "interrupts-on"
command_word command.InterruptsReset = codes "interrupts-reset"
command_word command.Enable = codes "enable"
command_word command.Disable = codes "disable"
command_word command.ReadMask = codes "read-mask"
command_word command.StartReadOut = codes "start-read-out"
command_word command.ReadStatus = codes "read-status"
command_word command.ClearStatus = codes "clear-status"
command_word command.ForceReady = codes "force-ready"

-- a follower
abbrev pub follower_word : Follower → List ℕ
follower_word follower.ALow = codes "a-low"
follower_word follower.AHigh = codes "a-high"
follower_word follower.LengthLow = codes "length-low"
follower_word follower.LengthHigh = codes "length-high"
follower_word follower.ATiming = codes "a-timing"
follower_word follower.BTiming = codes "b-timing"
follower_word follower.Mask = codes "mask"
follower_word follower.Match = codes "match"
follower_word follower.BLow = codes "b-low"
follower_word follower.BHigh = codes "b-high"
follower_word follower.Interrupt = codes "interrupt"
follower_word follower.Pulse = codes "pulse"
follower_word follower.Vector = codes "vector"
follower_word follower.ReadMask = codes "read-mask"
