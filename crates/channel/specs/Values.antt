-- The code's values as the rules have them. Assumes nothing.
use Rattle.std.specs.Prelude.{ℕ, Ok, Err, Result}
use Rattle.control.specs.declared.fields.PortName.{PortName}
use Rattle.spaces.specs.Cells.{Cells, Frame}
use Rattle.spaces.specs.Ports.{Port}
use Rattle.registers.specs.declared.answer.Answer.{Answer}
use Rattle.registers.specs.declared.chip.Chip.{Chip}
use Rattle.registers.specs.declared.fault.ChannelFault.{ChannelFault}
use Rattle.registers.specs.declared.program.Program.{Program}
use Rattle.registers.specs.declared.progress.Progress.{Progress}
use Rattle.registers.specs.declared.row.Registers.{Registers}
use Rattle.registers.specs.Bytes.{Step}
use Rattle.registers.specs.Contents.{Contents}
use Rattle.registers.specs.Cycles.{Cycled}
use Rattle.registers.specs.Ports.{of_port, moved}
use Rattle.registers.specs.Writes.{Done}
use Rattle.channel.specs.declared.step.Step as done
use Rattle.channel.specs.declared.two_spaces.TwoSpaces.{TwoSpaces}

module _ {M D : Type 0} (cells : M → Cells) (ports : D → ℕ → Port) where
  -- what the two spaces hold between them
  abbrev pub contents_of : TwoSpaces M D → Contents
  contents_of s = record { cells = cells s.memory; ports = ports s.devices }

module _ {M D : Type 0} (memory : M → Frame) (devices : D → Frame) where
  -- what no call alters of the one and of the other
  abbrev pub frames_of : TwoSpaces M D → Frame × Frame
  frames_of s = (memory s.memory, devices s.devices)

-- the counter of the port named is moved
abbrev pub advanced : PortName → Program → Progress → Progress
advanced n p k = record k { a = of_port n (moved p.a.rule k.a) k.a; b = of_port n k.b (moved p.b.rule k.b) }

-- a read or a write with what it leaves
abbrev pub step_of : done.Step → Progress → Contents → Step
step_of s k c = record { move = s.made; matched = s.matched; progress = k; contents = c }

-- a cycle's answer with what it leaves
abbrev pub cycled_of : Answer → Registers → Contents → Cycled
cycled_of a r c = record { answer = a; registers = r; contents = c }

-- a part's answer with the channel after it
abbrev pub done_of : Result (Unit {0}) ChannelFault → Chip → Done (Result (Unit {0}) ChannelFault)
done_of a x = record { answer = a; chip = x }

-- what a byte leaves of the channel x: a refusal changes nothing
abbrev pub answered : Result Chip ChannelFault → Chip → Done (Result (Unit {0}) ChannelFault)
answered (Ok y) x = done_of (Ok tt) y
answered (Err f) x = done_of (Err f) x
