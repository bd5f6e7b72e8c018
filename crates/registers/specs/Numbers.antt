-- What each case of an enumeration stands for. Assumes nothing.
use Rattle.std.specs.Prelude.{ℕ, Bool, true, false}
use Rattle.control.specs.Numbers.{fault_number}
use Rattle.registers.specs.declared.answer.Kind.{Kind}
use Rattle.registers.specs.declared.answer.Kind.TheVariants.{Read, Write, Idle, Release}
use Rattle.registers.specs.declared.answer.Mark.{Mark}
use Rattle.registers.specs.declared.answer.Mark.TheVariants.{Unfinished, Finished, Ended, Stopped, Both}
use Rattle.registers.specs.declared.fault.ChannelFault.{ChannelFault}
use Rattle.registers.specs.declared.fault.ChannelFault.TheVariants.{LoanOpen, Decode, LengthZero, CountAboveLength, RegisterUnread, NothingUnread, Disabled, ReadyInactive, NoLoanOpen, LetGo, StillMaster, NoRequest}
use Rattle.registers.specs.declared.row.Loan.{Loan}
use Rattle.registers.specs.declared.row.Loan.TheVariants.{Closed, Master, Released}

-- the number of each refusal
abbrev pub refusal_number : ChannelFault → ℕ
refusal_number LoanOpen = 1
refusal_number (Decode f) = fault_number f
refusal_number LengthZero = 4
refusal_number CountAboveLength = 5
refusal_number RegisterUnread = 6
refusal_number NothingUnread = 7
refusal_number Disabled = 8
refusal_number ReadyInactive = 9
refusal_number NoLoanOpen = 10
refusal_number LetGo = 11
refusal_number StillMaster = 12
refusal_number NoRequest = 13

-- the number of a mark: 0 unfinished, 1 finished, 2 ended, 3 stopped, 4 both
abbrev pub mark_number : Mark → ℕ
mark_number Unfinished = 0
mark_number Finished = 1
mark_number Ended = 2
mark_number Stopped = 3
mark_number Both = 4

-- whether a mark says that a byte is finished
abbrev pub finishes : Mark → Bool
finishes Unfinished = false
finishes Finished = true
finishes Ended = true
finishes Stopped = true
finishes Both = true

-- that the block ended
abbrev pub ends_block : Mark → Bool
ends_block Unfinished = false
ends_block Finished = false
ends_block Ended = true
ends_block Stopped = false
ends_block Both = true

-- that a match stopped the channel
abbrev pub stops : Mark → Bool
stops Unfinished = false
stops Finished = false
stops Ended = false
stops Stopped = true
stops Both = true

-- ended, stopped or both
abbrev pub final : Mark → Bool
final Unfinished = false
final Finished = false
final Ended = true
final Stopped = true
final Both = true

-- the kind of a bus cycle: read 0, write 1, idle 2, release 3
abbrev pub kind_number : Kind → ℕ
kind_number Read = 0
kind_number Write = 1
kind_number Idle = 2
kind_number Release = 3

abbrev pub is_read : Kind → Bool
is_read Read = true
is_read Write = false
is_read Idle = false
is_read Release = false

abbrev pub is_write : Kind → Bool
is_write Read = false
is_write Write = true
is_write Idle = false
is_write Release = false

-- whether a loan is open: until it is returned, whether the channel has let go or not
abbrev pub is_open : Loan → Bool
is_open Closed = false
is_open Master = true
is_open Released = true

-- whether the channel drives the buses
abbrev pub is_master : Loan → Bool
is_master Closed = false
is_master Master = true
is_master Released = false
