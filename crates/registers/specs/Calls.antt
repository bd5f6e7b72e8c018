-- Opening a loan, a cycle, a run and a return; every call of a board, and lists of them. Assumes nothing.
use Rattle.std.specs.Prelude.{ℕ, Bool, true, false, List, [], ◌∷◌, ◌++◌, length, Ok, Err, Result}
use Rattle.control.specs.declared.fields.Level.{Level}
use Rattle.registers.specs.declared.answer.Answer.{Answer}
use Rattle.registers.specs.declared.chip.Chip.{Chip}
use Rattle.registers.specs.declared.fault.ChannelFault.{ChannelFault}
use Rattle.registers.specs.declared.fault.ChannelFault.TheVariants.{LoanOpen, Disabled, ReadyInactive, NoLoanOpen, LetGo, StillMaster}
use Rattle.registers.specs.declared.input.CycleInput.{CycleInput}
use Rattle.registers.specs.declared.outcome.Outcome.{Outcome}
use Rattle.registers.specs.declared.outcome.Outcome.TheVariants as outcome
use Rattle.registers.specs.declared.row.Loan.{Loan}
use Rattle.registers.specs.declared.row.Loan.TheVariants.{Closed, Master, Released}
use Rattle.registers.specs.Chips.{with_loan, with_registers, power_on}
use Rattle.registers.specs.Contents.{Contents}
use Rattle.registers.specs.Cycles.{Cycled, cycled, is_active}
use Rattle.registers.specs.Interrupts.{acknowledged, returned_from, refuses}
use Rattle.registers.specs.ReadOuts.{status_read}
use Rattle.registers.specs.Writes.{Done, wrote, table_did}

-- all that a board is: its channel, and what its two spaces hold
pub record State : Type 0 where
  pub chip : Chip
  pub contents : Contents

-- LOANS

-- the loan, whether the channel is enabled, whether Ready is active
unfoldable pub open_did : Loan → Bool → Bool → Chip → Done (Result (Unit {0}) ChannelFault)
open_did Master enabled active x = refuses LoanOpen x
open_did Released enabled active x = refuses LoanOpen x
open_did Closed false active x = refuses Disabled x
open_did Closed true false x = refuses ReadyInactive x
open_did Closed true true x = record { answer = Ok tt; chip = with_registers (with_loan Master x.registers) x }

unfoldable pub opened : Level → Chip → Done (Result (Unit {0}) ChannelFault)
opened l x = let r = x.registers in open_did r.loan r.progress.enabled (is_active r.manner x.forcing.forced l) x

unfoldable pub return_did : Loan → Chip → Done (Result (Unit {0}) ChannelFault)
return_did Closed x = refuses NoLoanOpen x
return_did Master x = refuses StillMaster x
return_did Released x = record { answer = Ok tt; chip = with_registers (with_loan Closed x.registers) x }

unfoldable pub returned : Chip → Done (Result (Unit {0}) ChannelFault)
returned x = return_did x.registers.loan x

-- CYCLES

-- a cycle of the board: what it was given and what it answered
pub record Event : Type 0 where
  pub input : CycleInput
  pub answer : Answer

abbrev pub cycled_state : Cycled → State → State
cycled_state y s = record { chip = with_registers y.registers s.chip; contents = y.contents }

abbrev pub cycle_of : CycleInput → State → Cycled
cycle_of i s = cycled s.chip.forcing.forced i s.chip.registers s.contents

-- nothing happens but to a master
unfoldable pub event_on : Loan → CycleInput → State → List Event
event_on Master i s = record { input = i; answer = (cycle_of i s).answer } ∷ []
event_on Released i s = []
event_on Closed i s = []

unfoldable pub state_on : Loan → CycleInput → State → State
state_on Master i s = cycled_state (cycle_of i s) s
state_on Released i s = s
state_on Closed i s = s

abbrev pub event_of : CycleInput → State → List Event
event_of i s = event_on s.chip.registers.loan i s

abbrev pub state_after : CycleInput → State → State
state_after i s = state_on s.chip.registers.loan i s

-- cycles in a row: none comes after letting go
unfoldable pub events_of : List CycleInput → State → List Event
events_of [] s = []
events_of (i ∷ is) s = event_of i s ++ events_of is (state_after i s)

unfoldable pub state_after_all : List CycleInput → State → State
state_after_all [] s = s
state_after_all (i ∷ is) s = state_after_all is (state_after i s)

-- refused with no loan open, then once it has let go
unfoldable pub cycle_answer : Loan → CycleInput → State → Result Answer ChannelFault
cycle_answer Closed i s = Err NoLoanOpen
cycle_answer Released i s = Err LetGo
cycle_answer Master i s = Ok (cycle_of i s).answer

-- a run answers the number of cycles done
unfoldable pub run_answer : Loan → List CycleInput → State → Result ℕ ChannelFault
run_answer Closed is s = Err NoLoanOpen
run_answer Released is s = Err LetGo
run_answer Master is s = Ok (length (events_of is s))

-- EVERY CALL

pub data Call : Type 0 where
  write_call : ℕ → Call
  table_call : List ℕ → Call
  status_call : Level → Call
  open_call : Level → Call
  cycle_call : CycleInput → Call
  run_call : List CycleInput → Call
  return_call : Call
  acknowledge_call : Level → Call
  reti_call : Call

-- a call's answer, the cycles it made, and the board after it
pub record Did : Type 0 where
  pub outcome : Outcome
  pub events : List Event
  pub state : State

abbrev pub did : Outcome → Chip → State → Did
did o x s = record { outcome = o; events = []; state = record { chip = x; contents = s.contents } }

unfoldable pub write_outcome : Result Chip ChannelFault → State → Did
write_outcome (Ok y) s = did (outcome.Wrote (Ok tt)) y s
write_outcome (Err f) s = did (outcome.Wrote (Err f)) s.chip s

unfoldable pub does : Call → State → Did
does (write_call b) s = write_outcome (wrote b s.chip) s
does (table_call bs) s = let d = table_did 0 bs s.chip in did (outcome.WroteTable d.answer) d.chip s
does (status_call l) s = let d = status_read l s.chip in did (outcome.ReadStatus d.answer) d.chip s
does (open_call l) s = let d = opened l s.chip in did (outcome.Opened d.answer) d.chip s
does (cycle_call i) s = record { outcome = outcome.Cycled (cycle_answer s.chip.registers.loan i s); events = event_of i s; state = state_after i s }
does (run_call is) s = record { outcome = outcome.Ran (run_answer s.chip.registers.loan is s); events = events_of is s; state = state_after_all is s }
does return_call s = let d = returned s.chip in did (outcome.Returned d.answer) d.chip s
does (acknowledge_call l) s = let d = acknowledged l s.chip in did (outcome.Acknowledged d.answer) d.chip s
does reti_call s = let d = returned_from s.chip in did (outcome.ReturnedFromInterrupt d.answer) d.chip s

-- LISTS OF CALLS: each starts where its forerunner ended

unfoldable pub outcomes : List Call → State → List Outcome
outcomes [] s = []
outcomes (c ∷ cs) s = (does c s).outcome ∷ outcomes cs (does c s).state

unfoldable pub events : List Call → State → List Event
events [] s = []
events (c ∷ cs) s = (does c s).events ++ events cs (does c s).state

unfoldable pub state_at_end : List Call → State → State
state_at_end [] s = s
state_at_end (c ∷ cs) s = state_at_end cs (does c s).state

-- a board at power-on, with these first contents
abbrev pub powered : Contents → State
powered c = record { chip = power_on; contents = c }
