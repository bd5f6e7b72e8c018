-- Requests, vectors and service. Assumes nothing.
use Rattle.std.specs.Prelude.{ℕ, ◌+◌, Bool, true, false, cond, not, ◌&&◌, ◌||◌, Ok, Err, Result, bit_and, bit_or}
use Rattle.control.specs.declared.fields.Level.{Level}
use Rattle.control.specs.declared.fields.Level.TheVariants.{Low, High}
use Rattle.registers.specs.declared.chip.Chip.{Chip}
use Rattle.registers.specs.declared.fault.ChannelFault.{ChannelFault}
use Rattle.registers.specs.declared.fault.ChannelFault.TheVariants.{LoanOpen, NoRequest}
use Rattle.registers.specs.declared.latches.Causes.{Causes}
use Rattle.registers.specs.declared.row.Loan.{Loan}
use Rattle.registers.specs.declared.row.Loan.TheVariants.{Closed, Master, Released}
use Rattle.registers.specs.declared.row.Registers.{Registers}
use Rattle.registers.specs.Chips.{no_causes, with_causes, with_latches, with_service, with_registers}
use Rattle.registers.specs.ReadOuts.{bit}
use Rattle.registers.specs.Writes.{Done}

abbrev pub is_high : Level → Bool
is_high Low = false
is_high High = true

-- a request: a cause is latched, interrupts are on, none is in service and IEI is high
abbrev pub requested : Level → Registers → Bool
requested iei r = (r.latches.causes.matched || r.latches.causes.ended) && r.service.interrupts && not r.service.serving && is_high iei

-- D2 D1 of a vector with the status in it: 01 match, 10 end, 11 both
abbrev pub cause_bits : Causes → ℕ
cause_bits x = bit x.matched 2 + bit x.ended 4

abbrev pub vector_of : Registers → ℕ
vector_of r = let v = r.program.signals.vector in cond r.program.signals.control.status_in_vector (bit_or (bit_and v 0xF9) (cause_bits r.latches.causes)) v

-- an acknowledge clears the causes and begins service
abbrev pub served : Registers → Registers
served r = with_service (record { interrupts = r.service.interrupts; serving = true }) (with_latches (with_causes no_causes r.latches) r)

abbrev pub refuses : {X : Type 0} → ChannelFault → Chip → Done (Result X ChannelFault)
refuses f x = record { answer = Err f; chip = x }

-- the loan, and whether there is a request
unfoldable pub acknowledge_did : Loan → Bool → Chip → Done (Result ℕ ChannelFault)
acknowledge_did Master q x = refuses LoanOpen x
acknowledge_did Released q x = refuses LoanOpen x
acknowledge_did Closed false x = refuses NoRequest x
acknowledge_did Closed true x = record { answer = Ok (vector_of x.registers); chip = with_registers (served x.registers) x }

unfoldable pub acknowledged : Level → Chip → Done (Result ℕ ChannelFault)
acknowledged iei x = acknowledge_did x.registers.loan (requested iei x.registers) x

-- RETI ends service; without one it changes nothing
unfoldable pub reti_did : Loan → Chip → Done (Result (Unit {0}) ChannelFault)
reti_did Master x = refuses LoanOpen x
reti_did Released x = refuses LoanOpen x
reti_did Closed x = record { answer = Ok tt; chip = with_registers (with_service (record { interrupts = x.registers.service.interrupts; serving = false }) x.registers) x }

unfoldable pub returned_from : Chip → Done (Result (Unit {0}) ChannelFault)
returned_from x = reti_did x.registers.loan x
