-- The seven read registers, the status byte and the read-out. Assumes nothing.
use Rattle.std.specs.Prelude.{ℕ, ◌+◌, ◌-◌, ◌/◌, ◌%◌, ◌^◌, Bool, true, false, cond, not, ◌||◌, List, [], ◌∷◌, Ok, Err, Result, ◌==◌, bit_and, bit_xor, slice_index}
use Rattle.control.specs.declared.fields.Level.{Level}
use Rattle.registers.specs.declared.chip.Chip.{Chip}
use Rattle.registers.specs.declared.fault.ChannelFault.{ChannelFault}
use Rattle.registers.specs.declared.fault.ChannelFault.TheVariants.{LoanOpen, NothingUnread}
use Rattle.registers.specs.declared.read_out.ReadOut.{ReadOut}
use Rattle.registers.specs.declared.row.Loan.{Loan}
use Rattle.registers.specs.declared.row.Loan.TheVariants.{Closed, Master, Released}
use Rattle.registers.specs.declared.row.Registers.{Registers}
use Rattle.registers.specs.Chips.{with_readout}
use Rattle.registers.specs.Cycles.{is_active}
use Rattle.registers.specs.Writes.{Done}

-- a bit of the status byte
abbrev pub bit : Bool → ℕ → ℕ
bit true n = n
bit false n = 0

-- D0 = 1 a byte finished, D1 = 0 Ready active at the level given, D3 = 0 a cause latched, D4 = 0 match, D5 = 0 end; other bits 0
abbrev pub status_byte : Level → Bool → Registers → ℕ
status_byte l forced r =
    bit r.latches.moved 1 + bit (not (is_active r.manner forced l)) 2 + bit (not (r.latches.causes.matched || r.latches.causes.ended)) 8
    + bit (not r.latches.matched) 16 + bit (not r.latches.ended) 32

-- the count as it is read: bytes finished less 1, or 0
abbrev pub count_shown : Registers → ℕ
count_shown r = r.progress.count - 1

-- RR0 to RR6: status, count low, high, counter A low, high, counter B low, high
abbrev pub shown : Level → Bool → Registers → List ℕ
shown l forced r =
    let n = count_shown r in let k = r.progress in
    status_byte l forced r ∷ n % 256 ∷ n / 256 ∷ k.a % 256 ∷ k.a / 256 ∷ k.b % 256 ∷ k.b / 256 ∷ []

unfoldable pub read_registers : Level → Chip → List ℕ
read_registers l x = shown l x.forcing.forced x.registers

-- whether register i is marked unread
abbrev pub is_unread : ℕ → ℕ → Bool
is_unread marks i = not (bit_and marks (2 ^ i) == 0)

-- the lowest of the seven that is unread
abbrev pub lowest : ℕ → ℕ
lowest u = cond (is_unread u 0) 0 (cond (is_unread u 1) 1 (cond (is_unread u 2) 2 (cond (is_unread u 3) 3 (cond (is_unread u 4) 4 (cond (is_unread u 5) 5 6)))))

-- a read answers the lowest unread register and unmarks it
abbrev pub read_next : Bool → List ℕ → ReadOut → Result ℕ ChannelFault
read_next true xs o = Err NothingUnread
read_next false xs o = Ok (slice_index xs (lowest o.unread))

abbrev pub unmarked : Bool → ReadOut → ReadOut
unmarked true o = o
unmarked false o = record { mask = o.mask; unread = bit_xor o.unread (2 ^ lowest o.unread) }

abbrev pub nothing_unread : ReadOut → Bool
nothing_unread o = o.unread == 0

-- a status read: refused while a loan is open, then with nothing unread
unfoldable pub status_did : Loan → Level → Chip → Done (Result ℕ ChannelFault)
status_did Closed l x = record { answer = read_next (nothing_unread x.readout) (read_registers l x) x.readout; chip = with_readout (unmarked (nothing_unread x.readout) x.readout) x }
status_did Master l x = record { answer = Err LoanOpen; chip = x }
status_did Released l x = record { answer = Err LoanOpen; chip = x }

unfoldable pub status_read : Level → Chip → Done (Result ℕ ChannelFault)
status_read l x = status_did x.registers.loan l x
