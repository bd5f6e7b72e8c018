-- The reads and writes follow from what an enabling leaves, and two boards end alike. Assumes nothing.
use Rattle.std.specs.Prelude.{◌≡◌, ◌<◌, Bool, true, false, IsTrue, List, [], ◌∷◌, ◌++◌}
use Rattle.registers.specs.declared.answer.Kind.{Kind}
use Rattle.registers.specs.declared.answer.Kind.TheVariants.{Read, Write, Idle, Release}
use Rattle.registers.specs.declared.answer.Move.{Move}
use Rattle.registers.specs.declared.program.Program.{Program}
use Rattle.registers.specs.declared.progress.Progress.{Progress}
use Rattle.registers.specs.declared.row.Loan.TheVariants.{Closed}
use Rattle.registers.specs.Calls.{State, Event, Call, write_call, table_call, status_call, open_call, cycle_call, run_call, return_call, acknowledge_call, reti_call, events, state_at_end}
use Rattle.registers.specs.Contents.{SameContents}
use Rattle.registers.specs.Numbers.{final}
use Rattle.laws.specs.Enabling.{Found, Uncontrolled}
use Rattle.laws.specs.Events.{move_of, many, is_final}

-- READS AND WRITES

-- a move that is a read or a write
abbrev pub move_if : Kind → Move → List Move
move_if Read m = m ∷ []
move_if Write m = m ∷ []
move_if Idle m = []
move_if Release m = []

-- what the reads and writes answered but for their T-cycles, in order
abbrev pub moves : List Event → List Move
moves [] = []
moves (e ∷ es) = move_if e.answer.kind (move_of e) ++ moves es

-- a move, and then the others unless it is so
abbrev pub then_unless : Bool → Move → List Move → List Move
then_unless true m ms = m ∷ []
then_unless false m ms = m ∷ ms

-- those up to the first that ends the block or stops, and with it
abbrev pub block : List Move → List Move
block [] = []
block (m ∷ ms) = then_unless (final m.mark) m (block ms)

-- counters and starts are 16-bit numbers, so that each address has its byte
pub record InRange (p : Program) (k : Progress) : Type 0 where
  pub a : k.a < 65536
  pub b : k.b < 65536
  pub start_a : p.a.start < 65536
  pub start_b : p.b.start < 65536

-- those of a board
abbrev pub InRangeIn : State → Type 0
InRangeIn s = InRange s.chip.registers.program s.chip.registers.progress

-- WHAT WAS FOUND DECIDES

-- equal programs, equal progress and equal contents; all else may differ
pub record SameFound (s t : State) : Type 0 where
  pub program : s.chip.registers.program ≡ t.chip.registers.program
  pub progress : s.chip.registers.progress ≡ t.chip.registers.progress
  pub contents : SameContents s.contents t.contents

-- whatever the calls, with or without auto restart: up to the first end or stop the reads and writes follow from what was found
abbrev pub WhatWasFoundDecides : Type 0
WhatWasFoundDecides =
    (s t : State) (cs ds : List Call) → Found s → Found t → InRangeIn s → SameFound s t → Uncontrolled cs s → Uncontrolled ds t →
    0 < many is_final (events cs s) → 0 < many is_final (events ds t) → block (moves (events cs s)) ≡ block (moves (events ds t))

-- TWO BOARDS

-- equal but for the manner: mode, timings, Ready's active level and heed waits
pub record Alike (s t : State) : Type 0 where
  pub program : s.chip.registers.program ≡ t.chip.registers.program
  pub progress : s.chip.registers.progress ≡ t.chip.registers.progress
  pub latches : s.chip.registers.latches ≡ t.chip.registers.latches
  pub service : s.chip.registers.service ≡ t.chip.registers.service
  pub sequence : s.chip.registers.sequence ≡ t.chip.registers.sequence
  pub loan : s.chip.registers.loan ≡ t.chip.registers.loan
  pub readout : s.chip.readout ≡ t.chip.readout
  pub forcing : s.chip.forcing ≡ t.chip.forcing
  pub contents : SameContents s.contents t.contents

-- a call of the buses: an open, a cycle, a run or a return
abbrev pub is_bus_call : Call → Bool
is_bus_call (write_call b) = false
is_bus_call (table_call bs) = false
is_bus_call (status_call l) = false
is_bus_call (open_call l) = true
is_bus_call (cycle_call i) = true
is_bus_call (run_call is) = true
is_bus_call return_call = true
is_bus_call (acknowledge_call l) = false
is_bus_call reti_call = false

-- only such calls
abbrev pub BusOnly : List Call → Type 0
BusOnly [] = Unit {0}
BusOnly (c ∷ cs) = IsTrue (is_bus_call c) × BusOnly cs

-- ended or stopped since the state was found, with no loan open
pub record Finished (es : List Event) (s : State) : Type 0 where
  pub final : 0 < many is_final es
  pub no_loan_open : s.chip.registers.loan ≡ Closed

-- two boards found alike, each with calls of its own of the buses alone, without auto restart, both finished:
-- they read and write the same, and end alike
abbrev pub BoardsEndAlike : Type 0
BoardsEndAlike =
    (s t : State) (cs ds : List Call) → Found s → Found t → InRangeIn s → Alike s t → s.chip.registers.program.restart ≡ false →
    BusOnly cs → BusOnly ds → Finished (events cs s) (state_at_end cs s) → Finished (events ds t) (state_at_end ds t) →
    (moves (events cs s) ≡ moves (events ds t)) × Alike (state_at_end cs s) (state_at_end ds t)
