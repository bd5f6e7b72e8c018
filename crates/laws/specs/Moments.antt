-- The moments of a list of calls: each cycle's event, inside runs too, together with the board right after it. Assumes nothing.
use Rattle.std.specs.Prelude.{◌≡◌, List, [], ◌∷◌, ◌++◌}
use Rattle.registers.specs.declared.input.CycleInput.{CycleInput}
use Rattle.registers.specs.declared.row.Loan.{Loan}
use Rattle.registers.specs.declared.row.Loan.TheVariants.{Closed, Master, Released}
use Rattle.registers.specs.Calls.{State, Event, cycled_state, cycle_of, state_after, Call, write_call, table_call, status_call, open_call, cycle_call, run_call, return_call, acknowledge_call, reti_call, does, events}

-- a cycle's event, and the board right after it
pub record Moment : Type 0 where
  pub event : Event
  pub state : State

-- a cycle's moment: there is one only for a master
unfoldable pub moment_on : Loan → CycleInput → State → List Moment
moment_on Master i s = record { event = record { input = i; answer = (cycle_of i s).answer }; state = cycled_state (cycle_of i s) s } ∷ []
moment_on Released i s = []
moment_on Closed i s = []

-- of a cycle on a board
abbrev pub moment_of : CycleInput → State → List Moment
moment_of i s = moment_on s.chip.registers.loan i s

-- of cycles in a row
unfoldable pub moments_of : List CycleInput → State → List Moment
moments_of [] s = []
moments_of (i ∷ is) s = moment_of i s ++ moments_of is (state_after i s)

-- of a call: cycles and runs alone have any
unfoldable pub moments_in : Call → State → List Moment
moments_in (write_call b) s = []
moments_in (table_call bs) s = []
moments_in (status_call l) s = []
moments_in (open_call l) s = []
moments_in (cycle_call i) s = moment_of i s
moments_in (run_call is) s = moments_of is s
moments_in return_call s = []
moments_in (acknowledge_call l) s = []
moments_in reti_call s = []

-- of a list of calls, each of which starts where its forerunner ended
unfoldable pub moments : List Call → State → List Moment
moments [] s = []
moments (c ∷ cs) s = moments_in c s ++ moments cs (does c s).state

-- the events of these moments
abbrev pub events_in : List Moment → List Event
events_in [] = []
events_in (m ∷ ms) = m.event ∷ events_in ms

-- the moments have the events of the calls, all of them and in their order
abbrev pub MomentsHaveTheEvents : Type 0
MomentsHaveTheEvents = (s : State) (calls : List Call) → events_in (moments calls s) ≡ events calls s
