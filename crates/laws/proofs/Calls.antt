-- Every call that accepts no control byte is a walk, and so is a list of them. Assumes nothing.
use Rattle.std.proofs.Common.{◌≡◌, ℕ, ◌+◌, ◌<◌, Bool, IsTrue, ◌⊎◌, List, [], ◌∷◌, ◌++◌, length, refl, ap, inl, inr, arith}
use Rattle.registers.specs.declared.chip.Chip.{Chip}
use Rattle.registers.specs.declared.input.CycleInput.{CycleInput}
use Rattle.registers.specs.declared.latches.Latches.{Latches}
use Rattle.registers.specs.declared.outcome.Outcome.TheVariants as outcome
use Rattle.registers.specs.declared.row.Loan.{Loan}
use Rattle.registers.specs.Calls.{State, Call, table_call, cycle_call, run_call, acknowledge_call, open_did, opened, return_did, returned, event_on, events_of, state_after, write_outcome, does, events, state_at_end}
use Rattle.registers.specs.Interrupts.{acknowledge_did, acknowledged, reti_did, returned_from}
use Rattle.registers.specs.ReadOuts.{status_did, status_read}
use Rattle.registers.specs.Writes.{table_next, table_did}
use Rattle.laws.specs.Carried.{KeptIn}
use Rattle.laws.specs.Moments.{Moment, moment_on, moments_of, moments_in, moments, events_in, MomentsHaveTheEvents}
use Rattle.laws.specs.Enabling.{bytes_accepted, TakesNone, Uncontrolled}
use Rattle.laws.specs.Boards.{is_bus_call, BusOnly}
use Rattle.laws.proofs.Trails.{here, relatch, Walk, stay, walk_then, cycle_walk, run_walk, relatched, Trail, course}

-- the board with this channel
abbrev pub at_chip : Chip → State → State
at_chip x s = record { chip = x; contents = s.contents }

-- A TABLE WHOSE BYTES ARE REFUSED

-- after a byte has been accepted, some has
some : (bs : List ℕ) (l i : ℕ) (x : Chip) → 0 < l → 0 < i → bytes_accepted l (outcome.WroteTable (table_did i bs x).answer) ≡ 0 → ⊥
unfolding table_did table_next
some [] l i x p q z = omega arith
some (b ∷ bs) l i x p q z = let h = λ (y : Chip). some bs l (i + 1) y p (omega arith) in grind arith

none : (bs : List ℕ) (x : Chip) → bytes_accepted (length bs) (outcome.WroteTable (table_did 0 bs x).answer) ≡ 0 → (table_did 0 bs x).chip ≡ x
unfolding table_did table_next
none [] x z = refl
none (b ∷ bs) x z = grind (arith, some)

-- AN ACKNOWLEDGEMENT

-- other latches: not in a call of the buses
relatch_in : (F : Type 0) → F → (l : Latches) (s : State) → Trail F s.chip.forcing.forced s.chip.registers.manner s.chip.registers.program (course s) [] (relatched l (course s))
relatch_in F f l s = relatch f l here

acknowledge_walk : (F : Type 0) → F → (n : Loan) (q : Bool) (s : State) → KeptIn s → Walk F s [] (at_chip (acknowledge_did n q s.chip).chip s)
unfolding acknowledge_did
acknowledge_walk F f n q s h = let t = λ (l : Latches). relatch_in F f l s in grind (arith, here)

-- EVERY CALL

pub call_walk : (F : Type 0) (c : Call) (s : State) → KeptIn s → IsTrue (is_bus_call c) ⊎ F → TakesNone c s → Walk F s (moments_in c s) (does c s).state
unfolding does moments_in status_read status_did opened open_did returned return_did acknowledged returned_from reti_did write_outcome
call_walk F (table_call bs) s h a z = rw (none bs s.chip z) (stay h)
call_walk F (cycle_call i) s h a z = cycle_walk F i s h
call_walk F (run_call is) s h a z = run_walk F is s h
call_walk F (acknowledge_call l) s h a z = acknowledge_walk F (grind arith) _ _ s h
call_walk F _ s h a z = grind (arith, here)

all_walk : (F : Type 0) (cs : List Call) (s : State) → KeptIn s → BusOnly cs ⊎ F → Uncontrolled cs s → Walk F s (moments cs s) (state_at_end cs s)
unfolding moments state_at_end Uncontrolled
all_walk F [] s h a u = stay h
all_walk F (c ∷ cs) s h a u =
    let w = call_walk F c s h (grind arith) u.0 in
    walk_then w (all_walk F cs (does c s).state w.kept (grind arith) u.1)

pub uncontrolled_walk : (cs : List Call) (s : State) → KeptIn s → Uncontrolled cs s → Walk Unit s (moments cs s) (state_at_end cs s)
uncontrolled_walk cs s h u = all_walk Unit cs s h (inr tt) u

pub bus_uncontrolled : (cs : List Call) (s : State) → BusOnly cs → Uncontrolled cs s
unfolding Uncontrolled does
bus_uncontrolled [] s b = tt
bus_uncontrolled (c ∷ cs) s b = (grind arith, bus_uncontrolled cs (does c s).state b.1)

pub bus_walk : (cs : List Call) (s : State) → KeptIn s → BusOnly cs → Walk ⊥ s (moments cs s) (state_at_end cs s)
bus_walk cs s h b = all_walk ⊥ cs s h (inl b) (bus_uncontrolled cs s b)

-- THE EVENTS OF THE MOMENTS

pub events_in_then : (ms ns : List Moment) → events_in (ms ++ ns) ≡ events_in ms ++ events_in ns
events_in_then [] ns = refl
events_in_then (m ∷ ms) ns = ap (λ es. m.event ∷ es) (events_in_then ms ns)

run_has : (is : List CycleInput) (s : State) → events_in (moments_of is s) ≡ events_of is s
unfolding moments_of events_of moment_on event_on
run_has [] s = refl
run_has (i ∷ is) s = grind (arith, events_in_then, run_has is (state_after i s))

call_has : (c : Call) (s : State) → events_in (moments_in c s) ≡ (does c s).events
unfolding does moments_in moment_on event_on write_outcome
call_has c s = grind (arith, run_has)

pub moments_have_the_events : MomentsHaveTheEvents
unfolding events moments
moments_have_the_events s [] = refl
moments_have_the_events s (c ∷ cs) = let h = moments_have_the_events (does c s).state cs in rw (events_in_then, call_has c s, h)
