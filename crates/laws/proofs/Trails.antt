-- Every cycle is a byte's read or write, or a pause: the trail of a list of calls. Assumes nothing.
use Rattle.std.proofs.Common.{◌≡◌, ◌≤◌, Bool, true, false, ◌⊎◌, List, [], ◌∷◌, ◌++◌, None, arith}
use Rattle.control.specs.declared.fields.Mode.{Mode}
use Rattle.control.specs.declared.fields.Space.TheVariants.{Memory}
use Rattle.registers.specs.declared.answer.Kind.{Kind}
use Rattle.registers.specs.declared.answer.Kind.TheVariants.{Idle, Release}
use Rattle.registers.specs.declared.answer.Mark.TheVariants as mark
use Rattle.registers.specs.declared.answer.Move.{Move}
use Rattle.registers.specs.declared.input.CycleInput.{CycleInput}
use Rattle.registers.specs.declared.latches.Latches.{Latches}
use Rattle.registers.specs.declared.manner.Manner.{Manner}
use Rattle.registers.specs.declared.program.Program.{Program}
use Rattle.registers.specs.declared.progress.Progress.{Progress}
use Rattle.registers.specs.declared.row.Loan.{Loan}
use Rattle.registers.specs.declared.row.Registers.{Registers}
use Rattle.registers.specs.Bytes.{Step, step, latched}
use Rattle.registers.specs.Calls.{State, cycled_state, state_on, state_after, state_after_all}
use Rattle.registers.specs.Contents.{Contents}
use Rattle.registers.specs.Cycles.{Cycled, is_active, loan_after, worked, paused, cycled}
use Rattle.registers.specs.Kept.{Holds}
use Rattle.laws.specs.Events.{move_of}
use Rattle.laws.specs.Moments.{Moment, moment_on, moment_of, moments_of}
use Rattle.laws.specs.Carried.{KeptIn}
use Rattle.laws.proofs.Steps.{Left, step_left}

-- what a byte's read and write change
pub record Course : Type 0 where
  pub progress : Progress
  pub latches : Latches
  pub contents : Contents

abbrev pub course : State → Course
course s = record { progress = s.chip.registers.progress; latches = s.chip.registers.latches; contents = s.contents }

abbrev pub step_of : Program → Course → Step
step_of p b = step p b.progress b.contents

abbrev pub next : Program → Course → Course
next p b = record { progress = (step_of p b).progress; latches = latched p (step_of p b) b.latches; contents = (step_of p b).contents }

abbrev pub relatched : Latches → Course → Course
relatched l b = record { progress = b.progress; latches = l; contents = b.contents }

-- idling and letting go
abbrev pub pause_move : Kind → Move
pause_move k = record { kind = k; space = Memory; address = 0; byte = 0; mark = mark.Unfinished; pulse = false }

abbrev pub Pauses : Move → Type 0
Pauses m = (m ≡ pause_move Idle) ⊎ (m ≡ pause_move Release)

pub record Paused (f : Bool) (n : Manner) (b : Course) (m : Moment) : Type 0 where
  pub on : b.progress.enabled ≡ true
  pub empty : b.progress.held ≡ None
  pub inactive : is_active n f m.event.input.ready ≡ false
  pub is : Pauses (move_of m.event)
  pub after : m.state.chip.registers.progress ≡ b.progress

pub record Went (p : Program) (b : Course) (m : Moment) : Type 0 where
  pub on : b.progress.enabled ≡ true
  pub in_block : b.progress.count ≤ p.length
  pub is : move_of m.event ≡ (step_of p b).move
  pub after : m.state.chip.registers.progress ≡ (step_of p b).progress

-- F: whether the latches may change in between; f: whether Ready is forced
pub data Trail (F : Type 0) (f : Bool) (n : Manner) (p : Program) : Course → List Moment → Course → Type 0 where
  here : {b : Course} → Trail F f n p b [] b
  pause : {b b' : Course} {m : Moment} {ms : List Moment} → Paused f n b m → Trail F f n p b ms b' → Trail F f n p b (m ∷ ms) b'
  go : {b b' : Course} {m : Moment} {ms : List Moment} → Went p b m → Trail F f n p (next p b) ms b' → Trail F f n p b (m ∷ ms) b'
  relatch : {b b' : Course} {ms : List Moment} → F → (l : Latches) → Trail F f n p (relatched l b) ms b' → Trail F f n p b ms b'

pub trail_then : {F : Type 0} {f : Bool} {n : Manner} {p : Program} {b b' b'' : Course} {ms ns : List Moment} → Trail F f n p b ms b' → Trail F f n p b' ns b'' → Trail F f n p b (ms ++ ns) b''
trail_then here u = u
trail_then (pause h t) u = pause h (trail_then t u)
trail_then (go h t) u = go h (trail_then t u)
trail_then (relatch f l t) u = relatch f l (trail_then t u)

abbrev pub TrailFrom : Type 0 → State → List Moment → State → Type 0
TrailFrom F s ms s' = Trail F s.chip.forcing.forced s.chip.registers.manner s.chip.registers.program (course s) ms (course s')

-- a trail, with what it keeps and what it leaves as it was
pub record Walk (F : Type 0) (s : State) (ms : List Moment) (s' : State) : Type 0 where
  pub trail : TrailFrom F s ms s'
  pub kept : KeptIn s'
  pub program : s'.chip.registers.program ≡ s.chip.registers.program
  pub manner : s'.chip.registers.manner ≡ s.chip.registers.manner
  pub forcing : s'.chip.forcing ≡ s.chip.forcing
  pub sequence : s'.chip.registers.sequence ≡ s.chip.registers.sequence
  pub service : (F → ⊥) → s'.chip.registers.service ≡ s.chip.registers.service
  pub readout : (F → ⊥) → s'.chip.readout ≡ s.chip.readout

pub stay : {F : Type 0} {s : State} → KeptIn s → Walk F s [] s
stay h = search here

pub walk_then : {F : Type 0} {s s' s'' : State} {ms ns : List Moment} → Walk F s ms s' → Walk F s' ns s'' → Walk F s (ms ++ ns) s''
walk_then w u = let t = trail_then w.trail (rw (w.program, w.manner, w.forcing) at u.trail) in grind arith

-- A CYCLE OF THE MASTER

holds_after : (d : Mode) (p : Program) (h : Step) → Left p h → Holds (loan_after d h.move.mark) h.progress
holds_after d p h l = grind arith

abbrev moment_with : CycleInput → Cycled → State → List Moment
moment_with i y s = record { event = record { input = i; answer = y.answer }; state = cycled_state y s } ∷ []

module _ (F : Type 0) (i : CycleInput) (s : State) (on : s.chip.registers.progress.enabled ≡ true) (h : KeptIn s) where
  abbrev r : Registers
  r = s.chip.registers

  abbrev CycleWalk : Cycled → Type 0
  CycleWalk y = Walk F s (moment_with i y s) (cycled_state y s)

  works : CycleWalk (worked i.waits r s.contents)
  works =
      let l = step_left r.program r.progress s.contents on (h.block on).count in
      let q = holds_after r.manner.mode r.program (step_of r.program (course s)) l in
      grind (arith, go, here)

  pauses : r.progress.held ≡ None → is_active r.manner s.chip.forcing.forced i.ready ≡ false → CycleWalk (paused r s.contents)
  pauses e a = grind (arith, pause, here)

  cycles : CycleWalk (cycled s.chip.forcing.forced i r s.contents)
  cycles = grind (arith, works, pauses)

-- A CYCLE, AND CYCLES IN A ROW

cycle_on : (F : Type 0) (n : Loan) (i : CycleInput) (s : State) → Holds n s.chip.registers.progress → KeptIn s → Walk F s (moment_on n i s) (state_on n i s)
unfolding moment_on state_on
cycle_on F n i s q h = grind (arith, here, cycles F i s)

pub cycle_walk : (F : Type 0) (i : CycleInput) (s : State) → KeptIn s → Walk F s (moment_of i s) (state_after i s)
cycle_walk F i s h = cycle_on F s.chip.registers.loan i s h.holds h

pub run_walk : (F : Type 0) (is : List CycleInput) (s : State) → KeptIn s → Walk F s (moments_of is s) (state_after_all is s)
unfolding moments_of state_after_all
run_walk F [] s h = stay h
run_walk F (i ∷ is) s h = let w = cycle_walk F i s h in walk_then w (run_walk F is (state_after i s) w.kept)
