-- What was found decides the reads and writes, and two boards found alike end alike. Assumes nothing.
use Rattle.std.proofs.Common.{◌≡◌, ℕ, ◌<◌, Bool, false, List, [], ◌∷◌, ◌++◌, sym, refl, ◌∙◌, arith}
use Rattle.registers.specs.declared.answer.Move.{Move}
use Rattle.registers.specs.declared.manner.Manner.{Manner}
use Rattle.registers.specs.declared.program.Program.{Program}
use Rattle.registers.specs.declared.progress.Progress.{Progress}
use Rattle.registers.specs.Bytes.{step}
use Rattle.registers.specs.Calls.{events, state_at_end}
use Rattle.registers.specs.Contents.{Contents, SameContents}
use Rattle.registers.specs.Numbers.{final}
use Rattle.laws.specs.Boards.{move_if, moves, block, InRange, WhatWasFoundDecides, BoardsEndAlike}
use Rattle.laws.specs.Events.{one_more_if, many, is_final}
use Rattle.laws.specs.Moments.{Moment, moments, events_in}
use Rattle.laws.proofs.Steps.{step_off}
use Rattle.laws.proofs.Trails.{Course, course, Trail, here, pause, go, relatch, step_of, next}
use Rattle.laws.proofs.Calls.{uncontrolled_walk, bus_uncontrolled, bus_walk, moments_have_the_events}
use Rattle.laws.proofs.Ends.{trail_off}
use Rattle.laws.proofs.Alike.{StepsAlike, step_alike}

-- THE MOVES OF A TRAIL

abbrev moves_in : List Moment → List Move
moves_in ms = moves (events_in ms)

abbrev finals : List Move → ℕ
finals [] = 0
finals (m ∷ ms) = one_more_if (final m.mark) (finals ms)

step_moves : (p : Program) (b : Course) (m : Move) (ms : List Move) → m ≡ (step_of p b).move → move_if m.kind m ++ ms ≡ m ∷ ms
step_moves p b m ms e = grind arith

-- an end or stop is seen in the reads and writes
trail_finals : {F : Type 0} {f : Bool} {n : Manner} {p : Program} {b b' : Course} {ms : List Moment} → Trail F f n p b ms b' → many is_final (events_in ms) ≡ finals (moves_in ms)
trail_finals here = refl
trail_finals (pause h t) = grind (arith, trail_finals t)
trail_finals (go h t) = grind (arith, trail_finals t)
trail_finals (relatch f l t) = trail_finals t

-- WHATEVER THE CALLS

-- reads and writes that follow from what is found
abbrev Line : Program → Progress → Contents → List Move → Type 0
Line p k c [] = Unit {0}
Line p k c (m ∷ ms) = (m ≡ (step p k c).move) × Line p (step p k c).progress (step p k c).contents ms

trail_line : {F : Type 0} {f : Bool} {n : Manner} {p : Program} {b b' : Course} {ms : List Moment} → Trail F f n p b ms b' → Line p b.progress b.contents (moves_in ms)
trail_line here = tt
trail_line (pause h t) = grind (arith, trail_line t)
trail_line (go h t) = grind (arith, step_moves, trail_line t)
trail_line (relatch f l t) = trail_line t

line_block : (p : Program) (k l : Progress) (c d : Contents) (ms ns : List Move) → InRange p k → k ≡ l → SameContents c d → Line p k c ms → Line p l d ns → 0 < finals ms → 0 < finals ns → block ms ≡ block ns
line_block p k l c d (m ∷ ms) (n ∷ ns) h q s x y f g =
    let a = step_alike p k l c d h q s in
    let i = λ (z : final m.mark ≡ false). line_block p (step p k c).progress (step p l d).progress (step p k c).contents (step p l d).contents ms ns a.in_range a.progress a.contents x.1 y.1 (grind arith) (grind arith) in
    let e : m ≡ n = cc in
    grind arith
line_block p k l c d _ _ h q s x y f g = absurd (omega arith)

pub what_was_found_decides : WhatWasFoundDecides
what_was_found_decides s t cs ds fs ft i a us ut x y =
    let w = (uncontrolled_walk cs s fs.kept us).trail in
    let v = (uncontrolled_walk ds t ft.kept ut).trail in
    let p = s.chip.registers.program in
    let second : Line p t.chip.registers.progress t.contents (moves_in (moments ds t)) = rw a.program (trail_line v) in
    rw (← moments_have_the_events s cs, ← moments_have_the_events t ds)
    (line_block p s.chip.registers.progress t.chip.registers.progress s.contents t.contents (moves_in (moments cs s)) (moves_in (moments ds t)) i a.progress a.contents
    (trail_line w) second (rw (← moments_have_the_events s cs, trail_finals w) at x) (rw (← moments_have_the_events t ds, trail_finals v) at y))

-- THE CALLS OF THE BUSES

-- the same with the latches, and where it ends
abbrev Chain : Program → Course → List Move → Course → Type 0
Chain p b [] b' = b' ≡ b
Chain p b (m ∷ ms) b' = (m ≡ (step_of p b).move) × Chain p (next p b) ms b'

trail_chain : {f : Bool} {n : Manner} {p : Program} {b b' : Course} {ms : List Moment} → Trail ⊥ f n p b ms b' → Chain p b (moves_in ms) b'
trail_chain here = refl
trail_chain (pause h t) = grind (arith, trail_chain t)
trail_chain (go h t) = grind (arith, step_moves, trail_chain t)
trail_chain (relatch f l t) = absurd f

record CoursesAlike (b d : Course) : Type 0 where
  progress : b.progress ≡ d.progress
  latches : b.latches ≡ d.latches
  contents : SameContents b.contents d.contents

next_alike : (p : Program) (b d : Course) → InRange p b.progress → CoursesAlike b d → StepsAlike p (step_of p b) (step_of p d) × CoursesAlike (next p b) (next p d)
next_alike p b d h a = grind (arith, step_alike)

-- without auto restart nothing is read or written after an end or a stop
trail_whole : {F : Type 0} {f : Bool} {n : Manner} {p : Program} {b b' : Course} {ms : List Moment} → p.restart ≡ false → Trail F f n p b ms b' → block (moves_in ms) ≡ moves_in ms
trail_whole r here = refl
trail_whole r (pause h t) = grind (arith, trail_whole r t)
trail_whole r (go h t) = grind (arith, step_moves, step_off, trail_off, trail_whole r t)
trail_whole r (relatch f l t) = trail_whole r t

-- the same reads and writes from courses alike end alike
chain_alike : (p : Program) (b d x y : Course) (ms : List Move) → InRange p b.progress → CoursesAlike b d → Chain p b ms x → Chain p d ms y → CoursesAlike x y
chain_alike p b d x y [] h a u v = grind arith
chain_alike p b d x y (m ∷ ms) h a u v = let s = next_alike p b d h a in chain_alike p (next p b) (next p d) x y ms s.0.in_range s.1 u.1 v.1

pub boards_end_alike : BoardsEndAlike
boards_end_alike s t cs ds fs ft i a r us ut x y =
    let w = bus_walk cs s fs.kept us in
    let v = bus_walk ds t ft.kept ut in
    let p = s.chip.registers.program in
    let first = trail_chain w.trail in
    let second : Chain p (course t) (moves_in (moments ds t)) (course (state_at_end ds t)) = rw a.program (trail_chain v.trail) in
    let e = moments_have_the_events s cs in
    let e' = moments_have_the_events t ds in
    let blocks = what_was_found_decides s t cs ds fs ft i (record { program = a.program; progress = a.progress; contents = a.contents }) (bus_uncontrolled cs s us) (bus_uncontrolled ds t ut) x.final y.final in
    let whole = trail_whole r w.trail in
    let whole' = trail_whole (cc) v.trail in
    let same : moves (events cs s) ≡ moves (events ds t) = cc in
    let c : CoursesAlike (course (state_at_end cs s)) (course (state_at_end ds t)) =
    chain_alike p (course s) (course t) _ _ (moves_in (moments cs s)) i (record { progress = a.progress; latches = a.latches; contents = a.contents }) first
    (rw (e, same, ← e') second)
    in (
      same,
      record {
        program = cc;
        progress = c.progress;
        latches = c.latches;
        service = w.service (λ z. z) ∙ a.service ∙ sym (v.service (λ z. z));
        sequence = cc;
        loan = cc;
        readout = w.readout (λ z. z) ∙ a.readout ∙ sym (v.readout (λ z. z));
        forcing = cc;
        contents = c.contents;
      },
    )
