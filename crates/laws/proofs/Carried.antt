-- Along a trail: the bytes are carried, and the spaces hold what was written. Assumes nothing.
use Rattle.std.proofs.Common.{◌≡◌, ℕ, Bool, List, [], ◌∷◌, ◌++◌, Option, refl, append_assoc, append-nil, arith}
use Rattle.registers.specs.declared.answer.Move.{Move}
use Rattle.registers.specs.declared.manner.Manner.{Manner}
use Rattle.registers.specs.declared.program.Program.{Program}
use Rattle.registers.specs.declared.progress.Progress.{Progress}
use Rattle.registers.specs.Bytes.{step_on}
use Rattle.registers.specs.Contents.{Contents}
use Rattle.laws.specs.Events.{move_of, read_in, written_in, transfer_reads, bytes_written, as_list, held_in}
use Rattle.laws.specs.Moments.{Moment, events_in}
use Rattle.laws.specs.Carried.{AnsweredBy, made_by, Made}
use Rattle.laws.proofs.Steps.{Left, step_left}
use Rattle.laws.proofs.Trails.{Course, Trail, here, pause, go, relatch}

-- WHAT THE SPACES HOLD

-- a move is answered by its space, and makes these contents of those
abbrev Makes : Move → Contents → Contents → Type 0
Makes m c c' = AnsweredBy m.kind m c × (made_by m.kind m c ≡ c')

step_makes : (o : Option ℕ) (p : Program) (k : Progress) (c : Contents) → Makes (step_on o p k c).move c (step_on o p k c).contents
step_makes o p k c = grind arith

pub trail_made : {F : Type 0} {f : Bool} {n : Manner} {p : Program} {b b' : Course} {ms : List Moment} → Trail F f n p b ms b' → Made b.contents (events_in ms) b'.contents
trail_made here = refl
trail_made (pause h t) = grind (arith, trail_made t)
trail_made (go {b = b} h t) = grind (arith, step_makes, trail_made t)
trail_made (relatch f l t) = trail_made t

pub made_then : (ms ns : List Moment) (c c' c'' : Contents) → Made c (events_in ms) c' → Made c' (events_in ns) c'' → Made c (events_in (ms ++ ns)) c''
made_then [] ns c c' c'' h k = grind arith
made_then (m ∷ ms) ns c c' c'' h k = grind (arith, made_then ms ns _ c' c'' h.1 k)

-- THE BYTES CARRIED

-- a cycle passes from one held byte to another
abbrev Passes : Option ℕ → Move → Option ℕ → Type 0
Passes h m h' = as_list h ++ read_in m ≡ written_in m ++ as_list h'

abbrev pub Passed : Option ℕ → List Moment → Option ℕ → Type 0
Passed h [] h' = h' ≡ h
Passed h (m ∷ ms) h' = Passes h (move_of m.event) (held_in m.state) × Passed (held_in m.state) ms h'

step_passes : (o : Option ℕ) (p : Program) (k : Progress) (c : Contents) → Left p (step_on o p k c) → Passes o (step_on o p k c).move (step_on o p k c).progress.held
step_passes o p k c l = grind arith

pub trail_passed : {F : Type 0} {f : Bool} {n : Manner} {p : Program} {b b' : Course} {ms : List Moment} → Trail F f n p b ms b' → Passed b.progress.held ms b'.progress.held
trail_passed here = refl
trail_passed (pause h t) = grind (arith, trail_passed t)
trail_passed {p = p} (go {b = b} h t) = let l = step_left p b.progress b.contents h.on h.in_block in grind (arith, step_passes, trail_passed t)
trail_passed (relatch f l t) = trail_passed t

pub passed_then : (ms ns : List Moment) (h h' h'' : Option ℕ) → Passed h ms h' → Passed h' ns h'' → Passed h (ms ++ ns) h''
passed_then [] ns h h' h'' u v = grind arith
passed_then (m ∷ ms) ns h h' h'' u v = grind (arith, passed_then ms ns (held_in m.state) h' h'' u.1 v)

-- what is read and not written is what is held
pub passed_bytes : (ms : List Moment) (h h' : Option ℕ) → Passed h ms h' → as_list h ++ transfer_reads (events_in ms) ≡ bytes_written (events_in ms) ++ as_list h'
passed_bytes [] h h' u = grind (arith, append-nil)
passed_bytes (m ∷ ms) h h' u = let i = passed_bytes ms (held_in m.state) h' u.1 in grind (arith, append_assoc)

pub passed_until : (front back : List Moment) (m : Moment) (h h' : Option ℕ) → Passed h (front ++ (m ∷ back)) h' → Passed h (front ++ (m ∷ [])) (held_in m.state)
passed_until [] back m h h' u = (u.0, refl)
passed_until (x ∷ front) back m h h' u = (u.0, passed_until front back m (held_in x.state) h' u.1)
