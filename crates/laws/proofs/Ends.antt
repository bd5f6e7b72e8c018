-- Nothing follows an end without auto restart, nor a stop. Assumes nothing.
use Rattle.std.proofs.Common.{◌≡◌, Bool, true, false, List, [], ◌∷◌, ◌++◌, refl, ◌∙◌, arith}
use Rattle.registers.specs.declared.answer.Mark.{Mark}
use Rattle.registers.specs.declared.manner.Manner.{Manner}
use Rattle.registers.specs.declared.program.Program.{Program}
use Rattle.registers.specs.Calls.{State, Event, Call, events}
use Rattle.registers.specs.Numbers.{stops, final}
use Rattle.laws.specs.Blocks.{NothingFollowsAnEnd, NothingFollowsAStop}
use Rattle.laws.specs.Carried.{KeptIn}
use Rattle.laws.specs.Enabling.{Uncontrolled}
use Rattle.laws.specs.Moments.{Moment, events_in}
use Rattle.laws.proofs.Steps.{step_off}
use Rattle.laws.proofs.Trails.{Course, Trail, here, pause, go, relatch}
use Rattle.laws.proofs.Calls.{uncontrolled_walk, moments_have_the_events}

-- a mark that disables: final, and a stop unless there is no restart
abbrev Disables : Bool → Mark → Type 0
Disables restart m = (final m ≡ true) × (stops m ≡ false → restart ≡ false)

module _ {F : Type 0} {f : Bool} {n : Manner} {p : Program} where
  -- no cycle is accepted of a disabled channel
  pub trail_off : {b b' : Course} {ms : List Moment} → b.progress.enabled ≡ false → Trail F f n p b ms b' → events_in ms ≡ []
  trail_off z here = refl
  trail_off z (pause h t) = cc
  trail_off z (go h t) = cc
  trail_off z (relatch x l t) = trail_off z t

  trail_ends : {b b' : Course} {ms : List Moment} (front back : List Event) (e : Event) → Trail F f n p b ms b' → events_in ms ≡ front ++ (e ∷ back) → Disables p.restart e.answer.mark → back ≡ []
  trail_ends [] back e (pause {m = m} h t) q d = grind arith
  trail_ends [] back e (go h t) q d = grind (arith, step_off, trail_off)
  trail_ends (x ∷ front) back e (pause h t) q d = trail_ends front back e t (cc) d
  trail_ends (x ∷ front) back e (go h t) q d = trail_ends front back e t (cc) d
  trail_ends front back e (relatch x l t) q d = trail_ends front back e t q d
  trail_ends [] back e here q d = cc
  trail_ends (x ∷ front) back e here q d = cc

nothing_follows : (s : State) (calls : List Call) → KeptIn s → Uncontrolled calls s → (front back : List Event) (e : Event) → events calls s ≡ front ++ (e ∷ back) → Disables s.chip.registers.program.restart e.answer.mark → back ≡ []
nothing_follows s cs k u front back e q d = trail_ends front back e (uncontrolled_walk cs s k u).trail (moments_have_the_events s cs ∙ q) d

pub nothing_follows_an_end : NothingFollowsAnEnd
nothing_follows_an_end s cs k u front back e q d = nothing_follows s cs k u front back e q (grind arith)

pub nothing_follows_a_stop : NothingFollowsAStop
nothing_follows_a_stop s cs k u front back e q d = nothing_follows s cs k u front back e q (grind arith)
