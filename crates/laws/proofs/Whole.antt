-- All calls, control bytes too: every channel stays kept, the bytes are carried, the spaces hold what was written. Assumes nothing.
use Rattle.std.proofs.Common.{◌≡◌, ℕ, ◌+◌, List, [], ◌∷◌, ◌++◌, Ok, Err, Result, refl, inr, arith}
use Rattle.control.specs.declared.fault.TableFault.{TableFault}
use Rattle.registers.specs.declared.chip.Chip.{Chip}
use Rattle.registers.specs.declared.fault.ChannelFault.{ChannelFault}
use Rattle.registers.specs.Calls.{State, Call, write_call, table_call, write_outcome, does, state_at_end}
use Rattle.registers.specs.Kept.{Kept}
use Rattle.registers.specs.Writes.{Done, wrote, table_next, table_did}
use Rattle.laws.specs.Carried.{KeptIn, Made, CallsKeep, BytesAreCarried, BytesAreCarriedAtEachMoment, CyclesMakeTheContents}
use Rattle.laws.specs.Events.{held_in}
use Rattle.laws.specs.Moments.{Moment, moments_in, moments, events_in}
use Rattle.laws.proofs.Trails.{Walk}
use Rattle.laws.proofs.Writes.{wrote_kept}
use Rattle.laws.proofs.Calls.{at_chip, call_walk, moments_have_the_events}
use Rattle.laws.proofs.Carried.{Passed, trail_made, trail_passed, made_then, passed_then, passed_bytes, passed_until}

record Whole (s : State) (ms : List Moment) (s' : State) : Type 0 where
  kept : KeptIn s'
  made : Made s.contents (events_in ms) s'.contents
  passed : Passed (held_in s) ms (held_in s')

whole : {F : Type 0} {s s' : State} {ms : List Moment} → Walk F s ms s' → Whole s ms s'
whole w = let m = trail_made w.trail in let p = trail_passed w.trail in grind arith

whole_none : {s : State} → KeptIn s → Whole s [] s
whole_none h = grind arith

whole_then : {s s' s'' : State} {ms ns : List Moment} → Whole s ms s' → Whole s' ns s'' → Whole s (ms ++ ns) s''
whole_then k l = grind (arith, made_then, passed_then)

-- CONTROL BYTES

byte_whole : (b : ℕ) (y : Chip) (s : State) → KeptIn s → wrote b s.chip ≡ Ok y → Whole s [] (at_chip y s)
byte_whole b y s h z = let w = wrote_kept b s.chip y h z in grind arith

write_whole : (b : ℕ) (v : Result Chip ChannelFault) (s : State) → KeptIn s → wrote b s.chip ≡ v → Whole s [] (write_outcome v s).state
unfolding write_outcome
write_whole b (Ok y) s h z = byte_whole b y s h z
write_whole b (Err f) s h z = whole_none h

next_whole : (b : ℕ) (v : Result Chip ChannelFault) (i : ℕ) (rest : Chip → Done (Result (Unit {0}) (TableFault ChannelFault))) (s : State) → KeptIn s → wrote b s.chip ≡ v → ((y : Chip) → Kept y.registers → Whole (at_chip y s) [] (at_chip (rest y).chip s)) → Whole s [] (at_chip (table_next v i rest s.chip).chip s)
unfolding table_next
next_whole b (Ok y) i rest s h z f = let w = byte_whole b y s h z in whole_then w (f y w.kept)
next_whole b (Err e) i rest s h z f = whole_none h

table_whole : (i : ℕ) (bs : List ℕ) (s : State) → KeptIn s → Whole s [] (at_chip (table_did i bs s.chip).chip s)
unfolding table_did
table_whole i [] s h = whole_none h
table_whole i (b ∷ bs) s h = next_whole b (wrote b s.chip) i _ s h refl (λ y k. table_whole (i + 1) bs (at_chip y s) k)

-- EVERY CALL

call_whole : (c : Call) (s : State) → KeptIn s → Whole s (moments_in c s) (does c s).state
unfolding does moments_in
call_whole (write_call b) s h = write_whole b (wrote b s.chip) s h refl
call_whole (table_call bs) s h = table_whole 0 bs s h
call_whole c s h = whole (call_walk Unit c s h (inr tt) refl)

all_whole : (cs : List Call) (s : State) → KeptIn s → Whole s (moments cs s) (state_at_end cs s)
unfolding moments state_at_end
all_whole [] s h = whole_none h
all_whole (c ∷ cs) s h = let k = call_whole c s h in whole_then k (all_whole cs (does c s).state k.kept)

-- THE LAWS

pub calls_keep : CallsKeep
calls_keep s cs h = (all_whole cs s h).kept

pub bytes_are_carried : BytesAreCarried
bytes_are_carried s cs h = rw (moments_have_the_events s cs) at (passed_bytes (moments cs s) _ _ (all_whole cs s h).passed)

pub bytes_are_carried_at_each_moment : BytesAreCarriedAtEachMoment
bytes_are_carried_at_each_moment s cs h front back m e =
    passed_bytes (front ++ (m ∷ [])) _ _ (passed_until front back m _ _ (rw e at (all_whole cs s h).passed))

pub cycles_make_the_contents : CyclesMakeTheContents
cycles_make_the_contents s cs h = rw (moments_have_the_events s cs) at (all_whole cs s h).made
