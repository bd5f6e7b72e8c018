-- Where a block's bytes are read and written, where it ends, and when it is over. N is the length found, M the count. Assumes nothing.
use Rattle.std.specs.Prelude.{◌≡◌, ℕ, zero, suc, ◌+◌, ◌-◌, ◌*◌, ◌<◌, ◌≤◌, Bool, true, false, ◌↔◌, List, [], ◌∷◌, ◌++◌, length}
use Rattle.control.specs.declared.fields.AddressRule.{AddressRule}
use Rattle.registers.specs.declared.answer.Kind.TheVariants.{Read, Write}
use Rattle.registers.specs.declared.answer.Move.{Move}
use Rattle.registers.specs.declared.row.Registers.{Registers}
use Rattle.registers.specs.Calls.{State, Event, Call, events}
use Rattle.registers.specs.Cycles.{is_active}
use Rattle.registers.specs.Numbers.{ends_block, stops}
use Rattle.registers.specs.Ports.{moved, address_of, source_port, destination_port, source_counter, destination_counter}
use Rattle.laws.specs.Carried.{KeptIn}
use Rattle.laws.specs.Enabling.{Found, Uncontrolled}
use Rattle.laws.specs.Events.{move_of, many, reads, writes, idles, releases, finishes_a_byte, is_final}

-- a law of all events since a state was found, as long as no control byte is accepted
abbrev pub SinceFound : (State → List Event → Type 0) → Type 0
SinceFound P = (s : State) (calls : List Call) → Found s → Uncontrolled calls s → P s (events calls s)

-- of these events, e comes right after those in front
abbrev pub ComesAfter : List Event → List Event → Event → Type 0
ComesAfter es front e = (back : List Event) × (es ≡ front ++ (e ∷ back))

-- N − M: the number of the block's last byte, the first being 0
abbrev pub last_byte : State → ℕ
last_byte s = s.chip.registers.program.length - s.chip.registers.progress.count

-- PLACES

-- a counter moved i times
abbrev pub moved_times : AddressRule → ℕ → ℕ → ℕ
moved_times u zero n = n
moved_times u (suc i) n = moved u (moved_times u i n)

-- a move at the source, whose counter has moved i times since it was found
pub record AtSource (r : Registers) (i : ℕ) (m : Move) : Type 0 where
  pub space : m.space ≡ (source_port r.program).space
  pub address : m.address ≡ address_of (source_port r.program).space (moved_times (source_port r.program).rule i (source_counter r.program r.progress))

-- a move at the destination
pub record AtDestination (r : Registers) (i : ℕ) (m : Move) : Type 0 where
  pub space : m.space ≡ (destination_port r.program).space
  pub address : m.address ≡ address_of (destination_port r.program).space (moved_times (destination_port r.program).rule i (destination_counter r.program r.progress))

-- byte i, from 0 to N − M, is read at the source's counter moved i times
abbrev pub ReadsHaveTheirPlaces : Type 0
ReadsHaveTheirPlaces =
    SinceFound (λ s es. (front : List Event) (e : Event) → ComesAfter es front e →
    e.answer.kind ≡ Read → many reads front ≤ last_byte s → AtSource s.chip.registers (many reads front) (move_of e))

-- and written at the destination's counter moved i times
abbrev pub WritesHaveTheirPlaces : Type 0
WritesHaveTheirPlaces =
    SinceFound (λ s es. (front : List Event) (e : Event) → ComesAfter es front e →
    e.answer.kind ≡ Write → many writes front ≤ last_byte s → AtDestination s.chip.registers (many writes front) (move_of e))

-- ONE END

-- of the bytes from 0 to N − M, the finished byte N − M ends the block, and no other
abbrev pub OneByteEndsTheBlock : Type 0
OneByteEndsTheBlock =
    SinceFound (λ s es. (front : List Event) (e : Event) → ComesAfter es front e →
    finishes_a_byte e ≡ true → many finishes_a_byte front ≤ last_byte s → (ends_block e.answer.mark ≡ true) ↔ (many finishes_a_byte front ≡ last_byte s))

-- nothing comes after an event that is so, from any kept state on, as long as no control byte is accepted
abbrev pub ThenNothing : (State → Event → Type 0) → Type 0
ThenNothing P =
    (s : State) (calls : List Call) → KeptIn s → Uncontrolled calls s →
    (front back : List Event) (e : Event) → events calls s ≡ front ++ (e ∷ back) → P s e → back ≡ []

-- without auto restart no cycle is accepted after an end, and so no read or write
abbrev pub NothingFollowsAnEnd : Type 0
NothingFollowsAnEnd = ThenNothing (λ s e. (s.chip.registers.program.restart ≡ false) × (ends_block e.answer.mark ≡ true))

-- nor after a stop, with or without auto restart
abbrev pub NothingFollowsAStop : Type 0
NothingFollowsAStop = ThenNothing (λ _ e. stops e.answer.mark ≡ true)

-- OVER IN TIME

-- Ready was active in the cycle
abbrev pub was_active : State → Event → Bool
was_active s e = is_active s.chip.registers.manner s.chip.forcing.forced e.input.ready

-- once 2 × (N − M + 1) accepted cycles had Ready active, some answer since is marked ended, stopped or both
abbrev pub OverInTime : Type 0
OverInTime = SinceFound (λ s es. 2 * (last_byte s + 1) ≤ many (was_active s) es → 0 < many is_final es)

-- accepted cycles are reads, writes, idles and releases, each counted by its answer's kind
abbrev pub CyclesAreOfFourKinds : Type 0
CyclesAreOfFourKinds = (es : List Event) → length es ≡ many reads es + many writes es + many idles es + many releases es
