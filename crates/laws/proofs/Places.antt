-- Where the bytes of a block are read and written, and when it is over. Assumes nothing.
use Rattle.std.proofs.Common.{◌≡◌, ℕ, ◌+◌, ◌*◌, ◌<◌, ◌≤◌, Bool, true, false, ◌⊎◌, List, [], ◌∷◌, ◌++◌, refl, subst, inl, arith}
use Rattle.registers.specs.declared.manner.Manner.{Manner}
use Rattle.registers.specs.declared.progress.Progress.{Progress}
use Rattle.registers.specs.declared.row.Registers.{Registers}
use Rattle.registers.specs.Calls.{State, Event, Call, events}
use Rattle.laws.specs.Blocks.{ComesAfter, last_byte, was_active, ReadsHaveTheirPlaces, WritesHaveTheirPlaces, OneByteEndsTheBlock, OverInTime, CyclesAreOfFourKinds}
use Rattle.laws.specs.Enabling.{Found, Uncontrolled}
use Rattle.laws.specs.Events.{move_of, one_more_if, many, reads, writes, finishes_a_byte, is_final}
use Rattle.laws.specs.Moments.{Moment, events_in}
use Rattle.laws.proofs.Trails.{Course, Trail, here, pause, go, relatch, step_of}
use Rattle.laws.proofs.Calls.{uncontrolled_walk, moments_have_the_events}
use Rattle.laws.proofs.Inside.{Inside, Past, Placed, Counted, inside_onward, past_onward}

-- EVERY MOVE OF A TRAIL IN ITS PLACE

abbrev Spot : Registers → ℕ → ℕ → ℕ → Progress → Type 0
Spot g r w i k = Inside g r w i k ⊎ Past g r w i k

abbrev AllPlaced : Registers → ℕ → ℕ → ℕ → List Event → Type 0
AllPlaced g r w i [] = Unit {0}
AllPlaced g r w i (e ∷ es) = Placed g r w i (move_of e) × AllPlaced g (one_more_if (reads e) r) (one_more_if (writes e) w) (one_more_if (finishes_a_byte e) i) es

spot_onward : (g : Registers) (r w i : ℕ) (b : Course) → Spot g r w i b.progress → b.progress.enabled ≡ true → b.progress.count ≤ g.program.length → Placed g r w i (step_of g.program b).move × Counted Spot g r w i (step_of g.program b)
spot_onward g r w i b a on n = grind (arith, inside_onward g r w i b.progress b.contents, past_onward g r w i b.progress b.contents)

trail_placed : {F : Type 0} {f : Bool} {n : Manner} (g : Registers) {b b' : Course} {ms : List Moment} (r w i : ℕ) → Spot g r w i b.progress → Trail F f n g.program b ms b' → AllPlaced g r w i (events_in ms)
trail_placed g r w i a here = tt
trail_placed g r w i a (pause h t) = grind (arith, trail_placed g r w i a t)
trail_placed g r w i a (go {b = b} h t) =
    let x = spot_onward g r w i b a h.on h.in_block in
    grind (arith, trail_placed g _ _ _ x.1 t)
trail_placed g r w i a (relatch f l t) = trail_placed g r w i a t

-- THE COUNTS BEFORE AN EVENT

shift : (t : Bool) (m n : ℕ) → m + one_more_if t n ≡ one_more_if t m + n
shift t m n = grind arith

placed_at : (g : Registers) (r w i : ℕ) (front : List Event) (e : Event) (back : List Event) → AllPlaced g r w i (front ++ (e ∷ back)) → Placed g (many reads front + r) (many writes front + w) (many finishes_a_byte front + i) (move_of e)
placed_at g r w i [] e back h = grind arith
placed_at g r w i (x ∷ front) e back h = let p = placed_at g _ _ _ front e back h.1 in grind (arith, shift)

placed_after : (g : Registers) (es front : List Event) (e : Event) → AllPlaced g 0 0 0 es → ComesAfter es front e → Placed g (many reads front) (many writes front) (many finishes_a_byte front) (move_of e)
placed_after g es front e h a = grind (arith, placed_at)

-- HOW LONG IT TAKES

still : {A B : Type 0} (t : Bool) → t ≡ false → A ⊎ (B × (t ≡ true)) → A
still t e h = grind arith

-- without an end or a stop: an active cycle reads or writes, and there is room for less than 2 × (N − M + 1) of them
in_time : (s : State) {F : Type 0} {b b' : Course} {ms : List Moment} (r w i : ℕ) → Inside s.chip.registers r w i b.progress → Trail F s.chip.forcing.forced s.chip.registers.manner s.chip.registers.program b ms b' → many is_final (events_in ms) ≡ 0 → many (was_active s) (events_in ms) + (r + w) < 2 * (last_byte s + 1)
in_time s r w i a here z = grind arith
in_time s r w i a (pause h t) z = let u = in_time s r w i a t (grind arith) in grind arith
in_time s r w i a (go {b = b} h t) z =
    let x = (inside_onward s.chip.registers r w i b.progress b.contents a h.on).1 in
    let u = in_time s _ _ _ (still _ (grind arith) x) t (grind arith) in
    grind arith
in_time s r w i a (relatch f l t) z = in_time s r w i a t z

-- THE LAWS

start : (s : State) → Found s → Inside s.chip.registers 0 0 0 s.chip.registers.progress
start s f = grind arith

all_placed : (s : State) (calls : List Call) → Found s → Uncontrolled calls s → AllPlaced s.chip.registers 0 0 0 (events calls s)
all_placed s cs f u =
    subst (AllPlaced s.chip.registers 0 0 0) (moments_have_the_events s cs) (trail_placed s.chip.registers 0 0 0 (inl (start s f)) (uncontrolled_walk cs s f.kept u).trail)

pub reads_have_their_places : ReadsHaveTheirPlaces
reads_have_their_places s cs f u front e x q n = (placed_after _ _ front e (all_placed s cs f u) x).reads q n

pub writes_have_their_places : WritesHaveTheirPlaces
writes_have_their_places s cs f u front e x q n = (placed_after _ _ front e (all_placed s cs f u) x).written q n

pub one_byte_ends_the_block : OneByteEndsTheBlock
one_byte_ends_the_block s cs f u front e x q n = (placed_after _ _ front e (all_placed s cs f u) x).ends q n

pub over_in_time : OverInTime
over_in_time s cs f u =
    let t = in_time s 0 0 0 (start s f) (uncontrolled_walk cs s f.kept u).trail in
    let e = moments_have_the_events s cs in
    grind arith

pub cycles_are_of_four_kinds : CyclesAreOfFourKinds
cycles_are_of_four_kinds [] = refl
cycles_are_of_four_kinds (e ∷ es) = grind (arith, cycles_are_of_four_kinds es)
