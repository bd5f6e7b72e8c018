-- What every list of calls keeps, the bytes it carries, and what the spaces hold after it. Assumes nothing.
use Rattle.std.specs.Prelude.{◌≡◌, ◌⊎◌, ◌↔◌, List, [], ◌∷◌, ◌++◌}
use Rattle.control.specs.declared.fields.Class.TheVariants.{Transfer, Both}
use Rattle.registers.specs.declared.answer.Kind.{Kind}
use Rattle.registers.specs.declared.answer.Kind.TheVariants.{Read, Write, Idle, Release}
use Rattle.registers.specs.declared.answer.Mark.TheVariants.{Unfinished}
use Rattle.registers.specs.declared.answer.Move.{Move}
use Rattle.registers.specs.declared.input.CycleInput.{CycleInput}
use Rattle.registers.specs.Calls.{State, Event, Call, cycle_of, events, state_at_end}
use Rattle.registers.specs.Chips.{power_on}
use Rattle.registers.specs.Contents.{Contents, byte_at, after_read, after_write}
use Rattle.registers.specs.Kept.{Kept}
use Rattle.laws.specs.Events.{move_of, transfer_reads, bytes_written, as_list, held_in}
use Rattle.laws.specs.Moments.{Moment, moments, events_in}

-- a board's registers keep what every channel keeps
abbrev pub KeptIn : State → Type 0
KeptIn s = Kept s.chip.registers

-- KEPT

-- power-on keeps it
abbrev pub PowerOnIsKept : Type 0
PowerOnIsKept = Kept power_on.registers

-- and so does every list of calls, whatever they are, recurring and refused ones too
abbrev pub CallsKeep : Type 0
CallsKeep = (s : State) (calls : List Call) → KeptIn s → KeptIn (state_at_end calls s)

-- CARRIED BYTES

-- the k-th write carries the byte of the k-th transfer read, and only a held byte is read and not yet written.
-- A byte held at the start, and at power-on there is none, comes before those read since
abbrev pub BytesAreCarried : Type 0
BytesAreCarried =
    (s : State) (calls : List Call) → KeptIn s → let es = events calls s in
    as_list (held_in s) ++ transfer_reads es ≡ bytes_written es ++ as_list (held_in (state_at_end calls s))

-- and so after every single cycle, inside runs too, with what is held then
abbrev pub BytesAreCarriedAtEachMoment : Type 0
BytesAreCarriedAtEachMoment =
    (s : State) (calls : List Call) → KeptIn s → (front back : List Moment) (m : Moment) → moments calls s ≡ front ++ (m ∷ back) →
    let es = events_in (front ++ (m ∷ [])) in as_list (held_in s) ++ transfer_reads es ≡ bytes_written es ++ as_list (held_in m.state)

-- a read finishes nothing in class transfer or both, and there alone: those are the transfer reads
abbrev pub TransferReadsAreUnfinished : Type 0
TransferReadsAreUnfinished =
    (i : CycleInput) (s : State) → (cycle_of i s).answer.kind ≡ Read →
    let c = s.chip.registers.program.class in ((cycle_of i s).answer.mark ≡ Unfinished) ↔ ((c ≡ Transfer) ⊎ (c ≡ Both))

-- READ BYTES AND CONTENTS

-- the byte of a read is the one that its space answers then
abbrev pub AnsweredBy : Kind → Move → Contents → Type 0
AnsweredBy Read m c = m.byte ≡ byte_at m.space m.address c
AnsweredBy Write m c = Unit {0}
AnsweredBy Idle m c = Unit {0}
AnsweredBy Release m c = Unit {0}

-- what a cycle makes of the contents
abbrev pub made_by : Kind → Move → Contents → Contents
made_by Read m c = after_read m.space m.address c
made_by Write m c = after_write m.space m.address m.byte c
made_by Idle m c = c
made_by Release m c = c

-- each read is answered by its space, and the reads and writes, in order, make the last contents of the first
abbrev pub Made : Contents → List Event → Contents → Type 0
Made c [] last = last ≡ c
Made c (e ∷ es) last = AnsweredBy e.answer.kind (move_of e) c × Made (made_by e.answer.kind (move_of e) c) es last

-- after any calls, memory and devices hold what the reads and writes of all cycles, in order, make of the first contents
abbrev pub CyclesMakeTheContents : Type 0
CyclesMakeTheContents = (s : State) (calls : List Call) → KeptIn s → Made s.contents (events calls s) (state_at_end calls s).contents
