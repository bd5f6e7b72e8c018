-- Words for the events of a list of calls: the bytes that its cycles carried, and how many of them there are. Assumes nothing.
use Rattle.std.specs.Prelude.{ℕ, suc, Bool, true, false, not, List, [], ◌∷◌, ◌++◌, Some, None, Option}
use Rattle.registers.specs.declared.answer.Kind.{Kind}
use Rattle.registers.specs.declared.answer.Kind.TheVariants.{Read, Write, Idle, Release}
use Rattle.registers.specs.declared.answer.Mark.{Mark}
use Rattle.registers.specs.declared.answer.Move.{Move}
use Rattle.registers.specs.Calls.{Event, State}
use Rattle.registers.specs.Numbers.{finishes, final, is_read, is_write}

-- what a cycle answered but for its T-cycles
abbrev pub move_of : Event → Move
move_of e = let a = e.answer in record { kind = a.kind; space = a.space; address = a.address; byte = a.byte; mark = a.mark; pulse = a.pulse }

-- the two kinds of a pause
abbrev pub is_idle : Kind → Bool
is_idle Read = false
is_idle Write = false
is_idle Idle = true
is_idle Release = false

abbrev pub is_release : Kind → Bool
is_release Read = false
is_release Write = false
is_release Idle = false
is_release Release = true

-- THE BYTES CARRIED

-- a transfer read finishes nothing: its byte is finished by its write
abbrev pub is_transfer_read : Kind → Mark → Bool
is_transfer_read Read m = not (finishes m)
is_transfer_read Write m = false
is_transfer_read Idle m = false
is_transfer_read Release m = false

-- a byte, if so
abbrev pub if_so : Bool → ℕ → List ℕ
if_so true v = v ∷ []
if_so false v = []

-- the byte that a move reads to transfer it, if it does
abbrev pub read_in : Move → List ℕ
read_in m = if_so (is_transfer_read m.kind m.mark) m.byte

-- the byte that it writes, if it does
abbrev pub written_in : Move → List ℕ
written_in m = if_so (is_write m.kind) m.byte

-- the bytes of the transfer reads, in order
abbrev pub transfer_reads : List Event → List ℕ
transfer_reads [] = []
transfer_reads (e ∷ es) = read_in (move_of e) ++ transfer_reads es

-- the bytes of the writes, in order
abbrev pub bytes_written : List Event → List ℕ
bytes_written [] = []
bytes_written (e ∷ es) = written_in (move_of e) ++ bytes_written es

-- the byte, if there is one
abbrev pub as_list : Option ℕ → List ℕ
as_list None = []
as_list (Some v) = v ∷ []

-- the byte that a board's channel holds
abbrev pub held_in : State → Option ℕ
held_in s = s.chip.registers.progress.held

-- HOW MANY

-- one more, if so
abbrev pub one_more_if : Bool → ℕ → ℕ
one_more_if true n = suc n
one_more_if false n = n

-- how many events are so
abbrev pub many : (Event → Bool) → List Event → ℕ
many f [] = 0
many f (e ∷ es) = one_more_if (f e) (many f es)

-- each event by its answer's kind
abbrev pub reads : Event → Bool
reads e = is_read e.answer.kind

abbrev pub writes : Event → Bool
writes e = is_write e.answer.kind

abbrev pub idles : Event → Bool
idles e = is_idle e.answer.kind

abbrev pub releases : Event → Bool
releases e = is_release e.answer.kind

-- by its mark: any but unfinished
abbrev pub finishes_a_byte : Event → Bool
finishes_a_byte e = finishes e.answer.mark

-- by its mark: ended, stopped or both
abbrev pub is_final : Event → Bool
is_final e = final e.answer.mark
