-- A control byte where followers may be due, and a whole table of control bytes.
use Rattle.std.specs.Prelude.{ℕ, zero, suc, ◌+◌, List, [], ◌∷◌, Some, None, Ok, Err, Option, Result}
use Rattle.control.specs.declared.first.First.{First}
use Rattle.control.specs.declared.follower.Follower.{Follower}
use Rattle.control.specs.declared.follower.Follower.TheVariants as follower
use Rattle.control.specs.declared.follower.Followers.{Followers}
use Rattle.control.specs.declared.follower.FollowerByte.{FollowerByte}
use Rattle.control.specs.declared.decoded.ControlByte.TheVariants as control
use Rattle.control.specs.declared.decoded.Decoded.{Decoded}
use Rattle.control.specs.declared.fault.DecodeFault.{DecodeFault}
use Rattle.control.specs.declared.fault.TableFault.{TableFault}
use Rattle.control.specs.declared.table.Entry.{Entry}
use Rattle.control.specs.Firsts.{group_of, followers_of, decoded_first}
use Rattle.control.specs.Followers.{ahead, queued, next_of, rest_of, decoded_follower, interrupt_followers}

-- the entry of a first byte in the table
abbrev pub entry_of : ℕ → Entry
entry_of b = record { group = group_of b; followers = queued (followers_of b) }

-- a table of n entries by a rule, the first for the number i
abbrev pub ruled : {X : Type 0} → (ℕ → X) → ℕ → ℕ → List X
ruled f i zero = []
ruled f i (suc n) = f i ∷ ruled f (suc i) n

-- the followers due after a follower: an interrupt control has followers of its own, in front of the rest
abbrev pub due_after : Follower → ℕ → Followers → Followers
due_after follower.ALow b rest = rest
due_after follower.AHigh b rest = rest
due_after follower.LengthLow b rest = rest
due_after follower.LengthHigh b rest = rest
due_after follower.ATiming b rest = rest
due_after follower.BTiming b rest = rest
due_after follower.Mask b rest = rest
due_after follower.Match b rest = rest
due_after follower.BLow b rest = rest
due_after follower.BHigh b rest = rest
due_after follower.Interrupt b rest = ahead (interrupt_followers b) rest
due_after follower.Pulse b rest = rest
due_after follower.Vector b rest = rest
due_after follower.ReadMask b rest = rest

-- a first byte, with the followers that it announces
abbrev pub first_taken : ℕ → Result First DecodeFault → Result Decoded DecodeFault
first_taken b (Ok f) = Ok (record { control = control.First f; due = queued (followers_of b) })
first_taken b (Err e) = Err e

-- a follower, with those due after it
abbrev pub follower_taken : Followers → Result FollowerByte DecodeFault → Result Decoded DecodeFault
follower_taken after (Ok f) = Ok (record { control = control.Follower f; due = after })
follower_taken after (Err e) = Err e

-- a byte, where the follower given is due and then the rest; none due: a first byte
abbrev pub taken : Option Follower → Followers → ℕ → Result Decoded DecodeFault
taken None rest b = first_taken b (decoded_first b)
taken (Some f) rest b = follower_taken (due_after f b rest) (decoded_follower f b)

-- a control byte, with these followers due
abbrev pub decoded : Followers → ℕ → Result Decoded DecodeFault
decoded d b = taken (next_of d) (rest_of d) b

-- the fault of a table's byte: its place, what was due there, and its own fault whole
abbrev pub at_place : ℕ → Followers → Result Decoded DecodeFault → Result Followers (TableFault DecodeFault)
at_place i d (Ok x) = Ok x.due
at_place i d (Err e) = Err (record { place = i; due = next_of d; fault = e })

-- what comes after a byte, if it was accepted
abbrev pub onward : {X F : Type 0} → Result X F → (X → Result X F) → Result X F
onward (Ok x) k = k x
onward (Err e) k = Err e

-- a table read byte by byte from the place i, with these followers due, up to the first byte that is refused
abbrev pub table_decoded : ℕ → Followers → List ℕ → Result Followers (TableFault DecodeFault)
table_decoded i d [] = Ok d
table_decoded i d (b ∷ bs) = onward (at_place i d (decoded d b)) (λ e. table_decoded (i + 1) e bs)
