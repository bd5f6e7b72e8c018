-- What a listing of a control table prints, as bytes of text. `decimal` is a number in decimal digits.
use Rattle.std.specs.Prelude.{ℕ, ◌+◌, Bool, List, [], ◌∷◌, ◌++◌, length, Some, None, Ok, Err, codes, decimal, Option, Result}
use Rattle.control.specs.declared.fields.AddressRule.{AddressRule}
use Rattle.control.specs.declared.fields.Class.{Class}
use Rattle.control.specs.declared.fields.InterruptControl.{InterruptControl}
use Rattle.control.specs.declared.fields.PortName.{PortName}
use Rattle.control.specs.declared.fields.Space.{Space}
use Rattle.control.specs.declared.fields.Timing.{Timing}
use Rattle.control.specs.declared.fields.Level.{Level}
use Rattle.control.specs.declared.first.First.{First}
use Rattle.control.specs.declared.first.First.TheVariants as first
use Rattle.control.specs.declared.first.Group.{Group}
use Rattle.control.specs.declared.first.Group.TheVariants as group
use Rattle.control.specs.declared.follower.Follower.{Follower}
use Rattle.control.specs.declared.follower.Followers.{Followers}
use Rattle.control.specs.declared.follower.Followers.TheVariants.{Zero, One, Two, Three, Four}
use Rattle.control.specs.declared.follower.FollowerByte.{FollowerByte}
use Rattle.control.specs.declared.follower.FollowerByte.TheVariants as byte
use Rattle.control.specs.declared.decoded.ControlByte.{ControlByte}
use Rattle.control.specs.declared.decoded.ControlByte.TheVariants as control
use Rattle.control.specs.declared.decoded.Decoded.{Decoded}
use Rattle.control.specs.declared.fault.DecodeFault.{DecodeFault}
use Rattle.control.specs.declared.fault.TableFault.{TableFault}
use Rattle.control.specs.Followers.{next_of}
use Rattle.control.specs.Numbers.{t_cycles, fault_number}
use Rattle.control.specs.Tables.{decoded, table_decoded}
use Rattle.control.specs.Words.{class_word, port_word, space_word, rule_word, mode_word, level_word, group_word, command_word, follower_word}
use Rattle.text.specs.Shown.{hexadecimal_byte}
use Rattle.listing.specs.Parts.{spaced, field, flag}

-- WR0: the class and the source
abbrev pub wr0_words : Class → PortName → List ℕ
wr0_words class source = group_word group.Wr0 ++ (field (codes "class") (class_word class) ++ field (codes "source") (port_word source))

-- WR1 and WR2: a port's space and rule
abbrev pub port_words : Group → Space → AddressRule → List ℕ
port_words g space rule = spaced (group_word g) (spaced (space_word space) (rule_word rule))

-- WR3: three bits
abbrev pub wr3_words : Bool → Bool → Bool → List ℕ
wr3_words stop interrupts enable = group_word group.Wr3 ++ (flag (codes "stop") stop ++ (flag (codes "interrupts") interrupts ++ flag (codes "enable") enable))

-- WR5: the level at which Ready is active, and two bits
abbrev pub wr5_words : Level → Bool → Bool → List ℕ
wr5_words ready heed restart = group_word group.Wr5 ++ (field (codes "ready") (level_word ready) ++ (flag (codes "heed") heed ++ flag (codes "restart") restart))

-- what a first byte says
abbrev pub first_words : First → List ℕ
first_words (first.Wr0 class source) = wr0_words class source
first_words (first.Wr1 space rule) = port_words group.Wr1 space rule
first_words (first.Wr2 space rule) = port_words group.Wr2 space rule
first_words (first.Wr3 stop interrupts enable) = wr3_words stop interrupts enable
first_words (first.Wr4 mode) = group_word group.Wr4 ++ field (codes "mode") (mode_word mode)
first_words (first.Wr5 ready heed restart) = wr5_words ready heed restart
first_words (first.Wr6 command) = spaced (group_word group.Wr6) (command_word command)

-- the followers that a byte announces, in the order in which they are due; where none comes, nothing
abbrev pub announced_words : Followers → List ℕ
announced_words Zero = []
announced_words (One a) = field (codes "followers") (follower_word a)
announced_words (Two a b) = field (codes "followers") (spaced (follower_word a) (follower_word b))
announced_words (Three a b c) = field (codes "followers") (spaced (follower_word a) (spaced (follower_word b) (follower_word c)))
announced_words (Four a b c d) = field (codes "followers") (spaced (spaced (follower_word a) (follower_word b)) (spaced (follower_word c) (follower_word d)))

-- what is due: a follower, or a first byte
abbrev pub due_word : Option Follower → List ℕ
due_word None = codes "first"
due_word (Some follower) = follower_word follower

-- a timing, in T-cycles
abbrev pub timing_words : Timing → List ℕ
timing_words timing = codes " " ++ decimal (t_cycles timing)

-- the bits of an interrupt control
abbrev pub interrupt_words : InterruptControl → List ℕ
interrupt_words c = flag (codes "on-match") c.on_match ++ (flag (codes "on-end") c.on_end ++ (flag (codes "pulses") c.pulses ++ flag (codes "status-in-vector") c.status_in_vector))

-- what a follower says besides its name: a timing, or an interrupt control with the followers it announces
abbrev pub carried_words : FollowerByte → Followers → List ℕ
carried_words (byte.ALow b) due = []
carried_words (byte.AHigh b) due = []
carried_words (byte.LengthLow b) due = []
carried_words (byte.LengthHigh b) due = []
carried_words (byte.ATiming t) due = timing_words t
carried_words (byte.BTiming t) due = timing_words t
carried_words (byte.Mask b) due = []
carried_words (byte.Match b) due = []
carried_words (byte.BLow b) due = []
carried_words (byte.BHigh b) due = []
carried_words (byte.Interrupt c) due = interrupt_words c ++ announced_words due
carried_words (byte.Pulse b) due = []
carried_words (byte.Vector b) due = []
carried_words (byte.ReadMask b) due = []

-- a refusal by its number
abbrev pub refused_words : DecodeFault → List ℕ
refused_words fault = codes "(refused " ++ (decimal (fault_number fault) ++ codes ")")

-- what an accepted byte says: the follower that was due, or a first byte; then the followers it announces
abbrev pub accepted_words : Option Follower → ControlByte → Followers → List ℕ
accepted_words was (control.First f) due = first_words f ++ announced_words due
accepted_words was (control.Follower f) due = due_word was ++ carried_words f due

-- what a byte says where this was due
abbrev pub byte_words : Option Follower → Result Decoded DecodeFault → List ℕ
byte_words was (Ok x) = accepted_words was x.control x.due
byte_words was (Err fault) = refused_words fault

-- the line of a byte where these followers were due: its place, its digits, what it says
abbrev pub byte_line : ℕ → Followers → ℕ → Result Decoded DecodeFault → List ℕ
byte_line place due b answer = codes "(" ++ (decimal place ++ (codes " " ++ (hexadecimal_byte b ++ (codes " " ++ (byte_words (next_of due) answer ++ codes ")\n")))))

-- the lines after a byte: none where it was refused
abbrev pub lines_after : Result Decoded DecodeFault → (Followers → List ℕ) → List ℕ
lines_after (Ok x) more = more x.due
lines_after (Err fault) more = []

-- the lines of a table's bytes from this place on, with these followers due, up to a byte that is refused
abbrev pub byte_lines : ℕ → Followers → List ℕ → List ℕ
byte_lines place due [] = []
byte_lines place due (b ∷ bs) = byte_line place due b (decoded due b) ++ lines_after (decoded due b) (λ then. byte_lines (place + 1) then bs)

-- the last line of a table of this many bytes that is accepted
abbrev pub accepted_line : ℕ → Option Follower → List ℕ
accepted_line count None = codes "(table " ++ (decimal count ++ codes ")\n")
accepted_line count (Some follower) = codes "(table " ++ (decimal count ++ (codes " (due " ++ (follower_word follower ++ codes "))\n")))

-- the last line, by what became of the whole table
abbrev pub outcome_line : ℕ → Result Followers (TableFault DecodeFault) → List ℕ
outcome_line count (Ok due) = accepted_line count (next_of due)
outcome_line count (Err f) = codes "(table " ++ (refused_words f.fault ++ (codes " (at " ++ (decimal f.place ++ (codes ") (due " ++ (due_word f.due ++ codes "))\n")))))

-- the listing of a table: a line for each byte, and one for the whole
abbrev pub listing_of : List ℕ → List ℕ
listing_of bytes = byte_lines 0 Zero bytes ++ outcome_line (length bytes) (table_decoded 0 Zero bytes)
