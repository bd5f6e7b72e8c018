-- First bytes: their group, the followers that they announce, and what their bit fields say.
use Rattle.std.specs.Prelude.{ℕ, Bool, false, cond, not, List, [], ◌∷◌, ◌++◌, Some, None, Ok, Err, Option, Result, ok_or, ◌==◌}
use Rattle.control.specs.declared.fields.Class.{Class}
use Rattle.control.specs.declared.fields.Class.TheVariants as class
use Rattle.control.specs.declared.fields.PortName.{PortName}
use Rattle.control.specs.declared.fields.PortName.TheVariants as port
use Rattle.control.specs.declared.fields.Space.{Space}
use Rattle.control.specs.declared.fields.Space.TheVariants as space
use Rattle.control.specs.declared.fields.AddressRule.{AddressRule}
use Rattle.control.specs.declared.fields.AddressRule.TheVariants as rule
use Rattle.control.specs.declared.fields.Mode.{Mode}
use Rattle.control.specs.declared.fields.Mode.TheVariants as mode
use Rattle.control.specs.declared.fields.Level.{Level}
use Rattle.control.specs.declared.fields.Level.TheVariants as level
use Rattle.control.specs.declared.first.Group.{Group}
use Rattle.control.specs.declared.first.Group.TheVariants as group
use Rattle.control.specs.declared.first.Command.{Command}
use Rattle.control.specs.declared.first.Command.TheVariants as command
use Rattle.control.specs.declared.first.First.{First}
use Rattle.control.specs.declared.first.First.TheVariants as first
use Rattle.control.specs.declared.follower.Follower.{Follower}
use Rattle.control.specs.declared.follower.Follower.TheVariants as follower
use Rattle.control.specs.declared.fault.DecodeFault.{DecodeFault}
use Rattle.control.specs.declared.fault.DecodeFault.TheVariants.{NoGroup, BadMode, BadTiming, BadInterruptControl, BadReadMask}
use Rattle.control.specs.Numbers.{command_code}
use Rattle.control.specs.Bits.{D2, D3, D4, D5, D6, field, on}

-- WR6 holds the commands
abbrev pub commands : List Command
commands = command.PowerOn ∷ command.DefaultTimingA ∷ command.DefaultTimingB ∷ command.Load ∷ command.Continue ∷ command.InterruptsOff ∷ command.InterruptsOn ∷ command.InterruptsReset ∷ command.Enable ∷ command.Disable ∷ command.ReadMask ∷ command.StartReadOut ∷ command.ReadStatus ∷ command.ClearStatus ∷ command.ForceReady ∷ []

-- the command among these whose code is b
abbrev pub coded : ℕ → List Command → Option Command
coded b [] = None
coded b (c ∷ cs) = cond (b == command_code c) (Some c) (coded b cs)

-- the command whose code is b
abbrev pub command_of : ℕ → Option Command
command_of b = coded b commands

-- the same as an answer: a byte that is no command's code is of no group
abbrev pub command_said : ℕ → Result Command DecodeFault
command_said b = ok_or (command_of b) NoGroup

-- WR0: D7 = 0, D1 D0 not 00
abbrev pub in_wr0 : ℕ → Bool
in_wr0 b = cond (field b 0x80 0) (not (field b 0x03 0)) false

-- WR1: D7 = 0, D2 to D0 = 100
abbrev pub in_wr1 : ℕ → Bool
in_wr1 b = field b 0x87 0x04

-- WR2: D7 = 0, D2 to D0 = 000
abbrev pub in_wr2 : ℕ → Bool
in_wr2 b = field b 0x87 0x00

-- WR3: D7 = 1, D1 D0 = 00
abbrev pub in_wr3 : ℕ → Bool
in_wr3 b = field b 0x83 0x80

-- WR4: D7 = 1, D1 D0 = 01
abbrev pub in_wr4 : ℕ → Bool
in_wr4 b = field b 0x83 0x81

-- WR5: D7 D6 = 10, D2 to D0 = 010
abbrev pub in_wr5 : ℕ → Bool
in_wr5 b = field b 0xC7 0x82

-- of seven answers, the one for the byte's group; the last is for what is in none of WR0 to WR5
abbrev pub by_group : {X : Type 0} → ℕ → (wr0 wr1 wr2 wr3 wr4 wr5 others : X) → X
by_group b wr0 wr1 wr2 wr3 wr4 wr5 others =
    cond (in_wr0 b) wr0
    (cond (in_wr1 b) wr1
    (cond (in_wr2 b) wr2
    (cond (in_wr3 b) wr3
    (cond (in_wr4 b) wr4
    (cond (in_wr5 b) wr5 others)))))

-- WR6: a command's code
abbrev pub group_of_command : Option Command → Option Group
group_of_command (Some c) = Some group.Wr6
group_of_command None = None

-- the group of a first byte
abbrev pub group_of : ℕ → Option Group
group_of b = by_group b (Some group.Wr0) (Some group.Wr1) (Some group.Wr2) (Some group.Wr3) (Some group.Wr4) (Some group.Wr5) (group_of_command (command_of b))

-- a follower, if its bit is 1
abbrev pub follows : ℕ → ℕ → Follower → List Follower
follows b d f = cond (on b d) (f ∷ []) []

-- the followers that a byte of a group announces, in their order
abbrev pub announced : Option Group → ℕ → List Follower
announced None b = []
announced (Some group.Wr0) b = follows b D3 follower.ALow ++ (follows b D4 follower.AHigh ++ (follows b D5 follower.LengthLow ++ follows b D6 follower.LengthHigh))
announced (Some group.Wr1) b = follows b D6 follower.ATiming
announced (Some group.Wr2) b = follows b D6 follower.BTiming
announced (Some group.Wr3) b = follows b D3 follower.Mask ++ follows b D4 follower.Match
announced (Some group.Wr4) b = follows b D2 follower.BLow ++ (follows b D3 follower.BHigh ++ follows b D4 follower.Interrupt)
announced (Some group.Wr5) b = []
announced (Some group.Wr6) b = cond (b == command_code command.ReadMask) (follower.ReadMask ∷ []) []

-- the followers of a first byte
abbrev pub followers_of : ℕ → List Follower
followers_of b = announced (group_of b) b

-- D1 D0: 01 transfer, 10 search, 11 both
abbrev pub class_of : ℕ → Class
class_of b = cond (field b 0x03 0x01) class.Transfer (cond (field b 0x03 0x02) class.Search class.Both)

-- D2 = 1: A is source
abbrev pub source_of : ℕ → PortName
source_of b = cond (on b D2) port.A port.B

-- D3 = 1: I/O
abbrev pub space_of : ℕ → Space
space_of b = cond (on b D3) space.Io space.Memory

-- D5 D4: 00 decrement, 01 increment, else fixed
abbrev pub rule_of : ℕ → AddressRule
rule_of b = cond (field b 0x30 0x00) rule.Decrement (cond (field b 0x30 0x10) rule.Increment rule.Fixed)

-- D6 D5: 00 byte, 01 continuous, 10 burst, 11 is not allowed
abbrev pub mode_of : ℕ → Option Mode
mode_of b =
    cond (field b 0x60 0x00) (Some mode.Byte)
    (cond (field b 0x60 0x20) (Some mode.Continuous)
    (cond (field b 0x60 0x40) (Some mode.Burst) None))

-- D3 = 1: Ready is active high
abbrev pub ready_of : ℕ → Level
ready_of b = cond (on b D3) level.High level.Low

-- WR0: class and source
abbrev pub wr0_of : ℕ → First
wr0_of b = first.Wr0 (class_of b) (source_of b)

-- WR1: space and rule of port A
abbrev pub wr1_of : ℕ → First
wr1_of b = first.Wr1 (space_of b) (rule_of b)

-- WR2: space and rule of port B
abbrev pub wr2_of : ℕ → First
wr2_of b = first.Wr2 (space_of b) (rule_of b)

-- WR3: D2 stop on match, D5 interrupts on, D6 enable
abbrev pub wr3_of : ℕ → First
wr3_of b = first.Wr3 (on b D2) (on b D5) (on b D6)

-- WR4: an allowed mode
abbrev pub wr4_of : Option Mode → Result First DecodeFault
wr4_of (Some m) = Ok (first.Wr4 m)
wr4_of None = Err BadMode

-- WR5: the level at which Ready is active, D4 heed waits, D5 auto restart
abbrev pub wr5_of : ℕ → First
wr5_of b = first.Wr5 (ready_of b) (on b D4) (on b D5)

-- a command that was found, or none
abbrev pub named : Option Command → Result First DecodeFault
named (Some c) = Ok (first.Wr6 c)
named None = Err NoGroup

-- WR6: a command (shut, since fifteen codes make it long: a proof that computes with it opens it)
unfoldable pub wr6_of : ℕ → Result First DecodeFault
wr6_of b = named (command_of b)

-- what a first byte says, by its group
abbrev pub decoded_first : ℕ → Result First DecodeFault
decoded_first b = by_group b (Ok (wr0_of b)) (Ok (wr1_of b)) (Ok (wr2_of b)) (Ok (wr3_of b)) (wr4_of (mode_of b)) (Ok (wr5_of b)) (wr6_of b)

-- the group that an answer says: the mode that is not allowed is of WR4, and no group is none
abbrev pub group_said : Result First DecodeFault → Option Group
group_said (Ok (first.Wr0 c s)) = Some group.Wr0
group_said (Ok (first.Wr1 s r)) = Some group.Wr1
group_said (Ok (first.Wr2 s r)) = Some group.Wr2
group_said (Ok (first.Wr3 s i e)) = Some group.Wr3
group_said (Ok (first.Wr4 m)) = Some group.Wr4
group_said (Ok (first.Wr5 r h a)) = Some group.Wr5
group_said (Ok (first.Wr6 c)) = Some group.Wr6
group_said (Err NoGroup) = None
group_said (Err BadMode) = Some group.Wr4
group_said (Err BadTiming) = None
group_said (Err BadInterruptControl) = None
group_said (Err BadReadMask) = None
