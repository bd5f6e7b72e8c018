-- Followers still due, and what each carries.
use Rattle.std.specs.Prelude.{ℕ, cond, List, [], ◌∷◌, ◌++◌, Some, None, Ok, Err, Option, Result}
use Rattle.control.specs.declared.fields.Timing.{Timing}
use Rattle.control.specs.declared.fields.Timing.TheVariants as timing
use Rattle.control.specs.declared.fields.InterruptControl.{InterruptControl}
use Rattle.control.specs.declared.follower.Follower.{Follower}
use Rattle.control.specs.declared.follower.Follower.TheVariants as follower
use Rattle.control.specs.declared.follower.Followers.{Followers}
use Rattle.control.specs.declared.follower.Followers.TheVariants.{Zero, One, Two, Three, Four}
use Rattle.control.specs.declared.follower.FollowerByte.{FollowerByte}
use Rattle.control.specs.declared.follower.FollowerByte.TheVariants as byte
use Rattle.control.specs.declared.fault.DecodeFault.{DecodeFault}
use Rattle.control.specs.declared.fault.DecodeFault.TheVariants.{BadTiming, BadInterruptControl, BadReadMask}
use Rattle.control.specs.Numbers.{timing_bits}
use Rattle.control.specs.Bits.{D0, D1, D2, D3, D4, D5, D7, field, on}
use Rattle.control.specs.Firsts.{follows}

-- the followers due as a list, the next one first
abbrev pub listed : Followers → List Follower
listed Zero = []
listed (One a) = a ∷ []
listed (Two a b) = a ∷ b ∷ []
listed (Three a b c) = a ∷ b ∷ c ∷ []
listed (Four a b c d) = a ∷ b ∷ c ∷ d ∷ []

-- one more in front; no group has a fifth
abbrev pub in_front : Follower → Followers → Followers
in_front f Zero = One f
in_front f (One a) = Two f a
in_front f (Two a b) = Three f a b
in_front f (Three a b c) = Four f a b c
in_front f (Four a b c d) = Four f a b c

-- a list of followers in front of those due
abbrev pub ahead : List Follower → Followers → Followers
ahead [] due = due
ahead (f ∷ fs) due = in_front f (ahead fs due)

-- a list of followers, all of them due
abbrev pub queued : List Follower → Followers
queued fs = ahead fs Zero

-- the first of a list, if there is one
abbrev pub first_of : List Follower → Option Follower
first_of [] = None
first_of (f ∷ fs) = Some f

-- the list without its first
abbrev pub others_of : List Follower → List Follower
others_of [] = []
others_of (f ∷ fs) = fs

-- the follower that is due: none, and a first byte is
abbrev pub next_of : Followers → Option Follower
next_of due = first_of (listed due)

-- those due after it
abbrev pub rest_of : Followers → Followers
rest_of due = queued (others_of (listed due))

-- D1 D0: 00, 01, 10 mean 4, 3, 2 T-cycles, 11 is not allowed; other bits are forgotten
abbrev pub timing_of : ℕ → Result Timing DecodeFault
timing_of b =
    cond (field b 0x03 (timing_bits timing.Four)) (Ok timing.Four)
    (cond (field b 0x03 (timing_bits timing.Three)) (Ok timing.Three)
    (cond (field b 0x03 (timing_bits timing.Two)) (Ok timing.Two) (Err BadTiming)))

-- D0 interrupt on match, D1 at block end, D2 pulses, D5 status in vector; neither D6 nor D7
abbrev pub interrupt_control_of : ℕ → Result InterruptControl DecodeFault
interrupt_control_of b =
    cond (field b 0xC0 0) (Ok (record { on_match = on b D0; on_end = on b D1; pulses = on b D2; status_in_vector = on b D5 })) (Err BadInterruptControl)

-- a read mask has seven bits
abbrev pub read_mask_of : ℕ → Result ℕ DecodeFault
read_mask_of b = cond (field b D7 0) (Ok b) (Err BadReadMask)

-- a follower that carries what its byte says, or the byte's fault
abbrev pub carried : {X : Type 0} → (X → FollowerByte) → Result X DecodeFault → Result FollowerByte DecodeFault
carried by (Ok x) = Ok (by x)
carried by (Err e) = Err e

-- a byte written while a follower is due
abbrev pub decoded_follower : Follower → ℕ → Result FollowerByte DecodeFault
decoded_follower follower.ALow b = Ok (byte.ALow b)
decoded_follower follower.AHigh b = Ok (byte.AHigh b)
decoded_follower follower.LengthLow b = Ok (byte.LengthLow b)
decoded_follower follower.LengthHigh b = Ok (byte.LengthHigh b)
decoded_follower follower.ATiming b = carried byte.ATiming (timing_of b)
decoded_follower follower.BTiming b = carried byte.BTiming (timing_of b)
decoded_follower follower.Mask b = Ok (byte.Mask b)
decoded_follower follower.Match b = Ok (byte.Match b)
decoded_follower follower.BLow b = Ok (byte.BLow b)
decoded_follower follower.BHigh b = Ok (byte.BHigh b)
decoded_follower follower.Interrupt b = carried byte.Interrupt (interrupt_control_of b)
decoded_follower follower.Pulse b = Ok (byte.Pulse b)
decoded_follower follower.Vector b = Ok (byte.Vector b)
decoded_follower follower.ReadMask b = carried byte.ReadMask (read_mask_of b)

-- the followers of an interrupt control: D3 pulse byte, D4 vector
abbrev pub interrupt_followers : ℕ → List Follower
interrupt_followers b = follows b D3 follower.Pulse ++ follows b D4 follower.Vector
