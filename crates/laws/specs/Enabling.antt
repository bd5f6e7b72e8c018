-- What an enabling is and what it leaves; calls that accept no control byte. Assumes nothing.
use Rattle.std.specs.Prelude.{◌≡◌, ℕ, Bool, true, List, [], ◌∷◌, ◌++◌, length, Ok, Err}
use Rattle.control.specs.Firsts.{decoded_first, followers_of}
use Rattle.control.specs.declared.first.First.TheVariants.{Wr3}
use Rattle.control.specs.declared.follower.Follower.{Follower}
use Rattle.control.specs.declared.follower.Followers.TheVariants.{Zero, One}
use Rattle.registers.specs.declared.chip.Chip.{Chip}
use Rattle.registers.specs.declared.fault.ChannelFault.{ChannelFault}
use Rattle.registers.specs.declared.outcome.Outcome.{Outcome}
use Rattle.registers.specs.declared.outcome.Outcome.TheVariants as outcome
use Rattle.registers.specs.declared.row.Loan.TheVariants.{Closed}
use Rattle.registers.specs.declared.row.Sequence.{Sequence}
use Rattle.registers.specs.Calls.{State, Call, write_call, table_call, status_call, open_call, cycle_call, run_call, return_call, acknowledge_call, reti_call, does}
use Rattle.registers.specs.Writes.{wrote}
use Rattle.laws.specs.Carried.{KeptIn}

-- AN ENABLING

-- the byte that enables, where it is accepted
pub data EnablingByte (b : ℕ) (q : Sequence) : Type 0 where
  -- 87h, as a first byte
  enable_command : q.due ≡ Zero → b ≡ 0x87 → EnablingByte b q
  -- a first byte of WR3 with its enable bit, that no follower comes after
  enable_bit_alone : (stop interrupts : Bool) → q.due ≡ Zero → decoded_first b ≡ Ok (Wr3 stop interrupts true) → followers_of b ≡ [] → EnablingByte b q
  -- the last follower of a WR3 group whose first byte had its enable bit
  enable_bit_before : (f : Follower) → q.due ≡ One f → q.enabling ≡ true → EnablingByte b q

-- the byte b finds the channel x, is accepted and leaves y, and is an enabling
pub record EnabledBy (b : ℕ) (x y : Chip) : Type 0 where
  pub accepted : wrote b x ≡ Ok y
  pub byte : EnablingByte b x.registers.sequence

-- these bytes, each accepted, lead from x to y
abbrev pub Accepted : List ℕ → Chip → Chip → Type 0
Accepted [] x y = y ≡ x
Accepted (b ∷ bs) x y = (z : Chip) × (wrote b x ≡ Ok z) × Accepted bs z y

-- of these bytes none is accepted: there is none, or the first is refused
abbrev pub RefusedNext : List ℕ → Chip → Type 0
RefusedNext [] y = Unit {0}
RefusedNext (b ∷ bs) y = (f : ChannelFault) × (wrote b y ≡ Err f)

-- a table whose last accepted byte finds x and is an enabling
pub record EnabledByTable (bs : List ℕ) (first x y : Chip) : Type 0 where
  pub front : List ℕ
  pub byte : ℕ
  pub back : List ℕ
  pub is : bs ≡ front ++ (byte ∷ back)
  pub before : Accepted front first x
  pub enabling : EnabledBy byte x y
  pub after : RefusedNext back y

-- the call c on the board s is an enabling that finds the channel x and leaves the board t
abbrev pub Enabling : Call → State → Chip → State → Type 0
Enabling (write_call b) s x t = (x ≡ s.chip) × EnabledBy b x t.chip
Enabling (table_call bs) s x t = EnabledByTable bs s.chip x t.chip
Enabling (status_call l) s x t = ⊥
Enabling (open_call l) s x t = ⊥
Enabling (cycle_call i) s x t = ⊥
Enabling (run_call is) s x t = ⊥
Enabling return_call s x t = ⊥
Enabling (acknowledge_call l) s x t = ⊥
Enabling reti_call s x t = ⊥

-- WHAT IT LEAVES

-- the state right after an enabling: kept, enabled, no loan open
pub record Found (s : State) : Type 0 where
  pub kept : KeptIn s
  pub enabled : s.chip.registers.progress.enabled ≡ true
  pub no_loan_open : s.chip.registers.loan ≡ Closed

-- length, count and counters stay
pub record SameBlock (x y : Chip) : Type 0 where
  pub length : y.registers.program.length ≡ x.registers.program.length
  pub count : y.registers.progress.count ≡ x.registers.progress.count
  pub a : y.registers.progress.a ≡ x.registers.progress.a
  pub b : y.registers.progress.b ≡ x.registers.progress.b

-- every enabling leaves such a state, with length, count and counters as it found them
abbrev pub EnablingsLeaveFound : Type 0
EnablingsLeaveFound =
    (s : State) (c : Call) (x : Chip) → KeptIn s → let t = (does c s).state in Enabling c s x t → Found t × SameBlock x t.chip

-- NO CONTROL BYTE ACCEPTED

-- how many control bytes a call gives
abbrev pub bytes_given : Call → ℕ
bytes_given (write_call b) = 1
bytes_given (table_call bs) = length bs
bytes_given (status_call l) = 0
bytes_given (open_call l) = 0
bytes_given (cycle_call i) = 0
bytes_given (run_call is) = 0
bytes_given return_call = 0
bytes_given (acknowledge_call l) = 0
bytes_given reti_call = 0

-- how many of the n control bytes given were accepted
abbrev pub bytes_accepted : ℕ → Outcome → ℕ
bytes_accepted n (outcome.Wrote (Ok u)) = n
bytes_accepted n (outcome.Wrote (Err f)) = 0
bytes_accepted n (outcome.WroteTable (Ok u)) = n
bytes_accepted n (outcome.WroteTable (Err f)) = f.place
bytes_accepted n (outcome.ReadStatus r) = 0
bytes_accepted n (outcome.Opened r) = 0
bytes_accepted n (outcome.Cycled r) = 0
bytes_accepted n (outcome.Ran r) = 0
bytes_accepted n (outcome.Returned r) = 0
bytes_accepted n (outcome.Acknowledged r) = 0
bytes_accepted n (outcome.ReturnedFromInterrupt r) = 0

-- a call that accepts no control byte
abbrev pub TakesNone : Call → State → Type 0
TakesNone c s = bytes_accepted (bytes_given c) (does c s).outcome ≡ 0

-- none of these calls accepts a control byte
unfoldable pub Uncontrolled : List Call → State → Type 0
Uncontrolled [] s = Unit {0}
Uncontrolled (c ∷ cs) s = TakesNone c s × Uncontrolled cs (does c s).state

-- NOTHING ELSE ENABLES

-- a call that accepts a control byte and leaves the channel enabled is an enabling
abbrev pub OnlyEnablingsEnable : Type 0
OnlyEnablingsEnable =
    (s : State) (c : Call) → KeptIn s → (TakesNone c s → ⊥) → let t = (does c s).state in t.chip.registers.progress.enabled ≡ true → (x : Chip) × Enabling c s x t
