-- An accepted control byte leaves a kept channel with no loan open, and an enabled one only if it is an enabling. Assumes nothing.
use Rattle.std.proofs.Common.{◌≡◌, ℕ, Bool, true, false, ◌⊎◌, Some, None, Ok, Err, Result, refl, ap, ◌∙◌, subst, arith}
use Rattle.control.specs.Firsts.{decoded_first, followers_of}
use Rattle.control.specs.Followers.{listed, queued}
use Rattle.control.specs.Tables.{decoded, taken, first_taken, follower_taken}
use Rattle.control.specs.declared.fault.DecodeFault.{DecodeFault}
use Rattle.control.specs.declared.first.Command.{Command}
use Rattle.control.specs.declared.first.Command.TheVariants as command
use Rattle.control.specs.declared.first.First.{First}
use Rattle.control.specs.declared.first.First.TheVariants as first
use Rattle.control.specs.declared.follower.Follower.{Follower}
use Rattle.control.specs.declared.follower.Follower.TheVariants.{Mask, Match}
use Rattle.control.specs.declared.follower.FollowerByte.{FollowerByte}
use Rattle.control.specs.declared.follower.Followers.{Followers}
use Rattle.control.specs.declared.follower.Followers.TheVariants.{Zero, One}
use Rattle.registers.specs.declared.chip.Chip.{Chip}
use Rattle.registers.specs.declared.fault.ChannelFault.{ChannelFault}
use Rattle.registers.specs.declared.row.Loan.{Loan}
use Rattle.registers.specs.declared.row.Loan.TheVariants.{Closed}
use Rattle.registers.specs.declared.row.Registers.{Registers}
use Rattle.registers.specs.Firsts.{enabling, starts_read_out, command_did, first_did}
use Rattle.registers.specs.Kept.{Kept, InBlock, OnlySearch}
use Rattle.registers.specs.Writes.{follower_set, follower_did, decoded_did, write_did, wrote}
use Rattle.laws.specs.Carried.{PowerOnIsKept}
use Rattle.laws.specs.Enabling.{EnablingByte, enable_command, enable_bit_alone, enable_bit_before}
use Rattle.laws.proofs.Decoding.{Fitting, FittingResult, first_fits, none_queued}

pub power_on_kept : PowerOnIsKept
power_on_kept = grind arith

-- kept, with no loan open, and enabled only by A
record Good (A : Type 0) (r : Registers) : Type 0 where
  kept : Kept r
  closed : r.loan ≡ Closed
  only_by : r.progress.enabled ≡ true → A

abbrev GoodIfAccepted : Type 0 → Result Chip ChannelFault → Type 0
GoodIfAccepted A (Ok y) = Good A y.registers
GoodIfAccepted A (Err f) = Unit {0}

then_by : {A B : Type 0} (v : Result Chip ChannelFault) → (A → B) → GoodIfAccepted A v → GoodIfAccepted B v
then_by v f g = grind arith

-- ENABLING, AT ONCE OR BY THE GROUP'S LAST BYTE

enabling_good : (r : Registers) → r.loan ≡ Closed → r.progress.held ≡ None → r.progress.stopping ≡ false → (due : Followers) (x : Chip) → OnlySearch (listed due) → GoodIfAccepted (due ≡ Zero) (enabling due r x)
enabling_good r n h u due x o = grind arith

-- A FIRST BYTE

-- a first byte that enables: 87h, and WR3 with its enable bit and no follower
abbrev EnablesAtOnce : First → Followers → Type 0
EnablesAtOnce (first.Wr3 stop interrupts enable) due = (enable ≡ true) × (due ≡ Zero)
EnablesAtOnce (first.Wr6 c) due = c ≡ command.Enable
EnablesAtOnce _ due = ⊥

module _ (x : Chip) (n : x.registers.loan ≡ Closed) (h : x.registers.progress.held ≡ None) (u : x.registers.progress.stopping ≡ false) where
  read_out_good : (A : Type 0) (none : Bool) (marks : ℕ) (due : Followers) → GoodIfAccepted A (starts_read_out none marks due x)
  read_out_good A none marks due = grind arith

  command_good : (c : Command) (due : Followers) → (c ≡ command.Enable → OnlySearch (listed due)) → GoodIfAccepted (c ≡ command.Enable) (command_did c due x)
  command_good c due o = grind (arith, enabling_good, read_out_good)

  first_good : (b : ℕ) (f : First) (due : Followers) → Fitting b f due → GoodIfAccepted (EnablesAtOnce f due) (first_did f due x)
  first_good b f due o = grind (arith, enabling_good, command_good)

  enables_first : (b : ℕ) (f : First) → x.registers.sequence.due ≡ Zero → decoded_first b ≡ Ok f → Fitting b f (queued (followers_of b)) → EnablesAtOnce f (queued (followers_of b)) → EnablingByte b x.registers.sequence
  enables_first b (first.Wr3 stop interrupts enable) q e o a = enable_bit_alone stop interrupts q (e ∙ ap (λ t. Ok (first.Wr3 stop interrupts t)) a.0) (none_queued (followers_of b) a.1)
  enables_first b (first.Wr6 c) q e o a = enable_command q (o a).0
  enables_first b _ q e o a = absurd a

  first_taken_good : (b : ℕ) (r : Result First DecodeFault) → x.registers.sequence.due ≡ Zero → decoded_first b ≡ r → FittingResult b r (queued (followers_of b)) → GoodIfAccepted (EnablingByte b x.registers.sequence) (decoded_did (first_taken b r) x)
  unfolding decoded_did
  first_taken_good b (Ok f) q e o = then_by _ (enables_first b f q e o) (first_good b f (queued (followers_of b)) o)
  first_taken_good b (Err f) q e o = tt

-- A FOLLOWER

-- a follower changes neither the progress nor the loan
follower_keeps : (f : FollowerByte) (r : Registers) → ((follower_set f r).progress ≡ r.progress) × ((follower_set f r).loan ≡ r.loan)
follower_keeps f r = grind arith

module _ (x : Chip) (n : x.registers.loan ≡ Closed) (h : x.registers.progress.held ≡ None) (u : x.registers.progress.stopping ≡ false) where
  abbrev waiting : Bool
  waiting = x.registers.sequence.enabling

  -- an enabling waits, and none is due after this byte
  abbrev IsLast : Followers → Type 0
  IsLast due = (waiting ≡ true) × (due ≡ Zero)

  follower_good : (f : FollowerByte) (due : Followers) → (waiting ≡ true → OnlySearch (listed due) × InBlock (follower_set f x.registers)) → Good (IsLast due) (follower_did f due x).registers
  follower_good f due w = grind (arith, follower_keeps)

  -- where no enabling waits, whatever the follower
  plain_good : (A : Type 0) (due : Followers) (v : Result FollowerByte DecodeFault) → waiting ≡ false → GoodIfAccepted A (decoded_did (follower_taken due v) x)
  unfolding decoded_did
  plain_good A due v q = grind (arith, follower_good)

  -- where one waits, the follower is of WR3
  search_good : (f : Follower) (rest : Followers) (b : ℕ) → (f ≡ Mask) ⊎ (f ≡ Match) → OnlySearch (listed rest) → InBlock x.registers → GoodIfAccepted (IsLast rest) (decoded_did (taken (Some f) rest b) x)
  unfolding decoded_did
  search_good f rest b e o k = grind (arith, follower_good)

  taken_good : (t : Bool) (f : Follower) (rest : Followers) (b : ℕ) → waiting ≡ t → (t ≡ true → (((f ≡ Mask) ⊎ (f ≡ Match)) × OnlySearch (listed rest)) × InBlock x.registers) → GoodIfAccepted (IsLast rest) (decoded_did (taken (Some f) rest b) x)
  taken_good t f rest b q w = grind (arith, plain_good, search_good)

  -- A CONTROL BYTE

  decoded_good : (due : Followers) (b : ℕ) → x.registers.sequence.due ≡ due → (waiting ≡ true → OnlySearch (listed due) × InBlock x.registers) → GoodIfAccepted (EnablingByte b x.registers.sequence) (decoded_did (decoded due b) x)
  decoded_good Zero b q w = first_taken_good x n h u b (decoded_first b) q refl (first_fits b)
  decoded_good (One a) b q w = then_by _ (λ l. enable_bit_before a q l.0) (taken_good _ a Zero b refl w)
  decoded_good _ b q w = grind (arith, taken_good)

write_good : (l : Loan) (b : ℕ) (x : Chip) → x.registers.loan ≡ l → Kept x.registers → GoodIfAccepted (EnablingByte b x.registers.sequence) (write_did l b x)
unfolding write_did
write_good l b x n k = grind (arith, decoded_good)

-- an accepted byte finds no loan open and leaves none
pub record Wrote (b : ℕ) (x y : Chip) : Type 0 where
  pub kept : Kept y.registers
  pub before : x.registers.loan ≡ Closed
  pub after : y.registers.loan ≡ Closed
  pub only_by : y.registers.progress.enabled ≡ true → EnablingByte b x.registers.sequence

closed_before : (l : Loan) (b : ℕ) (x y : Chip) → write_did l b x ≡ Ok y → l ≡ Closed
unfolding write_did
closed_before l b x y z = grind arith

pub wrote_kept : (b : ℕ) (x y : Chip) → Kept x.registers → wrote b x ≡ Ok y → Wrote b x y
unfolding wrote
wrote_kept b x y k z =
    let g = subst (GoodIfAccepted (EnablingByte b x.registers.sequence)) z (write_good x.registers.loan b x refl k) in
    let c = closed_before x.registers.loan b x y z in
    assumption
