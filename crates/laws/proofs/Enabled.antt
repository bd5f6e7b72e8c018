-- Each enabling leaves an enabled channel, with length, count and counters as it found them. Assumes nothing.
use Rattle.std.proofs.Common.{◌≡◌, ℕ, Bool, true, ◌⊎◌, List, [], ◌∷◌, Ok, Err, Result, sym, refl, subst, arith}
use Rattle.control.specs.Firsts.{wr6_of, decoded_first, followers_of}
use Rattle.control.specs.Tables.{decoded}
use Rattle.control.specs.declared.first.First.TheVariants.{Wr3}
use Rattle.control.specs.declared.follower.Follower.{Follower}
use Rattle.control.specs.declared.follower.Follower.TheVariants as due
use Rattle.control.specs.declared.follower.Followers.{Followers}
use Rattle.control.specs.declared.follower.Followers.TheVariants.{Zero, One}
use Rattle.registers.specs.declared.chip.Chip.{Chip}
use Rattle.registers.specs.declared.fault.ChannelFault.{ChannelFault}
use Rattle.registers.specs.declared.row.Loan.{Loan}
use Rattle.registers.specs.declared.row.Loan.TheVariants.{Closed}
use Rattle.registers.specs.declared.row.Registers.{Registers}
use Rattle.registers.specs.Calls.{State, write_call, table_call}
use Rattle.registers.specs.Firsts.{enabling, with_wr3}
use Rattle.registers.specs.Kept.{Kept}
use Rattle.registers.specs.Writes.{decoded_did, write_did, wrote}
use Rattle.laws.specs.Enabling.{EnablingByte, enable_command, enable_bit_alone, enable_bit_before, EnabledBy, Accepted, Found, SameBlock, EnablingsLeaveFound}
use Rattle.laws.proofs.Writes.{wrote_kept}

-- THE THREE BYTES

record Enabled (x y : Chip) : Type 0 where
  on : y.registers.progress.enabled ≡ true
  block : SameBlock x y

abbrev EnabledIf : Chip → Result Chip ChannelFault → Type 0
EnabledIf x (Ok y) = Enabled x y
EnabledIf x (Err f) = Unit {0}

-- enabled at once, from registers r with the same block
enabling_enabled : (x : Chip) (r : Registers) → r.program.length ≡ x.registers.program.length → r.progress ≡ x.registers.progress → EnabledIf x (enabling Zero r x)
enabling_enabled x r l k = grind arith

-- by the byte b, where these followers are due
abbrev EnabledBefore : ℕ → Chip → Followers → Type 0
EnabledBefore b x q = EnabledIf x (decoded_did (decoded q b) x)

command_enabled : (x : Chip) → EnabledBefore 0x87 x Zero
unfolding decoded_did wr6_of
command_enabled x = enabling_enabled x x.registers refl refl

wr3_enabled : (b : ℕ) (stop interrupts : Bool) (x : Chip) → decoded_first b ≡ Ok (Wr3 stop interrupts true) → followers_of b ≡ [] → EnabledBefore b x Zero
unfolding decoded_did
wr3_enabled b stop interrupts x e n = rw (e, n) (enabling_enabled x (with_wr3 stop interrupts x.registers) refl refl)

last_enabled : (b : ℕ) (x : Chip) (f : Follower) → x.registers.sequence.enabling ≡ true → (f ≡ due.Mask) ⊎ (f ≡ due.Match) → EnabledBefore b x (One f)
unfolding decoded_did
last_enabled b x f e h = grind arith

decoded_enabled : (b : ℕ) (x : Chip) → Kept x.registers → EnablingByte b x.registers.sequence → EnabledBefore b x x.registers.sequence.due
decoded_enabled b x k (enable_command d e) = subst (EnabledBefore b x) (sym d) (subst (λ b. EnabledBefore b x Zero) (sym e) (command_enabled x))
decoded_enabled b x k (enable_bit_alone stop interrupts d e n) = subst (EnabledBefore b x) (sym d) (wr3_enabled b stop interrupts x e n)
decoded_enabled b x k (enable_bit_before f d e) = subst (EnabledBefore b x) (sym d) (last_enabled b x f e (rw d at (k.enabling e).followers).0)

-- A WRITE AND A TABLE

write_closed : (l : Loan) (b : ℕ) (x : Chip) → l ≡ Closed → write_did l b x ≡ decoded_did (decoded x.registers.sequence.due b) x
unfolding write_did
write_closed l b x n = grind arith

byte_enabled : (b : ℕ) (x y : Chip) → Kept x.registers → EnabledBy b x y → Enabled x y
unfolding wrote
byte_enabled b x y k e = let w = wrote_kept b x y k e.accepted in let d = decoded_enabled b x k e.byte in let c = write_closed x.registers.loan b x w.before in grind arith

pub accepted_kept : (bs : List ℕ) (x y : Chip) → Kept x.registers → Accepted bs x y → Kept y.registers
accepted_kept [] x y k a = grind arith
accepted_kept (b ∷ bs) x y k a = accepted_kept bs a.0 y (wrote_kept b x a.0 k a.1).kept a.2

byte_found : (b : ℕ) (x : Chip) (t : State) → Kept x.registers → EnabledBy b x t.chip → Found t × SameBlock x t.chip
byte_found b x t k e = let w = wrote_kept b x t.chip k e.accepted in let n = byte_enabled b x t.chip k e in grind arith

pub enablings_leave_found : EnablingsLeaveFound
enablings_leave_found s (write_call b) x k e = byte_found b x _ (rw e.0 k) e.1
enablings_leave_found s (table_call bs) x k e = byte_found e.byte x _ (accepted_kept e.front s.chip x k e.before) e.enabling
enablings_leave_found s _ x k e = absurd e
