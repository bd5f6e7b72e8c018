-- Decoding and the bits that meanings stand for, compared over the 256 bytes.
use Rattle.std.proofs.Common.{◌≡◌, ℕ, ◌<◌, Bool, true, false, cond, None, Ok, Err, Result, sym, refl, ap, ◌∙◌}
use Rattle.control.specs.declared.fault.DecodeFault.{DecodeFault}
use Rattle.control.specs.declared.first.First.{First}
use Rattle.control.specs.declared.first.First.TheVariants.{Wr0, Wr1, Wr2, Wr3, Wr4, Wr5, Wr6}
use Rattle.control.specs.declared.fields.Class.TheVariants as class
use Rattle.control.specs.declared.fields.PortName.TheVariants as port
use Rattle.control.specs.declared.fields.Space.TheVariants as space
use Rattle.control.specs.declared.fields.AddressRule.TheVariants as rule
use Rattle.control.specs.declared.fields.Mode.TheVariants as mode
use Rattle.control.specs.declared.fields.Level.TheVariants as level
use Rattle.control.specs.declared.first.Command.TheVariants as command
use Rattle.control.specs.Firsts.{group_of, wr6_of, decoded_first, group_said}
use Rattle.control.specs.Tables.{ruled}
use Rattle.control.specs.Laws.{says}
use Rattle.control.proofs.Whole.{agree}

-- where a byte has the bits of a meaning, it is decoded to it: over all bytes, for each meaning
abbrev decoded_if : First → ℕ → Result First DecodeFault
decoded_if f b = cond (says f b) (decoded_first b) (Ok f)

-- a clause for each fork of the cases, of which the last clause takes what is left
only : (f : First) → ruled (decoded_if f) 0 256 ≡ ruled (λ b. Ok f) 0 256
unfolding wr6_of
only (Wr0 class.Transfer port.A) = refl
only (Wr0 class.Search port.A) = refl
only (Wr0 class.Both port.A) = refl
only (Wr1 space.Memory rule.Decrement) = refl
only (Wr1 space.Io rule.Decrement) = refl
only (Wr2 space.Memory rule.Decrement) = refl
only (Wr2 space.Io rule.Decrement) = refl
only (Wr3 true true true) = refl
only (Wr3 true false true) = refl
only (Wr3 false true true) = refl
only (Wr3 false false true) = refl
only (Wr4 mode.Byte) = refl
only (Wr5 level.Low true true) = refl
only (Wr5 level.Low false true) = refl
only (Wr5 level.High true true) = refl
only (Wr5 level.High false true) = refl
only (Wr6 command.PowerOn) = refl
only _ = refl

-- the byte has the bits of what it is decoded to
abbrev has : Result First DecodeFault → ℕ → Bool
has (Ok f) b = says f b
has (Err e) b = true

own : ruled (λ b. has (decoded_first b) b) 0 256 ≡ ruled (λ b. true) 0 256
unfolding wr6_of
own = refl

pub said_if : (b : ℕ) → b < 256 → (f : First) → says f b ≡ true → decoded_first b ≡ Ok f
said_if b h f e = sym (ap (λ q. cond q (decoded_first b) (Ok f)) e) ∙ agree (decoded_if f) (λ _. Ok f) 256 (Ok f) (only f) b h

pub says_if : (b : ℕ) → b < 256 → (f : First) → decoded_first b ≡ Ok f → says f b ≡ true
says_if b h f e = sym (ap (λ r. has r b) e) ∙ agree (λ k. has (decoded_first k) k) (λ _. true) 256 true own b h

-- decoding and the table agree on the group
pub same_group : (b : ℕ) → b < 256 → group_said (decoded_first b) ≡ group_of b
unfolding wr6_of
same_group = agree (λ b. group_said (decoded_first b)) group_of 256 None refl
