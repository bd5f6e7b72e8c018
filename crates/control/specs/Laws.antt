-- The law of first bytes: a byte is answered by the one meaning whose bits it has, and refused where none has its bits.
use Rattle.std.specs.Prelude.{◌≡◌, ℕ, ◌+◌, ◌-◌, ◌/◌, ◌%◌, ◌^◌, min, Bool, true, false, cond, List, [], ◌∷◌, Ok, Result, ◌==◌}
use Rattle.control.specs.declared.first.First.{First}
use Rattle.control.specs.declared.first.First.TheVariants as first
use Rattle.control.specs.declared.fault.DecodeFault.{DecodeFault}
use Rattle.control.specs.Numbers.{class_bits, source_bit, space_bit, rule_bits, mode_bits, level_bit, command_code}

-- the number that the bits of b form, from the highest given down to the lowest
abbrev pub bits : ℕ → ℕ → ℕ → ℕ
bits b highest lowest = (b / 2 ^ lowest) % 2 ^ (highest + 1 - lowest)

-- one bit
abbrev pub bit : ℕ → ℕ → ℕ
bit b d = bits b d d

-- a bit that says yes
abbrev pub yes_bit : Bool → ℕ
yes_bit true = 1
yes_bit false = 0

-- all of them hold
abbrev pub all : List Bool → Bool
all [] = true
all (p ∷ ps) = cond p (all ps) false

-- the byte b has the bits of a meaning; followers' bits may be any, and D5 D4 of a fixed port are 10 or 11
abbrev pub says : First → ℕ → Bool
says (first.Wr0 class source) b = all ((bit b 7 == 0) ∷ (bits b 1 0 == class_bits class) ∷ (bit b 2 == source_bit source) ∷ [])
says (first.Wr1 space rule) b = all ((bit b 7 == 0) ∷ (bits b 2 0 == 4) ∷ (bit b 3 == space_bit space) ∷ (min 2 (bits b 5 4) == rule_bits rule) ∷ [])
says (first.Wr2 space rule) b = all ((bit b 7 == 0) ∷ (bits b 2 0 == 0) ∷ (bit b 3 == space_bit space) ∷ (min 2 (bits b 5 4) == rule_bits rule) ∷ [])
says (first.Wr3 stop interrupts enable) b = all ((bit b 7 == 1) ∷ (bits b 1 0 == 0) ∷ (bit b 2 == yes_bit stop) ∷ (bit b 5 == yes_bit interrupts) ∷ (bit b 6 == yes_bit enable) ∷ [])
says (first.Wr4 mode) b = all ((bit b 7 == 1) ∷ (bits b 1 0 == 1) ∷ (bits b 6 5 == mode_bits mode) ∷ [])
says (first.Wr5 ready heed restart) b = all ((bits b 7 6 == 2) ∷ (bits b 2 0 == 2) ∷ (bit b 3 == level_bit ready) ∷ (bit b 4 == yes_bit heed) ∷ (bit b 5 == yes_bit restart) ∷ [])
says (first.Wr6 command) b = b == command_code command

-- the answer to b is a meaning exactly where b has its bits
abbrev pub Exact : ℕ → Result First DecodeFault → Type 0
Exact b r = (f : First) → (says f b ≡ true → r ≡ Ok f) × (r ≡ Ok f → says f b ≡ true)
