-- The bits of a control byte, D7 the highest.
use Rattle.std.specs.Prelude.{ℕ, Bool, not, ◌==◌, bit_and}

abbrev pub D0 : ℕ
D0 = 0x01

abbrev pub D1 : ℕ
D1 = 0x02

abbrev pub D2 : ℕ
D2 = 0x04

abbrev pub D3 : ℕ
D3 = 0x08

abbrev pub D4 : ℕ
D4 = 0x10

abbrev pub D5 : ℕ
D5 = 0x20

abbrev pub D6 : ℕ
D6 = 0x40

abbrev pub D7 : ℕ
D7 = 0x80

-- the bits of b under the mask m are v
abbrev pub field : ℕ → ℕ → ℕ → Bool
field b m v = bit_and b m == v

-- the bit d of b is 1
abbrev pub on : ℕ → ℕ → Bool
on b d = not (field b d 0)
