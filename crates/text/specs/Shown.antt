-- Bytes of an input as an error line shows them.
use Rattle.std.specs.Prelude.{ℕ, ◌+◌, ◌/◌, ◌%◌, cond, ◌&&◌, List, [], ◌∷◌, ◌++◌, codes, nat_le, nat_lt}
use Rattle.std.specs.List.{flat_map}

-- a digit below 16: 0 to 9, A to F
abbrev pub hexadecimal_digit : ℕ → ℕ
hexadecimal_digit d = cond (nat_lt d 10) (48 + d) (55 + d)

-- a byte's two digits
abbrev pub hexadecimal_byte : ℕ → List ℕ
hexadecimal_byte b = hexadecimal_digit (b / 16) ∷ hexadecimal_digit (b % 16) ∷ []

-- a byte: printable ASCII as it is, any other by its two hexadecimal digits
abbrev pub shown_byte : ℕ → List ℕ
shown_byte b = cond (nat_le 0x20 b && nat_le b 0x7e) (b ∷ []) (codes "\\x" ++ hexadecimal_byte b)

-- the bytes, one after the other
abbrev pub shown : List ℕ → List ℕ
shown bs = flat_map shown_byte bs
