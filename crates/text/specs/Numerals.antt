-- The value of a word of digits. Assumes nothing.
use Rattle.std.specs.Prelude.{ℕ, ◌+◌, ◌-◌, ◌*◌, cond, ◌&&◌, List, [], ◌∷◌, length, Some, None, Option, nat_le}
use Rattle.text.specs.declared.numeral.Base.{Base}
use Rattle.text.specs.declared.numeral.Base.TheVariants.{Decimal, Hexadecimal}

-- the number of digits of a base
abbrev pub radix_of : Base → ℕ
radix_of Decimal = 10
radix_of Hexadecimal = 16

-- the digit that a character is: 0 to 9, and in base 16 A to F of either case
abbrev pub digit_of : Base → ℕ → Option ℕ
digit_of Decimal c = cond (nat_le 48 c && nat_le c 57) (Some (c - 48)) None
digit_of Hexadecimal c =
    cond (nat_le 48 c && nat_le c 57) (Some (c - 48))
    (cond (nat_le 65 c && nat_le c 70) (Some (c - 55))
    (cond (nat_le 97 c && nat_le c 102) (Some (c - 87)) None))

-- the value of digits behind a value so far: nothing where a character is no digit
abbrev pub value_after : Base → ℕ → List ℕ → Option ℕ
value_after b v [] = Some v
value_after b v (c ∷ cs) = elim (digit_of b c) [ None ↦ None | Some d ↦ value_after b (v * radix_of b + d) cs ]

-- a value of at most m
abbrev pub at_most : ℕ → Option ℕ → Option ℕ
at_most m None = None
at_most m (Some v) = cond (nat_le v m) (Some v) None

-- a word of one digit or more, leading zeros too, with a value of at most m
abbrev pub numeral_of : Base → ℕ → List ℕ → Option ℕ
numeral_of b m [] = None
numeral_of b m (c ∷ cs) = at_most m (value_after b 0 (c ∷ cs))

-- a hexadecimal word of at most n digits
abbrev pub hexadecimal_of : ℕ → ℕ → List ℕ → Option ℕ
hexadecimal_of n m w = cond (nat_le (length w) n) (numeral_of Hexadecimal m w) None
