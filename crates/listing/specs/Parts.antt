-- The parts that lines are made of, as bytes of text.
use Rattle.std.specs.Prelude.{ℕ, Bool, true, false, List, ◌++◌, codes}

-- a bit
abbrev pub bit_word : Bool → List ℕ
bit_word true = codes "1"
bit_word false = codes "0"

-- one word after another
abbrev pub spaced : List ℕ → List ℕ → List ℕ
spaced one other = one ++ (codes " " ++ other)

-- a field by its name, with a space in front of it
abbrev pub field : List ℕ → List ℕ → List ℕ
field name words = codes " (" ++ (name ++ (codes " " ++ (words ++ codes ")")))

-- a field of one bit
abbrev pub flag : List ℕ → Bool → List ℕ
flag name bit = field name (bit_word bit)
