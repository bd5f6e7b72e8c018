-- What a written table says, and what refuses it as it is read.
use Rattle.std.specs.Prelude.{◌≡◌, ℕ, ◌+◌, ◌<◌, List, [], ◌∷◌, map, None, Some, Option}
use Rattle.std.specs.List.{flat_map}
use Rattle.text.specs.Numerals.{hexadecimal_of}
use Rattle.text.specs.Pieces.{lines_of, words_of}
use Rattle.listing.specs.declared.read.ReadFault.{ReadFault}
use Rattle.listing.specs.declared.read.ReadFault.TheVariants.{NoByte, Memory}

-- the words of a table's lines
abbrev pub table_words : List ℕ → List (List ℕ)
table_words text = flat_map words_of (lines_of text)

-- what these words say is these bytes: each word is one or two hexadecimal digits, and gives one byte
abbrev pub Say : List (List ℕ) → List ℕ → Type 0
Say ws bs = map (hexadecimal_of 2 0xff) ws ≡ map Some bs

-- a word that is not one or two hexadecimal digits, on a line that is counted from 1; or no memory
abbrev pub Refusal : ReadFault → Type 0
Refusal (NoByte line word) = (0 < line) × (hexadecimal_of 2 0xff word.now ≡ None)
Refusal Memory = Unit {0}

-- the first of these words that is no byte
abbrev pub no_byte_in : List (List ℕ) → Option (List ℕ)
no_byte_in [] = None
no_byte_in (w ∷ ws) = elim (hexadecimal_of 2 0xff w) [ None ↦ Some w | Some b ↦ no_byte_in ws ]

-- the first word of these lines that is no byte, with the number of its line, where the first line has this number
abbrev pub no_byte_at : ℕ → List (List ℕ) → Option (ℕ × List ℕ)
no_byte_at n [] = None
no_byte_at n (l ∷ ls) = elim (no_byte_in (words_of l)) [ None ↦ no_byte_at (n + 1) ls | Some w ↦ Some (n, w) ]

-- a refusal names that word of the lines from this one on
abbrev pub NamesTheFirst : ℕ → List (List ℕ) → ReadFault → Type 0
NamesTheFirst n ls (NoByte line word) = no_byte_at n ls ≡ Some (line, word.now)
NamesTheFirst n ls Memory = Unit {0}
