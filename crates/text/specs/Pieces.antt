-- The lines of a text and the words of a line. Assumes nothing.
use Rattle.std.specs.Prelude.{ℕ, List, map, filter, length, not, ◌==◌}
use Rattle.std.specs.Borrow.{Bor}
use Rattle.std.specs.List.{slice_split, before_first}

-- the parts of a text between one separator s and the next, empty ones too
abbrev pub parts_of : ℕ → List ℕ → List (List ℕ)
parts_of s cs = slice_split (λ c. c == s) cs

-- the part of a line in front of a comment, which a `#` starts
abbrev pub uncommented_of : List ℕ → List ℕ
uncommented_of cs = before_first (λ c. c == 35) cs

-- the parts that are not empty
abbrev pub not_empty : List (List ℕ) → List (List ℕ)
not_empty ws = filter (λ w. not (length w == 0)) ws

-- the lines of a text: what its line feeds part
abbrev pub lines_of : List ℕ → List (List ℕ)
lines_of cs = parts_of 10 cs

-- the words of a line: what its spaces part, up to a comment
abbrev pub words_of : List ℕ → List (List ℕ)
words_of cs = not_empty (parts_of 32 (uncommented_of cs))

-- what a list of references points to
abbrev pub seen : List (Bor (List ℕ)) → List (List ℕ)
seen xs = map (λ x. x.now) xs
