use Rattle.std.proofs.Common.{◌≡◌, ◌++◌, map, Some}
use Rattle.std.specs.Vec.Iter.{into_iter_items}
use Rattle.text.specs.Numerals.{hexadecimal_of}
use Rattle.text.specs.Pieces.{words_of, seen}
use Rattle.listing.specs.Reads.{no_byte_in}
use Rattle.listing.proofs.read.read_line.Given as goal

-- the bytes so far, and what the words that are left say, give the whole; the first that is no byte is among those left
abbrev pub invariant-loop-word : goal.invariant-loop-word
invariant-loop-word l =
    (map Some l.bytes.items ++ map (hexadecimal_of 2 0xff) (seen (into_iter_items l.word-iterator)) ≡ map Some l.initial.bytes.items ++ map (hexadecimal_of 2 0xff) (words_of l.text))
    × (no_byte_in (seen (into_iter_items l.word-iterator)) ≡ no_byte_in (words_of l.text))
