use Rattle.std.proofs.Common.{◌≡◌, ◌+◌, ◌++◌, map, Some}
use Rattle.std.specs.Iterator.Adapters.{enumerate_source, enumerate_count}
use Rattle.std.specs.List.{flat_map}
use Rattle.std.specs.Vec.Iter.{into_iter_items}
use Rattle.text.specs.Numerals.{hexadecimal_of}
use Rattle.text.specs.Pieces.{lines_of, words_of, seen}
use Rattle.listing.specs.Reads.{table_words, no_byte_at}
use Rattle.listing.proofs.read.read_table.Given as goal

-- the bytes so far, and what the lines that are left say, give the whole; the first word that is no byte is on one of those left
abbrev pub invariant-loop-i : goal.invariant-loop-i
invariant-loop-i l =
    (map Some l.bytes.items ++ map (hexadecimal_of 2 0xff) (flat_map words_of (seen (into_iter_items (enumerate_source l.i-iterator)))) ≡ map (hexadecimal_of 2 0xff) (table_words l.text))
    × (no_byte_at (enumerate_count l.i-iterator + 1) (seen (into_iter_items (enumerate_source l.i-iterator))) ≡ no_byte_at 1 (lines_of l.text))
