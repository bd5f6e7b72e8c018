use Rattle.std.proofs.lemmas.List.{append_assoc}
use Rattle.control.specs.Words.{level_word}
use Rattle.listing.specs.Parts.{bit_word}
use Rattle.listing.proofs.first.FirstWordsDisplay.fmt.Goals as goal

pub returns-in-Wr5-clause-writes : goal.returns-in-Wr5-clause-writes
returns-in-Wr5-clause-writes g c =
    let x = c.in-Wr5 in
    rw (x.is, append_assoc (level_word x.ready) _ _, append_assoc (bit_word x.heed_waits) _ _) c.write-in-Wr5.ensures.writes
