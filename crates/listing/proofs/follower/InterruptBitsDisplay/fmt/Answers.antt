use Rattle.std.proofs.lemmas.List.{append_assoc}
use Rattle.listing.specs.Parts.{bit_word}
use Rattle.listing.proofs.follower.InterruptBitsDisplay.fmt.Goals as goal

pub returns-clause-writes : goal.returns-clause-writes
returns-clause-writes g c =
    let x = c.args.self.now.0 in
    rw (append_assoc (bit_word x.on_match) _ _, append_assoc (bit_word x.on_end) _ _, append_assoc (bit_word x.pulses) _ _) c.write.ensures.writes
