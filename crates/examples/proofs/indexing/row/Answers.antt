use Rattle.std.proofs.Common.{◌<◌, refl, rules}
use Rattle.control.specs.Tables.{entry_of}
use Rattle.control.proofs.Whole.{at}
use Rattle.examples.proofs.indexing.row.Goals as goal

pub returns : goal.returns
returns c =
    let h : c.args.byte < 256 = search rules in
    rw (c.from.ensures, at entry_of 256 _ _ refl c.args.byte h)
