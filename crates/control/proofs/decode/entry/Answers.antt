use Rattle.std.proofs.Common.{◌<◌, [], refl, ap, ◌∙◌, rules}
use Rattle.control.specs.Firsts.{followers_of}
use Rattle.control.specs.Followers.{listed}
use Rattle.control.specs.Tables.{entry_of}
use Rattle.control.proofs.Whole.{at, agree}
use Rattle.control.proofs.decode.entry.Goals as goal

pub returns : goal.returns
returns c =
    let h : c.args.byte < 256 = search rules in
    let whole = at entry_of 256 _ _ c.whole_table.ensures c.args.byte h in
    record { whole = whole; order = ap (λ e. listed e.followers) whole ∙ agree (λ b. listed (entry_of b).followers) followers_of 256 [] refl c.args.byte h }
