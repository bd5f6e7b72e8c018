use Rattle.std.proofs.Common.{rules, arith, ◌==◌, length, sym}
use Rattle.std.proofs.lemmas.List.{take_all}
use Rattle.std.proofs.lemmas.List.Sums.{position_or_len_is}
use Rattle.text.proofs.pieces.uncommented.Goals as goal

pub returns-in-Some : goal.returns-in-Some
returns-in-Some c = rw (position_or_len_is (λ b. b == 35) c.args.line.now c.in-Some.comment 0 (search rules) (search rules) (search rules))

pub returns-in-None : goal.returns-in-None
returns-in-None c =
    let line = c.args.line.now in
    rw (position_or_len_is (λ b. b == 35) line (length line) 0 (search rules) (search rules) (search rules)) (sym (take_all _ line (omega arith)))
