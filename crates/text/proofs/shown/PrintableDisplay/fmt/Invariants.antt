use Rattle.std.proofs.Common.{take}
use Rattle.std.specs.Fmt.{HasWritten, IsPlainFormatter}
use Rattle.text.specs.Shown.{shown}
use Rattle.text.proofs.shown.PrintableDisplay.fmt.Given as goal

-- what is written so far are the bytes so far
abbrev pub invariant-loop-byte : goal.invariant-loop-byte
invariant-loop-byte g l =
    IsPlainFormatter l.initial.f → HasWritten g.W.Write.write_str_gives l.initial.f (shown (take l.byte-index l.byte-items)) l.f
