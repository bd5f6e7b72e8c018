use Rattle.std.proofs.Common.{true, false, arith, ◌≡◌, ◌&&◌, nat_le, Some}
use Rattle.std.proofs.lemmas.Bool.Decides.{nat_tests}
use Rattle.std.proofs.lemmas.Fmt.{hex_byte}
use Rattle.std.specs.Fmt.{styled_digits_output}
use Rattle.text.specs.Shown.{hexadecimal_byte}
use Rattle.text.proofs.shown.PrintableByteDisplay.fmt.Goals as goal
use Rattle.text.proofs.shown.PrintableByteDisplay.fmt.Goals.{in_default-via-then-byte-lt32, in_default-via-else-byte-lt32+else-byte-lt127}

pub returns-in_default-clause-writes : goal.returns-in_default-clause-writes
returns-in_default-clause-writes g c =
    let b = c.args.self.now.0 in
    let digits : styled_digits_output c.in_radix.result c.laid_out.result ≡ Some (hexadecimal_byte b) = rw (c.laid_out.ensures, c.in_radix.ensures, hex_byte true b (omega arith)) in
    let other : (nat_le 0x20 b && nat_le b 0x7e) ≡ false = elim c.in_default.branch [
      | in_default-via-then-byte-lt32 w ↦ grind (arith, nat_tests)
      | in_default-via-else-byte-lt32+else-byte-lt127 w ↦ grind (arith, nat_tests)
    ] in
    rw other (rw digits at c.write.ensures.writes)
