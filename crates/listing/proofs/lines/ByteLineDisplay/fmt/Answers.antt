use Rattle.std.proofs.Common.{true, arith, ◌≡◌, Some}
use Rattle.std.proofs.lemmas.Fmt.{hex_byte}
use Rattle.std.specs.Fmt.{styled_digits_output}
use Rattle.text.specs.Shown.{hexadecimal_byte}
use Rattle.listing.proofs.lines.ByteLineDisplay.fmt.Goals as goal

pub returns-clause-writes : goal.returns-clause-writes
returns-clause-writes g c =
    let b = c.args.self.now.byte in
    let digits : styled_digits_output c.in_radix.result c.laid_out.result ≡ Some (hexadecimal_byte b) = rw (c.laid_out.ensures, c.in_radix.ensures, hex_byte true b (omega arith)) in
    rw (digits, c.next.ensures) at c.writeln.ensures.writes
