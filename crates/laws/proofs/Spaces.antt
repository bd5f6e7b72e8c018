-- Equal contents answer equally, and stay equal. Assumes nothing.
use Rattle.std.proofs.Common.{◌≡◌, ℕ, ◌<◌, arith}
use Rattle.control.specs.declared.fields.Space.{Space}
use Rattle.control.specs.declared.fields.Space.TheVariants.{Memory, Io}
use Rattle.registers.specs.Contents.{Contents, SameContents, byte_at, after_read, after_write}
use Rattle.spaces.specs.Ports.{Port, SamePorts, with_port}

-- an address of the space
abbrev pub Within : Space → ℕ → Type 0
Within Memory a = a < 65536
Within Io a = a < 256

with_port_same : (p q : ℕ → Port) (n : ℕ) (x y : Port) → SamePorts p q → x ≡ y → SamePorts (with_port p n x) (with_port q n y)
with_port_same p q n x y h e k l = let a = h k l in grind arith

pub byte_same : (s : Space) (a : ℕ) (c d : Contents) → Within s a → SameContents c d → byte_at s a c ≡ byte_at s a d
byte_same s a c d w h = grind arith

pub read_same : (s : Space) (a : ℕ) (c d : Contents) → Within s a → SameContents c d → SameContents (after_read s a c) (after_read s a d)
read_same s a c d w h = grind (arith, with_port_same)

pub write_same : (s : Space) (a v : ℕ) (c d : Contents) → Within s a → SameContents c d → SameContents (after_write s a v c) (after_write s a v d)
write_same s a v c d w h = grind (arith, with_port_same)
