-- Source and destination, and how a port's counter moves. Assumes nothing.
use Rattle.std.specs.Prelude.{ℕ, ◌+◌, ◌%◌}
use Rattle.control.specs.declared.fields.AddressRule.{AddressRule}
use Rattle.control.specs.declared.fields.AddressRule.TheVariants.{Decrement, Increment, Fixed}
use Rattle.control.specs.declared.fields.PortName.{PortName}
use Rattle.control.specs.declared.fields.PortName.TheVariants.{A, B}
use Rattle.control.specs.declared.fields.Space.{Space}
use Rattle.control.specs.declared.fields.Space.TheVariants.{Memory, Io}
use Rattle.registers.specs.declared.program.Port.{Port}
use Rattle.registers.specs.declared.program.Program.{Program}
use Rattle.registers.specs.declared.progress.Progress.{Progress}

-- of two things, that of the port named, and that of the other port
abbrev pub of_port : {X : Type 0} → PortName → X → X → X
of_port A x y = x
of_port B x y = y

abbrev pub other : PortName → PortName
other A = B
other B = A

-- the port that bytes are read from
abbrev pub source_port : Program → Port
source_port p = of_port p.source p.a p.b

-- the port that bytes are written to, in a search too
abbrev pub destination_port : Program → Port
destination_port p = of_port p.source p.b p.a

abbrev pub source_counter : Program → Progress → ℕ
source_counter p k = of_port p.source k.a k.b

abbrev pub destination_counter : Program → Progress → ℕ
destination_counter p k = of_port p.source k.b k.a

-- the address of a cycle: the counter, in I/O its low 8 bits
abbrev pub address_of : Space → ℕ → ℕ
address_of Memory n = n
address_of Io n = n % 256

-- a counter after a byte, modulo 65,536
abbrev pub moved : AddressRule → ℕ → ℕ
moved Decrement n = (n + 65535) % 65536
moved Increment n = (n + 1) % 65536
moved Fixed n = n

-- a counter after a load as destination: a fixed one keeps it
abbrev pub loaded_destination : AddressRule → ℕ → ℕ → ℕ
loaded_destination Decrement start old = start
loaded_destination Increment start old = start
loaded_destination Fixed start old = old
