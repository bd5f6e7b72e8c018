-- A read finishes nothing in class transfer or both, and there alone. Assumes nothing.
use Rattle.std.proofs.Common.{arith}
use Rattle.laws.specs.Carried.{TransferReadsAreUnfinished}

pub transfer_reads_are_unfinished : TransferReadsAreUnfinished
transfer_reads_are_unfinished i s z = grind arith
