-- What a device space means: at each of 256 ports what waits to be read, and what is kept of the writes. Assumes nothing.
use Rattle.std.specs.Prelude.{◌≡◌, ℕ, ◌<◌, cond, List, [], ◌∷◌, ◌++◌, drop, ◌==◌, nat_lt, slice_index_or}
use Rattle.ring.specs.Kept.{last}

pub record Port : Type 0 where
  pub waiting : List ℕ
  pub rest : ℕ
  pub kept : List ℕ
  pub depth : ℕ

-- a port that nothing serves: lists are empty, the rest byte is FFh and the depth 0
abbrev pub silent : Port
silent = record { waiting = []; rest = 255; kept = []; depth = 0 }

-- the meaning of a device space with the ports s: s at the 256 ports; past the last one there is nothing, said as a silent port
abbrev pub meaning : (ℕ → Port) → ℕ → Port
meaning s k = cond (nat_lt k 256) (s k) silent

-- the same lists, rest byte and depth at each of the 256 ports, and nothing more
abbrev pub SamePorts : (ℕ → Port) → (ℕ → Port) → Type 0
SamePorts s t = (k : ℕ) → k < 256 → s k ≡ t k

-- what a read answers: the first waiting byte, or with none waiting the rest byte
abbrev pub answer : Port → ℕ
answer p = slice_index_or p.waiting 0 p.rest

-- a port after a read: the first waiting byte is taken
abbrev pub taken : Port → Port
taken p = record { waiting = drop 1 p.waiting; rest = p.rest; kept = p.kept; depth = p.depth }

-- a port after a write of b: b at the end of the kept list, of which the last depth bytes are kept
abbrev pub added : Port → ℕ → Port
added p b = record { waiting = p.waiting; rest = p.rest; kept = last p.depth (p.kept ++ b ∷ []); depth = p.depth }

-- the ports s with q at the port n: no other port is touched
abbrev pub with_port : (ℕ → Port) → ℕ → Port → ℕ → Port
with_port s n q k = cond (k == n) q (s k)

-- the port n is q, and nothing serves another
abbrev pub only : ℕ → Port → ℕ → Port
only n q k = cond (k == n) q silent

-- the ports below b are those of s, the rest those of t
abbrev pub shared : ℕ → (ℕ → Port) → (ℕ → Port) → ℕ → Port
shared b s t k = cond (nat_lt k b) (s k) (t k)
