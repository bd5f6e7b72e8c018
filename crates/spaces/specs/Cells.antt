-- What a memory means: a byte and a mark at each of 65,536 addresses. Assumes nothing.
use Rattle.std.specs.Prelude.{◌≡◌, ℕ, ◌-◌, ◌<◌, Bool, false, cond, not, ◌&&◌, List, [], ◌++◌, length, ◌==◌, nat_le, nat_lt, Option, Some, None, slice_index, slice_set}
use Rattle.std.specs.Borrow.{GName}

pub record Cells : Type 0 where
  pub byte : ℕ → ℕ
  -- the mark: whether a write puts its byte there
  pub writable : ℕ → Bool

-- the meaning of a memory that shows m: m at the 65,536 addresses; past the last one there is nothing, said as FFh, not writable
abbrev pub meaning : Cells → Cells
meaning m = record { byte = λ k. cond (nat_lt k 65536) (m.byte k) 255; writable = λ k. cond (nat_lt k 65536) (m.writable k) false }

-- the same byte and the same mark at each of the 65,536 addresses, and nothing more
abbrev pub SameCells : Cells → Cells → Type 0
SameCells m n = (k : ℕ) → k < 65536 → (m.byte k ≡ n.byte k) × (m.writable k ≡ n.writable k)

-- after a write of b to the address a: at a writable address the byte is there, and no other address is altered
abbrev pub put : Cells → ℕ → ℕ → Cells
put m a b = record { byte = λ k. cond (k == a && m.writable a) b (m.byte k); writable = m.writable }

-- whether the address k, up to 65,535, lies among n addresses from f on
abbrev pub among : ℕ → ℕ → ℕ → Bool
among f n k = nat_le f k && nat_lt k 65536 && nat_lt (k - f) n

-- the place of the address a in a slice of n bytes lent from the address f on
abbrev pub place : ℕ → ℕ → ℕ → Option ℕ
place f n a = cond (among f n a) (Some (a - f)) None

-- lent RAM: address f + i shows byte i and is writable; all others show FFh and are not
abbrev pub ram : ℕ → List ℕ → Cells
ram f xs = record {
  byte = λ k. cond (among f (length xs) k) (slice_index xs (k - f)) 255;
  writable = among f (length xs);
}

-- a boot table: 256 bytes from address 0, FFh above, nowhere writable
abbrev pub table : List ℕ → Cells
table xs = record { byte = λ k. cond (nat_lt k 256) (slice_index xs k) 255; writable = λ _. false }

-- m with the addresses f to l, both counted, not writable; with f above l none is locked
abbrev pub locked : ℕ → ℕ → Cells → Cells
locked f l m = record { byte = m.byte; writable = λ k. not (nat_le f k && nat_le k l) && m.writable k }

-- the addresses below b are those of m, the rest those of n
abbrev pub parted : ℕ → Cells → Cells → Cells
parted b m n = record {
  byte = λ k. cond (nat_lt k b) (m.byte k) (n.byte k);
  writable = λ k. cond (nat_lt k b) (m.writable k) (n.writable k);
}

-- a slice that a space holds on loan: its ghost name, which is what the lender knows it by, and the part of it that
-- lies past the last address and that no address shows
pub record Lent : Type 0 where
  pub name : GName
  pub hidden : List ℕ

-- what no call of a space alters: the slices on loan, and the numbers that say where they and the layers' borders lie.
-- With the meaning they tell a lender its slice again
pub record Frame : Type 0 where
  pub slices : List Lent
  pub numbers : List ℕ

-- two frames, and numbers in front of one
abbrev pub joined : Frame → Frame → Frame
joined f g = record { slices = f.slices ++ g.slices; numbers = f.numbers ++ g.numbers }

abbrev pub numbered : List ℕ → Frame → Frame
numbered ns f = record { slices = f.slices; numbers = ns ++ f.numbers }

-- nothing on loan
abbrev pub no_frame : Frame
no_frame = record { slices = []; numbers = [] }

-- a slice lent from the address f on, after a write of b to the address a
abbrev pub stored : ℕ → List ℕ → ℕ → ℕ → List ℕ
stored f xs a b = cond (among f (length xs) a) (slice_set xs (a - f) b) xs
