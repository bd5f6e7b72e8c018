-- The first register marked is the number of zeros below the lowest mark.
use Rattle.std.proofs.Common.{◌≡◌, ℕ, zero, suc, ◌<◌, min, Bool, true, false, cond, refl, ◌∙◌, arith}
use Rattle.std.specs.Int.{w8, bit_at, trailing_zeros}
use Rattle.std.specs.Int.Count.{count_trailing_zeros}
use Rattle.std.proofs.lemmas.Bool.Decides.{nat_tests}
use Rattle.std.proofs.lemmas.Nat.Bits.{and_pow, bit_at-trailing_zeros}
use Rattle.registers.specs.ReadOuts.{is_unread, lowest}
use Rattle.channel.proofs.read_out.lowest.Goals as goal

first : (p : ℕ → Bool) (t : ℕ) → p t ≡ true → ((i : ℕ) → i < t → p i ≡ false) → min t 6 ≡ cond (p 0) 0 (cond (p 1) 1 (cond (p 2) 2 (cond (p 3) 3 (cond (p 4) 4 (cond (p 5) 5 6)))))
first p t h f = grind (arith, nat_tests, f 0, f 1, f 2, f 3, f 4, f 5)

marked : (n i : ℕ) → bit_at n i ≡ 1 → is_unread n i ≡ true
marked n i h = grind (arith, nat_tests, and_pow n i)

unmarked : (n i : ℕ) → bit_at n i ≡ 0 → is_unread n i ≡ false
unmarked n i h = grind (arith, nat_tests, and_pow n i)

zeros : (n : ℕ) → n < 256 → min (trailing_zeros w8 n) 6 ≡ lowest n
unfolding count_trailing_zeros
zeros zero h = refl
zeros (suc n) h =
    let z = bit_at-trailing_zeros w8 (suc n) (omega arith) h in
    first (is_unread (suc n)) _ (marked _ _ z.1) (λ i k. unmarked _ i (z.2 i k))

pub returns : goal.returns
returns c = c.min.ensures ∙ zeros c.args.unread (omega (arith, c.ranges.unread))
