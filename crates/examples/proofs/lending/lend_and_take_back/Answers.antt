-- The frame says where the RAM lies after the writes, and the read what it shows there.
use Rattle.std.proofs.Common.{◌≡◌, ℕ, ◌-◌, cond, ltb, List, length, get_or, sym, ap, ◌∙◌}
use Rattle.spaces.specs.Cells.{Frame, among}
use Rattle.examples.proofs.lending.lend_and_take_back.Goals as goal

second_byte : (b f low : ℕ) (bs xs : List ℕ) (r : ℕ) → b ≡ 32768 → f ≡ 32768 → xs ≡ bs →
    r ≡ cond (ltb 32769 b) low (cond (among f (length bs) 32769) (get_or bs (32769 - f) 0) 255) → r ≡ cond (ltb 1 (length xs)) (get_or xs 1 0) 255
second_byte b f low bs xs r p q e h =
    h ∙ ap (λ b. cond (ltb 32769 b) low (cond (among f (length bs) 32769) (get_or bs (32769 - f) 0) 255)) p
    ∙ ap (λ f. cond (among f (length bs) 32769) (get_or bs (32769 - f) 0) 255) q ∙ sym (ap (λ xs. cond (ltb 1 (length xs)) (get_or xs 1 0) 255) e)

number : ℕ → Frame → ℕ
number i f = get_or f.numbers i 0

pub returns : goal.returns
unfolding number
returns c =
    let kept = c.write_two.ensures.frame ∙ c.new-memory.ensures.frame in
    let border = ap (number 2) kept ∙ ap (number 0) c.new-2.ensures.frame in
    let first = ap (number 3) kept ∙ ap (number 1) c.new-2.ensures.frame ∙ c.new-ram.ensures.first in
    let back = c.into_bytes.ensures.slice ∙ ap (λ m. m.bytes.now) (c.into_parts-ram.ensures.1 ∙ ap (λ m. m.high) c.into_memory.ensures) in
    second_byte _ _ _ _ _ _ border first back c.read-shown.ensures
