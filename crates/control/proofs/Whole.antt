-- A rule that holds over a whole table, carried to each entry.
use Rattle.std.proofs.Common.{◌≡◌, ℕ, zero, suc, ◌+◌, ◌<◌, List, get_or, sym, refl, ap, ◌∙◌, le_of_suc-le-suc, not-suc-le-zero, add-zero, add-suc, suc-add, zero-add}
use Rattle.control.specs.Tables.{ruled}

from : {X : Type 0} (f : ℕ → X) (d : X) (n i k : ℕ) → k < n → get_or (ruled f i n) k d ≡ f (i + k)
from f d zero i k h = absurd (not-suc-le-zero h)
from f d (suc n) i zero h = ap f (sym (add-zero i))
from f d (suc n) i (suc k) h = from f d n (suc i) k (le_of_suc-le-suc h) ∙ ap f (suc-add i k ∙ sym (add-suc i k))

pub at : {X : Type 0} (f : ℕ → X) (n : ℕ) (xs : List X) (d : X) → xs ≡ ruled f 0 n → (k : ℕ) → k < n → get_or xs k d ≡ f k
at f n xs d e k h = ap (λ ys. get_or ys k d) e ∙ from f d n 0 k h ∙ ap f (zero-add k)

-- two rules that agree over the whole table agree at each entry
pub agree : {X : Type 0} (f g : ℕ → X) (n : ℕ) (d : X) → ruled f 0 n ≡ ruled g 0 n → (k : ℕ) → k < n → f k ≡ g k
agree f g n d e k h = sym (at f n (ruled f 0 n) d refl k h) ∙ at g n (ruled f 0 n) d e k h
