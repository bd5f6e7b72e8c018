use Rattle.std.proofs.Common.{◌≡◌, ℕ, ◌+◌, ◌*◌, ◌<◌, List, [], ◌∷◌, Some, None, Option, refl, arith, rules}
use Rattle.std.proofs.lemmas.List.{drop_more}
use Rattle.text.specs.declared.numeral.Base.{Base}
use Rattle.text.specs.declared.numeral.Base.TheVariants.{Decimal, Hexadecimal}
use Rattle.text.specs.Numerals.{radix_of, digit_of, value_after, at_most}
use Rattle.text.proofs.numeral.value.Goals as goal

grown : (b : Base) (m v d : ℕ) → m < v → m < v * radix_of b + d
grown Decimal m v d h = omega arith
grown Hexadecimal m v d h = omega arith

-- a value only grows, so one above the limit stays above it
over : (b : Base) (m v : ℕ) (cs : List ℕ) → m < v → at_most m (value_after b v cs) ≡ None
over b m v [] h = search rules
over b m v (c ∷ cs) h = go (digit_of b c) (λ d. over b m (v * radix_of b + d) cs (grown b m v d h)) where
  go : (o : Option ℕ) → ((d : ℕ) → at_most m (value_after b (v * radix_of b + d) cs) ≡ None) → at_most m (elim o [ None ↦ None | Some d ↦ value_after b (v * radix_of b + d) cs ]) ≡ None
  go None f = refl
  go (Some d) f = f d

pub returns-then-value-from : goal.returns-then-value-from
returns-then-value-from c =
    let left = rw (drop_more c.args.word.now c.loop-character.character-index 0 c.loop-character-test.true) at c.loop-character.invariant.1 in
    grind (arith, over)
