use Rattle.std.proofs.Common.{◌≡◌, ◌≤◌, drop}
use Rattle.text.specs.Numerals.{value_after, at_most}
use Rattle.text.proofs.numeral.value.Given as goal

-- what is left gives the whole
abbrev pub invariant-loop-character : goal.invariant-loop-character
invariant-loop-character l =
    (l.value ≤ l.most)
    × (at_most l.most (value_after l.base l.value (drop l.character-index l.word)) ≡ at_most l.most (value_after l.base 0 l.word))
