-- The common words of two parts, by membership. The functions of `theorems` prove it.
use Rattle.std.specs.Prelude.{ℕ, ◌^◌, ◌<◌, ◌↔◌, List, Contains}
use Rattle.am_bv.specs.Words.{IsWidth}
use Rattle.am_domain.specs.Abstraction.{Abstraction}
use Rattle.am_domain.specs.Meaning.{IsAbstract}
use Rattle.am_pair.specs.Pairs.{common}

-- a word is common to two values exactly where it is a member of both
abbrev pub CommonAreMembersOfBoth : Abstraction → Abstraction → Type 0
CommonAreMembersOfBoth a b =
    (w : ℕ) → IsWidth w → (x y : List ℕ) → IsAbstract a.meaning w x → IsAbstract b.meaning w y → (c : ℕ) → c < 2 ^ w →
    Contains (common b w x y) c ↔ (a.meaning.Member w x c × b.meaning.Member w y c)
