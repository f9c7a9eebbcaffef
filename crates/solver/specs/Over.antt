-- A solver's meaning, for code over any solver.
use Rattle.solver.specs.declared.Solver.{Ghosts}
use Rattle.solver.specs.Meaning.{Meaning, meaning_from}

module _ {S : Type 0} (v : Ghosts S) where
  abbrev pub meaning_of : S → Meaning
  meaning_of s = meaning_from v.size v.base v.added v.bars s
