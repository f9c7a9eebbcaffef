-- What a witness cache promises of ASK beside the answer.
use Rattle.std.specs.Prelude.{◌≡◌, ℕ, List, ℤ, Some, None, Ok, Err, Option, Result}
use Rattle.faults.specs.declared.SolverFault.{SolverFault}
use Rattle.tables.specs.Tables.{items}
use Rattle.settings.specs.declared.Setting.{Setting}
use Rattle.solver.specs.declared.Solver.{Ghosts}
use Rattle.settings.specs.Settings.{fits}
use Rattle.settings.specs.Readings.{first_passing}
use Rattle.witnesses.specs.Witnesses.{noted}
use Rattle.witnesses.specs.declared.cache.WitnessCache.{WitnessCache}

-- the oldest setting held that agrees with all the literals
abbrev pub recalled : ℕ → List ℤ → List Setting → Option Setting
recalled n ls held = first_passing n (fits ls) held

-- such a setting is the answer, and nothing is touched, the solver below neither; without one, a yes from below is noted
abbrev pub ByRecall : {S : Type 0} {v : Ghosts S} → WitnessCache S v → Option Setting → WitnessCache S v → Option Setting → Type 0
ByRecall before answer after (Some s) = (answer ≡ Some s) × (after ≡ before)
ByRecall before answer after None = items after.seen ≡ noted (items before.seen) answer

abbrev pub Recalls : {S : Type 0} {v : Ghosts S} → ℕ → List ℤ → WitnessCache S v → Result (Option Setting) SolverFault → WitnessCache S v → Type 0
Recalls n ls before (Ok answer) after = ByRecall before answer after (recalled n ls (items before.seen))
Recalls n ls before (Err f) after = after ≡ before
