-- Terms as bars of a solver, and which terms stand when those that the others make needless are struck.
use Rattle.std.specs.Prelude.{min, Bool, cond, not, ◌&&◌, List, [], ◌∷◌, ◌++◌, map, ℤ, fold}
use Rattle.settings.specs.declared.Term.{Term}
use Rattle.settings.specs.Settings.{fits, covered}
use Rattle.settings.specs.Least.{some}
use Rattle.settings.specs.TermRecords.{wanted}
use Rattle.solver.specs.Meaning.{Meaning, stands, stands_with, with_bar}

-- the literals that a term wants of a solver's contacts, 32 at most
abbrev pub wanted_in : Meaning → Term → List ℤ
wanted_in m t = wanted (min m.contacts 32) t

-- one bar more: what a term wants
abbrev pub with_term : Meaning → Term → Meaning
with_term m t = with_bar m (wanted_in m t)

-- a bar more for each term
abbrev pub with_terms : Meaning → List Term → Meaning
with_terms m ts = fold with_term m ts

-- some setting stands that the term covers
abbrev pub covers_some : Meaning → Term → Bool
covers_some m t = some m.contacts (stands_with m (wanted_in m t))

-- a term is needed beside others where some setting stands that it covers and none of them does
abbrev pub needed : Meaning → Term → List Term → Bool
needed m t others = some m.contacts (λ x. stands m x && (fits (wanted m.contacts t) x && not (covered (map (wanted m.contacts) others) x)))

-- from the first term to the last, one is kept where it is needed beside those kept before it and all those after it, and else struck
unfoldable pub unstruck : Meaning → List Term → List Term → List Term
unstruck m kept [] = kept
unstruck m kept (t ∷ later) =
    let with_it = unstruck m (kept ++ t ∷ []) later in
    let without = unstruck m kept later in
    cond (needed m t (kept ++ later)) with_it without
