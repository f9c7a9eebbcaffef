-- TERMS by its five steps. A term is a list of literals and covers the settings that agree with all of them.
use Rattle.std.specs.Prelude.{ℕ, zero, suc, Bool, cond, not, ◌&&◌, List, [], ◌∷◌, ◌++◌, ℤ, is_some, Some, None, Option}
use Rattle.std.specs.Option.{unwrap_or}
use Rattle.settings.specs.Settings.{covered, literals}
use Rattle.settings.specs.Least.{least}
use Rattle.laws.specs.Choices.{chosen, why, trim}

-- the terms; or a setting that both sheets allow; or one term more than the 64 that there is room for is wanted
pub data Outcome : Type 0 where
  made : List (List ℤ) → Outcome
  shared : List Bool → Outcome
  full : Outcome

-- step 1: the earliest setting that MAKE allows and no term covers
abbrev pub uncovered : (List Bool → Bool) → List (List ℤ) → List Bool → Bool
uncovered make ts x = make x && not (covered ts x)

abbrev pub pick : ℕ → (List Bool → Bool) → List (List ℤ) → Option (List Bool)
pick n make ts = least n (uncovered make ts)

-- step 3: the term for a setting is WHY's choice of its literals on BREAK
unfoldable pub next_term : ℕ → (List Bool → Bool) → List Bool → List ℤ
next_term n brk x = chosen (unwrap_or (why n brk (literals 0 x)) []) (literals 0 x)

-- no setting was picked; or one was
abbrev pub after_pick : Option (List Bool) → Outcome → (List Bool → Outcome) → Outcome
after_pick None done more = done
after_pick (Some x) done more = more x

-- steps 1 to 3 over and over, with room for so many terms more: a picked setting that BREAK allows is refused before the want of room is
unfoldable pub gather : ℕ → (List Bool → Bool) → (List Bool → Bool) → ℕ → List (List ℤ) → Outcome
gather n make brk zero ts = after_pick (pick n make ts) (made ts) (λ x. cond (brk x) (shared x) full)
gather n make brk (suc room) ts =
    after_pick (pick n make ts) (made ts) (λ x. let more = gather n make brk room (ts ++ next_term n brk x ∷ []) in cond (brk x) (shared x) more)

-- step 4: from the first term to the last, one is struck when the others still standing cover every setting that MAKE allows
abbrev pub covers_all : ℕ → (List Bool → Bool) → List (List ℤ) → Bool
covers_all n make ts = not (is_some (pick n make ts))

abbrev pub struck : (List (List ℤ) → Bool) → Outcome → Outcome
struck whole (made ts) = made (trim whole [] ts)
struck whole (shared x) = shared x
struck whole full = full

-- step 5 answers with the standing terms in the order made
unfoldable pub terms : ℕ → (List Bool → Bool) → (List Bool → Bool) → Outcome
terms n make brk = struck (covers_all n make) (gather n make brk 64 [])
