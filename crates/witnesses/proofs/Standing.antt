-- Settings that stand, remembered and recalled.
use Rattle.std.proofs.Common.{◌≡◌, Bool, true, false, cond, not, ◌&&◌, ltb, List, [], ◌∷◌, ◌++◌, length, ℤ, Some, None, Option, refl, ap, ◌∙◌, subst, arith}
use Rattle.std.proofs.lemmas.Bool.{and_parts, and_from, cond-true, lt-ltb, false≢true}
use Rattle.tables.specs.Tables.{without}
use Rattle.settings.specs.declared.Setting.{Setting}
use Rattle.settings.specs.Settings.{fits, all_met, any_covers}
use Rattle.settings.specs.Readings.{reading}
use Rattle.solver.specs.Meaning.{Meaning, stands, Answers, without_bars}
use Rattle.witnesses.specs.Witnesses.{all_stand, noted}
use Rattle.witnesses.specs.Recalls.{recalled}

module _ (m : Meaning) where
  pub recalled_answers : (ls : List ℤ) (held : List Setting) (s : Setting) → all_stand m held ≡ true → recalled m.contacts ls held ≡ Some s → Answers m ls (Some s)
  recalled_answers ls [] s h e = absurd (let z : ◌≡◌ {A = Bool} false true = cc in false≢true z)
  recalled_answers ls (t ∷ held) s h e =
      let a = and_parts (stands m (reading m.contacts t)) (all_stand m held) h in
      ways (fits ls (reading m.contacts t)) refl e a.0 (recalled_answers ls held s a.1)
    where
      ways : (b : Bool) → fits ls (reading m.contacts t) ≡ b → cond b (Some t) (recalled m.contacts ls held) ≡ Some s → stands m (reading m.contacts t) ≡ true → (recalled m.contacts ls held ≡ Some s → Answers m ls (Some s)) → Answers m ls (Some s)
      ways true f e st r = let same : t ≡ s = cc in subst (λ z. Answers m ls (Some z)) same (and_from (stands m (reading m.contacts t)) (fits ls (reading m.contacts t)) st f)
      ways false f e st r = r e

  all_append : (held more : List Setting) → all_stand m held ≡ true → all_stand m more ≡ true → all_stand m (held ++ more) ≡ true
  all_append [] more h k = k
  all_append (s ∷ held) more h k =
      let a = and_parts (stands m (reading m.contacts s)) (all_stand m held) h in
      and_from (stands m (reading m.contacts s)) (all_stand m (held ++ more)) a.0 (all_append held more a.1 k)

  all_but_oldest : (held : List Setting) → all_stand m held ≡ true → all_stand m (without held 0) ≡ true
  all_but_oldest [] h = refl
  all_but_oldest (s ∷ held) h =
      ap (all_stand m) (cond-true (ltb 0 (length (s ∷ held))) held (s ∷ held) (lt-ltb 0 (length (s ∷ held)) (omega arith))) ∙ (and_parts (stands m (reading m.contacts s)) (all_stand m held) h).1

  pub all_noted : (ls : List ℤ) (held : List Setting) (answer : Option Setting) → all_stand m held ≡ true → Answers m ls answer → all_stand m (noted held answer) ≡ true
  all_noted ls held None h told = h
  all_noted ls held (Some s) h told =
      all_append (cond (ltb (length held) 16) held (without held 0)) (s ∷ []) (ways (ltb (length held) 16))
      (and_from (stands m (reading m.contacts s)) true (and_parts (stands m (reading m.contacts s)) (fits ls (reading m.contacts s)) told).0 refl)
    where
      ways : (b : Bool) → all_stand m (cond b held (without held 0)) ≡ true
      ways true = h
      ways false = all_but_oldest held h

  stands_cleared : (x : List Bool) → stands m x ≡ true → stands (without_bars m) x ≡ true
  stands_cleared x h =
      let a = and_parts (m.base x) (all_met m.added x && not (any_covers m.bars x)) h in
      let b = and_parts (all_met m.added x) (not (any_covers m.bars x)) a.1 in
      and_from (m.base x) (all_met m.added x && true) a.0 (and_from (all_met m.added x) true b.0 refl)

  pub all_cleared : (held : List Setting) → all_stand m held ≡ true → all_stand (without_bars m) held ≡ true
  all_cleared [] h = refl
  all_cleared (s ∷ held) h =
      let a = and_parts (stands m (reading m.contacts s)) (all_stand m held) h in
      and_from (stands (without_bars m) (reading m.contacts s)) (all_stand (without_bars m) held) (stands_cleared (reading m.contacts s) a.0) (all_cleared held a.1)
