-- What one turn of the making keeps.
use Rattle.std.proofs.Common.{◌≡◌, suc, ◌+◌, ◌-◌, ◌<◌, ◌≤◌, min, Bool, true, false, cond, ◌&&◌, ltb, List, [], ◌∷◌, ◌++◌, map, length, ℤ, Some, None, Ok, Err, Option, Result, unwrap_or, sym, refl, ap, ◌∙◌, subst, arith}
use Rattle.std.specs.Option.{option_map}
use Rattle.std.proofs.lemmas.List.{map-append, length-append}
use Rattle.std.proofs.lemmas.List.Sums.{fold_push}
use Rattle.std.proofs.lemmas.Bool.{both_ways, ltb-true, ltb-false}
use Rattle.faults.specs.declared.SheetFault.{SheetFault}
use Rattle.faults.specs.declared.SheetFault.TheVariants.{BothAllow, TooManyTerms}
use Rattle.settings.specs.declared.Term.{Term}
use Rattle.settings.specs.Settings.{fits, number, literals}
use Rattle.settings.specs.TermRecords.{sums, wanted, record_of}
use Rattle.laws.specs.Choices.{chosen, why}
use Rattle.laws.specs.Laws.{Reasoned}
use Rattle.laws.specs.Terms.{Outcome, made, shared, full, next_term, pick, gather, uncovered}
use Rattle.laws.proofs.Least.{least_is, less_fails}
use Rattle.laws.proofs.Literals.{literals_own, literals_only, fits_chosen, length_literals}
use Rattle.laws.proofs.Named.{named_literals}
use Rattle.laws.proofs.Records.{records_law}
use Rattle.laws.proofs.Terms.{gather_done, gather_shared, gather_full, gather_more}
use Rattle.laws.proofs.Why.{why_reasoned}
use Rattle.solver.specs.Meaning.{Meaning, stands, without_bars}
use Rattle.queries.specs.Queries.{answered, why_literals}
use Rattle.queries.proofs.Answers.{fault_none}
use Rattle.picking.specs.Picking.{picked}
use Rattle.picking.proofs.Nearest.{not_before, before_less, picked_earliest}
use Rattle.striking.specs.Striking.{with_term, with_terms}
use Rattle.striking.proofs.Bars.{no_bars, left_uncovered, barred_contacts, barred_pick, only_bars}
use Rattle.terms.specs.Answers.{recorded}
use Rattle.terms.specs.Steps.{chosen_term, term_for, Turn, placed_or_refused, turn_with, turn, made_for, last_with, last_after, gathered}
use Rattle.terms.proofs.Covered.{uncovered_less}
use Rattle.terms.proofs.Records.{record_sums, record_number}

module _ (m b : Meaning) where
  abbrev lists : List Term → List (List ℤ)
  lists ts = map (wanted m.contacts) ts

  -- what comes of these terms
  abbrev onward : List Term → Outcome
  onward ts = gather m.contacts (stands (without_bars m)) (stands b) (64 - length ts) (lists ts)

  -- the terms so far, each the record of what it wants, are on the way to the answer, MAKE is barred with each,
  -- and no setting that they leave uncovered is before the one that the last was made for
  pub record Making (v : Meaning) (ts : List Term) (last : List ℤ) : Type 0 where
    pub on_the_way : gather m.contacts (stands (without_bars m)) (stands b) 64 [] ≡ onward ts
    pub back : map (sums m.contacts) (lists ts) ≡ ts
    pub barred : v ≡ with_terms (without_bars m) ts
    pub made_for_last : List Bool
    pub last_is : last ≡ literals 0 made_for_last
    pub last_fits : length made_for_last ≤ m.contacts
    pub none_before : (y : List Bool) → length y ≡ m.contacts → uncovered (stands (without_bars m)) (lists ts) y ≡ true → not_before made_for_last y ≡ true

  pub making_none : m.bars ≡ [] → Making m [] []
  making_none none = record { on_the_way = refl; back = refl; barred = sym (no_bars m none); made_for_last = []; last_is = refl; last_fits = omega arith; none_before = λ y l h. refl }

  -- how a turn ends
  abbrev pub Turned : List Term → Result Bool SheetFault → List Term → Meaning → List ℤ → Type 0
  Turned ts (Ok true) more v last = Making v more last × (length ts < length more)
  Turned ts (Ok false) more v last = Ok more ≡ gathered (without_bars m) b
  Turned ts (Err f) more v last = Err f ≡ gathered (without_bars m) b

  abbrev EndsFrom : List Term → Turn → List ℤ → Type 0
  EndsFrom ts t last = Turned ts t.answer t.terms t.make last

  module _ (few : m.contacts ≤ 32) (same : m.contacts ≡ b.contacts) (v : Meaning) (ts : List Term) (last : List ℤ) (at_most : length ts ≤ 64) (at : Making v ts last) where
    abbrev Ends : Turn → List ℤ → Type 0
    Ends = EndsFrom ts

    found : picked v last ≡ option_map (literals 0) (pick m.contacts (stands (without_bars m)) (lists ts))
    found =
        let u : Meaning = with_terms (without_bars m) ts in
        let size : u.contacts ≡ m.contacts = barred_contacts m ts few at_most in
        ap (λ w. picked w last) at.barred
        ∙ picked_earliest u last at.made_for_last at.last_is (omega (arith, at.last_fits))
        (λ y l h. at.none_before y (l ∙ size) (sym (left_uncovered m ts few at_most y (l ∙ size)) ∙ ap (λ c. c && true) h))
        ∙ ap (option_map (literals 0)) (barred_pick m ts few at_most)

    came : (o : Outcome) → onward ts ≡ o → recorded m.contacts o ≡ gathered (without_bars m) b
    came o e = ap (recorded m.contacts) (sym e ∙ sym at.on_the_way)

    -- the literals of a setting that was picked
    module _ (x : List Bool) (first : pick m.contacts (stands (without_bars m)) (lists ts) ≡ Some x) where
      sized : length x ≡ m.contacts
      sized = (least_is m.contacts (uncovered (stands (without_bars m)) (lists ts)) x first).sized

      sized_too : length x ≡ b.contacts
      sized_too = sized ∙ same

      own : min b.contacts 32 ≡ m.contacts
      own = omega (arith, same)

      abbrev ls : List ℤ
      ls = literals 0 x

      told : (o : Option (List Bool)) → why b.contacts (stands b) ls ≡ o → term_for b ls ≡ chosen_term b ls (Ok (option_map (λ c. chosen c ls) o))
      told o e =
          ap (λ f. chosen_term b ls (answered f (why_literals b ls))) (fault_none b ls (named_literals b.contacts 0 x (omega (arith, sized_too))))
          ∙ ap (λ w. chosen_term b ls (Ok (option_map (λ c. chosen c ls) w))) e

      -- no uncovered setting is before the one that was picked
      not_earlier : (y : List Bool) → length y ≡ m.contacts → uncovered (stands (without_bars m)) (lists ts) y ≡ true → not_before x y ≡ true
      not_earlier y l h = go (not_before x y) refl where
        go : (q : Bool) → not_before x y ≡ q → not_before x y ≡ true
        go true e = e
        go false e =
            absurd (both_ways (uncovered (stands (without_bars m)) (lists ts) y) (less_fails m.contacts (uncovered (stands (without_bars m)) (lists ts)) x first y l (before_less x y (sized ∙ sym l) e)) h)

      -- BREAK allows the setting
      refused : stands b x ≡ true → term_for b ls ≡ Err (BothAllow (number x)) → Ends (turn_with v b ts (Some ls)) (last_with b last (Some ls))
      refused on e =
          subst (λ r. Ends (placed_or_refused v ts r) (made_for ls last r)) (sym e) (came (shared x) (gather_shared m.contacts (stands (without_bars m)) (stands b) (lists ts) (64 - length ts) x first on))

      -- a term more, or no room
      module _ (t : List ℤ) (off : stands b x ≡ false) (is : t ≡ next_term m.contacts (stands b) x) (wants : wanted m.contacts (sums m.contacts t) ≡ t) where
        abbrev own_record : Term
        own_record = sums m.contacts t

        abbrev more : List Term
        more = ts ++ own_record ∷ []

        more_lists : lists more ≡ lists ts ++ t ∷ []
        more_lists = map-append (wanted m.contacts) ts (own_record ∷ []) ∙ ap (λ w. lists ts ++ w ∷ []) wants

        one_more : length ts < 64 → onward ts ≡ onward more
        one_more lt =
            let long : length more ≡ length ts + 1 = length-append ts (own_record ∷ []) in
            let room : 64 - length ts ≡ suc (64 - length more) = omega arith in
            ap (λ k. gather m.contacts (stands (without_bars m)) (stands b) k (lists ts)) room
            ∙ gather_more m.contacts (stands (without_bars m)) (stands b) (lists ts) (64 - length more) x first off
            ∙ ap (λ u. gather m.contacts (stands (without_bars m)) (stands b) (64 - length more) (lists ts ++ u ∷ [])) (sym is)
            ∙ ap (gather m.contacts (stands (without_bars m)) (stands b) (64 - length more)) (sym more_lists)

        placed_ends : (l : Bool) → ltb (length ts) 64 ≡ l → Ends (cond l (record { answer = Ok true; terms = more; make = with_term v own_record }) (record { answer = Err TooManyTerms; terms = ts; make = v })) ls
        placed_ends true h =
            let lt : length ts < 64 = ltb-true (length ts) 64 h in (
              record {
                on_the_way = at.on_the_way ∙ one_more lt;
                back = ap (map (sums m.contacts)) more_lists ∙ map-append (sums m.contacts) (lists ts) (t ∷ []) ∙ ap (λ u. u ++ own_record ∷ []) at.back;
                barred = ap (λ u. with_term u own_record) at.barred ∙ sym (fold_push with_term (without_bars m) ts own_record);
                made_for_last = x;
                last_is = refl;
                last_fits = omega (arith, sized);
                none_before = λ y l h. not_earlier y l (uncovered_less (stands (without_bars m)) (lists ts) t y (subst (λ us. uncovered (stands (without_bars m)) us y ≡ true) more_lists h));
              },
              omega (arith, length-append ts (own_record ∷ [])),
            )
        placed_ends false h =
            let none : 64 - length ts ≡ 0 = omega (arith, ltb-false (length ts) 64 h) in
            came full (ap (λ k. gather m.contacts (stands (without_bars m)) (stands b) k (lists ts)) none ∙ gather_full m.contacts (stands (without_bars m)) (stands b) (lists ts) x first off)

        term_more : term_for b ls ≡ Ok own_record → Ends (turn_with v b ts (Some ls)) (last_with b last (Some ls))
        term_more e = subst (λ r. Ends (placed_or_refused v ts r) (made_for ls last r)) (sym e) (placed_ends (ltb (length ts) 64) refl)

      -- by whether there is a reason: there is none exactly where BREAK allows the setting
      by_reason : (o : Option (List Bool)) → why b.contacts (stands b) ls ≡ o → Reasoned b.contacts (stands b) ls o → Ends (turn_with v b ts (Some ls)) (last_with b last (Some ls))
      unfolding next_term
      by_reason None e r =
          refused
          (subst (λ y. stands b y ≡ true) (literals_only x r.setting (r.sized ∙ sym sized_too) r.agrees_with_all) r.is_allowed)
          (told None e ∙ ap (λ k. Err (BothAllow (record_of k ls).closed)) own ∙ ap (λ k. Err (BothAllow k)) (record_number m.contacts x sized))
      by_reason (Some c) e r =
          let long : length c ≡ length x = r.sized ∙ length_literals 0 x in
          term_more (chosen c ls) (off (stands b x) refl) is (subst (λ k. wanted k (sums k (chosen c ls)) ≡ chosen c ls) sized (records_law c x long).wants_same)
          (told (Some c) e ∙ ap (λ k. Ok (record_of k (chosen c ls))) own ∙ ap Ok (record_sums m.contacts c x long sized))
        where
          off : (q : Bool) → stands b x ≡ q → stands b x ≡ false
          off false h = h
          off true h = absurd (both_ways (fits (chosen c ls) x) (r.is_enough x sized_too h) (fits_chosen c ls x (literals_own x)))

          is : chosen c ls ≡ next_term m.contacts (stands b) x
          is = ap (λ o. chosen (unwrap_or o []) ls) (sym (ap (λ k. why k (stands b) ls) same ∙ e))

    by_pick : (o : Option (List Bool)) → pick m.contacts (stands (without_bars m)) (lists ts) ≡ o → Ends (turn_with v b ts (option_map (literals 0) o)) (last_with b last (option_map (literals 0) o))
    by_pick None e = ap Ok (sym at.back) ∙ came (made (lists ts)) (gather_done m.contacts (stands (without_bars m)) (stands b) (lists ts) (64 - length ts) e)
    by_pick (Some x) e = by_reason x e (why b.contacts (stands b) (literals 0 x)) refl (why_reasoned b.contacts (stands b) (literals 0 x))

    turn_ends : Ends (turn v b last ts) (last_after v b last)
    turn_ends = subst (λ o. Ends (turn_with v b ts o) (last_with b last o)) (sym found) (by_pick (pick m.contacts (stands (without_bars m)) (lists ts)) refl)

    -- a turn changes nothing of MAKE but its bars
    turn_apart : without_bars (turn v b last ts).make ≡ without_bars m
    turn_apart = with_pick (picked v last) ∙ ap without_bars at.barred ∙ only_bars (without_bars m) ts where
      with_room : (l : Bool) (t : Term) → without_bars (cond {A = Turn} l (record { answer = Ok true; terms = ts ++ t ∷ []; make = with_term v t }) (record { answer = Err TooManyTerms; terms = ts; make = v })).make ≡ without_bars v
      with_room true t = refl
      with_room false t = refl

      with_term_for : (r : Result Term SheetFault) → without_bars (placed_or_refused v ts r).make ≡ without_bars v
      with_term_for (Ok t) = with_room (ltb (length ts) 64) t
      with_term_for (Err f) = refl

      with_pick : (o : Option (List ℤ)) → without_bars (turn_with v b ts o).make ≡ without_bars v
      with_pick None = refl
      with_pick (Some lits) = with_term_for (term_for b lits)

    -- the same of what a turn came to
    pub turned : (b' v' : Meaning) (r : Result Bool SheetFault) (more : List Term) (last' : List ℤ) → b' ≡ b → r ≡ (turn v b' last ts).answer → more ≡ (turn v b' last ts).terms → v' ≡ (turn v b' last ts).make → last' ≡ last_after v b' last → Turned ts r more v' last'
    turned b' v' r more last' eb er et ev el =
        let t : Turn = turn v b last ts in
        let same : turn v b' last ts ≡ t = ap (λ u. turn v u last ts) eb in
        let l : last' ≡ last_after v b last = el ∙ ap (λ u. last_after v u last) eb in
        subst (λ w. Turned ts r more v' w) (sym l)
        (subst (λ w. Turned ts r more w (last_after v b last)) (sym (ev ∙ ap (λ z. z.make) same))
        (subst (λ w. Turned ts r w t.make (last_after v b last)) (sym (et ∙ ap (λ z. z.terms) same))
        (subst (λ w. Turned ts w t.terms t.make (last_after v b last)) (sym (er ∙ ap (λ z. z.answer) same)) turn_ends)))

    pub turned_apart : (b' v' : Meaning) → b' ≡ b → v' ≡ (turn v b' last ts).make → without_bars v' ≡ without_bars m
    turned_apart b' v' eb ev = ap without_bars (ev ∙ ap (λ u. (turn v u last ts).make) eb) ∙ turn_apart
