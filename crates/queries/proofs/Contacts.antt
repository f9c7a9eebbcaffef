-- What one turn of the loop of LEAST keeps.
use Rattle.std.proofs.Common.{◌≡◌, ℕ, ◌+◌, ◌<◌, ◌≤◌, Bool, true, false, not, ◌&&◌, List, [], ◌∷◌, ◌++◌, length, get_or, take, ℤ, is_some, Some, None, Option, unwrap_or, sym, refl, ap, ◌∙◌, subst, arith}
use Rattle.std.specs.Option.{option_map}
use Rattle.std.proofs.lemmas.List.{append_assoc, append-nil, length-take-le, take_more, take_all}
use Rattle.std.proofs.lemmas.Bool.{both_ways, and_from}
use Rattle.tables.specs.Tables.{items}
use Rattle.settings.specs.declared.Setting.{Setting}
use Rattle.settings.specs.Readings.{reading}
use Rattle.settings.specs.Settings.{agrees, fits, literal, literals}
use Rattle.settings.specs.Least.{least, some}
use Rattle.laws.proofs.Least.{least_is, least_there, some_from, some_alike}
use Rattle.laws.proofs.Literals.{allowed_fits, length_literals, literals_push}
use Rattle.laws.proofs.Named.{Named, named_append, named_cons, named_literals, names_literal}
use Rattle.laws.proofs.Prefix.{next_open}
use Rattle.solver.specs.Meaning.{Meaning, stands, stands_with}
use Rattle.queries.specs.Queries.{possible_with, Shown, Ready, opened_next, wanted_next, least_literals}
use Rattle.queries.specs.declared.Placing.{Placing}
use Rattle.queries.proofs.Answers.{length_reading, fault_none, possible_named}

abbrev pub earliest_of : Meaning → List ℤ → List Bool
earliest_of m held = unwrap_or (least m.contacts (stands_with m held)) []

-- the literals of the first k contacts of the earliest setting, and a setting that stands and agrees with all that is held and placed
pub record Placed (m : Meaning) (held : List ℤ) (k : ℕ) (placed : List ℤ) (last : Setting) : Type 0 where
  pub front : placed ≡ literals 0 (take k (earliest_of m held))
  pub shown : stands_with m (held ++ placed) (reading m.contacts last) ≡ true

-- a setting that agrees with one more literal
one_more : (m : Meaning) (a : List ℤ) (l : ℤ) (x : List Bool) → stands_with m (a ++ l ∷ []) x ≡ (stands_with m a x && (agrees x l && true))
one_more m a l x = allowed_fits (stands m x) a (l ∷ []) x

with_one : (m : Meaning) (a : List ℤ) (l : ℤ) (x : List Bool) → stands_with m a x ≡ true → agrees x l ≡ true → stands_with m (a ++ l ∷ []) x ≡ true
with_one m a l x h own = one_more m a l x ∙ and_from (stands_with m a x) (agrees x l && true) h (ap (λ b. b && true) own)

module _ (m : Meaning) (held : List ℤ) (named : Named m.contacts held) (one : some m.contacts (stands_with m held) ≡ true) where
  is_least : least m.contacts (stands_with m held) ≡ Some (earliest_of m held)
  is_least = least_there m.contacts (stands_with m held) one

  sized : length (earliest_of m held) ≡ m.contacts
  sized = (least_is m.contacts (stands_with m held) (earliest_of m held) is_least).sized

  front_length : (k : ℕ) → k ≤ m.contacts → length (take k (earliest_of m held)) ≡ k
  front_length k le = length-take-le k (earliest_of m held) (omega (arith, sized))

  pub placed_length : (k : ℕ) (placed : List ℤ) (last : Setting) → k ≤ m.contacts → Placed m held k placed last → length placed ≡ k
  placed_length k placed last le at = ap length at.front ∙ length_literals 0 (take k (earliest_of m held)) ∙ front_length k le

  pub placed_none : (first : Setting) → stands_with m held (reading m.contacts first) ≡ true → Placed m held 0 [] first
  placed_none first h =
      record { front = refl; shown = subst (λ ls. stands_with m ls (reading m.contacts first) ≡ true) (sym (append-nil held)) h }

  module _ (k : ℕ) (placed : List ℤ) (last : Setting) (lt : k < m.contacts) (at : Placed m held k placed last) where
    asked_named : Named m.contacts (opened_next held placed k)
    unfolding opened_next
    asked_named =
        let front = subst (Named m.contacts) (sym at.front) (named_literals m.contacts 0 (take k (earliest_of m held)) (omega (arith, front_length k (omega arith)))) in
        named_append m.contacts (held ++ placed) (literal k false ∷ []) (named_append m.contacts held placed named front) (named_cons m.contacts (literal k false) [] (names_literal m.contacts k false lt) refl)

    serves : agrees (reading m.contacts last) (literal k false) ≡ true → stands_with m (opened_next held placed k) (reading m.contacts last) ≡ true
    unfolding opened_next
    serves h = with_one m (held ++ placed) (literal k false) (reading m.contacts last) at.shown h

    pub placed_ready : Ready m (opened_next held placed k) last k
    placed_ready = record { named = fault_none m (opened_next held placed k) asked_named; serves = serves }

    -- contact k + 1 can be open exactly where the earliest setting has it open
    tells : possible_with m (opened_next held placed k) ≡ not (get_or (earliest_of m held) k false)
    unfolding opened_next
    tells =
        let s = earliest_of m held in
        let front : placed ++ literal k false ∷ [] ≡ literals 0 (take k s ++ false ∷ []) = ap (λ t. t ++ literal k false ∷ []) at.front ∙ ap (λ j. literals 0 (take k s) ++ literal j false ∷ []) (omega (arith, front_length k (omega arith))) ∙ sym (literals_push 0 (take k s) false) in
        let asked : (held ++ placed) ++ literal k false ∷ [] ≡ held ++ literals 0 (take k s ++ false ∷ []) = append_assoc held placed (literal k false ∷ []) ∙ ap (λ t. held ++ t) front in
        possible_named m ((held ++ placed) ++ literal k false ∷ []) asked_named
        ∙ ap (λ ls. some m.contacts (stands_with m ls)) asked
        ∙ some_alike m.contacts (stands_with m (held ++ literals 0 (take k s ++ false ∷ []))) (λ x. stands_with m held x && fits (literals 0 (take k s ++ false ∷ [])) x) (λ x l. allowed_fits (stands m x) held (literals 0 (take k s ++ false ∷ [])) x)
        ∙ next_open m.contacts (stands_with m held) s is_least k lt

    -- where contact k + 1 cannot be open, the setting found last has it closed
    closed_last : possible_with m (opened_next held placed k) ≡ false → agrees (reading m.contacts last) (literal k true) ≡ true
    closed_last none = go (get_or (reading m.contacts last) k false) refl where
      go : (b : Bool) → get_or (reading m.contacts last) k false ≡ b → get_or (reading m.contacts last) k false ≡ true
      go true h = h
      go false h =
          let found = some_from m.contacts (stands_with m (opened_next held placed k)) (reading m.contacts last) (length_reading m.contacts last) (serves (ap not h)) in
          absurd (both_ways (possible_with m (opened_next held placed k)) none (possible_named m (opened_next held placed k) asked_named ∙ found))

    shown_next : (r : Option Setting) → is_some r ≡ possible_with m (opened_next held placed k) → Shown m (opened_next held placed k) r → stands_with m (held ++ (placed ++ literal k (not (is_some r)) ∷ [])) (reading m.contacts (unwrap_or r last)) ≡ true
    unfolding opened_next
    shown_next (Some s) e h = subst (λ ls. stands_with m ls (reading m.contacts s) ≡ true) (append_assoc held placed (literal k false ∷ [])) h
    shown_next None e h =
        subst (λ ls. stands_with m ls (reading m.contacts last) ≡ true) (append_assoc held placed (literal k true ∷ []))
        (with_one m (held ++ placed) (literal k true) (reading m.contacts last) at.shown (closed_last (sym e)))

    pub placed_next : (r : Option Setting) (next : List ℤ) → is_some r ≡ possible_with m (opened_next held placed k) → Shown m (opened_next held placed k) r → next ≡ placed ++ literal k (not (is_some r)) ∷ [] → Placed m held (k + 1) next (unwrap_or r last)
    placed_next r next e h is =
        let s = earliest_of m held in
        let told : not (is_some r) ≡ get_or s k false = ap not (e ∙ tells) ∙ not_not (get_or s k false) in
        let more : literals 0 (take (k + 1) s) ≡ literals 0 (take k s) ++ literal k (get_or s k false) ∷ [] = ap (literals 0) (take_more s k false (omega (arith, sized))) ∙ literals_push 0 (take k s) (get_or s k false) ∙ ap (λ j. literals 0 (take k s) ++ literal j (get_or s k false) ∷ []) (omega (arith, front_length k (omega arith))) in
        record {
          front = is ∙ ap (λ b. placed ++ literal k b ∷ []) told ∙ ap (λ t. t ++ literal k (get_or s k false) ∷ []) at.front ∙ sym more;
          shown = subst (λ t. stands_with m (held ++ t) (reading m.contacts (unwrap_or r last)) ≡ true) (sym is) (shown_next r e h);
        }
      where
        not_not : (b : Bool) → not (not b) ≡ b
        not_not true = refl
        not_not false = refl

  -- the same of the state of the search
  module _ (k : ℕ) (p : Placing) (lt : k < m.contacts) (kept : items p.held.now ≡ held) (at : Placed m held k (items p.placed) p.last) where
    pub as_many : length (items p.placed) ≡ k
    as_many = placed_length k (items p.placed) p.last (omega arith) at

    fewer : length (items p.placed) < m.contacts
    fewer = omega (arith, as_many)

    here : Placed m held (length (items p.placed)) (items p.placed) p.last
    here = subst (λ j. Placed m held j (items p.placed) p.last) (sym as_many) at

    wanted : opened_next held (items p.placed) (length (items p.placed)) ≡ wanted_next p
    wanted = ap (λ h. opened_next h (items p.placed) (length (items p.placed))) (sym kept)

    pub placing_ready : Ready m (wanted_next p) p.last (length (items p.placed))
    placing_ready = subst (λ ls. Ready m ls p.last (length (items p.placed))) wanted (placed_ready (length (items p.placed)) (items p.placed) p.last fewer here)

    pub placing_next : (r : Option Setting) (q : Placing) → is_some r ≡ possible_with m (wanted_next p) → Shown m (wanted_next p) r → items q.placed ≡ items p.placed ++ literal (length (items p.placed)) (not (is_some r)) ∷ [] → q.last ≡ unwrap_or r p.last → Placed m held (k + 1) (items q.placed) q.last
    placing_next r q found shown next last =
        let step = placed_next (length (items p.placed)) (items p.placed) p.last fewer here r (items q.placed) (found ∙ ap (possible_with m) (sym wanted)) (subst (λ ls. Shown m ls r) (sym wanted) shown) next in
        subst (λ j. Placed m held (j + 1) (items q.placed) q.last) as_many (subst (Placed m held (length (items p.placed) + 1) (items q.placed)) (sym last) step)

  pub placed_all : (k : ℕ) (placed : List ℤ) (last : Setting) → m.contacts ≤ k → Placed m held k placed last → Some placed ≡ least_literals m held
  placed_all k placed last le at =
      ap Some (at.front ∙ ap (literals 0) (take_all k (earliest_of m held) (omega (arith, sized)))) ∙ sym (ap (option_map (literals 0)) is_least)
