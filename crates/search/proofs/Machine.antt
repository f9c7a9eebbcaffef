-- What one turn of the search keeps, for any set of good settings, and the number that falls.
use Rattle.std.proofs.Common.{◌≡◌, ℕ, zero, suc, ◌+◌, ◌-◌, ◌<◌, ◌≤◌, Bool, true, false, not, ◌&&◌, ◌⊎◌, List, length, get_or, set, Some, None, sym, refl, ap, ◌∙◌, subst, ap₂, inl, inr, ⊎_elim, arith, get_or-set_other, get_or-set_same}
use Rattle.std.proofs.lemmas.Bool.{and_from, and_parts, cases_eq, cases_Bool}
use Rattle.search.specs.declared.Assignment.{Assignment}
use Rattle.search.specs.declared.Found.TheVariants.{Conflict, Forced, Met, MetBy, Split}
use Rattle.search.specs.Assignments.{agreeing, decided, Clear, clashing, put, filled, undecided}
use Rattle.search.specs.declared.Branches.{Branches}
use Rattle.search.specs.Search.{Narrows, Says, Answer, branches}
use Rattle.search.proofs.Assignments.{with_put, agreeing_put, agreeing_less, clear_put, count_le, undecided_put, length_filled, agreeing_own, clash_none, clashing_some, clashing_none}
use Rattle.laws.proofs.Least.{none_from}

-- ---- the number that falls: the size of the tree that is left

abbrev pub tree : ℕ → ℕ
tree zero = 1
tree (suc n) = 1 + tree n + tree n

tree_some : (n : ℕ) → 0 < tree n
tree_some zero = omega arith
tree_some (suc n) = omega arith

tree_step : (m n : ℕ) → m + 1 ≡ n → tree n ≡ 1 + tree m + tree m
tree_step m n e = ap tree {x = n} {y = suc m} (omega arith)

tree_up : (m k : ℕ) → tree m ≤ tree (k + m)
tree_up m zero = omega (arith, ap tree {x = 0 + m} {y = m} (omega arith))
tree_up m (suc k) = let r = tree_up m k in omega (arith, tree_step (k + m) (suc k + m) (omega arith))

tree_less : (m n : ℕ) → m < n → tree m < tree n
tree_less m n h =
    let r : tree m ≤ tree (n - 1) = subst (λ k. tree m ≤ tree k) {x = (n - 1 - m) + m} {y = n - 1} (omega arith) (tree_up m (n - 1 - m)) in
    omega (arith, tree_step (n - 1) n (omega arith), tree_some (n - 1))

abbrev pub sum_below : ℕ → (ℕ → ℕ) → ℕ
sum_below zero g = 0
sum_below (suc n) g = g n + sum_below n g

sum_same : (n : ℕ) (g h : ℕ → ℕ) → ((k : ℕ) → k < n → g k ≡ h k) → sum_below n g ≡ sum_below n h
sum_same zero g h e = refl
sum_same (suc n) g h e = ap₂ (λ x y. x + y) (e n (omega arith)) (sum_same n g h (λ k lt. e k (omega arith)))

abbrev pub nothing : Assignment
nothing = record { closed = 0; opened = 0 }

abbrev pub weight : ℕ → Assignment → List Assignment → ℕ → ℕ
weight n current pending d = tree (undecided n current) + sum_below d (λ k. tree (undecided n (get_or pending k nothing)))

-- ---- the search between two turns

pub record Below (n : ℕ) (start a : Assignment) : Type 0 where
  pub clear : Clear n a
  pub more : (x : List Bool) → length x ≡ n → agreeing a x ≡ true → agreeing start x ≡ true

below_put : (n : ℕ) (start a : Assignment) (w : ℕ) (c : Bool) → Below n start a → decided a w ≡ false → Below n start (put a w c)
below_put n start a w c u g = record {
  clear = clear_put n a w c u.clear g;
  more = λ x e h. u.more x e (agreeing_less a w c x h);
}

-- What is left to search agrees with the current assignment, or with one of the first d pending ones.
pub record Underway (n : ℕ) (good : List Bool → Bool) (start current : Assignment) (pending : List Assignment) (d : ℕ) : Type 0 where
  pub here : Below n start current
  pub there : (k : ℕ) → k < d → Below n start (get_or pending k nothing)
  pub left : (x : List Bool) → length x ≡ n → good x ≡ true → agreeing start x ≡ true → (agreeing current x ≡ true) ⊎ ((k : ℕ) × (k < d) × (agreeing (get_or pending k nothing) x ≡ true))
  pub room : d + undecided n current ≤ n
  pub rooms : (k : ℕ) → k < d → suc k + undecided n (get_or pending k nothing) ≤ n

refute : (x y : Bool) → (y ≡ true → x ≡ true → ⊥) → (x && y) ≡ false
refute true true h = absurd (h refl refl)
refute true false h = refl
refute false y h = refl

-- a forced value narrows, and narrowing twice does
pub forced_narrows : (n : ℕ) (good : List Bool → Bool) (a : Assignment) (k : ℕ) (b : Bool) → Says n good a (Forced k b) → Narrows n good a (put a k b)
forced_narrows n good a k b s = record {
  clear = λ c. clear_put n a k b c s.1;
  more = λ x e g. agreeing_less a k b x g;
  keeps = λ x e g fit. agreeing_put a k b x fit (s.2 x e g fit);
  fewer = omega (arith, undecided_put n a k b s.0 s.1);
}

pub narrows_twice : (n : ℕ) (good : List Bool → Bool) (a b c : Assignment) → Narrows n good a b → Narrows n good b c → Narrows n good a c
narrows_twice n good a b c p q = record {
  clear = λ h. q.clear (p.clear h);
  more = λ x e h. p.more x e (q.more x e h);
  keeps = λ x e g h. q.keeps x e g (p.keeps x e g h);
  fewer = omega (arith, p.fewer, q.fewer);
}

module _ (n : ℕ) (good : List Bool → Bool) (start : Assignment) where
  pub clash_answer : n ≤ 64 → clashing n start ≡ true → Answer n good start None
  clash_answer few h =
      let s = clashing_some n start few h in
      none_from n (λ x. good x && agreeing start x) (λ x e. refute _ _ (λ fit ok. clash_none start x s.0 (omega (arith, s.1)) s.2 fit))

  pub starts : (pending : List Assignment) → n ≤ 64 → clashing n start ≡ false → Underway n good start start pending 0
  starts pending few h = record {
    here = record { clear = clashing_none n start few h; more = λ x e h. h };
    there = λ k lt. absurd (omega arith);
    left = λ x e g h. inl h;
    room = omega (arith, count_le n (λ k. not (decided start k)));
    rooms = λ k lt. absurd (omega arith);
  }

  module _ (current : Assignment) (pending : List Assignment) (d : ℕ) (h : Underway n good start current pending d) where
    pub met : Says n good current Met → Answer n good start (Some current)
    met s = and_from _ _ (s h.here.clear) (h.here.more (filled n current) (length_filled n current) (agreeing_own n current h.here.clear))

    pub met_by : (b : Assignment) → Says n good current (MetBy b) → Answer n good start (Some b)
    met_by b s = let p = and_parts (good (filled n b)) _ (s h.here.clear) in and_from _ _ p.0 (h.here.more (filled n b) (length_filled n b) p.1)

    pub narrows : (b : Assignment) → Narrows n good current b → Underway n good start b pending d
    narrows b p = record {
      here = record { clear = p.clear h.here.clear; more = λ x e g. h.here.more x e (p.more x e g) };
      there = h.there;
      left = λ x e g fit. ⊎_elim (λ now. inl (p.keeps x e g now)) inr (h.left x e g fit);
      room = omega (arith, h.room, p.fewer);
      rooms = h.rooms;
    }

    pub narrows_less : (b : Assignment) → Narrows n good current b → weight n b pending d < weight n current pending d
    narrows_less b p = omega (arith, tree_less (undecided n b) (undecided n current) p.fewer)

    module _ (v : ℕ) (s : Says n good current (Split v)) where
      pub has_room : n ≤ 64 → d < 64
      has_room few = omega (arith, undecided_put n current v false s.0 s.1, h.room)

      module _ (room : d < length pending) where
        same : (k : ℕ) → k < d → get_or (set pending d (put current v true)) k nothing ≡ get_or pending k nothing
        same k l = get_or-set_other pending d k (put current v true) nothing (omega arith)

        last : get_or (set pending d (put current v true)) d nothing ≡ put current v true
        last = get_or-set_same pending d (put current v true) nothing room

        each : (P : ℕ → Assignment → Type 0) → ((k : ℕ) → k < d → P k (get_or pending k nothing)) → P d (put current v true) → (k : ℕ) → k < suc d → P k (get_or (set pending d (put current v true)) k nothing)
        each P old new k l =
            ⊎_elim
            (λ e. subst (λ j. P j (get_or (set pending d (put current v true)) j nothing)) (sym e) (subst (P d) (sym last) new))
            (λ ne. let lo : k < d = omega (arith, ne) in subst (P k) (sym (same k lo)) (old k lo))
            (cases_eq k d)

        tries : Underway n good start (put current v false) (set pending d (put current v true)) (suc d)
        tries =
            let fewer = undecided_put n current v false s.0 s.1 in
            let fewer' = undecided_put n current v true s.0 s.1 in
            record {
              here = below_put n start current v false h.here s.1;
              there = each (λ k p. Below n start p) h.there (below_put n start current v true h.here s.1);
              left = λ x e ok fit.
                  ⊎_elim
                  (λ now.
                  ⊎_elim
                  (λ on. inr (d, omega arith, subst (λ p. agreeing p x ≡ true) (sym last) (agreeing_put current v true x now on)))
                  (λ off. inl (agreeing_put current v false x now off))
                  (cases_Bool (get_or x v false)))
                  (λ old. inr (old.0, omega (arith, old.1), subst (λ p. agreeing p x ≡ true) (sym (same old.0 old.1)) old.2))
                  (h.left x e ok fit);
              room = omega (arith, h.room);
              rooms = each (λ k p. suc k + undecided n p ≤ n) h.rooms (omega (arith, h.room));
            }

        tries_less : weight n (put current v false) (set pending d (put current v true)) (suc d) < weight n current pending d
        tries_less =
            let a = tree_step (undecided n (put current v false)) (undecided n current) (undecided_put n current v false s.0 s.1) in
            let b = tree_step (undecided n (put current v true)) (undecided n current) (undecided_put n current v true s.0 s.1) in
            let t = sum_same d (λ k. tree (undecided n (get_or (set pending d (put current v true)) k nothing))) (λ k. tree (undecided n (get_or pending k nothing))) (λ k l. ap (λ p. tree (undecided n p)) (same k l)) in
            let u = ap (λ p. tree (undecided n p)) last in
            omega arith

        module _ (few : n ≤ 64) (b : Branches) (k : ℕ) (eb : b ≡ branches current v) (ek : k ≡ d) where
          tried : b ≡ record { first = put current v false; pending = put current v true }
          tried =
              let lt : v < 64 = omega (arith, s.0) in
              eb ∙ ap₂ (λ x y. record { first = x; pending = y }) (with_put current v false lt) (with_put current v true lt)

          pub splits : Underway n good start b.first (set pending k b.pending) (suc k)
          splits =
              subst (λ b. Underway n good start b.first (set pending k b.pending) (suc k)) (sym tried)
              (subst (λ k. Underway n good start (put current v false) (set pending k (put current v true)) (suc k)) (sym ek) tries)

          pub splits_less : weight n b.first (set pending k b.pending) (suc k) < weight n current pending d
          splits_less =
              subst (λ b. weight n b.first (set pending k b.pending) (suc k) < weight n current pending d) (sym tried)
              (subst (λ k. weight n (put current v false) (set pending k (put current v true)) (suc k) < weight n current pending d) (sym ek) tries_less)

  pub goes_back : (current : Assignment) (pending : List Assignment) (d : ℕ) → Underway n good start current pending (suc d) → Says n good current Conflict → Underway n good start (get_or pending d nothing) pending d
  goes_back current pending d h s = record {
    here = h.there d (omega arith);
    there = λ k lt. h.there k (omega arith);
    left = λ x e g fit.
        ⊎_elim
        (λ now. absurd (s x e g now))
        (λ old. ⊎_elim (λ same. inl (subst (λ k. agreeing (get_or pending k nothing) x ≡ true) same old.2)) (λ ne. inr (old.0, omega (arith, old.1, ne), old.2)) (cases_eq old.0 d))
        (h.left x e g fit);
    room = omega (arith, h.rooms d (omega arith));
    rooms = λ k lt. h.rooms k (omega arith);
  }

  pub goes_back_less : (current : Assignment) (pending : List Assignment) (d : ℕ) → weight n (get_or pending d nothing) pending d < weight n current pending (suc d)
  goes_back_less current pending d = omega (arith, tree_some (undecided n current))

  pub no_more : (current : Assignment) (pending : List Assignment) → Underway n good start current pending 0 → Says n good current Conflict → Answer n good start None
  no_more current pending h s =
      none_from n (λ x. good x && agreeing start x)
      (λ x e. refute _ _ (λ fit ok. ⊎_elim (λ now. s x e ok now) (λ old. absurd (omega (arith, old.1))) (h.left x e ok fit)))
