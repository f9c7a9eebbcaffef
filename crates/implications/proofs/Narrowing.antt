-- What is known of the inputs narrows an assignment, or leaves it as it is.
use Rattle.std.proofs.Common.{◌≡◌, ℕ, zero, suc, ◌+◌, ◌<◌, ◌≤◌, Bool, true, false, cond, ◌⊎◌, List, length, get_or, Some, None, Option, sym, refl, subst, inl, inr, arith}
use Rattle.search.specs.declared.Assignment.{Assignment}
use Rattle.search.specs.Assignments.{agreeing, decided, put, with_value}
use Rattle.search.specs.Search.{Narrows}
use Rattle.search.proofs.Assignments.{with_put}
use Rattle.search.proofs.Machine.{forced_narrows, narrows_twice}
use Rattle.implications.specs.Ternaries.{taken_from, narrowed, Agree}
use Rattle.implications.specs.Implied.{Right}

module _ (n : ℕ) (few : n ≤ 64) (good : List Bool → Bool) (a : Assignment) where
  Reached : Assignment → Type 0
  Reached b = (b ≡ a) ⊎ Narrows n good a b

  back : (b : Assignment) → Reached b → (x : List Bool) → length x ≡ n → agreeing b x ≡ true → agreeing a x ≡ true
  unfolding Reached
  back b (inl e) x long fit = subst (λ b. agreeing b x ≡ true) e fit
  back b (inr p) x long fit = p.more x long fit

  further : (b c : Assignment) → Reached b → Narrows n good b c → Narrows n good a c
  unfolding Reached
  further b c (inl e) q = subst (λ b. Narrows n good b c) e q
  further b c (inr p) q = narrows_twice n good a b c p q

  -- one input more
  value : (b : Assignment) (k : ℕ) (v : Bool) → k < n → ((x : List Bool) → length x ≡ n → good x ≡ true → agreeing b x ≡ true → get_or x k false ≡ v) → Reached b → (d : Bool) → decided b k ≡ d → Reached (cond d b (with_value b k v))
  unfolding Reached
  value b k v lt h r true e = r
  value b k v lt h r false e = inr (subst (Narrows n good a) (sym (with_put b k v (omega arith))) (further b (put b k v) r (forced_narrows n good b k v (lt, e, h))))

  one : (b : Assignment) (k : ℕ) (t : Option Bool) → k < n → ((x : List Bool) → length x ≡ n → good x ≡ true → agreeing b x ≡ true → Agree t (get_or x k false)) → Reached b → Reached (taken_from b k t)
  one b k None lt h r = r
  one b k (Some v) lt h r = value b k v lt h r (decided b k) refl

  all_inputs : (ts : List (Option Bool)) → Right n good a ts → (k : ℕ) → k ≤ n → Reached (narrowed k ts a)
  unfolding Reached
  all_inputs ts right zero le = inl refl
  all_inputs ts right (suc k) le =
      let r : Reached (narrowed k ts a) = all_inputs ts right k (omega arith) in
      one (narrowed k ts a) k (get_or ts (suc k) None) (omega arith)
      (λ x long g fit. subst (λ j. Agree (get_or ts j None) (get_or x k false)) {x = k + 1} {y = suc k} (omega arith) (right x long g (back (narrowed k ts a) r x long fit) k (omega arith))) r

  pub narrowed_reaches : (ts : List (Option Bool)) → Right n good a ts → (narrowed n ts a ≡ a) ⊎ Narrows n good a (narrowed n ts a)
  unfolding Reached
  narrowed_reaches ts right = all_inputs ts right n (omega arith)
