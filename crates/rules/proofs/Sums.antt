-- What looks over several lists of rules tell together of the good settings.
use Rattle.std.proofs.Common.{◌≡◌, ℕ, ◌<◌, ◌≤◌, Bool, true, false, not, ◌&&◌, List, [], ◌∷◌, map, length, take, Some, None, Option, sym, refl, ap, ◌∙◌, ap₂, arith, take_all}
use Rattle.std.specs.Option.{option_or}
use Rattle.std.proofs.lemmas.Bool.{and_from, and_parts}
use Rattle.literals.specs.declared.LiteralSet.{LiteralSet}
use Rattle.literals.proofs.Booleans.{not_not, not_or}
use Rattle.settings.specs.Settings.{meets, covers, opposite, all_met, any_covers}
use Rattle.settings.proofs.Sets.{bar_is_rule}
use Rattle.search.specs.declared.Assignment.{Assignment}
use Rattle.search.specs.Assignments.{agreeing, decided}
use Rattle.search.specs.Search.{Says}
use Rattle.rules.specs.declared.Finding.{Finding}
use Rattle.rules.specs.declared.Finding.TheVariants.{Failed, Forced}
use Rattle.rules.specs.Rules.{as_rule, scanned, found_by, scanned_both}
use Rattle.rules.proofs.Forces.{Tells, tells_all}

-- what a look tells of the good settings of n variables
abbrev pub Sums : ℕ → (List Bool → Bool) → Assignment → Option Finding → Type 0
Sums n good a (Some f) = Says n good a (found_by f)
Sums n good a None = ((k : ℕ) → k < n → decided a k ≡ true) → (x : List Bool) → length x ≡ n → agreeing a x ≡ true → good x ≡ true

module _ (n : ℕ) (a : Assignment) where
  pub sums_list : (m : ℕ) (rs : List LiteralSet) (s : Option Finding) → m ≤ n → Tells m rs a s → Sums n (λ x. all_met rs (take m x)) a s
  sums_list m rs (Some Failed) le t = λ x e g fit. t x (omega arith) fit g
  sums_list m rs (Some (Forced k b)) le t = (omega (arith, t.0), t.1, λ x e g fit. t.2 x (omega arith) fit g)
  sums_list m rs None le t = λ all x e fit. t (λ k lt. all k (omega arith)) x (omega arith) fit

  pub sums_and : (p q : List Bool → Bool) (s t : Option Finding) → Sums n p a s → Sums n q a t → Sums n (λ x. p x && q x) a (option_or s t)
  sums_and p q (Some Failed) t h g = λ x e ok fit. h x e (and_parts _ _ ok).0 fit
  sums_and p q (Some (Forced k b)) t h g = (h.0, h.1, λ x e ok fit. h.2 x e (and_parts _ _ ok).0 fit)
  sums_and p q None (Some Failed) h g = λ x e ok fit. g x e (and_parts (p x) _ ok).1 fit
  sums_and p q None (Some (Forced k b)) h g = (g.0, g.1, λ x e ok fit. g.2 x e (and_parts (p x) _ ok).1 fit)
  sums_and p q None None h g = λ all x e fit. and_from _ _ (h all x e fit) (g all x e fit)

  pub sums_same : (p q : List Bool → Bool) (s : Option Finding) → ((x : List Bool) → p x ≡ q x) → Sums n p a s → Sums n q a s
  sums_same p q (Some Failed) same h = λ x e ok fit. h x e (same x ∙ ok) fit
  sums_same p q (Some (Forced k b)) same h = (h.0, h.1, λ x e ok fit. h.2 x e (same x ∙ ok) fit)
  sums_same p q None same h = λ all x e fit. sym (same x) ∙ h all x e fit

  pub sums_whole : (rs : List LiteralSet) (s : Option Finding) → Tells n rs a s → Sums n (all_met rs) a s
  sums_whole rs (Some Failed) t = λ x e g fit. t x (omega arith) fit (ap (all_met rs) (take_all n x (omega arith)) ∙ g)
  sums_whole rs (Some (Forced k b)) t = (t.0, t.1, λ x e g fit. t.2 x (omega arith) fit (ap (all_met rs) (take_all n x (omega arith)) ∙ g))
  sums_whole rs None t = λ all x e fit. ap (all_met rs) (sym (take_all n x (omega arith))) ∙ t all x (omega arith) fit

-- ---- rules as they are, bars as the rules of their opposite literals

pub all_met_rules : (rs : List LiteralSet) (x : List Bool) → all_met (map (as_rule false) rs) x ≡ all_met rs x
all_met_rules [] x = refl
all_met_rules (r ∷ rs) x = ap (λ b. meets r x && b) (all_met_rules rs x)

pub all_met_bars : (bs : List LiteralSet) (x : List Bool) → all_met (map (as_rule true) bs) x ≡ not (any_covers bs x)
all_met_bars [] x = refl
all_met_bars (b ∷ bs) x =
    ap₂ (λ p q. p && q) (sym (not_not (meets (opposite b) x)) ∙ ap not (sym (bar_is_rule b x))) (all_met_bars bs x) ∙ sym (not_or (covers b x) (any_covers bs x))

-- added rules and bars together
pub sums_both : (n : ℕ) (a : Assignment) (m : ℕ) (rules bars : List LiteralSet) → m ≤ n → m ≤ 64 → Sums n (λ x. all_met rules (take m x) && not (any_covers bars (take m x))) a (scanned_both m rules bars a)
sums_both n a m rules bars le few =
    let rs = map (as_rule false) rules in
    let bs = map (as_rule true) bars in
    sums_same n a (λ x. all_met rs (take m x) && all_met bs (take m x)) (λ x. all_met rules (take m x) && not (any_covers bars (take m x))) (scanned_both m rules bars a)
    (λ x. ap₂ (λ p q. p && q) (all_met_rules rules (take m x)) (all_met_bars bars (take m x)))
    (sums_and n a (λ x. all_met rs (take m x)) (λ x. all_met bs (take m x)) (scanned m rs a) (scanned m bs a)
    (sums_list n a m rs (scanned m rs a) le (tells_all m few a rs))
    (sums_list n a m bs (scanned m bs a) le (tells_all m few a bs)))
