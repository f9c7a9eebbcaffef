-- Rules as they were written, and as the sets of their literals.
use Rattle.std.proofs.Common.{◌≡◌, ℕ, ◌-◌, true, List, [], ◌∷◌, ◌++◌, map, length, ℤ, refl, subst, arith, length-append}
use Rattle.std.specs.List.{AllByRecursion as All}
use Rattle.std.proofs.ByRecursion.{All-weaker}
use Rattle.literals.specs.Literals.{names, set_of}
use Rattle.settings.specs.Settings.{all_met}
use Rattle.laws.specs.Texts.{every_met}
use Rattle.laws.proofs.Named.{Named, named_cons, sets_met}
use Rattle.laws.proofs.Least.{some_alike}
use Rattle.dimacs.proofs.Grammars.{reads_just}
use Rattle.clause_texts.specs.Allowed.{TextLaw}

all_named : (n : ℕ) (ls : List ℤ) → All (λ l. names n l ≡ true) ls → Named n ls
all_named n [] h = refl
all_named n (l ∷ ls) h = named_cons n l ls h.0 (all_named n ls h.1)

pub text_law : TextLaw
text_law text c read n le x sized =
    let w = ((reads_just text).sound c read).well_formed in
    some_alike (c.vars - n) (λ y. all_met (map set_of c.rules) (x ++ y)) (λ y. every_met c.rules (x ++ y))
    (λ y long.
    let all : c.vars ≡ length (x ++ y) = omega (arith, length-append x y) in
    let named = All-weaker (All (λ l. names c.vars l ≡ true)) (Named c.vars) (all_named c.vars) c.rules w.named in
    sets_met c.rules (x ++ y) (omega (arith, w.few_variables)) (subst (λ k. All (Named k) c.rules) all named))
